-- `journal::observation::lay_set` meets its contract. Assumes nothing.
use Rattle.journal.specs.SetBody.{LaidIds}
use Rattle.journal.proofs.observation.lay_set.Given as goal

abbrev pub invariant-loop-i : goal.invariant-loop-i
invariant-loop-i l = LaidIds l.initial.input.bytes.now l.input.bytes.now l.from l.i l.initial.ids l.ids
