-- `journal::observation::lay_sets` meets its contract. Assumes nothing.
use Rattle.std.specs.Prelude.{◌≡◌, length}
use Rattle.journal.specs.SetBody.{SetsSo}
use Rattle.journal.proofs.observation.lay_sets.Given as goal

abbrev pub invariant-loop-i : goal.invariant-loop-i
invariant-loop-i l =
    SetsSo l.initial.input.bytes.now l.input.bytes.now l.i l.held l.ids l.counts
    × ((length l.ids ≡ length l.initial.ids) × (length l.counts ≡ length l.initial.counts))
