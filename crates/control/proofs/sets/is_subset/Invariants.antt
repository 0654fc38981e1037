-- `control::sets::is_subset` meets its contract: the answer so far is that of the ids passed. Assumes nothing.
use Rattle.std.proofs.Common.{◌≡◌, take}
use Rattle.identity.specs.Text.{every}
use Rattle.control.specs.Observation.{contains}
use Rattle.control.proofs.sets.is_subset.Given as goal

abbrev pub invariant-loop-id : goal.invariant-loop-id
invariant-loop-id l = l.all ≡ every (λ x. contains x l.set) (take l.id-index l.ids)
