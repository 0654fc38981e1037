-- `control::sets::first_outside` meets its contract: the first of what is left is the first of all. Assumes nothing.
use Rattle.std.proofs.Common.{◌≡◌, drop}
use Rattle.control.specs.Observation.{difference, union_ids}
use Rattle.control.specs.ObserveSets.{first_of}
use Rattle.control.proofs.sets.first_outside.Given as goal

abbrev pub invariant-loop-id : goal.invariant-loop-id
invariant-loop-id l = first_of (difference l.set (union_ids l.old l.new)) ≡ first_of (difference (drop l.id-index l.set) (union_ids l.old l.new))
