-- `control::sets::least_new` meets its contract: the least of what is left, and of the least so far, is the least of all. Assumes nothing.
use Rattle.std.proofs.Common.{◌≡◌, drop}
use Rattle.control.specs.ObserveSets.{least_new, no_id}
use Rattle.control.proofs.sets.least_new.Given as goal

abbrev pub invariant-loop-id : goal.invariant-loop-id
invariant-loop-id l = least_new l.old l.new no_id ≡ least_new l.old (drop l.id-index l.new) l.least
