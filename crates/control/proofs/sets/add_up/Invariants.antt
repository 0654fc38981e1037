-- `control::sets::add_up` meets its contract: what is left of the length is what is left of the counts, if they add up. Assumes nothing.
use Rattle.std.proofs.Common.{◌≡◌, ◌+◌, drop}
use Rattle.control.specs.Observation.{total}
use Rattle.control.proofs.sets.add_up.Given as goal

abbrev pub invariant-loop-count : goal.invariant-loop-count
invariant-loop-count l = total l.counts + l.left ≡ l.len + total (drop l.count-index l.counts)
