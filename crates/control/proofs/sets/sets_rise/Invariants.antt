-- `control::sets::sets_rise` meets its contract: the answer so far, and that of the sets left, is that of all. Assumes nothing.
use Rattle.std.proofs.Common.{◌≡◌, ◌≤◌, ◌&&◌, length, drop}
use Rattle.control.specs.Observation.{all_rising, split_sets, total}
use Rattle.control.proofs.sets.sets_rise.Given as goal

abbrev pub invariant-loop-count : goal.invariant-loop-count
invariant-loop-count l =
    (total (drop l.count-index l.counts) ≤ length l.rest)
    × (all_rising (split_sets l.sets l.counts) ≡ (l.all && all_rising (split_sets l.rest (drop l.count-index l.counts))))
