-- `raw_calls::record::lay_sets` counts no more ids than have room. Assumes nothing.
use Rattle.std.proofs.Common.{◌≤◌, length}
use Rattle.raw_calls.proofs.record.lay_sets.Given as goal

abbrev pub invariant-loop-count : goal.invariant-loop-count
invariant-loop-count l = l.laid ≤ length l.ids
