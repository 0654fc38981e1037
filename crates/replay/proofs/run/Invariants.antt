-- `replay::run` meets its contract: the bytes that are not played yet lie in the buffer. Assumes nothing.
use Prim.Native.Nat.{◌≤◌}
use Rattle.replay.proofs.run.Given as goal

abbrev pub invariant-loop : goal.invariant-loop
invariant-loop g l = (l.at.start ≤ l.at.held) × (l.at.held ≤ 131072)
