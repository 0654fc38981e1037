-- `layout::put::put_be` meets its contract: from the last byte to the first, what is left to write stands before what is written. Assumes nothing.
use Rattle.std.specs.Prelude.{◌+◌, ◌≤◌, ◌≡◌, ◌++◌, length, take, drop}
use Rattle.format.specs.Num.{be}
use Rattle.layout.proofs.put.put_be.Given as goal

abbrev pub invariant-loop-k : goal.invariant-loop-k
invariant-loop-k l = (l.k ≤ l.width) × (be l.k l.rest ++ drop (l.at + l.k) l.buffer ≡ be l.width l.value ++ drop (l.at + l.width) l.initial.buffer) × (take l.at l.buffer ≡ take l.at l.initial.buffer) × (length l.buffer ≡ length l.initial.buffer)
