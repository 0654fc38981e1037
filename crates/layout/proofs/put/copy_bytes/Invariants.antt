-- `layout::put::copy_bytes` meets its contract: so many bytes are copied. Assumes nothing.
use Rattle.std.specs.Prelude.{◌≡◌, length, take}
use Rattle.layout.proofs.put.copy_bytes.Given as goal

abbrev pub invariant-loop-i : goal.invariant-loop-i
invariant-loop-i l = (take l.i l.place ≡ take l.i l.bytes) × (length l.place ≡ length l.initial.place)
