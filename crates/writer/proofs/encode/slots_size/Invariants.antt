-- `writer::encode::slots_size` meets its contract: the size so far is that of the slots passed. Assumes nothing.
use mathlib.Core.Path.{◌≡◌}
use Rattle.writer.specs.Size.{slots_size}
use Rattle.writer.proofs.encode.slots_size.Given as goal

abbrev pub invariant-loop-slot : goal.invariant-loop-slot
invariant-loop-slot l = l.size ≡ slots_size l.slots l.slot-index
