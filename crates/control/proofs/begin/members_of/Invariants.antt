-- `control::begin::members_of` meets its contract: the members so far are those of the slots passed. Assumes nothing.
use mathlib.Core.Path.{◌≡◌}
use mathlib.Core.List.{map}
use lib.ListN.{length, take}
use Rattle.control.proofs.begin.members_of.Given as goal

abbrev pub invariant-loop-i : goal.invariant-loop-i
invariant-loop-i l = (length l.members ≡ 9) × (take l.i l.members ≡ map (λ s. s.member) (take l.i l.slots))
