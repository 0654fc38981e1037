-- `control::sets::ids_of` meets its contract: the places passed have their ids. Assumes nothing.
use Rattle.std.proofs.Common.{◌≡◌, length, take}
use Rattle.control.specs.ObserveSets.{listed}
use Rattle.control.proofs.sets.ids_of.Given as goal

abbrev pub invariant-loop-i : goal.invariant-loop-i
invariant-loop-i l = (length l.ids ≡ 9) × (take l.i l.ids ≡ listed l.configuration l.i)
