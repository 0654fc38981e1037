-- `control::sets::contains` meets its contract: the answer so far is that of the ids passed. Assumes nothing.
use mathlib.Core.Path.{◌≡◌}
use lib.ListN.{take}
use Rattle.control.specs.Observation.{contains}
use Rattle.control.proofs.sets.contains.Given as goal

abbrev pub invariant-loop-i : goal.invariant-loop-i
invariant-loop-i l = l.found ≡ contains l.id (take l.i l.set)
