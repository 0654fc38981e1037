-- `control::sets::rises` meets its contract: the answer so far is that of the ids passed. Assumes nothing.
use Rattle.std.proofs.Common.{◌≡◌, ◌≤◌, take}
use Rattle.control.specs.Observation.{is_rising}
use Rattle.control.proofs.sets.rises.Given as goal

abbrev pub invariant-loop-i : goal.invariant-loop-i
invariant-loop-i l = (1 ≤ l.i) × (l.all ≡ is_rising (take l.i l.ids))
