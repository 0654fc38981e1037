-- `control::observe::slot_place` meets its contract: the place so far is the first of those passed. Assumes nothing.
use Prim.Native.Nat.{ℕ, ◌≤◌}
use mathlib.Core.Path.{◌≡◌}
use mathlib.Core.Bool.{Bool}
use lib.Dec.{eqb}
use Rattle.records.specs.declared.records.VoterSlotRecord.{VoterSlotRecord}
use Rattle.control.specs.BeginJudgeLaws.{place_from}
use Rattle.control.proofs.observe.slot_place.Given as goal

-- the slot has that number
abbrev pub bears : ℕ → VoterSlotRecord → Bool
bears slot s = eqb s.member.identity.slot slot

abbrev pub invariant-loop-i : goal.invariant-loop-i
invariant-loop-i l = (l.i ≤ 9) × (l.at ≡ place_from l.table (bears l.slot) l.i)

abbrev pub decreases-loop-i : goal.decreases-loop-i
decreases-loop-i l = l.i
