-- `control::observe::with_phase` meets its contract: up to the place nothing is stored, and after it that one phase. Assumes nothing.
use Prim.Native.Nat.{ℕ, ◌≤◌, ◌<◌, ◌-◌}
use mathlib.Core.Path.{◌≡◌}
use lib.ListN.{set}
use Rattle.records.specs.declared.records.VoterSlotTable.{VoterSlotTable}
use Rattle.records.specs.Records.{slot_at}
use Rattle.records.specs.With.{in_phase, table_with}
use Rattle.control.proofs.observe.with_phase.Given as goal

-- the table with that phase at a place
abbrev pub phased : VoterSlotTable → ℕ → ℕ → VoterSlotTable
phased t at phase =
    table_with t t.revision t.configuration_epoch (set t.slots at (in_phase (slot_at t at) phase)) t.has_replacement t.replacement

abbrev pub invariant-loop-i : goal.invariant-loop-i
invariant-loop-i l = (l.i ≤ 9) × ((l.i ≤ l.at → l.next ≡ l.initial.next) × (l.at < l.i → l.next ≡ phased l.initial.next l.at l.phase))

abbrev pub decreases-loop-i : goal.decreases-loop-i
decreases-loop-i l = 9 - l.i
