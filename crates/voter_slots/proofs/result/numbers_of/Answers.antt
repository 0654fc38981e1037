-- `voter_slots::result::numbers_of` meets its contract. Assumes nothing.
use Rattle.std.proofs.Common.{◌≡◌, sym, ◌∙◌, cond}
use Rattle.records.specs.TestLaws.{cond-true, cond-false}
use Rattle.records.specs.declared.records.VoterSlotTable.{VoterSlotTable}
use Rattle.voter_slots.specs.Export.{no_phase}
use Rattle.voter_slots.proofs.result.numbers_of.Goals as goal
use Rattle.voter_slots.proofs.result.numbers_of.Goals.{Joined-table, then-table, else-table}

abbrev t : Joined-table → VoterSlotTable
t c = c.args.table

-- of the open request, if there is one
slot_is : (c : Joined-table) → c.if-table.open_slot ≡ cond (t c).has_replacement (t c).replacement.attestation.slot 0
slot_is c = elim c.if-table.branch [
  | then-table w ↦ w.open_slot-is ∙ sym (cond-true (t c).has_replacement (t c).replacement.attestation.slot 0 w.if-table.true)
  | else-table w ↦ w.open_slot-is ∙ sym (cond-false (t c).has_replacement (t c).replacement.attestation.slot 0 w.if-table.false)
]

phase-is : (c : Joined-table) → c.if-table.open_phase ≡ cond (t c).has_replacement (t c).replacement.phase no_phase
phase-is c = elim c.if-table.branch [
  | then-table w ↦ w.open_phase-is ∙ sym (cond-true (t c).has_replacement (t c).replacement.phase no_phase w.if-table.true)
  | else-table w ↦ w.open_phase-is ∙ sym (cond-false (t c).has_replacement (t c).replacement.phase no_phase w.if-table.false)
]

pub returns : goal.returns
returns c =
    λ i. record {
      answer = 0;
      slots = c.args.table.count;
      count = c.args.count;
      revision = c.args.table.revision;
      epoch = c.args.table.configuration_epoch;
      open_slot = slot_is c.before i;
      open_phase = phase-is c.before i;
    }
