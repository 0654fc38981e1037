-- The representability check (document 01, "Refusals from the input"), part by part. A call gives
-- 30 to "one that the Rust types cannot hold, count above 9, text length above its field, nonzero
-- filler behind a count or in an absent part". The Rust types are those of records.rs and
-- identity.rs; what is not tested here (a revision, a digest, a time) may be any value.
-- Assumes nothing.
use Rattle.std.specs.Prelude.{ℕ, Bool, true, cond, ◌&&◌, List, take, drop, eqb, leb}
use Rattle.identity.specs.Conditions.{◌and◌}
use Rattle.identity.specs.Identity.{is_slot_id, is_voter_incarnation, is_configuration_epoch}
use Rattle.identity.specs.Text.{every, is_utf8, max_spiffe_id_bytes, max_snapshot_id_bytes}
use Rattle.records.specs.Blank.{blank_voter_slot_log_id, blank_voter_slot_member, blank_voter_replacement_result, blank_voter_slot_record, blank_voter_snapshot_evidence, blank_voter_replacement_record}
use Rattle.records.specs.Equality.{same_voter_slot_log_id, same_voter_slot_member, same_voter_replacement_result, same_voter_slot_record, same_voter_snapshot_evidence, same_voter_replacement_record}
use Rattle.records.specs.Records.{max_fixed_voter_slots, voting, uniform, superseded, storage_lost, time_bound_loss, all_below, slot_at, member_at}
use Rattle.records.specs.declared.records.SpiffeId.{SpiffeId}
use Rattle.records.specs.declared.records.SnapshotId.{SnapshotId}
use Rattle.records.specs.declared.records.OptionalLogId.{OptionalLogId}
use Rattle.records.specs.declared.records.VoterSlotMember.{VoterSlotMember}
use Rattle.records.specs.declared.records.VoterReplacementResult.{VoterReplacementResult}
use Rattle.records.specs.declared.records.VoterSlotRecord.{VoterSlotRecord}
use Rattle.records.specs.declared.records.VoterSnapshotEvidence.{VoterSnapshotEvidence}
use Rattle.records.specs.declared.records.VoterConfiguration.{VoterConfiguration}
use Rattle.records.specs.declared.records.LostVoterAttestationV1.{LostVoterAttestationV1}
use Rattle.records.specs.declared.records.VoterReplacementEvidence.{VoterReplacementEvidence}
use Rattle.records.specs.declared.records.VoterReplacementRecord.{VoterReplacementRecord}
use Rattle.records.specs.declared.records.VoterSlotTable.{VoterSlotTable}

-- filler
abbrev pub is_zero : ℕ → Bool
is_zero b = eqb b 0

-- "2,048 or 256 bytes and a length, zero behind it"; a Rust String is UTF-8
unfoldable pub is_text : ℕ → ℕ → List ℕ → Bool
is_text most len bytes = leb len most and is_utf8 (take len bytes) and every is_zero (drop len bytes)

-- a name, a snapshot id
abbrev pub representable_spiffe_id : SpiffeId → Bool
representable_spiffe_id s = is_text max_spiffe_id_bytes s.len s.bytes

abbrev pub representable_snapshot_id : SnapshotId → Bool
representable_snapshot_id s = is_text max_snapshot_id_bytes s.len s.bytes

-- "a yes or no beside the record": absent, it is blank
unfoldable pub representable_optional_log_id : OptionalLogId → Bool
representable_optional_log_id o = cond o.is_some true (same_voter_slot_log_id o.cut blank_voter_slot_log_id)

-- `SlotId`, `VoterIncarnation`
unfoldable pub representable_member : VoterSlotMember → Bool
representable_member m = is_slot_id m.identity.slot && is_voter_incarnation m.identity.incarnation

-- `VoterIncarnation`, `ConsensusConfigurationEpoch`, `VoterReplacementResultKind`
unfoldable pub representable_result : VoterReplacementResult → Bool
representable_result r =
    is_voter_incarnation r.incarnation and is_configuration_epoch r.configuration_epoch and leb r.kind superseded

-- its member, `VoterSlotPhase`, and its receipt, present or blank
unfoldable pub representable_slot_record : VoterSlotRecord → Bool
representable_slot_record s =
    representable_member s.member
    and leb s.phase voting
    and cond s.has_last_result (representable_result s.last_result) (same_voter_replacement_result s.last_result blank_voter_replacement_result)

-- "nine places always, the first so many in use": one that is not in use is blank
abbrev pub member_place : Bool → VoterSlotMember → Bool
member_place past m = cond past (same_voter_slot_member m blank_voter_slot_member) (representable_member m)

abbrev pub slot_place : Bool → VoterSlotRecord → Bool
slot_place past s = cond past (same_voter_slot_record s blank_voter_slot_record) (representable_slot_record s)

-- its epoch, "count above 9", its nine places
unfoldable pub representable_configuration : VoterConfiguration → Bool
representable_configuration c =
    is_configuration_epoch c.epoch
    and leb c.count max_fixed_voter_slots
    and all_below (λ i. member_place (leb c.count i) (member_at c i)) max_fixed_voter_slots

-- `SlotId`, `VoterIncarnation`, both names, `VoterLossReason`
unfoldable pub representable_attestation : LostVoterAttestationV1 → Bool
representable_attestation a =
    is_slot_id a.slot
    and is_voter_incarnation a.expected_incarnation
    and representable_spiffe_id a.candidate_spiffe_id
    and representable_spiffe_id a.controller_spiffe_id
    and leb storage_lost a.reason
    and leb a.reason time_bound_loss

-- its id; cut and digest may be any
abbrev pub representable_snapshot : VoterSnapshotEvidence → Bool
representable_snapshot s = representable_snapshot_id s.snapshot_id

-- the snapshot, present or blank
abbrev pub representable_optional_snapshot : VoterReplacementEvidence → Bool
representable_optional_snapshot e = cond e.has_snapshot (representable_snapshot e.snapshot) (same_voter_snapshot_evidence e.snapshot blank_voter_snapshot_evidence)

-- each stage, present or blank; prepare may be any cut
unfoldable pub representable_evidence : VoterReplacementEvidence → Bool
representable_evidence e =
    representable_optional_snapshot e
    and representable_optional_log_id e.learner
    and representable_optional_log_id e.caught_up
    and representable_optional_log_id e.continuation
    and representable_optional_log_id e.fence
    and representable_optional_log_id e.joint
    and representable_optional_log_id e.uniform

-- its parts, and `VoterReplacementPhase`
unfoldable pub representable_replacement : VoterReplacementRecord → Bool
representable_replacement r =
    representable_attestation r.attestation
    and representable_configuration r.predecessor
    and representable_configuration r.successor
    and leb r.phase uniform
    and representable_evidence r.evidence

-- 30 of a whole table: its epoch, "count above 9", its nine places, and the open request, present
-- or blank
unfoldable pub representable : VoterSlotTable → Bool
representable t =
    is_configuration_epoch t.configuration_epoch
    and leb t.count max_fixed_voter_slots
    and all_below (λ i. slot_place (leb t.count i) (slot_at t i)) max_fixed_voter_slots
    and cond t.has_replacement (representable_replacement t.replacement) (same_voter_replacement_record t.replacement blank_voter_replacement_record)
