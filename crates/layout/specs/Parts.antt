-- Groups of fields that stand together in the bytes, their blanks, and the records made of them and
-- taken apart into them.
-- They are no records of document 01 or of the Rust: they keep every form at five parts or fewer.
-- The order of the fields is that of codec.rs.
-- Assumes nothing.
use Rattle.std.specs.Prelude.{ℕ, ◌≤◌, Bool, false, List, replicate}
use Rattle.format.specs.Copy.{zeros}
use Rattle.identity.specs.declared.identity.VoterSlotIdentity.{VoterSlotIdentity}
use Rattle.records.specs.Blank.{blank_voter_slot_identity, blank_spiffe_id, blank_voter_slot_member, blank_voter_slot_record, blank_voter_configuration, blank_voter_replacement_result, blank_voter_snapshot_evidence}
use Rattle.records.specs.declared.records.LostVoterAttestationV1.{LostVoterAttestationV1}
use Rattle.records.specs.declared.records.VoterReplacementEvidence.{VoterReplacementEvidence}
use Rattle.records.specs.declared.records.VoterReplacementRecord.{VoterReplacementRecord}
use Rattle.records.specs.declared.records.VoterReplacementResult.{VoterReplacementResult}
use Rattle.records.specs.declared.records.VoterSlotLogId.{VoterSlotLogId}
use Rattle.records.specs.declared.records.VoterSlotMember.{VoterSlotMember}
use Rattle.records.specs.declared.records.VoterSlotRecord.{VoterSlotRecord}
use Rattle.records.specs.declared.records.VoterSlotTable.{VoterSlotTable}
use Rattle.records.specs.declared.records.VoterSnapshotEvidence.{VoterSnapshotEvidence}
use Rattle.layout.specs.declared.parts.Binding.{Binding}
use Rattle.layout.specs.declared.parts.ResultHead.{ResultHead}
use Rattle.layout.specs.declared.parts.SlotMember.{SlotMember}
use Rattle.layout.specs.declared.parts.ThreeCuts.{ThreeCuts}
use Rattle.layout.specs.declared.parts.ClaimsRequest.{ClaimsRequest}
use Rattle.layout.specs.declared.parts.ClaimsSlot.{ClaimsSlot}
use Rattle.layout.specs.declared.parts.ClaimsNames.{ClaimsNames}
use Rattle.layout.specs.declared.parts.ClaimsEnd.{ClaimsEnd}
use Rattle.layout.specs.declared.parts.Times.{Times}
use Rattle.layout.specs.declared.parts.Change.{Change}
use Rattle.layout.specs.declared.parts.TableHead.{TableHead}

-- ---- the blanks of the groups, all zero: each has `default` of its struct

-- what follows an identity in a member
unfoldable pub blank_binding : Binding
blank_binding = record { key_digest = zeros 32; descriptor_digest = zeros 32; admission_generation = 0 }

-- the front of a receipt
unfoldable pub blank_result_head : ResultHead
blank_result_head = record { request_id = zeros 16; request_digest = zeros 32; incarnation = 0; revision = 0 }

-- a slot's member with its retired number
unfoldable pub blank_slot_member : SlotMember
blank_slot_member = record { member = blank_voter_slot_member; retired_through = 0 }

-- the four groups of an attestation, and its times
unfoldable pub blank_claims_request : ClaimsRequest
blank_claims_request = record { request_id = zeros 16; request_digest = zeros 32 }

unfoldable pub blank_claims_slot : ClaimsSlot
blank_claims_slot =
    record {
      cluster_instance = zeros 32;
      identity = blank_voter_slot_identity;
      old_descriptor_digest = zeros 32;
      candidate_key_digest = zeros 32;
    }

unfoldable pub blank_claims_names : ClaimsNames
blank_claims_names =
    record { admission_generation = 0; candidate_spiffe_id = blank_spiffe_id; controller_spiffe_id = blank_spiffe_id; signing_key_digest = zeros 32 }

unfoldable pub blank_times : Times
blank_times = record { observation_start_ms = 0; decision_ms = 0; issued_ms = 0; expires_ms = 0 }

unfoldable pub blank_claims_end : ClaimsEnd
blank_claims_end = record { reason = 0; policy_digest = zeros 32; times = blank_times; signature = zeros 64 }

-- both configurations, and the phase
unfoldable pub blank_change : Change
blank_change = record { predecessor = blank_voter_configuration; successor = blank_voter_configuration; phase = 0 }

-- a table before its count
unfoldable pub blank_table_head : TableHead
blank_table_head =
    record { cluster_instance = zeros 32; manifest_digest = zeros 32; revision = 0; configuration_epoch = 0 }

-- ---- the places that are filled in reading

-- the nine places, all blank
unfoldable pub blank_voter_slot_members : List VoterSlotMember
blank_voter_slot_members = replicate 9 blank_voter_slot_member

unfoldable pub blank_voter_slot_records : List VoterSlotRecord
blank_voter_slot_records = replicate 9 blank_voter_slot_record

-- an optional part that is absent
abbrev pub absent_result : Bool × VoterReplacementResult
absent_result = (false, blank_voter_replacement_result)

abbrev pub absent_snapshot : Bool × VoterSnapshotEvidence
absent_snapshot = (false, blank_voter_snapshot_evidence)

-- what stands before a table's flag: magic and version, the head, the count and the slots
abbrev pub TableFront : Type 0
TableFront = ((Unit {0} × TableHead) × ℕ) × List VoterSlotRecord

-- nothing was read
abbrev pub blank_table_front : TableFront
blank_table_front = (((tt, blank_table_head), 0), blank_voter_slot_records)

-- ---- a record of its groups, and its groups

-- a member
abbrev pub member_of : VoterSlotIdentity → Binding → VoterSlotMember
member_of identity binding =
    record {
      identity = identity;
      key_digest = binding.key_digest;
      descriptor_digest = binding.descriptor_digest;
      admission_generation = binding.admission_generation;
    }

abbrev pub binding_of : VoterSlotMember → Binding
binding_of m =
    record {
      key_digest = m.key_digest;
      descriptor_digest = m.descriptor_digest;
      admission_generation = m.admission_generation;
    }

-- a receipt
abbrev pub result_of : ResultHead → ℕ → ℕ → VoterSlotLogId → VoterReplacementResult
result_of head epoch kind terminal =
    record {
      request_id = head.request_id;
      request_digest = head.request_digest;
      incarnation = head.incarnation;
      revision = head.revision;
      configuration_epoch = epoch;
      kind = kind;
      terminal = terminal;
    }

abbrev pub result_head_of : VoterReplacementResult → ResultHead
result_head_of r =
    record { request_id = r.request_id; request_digest = r.request_digest; incarnation = r.incarnation; revision = r.revision }

abbrev pub slot_member_of : VoterSlotRecord → SlotMember
slot_member_of s = record { member = s.member; retired_through = s.retired_through }

-- an attestation
abbrev pub attestation_of : ClaimsRequest → ClaimsSlot → ClaimsNames → ClaimsEnd → LostVoterAttestationV1
attestation_of request slot names ending =
    record {
      request_id = request.request_id;
      request_digest = request.request_digest;
      cluster_instance = slot.cluster_instance;
      slot = slot.identity.slot;
      expected_incarnation = slot.identity.incarnation;
      old_descriptor_digest = slot.old_descriptor_digest;
      candidate_key_digest = slot.candidate_key_digest;
      admission_generation = names.admission_generation;
      candidate_spiffe_id = names.candidate_spiffe_id;
      controller_spiffe_id = names.controller_spiffe_id;
      signing_key_digest = names.signing_key_digest;
      reason = ending.reason;
      policy_digest = ending.policy_digest;
      observation_start_ms = ending.times.observation_start_ms;
      decision_ms = ending.times.decision_ms;
      issued_ms = ending.times.issued_ms;
      expires_ms = ending.times.expires_ms;
      signature = ending.signature;
    }

abbrev pub claims_request_of : LostVoterAttestationV1 → ClaimsRequest
claims_request_of a =
    record { request_id = a.request_id; request_digest = a.request_digest }

abbrev pub claims_slot_of : LostVoterAttestationV1 → ClaimsSlot
claims_slot_of a =
    record {
      cluster_instance = a.cluster_instance;
      identity = record { slot = a.slot; incarnation = a.expected_incarnation };
      old_descriptor_digest = a.old_descriptor_digest;
      candidate_key_digest = a.candidate_key_digest;
    }

abbrev pub claims_names_of : LostVoterAttestationV1 → ClaimsNames
claims_names_of a =
    record {
      admission_generation = a.admission_generation;
      candidate_spiffe_id = a.candidate_spiffe_id;
      controller_spiffe_id = a.controller_spiffe_id;
      signing_key_digest = a.signing_key_digest;
    }

abbrev pub times_of : LostVoterAttestationV1 → Times
times_of a =
    record {
      observation_start_ms = a.observation_start_ms;
      decision_ms = a.decision_ms;
      issued_ms = a.issued_ms;
      expires_ms = a.expires_ms;
    }

abbrev pub claims_end_of : LostVoterAttestationV1 → ClaimsEnd
claims_end_of a = record { reason = a.reason; policy_digest = a.policy_digest; times = times_of a; signature = a.signature }

-- the evidence
abbrev pub evidence_of : VoterSlotLogId → Bool → VoterSnapshotEvidence → ThreeCuts → ThreeCuts → VoterReplacementEvidence
evidence_of prepare has_snapshot snapshot early late =
    record {
      prepare = prepare;
      has_snapshot = has_snapshot;
      snapshot = snapshot;
      learner = early.first;
      caught_up = early.second;
      continuation = early.third;
      fence = late.first;
      joint = late.second;
      uniform = late.third;
    }

-- the six cuts of the evidence, in two threes
abbrev pub early_cuts : VoterReplacementEvidence → ThreeCuts
early_cuts e = record { first = e.learner; second = e.caught_up; third = e.continuation }

abbrev pub late_cuts : VoterReplacementEvidence → ThreeCuts
late_cuts e = record { first = e.fence; second = e.joint; third = e.uniform }

-- an open request
abbrev pub replacement_of : ℕ → LostVoterAttestationV1 → Change → VoterReplacementEvidence → VoterReplacementRecord
replacement_of expected attestation change evidence =
    record {
      expected_revision = expected;
      attestation = attestation;
      predecessor = change.predecessor;
      successor = change.successor;
      phase = change.phase;
      evidence = evidence;
    }

abbrev pub change_of : VoterReplacementRecord → Change
change_of r = record { predecessor = r.predecessor; successor = r.successor; phase = r.phase }

-- a table
abbrev pub table_of : TableHead → ℕ → List VoterSlotRecord → Bool → VoterReplacementRecord → VoterSlotTable
table_of head count slots is_open replacement =
    record {
      cluster_instance = head.cluster_instance;
      manifest_digest = head.manifest_digest;
      revision = head.revision;
      configuration_epoch = head.configuration_epoch;
      slots = slots;
      count = count;
      has_replacement = is_open;
      replacement = replacement;
    }

abbrev pub table_head_of : VoterSlotTable → TableHead
table_head_of t =
    record {
      cluster_instance = t.cluster_instance;
      manifest_digest = t.manifest_digest;
      revision = t.revision;
      configuration_epoch = t.configuration_epoch;
    }

-- ---- lengths that the fields hold, which the representability check has tested: names of at most
-- 2,048 bytes, snapshot ids of at most 256, counts of at most nine

-- of an attestation
abbrev pub NamesFit : LostVoterAttestationV1 → Type 0
NamesFit a = (a.candidate_spiffe_id.len ≤ 2048) × (a.controller_spiffe_id.len ≤ 2048)

-- of an open request
pub record ReplacementFits (r : VoterReplacementRecord) : Type 0 where
  pub candidate : r.attestation.candidate_spiffe_id.len ≤ 2048
  pub controller : r.attestation.controller_spiffe_id.len ≤ 2048
  pub predecessor : r.predecessor.count ≤ 9
  pub successor : r.successor.count ≤ 9
  pub snapshot : r.evidence.snapshot.snapshot_id.len ≤ 256

-- of a table
pub record TableFits (t : VoterSlotTable) : Type 0 where
  pub count : t.count ≤ 9
  pub replacement : ReplacementFits t.replacement
