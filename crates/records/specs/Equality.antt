-- When two records are the same: each field is, in the order of declaration; arrays element by
-- element. Written by scripts/records.py.
-- From voter_slots/records.rs and identity.rs: the `PartialEq` that the Rust derives.
-- Assumes nothing.
use Rattle.std.specs.Prelude.{ℕ, Bool, true, ◌&&◌, List, [], ◌∷◌, eqb}
use Rattle.std.specs.Bool.{beq}
use Rattle.std.specs.Cmp.Lexicographic.{pointwise}
use Rattle.identity.specs.declared.identity.VoterSlotIdentity.{VoterSlotIdentity}
use Rattle.records.specs.declared.records.SpiffeId.{SpiffeId}
use Rattle.records.specs.declared.records.SnapshotId.{SnapshotId}
use Rattle.records.specs.declared.records.VoterSlotLogId.{VoterSlotLogId}
use Rattle.records.specs.declared.records.OptionalLogId.{OptionalLogId}
use Rattle.records.specs.declared.records.VoterSlotMember.{VoterSlotMember}
use Rattle.records.specs.declared.records.VoterReplacementResult.{VoterReplacementResult}
use Rattle.records.specs.declared.records.VoterSlotRecord.{VoterSlotRecord}
use Rattle.records.specs.declared.records.VoterSnapshotEvidence.{VoterSnapshotEvidence}
use Rattle.records.specs.declared.records.VoterConfiguration.{VoterConfiguration}
use Rattle.records.specs.declared.records.LostVoterAttestationV1.{LostVoterAttestationV1}
use Rattle.records.specs.declared.records.VoterReplacementEvidence.{VoterReplacementEvidence}
use Rattle.records.specs.declared.records.VoterReplacementRecord.{VoterReplacementRecord}
use Rattle.records.specs.declared.records.VoterSlotTable.{VoterSlotTable}

-- every test of a list holds
unfoldable pub all_true : List Bool → Bool
all_true [] = true
all_true (p ∷ []) = p
all_true (p ∷ (q ∷ ps)) = p && all_true (q ∷ ps)

-- two lists of one length, element by element: what `==` answers at arrays and slices
abbrev pub eq_list : {A : Type 0} → (A → A → Bool) → List A → List A → Bool
eq_list f a b = pointwise f a b

abbrev pub eq_bytes : List ℕ → List ℕ → Bool
eq_bytes a b = eq_list eqb a b

unfoldable pub same_voter_slot_identity : VoterSlotIdentity → VoterSlotIdentity → Bool
same_voter_slot_identity a b =
    all_true
    (eqb a.slot b.slot
    ∷ eqb a.incarnation b.incarnation
    ∷ [])

unfoldable pub same_spiffe_id : SpiffeId → SpiffeId → Bool
same_spiffe_id a b =
    all_true
    (eqb a.len b.len
    ∷ eq_bytes a.bytes b.bytes
    ∷ [])

unfoldable pub same_snapshot_id : SnapshotId → SnapshotId → Bool
same_snapshot_id a b =
    all_true
    (eqb a.len b.len
    ∷ eq_bytes a.bytes b.bytes
    ∷ [])

unfoldable pub same_voter_slot_log_id : VoterSlotLogId → VoterSlotLogId → Bool
same_voter_slot_log_id a b =
    all_true
    (eqb a.term b.term
    ∷ eqb a.index b.index
    ∷ [])

unfoldable pub same_optional_log_id : OptionalLogId → OptionalLogId → Bool
same_optional_log_id a b =
    all_true
    (beq a.is_some b.is_some
    ∷ same_voter_slot_log_id a.cut b.cut
    ∷ [])

unfoldable pub same_voter_slot_member : VoterSlotMember → VoterSlotMember → Bool
same_voter_slot_member a b =
    all_true
    (same_voter_slot_identity a.identity b.identity
    ∷ eq_bytes a.key_digest b.key_digest
    ∷ eq_bytes a.descriptor_digest b.descriptor_digest
    ∷ eqb a.admission_generation b.admission_generation
    ∷ [])

unfoldable pub same_voter_replacement_result : VoterReplacementResult → VoterReplacementResult → Bool
same_voter_replacement_result a b =
    all_true
    (eq_bytes a.request_id b.request_id
    ∷ eq_bytes a.request_digest b.request_digest
    ∷ eqb a.incarnation b.incarnation
    ∷ eqb a.revision b.revision
    ∷ eqb a.configuration_epoch b.configuration_epoch
    ∷ eqb a.kind b.kind
    ∷ same_voter_slot_log_id a.terminal b.terminal
    ∷ [])

unfoldable pub same_voter_slot_record : VoterSlotRecord → VoterSlotRecord → Bool
same_voter_slot_record a b =
    all_true
    (same_voter_slot_member a.member b.member
    ∷ eqb a.retired_through b.retired_through
    ∷ eqb a.phase b.phase
    ∷ beq a.has_last_result b.has_last_result
    ∷ same_voter_replacement_result a.last_result b.last_result
    ∷ [])

unfoldable pub same_voter_snapshot_evidence : VoterSnapshotEvidence → VoterSnapshotEvidence → Bool
same_voter_snapshot_evidence a b =
    all_true
    (same_voter_slot_log_id a.cut b.cut
    ∷ same_snapshot_id a.snapshot_id b.snapshot_id
    ∷ eq_bytes a.digest b.digest
    ∷ [])

unfoldable pub same_voter_configuration : VoterConfiguration → VoterConfiguration → Bool
same_voter_configuration a b =
    all_true
    (eqb a.epoch b.epoch
    ∷ eq_list same_voter_slot_member a.members b.members
    ∷ eqb a.count b.count
    ∷ [])

unfoldable pub same_lost_voter_attestation_v1 : LostVoterAttestationV1 → LostVoterAttestationV1 → Bool
same_lost_voter_attestation_v1 a b =
    all_true
    (eq_bytes a.request_id b.request_id
    ∷ eq_bytes a.request_digest b.request_digest
    ∷ eq_bytes a.cluster_instance b.cluster_instance
    ∷ eqb a.slot b.slot
    ∷ eqb a.expected_incarnation b.expected_incarnation
    ∷ eq_bytes a.old_descriptor_digest b.old_descriptor_digest
    ∷ eq_bytes a.candidate_key_digest b.candidate_key_digest
    ∷ eqb a.admission_generation b.admission_generation
    ∷ same_spiffe_id a.candidate_spiffe_id b.candidate_spiffe_id
    ∷ same_spiffe_id a.controller_spiffe_id b.controller_spiffe_id
    ∷ eq_bytes a.signing_key_digest b.signing_key_digest
    ∷ eqb a.reason b.reason
    ∷ eq_bytes a.policy_digest b.policy_digest
    ∷ eqb a.observation_start_ms b.observation_start_ms
    ∷ eqb a.decision_ms b.decision_ms
    ∷ eqb a.issued_ms b.issued_ms
    ∷ eqb a.expires_ms b.expires_ms
    ∷ eq_bytes a.signature b.signature
    ∷ [])

unfoldable pub same_voter_replacement_evidence : VoterReplacementEvidence → VoterReplacementEvidence → Bool
same_voter_replacement_evidence a b =
    all_true
    (same_voter_slot_log_id a.prepare b.prepare
    ∷ beq a.has_snapshot b.has_snapshot
    ∷ same_voter_snapshot_evidence a.snapshot b.snapshot
    ∷ same_optional_log_id a.learner b.learner
    ∷ same_optional_log_id a.caught_up b.caught_up
    ∷ same_optional_log_id a.continuation b.continuation
    ∷ same_optional_log_id a.fence b.fence
    ∷ same_optional_log_id a.joint b.joint
    ∷ same_optional_log_id a.uniform b.uniform
    ∷ [])

unfoldable pub same_voter_replacement_record : VoterReplacementRecord → VoterReplacementRecord → Bool
same_voter_replacement_record a b =
    all_true
    (eqb a.expected_revision b.expected_revision
    ∷ same_lost_voter_attestation_v1 a.attestation b.attestation
    ∷ same_voter_configuration a.predecessor b.predecessor
    ∷ same_voter_configuration a.successor b.successor
    ∷ eqb a.phase b.phase
    ∷ same_voter_replacement_evidence a.evidence b.evidence
    ∷ [])

unfoldable pub same_voter_slot_table : VoterSlotTable → VoterSlotTable → Bool
same_voter_slot_table a b =
    all_true
    (eq_bytes a.cluster_instance b.cluster_instance
    ∷ eq_bytes a.manifest_digest b.manifest_digest
    ∷ eqb a.revision b.revision
    ∷ eqb a.configuration_epoch b.configuration_epoch
    ∷ eq_list same_voter_slot_record a.slots b.slots
    ∷ eqb a.count b.count
    ∷ beq a.has_replacement b.has_replacement
    ∷ same_voter_replacement_record a.replacement b.replacement
    ∷ [])
