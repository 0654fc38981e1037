-- The blank request and the blank step, all zero, each defined once, and when two requests and two
-- steps are the same (document 01, "What must change shape": "unused parts zero").
-- A part that a kind does not use is compared with its blank (Control), and is its blank where a
-- command is made from a record of a replay. BlankLaws: the tests miss no field.
-- Assumes nothing.
use Rattle.std.specs.Prelude.{ℕ, Bool, List, ◌∷◌, [], eqb, replicate}
use Rattle.identity.specs.declared.identity.ConsensusIdentity.{ConsensusIdentity}
use Rattle.records.specs.Blank.{blank_voter_slot_log_id, blank_voter_slot_member, blank_voter_snapshot_evidence, blank_lost_voter_attestation_v1}
use Rattle.records.specs.Equality.{all_true, eq_bytes, same_voter_slot_log_id, same_voter_slot_member, same_voter_snapshot_evidence, same_lost_voter_attestation_v1}
use Rattle.control.specs.declared.control.VoterReplacementRequest.{VoterReplacementRequest}
use Rattle.control.specs.declared.control.VoterReplacementStep.{VoterReplacementStep}

-- ---- the blanks

-- an expected configuration of zeros
unfoldable pub blank_consensus_identity : ConsensusIdentity
blank_consensus_identity = record { cluster_id = replicate 32 0; configuration_id = replicate 32 0; configuration_epoch = 0 }

-- no request
unfoldable pub blank_voter_replacement_request : VoterReplacementRequest
blank_voter_replacement_request =
    record {
      expected_revision = 0;
      expected_configuration = blank_consensus_identity;
      candidate = blank_voter_slot_member;
      attestation = blank_lost_voter_attestation_v1;
      supplied_request_digest = replicate 32 0;
      supplied_configuration_id = replicate 32 0;
    }

-- no step; its kind is that of RecordSnapshot, 0
unfoldable pub blank_voter_replacement_step : VoterReplacementStep
blank_voter_replacement_step = record { kind = 0; snapshot = blank_voter_snapshot_evidence; caught_up = blank_voter_slot_log_id }

-- the id and the digest by which an Advance or a Marker names a request
abbrev pub blank_request_id : List ℕ
blank_request_id = replicate 16 0

abbrev pub blank_request_digest : List ℕ
blank_request_digest = replicate 32 0

-- ---- the same, field by field in the order of declaration

-- expected configurations
unfoldable pub same_consensus_identity : ConsensusIdentity → ConsensusIdentity → Bool
same_consensus_identity a b =
    all_true
    (eq_bytes a.cluster_id b.cluster_id
    ∷ eq_bytes a.configuration_id b.configuration_id
    ∷ eqb a.configuration_epoch b.configuration_epoch
    ∷ [])

-- requests
unfoldable pub same_voter_replacement_request : VoterReplacementRequest → VoterReplacementRequest → Bool
same_voter_replacement_request a b =
    all_true
    (eqb a.expected_revision b.expected_revision
    ∷ same_consensus_identity a.expected_configuration b.expected_configuration
    ∷ same_voter_slot_member a.candidate b.candidate
    ∷ same_lost_voter_attestation_v1 a.attestation b.attestation
    ∷ eq_bytes a.supplied_request_digest b.supplied_request_digest
    ∷ eq_bytes a.supplied_configuration_id b.supplied_configuration_id
    ∷ [])

-- steps
unfoldable pub same_voter_replacement_step : VoterReplacementStep → VoterReplacementStep → Bool
same_voter_replacement_step a b =
    all_true
    (eqb a.kind b.kind
    ∷ same_voter_snapshot_evidence a.snapshot b.snapshot
    ∷ same_voter_slot_log_id a.caught_up b.caught_up
    ∷ [])
