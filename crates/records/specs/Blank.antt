-- The blank of each record: each number 0, each bool false, each byte 0.
-- Written by scripts/records.py.
-- Document 01: "the blank table or blank attestation, all zero"; "2,048 or 256 bytes and a length,
-- zero behind it".
-- Assumes nothing.
use Rattle.std.specs.Prelude.{false, replicate}
use Rattle.identity.specs.declared.identity.VoterSlotIdentity.{VoterSlotIdentity}
use Rattle.records.specs.declared.records.SpiffeId.{SpiffeId}
use Rattle.records.specs.declared.records.SnapshotId.{SnapshotId}
use Rattle.records.specs.declared.records.VoterSlotLogId.{VoterSlotLogId}
use Rattle.records.specs.declared.records.OptionalLogId.{OptionalLogId}
use Rattle.records.specs.declared.records.VoterSlotMember.{VoterSlotMember}
use Rattle.records.specs.declared.records.VoterReplacementResult.{VoterReplacementResult}
use Rattle.records.specs.declared.records.VoterSlotRecord.{VoterSlotRecord}
use Rattle.records.specs.declared.records.VoterSnapshotEvidence.{VoterSnapshotEvidence}
use Rattle.records.specs.declared.records.VoterConfiguration.{VoterConfiguration}
use Rattle.records.specs.declared.records.LostVoterAttestationV1.{LostVoterAttestationV1}
use Rattle.records.specs.declared.records.VoterReplacementEvidence.{VoterReplacementEvidence}
use Rattle.records.specs.declared.records.VoterReplacementRecord.{VoterReplacementRecord}
use Rattle.records.specs.declared.records.VoterSlotTable.{VoterSlotTable}

unfoldable pub blank_voter_slot_identity : VoterSlotIdentity
blank_voter_slot_identity = record { slot = 0; incarnation = 0 }

unfoldable pub blank_spiffe_id : SpiffeId
blank_spiffe_id = record { len = 0; bytes = replicate 2048 0 }

unfoldable pub blank_snapshot_id : SnapshotId
blank_snapshot_id = record { len = 0; bytes = replicate 256 0 }

unfoldable pub blank_voter_slot_log_id : VoterSlotLogId
blank_voter_slot_log_id = record { term = 0; index = 0 }

unfoldable pub blank_optional_log_id : OptionalLogId
blank_optional_log_id = record { is_some = false; cut = blank_voter_slot_log_id }

unfoldable pub blank_voter_slot_member : VoterSlotMember
blank_voter_slot_member =
    record {
      identity = blank_voter_slot_identity;
      key_digest = replicate 32 0;
      descriptor_digest = replicate 32 0;
      admission_generation = 0;
    }

unfoldable pub blank_voter_replacement_result : VoterReplacementResult
blank_voter_replacement_result =
    record {
      request_id = replicate 16 0;
      request_digest = replicate 32 0;
      incarnation = 0;
      revision = 0;
      configuration_epoch = 0;
      kind = 0;
      terminal = blank_voter_slot_log_id;
    }

unfoldable pub blank_voter_slot_record : VoterSlotRecord
blank_voter_slot_record =
    record {
      member = blank_voter_slot_member;
      retired_through = 0;
      phase = 0;
      has_last_result = false;
      last_result = blank_voter_replacement_result;
    }

unfoldable pub blank_voter_snapshot_evidence : VoterSnapshotEvidence
blank_voter_snapshot_evidence =
    record { cut = blank_voter_slot_log_id; snapshot_id = blank_snapshot_id; digest = replicate 32 0 }

unfoldable pub blank_voter_configuration : VoterConfiguration
blank_voter_configuration = record { epoch = 0; members = replicate 9 blank_voter_slot_member; count = 0 }

unfoldable pub blank_lost_voter_attestation_v1 : LostVoterAttestationV1
blank_lost_voter_attestation_v1 =
    record {
      request_id = replicate 16 0;
      request_digest = replicate 32 0;
      cluster_instance = replicate 32 0;
      slot = 0;
      expected_incarnation = 0;
      old_descriptor_digest = replicate 32 0;
      candidate_key_digest = replicate 32 0;
      admission_generation = 0;
      candidate_spiffe_id = blank_spiffe_id;
      controller_spiffe_id = blank_spiffe_id;
      signing_key_digest = replicate 32 0;
      reason = 0;
      policy_digest = replicate 32 0;
      observation_start_ms = 0;
      decision_ms = 0;
      issued_ms = 0;
      expires_ms = 0;
      signature = replicate 64 0;
    }

unfoldable pub blank_voter_replacement_evidence : VoterReplacementEvidence
blank_voter_replacement_evidence =
    record {
      prepare = blank_voter_slot_log_id;
      has_snapshot = false;
      snapshot = blank_voter_snapshot_evidence;
      learner = blank_optional_log_id;
      caught_up = blank_optional_log_id;
      continuation = blank_optional_log_id;
      fence = blank_optional_log_id;
      joint = blank_optional_log_id;
      uniform = blank_optional_log_id;
    }

unfoldable pub blank_voter_replacement_record : VoterReplacementRecord
blank_voter_replacement_record =
    record {
      expected_revision = 0;
      attestation = blank_lost_voter_attestation_v1;
      predecessor = blank_voter_configuration;
      successor = blank_voter_configuration;
      phase = 0;
      evidence = blank_voter_replacement_evidence;
    }

unfoldable pub blank_voter_slot_table : VoterSlotTable
blank_voter_slot_table =
    record {
      cluster_instance = replicate 32 0;
      manifest_digest = replicate 32 0;
      revision = 0;
      configuration_epoch = 0;
      slots = replicate 9 blank_voter_slot_record;
      count = 0;
      has_replacement = false;
      replacement = blank_voter_replacement_record;
    }
