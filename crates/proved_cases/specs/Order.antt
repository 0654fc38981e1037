-- The table and the attestation of OrderBytes, field by field: what must be read from those bytes.
-- No two fields hold the same unless validity asks for it, so that two fields which changed places
-- in the format, the reader and the writer alike are seen. OrderLaws has the theorems.
-- Document 01, "Ported": the records of records.rs in the bytes of codec.rs. The values are those
-- of `oracle/oracle/src/ordered.rs`.
-- Assumes nothing.
use Rattle.std.specs.Prelude.{ℕ, true, [], ◌∷◌, ◌++◌, replicate}
use Rattle.identity.specs.Identity.{identity_of}
use Rattle.identity.specs.Text.{scheme}
use Rattle.records.specs.Blank.{blank_voter_slot_member, blank_voter_slot_record}
use Rattle.records.specs.Records.{voting, uniform, completed, superseded, time_bound_loss}
use Rattle.records.specs.declared.records.SpiffeId.{SpiffeId}
use Rattle.records.specs.declared.records.SnapshotId.{SnapshotId}
use Rattle.records.specs.declared.records.OptionalLogId.{OptionalLogId}
use Rattle.records.specs.declared.records.VoterSlotMember.{VoterSlotMember}
use Rattle.records.specs.declared.records.VoterSlotRecord.{VoterSlotRecord}
use Rattle.records.specs.declared.records.VoterConfiguration.{VoterConfiguration}
use Rattle.records.specs.declared.records.LostVoterAttestationV1.{LostVoterAttestationV1}
use Rattle.records.specs.declared.records.VoterReplacementEvidence.{VoterReplacementEvidence}
use Rattle.records.specs.declared.records.VoterReplacementRecord.{VoterReplacementRecord}
use Rattle.records.specs.declared.records.VoterSlotTable.{VoterSlotTable}
use Rattle.proved_cases.specs.Tables.{cut}
use Rattle.proved_cases.specs.OrderBytes.{filled}

-- ---- members and receipts

-- slot 259
abbrev pub first_member : VoterSlotMember
first_member =
    record { identity = identity_of 259 21; key_digest = filled 32 0x31; descriptor_digest = filled 32 0x41; admission_generation = 351 }

-- the one that is replaced
abbrev pub replaced_member : VoterSlotMember
replaced_member =
    record { identity = identity_of 516 40; key_digest = filled 32 0x34; descriptor_digest = filled 32 0x44; admission_generation = 350 }

-- and the one that takes its place
abbrev pub second_member : VoterSlotMember
second_member =
    record { identity = identity_of 516 42; key_digest = filled 32 0x32; descriptor_digest = filled 32 0x42; admission_generation = 352 }

-- slot 773
abbrev pub third_member : VoterSlotMember
third_member =
    record { identity = identity_of 773 63; key_digest = filled 32 0x33; descriptor_digest = filled 32 0x43; admission_generation = 353 }

-- with the receipt of its own incarnation
abbrev pub first_slot : VoterSlotRecord
first_slot =
    record {
      member = first_member;
      retired_through = 20;
      phase = voting;
      has_last_result = true;
      last_result =
          record {
            request_id = filled 16 0x51;
            request_digest = filled 32 0x61;
            incarnation = 21;
            revision = 311;
            configuration_epoch = 321;
            kind = completed;
            terminal = cut 331 341;
          };
    }

-- its receipt is of the request that the open one superseded, so it ends at the prepare of that one
abbrev pub second_slot : VoterSlotRecord
second_slot =
    record {
      member = second_member;
      retired_through = 41;
      phase = voting;
      has_last_result = true;
      last_result =
          record {
            request_id = filled 16 0x52;
            request_digest = filled 32 0x62;
            incarnation = 41;
            revision = 312;
            configuration_epoch = 322;
            kind = superseded;
            terminal = cut 332 342;
          };
    }

-- as the first
abbrev pub third_slot : VoterSlotRecord
third_slot =
    record {
      member = third_member;
      retired_through = 62;
      phase = voting;
      has_last_result = true;
      last_result =
          record {
            request_id = filled 16 0x53;
            request_digest = filled 32 0x63;
            incarnation = 63;
            revision = 313;
            configuration_epoch = 323;
            kind = completed;
            terminal = cut 333 343;
          };
    }

-- ---- the attestation

-- `spiffe://a/b`
abbrev pub candidate_name : SpiffeId
candidate_name = record { len = 12; bytes = scheme ++ (0x61 ∷ 0x2F ∷ 0x62 ∷ []) ++ filled 2036 0 }

-- `spiffe://c`
abbrev pub controller_name : SpiffeId
controller_name = record { len = 10; bytes = scheme ++ (0x63 ∷ []) ++ filled 2038 0 }

-- eighteen fields, no two alike
unfoldable pub ordered_attestation : LostVoterAttestationV1
ordered_attestation =
    record {
      request_id = filled 16 0x54;
      request_digest = filled 32 0x64;
      cluster_instance = filled 32 0x11;
      slot = 516;
      expected_incarnation = 41;
      old_descriptor_digest = filled 32 0x45;
      candidate_key_digest = filled 32 0x32;
      admission_generation = 352;
      candidate_spiffe_id = candidate_name;
      controller_spiffe_id = controller_name;
      signing_key_digest = filled 32 0x71;
      reason = time_bound_loss;
      policy_digest = filled 32 0x72;
      observation_start_ms = 401;
      decision_ms = 402;
      issued_ms = 403;
      expires_ms = 404;
      signature = filled 64 0x73;
    }

-- ---- the open request

-- the configurations differ in slot 516
abbrev pub ordered_predecessor : VoterConfiguration
ordered_predecessor = record { epoch = 514; members = first_member ∷ replaced_member ∷ third_member ∷ replicate 6 blank_voter_slot_member; count = 3 }

abbrev pub ordered_successor : VoterConfiguration
ordered_successor = record { epoch = 515; members = first_member ∷ second_member ∷ third_member ∷ replicate 6 blank_voter_slot_member; count = 3 }

-- `snap`
abbrev pub snapshot_name : SnapshotId
snapshot_name = record { len = 4; bytes = (0x73 ∷ 0x6E ∷ 0x61 ∷ 0x70 ∷ []) ++ filled 252 0 }

-- a cut that is present
abbrev pub present_cut : ℕ → ℕ → OptionalLogId
present_cut term index = record { is_some = true; cut = cut term index }

-- every cut is present, and no two are alike
abbrev pub ordered_evidence : VoterReplacementEvidence
ordered_evidence =
    record {
      prepare = cut 332 342;
      has_snapshot = true;
      snapshot = record { cut = cut 611 621; snapshot_id = snapshot_name; digest = filled 32 0x74 };
      learner = present_cut 612 622;
      caught_up = present_cut 613 623;
      continuation = present_cut 614 624;
      fence = present_cut 615 625;
      joint = present_cut 616 626;
      uniform = present_cut 617 627;
    }

-- in phase Uniform
abbrev pub ordered_request : VoterReplacementRecord
ordered_request =
    record {
      expected_revision = 301;
      attestation = ordered_attestation;
      predecessor = ordered_predecessor;
      successor = ordered_successor;
      phase = uniform;
      evidence = ordered_evidence;
    }

-- ---- the table

-- revision and epoch, and the three slots
unfoldable pub ordered_table : VoterSlotTable
ordered_table =
    record {
      cluster_instance = filled 32 0x11;  -- as the attestation's
      manifest_digest = filled 32 0x22;
      revision = 0x0102030405060708;
      configuration_epoch = 515;
      slots = first_slot ∷ second_slot ∷ third_slot ∷ replicate 6 blank_voter_slot_record;
      count = 3;
      has_replacement = true;
      replacement = ordered_request;
    }
