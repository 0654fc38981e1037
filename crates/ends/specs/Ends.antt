-- Two tables at both ends of the size: one slot and no request, 180 bytes; nine slots and a request
-- with every part at its longest, 8,072.
-- Document 01's limits: nine slots, names of 2,048 bytes, a snapshot id of 256. EndsLaws has the
-- theorems.
-- Assumes nothing.
use Rattle.std.specs.Prelude.{ℕ, ◌-◌, true, false, List, [], ◌∷◌, ◌++◌, replicate}
use Rattle.identity.specs.Identity.{identity_of}
use Rattle.identity.specs.Text.{scheme}
use Rattle.records.specs.Blank.{blank_voter_replacement_result, blank_voter_slot_record, blank_voter_replacement_record}
use Rattle.records.specs.Records.{voting, uniform, completed, storage_lost}
use Rattle.records.specs.declared.records.SpiffeId.{SpiffeId}
use Rattle.records.specs.declared.records.SnapshotId.{SnapshotId}
use Rattle.records.specs.declared.records.VoterSlotLogId.{VoterSlotLogId}
use Rattle.records.specs.declared.records.OptionalLogId.{OptionalLogId}
use Rattle.records.specs.declared.records.VoterSlotMember.{VoterSlotMember}
use Rattle.records.specs.declared.records.VoterReplacementResult.{VoterReplacementResult}
use Rattle.records.specs.declared.records.VoterSlotRecord.{VoterSlotRecord}
use Rattle.records.specs.declared.records.VoterSnapshotEvidence.{VoterSnapshotEvidence}
use Rattle.records.specs.declared.records.VoterConfiguration.{VoterConfiguration}
use Rattle.records.specs.declared.records.LostVoterAttestationV1.{LostVoterAttestationV1}
use Rattle.records.specs.declared.records.VoterReplacementEvidence.{VoterReplacementEvidence}
use Rattle.records.specs.declared.records.VoterReplacementRecord.{VoterReplacementRecord}
use Rattle.records.specs.declared.records.VoterSlotTable.{VoterSlotTable}

-- The member of a slot in an incarnation; its digests are told by the slot.
abbrev pub member_of_slot : ℕ → ℕ → VoterSlotMember
member_of_slot own slot =
    record { identity = identity_of slot own; key_digest = replicate 32 slot; descriptor_digest = replicate 32 slot; admission_generation = own }

-- a cut of term 1
abbrev pub cut_of_term_one : ℕ → VoterSlotLogId
cut_of_term_one index = record { term = 1; index = index }

-- ---- the smallest

-- its only slot, in the first incarnation
abbrev pub only_slot : VoterSlotRecord
only_slot =
    record {
      member = member_of_slot 1 1;
      retired_through = 0;
      phase = voting;
      has_last_result = false;
      last_result = blank_voter_replacement_result;
    }

-- "A valid table takes 180 .. bytes"
unfoldable pub smallest : VoterSlotTable
smallest =
    record {
      cluster_instance = replicate 32 0;
      manifest_digest = replicate 32 0;
      revision = 1;
      configuration_epoch = 1;
      slots = only_slot ∷ replicate 8 blank_voter_slot_record;
      count = 1;
      has_replacement = false;
      replacement = blank_voter_replacement_record;
    }

-- ---- the largest: the request replaces slot 1, in its third incarnation, and is past its last
-- step

-- the slots after slot 1
abbrev pub others : {A : Type 0} → (ℕ → A) → List A
others f = f 2 ∷ f 3 ∷ f 4 ∷ f 5 ∷ f 6 ∷ f 7 ∷ f 8 ∷ f 9 ∷ []

-- Each slot has a receipt of its second incarnation.
abbrev pub receipt_in : ℕ → VoterReplacementResult
receipt_in slot =
    record {
      request_id = replicate 16 slot;
      request_digest = replicate 32 slot;
      incarnation = 2;
      revision = 1;
      configuration_epoch = 1;
      kind = completed;
      terminal = cut_of_term_one 1;
    }

-- a slot in that incarnation, with its receipt
abbrev pub slot_with_receipt : ℕ → ℕ → VoterSlotRecord
slot_with_receipt own slot =
    record { member = member_of_slot own slot; retired_through = own - 1; phase = voting; has_last_result = true; last_result = receipt_in slot }

-- nine members: slot 1 in that incarnation, the others in their second
abbrev pub nine_members : ℕ → ℕ → VoterConfiguration
nine_members epoch own = record { epoch = epoch; members = member_of_slot own 1 ∷ others (member_of_slot 2); count = 9 }

-- a name of 2,048 bytes, a snapshot id of 256: `a` fills them up
abbrev pub long_name : SpiffeId
long_name = record { len = 2048; bytes = scheme ++ replicate 2039 97 }

abbrev pub long_snapshot_id : SnapshotId
long_snapshot_id = record { len = 256; bytes = replicate 256 97 }

-- both names are of the longest
abbrev pub long_attestation : LostVoterAttestationV1
long_attestation =
    record {
      request_id = replicate 16 0;
      request_digest = replicate 32 0;
      cluster_instance = replicate 32 0;
      slot = 1;
      expected_incarnation = 2;
      old_descriptor_digest = replicate 32 1;
      candidate_key_digest = replicate 32 1;
      admission_generation = 3;
      candidate_spiffe_id = long_name;
      controller_spiffe_id = long_name;
      signing_key_digest = replicate 32 0;
      reason = storage_lost;
      policy_digest = replicate 32 0;
      observation_start_ms = 1;
      decision_ms = 2;
      issued_ms = 3;
      expires_ms = 4;
      signature = replicate 64 0;
    }

-- the evidence has every cut, and the snapshot
abbrev pub long_snapshot : VoterSnapshotEvidence
long_snapshot = record { cut = cut_of_term_one 2; snapshot_id = long_snapshot_id; digest = replicate 32 0 }

abbrev pub present_index : ℕ → OptionalLogId
present_index index = record { is_some = true; cut = cut_of_term_one index }

abbrev pub long_evidence : VoterReplacementEvidence
long_evidence =
    record {
      prepare = cut_of_term_one 1;
      has_snapshot = true;
      snapshot = long_snapshot;
      learner = present_index 3;
      caught_up = present_index 4;
      continuation = present_index 5;
      fence = present_index 6;
      joint = present_index 7;
      uniform = present_index 8;
    }

-- the request, in phase Uniform
abbrev pub long_replacement : VoterReplacementRecord
long_replacement =
    record {
      expected_revision = 1;
      attestation = long_attestation;
      predecessor = nine_members 1 2;
      successor = nine_members 2 3;
      phase = uniform;
      evidence = long_evidence;
    }

-- ".. to 8,072 bytes"
unfoldable pub largest : VoterSlotTable
largest =
    record {
      cluster_instance = replicate 32 0;
      manifest_digest = replicate 32 0;
      revision = 2;
      configuration_epoch = 2;
      slots = slot_with_receipt 3 1 ∷ others (slot_with_receipt 2);
      count = 9;
      has_replacement = true;
      replacement = long_replacement;
    }
