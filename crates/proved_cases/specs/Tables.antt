-- The tables that the rows start from: slots 1 to n, each in its first incarnation, with no request
-- open.
-- For document 01, "Cases (P: proved)": "counts 1, 9 pass".
-- Assumes nothing.
use Rattle.std.specs.Prelude.{ℕ, zero, suc, ◌+◌, false, cond, List, [], ◌∷◌, replicate, leb}
use Rattle.identity.specs.Identity.{identity_of}
use Rattle.records.specs.Blank.{blank_voter_replacement_result, blank_voter_slot_record, blank_voter_replacement_record}
use Rattle.records.specs.Records.{voting}
use Rattle.records.specs.With.{slot_with}
use Rattle.records.specs.declared.records.VoterSlotLogId.{VoterSlotLogId}
use Rattle.records.specs.declared.records.VoterSlotMember.{VoterSlotMember}
use Rattle.records.specs.declared.records.VoterSlotRecord.{VoterSlotRecord}
use Rattle.records.specs.declared.records.VoterSlotTable.{VoterSlotTable}

-- a cut of that term and index
abbrev pub cut : ℕ → ℕ → VoterSlotLogId
cut term index = record { term = term; index = index }

-- a digest, or a key: 32 times one byte
abbrev pub key : ℕ → List ℕ
key b = replicate 32 b

-- a member of these parts; both its digests are of one byte
abbrev pub member_with : (slot incarnation digest generation : ℕ) → VoterSlotMember
member_with slot incarnation digest generation =
    record { identity = identity_of slot incarnation; key_digest = key digest; descriptor_digest = key digest; admission_generation = generation }

-- A slot of that number in its first incarnation, voting, with no receipt; its digests are of its
-- number.
abbrev pub fresh_slot : ℕ → VoterSlotRecord
fresh_slot slot = slot_with (member_with slot 1 slot 1) 0 voting false blank_voter_replacement_result

-- The slots 1 to n in the first places, blanks after them: k places from number i on.
abbrev pub places_of : ℕ → ℕ → ℕ → List VoterSlotRecord
places_of n zero i = []
places_of n (suc k) i = cond (leb i n) (fresh_slot i) blank_voter_slot_record ∷ places_of n k (i + 1)

-- A table with no request open.
abbrev pub idle_with : (revision epoch count : ℕ) → List VoterSlotRecord → VoterSlotTable
idle_with revision epoch count slots =
    record {
      cluster_instance = key 7;
      manifest_digest = key 6;
      revision = revision;
      configuration_epoch = epoch;
      slots = slots;
      count = count;
      has_replacement = false;
      replacement = blank_voter_replacement_record;
    }

-- A table of revision 1 of epoch 1 with n slots; n above 9 is a count that its places cannot have.
abbrev pub fresh_table : ℕ → VoterSlotTable
fresh_table n = idle_with 1 1 n (places_of n 9 1)
