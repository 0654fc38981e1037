-- Names for the numbers that a table holds in place of the Rust's enums, and for its places.
-- From records.rs: `VoterSlotPhase`, `VoterReplacementPhase`, `VoterReplacementResultKind`,
-- `VoterLossReason`, `MAX_FIXED_VOTER_SLOTS`.
-- Assumes nothing.
use Rattle.std.specs.Prelude.{ℕ, zero, suc, ◌+◌, Bool, true, false, cond, ◌&&◌, List, [], get_or, take}
use Rattle.identity.specs.Identity.{identity_of}
use Rattle.records.specs.declared.records.VoterSlotLogId.{VoterSlotLogId}
use Rattle.records.specs.declared.records.VoterSlotMember.{VoterSlotMember}
use Rattle.records.specs.declared.records.VoterSlotRecord.{VoterSlotRecord}
use Rattle.records.specs.declared.records.VoterConfiguration.{VoterConfiguration}
use Rattle.records.specs.declared.records.VoterSlotTable.{VoterSlotTable}

-- `MAX_FIXED_VOTER_SLOTS`: "nine places always"
abbrev pub max_fixed_voter_slots : ℕ
max_fixed_voter_slots = 9

-- "Under 3 slots 16": fewer leave no surviving quorum
abbrev pub min_replacement_slots : ℕ
min_replacement_slots = 3

-- `VoterSlotPhase`
abbrev pub pending : ℕ
pending = 0

abbrev pub catching_up : ℕ
catching_up = 1

abbrev pub voting : ℕ
voting = 2

-- `VoterReplacementPhase`: "Phases rank as the evidence runs, prepare lowest."
abbrev pub prepared : ℕ
prepared = 0

abbrev pub snapshot_installed : ℕ
snapshot_installed = 1

abbrev pub learner_added : ℕ
learner_added = 2

abbrev pub caught_up : ℕ
caught_up = 3

abbrev pub fenced : ℕ
fenced = 4

abbrev pub joint : ℕ
joint = 5

abbrev pub uniform : ℕ
uniform = 6

-- `VoterReplacementResultKind`
abbrev pub completed : ℕ
completed = 0

abbrev pub superseded : ℕ
superseded = 1

-- `VoterLossReason`: "0 in an absent part or blank, else 1 or 2"
abbrev pub storage_lost : ℕ
storage_lost = 1

abbrev pub time_bound_loss : ℕ
time_bound_loss = 2

-- p holds of each number below n
unfoldable pub all_below : (ℕ → Bool) → ℕ → Bool
all_below p zero = true
all_below p (suc n) = all_below p n && p n

-- the first of k numbers from i on of which p holds, or the one after them
unfoldable pub first_from : (ℕ → Bool) → ℕ → ℕ → ℕ
first_from p zero i = i
first_from p (suc k) i = cond (p i) i (first_from p k (i + 1))

-- What is read after the end of a list; no code does that: a cut, a member, a slot.
abbrev no_log_id : VoterSlotLogId
no_log_id = record { term = 0; index = 0 }

abbrev pub no_member : VoterSlotMember
no_member = record { identity = identity_of 0 0; key_digest = []; descriptor_digest = []; admission_generation = 0 }

abbrev pub no_slot_record : VoterSlotRecord
no_slot_record =
    record {
      member = no_member;
      retired_through = 0;
      phase = 0;
      has_last_result = false;
      last_result =
          record {
            request_id = [];
            request_digest = [];
            incarnation = 0;
            revision = 0;
            configuration_epoch = 0;
            kind = 0;
            terminal = no_log_id;
          };
    }

-- "nine places always, the first so many in use": the slot and the member at a place
abbrev pub slot_at : VoterSlotTable → ℕ → VoterSlotRecord
slot_at t i = get_or t.slots i no_slot_record

abbrev pub member_at : VoterConfiguration → ℕ → VoterSlotMember
member_at c i = get_or c.members i no_member

-- the members and the slots in use
abbrev pub members_in_use : VoterConfiguration → List VoterSlotMember
members_in_use c = take c.count c.members

abbrev pub slots_in_use : VoterSlotTable → List VoterSlotRecord
slots_in_use t = take t.count t.slots

-- the member and the slot at a place of those in use
abbrev pub member_in : List VoterSlotMember → ℕ → VoterSlotMember
member_in members i = get_or members i no_member

abbrev pub slot_in : List VoterSlotRecord → ℕ → VoterSlotRecord
slot_in slots i = get_or slots i no_slot_record
