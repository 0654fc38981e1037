-- Slots, incarnations, epochs and node ids: document 01, "Ported", and the numbers 1, 2 and 3 of
-- its refusals.
-- From voter_slots/identity.rs and identity.rs: `SlotId`, `VoterIncarnation`, `VoterSlotIdentity`,
-- `ConsensusNodeId`.
-- Assumes nothing.
use Rattle.std.specs.Prelude.{ℕ, ◌+◌, ◌-◌, ◌*◌, ◌/◌, ◌%◌, ◌^◌, Bool, cond, ◌&&◌, eqb, leb, Result, Ok, Err}
use Rattle.identity.specs.declared.answer.Refusal.{Refusal}
use Rattle.identity.specs.declared.answer.Refusal.TheVariants.{IncarnationExhausted}
use Rattle.identity.specs.Answer.{Answer, number_of_refusal, Accepted, InvalidSlot, InvalidIncarnation}
use Rattle.identity.specs.declared.identity.VoterSlotIdentity.{VoterSlotIdentity}

-- "Slot 1 to 65,535, incarnation 1 to 2^47, epoch from 1."
abbrev pub max_slot_id : ℕ
max_slot_id = 65535

abbrev pub max_voter_incarnation : ℕ
max_voter_incarnation = 2 ^ 47

abbrev pub is_slot_id : ℕ → Bool
is_slot_id value = leb 1 value && leb value max_slot_id

abbrev pub is_voter_incarnation : ℕ → Bool
is_voter_incarnation value = leb 1 value && leb value max_voter_incarnation

abbrev pub is_configuration_epoch : ℕ → Bool
is_configuration_epoch value = leb 1 value

-- `CONSENSUS_NODE_ID_MAX` and `ConsensusNodeId::new` of identity.rs: not 0, and below 2^63.
-- Document 01 refuses a node id from 2^63 on in an observation with 30; 0, which the Rust's type
-- can hold all the same, is compared there (DECISIONS, reading 1).
abbrev pub max_consensus_node_id : ℕ
max_consensus_node_id = 2 ^ 63 - 1

abbrev pub is_consensus_node_id : ℕ → Bool
is_consensus_node_id value = leb 1 value && leb value max_consensus_node_id

-- `SlotId::new`: number 1
unfoldable pub validate_slot_id : ℕ → Answer
validate_slot_id value = cond (is_slot_id value) Accepted InvalidSlot

-- `VoterIncarnation::new`: number 2
unfoldable pub validate_voter_incarnation : ℕ → Answer
validate_voter_incarnation value = cond (is_voter_incarnation value) Accepted InvalidIncarnation

-- both, and the slot is tested first
unfoldable pub validate_voter_slot_identity : VoterSlotIdentity → Answer
validate_voter_slot_identity identity =
    cond (is_slot_id identity.slot) (validate_voter_incarnation identity.incarnation) InvalidSlot

-- the Rust's `?`: a value that passed its check, or the check's refusal
abbrev pub passed_with : {A : Type 0} → Answer → A → Result A Refusal
passed_with (Ok nothing) value = Ok value
passed_with (Err e) value = Err e

-- `VoterIncarnation::next`: 3 after the largest; a number that is no incarnation has none after it
unfoldable pub next_voter_incarnation : ℕ → Result ℕ Refusal
next_voter_incarnation incarnation =
    cond (eqb incarnation max_voter_incarnation) (Err IncarnationExhausted)
    (passed_with (validate_voter_incarnation incarnation) (incarnation + 1))

-- a slot and an incarnation, whatever the numbers are
abbrev pub identity_of : ℕ → ℕ → VoterSlotIdentity
identity_of slot incarnation = record { slot = slot; incarnation = incarnation }

-- `VoterSlotIdentity::new`, of numbers that are tested here
unfoldable pub new_voter_slot_identity : ℕ → ℕ → Result VoterSlotIdentity Refusal
new_voter_slot_identity slot incarnation =
    passed_with (validate_voter_slot_identity (identity_of slot incarnation)) (identity_of slot incarnation)

-- how many node ids one incarnation number takes: a place for each slot, and one for 0
abbrev pub node_id_span : ℕ
node_id_span = max_slot_id + 1

-- `VoterSlotIdentity::node_id`: "Node id = (incarnation − 1) × 65,536 + slot"
unfoldable pub node_id : VoterSlotIdentity → Result ℕ Refusal
node_id identity =
    passed_with (validate_voter_slot_identity identity) ((identity.incarnation - 1) * node_id_span + identity.slot)

-- `VoterSlotIdentity::from_node_id`: "reading one tests the slot first"
unfoldable pub from_node_id : ℕ → Result VoterSlotIdentity Refusal
from_node_id node = new_voter_slot_identity (node % node_id_span) (node / node_id_span + 1)

-- "For every case of an enum answer, a definition gives this paper's number and values": those of
-- the two results. A refusal has the value 0, or slot 0 and incarnation 0. The contracts equate the
-- pair of both.
abbrev pub number_of_number : Result ℕ Refusal → ℕ
number_of_number (Ok value) = 0
number_of_number (Err e) = number_of_refusal e

abbrev pub value_of_number : Result ℕ Refusal → ℕ
value_of_number (Ok value) = value
value_of_number (Err e) = 0

abbrev pub number_and_value : Result ℕ Refusal → ℕ × ℕ
number_and_value r = (number_of_number r, value_of_number r)

abbrev pub number_of_identity : Result VoterSlotIdentity Refusal → ℕ
number_of_identity (Ok identity) = 0
number_of_identity (Err e) = number_of_refusal e

abbrev pub value_of_identity : Result VoterSlotIdentity Refusal → VoterSlotIdentity
value_of_identity (Ok identity) = identity
value_of_identity (Err e) = identity_of 0 0

abbrev pub number_and_identity : Result VoterSlotIdentity Refusal → ℕ × VoterSlotIdentity
number_and_identity r = (number_of_identity r, value_of_identity r)
