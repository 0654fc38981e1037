-- Laws of the definitions in Representable: a slot that fits its 16 bits, and a text by its length.
-- Each name here is a step of a proof; what is right is said in Representable.
-- Assumes nothing.
use Rattle.std.specs.Prelude.{ℕ, ◌<◌, ◌≤◌, ◌^◌, ◌≡◌, true, false, ◌&&◌, List, take, drop, leb}
use Rattle.std.proofs.Math.Bool.{and-true}
use Rattle.std.proofs.Common.{arith, leb-true, le-leb}
use Rattle.std.proofs.lemmas.Bool.{lt-leb}
use Rattle.identity.specs.Identity.{is_slot_id, is_configuration_epoch, max_slot_id}
use Rattle.identity.specs.Text.{every, is_utf8}
use Rattle.identity.specs.Utf8Laws.{and_left, and_right}
use Rattle.records.specs.Records.{max_fixed_voter_slots}
use Rattle.records.specs.Representable.{is_zero, is_text, representable}
use Rattle.records.specs.declared.records.VoterSlotTable.{VoterSlotTable}

-- A number of 16 bits is no larger than the largest slot.
pub slot-id : (slot : ℕ) → slot < 2 ^ 16 → is_slot_id slot ≡ leb 1 slot
slot-id slot h = rw (le-leb slot max_slot_id (omega arith)) (and-true (leb 1 slot))

module _ (most len : ℕ) (bytes : List ℕ) where
  pub text-long : most < len → is_text most len bytes ≡ false
  unfolding is_text
  text-long h = rw (lt-leb len most h)

  pub text-fits : len ≤ most → is_text most len bytes ≡ (is_utf8 (take len bytes) && every is_zero (drop len bytes))
  unfolding is_text
  text-fits h = rw (le-leb len most h)

-- A table that the Rust types can hold has at most nine slots.
pub representable-count : (t : VoterSlotTable) → representable t ≡ true → t.count ≤ max_fixed_voter_slots
unfolding representable
representable-count t h =
    leb-true t.count max_fixed_voter_slots
    (and_left (leb t.count max_fixed_voter_slots) _ (and_right (is_configuration_epoch t.configuration_epoch) _ h))
