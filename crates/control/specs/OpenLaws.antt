-- A valid table with an open request, taken apart: its slots, its request, and the slot being
-- replaced.
-- Each name here is a step of a proof; what is right is said in Validation.
-- Assumes nothing.
use Rattle.std.specs.Prelude.{ℕ, ◌<◌, refl, ◌≡◌, Bool, true, false, not, ◌&&◌, eqb, ltb}
use Rattle.std.proofs.Common.{sym, ap, ◌∙◌, arith, eqb-true, ltb-false, ltb-true, eq-eqb, ne_eqb}
use Rattle.std.proofs.lemmas.Bool.{false≢true}
use Rattle.identity.specs.Answer.{Accepted}
use Rattle.records.specs.declared.records.VoterSlotTable.{VoterSlotTable}
use Rattle.records.specs.Records.{slot_at, member_at}
use Rattle.records.specs.Validation.{is_active, claims_of, has_target, validity, validate}
use Rattle.records.specs.ValidationLaws.{member_answer}
use Rattle.records.specs.RecordsLaws.{all_below-all}
use Rattle.records.specs.TestLaws.{and_both, first-at, first_absent, apart}
use Rattle.records.specs.ValidParts.{SlotHolds, SlotsHold, OperationHolds, TargetHolds, OtherHolds, member-target, member-other, open-holds, valid-parts}
use Rattle.records.specs.RepresentableParts.{ReplacementHolds, replacement-holds, replacement-fits}
use Rattle.control.specs.Control.{target_index, target_slot}

pub record Open (t : VoterSlotTable) : Type 0 where
  pub fits : Rattle.records.specs.Representable.representable t ≡ true
  pub valid : validity t ≡ Accepted
  pub open-now : t.has_replacement ≡ true
  pub parts : ReplacementHolds t.replacement
  pub slots : SlotsHold t
  pub operation : OperationHolds t t.replacement
  pub member : (i : ℕ) → i < t.count → member_answer t i ≡ Accepted
  -- the slot being replaced is there, and is the only one of its number
  pub below : target_index t < t.count
  pub named : (target_slot t).member.identity.slot ≡ t.replacement.attestation.slot
  pub alone : (i : ℕ) → i < t.count → (i ≡ target_index t → ⊥) → (slot_at t i).member.identity.slot ≡ t.replacement.attestation.slot → ⊥

target_below : (t : VoterSlotTable) → has_target t ≡ true → target_index t < t.count
target_below t h = go (ltb (target_index t) t.count) refl
  where
    is : ℕ → Bool
    is i = eqb (slot_at t i).member.identity.slot t.replacement.attestation.slot

    go : (b : Bool) → ltb (target_index t) t.count ≡ b → target_index t < t.count
    go true e = ltb-true _ _ e
    go false e =
        let l = ltb-false (target_index t) t.count e in
        absurd
        (false≢true
        (sym (ap not (all_below-all (λ i. not (is i)) t.count (λ i k. ap not (first_absent is t.count 0 i (omega arith) (omega arith) (omega arith))))) ∙ h))

pub open-of-valid : (t : VoterSlotTable) → validate t ≡ Accepted → t.has_replacement ≡ true → Open t
open-of-valid t h o =
    let p = valid-parts t h in
    let v = open-holds t p.1 o in
    let k = target_below t v.target in
    let n : (target_slot t).member.identity.slot ≡ t.replacement.attestation.slot =
    eqb-true _ _ (first-at (λ i. eqb (slot_at t i).member.identity.slot t.replacement.attestation.slot) t.count 0 (omega arith)) in
    record {
      fits = p.0;
      valid = p.1;
      open-now = o;
      parts = replacement-holds t.replacement (replacement-fits t p.0 o);
      slots = v.slots;
      operation = v.operation;
      member = v.member;
      below = k;
      named = n;
      alone = λ i l d e. apart (λ i. (slot_at t i).member.identity.slot) t.count v.slots.rise i (target_index t) l k d (e ∙ sym n);
    }

module _ (t : VoterSlotTable) (o : Open t) where
  -- the slot being replaced, and another one, with their members in the predecessor
  pub target-of : TargetHolds (claims_of t.replacement) (target_slot t) (member_at t.replacement.predecessor (target_index t))
  target-of =
      member-target (claims_of t.replacement) (target_slot t) (member_at t.replacement.predecessor (target_index t)) (member_at t.replacement.successor (target_index t))
      (o.member (target_index t) o.below) o.named

  pub other-of : (i : ℕ) → i < t.count → (i ≡ target_index t → ⊥) → OtherHolds (claims_of t.replacement) (slot_at t i) (member_at t.replacement.predecessor i)
  other-of i l d =
      member-other (claims_of t.replacement) (slot_at t i) (member_at t.replacement.predecessor i) (member_at t.replacement.successor i) (o.member i l) (o.alone i l d)

  -- the one is active, another one is not
  pub target-active : is_active t (target_slot t) ≡ true
  target-active = and_both _ _ o.open-now (eq-eqb _ _ (sym o.named))

  pub other-idle : (i : ℕ) → i < t.count → (i ≡ target_index t → ⊥) → eqb t.replacement.attestation.slot (slot_at t i).member.identity.slot ≡ false
  other-idle i l d = ne_eqb _ _ (λ e. o.alone i l d (sym e))

  pub target-slot : SlotHolds t.revision t.configuration_epoch true (target_slot t)
  target-slot = rw target-active at (o.slots.each (target_index t) o.below)

  pub other-slot : (i : ℕ) → i < t.count → (i ≡ target_index t → ⊥) → SlotHolds t.revision t.configuration_epoch false (slot_at t i)
  other-slot i l d = rw (ap (λ (b : Bool). b && eqb t.replacement.attestation.slot (slot_at t i).member.identity.slot) o.open-now ∙ other-idle i l d) at (o.slots.each i l)
