-- A table with one slot put in another's place, and a next revision: what it takes to be valid, to
-- be one that the Rust types can hold, and to follow the old one.
-- Each name here is a step of a proof; what is right is said in Validation, Representable and
-- Successor.
-- Assumes nothing.
use Rattle.std.specs.Prelude.{ℕ, ◌+◌, ◌<◌, ◌≤◌, refl, ◌≡◌, Bool, true, false, cond, get_or, set, eqb, leb, ltb}
use Rattle.std.proofs.Common.{◌∙◌, arith, get_or-set_same}
use borrow.Author.Tests.{ltb-true, ltb-false, lt-leb, eq-eqb, ne_eqb, le-leb}
use Rattle.identity.specs.Identity.{is_configuration_epoch}
use Rattle.records.specs.declared.records.VoterSlotRecord.{VoterSlotRecord}
use Rattle.records.specs.declared.records.VoterReplacementRecord.{VoterReplacementRecord}
use Rattle.records.specs.declared.records.VoterSlotTable.{VoterSlotTable}
use Rattle.records.specs.Blank.{blank_voter_replacement_record}
use Rattle.records.specs.Equality.{same_voter_replacement_record}
use Rattle.records.specs.EqualityLaws.{eq_bytes-refl}
use Rattle.records.specs.Records.{max_fixed_voter_slots, all_below, no_slot_record, slot_at}
use Rattle.records.specs.Representable.{representable, representable_slot_record, representable_replacement, slot_place}
use Rattle.records.specs.Successor.{slot_succeeds, replacement_succeeds, head_succeeds, succession}
use Rattle.records.specs.Validation.{is_active}
use Rattle.records.specs.With.{table_with}
use Rattle.records.specs.RecordsLaws.{all_below-all}
use Rattle.records.specs.TestLaws.{passes, says, cond-true, cond-false, set-each}
use Rattle.records.specs.ValidParts.{SlotHolds, Distinct, distinct-sym, SlotsHold}
use Rattle.records.specs.RepresentableParts.{table_is, place_at, place-there}
use Rattle.records.specs.SuccessorParts.{head-succeeds-is, slot_same}

-- two slots of a table have no receipt of one request
pub distinct-two : (t : VoterSlotTable) → SlotsHold t → (i j : ℕ) → i < t.count → j < t.count → (i ≡ j → ⊥) → Distinct (slot_at t i) (slot_at t j)
distinct-two t h i j l m n = go (ltb i j) refl
  where
    go : (b : Bool) → ltb i j ≡ b → Distinct (slot_at t i) (slot_at t j)
    go true e = h.distinct i j (ltb-true i j e) m
    go false e = distinct-sym (slot_at t j) (slot_at t i) (let k = ltb-false i j e in h.distinct j i (omega arith) l)

module _ (t : VoterSlotTable) (fits : representable t ≡ true) (k : ℕ) (here : k < t.count) (s : VoterSlotRecord) where
  -- the slot at a place, with s put at place k
  abbrev pub placed : ℕ → VoterSlotRecord
  placed i = get_or (set t.slots k s) i no_slot_record

  pub at_place : placed k ≡ s
  at_place = get_or-set_same t.slots k s no_slot_record (place-there t fits k here)

  -- what holds of the slot put there and of all others holds of each
  pub at_each : (P : ℕ → VoterSlotRecord → Type 0) → P k s → ((i : ℕ) → (i ≡ k → ⊥) → P i (slot_at t i)) → (i : ℕ) → P i (placed i)
  at_each P a b = set-each P t.slots k s no_slot_record (place-there t fits k here) a b

  pub at-used : (P : ℕ → VoterSlotRecord → Type 0) (n : ℕ) → P k s → ((i : ℕ) → i < n → (i ≡ k → ⊥) → P i (slot_at t i)) → (i : ℕ) → i < n → P i (placed i)
  at-used P n a b = at_each (λ i x. i < n → P i x) (λ l. a) (λ i d l. b i l d)

  -- ---- the Rust types can hold it

  pub places-placed : representable_slot_record s ≡ true → all_below (λ i. slot_place (leb t.count i) (placed i)) max_fixed_voter_slots ≡ true
  places-placed r =
      all_below-all (λ i. slot_place (leb t.count i) (placed i)) max_fixed_voter_slots
      (at-used (λ i x. slot_place (leb t.count i) x ≡ true) max_fixed_voter_slots (cond-false (leb t.count k) _ _ (lt-leb t.count k here) ∙ r)
      (λ i l d. place_at t fits i l))

  module _ (revision epoch : ℕ) (is_open : Bool) (op : VoterReplacementRecord) where
    abbrev next : VoterSlotTable
    next = table_with t revision epoch (set t.slots k s) is_open op

    pub placed-fits : is_configuration_epoch epoch ≡ true → representable_slot_record s ≡ true
        → cond is_open (representable_replacement op) (same_voter_replacement_record op blank_voter_replacement_record) ≡ true → representable next ≡ true
    placed-fits e r o = passes (table_is next) (e, ((says (table_is t) fits).1.0, (places-placed r, o)))

    module _ (number : s.member.identity.slot ≡ (slot_at t k).member.identity.slot) where
      -- no slot's number changes
      pub number-placed : (i : ℕ) → (placed i).member.identity.slot ≡ (slot_at t i).member.identity.slot
      number-placed = at_each (λ i x. x.member.identity.slot ≡ (slot_at t i).member.identity.slot) number (λ i d. refl)

      -- ---- its slots are valid

      pub placed-slots : SlotsHold t → 0 < revision → SlotHolds revision epoch (is_active next s) s
          → ((i : ℕ) → i < t.count → (i ≡ k → ⊥) → SlotHolds revision epoch (is_active next (slot_at t i)) (slot_at t i))
          → ((i : ℕ) → i < t.count → (i ≡ k → ⊥) → Distinct s (slot_at t i)) → SlotsHold next
      placed-slots old some a b c =
          record {
            odd = old.odd;
            revision = some;
            rise = λ i l. omega (arith, old.rise i l, number-placed i, number-placed (i + 1));
            each = at-used (λ i x. SlotHolds revision epoch (is_active next x) x) t.count a b;
            distinct = λ j i m l.
                at-used (λ i x. j < i → Distinct (placed j) x) t.count
                (λ n. at-used (λ j y. j < k → Distinct y s) t.count (λ o. absurd (omega arith)) (λ j o d p. distinct-sym s (slot_at t j) (c j o d)) j (omega arith) n)
                (λ i l d n.
                at-used (λ j y. j < i → Distinct y (slot_at t i)) t.count (λ o. c i l d) (λ j o p q. old.distinct j i q l) j (omega arith) n)
                i l m;
          }

      -- ---- it follows the old one, where the open request does

      pub placed-succession : t.revision < revision → t.configuration_epoch ≤ epoch → slot_succeeds s (slot_at t k) ≡ true
          → succession next t ≡ replacement_succeeds next t
      unfolding succession
      placed-succession later raised follows =
          cond-true (head_succeeds next t) _ _
          (passes (head-succeeds-is next t)
          (eq_bytes-refl t.cluster_instance, (eq_bytes-refl t.manifest_digest, (le-leb t.revision revision (omega arith), (le-leb _ _ raised, eq-eqb t.count t.count refl)))))
          ∙ (cond-false (eqb revision t.revision) _ _ (ne_eqb revision t.revision (λ e. omega arith))
          ∙ cond-true (all_below (λ i. slot_succeeds (placed i) (slot_at t i)) t.count) _ _
          (all_below-all (λ i. slot_succeeds (placed i) (slot_at t i)) t.count
          (at-used (λ i x. slot_succeeds x (slot_at t i) ≡ true) t.count follows (λ i l d. slot_same (slot_at t i)))))
