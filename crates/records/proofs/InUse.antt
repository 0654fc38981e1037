-- The slots in use, as the code has them, are those of the table, as Successor speaks of them; and
-- what tests that the count is at most nine.
-- Assumes nothing.
use Rattle.std.proofs.Common.{ℕ, ◌+◌, ◌<◌, ◌≤◌, ◌≡◌, get_or, ◌∙◌, List, length, eqb, not, true, ap, refl, sym, arith}
use Rattle.std.proofs.lemmas.Grind.{common_steps}
use Rattle.std.proofs.lemmas.List.Sums.{prefix_len-le-length}
use Rattle.std.specs.List.{position, position_or_len}
use Rattle.std.specs.Option.{unwrap_or}
use Rattle.records.specs.Records.{all_below, first_from, no_slot_record, slot_at, slot_in, slots_in_use}
use Rattle.records.specs.RecordsLaws.{all_below-same, first-position, front-at}
use Rattle.records.specs.Successor.{slot_index, slot_succeeds}
use Rattle.records.specs.Validation.{valid_operation, valid_slots}
use Rattle.records.specs.ValidationLaws.{count_small}
use Rattle.records.specs.ValidParts.{configuration-holds, operation-holds, slots-hold}
use Rattle.records.specs.declared.records.VoterSlotRecord.{VoterSlotRecord}
use Rattle.records.specs.declared.records.VoterSlotTable.{VoterSlotTable}

module _ (t : VoterSlotTable) (used : List VoterSlotRecord) (e : used ≡ slots_in_use t) (h : length used ≡ t.count) where
  -- a slot's place
  pub place-in-use : (slot : ℕ) → slot_index t slot ≡ position_or_len (λ s. eqb s.member.identity.slot slot) used
  place-in-use slot =
      let bears = λ (s : VoterSlotRecord). eqb s.member.identity.slot slot in
      let q = λ (i : ℕ). bears (slot_at t i) in
      let at : (j : ℕ) → j < length used → q (0 + j) ≡ bears (get_or used j no_slot_record) =
      λ j l. let z : 0 + j ≡ j = omega arith in ap q z ∙ sym (ap bears (front-at no_slot_record t.slots used t.count e h j (omega arith))) in
      let counted : slot_index t slot ≡ first_from q (length used) 0 = ap (λ (n : ℕ). first_from q n 0) (sym h) in
      omega (arith, counted, first-position bears no_slot_record q used 0 at)

  -- the place, or the count
  pub index-in-use : (slot : ℕ) → unwrap_or (position (λ s. eqb s.member.identity.slot slot) used) t.count ≡ slot_index t slot
  index-in-use slot =
      let p = place-in-use slot in
      let l = prefix_len-le-length (λ s. not (eqb s.member.identity.slot slot)) used in
      grind (arith, common_steps, p, l)

  -- each slot against the old one at its place
  pub in-use-succeed : (old : VoterSlotTable)
      → all_below (λ i. slot_succeeds (slot_in used i) (slot_at old i)) (length used) ≡ all_below (λ i. slot_succeeds (slot_at t i) (slot_at old i)) t.count
  in-use-succeed old =
      rw h
      (all_below-same _ _ t.count (λ i l. ap (λ (s : VoterSlotRecord). slot_succeeds s (slot_at old i)) (front-at no_slot_record t.slots used t.count e h i l)))

-- the same for `grind`, which finds the list that is in use by itself
pub slot_index_in_use : (t : VoterSlotTable) (slot : ℕ) → length (slots_in_use t) ≡ t.count
    → slot_index t slot ≡ position_or_len (λ s. eqb s.member.identity.slot slot) (slots_in_use t)
slot_index_in_use t slot h = place-in-use t (slots_in_use t) refl h slot

pub succession_in_use : (t old : VoterSlotTable) → length (slots_in_use t) ≡ t.count
    → all_below (λ i. slot_succeeds (slot_at t i) (slot_at old i)) t.count ≡ all_below (λ i. slot_succeeds (slot_in (slots_in_use t) i) (slot_at old i)) (length (slots_in_use t))
succession_in_use t old h = sym (in-use-succeed t (slots_in_use t) refl h old)

-- the slots of a table have few enough places, and so has the table of an open request
pub slots_few : (t : VoterSlotTable) → valid_slots t ≡ true → t.count ≤ 9
slots_few t h = count_small t.count (slots-hold t h).odd

pub operation_few : (t : VoterSlotTable) → valid_operation t t.replacement ≡ true → t.count ≤ 9
operation_few t h =
    let o = operation-holds t t.replacement h in
    let few = count_small t.replacement.predecessor.count (configuration-holds t.replacement.predecessor o.predecessor).odd in
    let same = o.head.predecessor in
    omega (arith, few, same)
