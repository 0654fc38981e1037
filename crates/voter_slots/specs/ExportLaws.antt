-- What the exported functions know of a table that was read, and each way that a reading and a writing can go.
-- Assumes nothing.
use Rattle.std.specs.Prelude.{Ok, ℕ, Bool, ◌≤◌, ◌<◌, ◌≡◌, refl, true, false, List, length}
use Rattle.std.proofs.Math.Path.{sym, ap}
use Rattle.std.proofs.Common.{◌∙◌, arith, eqb-true}
use Rattle.std.proofs.lemmas.Bool.{false≢true}
use Rattle.std.proofs.Math.Nat.{zero-add}
use Rattle.std.proofs.Math.Dec.{eqb}
use Rattle.identity.specs.Answer.{is_accepted, number_of, Answer, Accepted}
use Rattle.identity.specs.AnswerLaws.{accepted-is-0}
use Rattle.format.specs.Combinators.{Bytes}
use Rattle.format.specs.Put.{Put}
use Rattle.format.specs.Res.{Res}
use Rattle.format.specs.Res.Res.{ok, no}
use Rattle.records.specs.Blank.{blank_voter_slot_table}
use Rattle.records.specs.Validation.{validate}
use Rattle.records.specs.ValidParts.{valid-parts}
use Rattle.records.specs.declared.records.VoterSlotTable.{VoterSlotTable}
use Rattle.layout.specs.Layout.{table}
use Rattle.layout.specs.Parts.{TableFits}
use Rattle.codec.specs.Codec.{decoded, decode_voter_slot_table, encode_voter_slot_table, table_bytes}
use Rattle.codec.specs.CodecLaws.{encoded-is, read-encoded, read-valid, read-written}
use Rattle.codec.specs.EntryLaws.{encode-short, put-start}
use Rattle.codec.specs.FitsLaws.{table_fits}
use Rattle.control.specs.Retired.{is_retired, retired_number, retired_test}
use Rattle.control.specs.RetiredLaws.{test-says}
use Rattle.journal.specs.RefusalLaws.{table-refused}
use Rattle.voter_slots.specs.declared.result.VoterSlotsResult.{VoterSlotsResult}
use Rattle.voter_slots.specs.Export.{ReadAs, leaves, read_by, read_of, refused_result, numbers_of, retired_by, retired_of, with_table, write_of, written_by, written}

-- ---- what was read

read-by : (bs : List ℕ) (t : VoterSlotTable) (r : Res VoterSlotTable) → decode_voter_slot_table bs ≡ r → ◌≡◌ {A = ℕ × VoterSlotTable} (decoded blank_voter_slot_table r) (0, t)
    → (n : ℕ) × (decode_voter_slot_table bs ≡ ok t n)
unfolding decoded
read-by bs t (ok u n) p q = let same : u ≡ t = λ i. (q i).1 in (n, p ∙ ap (λ (x : VoterSlotTable). ok x n) same)
read-by bs t (no k) p q = let none : k ≡ 0 = λ i. (q i).0 in absurd (table-refused bs (p ∙ ap (λ (x : ℕ). no x) none))

pub read_as : (bs : List ℕ) (t : VoterSlotTable) → ReadAs bs t → (n : ℕ) × (decode_voter_slot_table bs ≡ ok t n)
read_as bs t e = read-by bs t (decode_voter_slot_table bs) refl e

module _ (bs : List ℕ) (answer : Answer) (t : VoterSlotTable) (met : ◌≡◌ {A = ℕ × VoterSlotTable} (number_of answer, t) (decoded blank_voter_slot_table (decode_voter_slot_table bs))) where
  -- the reader accepted
  pub is_read : is_accepted answer ≡ true → ReadAs bs t
  is_read h = sym met ∙ ap (λ k. (k, t)) (eqb-true (number_of answer) 0 (sym (accepted-is-0 answer) ∙ h))

  no-by : (r : Res VoterSlotTable) → decode_voter_slot_table bs ≡ r → ◌≡◌ {A = ℕ × VoterSlotTable} (number_of answer, t) (decoded blank_voter_slot_table r) → is_accepted answer ≡ false
      → decode_voter_slot_table bs ≡ no (number_of answer)
  unfolding decoded
  no-by (ok u n) p q h = let zero : number_of answer ≡ 0 = λ i. (q i).0 in absurd (false≢true (sym h ∙ accepted-is-0 answer ∙ ap (λ k. eqb k 0) zero))
  no-by (no k) p q h = let same : number_of answer ≡ k = λ i. (q i).0 in p ∙ ap (λ (x : ℕ). no x) (sym same)

  -- the reader refused
  pub is-refused : is_accepted answer ≡ false → decode_voter_slot_table bs ≡ no (number_of answer)
  is-refused h = no-by (decode_voter_slot_table bs) refl met h

-- a place that was filled
pub filled_as : (bs : List ℕ) (t : VoterSlotTable) (n : ℕ) → ok t n ≡ decode_voter_slot_table bs → ReadAs bs t
unfolding decoded
filled_as bs t n e = ap (decoded blank_voter_slot_table) (sym e)

module _ (bs : List ℕ) (t : VoterSlotTable) (z : Bytes bs) (e : ReadAs bs t) where
  pub read-accepted : validate t ≡ Accepted
  read-accepted = read-valid bs z (read_as bs t e).1

  pub read_fits : TableFits t
  read_fits = table_fits t (valid-parts t read-accepted).0

-- ---- reading

pub read_ok : (bs : List ℕ) (t : VoterSlotTable) → ReadAs bs t → numbers_of t (length bs) ≡ read_of bs
unfolding read_by
read_ok bs t e = ap (read_by (length bs)) (sym (read_as bs t e).1)

pub read_no : (bs : List ℕ) {k : ℕ} → decode_voter_slot_table bs ≡ no k → refused_result k ≡ read_of bs
unfolding read_by
read_no bs e = ap (read_by (length bs)) (sym e)

-- ---- writing

pub written-short : (t : VoterSlotTable) (out : List ℕ) → validate t ≡ Accepted → length out < length (table_bytes t) → leaves 32 out ≡ written t out
unfolding written_by
written-short t out v l = ap (written_by t out) (sym (encode-short t out v l))

pub written-ok : (t : VoterSlotTable) (out : List ℕ) {after : List ℕ} {n : ℕ} {r : VoterSlotsResult} → validate t ≡ Accepted → length (table.enc t) ≤ length out
    → Put (table.enc t) 0 out after n → r ≡ numbers_of t n → ◌≡◌ {A = VoterSlotsResult × List ℕ} (r, after) (written t out)
unfolding table_bytes written_by
written-ok t out {after} {n} v l p e =
    let q : encode_voter_slot_table t out ≡ ok after n =
    encoded-is t out v l ∙ (λ i. ok (sym (p.bytes ∙ put-start (table.enc t) out) i) (sym (p.next ∙ zero-add (length (table.enc t))) i)) in
    ap (λ (x : VoterSlotsResult). (x, after)) e ∙ ap (written_by t out) (sym q)

module _ (bs : List ℕ) (t : VoterSlotTable) (out : List ℕ) (z : Bytes bs) (e : ReadAs bs t) where
  pub again-short : length out < length bs → leaves 32 out ≡ written t out
  again-short l = written-short t out (read-accepted bs t z e) (omega (arith, ap length (read-written bs z (read_as bs t e).1)))

  pub again-ok : {after : List ℕ} {n : ℕ} {r : VoterSlotsResult} → length bs ≤ length out → Put bs 0 out after n → r ≡ numbers_of t n
      → ◌≡◌ {A = VoterSlotsResult × List ℕ} (r, after) (written t out)
  unfolding written_by
  again-ok {after} {n} l p f =
      let q : encode_voter_slot_table t out ≡ ok after n =
      read-encoded bs z (read_as bs t e).1 out l ∙ (λ i. ok (sym (p.bytes ∙ put-start bs out) i) (sym (p.next ∙ zero-add (length bs)) i)) in
      ap (λ (x : VoterSlotsResult). (x, after)) f ∙ ap (written_by t out) (sym q)

pub write-ok : (bs : List ℕ) (t : VoterSlotTable) (out : List ℕ) → ReadAs bs t → written t out ≡ write_of bs out
unfolding with_table
write-ok bs t out e = ap (λ r. with_table r out (λ x. written x out)) (sym (read_as bs t e).1)

pub write-no : (bs : List ℕ) (out : List ℕ) {k : ℕ} → decode_voter_slot_table bs ≡ no k → leaves k out ≡ write_of bs out
unfolding with_table
write-no bs out e = ap (λ r. with_table r out (λ x. written x out)) (sym e)

-- ---- the retired test

pub retired-no : (bs : List ℕ) (node : ℕ) {k : ℕ} → decode_voter_slot_table bs ≡ no k → k ≡ retired_of bs node
unfolding retired_by
retired-no bs node e = ap (retired_by node) (sym e)

module _ (bs : List ℕ) (t : VoterSlotTable) (node : ℕ) (z : Bytes bs) (e : ReadAs bs t) where
  retired-as : {b : ℕ} → retired_number (retired_test t node) ≡ b → b ≡ retired_of bs node
  unfolding retired_by
  retired-as q = sym q ∙ ap (retired_by node) (sym (read_as bs t e).1)

  pub says-yes : is_retired t node ≡ true → 101 ≡ retired_of bs node
  says-yes h =
      retired-as (ap retired_number (test-says t node (valid-parts t (read-accepted bs t z e)).0 ∙ ap (λ (b : Bool). Ok b) h))

  pub says-no : is_retired t node ≡ false → 100 ≡ retired_of bs node
  says-no h =
      retired-as (ap retired_number (test-says t node (valid-parts t (read-accepted bs t z e)).0 ∙ ap (λ (b : Bool). Ok b) h))

  -- either
  pub says : retired_number (Ok (is_retired t node)) ≡ retired_of bs node
  says = retired-as (ap retired_number (test-says t node (valid-parts t (read-accepted bs t z e)).0))
