-- What the entry points' proofs use: each way that a reading, a writing and a restart can go.
-- Assumes nothing.
use Rattle.std.specs.Prelude.{ℕ, zero, suc, ◌≤◌, ◌<◌, Ok, Err, Bool, ◌≡◌, refl, List, ◌++◌, length, take, drop, leb, eqb}
use Rattle.std.proofs.Common.{arith, zero-add, sym, ap, ap₂, ◌∙◌, length-append, le-leb}
use Rattle.std.proofs.Math.Bool.{true, false}
use Rattle.std.proofs.lemmas.Bool.{lt-leb}
use Rattle.identity.specs.Answer.{number_of, number_of_refusal, Accepted}
use Rattle.identity.specs.AnswerLaws.{accepted-is-0}
use Rattle.identity.specs.declared.answer.Refusal.{Refusal}
use Rattle.format.specs.Combinators.{gate}
use Rattle.format.specs.Fill.{gate-refused}
use Rattle.format.specs.Num.{pick}
use Rattle.format.specs.Put.{put}
use Rattle.format.specs.Res.{Res, and_then, began, ok-value, ok-count, no_ok}
use Rattle.format.specs.Res.Res.{ok, no}
use Rattle.format.specs.Through.{whole-no, whole-by-count}
use Rattle.records.specs.Validation.{validity, validate}
use Rattle.records.specs.declared.records.VoterSlotTable.{VoterSlotTable}
use Rattle.codec.specs.Codec.{bounded, decoded, decode_voter_slot_table, encode_voter_slot_table, restarted, max_table_bytes, table_bytes}
use Rattle.layout.specs.Layout.{table}
use Rattle.layout.specs.Reading.{report, outcome}

-- ---- a bound

pub bounded-in : {A : Type 0} (bound : ℕ) (bs : List ℕ) (r : Res A) → length bs ≤ bound → bounded bound bs r ≡ r
unfolding bounded pick
bounded-in bound bs r h = rw (le-leb (length bs) bound h)

pub bounded-out : {A : Type 0} (bound : ℕ) (bs : List ℕ) (r : Res A) → bound < length bs → bounded bound bs r ≡ no 5
unfolding bounded pick
bounded-out bound bs r h = rw (lt-leb (length bs) bound h)

-- ---- an answer and a value

pub decoded-no : {A : Type 0} (blank : A) {k : ℕ} {x : Res A} {p : ℕ × A} → p ≡ decoded blank (no k) → x ≡ no k → p ≡ decoded blank x
decoded-no blank e f = e ∙ ap (decoded blank) (sym f)

pub decoded-ok : {A : Type 0} (blank : A) {a : A} {n : ℕ} {x : Res A} → x ≡ ok a n → ◌≡◌ {A = ℕ × A} (0, a) (decoded blank x)
unfolding decoded
decoded-ok blank e = ap (decoded blank) (sym e)

-- ---- a test that is passed, and one that refuses

pub gate_accepts : {A : Type 0} (a : A) (n : ℕ) → gate 0 a n ≡ ok a n
unfolding gate
gate_accepts a n = refl

pub gate_refuses : {A : Type 0} (e : Refusal) (a : A) (n : ℕ) → gate (number_of_refusal e) a n ≡ no (number_of_refusal e)
gate_refuses e a n = gate-refused (number_of_refusal e) a n (sym (accepted-is-0 (Err e)))

-- ---- reading a table

module _ (bs : List ℕ) (h : length bs ≤ max_table_bytes) where
  -- a refused field is the refusal
  pub decode_no : {k : ℕ} → table.dec bs ≡ no k → decode_voter_slot_table bs ≡ no k
  unfolding decode_voter_slot_table and_then
  decode_no e = bounded-in max_table_bytes bs _ h ∙ rw (whole-no table bs e)

  -- bytes left over are refused by 6
  pub decode-left : {t : VoterSlotTable} {n : ℕ} → table.dec bs ≡ ok t n → eqb n (length bs) ≡ false → decode_voter_slot_table bs ≡ no 6
  unfolding decode_voter_slot_table and_then pick
  decode-left e q = bounded-in max_table_bytes bs _ h ∙ rw (whole-by-count table bs false e q)

  -- and then validity decides
  pub decode-judged : {t : VoterSlotTable} {n : ℕ} → table.dec bs ≡ ok t n → eqb n (length bs) ≡ true → decode_voter_slot_table bs ≡ gate (number_of (validity t)) t n
  unfolding decode_voter_slot_table and_then pick
  decode-judged e q = bounded-in max_table_bytes bs _ h ∙ rw (whole-by-count table bs true e q)

-- ---- writing a table

-- the bytes at the start of a buffer
pub put-start : (e xs : List ℕ) → put e 0 xs ≡ e ++ drop (length e) xs
unfolding put
put-start e xs = ap (λ n. e ++ drop n xs) (zero-add (length e))

pub encode-refused : (t : VoterSlotTable) (buffer : List ℕ) → eqb (number_of (validate t)) 0 ≡ false → encode_voter_slot_table t buffer ≡ no (number_of (validate t))
unfolding encode_voter_slot_table and_then
encode-refused t buffer h = rw (gate-refused (number_of (validate t)) (table_bytes t) (length (table_bytes t)) h)

pub encode-short : (t : VoterSlotTable) (buffer : List ℕ) → validate t ≡ Accepted → length buffer < length (table_bytes t) → encode_voter_slot_table t buffer ≡ no 32
unfolding encode_voter_slot_table and_then gate pick
encode-short t buffer v l = rw v (rw (lt-leb (length (table_bytes t)) (length buffer) l))

pub encode_refuses : (t : VoterSlotTable) (buffer : List ℕ) (e : Refusal) → validate t ≡ Err e → encode_voter_slot_table t buffer ≡ no (number_of_refusal e)
unfolding encode_voter_slot_table and_then
encode_refuses t buffer e h = rw h (rw (gate_refuses e (table_bytes t) (length (table_bytes t))))

-- what a writing says, with the buffer after it, of the bytes
module _ {A : Type 0} (blank : A) {v : A} where
  pub wrote : {n : ℕ} (x : Res A) → ◌≡◌ {A = Res (Unit {0}) × A} (report (Ok n), v) (outcome blank x) → x ≡ ok v n
  unfolding outcome
  wrote (ok b m) e = ap₂ ok (sym (ap (λ p. p.1) e)) (ok-count (sym (ap (λ p. p.0) e)))
  wrote (no k) e = absurd (no_ok (sym (ap (λ p. p.0) e)))

  pub wrote-not : (r : Refusal) (x : Res A) → ◌≡◌ {A = Res (Unit {0}) × A} (report (Err r), v) (outcome blank x) → x ≡ no (number_of_refusal r)
  unfolding outcome
  wrote-not r (ok b m) e = absurd (ok-no (ap (λ p. p.0) (sym e)))
    where
      ok-no : {A : Type 0} {a : A} {m k : ℕ} → ◌≡◌ {A = Res A} (ok a m) (no k) → ⊥
      ok-no e = let z : ◌≡◌ {A = ℕ} 0 1 = cc in omega arith
  wrote-not r (no k) e = ap no (no-number (ap (λ p. p.0) (sym e)))
    where
      no-number : {A : Type 0} {j k : ℕ} → ◌≡◌ {A = Res A} (no j) (no k) → j ≡ k
      no-number e = cc

-- what was written lies within the buffer
within_by : (bs buffer : List ℕ) (n : ℕ) {b : List ℕ} {m : ℕ} (w : Bool) → n ≤ length bs → pick w (ok (bs ++ drop n buffer) n) (no 32) ≡ ok b m → m ≤ length b
unfolding pick
within_by bs buffer n {b} {m} true h e =
    let p : bs ++ drop n buffer ≡ b = ok-value e in
    let q : n ≡ m = ok-count e in
    omega (arith, q, ap length p, length-append bs (drop n buffer))
within_by bs buffer n false h e = absurd (no_ok e)

gate-is : {A : Type 0} (k : ℕ) (a : A) (n : ℕ) {b : A} {m : ℕ} → gate k a n ≡ ok b m → (a ≡ b) × (n ≡ m)
unfolding gate
gate-is zero a n e = (ok-value e, ok-count e)
gate-is (suc k) a n e = absurd (no_ok e)

pub encode-within : (t : VoterSlotTable) (buffer : List ℕ) {b : List ℕ} {n : ℕ} → encode_voter_slot_table t buffer ≡ ok b n → n ≤ length b
unfolding encode_voter_slot_table
encode-within t buffer e =
    let (bs, n, e₁, e₂) = began (gate (number_of (validate t)) (table_bytes t) (length (table_bytes t)))
    (λ bs n. pick (leb n (length buffer)) (ok (bs ++ drop n buffer) n) (no 32)) e in
    let (p, q) = gate-is (number_of (validate t)) (table_bytes t) (length (table_bytes t)) e₁ in
    within_by bs buffer n (leb n (length buffer)) (omega (arith, sym q, ap length p)) e₂

-- ---- a restart

pub restarted-no : (t : VoterSlotTable) (buffer : List ℕ) {k : ℕ} → encode_voter_slot_table t buffer ≡ no k → restarted t buffer ≡ no k
unfolding restarted and_then
restarted-no t buffer e = rw e

pub restarted-on : (t : VoterSlotTable) (buffer : List ℕ) {b : List ℕ} {n : ℕ} → encode_voter_slot_table t buffer ≡ ok b n → restarted t buffer ≡ decode_voter_slot_table (take n b)
unfolding restarted and_then
restarted-on t buffer e = rw e
