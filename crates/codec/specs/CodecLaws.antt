-- The two round trips of a table, and of an attestation. Document 01's demand: reading a written
-- valid table returns it; writing a table just read gives its bytes.
-- Of every table that the types hold (`HeldVoterSlotTable`), with no other bound: GoodLaws and
-- SizeLaws say that a valid one is read whole.
-- Assumes nothing.
use Rattle.std.specs.Prelude.{ℕ, zero, suc, ◌≤◌, ◌≡◌, refl, Bool, true, false, List, ◌++◌, length, drop, leb}
use Rattle.std.proofs.Common.{sym, ap, ◌∙◌, subst, arith, take_at, le-leb}
use Rattle.identity.specs.Answer.{number_of, Accepted}
use Rattle.identity.specs.AnswerLaws.{number-injective}
use Rattle.format.specs.Res.{Res, and_then, began, ok-value, no_ok}
use Rattle.format.specs.Res.Res.{ok, no}
use Rattle.format.specs.Combinators.{Bytes, gate, back-and-there}
use Rattle.format.specs.Num.{pick}
use Rattle.format.specs.Through.{whole, whole_is, whole-there}
use Rattle.records.specs.Held.{HeldLostVoterAttestationV1, HeldVoterSlotTable}
use Rattle.records.specs.Representable.{representable_attestation}
use Rattle.records.specs.Validation.{valid_attestation, validity, validate}
use Rattle.records.specs.ValidationLaws.{count-some}
use Rattle.records.specs.ValidParts.{valid-parts, valid-joined, valid-slots-hold}
use Rattle.records.specs.declared.records.LostVoterAttestationV1.{LostVoterAttestationV1}
use Rattle.records.specs.declared.records.VoterSlotTable.{VoterSlotTable}
use Rattle.layout.specs.Layout.{max_attestation_bytes, attestation, table}
use Rattle.codec.specs.Codec.{max_table_bytes, bounded, decode_voter_slot_table, decode_lost_voter_attestation, table_bytes, encode_voter_slot_table, restarted}
use Rattle.writer.specs.SizeLaws.{attestation-long, table-long, table-bounds}
use Rattle.codec.specs.GoodLaws.{attestation-good, table-good}
use Rattle.codec.specs.FitsLaws.{attestation-fits, table_fits}
use Rattle.codec.specs.ReadHeld.{attestation-held, table-held}
use Rattle.codec.specs.ReadLaws.{table-tests}

-- The bytes of a valid table are between 180 and 8072.
pub bytes-bounds : (t : VoterSlotTable) → HeldVoterSlotTable t → validate t ≡ Accepted → (180 ≤ length (table_bytes t)) × (length (table_bytes t) ≤ 8072)
unfolding table_bytes
bytes-bounds t h v =
    let s = valid-parts t v in
    let f = table_fits t s.0 in
    let b = table-bounds t f (omega (arith, count-some t.count (valid-slots-hold t s.1).odd)) in
    let l = table-long t h f in
    (omega arith, omega arith)

-- Extent a written valid table returns it.
pub written_read : (t : VoterSlotTable) → HeldVoterSlotTable t → validate t ≡ Accepted → decode_voter_slot_table (table_bytes t) ≡ ok t (length (table_bytes t))
unfolding decode_voter_slot_table table_bytes bounded and_then gate pick
written_read t h v =
    let s = valid-parts t v in
    let b = bytes-bounds t h v in
    rw (le-leb (length (table.enc t)) max_table_bytes (omega arith)) (rw (whole-there table t (table-good t h s.0 s.1)) (rw s.1))

-- Writing a valid table into a buffer that is long enough: its bytes, and after them what was
-- there.
pub encoded-is : (t : VoterSlotTable) (buffer : List ℕ) → validate t ≡ Accepted → length (table_bytes t) ≤ length buffer
    → encode_voter_slot_table t buffer ≡ ok (table_bytes t ++ drop (length (table_bytes t)) buffer) (length (table_bytes t))
unfolding encode_voter_slot_table and_then gate pick
encoded-is t buffer v l = rw v (rw (le-leb (length (table_bytes t)) (length buffer) l))

-- A restart returns the table.
pub restarted_same : (t : VoterSlotTable) → HeldVoterSlotTable t → validate t ≡ Accepted → (buffer : List ℕ) → length (table_bytes t) ≤ length buffer
    → restarted t buffer ≡ ok t (length (table_bytes t))
unfolding restarted and_then
restarted_same t h v buffer l =
    rw (encoded-is t buffer v l)
    (ap decode_voter_slot_table (take_at (table_bytes t) (drop (length (table_bytes t)) buffer) (length (table_bytes t)) refl) ∙ written_read t h v)

bounded-by : {A : Type 0} (k : Bool) (r : Res A) {a : A} {n : ℕ} → pick k r (no 5) ≡ ok a n → r ≡ ok a n
unfolding pick
bounded-by true r e = e
bounded-by false r e = absurd (no_ok e)

gate-is : {A : Type 0} (k : ℕ) (a : A) (n : ℕ) {b : A} {m : ℕ} → gate k a n ≡ ok b m → (k ≡ 0) × (a ≡ b)
unfolding gate
gate-is zero a n e = (refl, ok-value e)
gate-is (suc k) a n e = absurd (no_ok e)

-- what was read is all of the bytes, and valid
read_is : (bs : List ℕ) {t : VoterSlotTable} {n : ℕ} → decode_voter_slot_table bs ≡ ok t n → (table.dec bs ≡ ok t (length bs)) × (validity t ≡ Accepted)
unfolding decode_voter_slot_table bounded
read_is bs {t} {n} e =
    let f : VoterSlotTable → ℕ → Res VoterSlotTable = λ t n. gate (number_of (validity t)) t n in
    let (a, m, e₁, e₂) = began (whole table bs) f (bounded-by (leb (length bs) max_table_bytes) (and_then (whole table bs) f) e) in
    let g = gate-is (number_of (validity a)) a m e₂ in (
      whole_is table bs e₁ ∙ ap (λ (x : VoterSlotTable). ok x (length bs)) g.1,
      number-injective (validity t) Accepted (ap (λ (x : VoterSlotTable). number_of (validity x)) (sym g.1) ∙ g.0),
    )

-- Writing a table just read gives its bytes.
pub read-written : (bs : List ℕ) {t : VoterSlotTable} {n : ℕ} → Bytes bs → decode_voter_slot_table bs ≡ ok t n → table_bytes t ≡ bs
unfolding table_bytes
read-written bs z e = back-and-there table bs z (read_is bs e).0

-- What was read is accepted: it passes the representability check and is valid.
pub read-valid : (bs : List ℕ) {t : VoterSlotTable} {n : ℕ} → Bytes bs → decode_voter_slot_table bs ≡ ok t n → validate t ≡ Accepted
read-valid bs {t} {n} z e =
    let r = read_is bs e in
    valid-joined t (table-tests t (table.good bs z r.0)) r.1

-- What was read has the bounds of its types: each number fits, each array has its length.
pub read_held : (bs : List ℕ) {t : VoterSlotTable} {n : ℕ} → Bytes bs → decode_voter_slot_table bs ≡ ok t n → HeldVoterSlotTable t
read_held bs {t} {n} z e = table-held t (table.good bs z (read_is bs e).0)

-- So bytes that are accepted number 180 to 8072.
pub read-bounds : (bs : List ℕ) {t : VoterSlotTable} {n : ℕ} → Bytes bs → decode_voter_slot_table bs ≡ ok t n → (180 ≤ length bs) × (length bs ≤ 8072)
read-bounds bs {t} {n} z e =
    subst (λ (x : List ℕ). (180 ≤ length x) × (length x ≤ 8072)) (read-written bs z e) (bytes-bounds t (read_held bs z e) (read-valid bs z e))

-- It is written again, into every buffer that is long enough, and the bytes are those that were
-- read.
pub read-encoded : (bs : List ℕ) {t : VoterSlotTable} {n : ℕ} → Bytes bs → decode_voter_slot_table bs ≡ ok t n → (buffer : List ℕ) → length bs ≤ length buffer
    → encode_voter_slot_table t buffer ≡ ok (bs ++ drop (length bs) buffer) (length bs)
read-encoded bs {t} {n} z e buffer l =
    let w = read-written bs z e in
    subst (λ (x : List ℕ). encode_voter_slot_table t buffer ≡ ok (x ++ drop (length x) buffer) (length x)) w
    (encoded-is t buffer (read-valid bs z e) (subst (λ (x : List ℕ). length x ≤ length buffer) (sym w) l))

-- And a restart of a table just read returns it.
pub read-restarted : (bs : List ℕ) {t : VoterSlotTable} {n : ℕ} → Bytes bs → decode_voter_slot_table bs ≡ ok t n → (buffer : List ℕ) → length bs ≤ length buffer
    → restarted t buffer ≡ ok t n
unfolding restarted and_then
read-restarted bs z e buffer l = rw (read-encoded bs z e buffer l) (ap decode_voter_slot_table (take_at bs (drop (length bs) buffer) (length bs) refl) ∙ e)

-- The same of an attestation by itself: one that the types hold, that passes the representability
-- check and is valid, is read back as it was written.
pub attestation-written-read : (a : LostVoterAttestationV1) → HeldLostVoterAttestationV1 a → representable_attestation a ≡ true → valid_attestation a ≡ true
    → decode_lost_voter_attestation (attestation.enc a) ≡ ok a (length (attestation.enc a))
unfolding decode_lost_voter_attestation bounded pick
attestation-written-read a h r v =
    let f = attestation-fits a r in
    let l = attestation-long a h f.0 f.1 in
    rw (le-leb (length (attestation.enc a)) max_attestation_bytes (omega arith)) (whole-there attestation a (attestation-good a h r v))

-- what was read is all of the bytes
attestation-read-is : (bs : List ℕ) {a : LostVoterAttestationV1} {n : ℕ} → decode_lost_voter_attestation bs ≡ ok a n → attestation.dec bs ≡ ok a (length bs)
unfolding decode_lost_voter_attestation bounded
attestation-read-is bs e = whole_is attestation bs (bounded-by (leb (length bs) max_attestation_bytes) (whole attestation bs) e)

-- And writing an attestation just read gives its bytes.
pub attestation-read-written : (bs : List ℕ) {a : LostVoterAttestationV1} {n : ℕ} → Bytes bs → decode_lost_voter_attestation bs ≡ ok a n → attestation.enc a ≡ bs
attestation-read-written bs z e = back-and-there attestation bs z (attestation-read-is bs e)

-- It has the bounds of its types.
pub attestation-read-held : (bs : List ℕ) {a : LostVoterAttestationV1} {n : ℕ} → Bytes bs → decode_lost_voter_attestation bs ≡ ok a n → HeldLostVoterAttestationV1 a
attestation-read-held bs {a} {n} z e = attestation-held a (attestation.good bs z (attestation-read-is bs e))
