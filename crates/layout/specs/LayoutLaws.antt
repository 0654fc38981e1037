-- What the readers' proofs use of single formats: the bound of sized bytes, a part of a slice, and
-- the magic byte by byte.
-- Assumes nothing.
use Rattle.std.specs.Prelude.{ℕ, ◌+◌, ◌-◌, ◌≤◌, Bool, true, false, ◌&&◌, ◌≡◌, List, [], ◌∷◌, length, get_or, take, drop, eqb, leb}
use Rattle.std.proofs.Common.{arith, ap, ◌∙◌, leb-true}
use Rattle.std.proofs.Math.Bool.{and-true}
use Rattle.format.specs.Res.{malformed, too_large, and_then, began, ok-value}
use Rattle.format.specs.Res.Res.{ok, no}
use Rattle.format.specs.Combinators.{Codec, dep, dec_seq, check, checked-is, checked-ok, checked-bad}
use Rattle.format.specs.Num.{uint, raw, pick, pick-zero}
use Rattle.records.specs.Equality.{eq_bytes}
use Rattle.format.specs.Through.{whole, whole-no, whole-by-count}
use Rattle.records.specs.Validation.{valid_count, valid_attestation}
use Rattle.records.specs.ValidationLaws.{count_small}
use Rattle.records.specs.declared.records.LostVoterAttestationV1.{LostVoterAttestationV1}
use Rattle.layout.specs.Layout.{require, require-is, slot_count, sized, magic, claims, attestation}

-- of two forms that were read the first was
dep-first : {A B : Type 0} (C : Codec A) (D : A → Codec B) (bs : List ℕ) {p : A × B} {r : ℕ} → (dep C D).dec bs ≡ ok p r → (n : ℕ) × (C.dec bs ≡ ok p.0 n)
unfolding dep dec_seq
dep-first {A} {B} C D bs {p} {r} e =
    let (a, n, e₁, e₂) = began (C.dec bs) (λ a n. and_then ((D a).dec (drop n bs)) (λ b m. ok (a, b) (n + m))) e in
    let (b, m, e₃, e₄) = began ((D a).dec (drop n bs)) (λ b m. ok (a, b) (n + m)) e₂ in
    (n, e₁ ∙ ap (λ q. ok q.0 n) (ok-value {A = A × B} {a = (a, b)} {b = p} {n = n + m} {m = r} e₄))

-- sized bytes are no more than their bound
pub sized-small : (bound : ℕ) (bs : List ℕ) {p : ℕ × List ℕ} {r : ℕ} → (sized bound).dec bs ≡ ok p r → p.0 ≤ bound
unfolding sized
sized-small bound bs {p} e =
    let (n, e₁) = dep-first (check (uint 2) (λ n. pick (leb n bound) 0 too_large)) raw bs e in
    leb-true p.0 bound (pick-zero (leb p.0 bound) 4 (checked-is (uint 2) (λ n. pick (leb n bound) 0 too_large) bs e₁))

-- so many bytes from a place on, as a part of a slice says them
pub part-is : (n at : ℕ) (s : List ℕ) → take (at + n - at) (drop at s) ≡ take n (drop at s)
part-is n at s = let e : at + n - at ≡ n = omega arith in ap (λ m. take m (drop at s)) e

-- the magic, byte by byte
pub magic-bytes : (s : List ℕ) → 4 ≤ length s
    → eq_bytes (take 4 s) magic ≡ (eqb (get_or s 0 0) 79 && (eqb (get_or s 1 0) 80 && (eqb (get_or s 2 0) 86 && eqb (get_or s 3 0) 73)))
magic-bytes [] h = absurd (omega arith)
magic-bytes (a ∷ []) h = absurd (omega arith)
magic-bytes (a ∷ b ∷ []) h = absurd (omega arith)
magic-bytes (a ∷ b ∷ c ∷ []) h = absurd (omega arith)
magic-bytes (a ∷ b ∷ c ∷ d ∷ s) h = ap (λ t. eqb a 79 && (eqb b 80 && (eqb c 86 && t))) (and-true (eqb d 73))

-- all of the bytes are an attestation where nothing is left over and its rule holds; both are
-- refused by 6
pub attestation-by : (bs : List ℕ) {a : LostVoterAttestationV1} {n : ℕ} (w v : Bool) → claims.dec bs ≡ ok a n → eqb n (length bs) ≡ w → valid_attestation a ≡ v
    → whole attestation bs ≡ pick (w && v) (ok a n) (no malformed)
unfolding attestation pick
attestation-by bs {a} {n} true true e q p = whole-by-count _ bs true (checked-ok _ _ bs e (ap require p)) q
attestation-by bs {a} {n} false true e q p = whole-by-count _ bs false (checked-ok _ _ bs e (ap require p)) q
attestation-by bs {a} {n} true false e q p = whole-no _ bs (checked-bad _ _ bs e (ap require p))
attestation-by bs {a} {n} false false e q p = whole-no _ bs (checked-bad _ _ bs e (ap require p))

-- a count that was read has places for all
pub count-read : (bs : List ℕ) {v n : ℕ} → slot_count.dec bs ≡ ok v n → v ≤ 9
unfolding slot_count
count-read bs {v} e = count_small v (require-is (valid_count v) (checked-is (uint 1) (λ x. require (valid_count x)) bs e))
