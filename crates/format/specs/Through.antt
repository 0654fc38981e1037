-- A form read out of another by a reading of its own, which may refuse; a form to the last byte:
-- `finish` of codec.rs; and a form in a box: its size, and its bytes to the last, as `sized_bytes`
-- of codec.rs has an attestation.
-- Assumes nothing.
use Rattle.std.specs.Prelude.{ℕ, ◌^◌, ◌≤◌, ◌<◌, ◌≡◌, Bool, true, false, List, ◌++◌, length, take, leb, eqb}
use Rattle.std.proofs.Math.Path.{refl, ap}
use Rattle.std.proofs.Common.{sym, ap₂, ◌∙◌, subst, eq-eqb, eqb-true, le-leb}
use Rattle.format.specs.Res.{Res, malformed, too_large, and_then, began, ok-value, ok-count, no_ok}
use Rattle.format.specs.Res.Res.{ok, no}
use Rattle.format.specs.Combinators.{Codec, Bytes, dep, check, held, there_and_back, back-and-there}
use Rattle.format.specs.Num.{uint, raw, pick}

-- `through`: C is read, and then p reads what C gave; g goes back
module _ {A B : Type 0} (C : Codec A) (p : A → Res B) (g : B → A) (same : (a : A) (b : B) (m : ℕ) → C.Good a → p a ≡ ok b m → g b ≡ a) where
  unfoldable pub dec_through : List ℕ → Res B
  dec_through bs = and_then (C.dec bs) (λ a n. and_then (p a) (λ b m. ok b n))

  through-ok : (bs : List ℕ) {a : A} {n : ℕ} {b : B} {m : ℕ} → C.dec bs ≡ ok a n → p a ≡ ok b m → dec_through bs ≡ ok b n
  unfolding dec_through and_then
  through-ok bs e f = rw e (rw f)

  read_through : (bs : List ℕ) {b : B} {r : ℕ} → dec_through bs ≡ ok b r → (a : A) × (m : ℕ) × (C.dec bs ≡ ok a r) × (p a ≡ ok b m)
  unfolding dec_through
  read_through bs {b} {r} e =
      let (a, n, e₁, e₂) = began (C.dec bs) (λ a n. and_then (p a) (λ b m. ok b n)) e in
      let (b', m, e₃, e₄) = began (p a) (λ b m. ok b n) e₂ in
      (a, m, e₁ ∙ ap (ok a) (ok-count {a = b'} {n = n} e₄), e₃ ∙ ap (λ x. ok x m) (ok-value {a = b'} {n = n} e₄))

  abbrev GoodThrough : B → Type 0
  GoodThrough b = C.Good (g b) × ((m : ℕ) × (p (g b) ≡ ok b m))

  through-good : (bs : List ℕ) {b : B} {r : ℕ} → Bytes bs → dec_through bs ≡ ok b r → GoodThrough b
  through-good bs {b} z e =
      let (a, m, e₁, e₂) = read_through bs e in
      let s : g b ≡ a = same a b m (C.good bs z e₁) e₂ in
      (subst C.Good (sym s) (C.good bs z e₁), (m, ap p s ∙ e₂))

  through-bytes : (bs : List ℕ) {b : B} {r : ℕ} → Bytes bs → dec_through bs ≡ ok b r → take r bs ≡ C.enc (g b)
  through-bytes bs {b} z e =
      let (a, m, e₁, e₂) = read_through bs e in
      C.bytes bs z e₁ ∙ ap C.enc (sym (same a b m (C.good bs z e₁) e₂))

  pub through : Codec B
  unfolding dec_through
  through = record {
    Good = GoodThrough;
    enc = λ b. C.enc (g b);
    dec = dec_through;
    back = λ b rest h. through-ok (C.enc (g b) ++ rest) (C.back (g b) rest h.0) h.1.1;
    within = λ bs e. C.within bs (read_through bs e).2;
    bytes = through-bytes;
    good = through-good;
  }

-- all of the bytes, to the last; any left over are malformed
unfoldable pub whole : {A : Type 0} → Codec A → List ℕ → Res A
whole C bs = and_then (C.dec bs) (λ a n. pick (eqb n (length bs)) (ok a n) (no malformed))

whole_by : {A : Type 0} (k l : ℕ) (a b : A) (n : ℕ) (t : Bool) → eqb k l ≡ t → pick t (ok a k) (no malformed) ≡ ok b n → (k ≡ l) × (a ≡ b)
unfolding pick
whole_by k l a b n true q e = (eqb-true k l q, ok-value e)
whole_by k l a b n false q e = absurd (no_ok e)

pub whole_is : {A : Type 0} (C : Codec A) (bs : List ℕ) {a : A} {n : ℕ} → whole C bs ≡ ok a n → C.dec bs ≡ ok a (length bs)
unfolding whole
whole_is C bs {a} {n} e =
    let (a', k, e₁, e₂) = began (C.dec bs) (λ a n. pick (eqb n (length bs)) (ok a n) (no malformed)) e in
    let h = whole_by k (length bs) a' a n (eqb k (length bs)) refl e₂ in
    e₁ ∙ ap₂ ok h.1 h.0

-- what is written is read back to its last byte
pub whole-there : {A : Type 0} (C : Codec A) (a : A) → C.Good a → whole C (C.enc a) ≡ ok a (length (C.enc a))
unfolding whole and_then pick
whole-there C a g = rw (there_and_back C a g) (rw (eq-eqb (length (C.enc a)) (length (C.enc a)) refl))

-- a refusal of the form is one of the whole
pub whole-no : {A : Type 0} (C : Codec A) (bs : List ℕ) {k : ℕ} → C.dec bs ≡ no k → whole C bs ≡ no k
unfolding whole and_then
whole-no C bs e = rw e

-- whether all was read decides
pub whole-by-count : {A : Type 0} (C : Codec A) (bs : List ℕ) {a : A} {n : ℕ} (t : Bool) → C.dec bs ≡ ok a n → eqb n (length bs) ≡ t → whole C bs ≡ pick t (ok a n) (no malformed)
unfolding whole and_then
whole-by-count C bs t e q = rw e (rw q)

-- a form in a box of at most `bound` bytes, else too large: two bytes of size, and then so many
module _ {A : Type 0} (C : Codec A) (bound : ℕ) where
  -- 5 for more than the bound
  unfoldable pub size_test : ℕ → ℕ
  size_test n = pick (leb n bound) 0 too_large

  box : Codec (ℕ × List ℕ)
  box = dep (check (uint 2) size_test) raw

  box-good : (x : ℕ × List ℕ) → box.Good x → (length x.1 ≡ x.0) × Bytes x.1
  unfolding box dep raw
  box-good x g = g.1

  unboxed : (x : ℕ × List ℕ) (a : A) (m : ℕ) → box.Good x → whole C x.1 ≡ ok a m → ◌≡◌ {A = ℕ × List ℕ} (length (C.enc a), C.enc a) x
  unboxed x a m g e =
      let s : C.enc a ≡ x.1 = back-and-there C x.1 (box-good x g).1 (whole_is C x.1 e) in
      ap₂ (λ n l. (n, l)) (ap length s ∙ (box-good x g).0) s

  pub boxed : Codec A
  boxed = through box (λ x. whole C x.1) (λ a. (length (C.enc a), C.enc a)) unboxed

  -- its bytes: the size, and those of the value
  pub boxed-bytes : (a : A) → boxed.enc a ≡ (uint 2).enc (length (C.enc a)) ++ C.enc a
  unfolding boxed through box dep check raw
  boxed-bytes a = refl

  -- a value whose bytes a box holds: bytes they are, no more than the bound, and their number fits
  -- two bytes
  pub boxed-good : (a : A) → C.Good a → Bytes (C.enc a) → length (C.enc a) ≤ bound → length (C.enc a) < 256 ^ 2 → boxed.Good a
  unfolding boxed through box dep check raw uint held size_test pick
  boxed-good a g z h k = (((k, rw (le-leb (length (C.enc a)) bound h)), (refl, z)), (length (C.enc a), whole-there C a g))

  -- and what a box holds is good
  pub boxed-is : (a : A) → boxed.Good a → C.Good a
  unfolding boxed through box dep check raw
  boxed-is a g = C.good (C.enc a) g.0.1.1 (whole_is C (C.enc a) g.1.1)

  -- reading it: the size and so many bytes, and then the value in them; any of the three may refuse
  pub boxed-ok : (bs : List ℕ) {x : ℕ × List ℕ} {a : A} {n m : ℕ} → (dep (check (uint 2) (λ n. pick (leb n bound) 0 too_large)) raw).dec bs ≡ ok x n → whole C x.1 ≡ ok a m
      → boxed.dec bs ≡ ok a n
  unfolding boxed through box size_test dec_through and_then
  boxed-ok bs e f = rw e (rw f)

  pub boxed-no-1 : (bs : List ℕ) {k : ℕ} → (dep (check (uint 2) (λ n. pick (leb n bound) 0 too_large)) raw).dec bs ≡ no k → boxed.dec bs ≡ no k
  unfolding boxed through box size_test dec_through and_then
  boxed-no-1 bs e = rw e

  pub boxed-no-2 : (bs : List ℕ) {x : ℕ × List ℕ} {n k : ℕ} → (dep (check (uint 2) (λ n. pick (leb n bound) 0 too_large)) raw).dec bs ≡ ok x n → whole C x.1 ≡ no k
      → boxed.dec bs ≡ no k
  unfolding boxed through box size_test dec_through and_then
  boxed-no-2 bs e f = rw e (rw f)
