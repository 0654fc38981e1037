-- Byte formats (the type `Codec`): a writer and a reader of one form, with the laws that tie them,
-- and the ways to make one of others.
-- For the `Writer` and the `Reader` of codec.rs. Document 01: "A refused field ends the reading
-- with that field's own number."
-- Assumes nothing.
use Rattle.std.specs.Prelude.{ℕ, zero, suc, ◌+◌, ◌-◌, ◌≤◌, ◌<◌, ◌≡◌, refl, List, [], ◌++◌, length, get_or, take, drop}
use Rattle.std.proofs.Common.{zero-le, arith, sym, ◌∙◌, append_assoc, append-nil, length-append, length-drop, get_or-drop, take-add, take_all}
use Rattle.std.proofs.Math.Path.{ap, ap₂}
use Rattle.std.proofs.Math.Seq.{drop-append_seam, take-length}
use Rattle.format.specs.Res.{Res, and_then, ok-value, ok-count, no_ok, began}
use Rattle.format.specs.Res.Res.{ok, no}

-- every element is a byte
unfoldable pub Bytes : List ℕ → Type 0
Bytes bs = (i : ℕ) → get_or bs i 0 < 256

pub bytes_drop : (n : ℕ) (bs : List ℕ) → Bytes bs → Bytes (drop n bs)
unfolding Bytes
bytes_drop n bs h i = rw get_or-drop (h (n + i))

-- a format of values of a type: `enc` writes one, `dec` reads one from the front of some bytes
pub record Codec (A : Type 0) : Type 1 where
  -- the values that the format holds
  pub Good : A → Type 0
  pub enc : A → List ℕ
  pub dec : List ℕ → Res A
  -- what is written is read back, whatever comes after it
  pub back : (a : A) (rest : List ℕ) → Good a → dec (enc a ++ rest) ≡ ok a (length (enc a))
  -- no more is read than there is
  pub within : (bs : List ℕ) {a : A} {n : ℕ} → dec bs ≡ ok a n → n ≤ length bs
  -- what is read is what is written of the value
  pub bytes : (bs : List ℕ) {a : A} {n : ℕ} → Bytes bs → dec bs ≡ ok a n → take n bs ≡ enc a
  pub good : (bs : List ℕ) {a : A} {n : ℕ} → Bytes bs → dec bs ≡ ok a n → Good a

-- 1. `dep`: one after the other, where the second form goes by the first value. First its reader:
-- the first refusal is the answer.
module _ {A B : Type 0} (c : List ℕ → Res A) (d : A → List ℕ → Res B) where
  unfoldable pub dec_seq : List ℕ → Res (A × B)
  dec_seq bs = and_then (c bs) (λ a n. and_then (d a (drop n bs)) (λ b m. ok (a, b) (n + m)))

  pub seq-ok : (bs : List ℕ) {a : A} {b : B} {n m : ℕ} → c bs ≡ ok a n → d a (drop n bs) ≡ ok b m → dec_seq bs ≡ ok (a, b) (n + m)
  unfolding dec_seq and_then
  seq-ok bs p q = rw p (rw q)

  pub seq-no-1 : (bs : List ℕ) {k : ℕ} → c bs ≡ no k → dec_seq bs ≡ no k
  unfolding dec_seq and_then
  seq-no-1 bs p = rw p

  pub seq-no-2 : (bs : List ℕ) {a : A} {n k : ℕ} → c bs ≡ ok a n → d a (drop n bs) ≡ no k → dec_seq bs ≡ no k
  unfolding dec_seq and_then
  seq-no-2 bs p q = rw p (rw q)

  -- what a whole reading is made of
  record Both (bs : List ℕ) (p : A × B) (r : ℕ) : Type 0 where
    former : A
    latter : B
    former-count : ℕ
    latter-count : ℕ
    first : c bs ≡ ok former former-count
    second : d former (drop former-count bs) ≡ ok latter latter-count
    value : (former, latter) ≡ p
    count : former-count + latter-count ≡ r

  both : (bs : List ℕ) {p : A × B} {r : ℕ} → dec_seq bs ≡ ok p r → Both bs p r
  unfolding dec_seq
  both bs {p} {r} e =
      let (a, n, e₁, e₂) = began (c bs) (λ a n. and_then (d a (drop n bs)) (λ b m. ok (a, b) (n + m))) e in
      let (b, m, e₃, e₄) = began (d a (drop n bs)) (λ b m. ok (a, b) (n + m)) e₂ in
      record { former = a; latter = b; former-count = n; latter-count = m; first = e₁; second = e₃; value = ok-value e₄; count = ok-count e₄ }

-- then its writer, its good values, and its laws
module _ {A B : Type 0} (C : Codec A) (D : A → Codec B) where
  abbrev enc_seq : A × B → List ℕ
  enc_seq p = C.enc p.0 ++ (D p.0).enc p.1

  abbrev decs : List ℕ → Res (A × B)
  decs = dec_seq C.dec (λ a. (D a).dec)

  abbrev Goods : A × B → Type 0
  Goods p = C.Good p.0 × (D p.0).Good p.1

  pub seq-back : (p : A × B) (rest : List ℕ) → Goods p → decs (enc_seq p ++ rest) ≡ ok p (length (enc_seq p))
  seq-back p rest g =
      rw (append_assoc, length-append)
      (seq-ok C.dec (λ a. (D a).dec) (C.enc p.0 ++ ((D p.0).enc p.1 ++ rest)) (C.back p.0 ((D p.0).enc p.1 ++ rest) g.0)
      (rw drop-append_seam ((D p.0).back p.1 rest g.1)))

  pub seq-within : (bs : List ℕ) {p : A × B} {r : ℕ} → decs bs ≡ ok p r → r ≤ length bs
  seq-within bs {p} {r} e =
      let h = both C.dec (λ a. (D a).dec) bs e in
      omega (arith, C.within bs h.first, simp length-drop at ((D h.former).within (drop h.former-count bs) h.second), h.count)

  pub seq-bytes : (bs : List ℕ) {p : A × B} {r : ℕ} → Bytes bs → decs bs ≡ ok p r → take r bs ≡ enc_seq p
  seq-bytes bs {p} {r} z e =
      let h = both C.dec (λ a. (D a).dec) bs e in
      ap (λ k. take k bs) (sym h.count)
      ∙ take-add h.former-count h.latter-count bs
      ∙ ap₂ ◌++◌ (C.bytes bs z h.first) ((D h.former).bytes (drop h.former-count bs) (bytes_drop h.former-count bs z) h.second)
      ∙ ap enc_seq h.value

  pub seq-good : (bs : List ℕ) {p : A × B} {r : ℕ} → Bytes bs → decs bs ≡ ok p r → Goods p
  seq-good bs {p} {r} z e =
      let h = both C.dec (λ a. (D a).dec) bs e in
      rw (← h.value) (C.good bs z h.first, (D h.former).good (drop h.former-count bs) (bytes_drop h.former-count bs z) h.second)

  unfoldable pub dep : Codec (A × B)
  dep = record { Good = Goods; enc = enc_seq; dec = decs; back = seq-back; within = seq-within; bytes = seq-bytes; good = seq-good }

-- 2. `check`: a value that is tested. 0 is right, and any other number refuses.
unfoldable pub gate : {A : Type 0} → ℕ → A → ℕ → Res A
gate zero a n = ok a n
gate (suc k) a n = no (suc k)

gate-ok : {A : Type 0} (k : ℕ) {a b : A} {n m : ℕ} → gate k a n ≡ ok b m → (k ≡ 0) × (a ≡ b) × (n ≡ m)
unfolding gate
gate-ok zero e = (refl, ok-value e, ok-count e)
gate-ok (suc k) e = absurd (no_ok e)

module _ {A : Type 0} (c : List ℕ → Res A) (test : A → ℕ) where
  unfoldable pub dec_check : List ℕ → Res A
  dec_check bs = and_then (c bs) (λ a n. gate (test a) a n)

  pub check-ok : (bs : List ℕ) {a : A} {n : ℕ} → c bs ≡ ok a n → test a ≡ 0 → dec_check bs ≡ ok a n
  unfolding dec_check and_then gate
  check-ok bs p q = rw p (rw q)

  pub check-no : (bs : List ℕ) {k : ℕ} → c bs ≡ no k → dec_check bs ≡ no k
  unfolding dec_check and_then
  check-no bs p = rw p

  pub check-bad : (bs : List ℕ) {a : A} {n k : ℕ} → c bs ≡ ok a n → test a ≡ suc k → dec_check bs ≡ no (suc k)
  unfolding dec_check and_then gate
  check-bad bs p q = rw p (rw q)

  pub checked : (bs : List ℕ) {b : A} {r : ℕ} → dec_check bs ≡ ok b r → (c bs ≡ ok b r) × (test b ≡ 0)
  unfolding dec_check
  checked bs {b} {r} e =
      let (a, n, e₁, e₂) = began (c bs) (λ a n. gate (test a) a n) e in
      let (q, v, k) = gate-ok (test a) e₂ in
      (e₁ ∙ ap₂ ok v k, ap test (sym v) ∙ q)

unfoldable pub check : {A : Type 0} → Codec A → (A → ℕ) → Codec A
check C test = record {
  Good = λ a. C.Good a × (test a ≡ 0);
  enc = C.enc;
  dec = dec_check C.dec test;
  back = λ a rest g. check-ok C.dec test (C.enc a ++ rest) (C.back a rest g.0) g.1;
  within = λ bs e. C.within bs (checked C.dec test bs e).0;
  bytes = λ bs z e. C.bytes bs z (checked C.dec test bs e).0;
  good = λ bs z e. (C.good bs z (checked C.dec test bs e).0, (checked C.dec test bs e).1);
}

-- 3. `via`: the same bytes for another type. f makes the value, and g goes back.
module _ {A B : Type 0} (c : List ℕ → Res A) (f : A → B) where
  unfoldable pub dec_map : List ℕ → Res B
  dec_map bs = and_then (c bs) (λ a n. ok (f a) n)

  pub map-ok : (bs : List ℕ) {a : A} {n : ℕ} → c bs ≡ ok a n → dec_map bs ≡ ok (f a) n
  unfolding dec_map and_then
  map-ok bs p = rw p

  pub map-no : (bs : List ℕ) {k : ℕ} → c bs ≡ no k → dec_map bs ≡ no k
  unfolding dec_map and_then
  map-no bs p = rw p

  pub mapped : (bs : List ℕ) {b : B} {r : ℕ} → dec_map bs ≡ ok b r → (a : A) × (c bs ≡ ok a r) × (f a ≡ b)
  unfolding dec_map
  mapped bs {b} {r} e =
      let (a, n, e₁, e₂) = began (c bs) (λ a n. ok (f a) n) e in
      (a, e₁ ∙ ap (ok a) (ok-count e₂), ok-value e₂)

module _ {A B : Type 0} (C : Codec A) (f : A → B) (g : B → A) (same : (a : A) → C.Good a → g (f a) ≡ a) where
  pub map-bytes : (bs : List ℕ) {b : B} {r : ℕ} → Bytes bs → dec_map C.dec f bs ≡ ok b r → take r bs ≡ C.enc (g b)
  map-bytes bs z e =
      let (a, e₁, e₂) = mapped C.dec f bs e in
      C.bytes bs z e₁ ∙ ap C.enc (sym (same a (C.good bs z e₁)) ∙ ap g e₂)

  pub map-good : (bs : List ℕ) {b : B} {r : ℕ} → Bytes bs → dec_map C.dec f bs ≡ ok b r → C.Good (g b) × (f (g b) ≡ b)
  map-good bs z e =
      let (a, e₁, e₂) = mapped C.dec f bs e in
      let s = same a (C.good bs z e₁) in
      rw (← e₂) (rw s (C.good bs z e₁), ap f s)

  unfoldable pub via : Codec B
  via = record {
    Good = λ b. C.Good (g b) × (f (g b) ≡ b);
    enc = λ b. C.enc (g b);
    dec = dec_map C.dec f;
    back = λ b rest h. map-ok C.dec f (C.enc (g b) ++ rest) (C.back (g b) rest h.0) ∙ ap (λ x. ok x (length (C.enc (g b)))) h.1;
    within = λ bs e. C.within bs (mapped C.dec f bs e).1;
    bytes = map-bytes;
    good = map-good;
  }

-- 4. `always`: nothing is written, and one value is read.
unfoldable pub always : {A : Type 0} → A → Codec A
always x = record {
  Good = λ a. x ≡ a;
  enc = λ a. [];
  dec = λ bs. ok x 0;
  back = λ a rest g. ap (λ y. ok y 0) g;
  within = λ bs e. rw (← ok-count e) zero-le;
  bytes = λ bs z e. rw (← ok-count e);
  good = λ bs z e. ok-value e;
}

-- 5. `held`: the same form, with its good values said in other words.
module _ {A : Type 0} (C : Codec A) (G : A → Type 0) (to : (a : A) → G a → C.Good a) (from : (a : A) → C.Good a → G a) where
  unfoldable pub held : Codec A
  held = record {
    Good = G;
    enc = C.enc;
    dec = C.dec;
    back = λ a rest g. C.back a rest (to a g);
    within = C.within;
    bytes = C.bytes;
    good = λ bs {a} z e. from a (C.good bs z e);
  }

-- The two round trips of a whole form. What is written is read back to its end, and of what was
-- read to its end the same bytes are written.
pub there_and_back : {A : Type 0} (C : Codec A) (a : A) → C.Good a → C.dec (C.enc a) ≡ ok a (length (C.enc a))
there_and_back C a g = rw append-nil at (C.back a [] g)

pub back-and-there : {A : Type 0} (C : Codec A) (bs : List ℕ) {a : A} → Bytes bs → C.dec bs ≡ ok a (length bs) → C.enc a ≡ bs
back-and-there C bs z e = sym (C.bytes bs z e) ∙ take-length bs

-- The laws by themselves, of a form whose parts are named, as one that is made by recursion.
pub record Laws {A : Type 0} (G : A → Type 0) (e : A → List ℕ) (d : List ℕ → Res A) : Type 0 where
  pub back : (a : A) (rest : List ℕ) → G a → d (e a ++ rest) ≡ ok a (length (e a))
  pub within : (bs : List ℕ) {a : A} {n : ℕ} → d bs ≡ ok a n → n ≤ length bs
  pub bytes : (bs : List ℕ) {a : A} {n : ℕ} → Bytes bs → d bs ≡ ok a n → take n bs ≡ e a
  pub good : (bs : List ℕ) {a : A} {n : ℕ} → Bytes bs → d bs ≡ ok a n → G a

abbrev pub codec_of : {A : Type 0} {G : A → Type 0} {e : A → List ℕ} {d : List ℕ → Res A} → Laws G e d → Codec A
codec_of {G = G} {e = e} {d = d} L = record { Good = G; enc = e; dec = d; back = L.back; within = L.within; bytes = L.bytes; good = L.good }

abbrev pub laws_of : {A : Type 0} (C : Codec A) → Laws C.Good C.enc C.dec
laws_of C = record { back = C.back; within = C.within; bytes = C.bytes; good = C.good }

-- What a form that is made of others reads, from what they read: all that a proof of a reader
-- cites.
module _ {A B : Type 0} (C : Codec A) (D : A → Codec B) (bs : List ℕ) where
  pub dep-ok : {a : A} {b : B} {n m : ℕ} → C.dec bs ≡ ok a n → (D a).dec (drop n bs) ≡ ok b m → (dep C D).dec bs ≡ ok (a, b) (n + m)
  unfolding dep
  dep-ok p q = seq-ok C.dec (λ a. (D a).dec) bs p q

  pub dep-no-1 : {k : ℕ} → C.dec bs ≡ no k → (dep C D).dec bs ≡ no k
  unfolding dep
  dep-no-1 p = seq-no-1 C.dec (λ a. (D a).dec) bs p

  pub dep-no-2 : {a : A} {n k : ℕ} → C.dec bs ≡ ok a n → (D a).dec (drop n bs) ≡ no k → (dep C D).dec bs ≡ no k
  unfolding dep
  dep-no-2 p q = seq-no-2 C.dec (λ a. (D a).dec) bs p q

module _ {A : Type 0} (C : Codec A) (test : A → ℕ) (bs : List ℕ) where
  pub checked-ok : {a : A} {n : ℕ} → C.dec bs ≡ ok a n → test a ≡ 0 → (check C test).dec bs ≡ ok a n
  unfolding check
  checked-ok p q = check-ok C.dec test bs p q

  pub checked-no : {k : ℕ} → C.dec bs ≡ no k → (check C test).dec bs ≡ no k
  unfolding check
  checked-no p = check-no C.dec test bs p

  pub checked-bad : {a : A} {n k : ℕ} → C.dec bs ≡ ok a n → test a ≡ suc k → (check C test).dec bs ≡ no (suc k)
  unfolding check
  checked-bad p q = check-bad C.dec test bs p q

module _ {A B : Type 0} (C : Codec A) (f : A → B) (g : B → A) (same : (a : A) → C.Good a → g (f a) ≡ a) (bs : List ℕ) where
  pub via-ok : {a : A} {n : ℕ} → C.dec bs ≡ ok a n → (via C f g same).dec bs ≡ ok (f a) n
  unfolding via
  via-ok p = map-ok C.dec f bs p

  pub via-no : {k : ℕ} → C.dec bs ≡ no k → (via C f g same).dec bs ≡ no k
  unfolding via
  via-no p = map-no C.dec f bs p

-- The rest of the bytes, as a part of a slice is: all from `at` on.
pub rest : (s : List ℕ) (at : ℕ) → take (length s - at) (drop at s) ≡ drop at s
rest s at = take_all (length s - at) (drop at s) (omega (arith, length-drop at s))

-- a value that was tested is right
pub tested : {A : Type 0} (C : Codec A) (test : A → ℕ) (a : A) → (check C test).Good a → test a ≡ 0
unfolding check
tested C test a g = g.1

-- what was read passed the test
pub checked-is : {A : Type 0} (C : Codec A) (test : A → ℕ) (bs : List ℕ) {a : A} {n : ℕ} → (check C test).dec bs ≡ ok a n → test a ≡ 0
unfolding check
checked-is C test bs e = (checked C.dec test bs e).1
