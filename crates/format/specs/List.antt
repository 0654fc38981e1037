-- A list of n values of one form, one after the other; a list in a place of fixed size, with blanks
-- after it; and a value that may be absent: `optional` of codec.rs, and its loops over slots and
-- members.
-- Document 01: "nine places always, the first so many in use"; "Option: a yes or no beside the
-- record".
-- Assumes nothing.
use Prim.Native.Nat.{ℕ, zero, suc, ◌+◌, ◌-◌, ◌≤◌, ◌<◌}
use Rattle.std.proofs.Common.{arith, add-zero, sub-add_cancel, sym, ap₂, ◌∙◌, subst, length-append, take_at, length-take-le, take_all, take-suc, get_or-take, below_more, leb-true}
use Rattle.std.proofs.Math.Numerals.{add-one}
use Rattle.std.proofs.Math.Nat.{zero-add, suc-add}
use Rattle.std.specs.Prelude.{◌≡◌, Bool, true, false, List, [], ◌∷◌, ◌++◌, get_or, take, drop, replicate, leb, eqb}
use Rattle.std.proofs.Math.Path.{refl, ap}
use Rattle.std.proofs.Math.ListN.{length}
use Rattle.std.proofs.lemmas.List.{get_or_at}
use Rattle.format.specs.Res.{Res, malformed}
use Rattle.format.specs.Res.Res.{ok, no}
use Rattle.format.specs.Num.{uint, pick}
use Rattle.format.specs.Combinators.{Codec, Laws, codec_of, laws_of, dep, via, held, always, dec_seq, dec_map, check, seq-ok, seq-no-1, seq-no-2, map-ok, map-no, via-ok, via-no, tested, dep-ok, dep-no-1, dep-no-2}

-- one more at the end
abbrev pub snoc : {A : Type 0} → List A × A → List A
snoc p = p.0 ++ (p.1 ∷ [])

-- n values are read: those before the last, and the last
module _ {A : Type 0} (c : List ℕ → Res A) where
  unfoldable pub dec_vec : ℕ → List ℕ → Res (List A)
  dec_vec zero = λ bs. ok [] 0
  dec_vec (suc n) = dec_map (dec_seq (dec_vec n) (λ l. c)) snoc

  pub vec-none : (bs : List ℕ) → dec_vec 0 bs ≡ ok [] 0
  unfolding dec_vec
  vec-none bs = refl

  pub vec_ok : (n : ℕ) (bs : List ℕ) {l : List A} {a : A} {k m : ℕ} → dec_vec n bs ≡ ok l k → c (drop k bs) ≡ ok a m → dec_vec (suc n) bs ≡ ok (l ++ (a ∷ [])) (k + m)
  unfolding dec_vec
  vec_ok n bs p q = map-ok (dec_seq (dec_vec n) (λ l. c)) snoc bs (seq-ok (dec_vec n) (λ l. c) bs p q)

  pub vec-no : (n : ℕ) (bs : List ℕ) {l : List A} {k r : ℕ} → dec_vec n bs ≡ ok l k → c (drop k bs) ≡ no r → dec_vec (suc n) bs ≡ no r
  unfolding dec_vec
  vec-no n bs p q = map-no (dec_seq (dec_vec n) (λ l. c)) snoc bs (seq-no-2 (dec_vec n) (λ l. c) bs p q)

  -- a refusal on the way is that of every longer list
  stays : (n d : ℕ) (bs : List ℕ) {r : ℕ} → dec_vec n bs ≡ no r → dec_vec (d + n) bs ≡ no r
  unfolding dec_vec
  stays n zero bs p = rw zero-add p
  stays n (suc d) bs p = rw suc-add (map-no (dec_seq (dec_vec (d + n)) (λ l. c)) snoc bs (seq-no-1 (dec_vec (d + n)) (λ l. c) bs (stays n d bs p)))

  pub vec-stays : (n k : ℕ) (bs : List ℕ) {r : ℕ} → n ≤ k → dec_vec n bs ≡ no r → dec_vec k bs ≡ no r
  vec-stays n k bs {r} h p = subst (λ j. dec_vec j bs ≡ no r) (sub-add_cancel h) (stays n (k - n) bs p)

below_suc : (n : ℕ) (P : ℕ → Type 0) → ((i : ℕ) → i < n → P i) → P n → (i : ℕ) → i < suc n → P i
below_suc n P h e i l = below_more P n h e i (omega arith)

-- `vec`: n values of the form C; blank is what `get_or` gives past the end, and no value is read by
-- it
module _ {A : Type 0} (C : Codec A) (blank : A) where
  unfoldable pub enc_vec : ℕ → List A → List ℕ
  enc_vec zero l = []
  enc_vec (suc n) l = enc_vec n (take n l) ++ C.enc (get_or l n blank)

  abbrev pub GoodVec : ℕ → List A → Type 0
  GoodVec n l = (length l ≡ n) × ((i : ℕ) → i < n → C.Good (get_or l i blank))

  nil-of : (l : List A) → length l ≡ 0 → [] ≡ l
  nil-of [] e = refl
  nil-of (a ∷ l) e = absurd (omega arith)

  module _ (n : ℕ) where
    abbrev unsnoc : List A → List A × A
    unsnoc l = (take n l, get_or l n blank)

    snoc_of : (l : List A) → length l ≡ suc n → snoc (unsnoc l) ≡ l
    snoc_of l e = sym (sym (take_all (suc n) l (omega arith)) ∙ take-suc l n blank (omega arith))

    unsnoc-snoc : (p : List A × A) → length p.0 ≡ n → unsnoc (snoc p) ≡ p
    unsnoc-snoc p e = ap₂ (λ l a. (l, a)) (take_at p.0 (p.1 ∷ []) n e) (get_or_at p.0 p.1 [] blank n e)

    parted : (l : List A) → GoodVec (suc n) l → ((GoodVec n (take n l)) × C.Good (get_or l n blank)) × (snoc (unsnoc l) ≡ l)
    parted l g = (((length-take-le n l (omega (arith, g.0)), λ i h. rw (get_or-take n l i blank h) (g.1 i (omega arith))), g.1 n (omega arith)), snoc_of l g.0)

    joined : (l : List A) → (((GoodVec n (take n l)) × C.Good (get_or l n blank)) × (snoc (unsnoc l) ≡ l)) → GoodVec (suc n) l
    joined l g = (
      ap length (sym g.1) ∙ length-append (take n l) (get_or l n blank ∷ []) ∙ ap (λ k. k + 1) g.0.0.0 ∙ add-one n,
      below_suc n (λ i. C.Good (get_or l i blank)) (λ i h. rw get_or-take at (g.0.0.1 i h)) g.0.1,
    )

  pub vec_laws : (n : ℕ) → Laws (GoodVec n) (enc_vec n) (dec_vec C.dec n)
  unfolding enc_vec dec_vec always held via dep
  vec_laws zero = laws_of (held (always []) (GoodVec 0) (λ l g. nil-of l g.0) (λ l e. (ap length (sym e), λ i h. absurd (omega arith))))
  vec_laws (suc n) = laws_of (held (via (dep (codec_of (vec_laws n)) (λ l. C)) snoc (unsnoc n) (λ p g. unsnoc-snoc n p g.0.0)) (GoodVec (suc n)) (parted n) (joined n))

  unfoldable pub vec : ℕ → Codec (List A)
  vec n = codec_of (vec_laws n)

  pub vec-start : (bs : List ℕ) → (vec 0).dec bs ≡ ok [] 0
  unfolding vec
  vec-start bs = vec-none C.dec bs

  -- one more is read, at `i + 1` as a loop counts
  pub vec-next : (i : ℕ) (bs : List ℕ) {l : List A} {a : A} {k m : ℕ} → (vec i).dec bs ≡ ok l k → C.dec (drop k bs) ≡ ok a m → (vec (i + 1)).dec bs ≡ ok (l ++ (a ∷ [])) (k + m)
  unfolding vec
  vec-next i bs p q = rw add-one (vec_ok C.dec i bs p q)

  -- the one at i is refused, and with it the whole
  pub vec-refused : (i n : ℕ) (bs : List ℕ) {l : List A} {k r : ℕ} → i < n → (vec i).dec bs ≡ ok l k → C.dec (drop k bs) ≡ no r → (vec n).dec bs ≡ no r
  unfolding vec
  vec-refused i n bs h p q = vec-stays C.dec (suc i) n bs h (vec-no C.dec i bs p q)

  pub vec-long : (n : ℕ) (l : List A) → (vec n).Good l → length l ≡ n
  unfolding vec
  vec-long n l g = g.0

-- `padded`: n values in a place of k, with blanks after them
module _ {A : Type 0} (C : Codec (List A)) (n k : ℕ) (blank : A) (long : (l : List A) → C.Good l → length l ≡ n) where
  abbrev pub pad : List A → List A
  pad l = l ++ replicate (k - n) blank

  unfoldable pub padded : Codec (List A)
  padded = via C pad (take n) (λ l g. take_at l (replicate (k - n) blank) n (long l g))

  pub padded-ok : (bs : List ℕ) {l : List A} {r : ℕ} → C.dec bs ≡ ok l r → padded.dec bs ≡ ok (l ++ replicate (k - n) blank) r
  unfolding padded
  padded-ok bs p = via-ok _ _ _ _ _ p

  pub padded-no : (bs : List ℕ) {r : ℕ} → C.dec bs ≡ no r → padded.dec bs ≡ no r
  unfolding padded
  padded-no bs p = via-no _ _ _ _ _ p

-- a yes or no, as one byte: 0 or 1, and any other is malformed
unfoldable pub flag_test : ℕ → ℕ
unfolding pick
flag_test x = pick (leb x 1) 0 malformed

-- the byte as a yes or no, and back
abbrev pub to_flag : ℕ → Bool
to_flag x = eqb x 1

abbrev pub of_flag : Bool → ℕ
of_flag true = 1
of_flag false = 0

flag_by : (t : Bool) (x : ℕ) → leb x 1 ≡ t → pick {A = ℕ} t 0 malformed ≡ 0 → of_flag (to_flag x) ≡ x
unfolding pick
flag_by true x e q = flag-of x (leb-true x 1 e)
  where
    flag-of : (x : ℕ) → x ≤ 1 → of_flag (to_flag x) ≡ x
    flag-of zero h = refl
    flag-of (suc zero) h = refl
    flag-of (suc (suc x)) h = absurd (omega arith)
flag_by false x e q = absurd (omega arith)

pub flag-back : (x : ℕ) → flag_test x ≡ 0 → of_flag (to_flag x) ≡ x
unfolding flag_test
flag-back x e = flag_by (leb x 1) x refl e

-- the format of it
unfoldable pub flag : Codec Bool
flag = via (check (uint 1) flag_test) to_flag of_flag (λ x g. flag-back x (tested (uint 1) flag_test x g))

-- one of two forms
unfoldable pub either : {A : Type 0} → Bool → Codec A → Codec A → Codec A
either true C D = C
either false C D = D

-- a yes or no, and after a yes the value; a no stands for the blank
unfoldable pub opt : {A : Type 0} → Codec A → A → Codec (Bool × A)
opt C blank = dep flag (λ t. either t C (always blank))

pub either-yes : {A : Type 0} (C D : Codec A) → either true C D ≡ C
unfolding either
either-yes C D = refl

pub either-not : {A : Type 0} (C D : Codec A) → either false C D ≡ D
unfolding either
either-not C D = refl

-- the three ways that reading an optional value goes
module _ {A : Type 0} (C : Codec A) (blank : A) (bs : List ℕ) where
  pub opt-no : {k : ℕ} → flag.dec bs ≡ no k → (opt C blank).dec bs ≡ no k
  unfolding opt
  opt-no p = dep-no-1 _ _ _ p

  pub opt_none : {n : ℕ} → flag.dec bs ≡ ok false n → (opt C blank).dec bs ≡ ok (false, blank) n
  unfolding opt either always
  opt_none {n} p = dep-ok flag (λ t. either t C (always blank)) bs p refl ∙ ap (ok (false, blank)) (add-zero n)

  pub opt-some : {n : ℕ} {a : A} {m : ℕ} → flag.dec bs ≡ ok true n → C.dec (drop n bs) ≡ ok a m → (opt C blank).dec bs ≡ ok (true, a) (n + m)
  unfolding opt either
  opt-some p q = dep-ok flag (λ t. either t C (always blank)) bs p q

  pub opt-bad : {n k : ℕ} → flag.dec bs ≡ ok true n → C.dec (drop n bs) ≡ no k → (opt C blank).dec bs ≡ no k
  unfolding opt either
  opt-bad p q = dep-no-2 flag (λ t. either t C (always blank)) bs p q
