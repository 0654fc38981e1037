-- Laws of the names in Records: a test of every place below a count, one more place passed, and the
-- first place of which a test holds.
-- Each name here is a step of a proof; what is right is said in Records.
-- Assumes nothing.
use Prim.Native.Nat.{ℕ, zero, suc, ◌+◌, ◌-◌, ◌<◌, ◌≤◌}
use Rattle.std.specs.Prelude.{◌≡◌, refl, Bool, true, false, cond, not, ◌&&◌, ◌||◌, leb, eqb, List, [], ◌∷◌, length, get_or, take}
use Rattle.std.proofs.Common.{ap, sym, ◌∙◌, true≢false, add-one, le-leb, eqb-true, length-take}
use Rattle.std.proofs.Math.Bool.{and-true, and-eq-true_iff}
use native.Mathlib.Omega.{arith}
use Rattle.std.proofs.lemmas.Bool.{lt-leb, eqb-false}
use Rattle.std.proofs.lemmas.List.{get_or-take}
use Rattle.std.specs.List.{IsAllAdjacentAnswer, list_all, list_any, position_or_len}
use Rattle.std.proofs.lemmas.List.Folds.{list_all_more}
use Rattle.records.specs.Records.{all_below, first_from}

-- one more place
pub all_below-more : (p : ℕ → Bool) (i : ℕ) → all_below p (i + 1) ≡ (all_below p i && p i)
unfolding all_below
all_below-more p i = rw add-one

-- a loop's turn
pub all_below-turn : (p : ℕ → Bool) (i : ℕ) (all one : Bool) → all ≡ all_below p i → one ≡ p i → (all && one) ≡ all_below p (i + 1)
all_below-turn p i all one h k = rw (all_below-more p i, h, k)

-- tests that agree below n
pub all_below-same : (p q : ℕ → Bool) (n : ℕ) → ((i : ℕ) → i < n → p i ≡ q i) → all_below p n ≡ all_below q n
unfolding all_below
all_below-same p q zero s = refl
all_below-same p q (suc n) s = rw (all_below-same p q n (λ i h. s i (omega arith)), s n (omega arith))

all_below-on : (p : ℕ → Bool) (n d : ℕ) → ((i : ℕ) → n ≤ i → p i ≡ true) → all_below p (n + d) ≡ all_below p n
unfolding all_below
all_below-on p n zero s = let e : n + 0 ≡ n = omega arith in rw e
all_below-on p n (suc d) s =
    let e : n + suc d ≡ suc (n + d) = omega arith in
    rw (e, s (n + d) (omega arith), all_below-on p n d s) (and-true (all_below p n))

-- a test that is another one below n, and holds from n on
pub all_below-after : (p q : ℕ → Bool) (n m : ℕ) → n ≤ m → ((i : ℕ) → i < n → q i ≡ p i) → ((i : ℕ) → n ≤ i → q i ≡ true)
    → all_below q m ≡ all_below p n
all_below-after p q n m h s t =
    let e : m ≡ n + (m - n) = omega arith in
    ap (all_below q) e ∙ (all_below-on q n (m - n) t ∙ all_below-same q p n s)

-- a loop over all m places, of which n are in use
pub all_below-nine : (p : ℕ → Bool) (n m : ℕ) → n ≤ m → all_below (λ i. leb n i || p i) m ≡ all_below p n
all_below-nine p n m h =
    all_below-after p (λ i. leb n i || p i) n m h (λ i k. rw (lt-leb n i k)) (λ i k. rw (le-leb n i k))

-- a loop over all m neighbours
pub all_below-eight : (p : ℕ → Bool) (n m : ℕ) → n - 1 ≤ m → all_below (λ i. leb n (i + 1) || p i) m ≡ all_below p (n - 1)
all_below-eight p n m h =
    all_below-after p (λ i. leb n (i + 1) || p i) (n - 1) m h (λ i k. rw (lt-leb n (i + 1) (omega arith))) (λ i k. rw (le-leb n (i + 1) (omega arith)))

-- what holds of each number below n holds of one
at-or-below : (p : ℕ → Bool) (n i : ℕ) (t : Bool) → eqb i n ≡ t → i < suc n → (i < n → p i ≡ true) → p n ≡ true → p i ≡ true
at-or-below p n i true e l f h = rw (eqb-true i n e) h
at-or-below p n i false e l f h = let k = eqb-false i n e in f (omega arith)

pub all_below-at : (p : ℕ → Bool) (n i : ℕ) → all_below p n ≡ true → i < n → p i ≡ true
unfolding all_below
all_below-at p zero i h l = absurd (omega arith)
all_below-at p (suc n) i h l =
    let e = (and-eq-true_iff (all_below p n) (p n)).0 h in
    at-or-below p n i (eqb i n) refl l (λ k. all_below-at p n i e.0 k) e.1

-- what holds of every number below n
pub all_below-all : (p : ℕ → Bool) (n : ℕ) → ((i : ℕ) → i < n → p i ≡ true) → all_below p n ≡ true
unfolding all_below
all_below-all p zero h = refl
all_below-all p (suc n) h = rw (all_below-all p n (λ i l. h i (omega arith)), h n (omega arith))

-- what fails of one of them
all_below-not : (p : ℕ → Bool) (n i : ℕ) → i < n → p i ≡ false → all_below p n ≡ false
all_below-not p n i l f = by (all_below p n) refl
  where
    by : (b : Bool) → all_below p n ≡ b → all_below p n ≡ false
    by true h = absurd (true≢false (sym (all_below-at p n i h l) ∙ f))
    by false h = h

-- ---- a test of each of the first n of a list, and of one of them

all-front : {A : Type 0} (p : A → Bool) (d : A) (xs : List A) (n : ℕ) → n ≤ length xs
    → list_all p (take n xs) ≡ all_below (λ i. p (get_or xs i d)) n
unfolding all_below
all-front p d xs zero h = refl
all-front p d xs (suc n) h =
    let e : suc n ≡ n + 1 = omega arith in
    rw (e, list_all_more p xs n d (omega arith), all-front p d xs n (omega arith))

any-all : {A : Type 0} (p : A → Bool) (xs : List A) → list_any p xs ≡ not (list_all (λ x. not (p x)) xs)
any-all p [] = refl
any-all p (x ∷ xs) = rw (any-all p xs) (by (p x))
  where
    by : (b : Bool) → (b || not (list_all (λ y. not (p y)) xs)) ≡ not (not b && list_all (λ y. not (p y)) xs)
    by true = refl
    by false = refl

-- ---- the places in use: the first n of a list

module _ {A : Type 0} (d : A) (xs ys : List A) (n : ℕ) (e : ys ≡ take n xs) (h : length ys ≡ n) where
  pub front-at : (i : ℕ) → i < n → get_or ys i d ≡ get_or xs i d
  front-at i l = ap (λ (zs : List A). get_or zs i d) e ∙ get_or-take n xs i d l

  few : n ≤ length xs
  few = let l = ap length e in omega (arith, h, l, length-take {A = A})

  -- a test of each
  pub front-each : (p : A → Bool) → all_below (λ i. p (get_or ys i d)) (length ys) ≡ all_below (λ i. p (get_or xs i d)) n
  front-each p = rw h (all_below-same _ _ n (λ i l. ap p (front-at i l)))

  -- the same of a test of all, and of one that passes
  pub front-all : (p : A → Bool) → list_all p ys ≡ all_below (λ i. p (get_or xs i d)) n
  front-all p = ap (list_all p) e ∙ all-front p d xs n few

  pub front-any : (p : A → Bool) → list_any p ys ≡ not (all_below (λ i. not (p (get_or xs i d))) n)
  front-any p = any-all p ys ∙ ap not (front-all (λ x. not (p x)))

  -- a test of each with the next
  pub front-neighbours : (p : A → A → Bool)
      → all_below (λ i. p (get_or ys i d) (get_or ys (i + 1) d)) (length ys - 1) ≡ all_below (λ i. p (get_or xs i d) (get_or xs (i + 1) d)) (n - 1)
  front-neighbours p =
      rw h (all_below-same _ _ (n - 1) (λ i l. rw (front-at i (omega arith), front-at (i + 1) (omega arith))))

  -- the same of lists that are sorted
  pub front-sorted : (p : A → A → Bool) (t : Bool) → IsAllAdjacentAnswer (λ a b r. r ≡ p a b) ys t
      → t ≡ all_below (λ i. p (get_or xs i d) (get_or xs (i + 1) d)) (n - 1)
  front-sorted p true s =
      sym (all_below-all (λ i. p (get_or ys i d) (get_or ys (i + 1) d)) (length ys - 1) (λ i l. sym (s i d (omega arith)))) ∙ front-neighbours p
  front-sorted p false s =
      sym (all_below-not (λ i. p (get_or ys i d) (get_or ys (i + 1) d)) (length ys - 1) s.0 (let l = s.1 in omega arith) (sym (s.2 d))) ∙ front-neighbours p

  -- a test of each with those before it
  pub front-before : (p : A → A → Bool)
      → all_below (λ i. all_below (λ j. p (get_or ys j d) (get_or ys i d)) i) (length ys)
      ≡ all_below (λ i. all_below (λ j. p (get_or xs j d) (get_or xs i d)) i) n
  front-before p =
      rw h
      (all_below-same _ _ n (λ i l. all_below-same _ _ i (λ j k. rw (front-at j (omega arith), front-at i l))))

-- ---- the first place of which a test holds

module _ (p : ℕ → Bool) (n i : ℕ) where
  pub first_more : i < n → p i ≡ false → first_from p (n - i) i ≡ first_from p (n - (i + 1)) (i + 1)
  unfolding first_from
  first_more h t = let e : n - i ≡ suc (n - (i + 1)) = omega arith in rw (e, t)

  pub first-stop : i < n → p i ≡ true → first_from p (n - i) i ≡ i
  unfolding first_from
  first-stop h t = let e : n - i ≡ suc (n - (i + 1)) = omega arith in rw (e, t)

  pub first-none : n ≤ i → first_from p (n - i) i ≡ i
  unfolding first_from
  first-none h = let e : n - i ≡ 0 = omega arith in rw e

-- the first of the elements of a list
pub first-position : {A : Type 0} (p : A → Bool) (d : A) (q : ℕ → Bool) (xs : List A) (i : ℕ)
    → ((j : ℕ) → j < length xs → q (i + j) ≡ p (get_or xs j d)) → first_from q (length xs) i ≡ i + position_or_len p xs
unfolding first_from
first-position p d q [] i h = omega arith
first-position p d q (x ∷ xs) i h =
    rw (here, first-position p d q xs (i + 1) (λ j l. rest j l)) (by (p x))
  where
    here : q i ≡ p x
    here = let e : i ≡ i + 0 = omega arith in ap q e ∙ h 0 (omega arith)

    rest : (j : ℕ) → j < length xs → q (i + 1 + j) ≡ p (get_or xs j d)
    rest j l = let e : i + 1 + j ≡ i + suc j = omega arith in ap q e ∙ h (suc j) (omega arith)

    by : (b : Bool) → cond b i (i + 1 + position_or_len p xs) ≡ i + cond (not b) (1 + position_or_len p xs) 0
    by true = omega arith
    by false = omega arith
