-- Tests taken apart and put together: a long `&&`, a choice whose test is decided, an answer that
-- leads on, every place and the first place below a count.
-- Each name here is a step of a proof. `ValidParts`, `RepresentableParts` and `SuccessorParts` say
-- which tests a definition consists of.
-- Assumes nothing.
use Prim.Native.Nat.{ℕ, zero, suc, ◌+◌, ◌-◌, ◌<◌, ◌≤◌}
use Rattle.std.proofs.Math.Path.{refl, ap}
use Rattle.std.proofs.Common.{sym, ◌∙◌, arith, get_or-set_same, get_or-set_other}
use Rattle.std.specs.Prelude.{◌≡◌, Bool, not, ◌&&◌, ◌||◌, List, ◌∷◌, [], length, get_or, set, leb}
use Rattle.std.proofs.Math.Bool.{true, false, cond}
use Rattle.std.proofs.lemmas.Bool.{false≢true}
use Rattle.std.proofs.Math.Dec.{eqb}
use borrow.Author.Tests.{eqb-true, eqb-false, leb-true, leb-false}
use Rattle.identity.specs.Answer.{is_accepted, Answer, Accepted}
use Rattle.identity.specs.Utf8Laws.{and_left, and_right}
use Rattle.records.specs.Equality.{all_true, eq_bytes}
use Rattle.records.specs.EqualityLaws.{eq_bytes-true, eq_bytes-refl}
use Rattle.records.specs.Records.{all_below, first_from}
use Rattle.records.specs.RecordsLaws.{all_below-at}
use Rattle.records.specs.Successor.{first_refusal}
use Rattle.records.specs.ValidationLaws.{is-accepted}

-- ---- a long `&&`

-- tests one by one; all of them at once is `all_true` of Equality
abbrev pub Each : List Bool → Type 0
Each [] = Unit {0}
Each (p ∷ []) = p ≡ true
Each (p ∷ (q ∷ ps)) = (p ≡ true) × Each (q ∷ ps)

-- what all of them at once says
pub each : (ps : List Bool) → all_true ps ≡ true → Each ps
unfolding all_true
each [] h = tt
each (p ∷ []) h = h
each (p ∷ (q ∷ ps)) h = (and_left p (all_true (q ∷ ps)) h, each (q ∷ ps) (and_right p (all_true (q ∷ ps)) h))

-- two tests that both hold
pub and_both : (p q : Bool) → p ≡ true → q ≡ true → (p && q) ≡ true
and_both true q h k = k
and_both false q h k = h

-- and what passes them
pub passed : (ps : List Bool) → Each ps → all_true ps ≡ true
unfolding all_true
passed [] h = refl
passed (p ∷ []) h = h
passed (p ∷ (q ∷ ps)) h = and_both p (all_true (q ∷ ps)) h.0 (passed (q ∷ ps) h.1)

-- a test that is all of these at once: what it says where it is passed, and what passes it
pub record MadeOf (ps : List Bool) (test : Bool) : Type 0 where
  pub is : test ≡ all_true ps

module _ {ps : List Bool} {test : Bool} (made : MadeOf ps test) where
  pub says : test ≡ true → Each ps
  says h = each ps (sym made.is ∙ h)

  pub passes : Each ps → test ≡ true
  passes h = made.is ∙ passed ps h

-- ---- "not this, or that"

pub then-says : (b c : Bool) → (not b || c) ≡ true → b ≡ true → c ≡ true
then-says true c h e = h
then-says false c h e = absurd (false≢true e)

pub then-passes : (b c : Bool) → (b ≡ true → c ≡ true) → (not b || c) ≡ true
then-passes true c h = h refl
then-passes false c h = refl

-- the first of two holds
pub left_or : (b c : Bool) → b ≡ true → (b || c) ≡ true
left_or true c h = refl
left_or false c h = absurd (false≢true h)

-- ---- "not this"

pub never-says : (b : Bool) → not b ≡ true → b ≡ true → ⊥
never-says true h e = false≢true h
never-says false h e = false≢true e

pub never-passes : (b : Bool) → (b ≡ true → ⊥) → not b ≡ true
never-passes true h = absurd (h refl)
never-passes false h = refl

-- a test that cannot hold
pub is_false : (b : Bool) → (b ≡ true → ⊥) → b ≡ false
is_false true h = absurd (h refl)
is_false false h = refl

-- ---- a choice whose test is decided

pub cond-true : {A : Type 0} (b : Bool) (x y : A) → b ≡ true → cond b x y ≡ x
cond-true true x y h = refl
cond-true false x y h = absurd (false≢true h)

pub cond-false : {A : Type 0} (b : Bool) (x y : A) → b ≡ false → cond b x y ≡ y
cond-false true x y h = absurd (false≢true (sym h))
cond-false false x y h = refl

-- two tests with one refusal are one
pub decided : {A : Type 0} (a b : Bool) (x y z : A) → (a ≡ true → z ≡ cond b x y) → cond a z y ≡ cond (a && b) x y
decided true b x y z h = h refl
decided false b x y z h = refl

-- a branch may use that it is taken
pub either_way : {A : Type 0} (b : Bool) (x x' y y' : A) → (b ≡ true → x ≡ x') → (b ≡ false → y ≡ y') → cond b x y ≡ cond b x' y'
either_way true x x' y y' h k = h refl
either_way false x x' y y' h k = k refl

-- the same of the second branch alone
pub otherwise : {A : Type 0} (b : Bool) (x y z : A) → (b ≡ false → y ≡ z) → cond b x y ≡ cond b x z
otherwise b x y z h = either_way b x x y z (λ _. refl) h

-- what holds of each branch where it is taken holds of the choice
pub by-test : {A : Type 0} (P : A → Type 0) (b : Bool) {x y : A} → (b ≡ true → P x) → (b ≡ false → P y) → P (cond b x y)
by-test P true f g = f refl
by-test P false f g = g refl

-- ---- bytes

-- equal bytes pass the test for it
pub same_bytes : (a b : List ℕ) → a ≡ b → eq_bytes a b ≡ true
same_bytes a b e = ap (λ (x : List ℕ). eq_bytes x b) e ∙ eq_bytes-refl b

-- bytes that differ do not
pub other-bytes : (a b : List ℕ) → (a ≡ b → ⊥) → eq_bytes a b ≡ false
other-bytes a b n = is_false (eq_bytes a b) (λ h. n (eq_bytes-true a b h))

-- ---- answers

-- of a choice that is accepted, where the other branch is a refusal: the first branch was taken
pub chosen : (t : Bool) (a b : Answer) → is_accepted b ≡ false → cond t a b ≡ Accepted → (t ≡ true) × (a ≡ Accepted)
chosen true a b n h = (refl, h)
chosen false a b n h = absurd (false≢true (sym n ∙ ap is_accepted h))

-- the same where the first branch is a refusal
pub chosen-not : (t : Bool) (a b : Answer) → is_accepted a ≡ false → cond t a b ≡ Accepted → (t ≡ false) × (b ≡ Accepted)
chosen-not true a b n h = absurd (false≢true (sym n ∙ ap is_accepted h))
chosen-not false a b n h = (refl, h)

-- an answer that leads on to another is accepted where both are
pub both-accepted : (a b : Answer) → first_refusal a b ≡ Accepted → (a ≡ Accepted) × (b ≡ Accepted)
both-accepted a b h = by (is_accepted a) refl h
  where
    by : (t : Bool) → is_accepted a ≡ t → cond t b a ≡ Accepted → (a ≡ Accepted) × (b ≡ Accepted)
    by true e k = (is-accepted a e, k)
    by false e k = absurd (false≢true (sym e ∙ ap is_accepted k))

-- and where both are, it is
pub then-accepted : (a b : Answer) → a ≡ Accepted → b ≡ Accepted → first_refusal a b ≡ Accepted
then-accepted a b h k = ap (λ (x : Answer). first_refusal x b) h ∙ k

-- ---- places

-- a place at which a test fails
pub some_below : (p : ℕ → Bool) (n i : ℕ) → i < n → p i ≡ false → not (all_below p n) ≡ true
some_below p n i l h = never-passes (all_below p n) (λ a. false≢true (sym h ∙ all_below-at p n i a l))

-- ---- the first place

module _ (p : ℕ → Bool) where
  -- the first place of those below a count, if there is one, passes the test
  pub first-at : (k i : ℕ) → first_from p k i < i + k → p (first_from p k i) ≡ true
  unfolding first_from
  first-at zero i h = absurd (omega arith)
  first-at (suc k) i h = go (p i) refl (first-at k (i + 1)) h
    where
      go : (b : Bool) → p i ≡ b → (first_from p k (i + 1) < i + 1 + k → p (first_from p k (i + 1)) ≡ true)
          → cond b i (first_from p k (i + 1)) < i + suc k → p (cond b i (first_from p k (i + 1))) ≡ true
      go true e rest l = e
      go false e rest l = rest (omega arith)

  -- before it the test does not hold
  pub first-before : (k i j : ℕ) → i ≤ j → j < first_from p k i → p j ≡ false
  unfolding first_from
  first-before zero i j l h = absurd (omega arith)
  first-before (suc k) i j l h = go (p i) refl (eqb j i) refl (first-before k (i + 1) j) h
    where
      go : (b : Bool) → p i ≡ b → (c : Bool) → eqb j i ≡ c → (i + 1 ≤ j → j < first_from p k (i + 1) → p j ≡ false)
          → j < cond b i (first_from p k (i + 1)) → p j ≡ false
      go true e c f rest m = absurd (omega arith)
      go false e true f rest m = ap p (eqb-true j i f) ∙ e
      go false e false f rest m = let d = eqb-false j i f in rest (omega arith) m

  -- where there is none, no place does
  pub first_absent : (k i j : ℕ) → i ≤ j → j < i + k → i + k ≤ first_from p k i → p j ≡ false
  first_absent k i j h l m = first-before k i j h (omega arith)

-- two tests that agree have one first place
pub first-same : (p q : ℕ → Bool) (k i : ℕ) → ((j : ℕ) → j < i + k → p j ≡ q j) → first_from p k i ≡ first_from q k i
unfolding first_from
first-same p q zero i h = refl
first-same p q (suc k) i h = rw (h i (omega arith), first-same p q k (i + 1) (λ j l. h j (omega arith)))

-- ---- a list with one element replaced

-- what holds of the element that is put in, and of the others, holds of each
pub set-each : {A : Type 0} (P : ℕ → A → Type 0) (l : List A) (k : ℕ) (x d : A) → k < length l → P k x → ((i : ℕ) → (i ≡ k → ⊥) → P i (get_or l i d))
    → (i : ℕ) → P i (get_or (set l k x) i d)
set-each P l k x d h a b i = go (eqb i k) refl
  where
    go : (t : Bool) → eqb i k ≡ t → P i (get_or (set l k x) i d)
    go true e = let p = eqb-true i k e in rw (p, get_or-set_same l k x d h) a
    go false e = let n = eqb-false i k e in rw (get_or-set_other l k i x d n) (b i n)

-- ---- numbers that rise differ

module _ (f : ℕ → ℕ) (n : ℕ) (rise : (i : ℕ) → i < n - 1 → f i < f (i + 1)) where
  rises : (i d : ℕ) → i + 1 + d < n → f i < f (i + 1 + d)
  rises i zero l = let e : i + 1 + 0 ≡ i + 1 = omega arith in rw e (rise i (omega arith))
  rises i (suc d) l =
      let e : i + 1 + suc d ≡ i + 1 + d + 1 = omega arith in
      rw e (omega (arith, rises i d (omega arith), rise (i + 1 + d) (omega arith)))

  below : (i j : ℕ) → i < j → j < n → f i ≡ f j → ⊥
  below i j l m e =
      let k : j ≡ i + 1 + (j - (i + 1)) = omega arith in
      omega (arith, rises i (j - (i + 1)) (omega arith), ap f k)

  -- so two places have two numbers
  pub apart : (i j : ℕ) → i < n → j < n → (i ≡ j → ⊥) → f i ≡ f j → ⊥
  apart i j l m d e = by (leb i j) refl
    where
      by : (b : Bool) → leb i j ≡ b → ⊥
      by true h = let k = leb-true i j h in below i j (omega arith) m e
      by false h = below j i (leb-false i j h) l (sym e)
