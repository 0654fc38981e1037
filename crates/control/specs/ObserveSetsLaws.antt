-- One more element, for the loops of `sets`: by what was passed (`take`), or by what is left
-- (`drop`).
-- Each name here is a step of a proof; what is right is said in Observation.
-- Assumes nothing.
use Rattle.std.specs.Prelude.{Some, ℕ, zero, suc, ◌+◌, ◌-◌, ◌<◌, ◌≤◌, refl, ◌≡◌, Bool, true, false, cond, not, ◌&&◌, ◌||◌, List, ◌∷◌, [], ◌++◌, eqb, leb, ltb, length, take, drop, get_or, set}
use Rattle.std.proofs.Common.{sym, ap, ◌∙◌, add-one, arith, take-suc, take-suc-set, eqb-true, eq-eqb, ne_eqb, leb-true, leb-false}
use Rattle.std.specs.List.{list_any}
use Rattle.std.proofs.Math.Bool.{or_assoc, or-false, and_assoc, and-true}
use Rattle.std.proofs.Math.Seq.{drop-cons}
use Rattle.std.proofs.lemmas.Bool.{eqb-false}
use Rattle.records.specs.declared.records.VoterConfiguration.{VoterConfiguration}
use Rattle.records.specs.Records.{member_at}
use Rattle.control.specs.Observation.{all_rising, contains, difference, is_rising, member_node, split_sets, total, union_ids}
use Rattle.control.specs.ObserveSets.{first_of, least_new, listed}
use Rattle.control.specs.SetLaws.{contains-union}

-- ---- counts

pub total_more : (l : List ℕ) (i : ℕ) → i < length l → total (drop i l) ≡ get_or l i 0 + total (drop (i + 1) l)
unfolding total
total_more l i h = rw (add-one, drop-cons l i 0 h)

pub total_end : (l : List ℕ) (i : ℕ) → length l ≤ i → total (drop i l) ≡ 0
unfolding total
total_end [] zero h = refl
total_end [] (suc i) h = refl
total_end (x ∷ l) zero h = absurd (omega arith)
total_end (x ∷ l) (suc i) h = total_end l i (omega arith)

-- what is left of a length is nothing where the counts add up to it
pub left-none : (a b left : ℕ) → a + left ≡ b → eqb left 0 ≡ eqb a b
left-none a b left h = by (eqb a b) refl
  where
    by : (d : Bool) → eqb a b ≡ d → eqb left 0 ≡ d
    by true e = let k = eqb-true a b e in eq-eqb left 0 (omega arith)
    by false e = let k = eqb-false a b e in ne_eqb left 0 (λ z. k (omega arith))

-- ---- what a list holds

pub contains-append : (x : ℕ) (a b : List ℕ) → contains x (a ++ b) ≡ (contains x a || contains x b)
unfolding contains
contains-append x [] b = refl
contains-append x (y ∷ a) b = ap (λ (t : Bool). eqb x y || t) (contains-append x a b) ∙ sym (or_assoc (eqb x y) (contains x a) (contains x b))

pub contains-more : (x : ℕ) (l : List ℕ) (i : ℕ) → i < length l → contains x (take (i + 1) l) ≡ (contains x (take i l) || eqb x (get_or l i 0))
unfolding contains
contains-more x l i h =
    rw (add-one, take-suc l i 0 h) (contains-append x (take i l) (get_or l i 0 ∷ []) ∙ ap (λ (t : Bool). contains x (take i l) || t) (or-false (eqb x (get_or l i 0))))

eqb-swap : (x y : ℕ) → eqb x y ≡ eqb y x
eqb-swap x y = by (eqb y x) refl
  where
    by : (d : Bool) → eqb y x ≡ d → eqb x y ≡ d
    by true e = eq-eqb x y (sym (eqb-true y x e))
    by false e = ne_eqb x y (λ z. eqb-false y x e (sym z))

-- by the library's words
pub contains_any : (x : ℕ) (l : List ℕ) → contains x l ≡ list_any (λ y. eqb y x) l
unfolding contains
contains_any x [] = refl
contains_any x (y ∷ l) = λ i. eqb-swap x y i || contains_any x l i

-- ---- rising

-- one more element after a rising front
rising-next : (x : ℕ) (l : List ℕ) (i : ℕ) → suc i < length (x ∷ l)
    → is_rising (take (suc (suc i)) (x ∷ l)) ≡ (is_rising (take (suc i) (x ∷ l)) && ltb (get_or (x ∷ l) i 0) (get_or (x ∷ l) (suc i) 0))
unfolding is_rising
rising-next x [] i h = absurd (omega arith)
rising-next x (y ∷ l) zero h = and-true (ltb x y)
rising-next x (y ∷ l) (suc i) h =
    ap (λ (t : Bool). ltb x y && t) (rising-next y l i (omega arith))
    ∙ sym (and_assoc (ltb x y) (is_rising (take (suc i) (y ∷ l))) (ltb (get_or (y ∷ l) i 0) (get_or (y ∷ l) (suc i) 0)))

pub rising_more : (l : List ℕ) (i : ℕ) → 1 ≤ i → i < length l → is_rising (take (i + 1) l) ≡ (is_rising (take i l) && ltb (get_or l (i - 1) 0) (get_or l i 0))
rising_more [] i k h = absurd (omega arith)
rising_more (x ∷ l) zero k h = absurd (omega arith)
rising_more (x ∷ l) (suc i) k h = let e : suc i - 1 ≡ i = omega arith in rw (add-one, e) (rising-next x l i (omega arith))

pub rising_one : (l : List ℕ) → is_rising (take 1 l) ≡ true
unfolding is_rising
rising_one [] = refl
rising_one (x ∷ l) = refl

-- one more set
pub sets_more : (all : Bool) (rest counts : List ℕ) (i : ℕ) → i < length counts
    → (all && all_rising (split_sets rest (drop i counts)))
    ≡ ((all && is_rising (take (get_or counts i 0) rest)) && all_rising (split_sets (drop (get_or counts i 0) rest) (drop (i + 1) counts)))
unfolding all_rising split_sets
sets_more all rest counts i h =
    let n = get_or counts i 0 in
    rw (add-one, drop-cons counts i 0 h) (sym (and_assoc all (is_rising (take n rest)) (all_rising (split_sets (drop n rest) (drop (suc i) counts)))))

pub sets_end : (ids counts : List ℕ) (i : ℕ) → length counts ≤ i → all_rising (split_sets ids (drop i counts)) ≡ true
unfolding all_rising split_sets
sets_end ids [] zero h = refl
sets_end ids [] (suc i) h = refl
sets_end ids (x ∷ l) zero h = absurd (omega arith)
sets_end ids (x ∷ l) (suc i) h = sets_end ids l i (omega arith)

-- ---- the searches

module _ (s old new : List ℕ) (i : ℕ) (h : i < length s) where
  -- an element that one of them has is passed
  pub outside_passed : (contains (get_or s i 0) old || contains (get_or s i 0) new) ≡ true
      → first_of (difference (drop i s) (union_ids old new)) ≡ first_of (difference (drop (i + 1) s) (union_ids old new))
  unfolding difference
  outside_passed e = rw (add-one, drop-cons s i 0 h, contains-union (get_or s i 0) old new, e)

  pub outside_found : (contains (get_or s i 0) old || contains (get_or s i 0) new) ≡ false → first_of (difference (drop i s) (union_ids old new)) ≡ Some (get_or s i 0)
  unfolding difference first_of
  outside_found e = rw (drop-cons s i 0 h, contains-union (get_or s i 0) old new, e)

pub outside_none : (s b : List ℕ) (i : ℕ) → length s ≤ i → first_of (difference (drop i s) b) ≡ first_of []
unfolding difference
outside_none [] b zero h = refl
outside_none [] b (suc i) h = refl
outside_none (x ∷ l) b zero h = absurd (omega arith)
outside_none (x ∷ l) b (suc i) h = outside_none l b i (omega arith)

pub least_more : (old l : List ℕ) (i least : ℕ) → i < length l
    → least_new old (drop i l) least ≡ least_new old (drop (i + 1) l) (cond (ltb (get_or l i 0) least && not (contains (get_or l i 0) old)) (get_or l i 0) least)
unfolding least_new
least_more old l i least h = rw (add-one, drop-cons l i 0 h)

pub least_end : (old l : List ℕ) (i least : ℕ) → length l ≤ i → least_new old (drop i l) least ≡ least
unfolding least_new
least_end old [] zero least h = refl
least_end old [] (suc i) least h = refl
least_end old (x ∷ l) zero least h = absurd (omega arith)
least_end old (x ∷ l) (suc i) least h = least_end old l i least (omega arith)

-- ---- lengths

pub one_more : (n m : ℕ) → m < n → eqb (n - m) 1 ≡ leb n (m + 1)
one_more n m h = by (leb n (m + 1)) refl
  where
    by : (d : Bool) → leb n (m + 1) ≡ d → eqb (n - m) 1 ≡ d
    by true e = let k = leb-true n (m + 1) e in eq-eqb (n - m) 1 (omega arith)
    by false e = let k = leb-false n (m + 1) e in ne_eqb (n - m) 1 (λ z. omega arith)

-- the first of two counts
pub first_count : (ids counts : List ℕ) → total counts ≤ length ids → 0 < length counts → get_or counts 0 0 ≤ length ids
first_count ids counts h k = let m = total_more counts 0 k in omega arith

-- ---- the ids of the members

-- one more place
pub listed_more : (c : VoterConfiguration) (ids : List ℕ) (i v : ℕ) → i < length ids → take i ids ≡ listed c i → v ≡ member_node (member_at c i)
    → take (i + 1) (set ids i v) ≡ listed c (i + 1)
unfolding listed
listed_more c ids i v h e f = rw (add-one, take-suc-set ids i v h, e, f)

-- a phase and the one before it
pub eqb_next : (p before at : ℕ) → before + 1 ≡ at → eqb p before ≡ eqb (p + 1) at
eqb_next p before at h = by (eqb p before) refl
  where
    by : (d : Bool) → eqb p before ≡ d → d ≡ eqb (p + 1) at
    by true e = let k = eqb-true p before e in sym (eq-eqb (p + 1) at (omega arith))
    by false e = let k = eqb-false p before e in sym (ne_eqb (p + 1) at (λ z. k (omega arith)))
