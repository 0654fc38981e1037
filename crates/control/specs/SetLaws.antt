-- Laws of the sets of Observation, for the code, which sorts nothing: what a set holds, that it
-- rises, and that two that rise are equal where each lies within the other.
-- Each name here is a step of a proof; what is right is said in Observation.
-- Assumes nothing.
use Rattle.std.specs.Prelude.{ℕ, zero, suc, ◌<◌, ◌≤◌, ◌≡◌, Bool, cond, not, ◌&&◌, ◌||◌, eqb, ltb}
use Rattle.std.proofs.Math.Path.{refl}
use Rattle.std.proofs.Common.{sym, ap, ◌∙◌, arith, eqb-true, ltb-true, ltb-false, eq-eqb, ne_eqb, lt-ltb}
use Rattle.std.proofs.Math.Bool.{true, false, or_assoc, or-true, or_self_left, and-false, and-true}
use mathlib.Core.List.{List, ◌∷◌, []}
use Rattle.std.proofs.lemmas.Bool.{eqb-false}
use Rattle.identity.specs.Text.{every}
use Rattle.identity.specs.Utf8Laws.{and_left, and_right}
use Rattle.records.specs.declared.records.VoterConfiguration.{VoterConfiguration}
use Rattle.records.specs.EqualityLaws.{eq_bytes-true, eq_bytes-refl}
use Rattle.records.specs.Records.{all_below, member_at}
use Rattle.control.specs.Observation.{eq_ids, is_rising, insert_id, contains, union_ids, difference, is_subset, member_node, member_ids_below}

-- ---- what a set holds

or_swap : (a b c : Bool) → (a || (b || c)) ≡ (b || (a || c))
or_swap true true c = refl
or_swap true false c = refl
or_swap false b c = refl

module _ (x y : ℕ) where
  insert-in : (z : ℕ) (l : List ℕ) (lt eq : Bool) → ltb y z ≡ lt → eqb y z ≡ eq → contains x (insert_id y l) ≡ (eqb x y || contains x l)
      → contains x (cond lt (y ∷ z ∷ l) (cond eq (z ∷ l) (z ∷ insert_id y l))) ≡ (eqb x y || (eqb x z || contains x l))
  unfolding contains
  insert-in z l true eq e f h = refl
  insert-in z l false true e f h = rw (eqb-true y z f) (sym (or_self_left (eqb x z) (contains x l)))
  insert-in z l false false e f h = rw h (or_swap (eqb x z) (eqb x y) (contains x l))

  pub contains-insert : (l : List ℕ) → contains x (insert_id y l) ≡ (eqb x y || contains x l)
  unfolding contains insert_id
  contains-insert [] = refl
  contains-insert (z ∷ l) = insert-in z l (ltb y z) (eqb y z) refl refl (contains-insert l)

pub contains-union : (x : ℕ) (a b : List ℕ) → contains x (union_ids a b) ≡ (contains x a || contains x b)
unfolding contains union_ids
contains-union x [] b = refl
contains-union x (y ∷ a) b =
    contains-insert x y (union_ids a b) ∙ (ap (λ (t : Bool). eqb x y || t) (contains-union x a b) ∙ sym (or_assoc (eqb x y) (contains x a) (contains x b)))

-- a member of a configuration has that id
pub contains-ids : (c : VoterConfiguration) (x n : ℕ) → contains x (member_ids_below c n) ≡ not (all_below (λ i. not (eqb x (member_node (member_at c i)))) n)
unfolding member_ids_below contains all_below
contains-ids c x zero = refl
contains-ids c x (suc n) =
    contains-insert x (member_node (member_at c n)) (member_ids_below c n)
    ∙ (ap (λ (t : Bool). eqb x (member_node (member_at c n)) || t) (contains-ids c x n)
    ∙ turned (eqb x (member_node (member_at c n))) (all_below (λ i. not (eqb x (member_node (member_at c i)))) n))
  where
    turned : (p q : Bool) → (p || not q) ≡ not (q && not p)
    turned true q = ap not (sym (and-false q))
    turned false q = ap not (sym (and-true q))

difference-in : (x y : ℕ) (a b : List ℕ) (t : Bool) → contains y b ≡ t → contains x (difference a b) ≡ (contains x a && not (contains x b))
    → contains x (cond t (difference a b) (y ∷ difference a b)) ≡ ((eqb x y || contains x a) && not (contains x b))
unfolding contains
difference-in x y a b t e h = by t (eqb x y) e refl
  where
    by : (t d : Bool) → contains y b ≡ t → eqb x y ≡ d → contains x (cond t (difference a b) (y ∷ difference a b)) ≡ ((d || contains x a) && not (contains x b))
    by true true e f =
        let g : contains x b ≡ true = ap (λ (z : ℕ). contains z b) (eqb-true x y f) ∙ e in
        h ∙ (rw (g, and-false (contains x a)))
    by true false e f = h
    by false true e f =
        let g : contains x b ≡ false = ap (λ (z : ℕ). contains z b) (eqb-true x y f) ∙ e in
        rw (f, g)
    by false false e f = rw f h

pub contains-difference : (x : ℕ) (a b : List ℕ) → contains x (difference a b) ≡ (contains x a && not (contains x b))
unfolding difference contains
contains-difference x [] b = refl
contains-difference x (y ∷ a) b = difference-in x y a b (contains y b) refl (contains-difference x a b)

-- ---- sets rise

-- what comes after the head of a rising list is greater
pub head-least : (x : ℕ) (l : List ℕ) → is_rising (x ∷ l) ≡ true → (y : ℕ) → contains y l ≡ true → x < y
unfolding is_rising contains
head-least x [] h y c = absurd (let z : ◌≡◌ {A = ℕ} 0 1 = cc in omega arith)
head-least x (z ∷ l) h y c = by (eqb y z) refl c (ltb-true x z (and_left _ _ h)) (head-least z l (and_right (ltb x z) _ h) y)
  where
    by : (d : Bool) → eqb y z ≡ d → (d || contains y l) ≡ true → x < z → (contains y l ≡ true → z < y) → x < y
    by true e c l f = let k = eqb-true y z e in omega arith
    by false e c l f = let k = f c in omega arith

rising-tail : (x : ℕ) (l : List ℕ) → is_rising (x ∷ l) ≡ true → is_rising l ≡ true
unfolding is_rising
rising-tail x [] h = refl
rising-tail x (y ∷ l) h = and_right (ltb x y) _ h

-- a head that is less than all after it
rising-head : (x : ℕ) (l : List ℕ) → is_rising l ≡ true → ((y : ℕ) → contains y l ≡ true → x < y) → is_rising (x ∷ l) ≡ true
unfolding is_rising contains
rising-head x [] h f = refl
rising-head x (y ∷ l) h f = rw (lt-ltb x y (f y (rw (eq-eqb y y refl)))) h

pub rising-insert : (x : ℕ) (l : List ℕ) → is_rising l ≡ true → is_rising (insert_id x l) ≡ true
unfolding is_rising insert_id
rising-insert x [] h = refl
rising-insert x (y ∷ l) h = by (ltb x y) refl (eqb x y) refl (rising-insert x l (rising-tail y l h))
  where
    after : y < x → (z : ℕ) (d : Bool) → eqb z x ≡ d → (d || contains z l) ≡ true → y < z
    after k z true e c = let q = eqb-true z x e in omega arith
    after k z false e c = head-least y l h z c

    by : (lt : Bool) → ltb x y ≡ lt → (eq : Bool) → eqb x y ≡ eq → is_rising (insert_id x l) ≡ true → is_rising (cond lt (x ∷ y ∷ l) (cond eq (y ∷ l) (y ∷ insert_id x l))) ≡ true
    by true e eq f r = rw e h
    by false e true f r = h
    by false e false f r =
        let k = ltb-false x y e in
        let n = eqb-false x y f in
        rising-head y (insert_id x l) r (λ z c. after (omega arith) z (eqb z x) refl (sym (contains-insert z x l) ∙ c))

pub rising-union : (a b : List ℕ) → is_rising b ≡ true → is_rising (union_ids a b) ≡ true
unfolding union_ids
rising-union [] b h = h
rising-union (x ∷ a) b h = rising-insert x (union_ids a b) (rising-union a b h)

pub rising-ids : (c : VoterConfiguration) (n : ℕ) → is_rising (member_ids_below c n) ≡ true
unfolding member_ids_below is_rising
rising-ids c zero = refl
rising-ids c (suc n) = rising-insert (member_node (member_at c n)) (member_ids_below c n) (rising-ids c n)

-- so the first of a difference is its least
pub rising-difference : (a b : List ℕ) → is_rising a ≡ true → is_rising (difference a b) ≡ true
unfolding difference is_rising
rising-difference [] b h = refl
rising-difference (x ∷ a) b h = by (contains x b) (rising-difference a b (rising-tail x a h))
  where
    by : (d : Bool) → is_rising (difference a b) ≡ true → is_rising (cond d (difference a b) (x ∷ difference a b)) ≡ true
    by true r = r
    by false r = rising-head x (difference a b) r (λ y c. head-least x a h y (and_left _ _ (sym (contains-difference y a b) ∙ c)))

-- ---- sets that hold the same are the same

contradiction : true ≡ false → ⊥
contradiction e = let z : ◌≡◌ {A = ℕ} 0 1 = cc in omega arith

pub holds-head : (x : ℕ) (l : List ℕ) → contains x (x ∷ l) ≡ true
unfolding contains
holds-head x l = rw (eq-eqb x x refl)

pub holds-tail : (x y : ℕ) (l : List ℕ) → contains y l ≡ true → contains y (x ∷ l) ≡ true
unfolding contains
holds-tail x y l c = rw (c, or-true (eqb y x))

-- of the head of another list: it is that head, or comes after it
pub other-head : (x y : ℕ) (l : List ℕ) → contains x (y ∷ l) ≡ true → is_rising (y ∷ l) ≡ true → y ≤ x
unfolding contains
other-head x y l c r = by (eqb x y) refl c
  where
    by : (d : Bool) → eqb x y ≡ d → (d || contains x l) ≡ true → y ≤ x
    by true e k = let q = eqb-true x y e in omega arith
    by false e k = let q = head-least y l r x k in omega arith

-- each within the other
abbrev pub Within : List ℕ → List ℕ → Type 0
Within a b = (x : ℕ) → contains x a ≡ true → contains x b ≡ true

tail_within : (x y : ℕ) (a b : List ℕ) → x ≡ y → is_rising (x ∷ a) ≡ true → Within (x ∷ a) (y ∷ b) → Within a b
unfolding contains
tail_within x y a b e r w z c =
    let l = head-least x a r z c in
    let n : eqb z y ≡ false = ne_eqb z y (λ q. omega arith) in
    let k : (eqb z y || contains z b) ≡ true = w z (holds-tail x z a c) in
    rw n at k

pub same_set : (a b : List ℕ) → is_rising a ≡ true → is_rising b ≡ true → Within a b → Within b a → a ≡ b
unfolding contains
same_set [] [] p q v w = refl
same_set [] (y ∷ b) p q v w = absurd (contradiction (sym (w y (holds-head y b))))
same_set (x ∷ a) [] p q v w = absurd (contradiction (sym (v x (holds-head x a))))
same_set (x ∷ a) (y ∷ b) p q v w =
    let k = other-head x y b (v x (holds-head x a)) q in
    let l = other-head y x a (w y (holds-head y b)) p in
    let e : x ≡ y = omega arith in
    let t = same_set a b (rising-tail x a p) (rising-tail y b q) (tail_within x y a b e p v) (tail_within y x b a (sym e) q w) in
    cc

pub subset-says : (a b : List ℕ) → is_subset a b ≡ true → Within a b
unfolding contains every
subset-says [] b h x c = absurd (contradiction (sym c))
subset-says (y ∷ a) b h x c = by (eqb x y) refl c (subset-says a b (and_right (contains y b) _ h) x)
  where
    by : (d : Bool) → eqb x y ≡ d → (d || contains x a) ≡ true → (contains x a ≡ true → contains x b ≡ true) → contains x b ≡ true
    by true e k f = ap (λ (z : ℕ). contains z b) (eqb-true x y e) ∙ and_left _ _ h
    by false e k f = f k

pub subset-of : (a b : List ℕ) → Within a b → is_subset a b ≡ true
unfolding every
subset-of [] b w = refl
subset-of (y ∷ a) b w = rw (w y (holds-head y a)) (subset-of a b (λ x c. w x (holds-tail y x a c)))

-- A rising slice is a set's ids where each lies within the other.
pub sets-equal : (a b : List ℕ) → is_rising a ≡ true → is_rising b ≡ true → eq_ids a b ≡ (is_subset a b && is_subset b a)
sets-equal a b p q = by (is_subset a b && is_subset b a) refl (eq_ids a b) refl
  where
    by : (s : Bool) → (is_subset a b && is_subset b a) ≡ s → (d : Bool) → eq_ids a b ≡ d → d ≡ s
    by true e true f = refl
    by true e false f =
        let k = same_set a b p q (subset-says a b (and_left _ _ e)) (subset-says b a (and_right (is_subset a b) _ e)) in
        absurd (contradiction (sym (eq_bytes-refl b) ∙ (ap (λ (x : List ℕ). eq_ids x b) (sym k) ∙ f)))
    by false e true f =
        let k = eq_bytes-true a b f in
        let v : is_subset a b ≡ true = subset-of a b (λ x c. ap (contains x) (sym k) ∙ c) in
        let w : is_subset b a ≡ true = subset-of b a (λ x c. ap (contains x) k ∙ c) in
        absurd (contradiction (sym (rw (v, w)) ∙ e))
    by false e false f = refl
