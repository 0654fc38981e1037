-- What the code sees is what Observation sees: members' ids in the order of their places, whatever
-- repeats, hold what the sets hold, and the tests of the code are those of the definition. The laws
-- that count are `see-is`, of an open request, and `idle-is`, of none.
-- Assumes nothing.
use Rattle.std.specs.Option.{unwrap_or}
use Rattle.std.specs.Prelude.{Option, is_none, Ok, Err, ◌≡◌, Bool, ◌&&◌, ◌||◌, length, take, drop, get_or}
use Rattle.identity.specs.Answer.{Answer, is_accepted}
use Prim.Native.Nat.{ℕ, zero, suc, ◌+◌, ◌-◌, ◌*◌, ◌<◌, ◌≤◌}
use Rattle.std.proofs.Math.Path.{refl, sym}
use Rattle.std.proofs.Common.{ap, ◌∙◌, length-append, length-drop, take_all}
use Rattle.std.proofs.Math.Bool.{true, false, cond, not, or_comm, or-false, and_assoc, and-true, and-false}
use Rattle.std.proofs.lemmas.Bool.{false≢true}
use mathlib.Core.List.{List, ◌∷◌, [], ◌++◌}
use native.Mathlib.Omega.{arith}
use Rattle.std.proofs.Math.Dec.{eqb, leb, ltb}
use Rattle.std.proofs.lemmas.List.{take-append-le}
use borrow.Author.Tests.{eqb-true, eqb-false, eq-eqb, ne_eqb, ltb-true, ltb-false, leb-true, leb-false, not-true}
use Rattle.identity.specs.Identity.{node_id, node_id_span, passed_with, validate_voter_slot_identity, value_of_number}
use Rattle.identity.proofs.IdentityLaws.{identity-sound}
use Rattle.identity.specs.Text.{every}
use Rattle.identity.specs.Utf8Laws.{and_left, and_right}
use Rattle.records.specs.declared.records.VoterConfiguration.{VoterConfiguration}
use Rattle.records.specs.declared.records.VoterReplacementRecord.{VoterReplacementRecord}
use Rattle.records.specs.declared.records.VoterSlotMember.{VoterSlotMember}
use Rattle.records.specs.declared.records.VoterSlotTable.{VoterSlotTable}
use Rattle.records.specs.EqualityLaws.{eq_bytes-true}
use Rattle.records.specs.Records.{joint, member_at, uniform}
use Rattle.records.specs.TestLaws.{cond-false, cond-true, either_way}
use Rattle.control.specs.Control.{current_configuration}
use Rattle.control.specs.Observation.{Sight, all_rising, contains, difference, eq_ids, eq_sets, insert_id, is_rising, is_subset, may_linger, member_ids, member_ids_below, member_node, new_ids, see, see_from, see_phase, see_predecessor, see_sets, split_sets, total, union_ids}
use Rattle.control.specs.Observation.Sight.{new_joint, new_uniform, strange}
use Rattle.control.specs.ObserveSets.{are_two_sets, first_of, is_one_set, least_new, listed, no_id, same_ids, slot_members}
use Rattle.control.specs.ObserveSetsLaws.{contains-append}
use Rattle.control.specs.ObserveSight.{Supplied, lingers_as, seen_by, seen_old, tests_of}
use Rattle.control.specs.SetLaws.{contains-difference, contains-insert, contains-union, holds-head, holds-tail, other-head, rising-difference, rising-ids, rising-union, sets-equal, subset-of, subset-says}
use Rattle.control.specs.declared.observe.SetTests.{SetTests}

-- ---- the ids of the members

-- no member has the id that stands for none
node-below : (m : VoterSlotMember) → member_node m < no_id
unfolding node_id
node-below m = by (validate_voter_slot_identity m.identity) refl
  where
    by : (a : Answer) → validate_voter_slot_identity m.identity ≡ a
        → value_of_number (passed_with a ((m.identity.incarnation - 1) * node_id_span + m.identity.slot)) < no_id
    by (Ok nothing) e = let s = identity-sound m.identity (ap is_accepted e) in omega (arith, s.incarnation.below, s.slot.below)
    by (Err refusal) e = omega arith

pub length-listed : (c : VoterConfiguration) (n : ℕ) → length (listed c n) ≡ n
unfolding listed
length-listed c zero = refl
length-listed c (suc n) =
    let e = length-append (listed c n) (member_node (member_at c n) ∷ []) in
    let k = length-listed c n in
    omega arith

-- the first so many of nine
pub front-listed : (c : VoterConfiguration) (m n : ℕ) → n ≤ m → take n (listed c m) ≡ listed c n
unfolding listed
front-listed c zero n h = let e : n ≡ 0 = omega arith in rw e
front-listed c (suc m) n h = by (leb n m) refl (front-listed c m n)
  where
    last : List ℕ
    last = member_node (member_at c m) ∷ []

    by : (b : Bool) → leb n m ≡ b → (n ≤ m → take n (listed c m) ≡ listed c n) → take n (listed c m ++ last) ≡ listed c n
    by true e ih =
        let k = leb-true n m e in
        let q = length-listed c m in
        take-append-le n (listed c m) last (omega arith) ∙ ih k
    by false e ih =
        let k = leb-false n m e in
        let q : n ≡ suc m = omega arith in
        ap (λ (i : ℕ). take i (listed c m ++ last)) q
        ∙ (take_all (suc m) (listed c m ++ last) (let z = length-listed c (suc m) in omega arith) ∙ ap (listed c) (sym q))

-- a list holds the same as a set
abbrev pub Same : List ℕ → List ℕ → Type 0
Same a b = (x : ℕ) → contains x a ≡ contains x b

pub listed_same : (c : VoterConfiguration) (n : ℕ) → Same (listed c n) (member_ids_below c n)
unfolding listed member_ids_below contains
listed_same c zero x = refl
listed_same c (suc n) x =
    let v = member_node (member_at c n) in
    contains-append x (listed c n) (v ∷ [])
    ∙ ((λ i. listed_same c n x i || or-false (eqb x v) i) ∙ (or_comm (contains x (member_ids_below c n)) (eqb x v) ∙ sym (contains-insert x v (member_ids_below c n))))

listed_below : (c : VoterConfiguration) (n x : ℕ) → contains x (listed c n) ≡ true → x < no_id
unfolding listed contains
listed_below c zero x h = absurd (false≢true h)
listed_below c (suc n) x h = by (contains x (listed c n)) refl (listed_below c n x) (sym (contains-append x (listed c n) (member_node (member_at c n) ∷ [])) ∙ h)
  where
    v : ℕ
    v = member_node (member_at c n)

    by : (b : Bool) → contains x (listed c n) ≡ b → (contains x (listed c n) ≡ true → x < no_id) → (contains x (listed c n) || (eqb x v || false)) ≡ true → x < no_id
    by true e ih k = ih e
    by false e ih k =
        let q = eqb-true x v (sym (or-false (eqb x v)) ∙ (sym (ap (λ (b : Bool). b || (eqb x v || false)) e) ∙ k)) in
        let z = node-below (member_at c n) in
        omega arith

-- ---- subsets of what holds the same

pub subset_right : (a b c : List ℕ) → Same b c → is_subset a b ≡ is_subset a c
unfolding every
subset_right [] b c s = refl
subset_right (x ∷ a) b c s = λ i. s x i && subset_right a b c s i

pub subset_left : (a b c : List ℕ) → Same a b → is_subset a c ≡ is_subset b c
subset_left a b c s = by (is_subset a c) refl (is_subset b c) refl
  where
    by : (p : Bool) → is_subset a c ≡ p → (q : Bool) → is_subset b c ≡ q → p ≡ q
    by true e true f = refl
    by true e false f = absurd (false≢true (sym f ∙ subset-of b c (λ x h. subset-says a c e x (s x ∙ h))))
    by false e true f = absurd (false≢true (sym e ∙ subset-of a c (λ x h. subset-says b c f x (sym (s x) ∙ h))))
    by false e false f = refl

-- a rising slice is a set where it holds the ids of the list
pub ids-are : (s set l : List ℕ) → is_rising s ≡ true → is_rising set ≡ true → Same l set → eq_ids s set ≡ same_ids s l
ids-are s set l p q h = sets-equal s set p q ∙ (λ i. sym (subset_right s l set h) i && sym (subset_left l set s h) i)

subset-insert : (x : ℕ) (l s : List ℕ) → is_subset (insert_id x l) s ≡ (contains x s && is_subset l s)
unfolding insert_id every
subset-insert x [] s = refl
subset-insert x (y ∷ l) s = by (ltb x y) refl (eqb x y) refl (subset-insert x l s)
  where
    self : (a b : Bool) → (a && b) ≡ (a && (a && b))
    self true b = refl
    self false b = refl

    swap : (a b c : Bool) → (a && (b && c)) ≡ (b && (a && c))
    swap true b c = refl
    swap false b c = sym (and-false b)

    by : (lt : Bool) → ltb x y ≡ lt → (eq : Bool) → eqb x y ≡ eq → is_subset (insert_id x l) s ≡ (contains x s && is_subset l s)
        → is_subset (cond lt (x ∷ (y ∷ l)) (cond eq (y ∷ l) (y ∷ insert_id x l))) s ≡ (contains x s && (contains y s && is_subset l s))
    by true e eq f ih = refl
    by false e true f ih =
        self (contains y s) (is_subset l s) ∙ ap (λ (z : ℕ). contains z s && (contains y s && is_subset l s)) (sym (eqb-true x y f))
    by false e false f ih = ap (λ (b : Bool). contains y s && b) ih ∙ swap (contains y s) (contains x s) (is_subset l s)

subset-union : (a b s : List ℕ) → is_subset (union_ids a b) s ≡ (is_subset a s && is_subset b s)
unfolding union_ids every
subset-union [] b s = refl
subset-union (x ∷ a) b s =
    subset-insert x (union_ids a b) s
    ∙ (ap (λ (t : Bool). contains x s && t) (subset-union a b s) ∙ sym (and_assoc (contains x s) (is_subset a s) (is_subset b s)))

difference-same : (a b c : List ℕ) → Same b c → difference a b ≡ difference a c
unfolding difference
difference-same [] b c s = refl
difference-same (x ∷ a) b c s = λ i. cond (s x i) (difference-same a b c s i) (x ∷ difference-same a b c s i)

-- ---- the sets that are supplied

split_one : (ids counts set : List ℕ) → total counts ≡ length ids → eq_sets (split_sets ids counts) (set ∷ []) ≡ (eqb (length counts) 1 && eq_ids ids set)
unfolding split_sets total
split_one ids [] set h = refl
split_one ids (n ∷ []) set h =
    and-true (eq_ids (take n ids) set)
    ∙ (ap (λ (l : List ℕ). eq_ids l set) (take_all n ids (omega arith)) ∙ sym (ap (λ (b : Bool). b && eq_ids ids set) (eq-eqb (length (n ∷ [])) 1 (omega arith))))
split_one ids (n ∷ (m ∷ l)) set h =
    and-false (eq_ids (take n ids) set) ∙ sym (ap (λ (b : Bool). b && eq_ids ids set) (ne_eqb (length (n ∷ (m ∷ l))) 1 (λ e. omega arith)))

split-two : (ids counts a b : List ℕ) → total counts ≡ length ids
    → eq_sets (split_sets ids counts) (a ∷ (b ∷ []))
    ≡ (eqb (length counts) 2 && (eq_ids (take (get_or counts 0 0) ids) a && eq_ids (drop (get_or counts 0 0) ids) b))
unfolding split_sets total
split-two ids [] a b h = refl
split-two ids (n ∷ []) a b h =
    and-false (eq_ids (take n ids) a) ∙ sym (ap (λ (t : Bool). t && (eq_ids (take n ids) a && eq_ids (drop n ids) b)) (ne_eqb (length (n ∷ [])) 2 (λ e. omega arith)))
split-two ids (n ∷ (m ∷ [])) a b h =
    let e : take m (drop n ids) ≡ drop n ids = take_all m (drop n ids) (simp length-drop (omega arith)) in
    ap (λ (t : Bool). eq_ids (take n ids) a && t) (and-true (eq_ids (take m (drop n ids)) b) ∙ ap (λ (l : List ℕ). eq_ids l b) e)
    ∙ sym (ap (λ (t : Bool). t && (eq_ids (take n ids) a && eq_ids (drop n ids) b)) (eq-eqb (length (n ∷ (m ∷ []))) 2 (omega arith)))
split-two ids (n ∷ (m ∷ (k ∷ l))) a b h =
    ap (λ (t : Bool). eq_ids (take n ids) a && t) (and-false (eq_ids (take m (drop n ids)) b))
    ∙ (and-false (eq_ids (take n ids) a)
    ∙ sym (ap (λ (t : Bool). t && (eq_ids (take n ids) a && eq_ids (drop n ids) b)) (ne_eqb (length (n ∷ (m ∷ (k ∷ l)))) 2 (λ e. omega arith))))

rising-one-set : (ids counts : List ℕ) → total counts ≡ length ids → all_rising (split_sets ids counts) ≡ true → length counts ≡ 1 → is_rising ids ≡ true
unfolding split_sets total all_rising
rising-one-set ids [] h r e = absurd (omega arith)
rising-one-set ids (n ∷ []) h r e = ap is_rising (sym (take_all n ids (omega arith))) ∙ and_left (is_rising (take n ids)) true r
rising-one-set ids (n ∷ (m ∷ l)) h r e = absurd (omega arith)

rising-two-sets : (ids counts : List ℕ) → total counts ≡ length ids → all_rising (split_sets ids counts) ≡ true → length counts ≡ 2
    → (is_rising (take (get_or counts 0 0) ids) ≡ true) × (is_rising (drop (get_or counts 0 0) ids) ≡ true)
unfolding split_sets total all_rising
rising-two-sets ids [] h r e = absurd (omega arith)
rising-two-sets ids (n ∷ []) h r e = absurd (omega arith)
rising-two-sets ids (n ∷ (m ∷ [])) h r e =
    let q : take m (drop n ids) ≡ drop n ids = take_all m (drop n ids) (simp length-drop (omega arith)) in
    let k = and_right (is_rising (take n ids)) (is_rising (take m (drop n ids)) && true) r in
    (and_left (is_rising (take n ids)) (is_rising (take m (drop n ids)) && true) r, ap is_rising (sym q) ∙ and_left (is_rising (take m (drop n ids))) true k)
rising-two-sets ids (n ∷ (m ∷ (k ∷ l))) h r e = absurd (omega arith)

module _ (ids counts : List ℕ) (counted : total counts ≡ length ids) (rising : all_rising (split_sets ids counts) ≡ true) where
  pub one_set : (set l : List ℕ) → is_rising set ≡ true → Same l set → eq_sets (split_sets ids counts) (set ∷ []) ≡ is_one_set ids counts l
  one_set set l q h = split_one ids counts set counted ∙ by (eqb (length counts) 1) refl
    where
      by : (b : Bool) → eqb (length counts) 1 ≡ b → (b && eq_ids ids set) ≡ (b && same_ids ids l)
      by true e = ids-are ids set l (rising-one-set ids counts counted rising (eqb-true (length counts) 1 e)) q h
      by false e = refl

  two-sets : (a b l m : List ℕ) → is_rising a ≡ true → is_rising b ≡ true → Same l a → Same m b
      → eq_sets (split_sets ids counts) (a ∷ (b ∷ [])) ≡ are_two_sets ids counts l m
  two-sets a b l m p q h k = split-two ids counts a b counted ∙ by (eqb (length counts) 2) refl
    where
      n : ℕ
      n = get_or counts 0 0

      by : (t : Bool) → eqb (length counts) 2 ≡ t
          → (t && (eq_ids (take n ids) a && eq_ids (drop n ids) b)) ≡ (t && (same_ids (take n ids) l && same_ids (drop n ids) m))
      by true e =
          let r = rising-two-sets ids counts counted rising (eqb-true (length counts) 2 e) in
          λ i. ids-are (take n ids) a l r.0 p h i && ids-are (drop n ids) b m r.1 q k i
      by false e = refl

-- ---- nodes that neither configuration has

none-outside : (a b : List ℕ) → is_subset a b ≡ is_none (first_of (difference a b))
unfolding every difference first_of
none-outside [] b = refl
none-outside (x ∷ a) b = by (contains x b) (none-outside a b)
  where
    by : (d : Bool) → is_subset a b ≡ is_none (first_of (difference a b)) → (d && is_subset a b) ≡ is_none (first_of (cond d (difference a b) (x ∷ difference a b)))
    by true ih = ih
    by false ih = refl

lingers-are : (op : VoterReplacementRecord) (d : List ℕ) → may_linger op d ≡ lingers_as op (first_of d)
unfolding may_linger first_of
lingers-are op [] = refl
lingers-are op (x ∷ d) = refl

-- ---- the least new id

module _ (old : List ℕ) where
  least-most : (l : List ℕ) (m : ℕ) → least_new old l m ≤ m
  unfolding least_new
  least-most [] m = omega arith
  least-most (x ∷ l) m = by (ltb x m) refl (contains x old) (least-most l)
    where
      by : (a : Bool) → ltb x m ≡ a → (b : Bool) → ((k : ℕ) → least_new old l k ≤ k) → least_new old l (cond (a && not b) x m) ≤ m
      by true e true f = f m
      by true e false f = let k = f x in let q = ltb-true x m e in omega arith
      by false e b f = f m

  next-least : (y m : ℕ) → contains y old ≡ false → cond (ltb y m && not (contains y old)) y m ≤ y
  next-least y m n = by (ltb y m) refl (contains y old) n
    where
      by : (a : Bool) → ltb y m ≡ a → (b : Bool) → b ≡ false → cond (a && not b) y m ≤ y
      by a e true n = absurd (false≢true (sym n))
      by true e false n = omega arith
      by false e false n = let k = ltb-false y m e in omega arith

  least-least : (l : List ℕ) (m x : ℕ) → contains x l ≡ true → contains x old ≡ false → least_new old l m ≤ x
  unfolding least_new contains
  least-least [] m x c n = absurd (false≢true c)
  least-least (y ∷ l) m x c n = by (eqb x y) refl c (λ k h. least-least l k x h n)
    where
      next : ℕ
      next = cond (ltb y m && not (contains y old)) y m

      by : (d : Bool) → eqb x y ≡ d → (d || contains x l) ≡ true → ((k : ℕ) → contains x l ≡ true → least_new old l k ≤ x) → least_new old l next ≤ x
      by true e c f =
          let q = eqb-true x y e in
          let k = next-least y m (ap (λ (z : ℕ). contains z old) (sym q) ∙ n) in
          let j = least-most l next in
          omega arith
      by false e c f = f next c

  abbrev Found : List ℕ → ℕ → Type 0
  Found l r = (contains r l ≡ true) × (contains r old ≡ false)

  least-from : (l : List ℕ) (m : ℕ) → (least_new old l m ≡ m → ⊥) → Found l (least_new old l m)
  unfolding least_new
  least-from [] m n = absurd (n refl)
  least-from (x ∷ l) m n = by (ltb x m) refl (contains x old) refl (least-from l) n
    where
      later : (r : ℕ) → Found l r → Found (x ∷ l) r
      later r f = (holds-tail x r l f.0, f.1)

      here : contains x old ≡ false → (r : ℕ) (d : Bool) → eqb r x ≡ d → ((r ≡ x → ⊥) → Found l r) → Found (x ∷ l) r
      here e r true q f = let z = eqb-true r x q in rw z (holds-head x l, e)
      here e r false q f = later r (f (eqb-false r x q))

      by : (a : Bool) → ltb x m ≡ a → (b : Bool) → contains x old ≡ b → ((k : ℕ) → (least_new old l k ≡ k → ⊥) → Found l (least_new old l k))
          → (least_new old l (cond (a && not b) x m) ≡ m → ⊥) → Found (x ∷ l) (least_new old l (cond (a && not b) x m))
      by true p true q f n = later (least_new old l m) (f m n)
      by true p false q f n = here q (least_new old l x) (eqb (least_new old l x) x) refl (f x)
      by false p b q f n = later (least_new old l m) (f m n)

  -- the least of a list is the first of the rising list that holds the same
  least_first : (l d : List ℕ) → is_rising d ≡ true → ((x : ℕ) → contains x d ≡ (contains x l && not (contains x old))) → ((x : ℕ) → contains x l ≡ true → x < no_id)
      → least_new old l no_id ≡ unwrap_or (first_of d) no_id
  unfolding first_of contains
  least_first l [] p h f = by (eqb (least_new old l no_id) no_id) refl
    where
      by : (t : Bool) → eqb (least_new old l no_id) no_id ≡ t → least_new old l no_id ≡ no_id
      by true e = eqb-true (least_new old l no_id) no_id e
      by false e =
          let g = least-from l no_id (eqb-false (least_new old l no_id) no_id e) in
          absurd (false≢true (h (least_new old l no_id) ∙ (λ i. g.0 i && not (g.1 i))))
  least_first l (y ∷ d) p h f =
      let r = least_new old l no_id in
      let both = sym (h y) ∙ holds-head y d in
      let c = and_left (contains y l) (not (contains y old)) both in
      let n = not-true (contains y old) (and_right (contains y l) (not (contains y old)) both) in
      let a = least-least l no_id y c n in
      let b = f y c in
      let g = least-from l no_id (λ e. omega arith) in
      let k = other-head r y d (h r ∙ (λ i. g.0 i && not (g.1 i))) p in
      omega arith

-- ---- the sight of an open request

both-same : (a b c d : List ℕ) → Same a b → Same c d → Same (union_ids a c) (union_ids b d)
both-same a b c d h k x = contains-union x a c ∙ ((λ i. h x i || k x i) ∙ sym (contains-union x b d))

module _ (op : VoterReplacementRecord) (ids counts nodes : List ℕ) (s : Supplied ids counts nodes) where
  abbrev olds : List ℕ
  olds = listed op.predecessor op.predecessor.count

  abbrev news : List ℕ
  news = listed op.successor op.successor.count

  abbrev outside : Option ℕ
  outside = first_of (difference nodes (union_ids olds news))

  abbrev tests : SetTests
  tests = tests_of op.phase olds news ids counts nodes (is_none outside) (lingers_as op outside)

  same_old : Same olds (member_ids op.predecessor)
  same_old = listed_same op.predecessor op.predecessor.count

  same_new : Same news (member_ids op.successor)
  same_new = listed_same op.successor op.successor.count

  old-rises : is_rising (member_ids op.predecessor) ≡ true
  old-rises = rising-ids op.predecessor op.predecessor.count

  new-rises : is_rising (member_ids op.successor) ≡ true
  new-rises = rising-ids op.successor op.successor.count

  is-least : least_new olds news no_id ≡ unwrap_or (first_of (new_ids op)) no_id
  is-least =
      let old = member_ids op.predecessor in
      let new = member_ids op.successor in
      least_first olds news (new_ids op) (rising-difference new old new-rises)
      (λ x. contains-difference x new old ∙ (λ i. sym (same_new x) i && not (sym (same_old x) i)))
      (listed_below op.successor op.successor.count)

  new-below : (x : ℕ) → contains x (new_ids op) ≡ true → x < no_id
  new-below x c =
      let old = member_ids op.predecessor in
      let new = member_ids op.successor in
      listed_below op.successor op.successor.count x
      (same_new x ∙ and_left (contains x new) (not (contains x old)) (sym (contains-difference x new old) ∙ c))

  -- the set of the predecessor has its length
  old-length : eq_sets (split_sets ids counts) (member_ids op.predecessor ∷ []) ≡ true → length (member_ids op.predecessor) ≡ length ids
  old-length h =
      let old = member_ids op.predecessor in
      ap length (sym (eq_bytes-true ids old (and_right (eqb (length counts) 1) (eq_ids ids old) (sym (split_one ids counts old s.counted) ∙ h))))

  linger-same : may_linger op (difference nodes (union_ids (member_ids op.predecessor) (member_ids op.successor))) ≡ lingers_as op outside
  linger-same =
      let old = member_ids op.predecessor in
      let new = member_ids op.successor in
      ap (may_linger op) (difference-same nodes (union_ids old new) (union_ids olds news) (λ x. sym (both-same olds old news new same_old same_new x)))
      ∙ lingers-are op (difference nodes (union_ids olds news))

  see-old : (candidate : ℕ) → eq_sets (split_sets ids counts) (member_ids op.predecessor ∷ []) ≡ true
      → see_predecessor op candidate nodes ≡ seen_old op.phase tests.fits_old (contains candidate nodes)
  unfolding see_predecessor seen_old
  see-old candidate h =
      let e1 = sym (subset_left olds (member_ids op.predecessor) nodes same_old) in
      let e2 = old-length h in
      let e3 = linger-same in
      λ i. seen_old op.phase (ltb op.phase joint && e1 i && leb (length nodes) (e2 i + 1) && e3 i) (contains candidate nodes)

  joint-same : (eq_sets (split_sets ids counts) (member_ids op.predecessor ∷ (member_ids op.successor ∷ []))
      && eq_ids nodes (union_ids (member_ids op.predecessor) (member_ids op.successor))) ≡ tests.is_joint
  joint-same =
      let old = member_ids op.predecessor in
      let new = member_ids op.successor in
      let e0 = two-sets ids counts s.counted s.rising old new olds news old-rises new-rises same_old same_new in
      let e1 = subset_right nodes (union_ids old new) (union_ids olds news) (λ x. sym (both-same olds old news new same_old same_new x)) ∙ none-outside nodes (union_ids olds news) in
      let e2 = subset-union old new nodes ∙ (λ i. sym (subset_left olds old nodes same_old) i && sym (subset_left news new nodes same_new) i) in
      λ i. e0 i && (sets-equal nodes (union_ids old new) s.nodes-rise (rising-union old new new-rises) ∙ (λ j. e1 j && e2 j)) i

  new-same : (eq_sets (split_sets ids counts) (member_ids op.successor ∷ []) && eq_ids nodes (member_ids op.successor)) ≡ tests.is_new
  new-same =
      let new = member_ids op.successor in
      λ i. one_set ids counts s.counted s.rising new news new-rises same_new i && ids-are nodes new news s.nodes-rise new-rises same_new i

  see-sets : (candidate : ℕ) → see_sets op candidate (split_sets ids counts) nodes
      ≡ cond tests.is_old (seen_old op.phase tests.fits_old (contains candidate nodes))
      (cond tests.is_joint (see_phase op.phase joint new_joint) (cond tests.is_new (see_phase op.phase uniform new_uniform) strange))
  unfolding see_sets
  see-sets candidate =
      let old = member_ids op.predecessor in
      let sets = split_sets ids counts in
      let e0 = one_set ids counts s.counted s.rising old olds old-rises same_old in
      either_way (eq_sets sets (old ∷ [])) _ _ _ _ (see-old candidate) (λ _. refl)
      ∙ (λ i.
      cond (e0 i) (seen_old op.phase tests.fits_old (contains candidate nodes))
      (cond (joint-same i) (see_phase op.phase joint new_joint) (cond (new-same i) (see_phase op.phase uniform new_uniform) strange)))

  -- What the code sees is what Observation sees.
  pub see-is : see op (split_sets ids counts) nodes ≡ seen_by op.phase tests
  unfolding seen_by see_from first_of
  see-is = by (new_ids op) is-least new-below
    where
      least : ℕ
      least = least_new olds news no_id

      rest : Sight
      rest = cond tests.is_joint (see_phase op.phase joint new_joint) (cond tests.is_new (see_phase op.phase uniform new_uniform) strange)

      all : ℕ → Sight
      all candidate = cond tests.is_old (seen_old op.phase tests.fits_old (contains candidate nodes)) rest

      by : (d : List ℕ) → least ≡ unwrap_or (first_of d) no_id → ((x : ℕ) → contains x d ≡ true → x < no_id) → see_from op d (split_sets ids counts) nodes ≡ cond (eqb least no_id) strange (all least)
      by [] e f = sym (cond-true (eqb least no_id) strange (all least) (eq-eqb least no_id e))
      by (y ∷ d) e f =
          let z = f y (holds-head y d) in
          see-sets y ∙ (ap all (sym e) ∙ sym (cond-false (eqb least no_id) strange (all least) (ne_eqb least no_id (λ q. omega arith))))

-- ---- with no open request

module _ (t : VoterSlotTable) (ids counts nodes : List ℕ) (s : Supplied ids counts nodes) (closed : t.has_replacement ≡ false) where
  abbrev members : List ℕ
  members = listed (slot_members t) t.count

  current : current_configuration t ≡ slot_members t
  unfolding current_configuration
  current = rw closed

  pub idle-is : (eq_sets (split_sets ids counts) (member_ids (current_configuration t) ∷ []) && eq_ids nodes (member_ids (current_configuration t)))
      ≡ (is_one_set ids counts members && same_ids nodes members)
  idle-is =
      let ids-of = member_ids (slot_members t) in
      let same = listed_same (slot_members t) t.count in
      let rises = rising-ids (slot_members t) t.count in
      ap (λ (c : VoterConfiguration). eq_sets (split_sets ids counts) (member_ids c ∷ []) && eq_ids nodes (member_ids c)) current
      ∙ (λ i. one_set ids counts s.counted s.rising ids-of members rises same i && ids-are nodes ids-of members s.nodes-rise rises same i)
