-- A copy into a place of its own from the front: the first i are the source's, and after them is
-- what was there before.
-- For the readers of bytes and names: document 01, "2,048 or 256 bytes and a length, zero behind
-- it".
-- Assumes nothing.
use Rattle.std.specs.Prelude.{ℕ, zero, suc, ◌+◌, ◌-◌, ◌≤◌, ◌<◌, ◌≡◌, refl, List, [], ◌∷◌, ◌++◌, length, take, drop, get_or, set, replicate}
use Rattle.std.proofs.Common.{le_of_suc-le-suc, not-suc-le-zero, add-one, arith, sym, ap, ap₂, ◌∙◌, append-nil, length-append, length-drop, drop_of_length-le, length-take-le, take-suc-set, drop-set-lt, drop-drop}
use Rattle.std.proofs.lemmas.List.{length-replicate}

-- i bytes of s copied into d
unfoldable pub copied : List ℕ → List ℕ → ℕ → List ℕ
copied s d i = take i s ++ drop i d

store : (s d : List ℕ) (i : ℕ) → i < length s → i < length d → set (take i s ++ drop i d) i (get_or s i 0) ≡ take (suc i) s ++ drop (suc i) d
store [] d i h k = absurd (not-suc-le-zero h)
store (x ∷ xs) [] i h k = absurd (not-suc-le-zero k)
store (x ∷ xs) (y ∷ ys) zero h k = refl
store (x ∷ xs) (y ∷ ys) (suc i) h k = ap (λ l. x ∷ l) (store xs ys i (le_of_suc-le-suc h) (le_of_suc-le-suc k))

pub copied_none : (s d : List ℕ) → d ≡ copied s d 0
unfolding copied
copied_none s d = refl

pub copied_more : (s d e : List ℕ) (i : ℕ) → i < length s → i < length d → e ≡ copied s d i → set e i (get_or s i 0) ≡ copied s d (i + 1)
unfolding copied
copied_more s d e i h k p = ap (λ l. set l i (get_or s i 0)) p ∙ store s d i h k ∙ ap (λ n. take n s ++ drop n d) (sym (add-one i))

pub length-copied : (s d : List ℕ) (i : ℕ) → i ≤ length s → i ≤ length d → length (copied s d i) ≡ length d
unfolding copied
length-copied s d i h k = length-append (take i s) (drop i d) ∙ ap₂ ◌+◌ (length-take-le i s h) (length-drop i d) ∙ omega arith

-- all of the place is filled
pub copied_all : (s d : List ℕ) (n : ℕ) → length d ≤ n → copied s d n ≡ take n s
unfolding copied
copied_all s d n h = ap (λ l. take n s ++ l) (drop_of_length-le d h) ∙ append-nil (take n s)

pub drop-replicate : {A : Type 0} (n k : ℕ) (x : A) → drop n (replicate k x) ≡ replicate (k - n) x
drop-replicate zero k x = let e : k ≡ k - 0 = omega arith in ap (λ m. replicate m x) e
drop-replicate (suc n) zero x = let e : 0 ≡ 0 - suc n = omega arith in ap (λ m. replicate m x) e
drop-replicate (suc n) (suc k) x = let e : k - n ≡ suc k - suc n = omega arith in drop-replicate n k x ∙ ap (λ m. replicate m x) e

-- n zeros. It stays shut, so that a goal does not write them out
unfoldable pub zeros : ℕ → List ℕ
zeros n = replicate n 0

pub length-zeros : (n : ℕ) → length (zeros n) ≡ n
unfolding zeros
length-zeros n = length-replicate n 0

-- the first n are copied into a place of zeros
pub copied-zeros : (s : List ℕ) (k n : ℕ) → copied s (zeros k) n ≡ take n s ++ replicate (k - n) 0
unfolding zeros copied
copied-zeros s k n = ap (λ l. take n s ++ l) (drop-replicate n k 0)

-- A place is filled from the front, one store a turn: what is filled grows by one, and what is not
-- is as it was.
module _ {A : Type 0} where
  pub filled_more : (v : List A) (i : ℕ) (a : A) → i < length v → take (i + 1) (set v i a) ≡ take i v ++ (a ∷ [])
  filled_more v i a h = rw add-one (take-suc-set v i a h)

  pub unfilled-more : (v w : List A) (i : ℕ) (a : A) → drop i v ≡ drop i w → drop (i + 1) (set v i a) ≡ drop (i + 1) w
  unfilled-more v w i a e = drop-set-lt (i + 1) v i a (omega arith) ∙ sym (drop-drop 1 i v) ∙ ap (drop 1) e ∙ drop-drop 1 i w
