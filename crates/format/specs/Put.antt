-- What a writer does to the bytes lent to it: those of a value at a place, and all else as it was.
-- Document 01: "The writer fills the lent buffer from its start, gives the count, and the bytes
-- behind keep their values."
-- Assumes nothing.
use Rattle.std.specs.Prelude.{ℕ, suc, ◌+◌, ◌-◌, ◌/◌, ◌%◌, ◌≤◌, ◌<◌, ◌≡◌, List, [], ◌∷◌, ◌++◌, length, take, drop, set}
use Rattle.std.proofs.Common.{arith, add_assoc, add-zero, add-suc, sym, ap, ap₂, ◌∙◌, append_assoc, length-append, length-drop, take-append-drop, length-set, drop-cons, get_or-set_same, drop-set-lt, length-take-le, take_at, drop_at, drop-drop}
use Rattle.std.proofs.Math.Path.{refl}
use Rattle.std.specs.Int.{w16, w64, to_be_bytes}
use borrow.Rule.Slice.PartMut.{put_mid, Post-is}
use Rattle.format.specs.Combinators.{Codec, dep, via, held}
use Rattle.format.specs.Num.{uint, raw, be, length-be}
use Rattle.std.proofs.Math.Seq.{take-length, paste}

-- e at the place `at` of xs
unfoldable pub put : List ℕ → ℕ → List ℕ → List ℕ
put e at xs = take at xs ++ (e ++ drop (at + length e) xs)

-- e was written at `at`: xs is what stood there before and ys what stands there now, and r is the
-- place after e
pub record Put (e : List ℕ) (at : ℕ) (xs ys : List ℕ) (r : ℕ) : Type 0 where
  pub next : r ≡ at + length e
  pub bytes : ys ≡ put e at xs

pub length-put : (e : List ℕ) (at : ℕ) (xs : List ℕ) → at + length e ≤ length xs → length (put e at xs) ≡ length xs
unfolding put
length-put e at xs h =
    length-append (take at xs) (e ++ drop (at + length e) xs)
    ∙ ap₂ ◌+◌ (length-take-le at xs (omega arith)) (length-append e (drop (at + length e) xs) ∙ ap (λ n. length e + n) (length-drop (at + length e) xs))
    ∙ omega arith

put-put : (a b : List ℕ) (at : ℕ) (xs : List ℕ) → at + length a ≤ length xs → put b (at + length a) (put a at xs) ≡ put (a ++ b) at xs
unfolding put
put-put a b at xs h =
    let w = take at xs ++ a in
    let t = drop (at + length a) xs in
    let lw : length w ≡ at + length a = length-append (take at xs) a ∙ ap (λ n. n + length a) (length-take-le at xs (omega arith)) in
    let whole : take at xs ++ (a ++ t) ≡ w ++ t = sym (append_assoc (take at xs) a t) in
    ap₂ ◌++◌
    (ap (take (at + length a)) whole ∙ take_at w t (at + length a) lw)
    (ap (λ l. b ++ l) (ap (drop (at + length a + length b)) whole ∙ sym (drop-drop (length b) (at + length a) (w ++ t)) ∙ ap (drop (length b)) (drop_at w t (at + length a) lw) ∙ drop-drop (length b) (at + length a) xs))
    ∙ append_assoc (take at xs) a (b ++ drop (at + length a + length b) xs)
    ∙ ap (λ l. take at xs ++ l) (sym (append_assoc a b (drop (at + length a + length b) xs)) ∙ ap (λ n. (a ++ b) ++ drop n xs) (add_assoc at (length a) (length b) ∙ ap (λ n. at + n) (sym (length-append a b))))

-- nothing was written yet
pub put-nothing : (at : ℕ) (xs : List ℕ) → Put [] at xs xs at
unfolding put
put-nothing at xs = record { next = omega arith; bytes = sym (ap (λ n. take at xs ++ drop n xs) (add-zero at) ∙ take-append-drop at xs) }

module _ {a : List ℕ} (b : List ℕ) {at : ℕ} {xs ys : List ℕ} {r : ℕ} where
  -- one after the other
  pub then : {zs : List ℕ} {q : ℕ} → Put a at xs ys r → at + length (a ++ b) ≤ length xs → Put b r ys zs q → Put (a ++ b) at xs zs q
  then {zs} {q} p h q₁ = record {
    next = q₁.next ∙ ap (λ n. n + length b) p.next ∙ add_assoc at (length a) (length b) ∙ ap (λ n. at + n) (sym (length-append a b));
    bytes = q₁.bytes ∙ ap₂ (put b) p.next p.bytes ∙ put-put a b at xs (omega (arith, length-append a b));
  }

  -- there is room for the next
  pub room : Put a at xs ys r → at + length (a ++ b) ≤ length xs → r + length b ≤ length ys
  room p h = omega (arith, p.next, ap length p.bytes, length-put a at xs (omega (arith, length-append a b)), length-append a b)

-- room for the whole is room for what comes first
pub room-left : (a b : List ℕ) (at n : ℕ) → at + length (a ++ b) ≤ n → at + length a ≤ n
room-left a b at n h = omega (arith, length-append a b)

-- One turn of a writer that puts a number's bytes from the last to the first: with j bytes left to
-- write it is j + 1 before.
drop-set : (l : List ℕ) (i b : ℕ) → i < length l → drop i (set l i b) ≡ b ∷ drop (suc i) l
drop-set l i b h =
    drop-cons (set l i b) i 0 (omega (arith, length-set l i b)) ∙ ap₂ (λ x t. x ∷ t) (get_or-set_same l i b 0 h) (drop-set-lt (suc i) l i b (omega arith))

pub be-turn : (k j y at : ℕ) (buf : List ℕ) → k ≡ suc j → at + j < length buf → be j (y / 256) ++ drop (at + j) (set buf (at + j) (y % 256)) ≡ be k y ++ drop (at + k) buf
unfolding be
be-turn k j y at buf e h =
    ap (λ l. be j (y / 256) ++ l) (drop-set buf (at + j) (y % 256) h)
    ∙ sym (append_assoc (be j (y / 256)) (y % 256 ∷ []) (drop (suc (at + j)) buf))
    ∙ ap₂ (λ n m. be n y ++ drop m buf) (sym e) (sym (ap (λ n. at + n) e ∙ add-suc at j))

-- all of it is written: nothing is left before `at`
pub be-put : (width x at : ℕ) (xs ys : List ℕ) → take at ys ≡ take at xs → drop at ys ≡ be width x ++ drop (at + width) xs → ys ≡ put (be width x) at xs
unfolding put
be-put width x at xs ys p q =
    sym (take-append-drop at ys) ∙ ap₂ ◌++◌ p (q ∙ ap (λ n. be width x ++ drop (at + n) xs) (sym (length-be width x)))

-- a copy of all of s
pub paste-put : (d : List ℕ) (at : ℕ) (s : List ℕ) → paste d at s (length s) ≡ put s at d
unfolding put
paste-put d at s = ap (λ l. take at d ++ l ++ drop (at + length s) d) (take-length s) ∙ append_assoc (take at d) s (drop (at + length s) d)

-- ---- a `Writer`, whose writers write one part after the other

module _ (a b : List ℕ) (at : ℕ) (xs : List ℕ) where
  pub put_next : at + length (a ++ b) ≤ length xs → put (a ++ b) at xs ≡ put b (at + length a) (put a at xs)
  put_next h = sym (put-put a b at xs (omega (arith, length-append a b)))

-- nothing is written
pub put_none : (at : ℕ) (xs : List ℕ) → put [] at xs ≡ xs
put_none at xs = sym (put-nothing at xs).bytes

-- the bytes of two, three or four forms, one after the other
module _ {A B Z : Type 0} (C : Codec A) (D : A → Codec B) (f : A × B → Z) (g : Z → A × B) (same : (p : A × B) → (dep C D).Good p → g (f p) ≡ p) (z : Z) where
  pub writes_two : (via (dep C D) f g same).enc z ≡ C.enc (g z).0 ++ (D (g z).0).enc (g z).1
  unfolding via dep
  writes_two = refl

module _ {A B C Z : Type 0} (F : Codec A) (G : A → Codec B) (H : A × B → Codec C) (f : (A × B) × C → Z) (g : Z → (A × B) × C)
    (same : (p : (A × B) × C) → (dep (dep F G) H).Good p → g (f p) ≡ p) (z : Z) where
  pub writes_three : (via (dep (dep F G) H) f g same).enc z ≡ (F.enc (g z).0.0 ++ (G (g z).0.0).enc (g z).0.1) ++ (H (g z).0).enc (g z).1
  unfolding via dep
  writes_three = refl

module _ {A B C D Z : Type 0} (F : Codec A) (G : A → Codec B) (H : A × B → Codec C) (I : (A × B) × C → Codec D) (f : ((A × B) × C) × D → Z) (g : Z → ((A × B) × C) × D)
    (same : (p : ((A × B) × C) × D) → (dep (dep (dep F G) H) I).Good p → g (f p) ≡ p) (z : Z) where
  pub writes_four : (via (dep (dep (dep F G) H) I) f g same).enc z
      ≡ ((F.enc (g z).0.0.0 ++ (G (g z).0.0.0).enc (g z).0.0.1) ++ (H (g z).0.0).enc (g z).0.1) ++ (I (g z).0).enc (g z).1
  unfolding via dep
  writes_four = refl

-- ---- the leaves

-- a copy of all of s over the part of the buffer from `at` to e
pub copied_over : (s : List ℕ) (at e : ℕ) (xs : List ℕ) → e ≡ at + length s → put_mid at (e - at) xs s ≡ put s at xs
unfolding put
copied_over s at e xs p = ap (λ l. take at xs ++ (s ++ l)) (Post-is at e xs (omega arith) ∙ ap (λ n. drop n xs) p)

-- a number's bytes as the library has them: eight, two, one
pub bytes_of_8 : (x : ℕ) → to_be_bytes w64 x ≡ (uint 8).enc x
unfolding uint held via raw be
bytes_of_8 x = grind arith

pub bytes_of_2 : (x : ℕ) → to_be_bytes w16 x ≡ (uint 2).enc x
unfolding uint held via raw be
bytes_of_2 x = grind arith

pub bytes_of_1 : (x : ℕ) → x < 256 → (x ∷ []) ≡ (uint 1).enc x
unfolding uint held via raw be
bytes_of_1 x h = grind arith
