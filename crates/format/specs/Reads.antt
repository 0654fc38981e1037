-- What reading a form leaves: the value and the rest of the bytes, or the number of a refusal; and
-- what the ways to make a form of others leave. For a `Reader` that is moved on, as that of
-- codec.rs.
-- Assumes nothing.
use Rattle.std.specs.Prelude.{ℕ, zero, suc, ◌+◌, ◌≤◌, ◌<◌, ◌≡◌, refl, Bool, true, false, cond, List, [], ◌∷◌, length, get_or, take, drop}
use Rattle.std.specs.Int.{w16, w64, from_be_bytes}
use Rattle.std.proofs.Common.{ap, sym, ◌∙◌, arith, drop-drop}
use Rattle.format.specs.Res.{Res, and_then, malformed}
use Rattle.format.specs.Res.Res.{ok, no}
use Rattle.format.specs.Num.{raw, uint, val, raw-got, raw-not, dec_uint}
use Rattle.format.specs.Combinators.{Codec, dep, check, via, always, dec_seq, dec_check, dec_map, gate, held}
use Rattle.format.specs.List.{opt, flag, flag_test, to_flag, of_flag, either}

-- the value that was read and the rest of the bytes, or the refusal
pub data Reading (A : Type 0) : Type 0 where
  read : A → List ℕ → Reading A
  refused : ℕ → Reading A

-- what is left of bs
abbrev pub left_of : {A : Type 0} → List ℕ → Res A → Reading A
left_of bs (ok a n) = Reading.read a (drop n bs)
left_of bs (no k) = Reading.refused k

-- a reading of the form, from the front of bs
unfoldable pub reads : {A : Type 0} → Codec A → List ℕ → Reading A
reads C bs = left_of bs (C.dec bs)

-- the Rust's `?`: go on with the value and the rest, or pass the refusal on
abbrev pub then_read : {A B : Type 0} → Reading A → (A → List ℕ → Reading B) → Reading B
then_read (Reading.read a rest) f = f a rest
then_read (Reading.refused k) f = Reading.refused k

-- a value that was read, made another
abbrev pub made_read : {A B : Type 0} → (A → B) → Reading A → Reading B
made_read f (Reading.read a rest) = Reading.read (f a) rest
made_read f (Reading.refused k) = Reading.refused k

-- a value that was tested: 0 is right, and any other number refuses
abbrev pub tested_read : {A : Type 0} → ℕ → A → List ℕ → Reading A
tested_read zero a rest = Reading.read a rest
tested_read (suc k) a rest = Reading.refused (suc k)

-- ---- one law for each way to make a form

-- so many bytes as they stand
module _ (n : ℕ) (bs : List ℕ) where
  pub reads_raw : n ≤ length bs → reads (raw n) bs ≡ Reading.read (take n bs) (drop n bs)
  unfolding reads
  reads_raw h = ap (left_of bs) (raw-got n bs h)

  pub reads_raw_short : length bs < n → reads (raw n) bs ≡ Reading.refused malformed
  unfolding reads
  reads_raw_short h = ap (left_of bs) (raw-not n bs h)

-- a number of so many bytes
module _ (k : ℕ) (bs : List ℕ) where
  number : (x : Res (List ℕ)) → left_of bs (and_then x (λ l n. ok (val 0 l) n)) ≡ made_read (val 0) (left_of bs x)
  unfolding and_then
  number (ok l n) = refl
  number (no r) = refl

  pub reads_uint : reads (uint k) bs ≡ made_read (val 0) (reads (raw k) bs)
  unfolding reads uint held via raw dec_uint dec_map
  reads_uint = number ((raw k).dec bs)

-- the library's number of eight bytes, of two, of one, the highest first
pub number_of_8 : (l : List ℕ) → length l ≡ 8 → from_be_bytes w64 l ≡ val 0 l
unfolding val
number_of_8 (a ∷ b ∷ c ∷ d ∷ e ∷ f ∷ g ∷ h ∷ []) p = omega arith
number_of_8 [] p = absurd (omega arith)
number_of_8 (a ∷ []) p = absurd (omega arith)
number_of_8 (a ∷ b ∷ []) p = absurd (omega arith)
number_of_8 (a ∷ b ∷ c ∷ []) p = absurd (omega arith)
number_of_8 (a ∷ b ∷ c ∷ d ∷ []) p = absurd (omega arith)
number_of_8 (a ∷ b ∷ c ∷ d ∷ e ∷ []) p = absurd (omega arith)
number_of_8 (a ∷ b ∷ c ∷ d ∷ e ∷ f ∷ []) p = absurd (omega arith)
number_of_8 (a ∷ b ∷ c ∷ d ∷ e ∷ f ∷ g ∷ []) p = absurd (omega arith)
number_of_8 (a ∷ b ∷ c ∷ d ∷ e ∷ f ∷ g ∷ h ∷ x ∷ l) p = absurd (omega arith)

pub number_of_1 : (l : List ℕ) → length l ≡ 1 → get_or l 0 0 ≡ val 0 l
unfolding val
number_of_1 (a ∷ []) p = omega arith
number_of_1 [] p = absurd (omega arith)
number_of_1 (a ∷ x ∷ l) p = absurd (omega arith)

pub number_of_2 : (l : List ℕ) → length l ≡ 2 → from_be_bytes w16 l ≡ val 0 l
unfolding val
number_of_2 (a ∷ b ∷ []) p = omega arith
number_of_2 [] p = absurd (omega arith)
number_of_2 (a ∷ []) p = absurd (omega arith)
number_of_2 (a ∷ b ∷ x ∷ l) p = absurd (omega arith)

-- one after the other
module _ {A B : Type 0} (C : Codec A) (D : A → Codec B) (bs : List ℕ) where
  abbrev Pair : Type 0
  Pair = A × B

  abbrev pair_with : A → B → Pair
  pair_with a b = (a, b)

  second : (n : ℕ) (a : A) (y : Res B) → left_of {A = Pair} bs (and_then y (λ b m. ok (a, b) (n + m))) ≡ made_read (pair_with a) (left_of (drop n bs) y)
  unfolding and_then
  second n a (ok b m) = ap (λ l. Reading.read (pair_with a b) l) (sym (drop-drop m n bs))
  second n a (no k) = refl

  first : (x : Res A) → left_of {A = Pair} bs (and_then x (λ a n. and_then ((D a).dec (drop n bs)) (λ b m. ok (a, b) (n + m)))) ≡ then_read (left_of bs x) (λ a rest. made_read (pair_with a) (reads (D a) rest))
  unfolding and_then reads
  first (ok a n) = second n a ((D a).dec (drop n bs))
  first (no k) = refl

  pub reads_dep : reads (dep C D) bs ≡ then_read {B = A × B} (reads C bs) (λ a rest. made_read (λ b. (a, b)) (reads (D a) rest))
  unfolding reads dep dec_seq
  reads_dep = first (C.dec bs)

-- the same bytes for another type
module _ {A B : Type 0} (C : Codec A) (f : A → B) (g : B → A) (same : (a : A) → C.Good a → g (f a) ≡ a) (bs : List ℕ) where
  mapped : (x : Res A) → left_of bs (and_then x (λ a n. ok (f a) n)) ≡ made_read f (left_of bs x)
  unfolding and_then
  mapped (ok a n) = refl
  mapped (no k) = refl

  pub reads_via : reads (via C f g same) bs ≡ made_read f (reads C bs)
  unfolding reads via dec_map
  reads_via = mapped (C.dec bs)

-- a value that is tested
module _ {A : Type 0} (C : Codec A) (test : A → ℕ) (bs : List ℕ) where
  gated : (k : ℕ) (a : A) (n : ℕ) → left_of bs (gate k a n) ≡ tested_read k a (drop n bs)
  unfolding gate
  gated zero a n = refl
  gated (suc k) a n = refl

  tested : (x : Res A) → left_of bs (and_then x (λ a n. gate (test a) a n)) ≡ then_read (left_of bs x) (λ a rest. tested_read (test a) a rest)
  unfolding and_then
  tested (ok a n) = gated (test a) a n
  tested (no k) = refl

  pub reads_check : reads (check C test) bs ≡ then_read (reads C bs) (λ a rest. tested_read (test a) a rest)
  unfolding reads check dec_check
  reads_check = tested (C.dec bs)

-- a yes or no, in a byte
pub reads_flag : (bs : List ℕ) → reads flag bs ≡ made_read to_flag (then_read (reads (uint 1) bs) (λ x rest. tested_read (flag_test x) x rest))
unfolding flag
reads_flag bs = reads_via (check (uint 1) flag_test) to_flag of_flag _ bs ∙ ap (made_read to_flag) (reads_check (uint 1) flag_test bs)

-- a value that may be absent
module _ {A : Type 0} (C : Codec A) (blank : A) (bs : List ℕ) where
  abbrev flagged : Bool → A → Bool × A
  flagged t a = (t, a)

  abbrev after_flag : Bool → List ℕ → Reading (Bool × A)
  after_flag t rest = cond t (made_read (flagged true) (reads C rest)) (Reading.read (flagged false blank) rest)

  chosen : (t : Bool) (rest : List ℕ) → made_read (flagged t) (reads (either t C (always blank)) rest) ≡ after_flag t rest
  unfolding reads either always
  chosen true rest = refl
  chosen false rest = refl

  after : (x : Reading Bool) → then_read x (λ t rest. made_read (flagged t) (reads (either t C (always blank)) rest)) ≡ then_read x after_flag
  after (Reading.read t rest) = chosen t rest
  after (Reading.refused k) = refl

  pub reads_opt : reads (opt C blank) bs ≡ then_read {B = Bool × A} (reads flag bs) (λ t rest. cond t (made_read (λ a. (true, a)) (reads C rest)) (Reading.read (false, blank) rest))
  unfolding opt
  reads_opt = reads_dep flag (λ t. either t C (always blank)) bs ∙ after (reads flag bs)

-- ---- what is made of two, three or four forms, one after the other: a `?` for each

pub fused : {A B C : Type 0} (f : B → C) (x : Reading A) (k : A → List ℕ → Reading B) → made_read f (then_read x k) ≡ then_read x (λ a rest. made_read f (k a rest))
fused f (Reading.read a rest) k = refl
fused f (Reading.refused n) k = refl

made_twice : {A B C : Type 0} (f : B → C) (g : A → B) (x : Reading A) → made_read f (made_read g x) ≡ made_read (λ a. f (g a)) x
made_twice f g (Reading.read a rest) = refl
made_twice f g (Reading.refused n) = refl

chained : {A B C : Type 0} (x : Reading A) (k : A → List ℕ → Reading B) (h : B → List ℕ → Reading C) → then_read (then_read x k) h ≡ then_read x (λ a rest. then_read (k a rest) h)
chained (Reading.read a rest) k h = refl
chained (Reading.refused n) k h = refl

made_then : {A B C : Type 0} (f : A → B) (x : Reading A) (h : B → List ℕ → Reading C) → then_read (made_read f x) h ≡ then_read x (λ a rest. h (f a) rest)
made_then f (Reading.read a rest) h = refl
made_then f (Reading.refused n) h = refl

pub same_then : {A B : Type 0} (x : Reading A) (h k : A → List ℕ → Reading B) → ((a : A) (rest : List ℕ) → h a rest ≡ k a rest) → then_read x h ≡ then_read x k
same_then (Reading.read a rest) h k e = e a rest
same_then (Reading.refused n) h k e = refl

module _ {A B Z : Type 0} (C : Codec A) (D : A → Codec B) (f : A × B → Z) (g : Z → A × B) (same : (p : A × B) → (dep C D).Good p → g (f p) ≡ p) (bs : List ℕ) where
  pub reads_two : reads (via (dep C D) f g same) bs ≡ then_read {B = Z} (reads C bs) (λ a rest. made_read (λ b. f (a, b)) (reads (D a) rest))
  reads_two =
      reads_via (dep C D) f g same bs
      ∙ ap (made_read f) (reads_dep C D bs)
      ∙ fused {B = A × B} f (reads C bs) (λ a rest. made_read (λ b. (a, b)) (reads (D a) rest))
      ∙ same_then (reads C bs) _ _ (λ a rest. made_twice {B = A × B} f (λ b. (a, b)) (reads (D a) rest))

module _ {A B Z : Type 0} (C : Codec A) (D : A → Codec B) (bs : List ℕ) (h : A × B → List ℕ → Reading Z) where
  pub reads_pair : then_read {A = A × B} (reads (dep C D) bs) h ≡ then_read {B = Z} (reads C bs) (λ a rest. then_read {B = Z} (reads (D a) rest) (λ b r. h (a, b) r))
  reads_pair =
      ap (λ x. then_read {A = A × B} x h) (reads_dep C D bs)
      ∙ chained {B = A × B} (reads C bs) (λ a rest. made_read (λ b. (a, b)) (reads (D a) rest)) h
      ∙ same_then (reads C bs) _ _ (λ a rest. made_then {B = A × B} (λ b. (a, b)) (reads (D a) rest) h)

module _ {A B C Z : Type 0} (F : Codec A) (G : A → Codec B) (H : A × B → Codec C) (f : (A × B) × C → Z) (g : Z → (A × B) × C)
    (same : (p : (A × B) × C) → (dep (dep F G) H).Good p → g (f p) ≡ p) (bs : List ℕ) where
  pub reads_three : reads (via (dep (dep F G) H) f g same) bs
      ≡ then_read {B = Z} (reads F bs) (λ a r. then_read {B = Z} (reads (G a) r) (λ b s. made_read (λ c. f ((a, b), c)) (reads (H (a, b)) s)))
  reads_three =
      reads_two (dep F G) H f g same bs
      ∙ reads_pair F G bs (λ p rest. made_read (λ c. f (p, c)) (reads (H p) rest))

module _ {A B C D Z : Type 0} (F : Codec A) (G : A → Codec B) (H : A × B → Codec C) (I : (A × B) × C → Codec D) (f : ((A × B) × C) × D → Z) (g : Z → ((A × B) × C) × D)
    (same : (p : ((A × B) × C) × D) → (dep (dep (dep F G) H) I).Good p → g (f p) ≡ p) (bs : List ℕ) where
  pub reads_four : reads (via (dep (dep (dep F G) H) I) f g same) bs
      ≡ then_read {B = Z} (reads F bs) (λ a r. then_read {B = Z} (reads (G a) r) (λ b s. then_read {B = Z} (reads (H (a, b)) s) (λ c t. made_read (λ d. f (((a, b), c), d)) (reads (I ((a, b), c)) t))))
  reads_four =
      reads_three (dep F G) H I f g same bs
      ∙ reads_pair F G bs (λ p r. then_read {B = Z} (reads (H p) r) (λ c t. made_read (λ d. f ((p, c), d)) (reads (I (p, c)) t)))

-- the same three or four forms, with more to read after them
module _ {A B C Y Z : Type 0} (F : Codec A) (G : A → Codec B) (H : A × B → Codec C) (f : (A × B) × C → Y) (g : Y → (A × B) × C)
    (same : (p : (A × B) × C) → (dep (dep F G) H).Good p → g (f p) ≡ p) (bs : List ℕ) (h : Y → List ℕ → Reading Z) where
  pub then_three : then_read {B = Z} (reads (via (dep (dep F G) H) f g same) bs) h
      ≡ then_read {B = Z} (reads F bs) (λ a r. then_read {B = Z} (reads (G a) r) (λ b s. then_read {B = Z} (reads (H (a, b)) s) (λ c t. h (f ((a, b), c)) t)))
  then_three =
      ap (λ x. then_read {B = Z} x h) (reads_via (dep (dep F G) H) f g same bs)
      ∙ made_then f (reads (dep (dep F G) H) bs) h
      ∙ reads_pair (dep F G) H bs (λ p t. h (f p) t)
      ∙ reads_pair F G bs (λ p s. then_read {B = Z} (reads (H p) s) (λ c t. h (f (p, c)) t))

module _ {A B C D Y Z : Type 0} (F : Codec A) (G : A → Codec B) (H : A × B → Codec C) (I : (A × B) × C → Codec D) (f : ((A × B) × C) × D → Y) (g : Y → ((A × B) × C) × D)
    (same : (p : ((A × B) × C) × D) → (dep (dep (dep F G) H) I).Good p → g (f p) ≡ p) (bs : List ℕ) (h : Y → List ℕ → Reading Z) where
  pub then_four : then_read {B = Z} (reads (via (dep (dep (dep F G) H) I) f g same) bs) h
      ≡ then_read {B = Z} (reads F bs) (λ a r. then_read {B = Z} (reads (G a) r) (λ b s. then_read {B = Z} (reads (H (a, b)) s) (λ c t. then_read {B = Z} (reads (I ((a, b), c)) t) (λ d u. h (f (((a, b), c), d)) u))))
  then_four =
      ap (λ x. then_read {B = Z} x h) (reads_via (dep (dep (dep F G) H) I) f g same bs)
      ∙ made_then f (reads (dep (dep (dep F G) H) I) bs) h
      ∙ reads_pair (dep (dep F G) H) I bs (λ p u. h (f p) u)
      ∙ reads_pair (dep F G) H bs (λ p t. then_read {B = Z} (reads (I p) t) (λ d u. h (f (p, d)) u))
      ∙ reads_pair F G bs (λ p s. then_read {B = Z} (reads (H p) s) (λ c t. then_read {B = Z} (reads (I (p, c)) t) (λ d u. h (f ((p, c), d)) u)))
