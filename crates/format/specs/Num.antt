-- Numbers, big-endian at any width, and bytes as they stand: `u8`, `u16`, `u64` and `array` of
-- codec.rs.
-- Document 01: "Integers in bytes are big-endian"; "The reader's integers share one fact over their
-- width". A byte has 256 values.
-- Assumes nothing.
use Rattle.std.specs.Prelude.{ℕ, zero, suc, ◌+◌, ◌*◌, ◌/◌, ◌%◌, ◌^◌, ◌≤◌, ◌<◌, ◌≡◌, refl, Bool, true, false, List, [], ◌∷◌, ◌++◌, length, get_or, take, leb}
use Rattle.std.proofs.Common.{arith, add-one, mod-lt, div-add-mod', div-lt_iff_lt-mul, pow-suc, sym, ap, ap₂, ◌∙◌, subst, length-append, take-suc, take_all, length-take-le, take_at, lit<, le-leb, leb-true}
use Rattle.std.proofs.Math.Nat.{pow-zero}
use Rattle.std.proofs.Math.Arith.{digits_lt, digits_div, digits_mod}
use Rattle.std.proofs.lemmas.Bool.{lt-leb}
use Rattle.format.specs.Res.{Res, malformed, ok-value, ok-count, no_ok}
use Rattle.format.specs.Res.Res.{ok, no}
use Rattle.format.specs.Combinators.{Codec, Bytes, via, held, dec_map, map-ok, map-no}

-- the k low bytes of x, the highest first
unfoldable pub be : ℕ → ℕ → List ℕ
be zero x = []
be (suc k) x = be k (x / 256) ++ (x % 256 ∷ [])

-- the number that the bytes are, the highest first, after a number a
unfoldable pub val : ℕ → List ℕ → ℕ
val a [] = a
val a (b ∷ bs) = val (a * 256 + b) bs

pub length-be : (k x : ℕ) → length (be k x) ≡ k
unfolding be
length-be zero x = refl
length-be (suc k) x = length-append (be k (x / 256)) (x % 256 ∷ []) ∙ ap (λ n. n + 1) (length-be k (x / 256)) ∙ add-one k

pub val-snoc : (a : ℕ) (bs : List ℕ) (b : ℕ) → val a (bs ++ (b ∷ [])) ≡ val a bs * 256 + b
unfolding val
val-snoc a [] b = refl
val-snoc a (c ∷ bs) b = val-snoc (a * 256 + c) bs b

-- what is written is read
pub val-be : (k x : ℕ) → x < 256 ^ k → val 0 (be k x) ≡ x
unfolding be val
val-be zero x h = omega (arith, pow-zero 256)
val-be (suc k) x h =
    val-snoc 0 (be k (x / 256)) (x % 256)
    ∙ ap (λ n. n * 256 + x % 256) (val-be k (x / 256) ((div-lt_iff_lt-mul (lit< tt)).1 (rw (← pow-suc) h)))
    ∙ div-add-mod' x 256

snoc_of : (k : ℕ) (l : List ℕ) → length l ≡ suc k → l ≡ take k l ++ (get_or l k 0 ∷ [])
snoc_of k l e = sym (take_all (suc k) l (omega arith)) ∙ take-suc l k 0 (omega arith)

pub bytes_take : (n : ℕ) (bs : List ℕ) → Bytes bs → Bytes (take n bs)
unfolding Bytes
bytes_take zero bs h i = lit< tt
bytes_take (suc n) [] h i = lit< tt
bytes_take (suc n) (b ∷ bs) h zero = h zero
bytes_take (suc n) (b ∷ bs) h (suc i) = bytes_take n bs (λ j. h (suc j)) i

-- what is read is what is written
pub be-val : (k : ℕ) (l : List ℕ) → length l ≡ k → Bytes l → be k (val 0 l) ≡ l
unfolding be Bytes
be-val zero [] e h = refl
be-val zero (b ∷ l) e h = absurd (omega arith)
be-val (suc k) l e h =
    let p = take k l in
    let b = get_or l k 0 in
    let v : val 0 l ≡ val 0 p * 256 + b = ap (val 0) (snoc_of k l e) ∙ val-snoc 0 p b in
    ap₂ (λ q r. be k q ++ (r ∷ []))
    (ap (λ n. n / 256) v ∙ digits_div (val 0 p) (h k))
    (ap (λ n. n % 256) v ∙ digits_mod (val 0 p) (h k))
    ∙ ap (λ q. q ++ (b ∷ [])) (be-val k p (length-take-le k l (omega arith)) (bytes_take k l h))
    ∙ sym (snoc_of k l e)

pub val-lt : (k : ℕ) (l : List ℕ) → length l ≡ k → Bytes l → val 0 l < 256 ^ k
unfolding Bytes val
val-lt zero [] e h = lit< tt
val-lt zero (b ∷ l) e h = absurd (omega arith)
val-lt (suc k) l e h =
    subst (λ n. n < 256 ^ suc k) (sym (ap (val 0) (snoc_of k l e) ∙ val-snoc 0 (take k l) (get_or l k 0)))
    (rw pow-suc (digits_lt (val-lt k (take k l) (length-take-le k l (omega arith)) (bytes_take k l h)) (h k)))

-- the first where the test holds, else the second: `cond`, shut until it is named
unfoldable pub pick : {A : Type 0} → Bool → A → A → A
pick true a b = a
pick false a b = b

-- n bytes as they stand; too few of them are malformed
unfoldable pub dec_raw : ℕ → List ℕ → Res (List ℕ)
dec_raw n bs = pick (leb n (length bs)) (ok (take n bs) n) (no malformed)

pub raw-ok : (n : ℕ) (bs : List ℕ) → n ≤ length bs → dec_raw n bs ≡ ok (take n bs) n
unfolding dec_raw pick
raw-ok n bs h = rw (le-leb n (length bs) h)

pub raw-no : (n : ℕ) (bs : List ℕ) → length bs < n → dec_raw n bs ≡ no malformed
unfolding dec_raw pick
raw-no n bs h = rw (lt-leb n (length bs) h)

-- where n bytes are read, they are there
raw-read : (n : ℕ) (bs : List ℕ) {l : List ℕ} {r : ℕ} (t : Bool) → leb n (length bs) ≡ t → pick t (ok (take n bs) n) (no malformed) ≡ ok l r → (n ≤ length bs) × (take n bs ≡ l) × (n ≡ r)
unfolding pick
raw-read n bs true q e = (leb-true n (length bs) q, ok-value e, ok-count e)
raw-read n bs false q e = absurd (no_ok e)

pub raw-is : (n : ℕ) (bs : List ℕ) {l : List ℕ} {r : ℕ} → dec_raw n bs ≡ ok l r → (n ≤ length bs) × (take n bs ≡ l) × (n ≡ r)
unfolding dec_raw
raw-is n bs e = raw-read n bs (leb n (length bs)) refl e

pub raw-back : (n : ℕ) (l rest : List ℕ) → length l ≡ n → dec_raw n (l ++ rest) ≡ ok l (length l)
raw-back n l rest e = raw-ok n (l ++ rest) (omega (arith, length-append l rest)) ∙ ap₂ ok (take_at l rest n e) (sym e)

-- so many bytes as they stand: `array`
unfoldable pub raw : ℕ → Codec (List ℕ)
raw n = record {
  Good = λ l. (length l ≡ n) × Bytes l;
  enc = λ l. l;
  dec = dec_raw n;
  back = λ l rest g. raw-back n l rest g.0;
  within = λ bs e. rw (← (raw-is n bs e).2) (raw-is n bs e).0;
  bytes = λ bs z e. rw (← (raw-is n bs e).2) (raw-is n bs e).1;
  good = λ bs z e. rw (← (raw-is n bs e).1) (length-take-le n bs (raw-is n bs e).0, bytes_take n bs z);
}

-- an unsigned number of k bytes
unfoldable pub dec_uint : ℕ → List ℕ → Res ℕ
dec_uint k = dec_map (dec_raw k) (val 0)

pub bytes-append : (a b : List ℕ) → Bytes a → Bytes b → Bytes (a ++ b)
unfolding Bytes
bytes-append [] b h k i = k i
bytes-append (x ∷ a) b h k zero = h zero
bytes-append (x ∷ a) b h k (suc i) = bytes-append a b (λ j. h (suc j)) k i

bytes_one : (b : ℕ) → b < 256 → Bytes (b ∷ [])
unfolding Bytes
bytes_one b h zero = h
bytes_one b h (suc i) = lit< tt

pub bytes-be : (k x : ℕ) → Bytes (be k x)
unfolding be Bytes
bytes-be zero x = λ i. lit< tt
bytes-be (suc k) x = bytes-append (be k (x / 256)) (x % 256 ∷ []) (bytes-be k (x / 256)) (bytes_one (x % 256) (mod-lt x (lit< tt)))

-- a number of k bytes: `u8`, `u16`, `u64`
unfoldable pub uint : ℕ → Codec ℕ
unfolding via dec_uint raw held
uint k = held (via (raw k) (val 0) (be k) (λ l g. be-val k l g.0 g.1))
    (λ x. x < 256 ^ k)
    (λ x h. ((length-be k x, bytes-be k x), val-be k x h))
    (λ x g. subst (λ n. n < 256 ^ k) g.1 (val-lt k (be k x) (length-be k x) (bytes-be k x)))

pub uint-ok : (k : ℕ) (bs : List ℕ) → k ≤ length bs → dec_uint k bs ≡ ok (val 0 (take k bs)) k
unfolding dec_uint
uint-ok k bs h = map-ok (dec_raw k) (val 0) bs (raw-ok k bs h)

pub uint-no : (k : ℕ) (bs : List ℕ) → length bs < k → dec_uint k bs ≡ no malformed
unfolding dec_uint
uint-no k bs h = map-no (dec_raw k) (val 0) bs (raw-no k bs h)

-- a number takes its width
pub uint-long : (k x : ℕ) → length ((uint k).enc x) ≡ k
unfolding uint held via raw
uint-long k x = length-be k x

-- bytes are written as they stand
pub raw_same : (n : ℕ) (l : List ℕ) → (raw n).enc l ≡ l
unfolding raw
raw_same n l = refl

pub raw-long : (n : ℕ) (l : List ℕ) → (raw n).Good l → length l ≡ n
unfolding raw
raw-long n l g = g.0

pub raw-got : (n : ℕ) (bs : List ℕ) → n ≤ length bs → (raw n).dec bs ≡ ok (take n bs) n
unfolding raw
raw-got n bs h = raw-ok n bs h

pub raw-not : (n : ℕ) (bs : List ℕ) → length bs < n → (raw n).dec bs ≡ no malformed
unfolding raw
raw-not n bs h = raw-no n bs h

-- a test that a bound makes, and the bound from it
pub pick-zero : (t : Bool) (k : ℕ) → pick t 0 (suc k) ≡ 0 → t ≡ true
unfolding pick
pick-zero true k e = refl
pick-zero false k e = absurd (omega arith)
