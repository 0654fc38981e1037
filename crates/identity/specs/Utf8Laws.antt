-- Laws of UTF-8's definition: what the lead byte decides, and the steps of a reader that goes from
-- character to character.
-- Each name here is a step of a proof; what is right is said in Utf8.
-- Assumes nothing.
use Prim.Native.Nat.{ℕ, zero, suc, ◌<◌, ◌≤◌}
use Rattle.std.proofs.Math.Path.{◌≡◌, refl}
use Rattle.std.proofs.Common.{ap, ◌∙◌, arith, length-drop, sym}
use Rattle.std.specs.Prelude.{Bool, true, false, cond, ◌&&◌, length, get_or, take, drop, eqb, leb, ltb}
use Rattle.std.proofs.Math.Bool.{and-true, and-false}
use mathlib.Core.List.{List, [], ◌∷◌, ◌++◌}
use borrow.Author.Tests.{ltb-true, leb-true, le-leb, lt-leb, eq-eqb, ne_eqb}
use Rattle.identity.specs.Utf8.{Range, octets, within, utf8_tail, utf8_char, fits, width_in, char_width, code_point, decoded_of, decoded_char, led_by, chars_from}
use Rattle.identity.specs.Utf8.{Decoded, Char, Malformed, passes, all_chars}

pub and_left : (p q : Bool) → (p && q) ≡ true → p ≡ true
and_left true q h = refl
and_left false q h = h

pub and_right : (p q : Bool) → (p && q) ≡ true → q ≡ true
and_right true q h = h
and_right false q h = absurd (let z : ◌≡◌ {A = ℕ} 0 1 = cc in omega arith)

-- ---- the alternative that a lead byte picks

within-above : (r : Range) (b : ℕ) → r.high < b → within r b ≡ false
within-above r b h = rw (lt-leb b r.high h) (and-false (leb r.low b))

within-below : (r : Range) (b : ℕ) → b < r.low → within r b ≡ false
within-below r b h = rw (lt-leb r.low b h)

-- every alternative starts with a byte below n
abbrev ends_below : ℕ → List (List Range) → Bool
ends_below n [] = true
ends_below n ([] ∷ more) = false
ends_below n ((r ∷ rs) ∷ more) = ltb r.high n && ends_below n more

-- every alternative starts with a byte above n
abbrev starts_above : ℕ → List (List Range) → Bool
starts_above n [] = true
starts_above n ([] ∷ more) = false
starts_above n ((r ∷ rs) ∷ more) = ltb n r.low && starts_above n more

module _ (b : ℕ) (t : List ℕ) where
  skip : (n : ℕ) (front more : List (List Range)) → ends_below n front ≡ true → n ≤ b → width_in (front ++ more) (b ∷ t) ≡ width_in more (b ∷ t)
  unfolding width_in fits
  skip n [] more e h = refl
  skip n ([] ∷ front) more e h = absurd (let z : ◌≡◌ {A = ℕ} 0 1 = cc in omega arith)
  skip n ((r ∷ rs) ∷ front) more e h =
      let l : r.high < n = ltb-true r.high n (and_left (ltb r.high n) (ends_below n front) e) in
      rw (within-above r b (omega arith)) (skip n front more (and_right (ltb r.high n) (ends_below n front) e) h)

  none : (n : ℕ) (more : List (List Range)) → starts_above n more ≡ true → b ≤ n → width_in more (b ∷ t) ≡ 0
  unfolding width_in fits
  none n [] e h = refl
  none n ([] ∷ more) e h = absurd (let z : ◌≡◌ {A = ℕ} 0 1 = cc in omega arith)
  none n ((r ∷ rs) ∷ more) e h =
      let l : n < r.low = ltb-true n r.low (and_left (ltb n r.low) (starts_above n more) e) in
      rw (within-below r b (omega arith)) (none n more (and_right (ltb n r.low) (starts_above n more) e) h)

  pick : (r : Range) (rs : List Range) (more : List (List Range)) → starts_above r.high more ≡ true → r.low ≤ b → b ≤ r.high
      → width_in ((r ∷ rs) ∷ more) (b ∷ t) ≡ cond (fits rs t) (suc (length rs)) 0
  unfolding width_in fits
  pick r rs more e h k = rw (le-leb r.low b h, le-leb b r.high k, none r.high more e k)

  -- the one alternative of a list whose first range holds the lead byte
  picked : (front : List (List Range)) (r : Range) (rs : List Range) (more : List (List Range))
      → ends_below r.low front ≡ true → starts_above r.high more ≡ true → r.low ≤ b → b ≤ r.high
      → width_in (front ++ ((r ∷ rs) ∷ more)) (b ∷ t) ≡ cond (fits rs t) (suc (length rs)) 0
  picked front r rs more f e h k = skip r.low front ((r ∷ rs) ∷ more) f h ∙ pick r rs more e h k

-- ---- what stands at the front, by the range of the lead byte

pub char-none : (s : List ℕ) → length s ≡ 0 → decoded_char s ≡ Malformed
unfolding decoded_char width_in fits
char-none [] h = refl
char-none (b ∷ t) h = absurd (omega arith)

-- A lead byte in the first range of the alternative at n, those before it ending below and those
-- after it starting above: the ranges after decide.
pub char-led : (n : ℕ) (r : Range) (rs : List Range)
    → utf8_char ≡ take n utf8_char ++ ((r ∷ rs) ∷ drop (suc n) utf8_char)
    → ends_below r.low (take n utf8_char) ≡ true → starts_above r.high (drop (suc n) utf8_char) ≡ true
    → (s : List ℕ) → 0 < length s → r.low ≤ get_or s 0 0 → get_or s 0 0 ≤ r.high → decoded_char s ≡ led_by rs s
unfolding decoded_char
char-led n r rs e f g [] l h k = absurd (omega arith)
char-led n r rs e f g (b ∷ t) l h k =
    ap (λ (w : ℕ). decoded_of w (b ∷ t)) (ap (λ (a : List (List Range)). width_in a (b ∷ t)) e ∙ picked b t (take n utf8_char) r rs (drop (suc n) utf8_char) f g h k)

pub char-one : (s : List ℕ) → 0 < length s → get_or s 0 0 ≤ 0x7F → decoded_char s ≡ Char (get_or s 0 0) 1
unfolding fits
char-one s l k = char-led 0 (octets 0x00 0x7F) [] refl refl refl s l (omega arith) k

-- A lead byte between two alternatives, the front n of them and the others.
pub char-gap : (n low high : ℕ) → utf8_char ≡ take n utf8_char ++ drop n utf8_char
    → ends_below low (take n utf8_char) ≡ true → starts_above high (drop n utf8_char) ≡ true
    → (s : List ℕ) → 0 < length s → low ≤ get_or s 0 0 → get_or s 0 0 ≤ high → decoded_char s ≡ Malformed
unfolding decoded_char
char-gap n low high e f g [] l h k = absurd (omega arith)
char-gap n low high e f g (b ∷ t) l h k =
    let w : char_width (b ∷ t) ≡ 0 = ap (λ (a : List (List Range)). width_in a (b ∷ t)) e ∙ (skip b t low (take n utf8_char) (drop n utf8_char) f h ∙ none b t high (drop n utf8_char) g k) in
    rw w

-- A lead byte after the last alternative.
pub char-past : (s : List ℕ) → 0 < length s → 0xF5 ≤ get_or s 0 0 → decoded_char s ≡ Malformed
char-past s l h = char-gap 9 0xF5 (get_or s 0 0) refl refl refl s l h (omega arith)

-- ---- the bytes after the lead: a byte that is missing counts as 0, which no range there holds

by_width : (t : Bool) (w : ℕ) (s : List ℕ) → decoded_of (cond t (suc w) 0) s ≡ cond t (Char (code_point (suc w) s) (suc w)) Malformed
by_width true w s = refl
by_width false w s = refl

fits-two : (r : Range) → within r 0 ≡ false → (t : List ℕ) → fits (r ∷ utf8_tail ∷ []) t ≡ (within r (get_or t 0 0) && within utf8_tail (get_or t 1 0))
unfolding fits
fits-two r z [] = rw z
fits-two r z (b ∷ []) = refl
fits-two r z (b ∷ c ∷ t) = rw (and-true (within utf8_tail c))

fits-three : (r : Range) → within r 0 ≡ false → (t : List ℕ)
    → fits (r ∷ utf8_tail ∷ utf8_tail ∷ []) t ≡ (within r (get_or t 0 0) && (within utf8_tail (get_or t 1 0) && within utf8_tail (get_or t 2 0)))
unfolding fits
fits-three r z [] = rw z
fits-three r z (b ∷ []) = refl
fits-three r z (b ∷ c ∷ []) = refl
fits-three r z (b ∷ c ∷ d ∷ t) = rw (and-true (within utf8_tail d))

pub led-two : (s : List ℕ) → led_by (utf8_tail ∷ []) s ≡ cond (within utf8_tail (get_or s 1 0)) (Char (code_point 2 s) 2) Malformed
unfolding fits
led-two [] = refl
led-two (a ∷ []) = refl
led-two (a ∷ b ∷ t) = rw (and-true (within utf8_tail b)) (by_width (within utf8_tail b) 1 (a ∷ b ∷ t))

module _ (low high : ℕ) (above : 0 < low) where
  no_zero : within (octets low high) 0 ≡ false
  no_zero = rw (lt-leb low 0 above)

  pub led-three : (s : List ℕ)
      → led_by (octets low high ∷ utf8_tail ∷ []) s
      ≡ cond (within (octets low high) (get_or s 1 0) && within utf8_tail (get_or s 2 0)) (Char (code_point 3 s) 3) Malformed
  unfolding fits
  led-three [] = rw no_zero
  led-three (a ∷ t) =
      rw (fits-two (octets low high) no_zero t)
      (by_width (within (octets low high) (get_or t 0 0) && within utf8_tail (get_or t 1 0)) 2 (a ∷ t))

  pub led-four : (s : List ℕ)
      → led_by (octets low high ∷ utf8_tail ∷ utf8_tail ∷ []) s
      ≡ cond (within (octets low high) (get_or s 1 0) && (within utf8_tail (get_or s 2 0) && within utf8_tail (get_or s 3 0))) (Char (code_point 4 s) 4) Malformed
  unfolding fits
  led-four [] = rw no_zero
  led-four (a ∷ t) =
      rw (fits-three (octets low high) no_zero t)
      (by_width (within (octets low high) (get_or t 0 0) && (within utf8_tail (get_or t 1 0) && within utf8_tail (get_or t 2 0))) 3 (a ∷ t))

-- ---- from character to character

abbrev shorter : ℕ → List (List Range) → Bool
shorter n [] = true
shorter n (a ∷ more) = leb (length a) n && shorter n more

cond-most : (t : Bool) (a b n : ℕ) → a ≤ n → b ≤ n → cond t a b ≤ n
cond-most true a b n h k = h
cond-most false a b n h k = k

width-most : (n : ℕ) (alternatives : List (List Range)) (s : List ℕ) → shorter n alternatives ≡ true → width_in alternatives s ≤ n
unfolding width_in
width-most n [] s e = omega arith
width-most n (a ∷ more) s e =
    cond-most (fits a s) (length a) (width_in more s) n
    (leb-true (length a) n (and_left (leb (length a) n) (shorter n more) e))
    (width-most n more s (and_right (leb (length a) n) (shorter n more) e))

-- What was decoded_char with a width takes that many bytes: one to four.
pub record Sized (s : List ℕ) (width : ℕ) : Type 0 where
  pub exact : char_width s ≡ width
  pub least : 1 ≤ width
  pub most : width ≤ 4

sized-by : (w : ℕ) (s : List ℕ) (code width : ℕ) → decoded_of w s ≡ Char code width → (w ≡ width) × (1 ≤ w)
sized-by zero s code width e = absurd (let z : ◌≡◌ {A = ℕ} 0 1 = cc in omega arith)
sized-by (suc n) s code width e =
    let p : ◌≡◌ {A = ℕ × ℕ} (code_point (suc n) s, suc n) (code, width) = cc in
    let w : suc n ≡ width = ap (λ (q : ℕ × ℕ). q.1) p in
    (w, omega arith)

pub sized : (s : List ℕ) (code width : ℕ) → decoded_char s ≡ Char code width → Sized s width
unfolding decoded_char
sized s code width e =
    let b = sized-by (char_width s) s code width e in
    let w : char_width s ≡ width = b.0 in
    let m : char_width s ≤ 4 = width-most 4 utf8_char s refl in
    record { exact = w; least = omega (arith, b.1); most = omega arith }

module _ (p : ℕ → Bool) where
  -- a text that has ended
  pub chars-end : (k : ℕ) (s : List ℕ) → length s ≡ 0 → chars_from p k s ≡ true
  unfolding chars_from
  chars-end zero s h = eq-eqb (length s) 0 h
  chars-end (suc k) s h = rw (eq-eqb (length s) 0 h)

  -- a text that goes on with no character
  pub chars-malformed : (k : ℕ) (s : List ℕ) → 0 < length s → decoded_char s ≡ Malformed → chars_from p (suc k) s ≡ false
  unfolding chars_from
  chars-malformed k s h e = rw (ne_eqb (length s) 0 (omega arith), e)

  -- a text that goes on with a character: p must hold of it, and the rest follows
  pub chars-more : (k : ℕ) (s : List ℕ) (code width : ℕ) → 0 < length s → decoded_char s ≡ Char code width
      → chars_from p (suc k) s ≡ (p code && chars_from p k (drop width s))
  unfolding chars_from
  chars-more k s code width h e = rw (ne_eqb (length s) 0 (omega arith), e, (sized s code width e).exact)

  by_char : (d : Decoded) (k j : ℕ) (s : List ℕ) → d ≡ decoded_char s
      → (1 ≤ char_width s → chars_from p k (drop (char_width s) s) ≡ chars_from p j (drop (char_width s) s))
      → (passes p d && chars_from p k (drop (char_width s) s)) ≡ (passes p d && chars_from p j (drop (char_width s) s))
  by_char Malformed k j s e f = refl
  by_char (Char code width) k j s e f =
      let z = sized s code width (sym e) in
      ap (λ (t : Bool). p code && t) (f (omega (arith, z.exact, z.least)))

  -- As many characters may be looked for as there are bytes: no more are found.
  turns : (k j : ℕ) (s : List ℕ) → length s ≤ k → length s ≤ j → chars_from p k s ≡ chars_from p j s
  unfolding chars_from
  turns zero zero s h i = refl
  turns zero (suc j) s h i = rw (eq-eqb (length s) 0 (omega arith))
  turns (suc k) zero s h i = rw (eq-eqb (length s) 0 (omega arith))
  turns (suc k) (suc j) s h i =
      ap (λ (t : Bool). cond (eqb (length s) 0) true t)
      (by_char (decoded_char s) k j s refl
      (λ (l : 1 ≤ char_width s). turns k j (drop (char_width s) s) (simp length-drop (omega arith)) (simp length-drop (omega arith))))

-- ---- the same of whole texts

cond-within : (t : Bool) (a b n : ℕ) → (t ≡ true → a ≤ n) → b ≤ n → cond t a b ≤ n
cond-within true a b n h k = h refl
cond-within false a b n h k = k

fits-long : (a : List Range) (s : List ℕ) → fits a s ≡ true → length a ≤ length s
unfolding fits
fits-long [] s e = omega arith
fits-long (r ∷ a) [] e = absurd (let z : ◌≡◌ {A = ℕ} 0 1 = cc in omega arith)
fits-long (r ∷ a) (b ∷ s) e = let n = fits-long a s (and_right (within r b) (fits a s) e) in omega (arith, n)

width-long : (alternatives : List (List Range)) (s : List ℕ) → width_in alternatives s ≤ length s
unfolding width_in
width-long [] s = omega arith
width-long (a ∷ more) s = cond-within (fits a s) (length a) (width_in more s) (length s) (fits-long a s) (width-long more s)

-- A character takes bytes that are there, one at least.
pub char_within : (s : List ℕ) (code width : ℕ) → decoded_char s ≡ Char code width → (1 ≤ width) × (width ≤ length s)
char_within s code width e =
    let z = sized s code width e in
    let l : char_width s ≤ length s = width-long utf8_char s in
    (z.least, omega (arith, z.exact))

-- a text that goes on with a character: p must hold of it, and the rest follows
pub all_chars_more : (p : ℕ → Bool) (s : List ℕ) (code width : ℕ) → decoded_char s ≡ Char code width → all_chars p s ≡ (p code && all_chars p (drop width s))
unfolding all_chars
all_chars_more p s code width e =
    let w = char_within s code width e in
    turns p (length s) (suc (length s)) s (omega arith) (omega arith)
    ∙ (chars-more p (length s) s code width (omega (arith, w.0, w.1)) e
    ∙ ap (λ (t : Bool). p code && t) (turns p (length s) (length (drop width s)) (drop width s) (simp length-drop (omega arith)) (omega arith)))

-- a text that goes on with no character has ended, or is none
pub all_chars_end : (p : ℕ → Bool) (s : List ℕ) → decoded_char s ≡ Malformed → all_chars p s ≡ eqb (length s) 0
unfolding all_chars chars_from
all_chars_end p [] e = refl
all_chars_end p (b ∷ s) e = rw (e, ne_eqb (length (b ∷ s)) 0 (omega arith)) refl
