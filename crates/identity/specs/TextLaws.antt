-- Laws of the rules on text: the ASCII shortcut, the ranges without white space, the loops' steps,
-- and the strict name read byte by byte.
-- Each name here is a step of a proof; what is right is said in Text.
-- Assumes nothing.
use Rattle.std.specs.List.{starts_with as front}
use Rattle.std.specs.Prelude.{ℕ, zero, suc, ◌+◌, ◌<◌, ◌≤◌, ◌≡◌, Bool, true, false, cond, not, ◌&&◌, ◌||◌, length, get_or, take, drop, eqb, leb, ltb}
use Rattle.std.proofs.Math.Path.{refl}
use Rattle.std.proofs.Common.{sym, ap, ◌∙◌, add-one, arith, drop-cons, ltb-true, ltb-false, lt-ltb, leb-true, le-leb, ne_eqb, eq-eqb, eqb-true}
use Rattle.std.proofs.Math.Bool.{and-true, and-false, and_assoc, or-false, or_assoc}
use mathlib.Core.List.{List, [], ◌∷◌}
use Rattle.std.proofs.lemmas.Bool.{not-true, lt-leb, eqb-false}
use Rattle.identity.specs.Utf8.{Range, octets, within, Char, decoded_char, chars_from, all_chars}
use Rattle.identity.specs.Utf8Laws.{and_left, and_right, char-one, chars-end, chars-more, all_chars_more}
use Rattle.identity.specs.Text.{is_in, white_space, allows, first_ascii, last_ascii, every, starts_with, is_domain_byte, is_segment_byte, prepend, split, all_segments, are_strict_parts, next_part}
use Rattle.identity.specs.declared.text.Allowed.{Allowed}
use Rattle.identity.specs.declared.text.Allowed.TheVariants.{Any, NoControl, NoControlNoWhitespace}
use Rattle.identity.specs.declared.text.Part.{Part}

-- ---- the loops' steps: one more element

in-suc : (l : List ℕ) (code i : ℕ) → i < length l → is_in (take (suc i) l) code ≡ (is_in (take i l) code || eqb (get_or l i 0) code)
unfolding is_in
in-suc [] code i h = absurd (omega arith)
in-suc (x ∷ l) code zero h = or-false (eqb x code)
in-suc (x ∷ l) code (suc i) h =
    rw (in-suc l code i (omega arith)) (sym (or_assoc (eqb x code) (is_in (take i l) code) (eqb (get_or l i 0) code)))

pub in-more : (l : List ℕ) (code i : ℕ) → i < length l → is_in (take (i + 1) l) code ≡ (is_in (take i l) code || eqb (get_or l i 0) code)
in-more l code i h = rw add-one (in-suc l code i h)

all-suc : (p : ℕ → Bool) (l : List ℕ) (i : ℕ) → i < length l → every p (take (suc i) l) ≡ (every p (take i l) && p (get_or l i 0))
unfolding every
all-suc p [] i h = absurd (omega arith)
all-suc p (x ∷ l) zero h = and-true (p x)
all-suc p (x ∷ l) (suc i) h = rw (all-suc p l i (omega arith)) (sym (and_assoc (p x) (every p (take i l)) (p (get_or l i 0))))

pub all_more : (p : ℕ → Bool) (l : List ℕ) (i : ℕ) → i < length l → every p (take (i + 1) l) ≡ (every p (take i l) && p (get_or l i 0))
all_more p l i h = rw add-one (all-suc p l i h)

starts-suc : (s p : List ℕ) (i : ℕ) → i < length s → i < length p
    → starts_with s (take (suc i) p) ≡ (starts_with s (take i p) && eqb (get_or s i 0) (get_or p i 0))
unfolding starts_with
starts-suc [] p i h k = absurd (omega arith)
starts-suc (b ∷ s) [] i h k = absurd (omega arith)
starts-suc (b ∷ s) (c ∷ p) zero h k = and-true (eqb b c)
starts-suc (b ∷ s) (c ∷ p) (suc i) h k =
    rw (starts-suc s p i (omega arith) (omega arith)) (sym (and_assoc (eqb b c) (starts_with s (take i p)) (eqb (get_or s i 0) (get_or p i 0))))

pub starts_more : (s p : List ℕ) (i : ℕ) → i < length s → i < length p
    → starts_with s (take (i + 1) p) ≡ (starts_with s (take i p) && eqb (get_or s i 0) (get_or p i 0))
starts_more s p i h k = rw add-one (starts-suc s p i h k)

eqb-turned : (a b : ℕ) → eqb a b ≡ eqb b a
eqb-turned a b = by (eqb a b) refl
  where
    by : (t : Bool) → eqb a b ≡ t → eqb a b ≡ eqb b a
    by true e = e ∙ sym (eq-eqb b a (sym (eqb-true a b e)))
    by false e = e ∙ sym (ne_eqb b a (λ q. eqb-false a b e (sym q)))

-- It is the library's word for the front of a slice.
pub starts_as : (s p : List ℕ) → front (λ a b. eqb a b) s p ≡ starts_with s p
unfolding starts_with
starts_as s [] = refl
starts_as [] (c ∷ p) = refl
starts_as (b ∷ s) (c ∷ p) = ap (λ (t : Bool). eqb c b && t) (starts_as s p) ∙ ap (λ (t : Bool). t && starts_with s p) (eqb-turned c b)

-- What starts with p is no shorter than p.
pub starts-length : (s p : List ℕ) → starts_with s p ≡ true → length p ≤ length s
unfolding starts_with
starts-length s [] h = omega arith
starts-length [] (c ∷ p) h = absurd (let z : ◌≡◌ {A = ℕ} 0 1 = cc in omega arith)
starts-length (b ∷ s) (c ∷ p) h = omega (arith, starts-length s p (and_right (eqb b c) (starts_with s p) h))

pub starts-short : (s p : List ℕ) → length s < length p → starts_with s p ≡ false
starts-short s p h = by (starts_with s p) refl
  where
    by : (t : Bool) → starts_with s p ≡ t → t ≡ false
    by true e = absurd (omega (arith, starts-length s p e))
    by false e = refl

-- ---- the ranges without white space

abbrev pub between : ℕ → ℕ → ℕ → Bool
between low high c = ltb low c && ltb c high

abbrev pub outside : ℕ → ℕ → ℕ → Bool
outside low high c = not (between low high c)

-- A list whose numbers are all outside a range has none that is between its ends.
pub none_between : (low high code : ℕ) (l : List ℕ) → every (outside low high) l ≡ true → between low high code ≡ true → is_in l code ≡ false
unfolding every is_in
none_between low high code [] o h = refl
none_between low high code (c ∷ l) o h =
    rw (ne_eqb c code other) (none_between low high code l (and_right (outside low high c) (every (outside low high) l) o) h)
  where
    other : c ≡ code → ⊥
    other e =
        let n : between low high c ≡ false = not-true (between low high c) (and_left (outside low high c) (every (outside low high) l) o) in
        let z : ◌≡◌ {A = ℕ} 0 1 = cc (ap (between low high) e) in
        omega arith

-- ---- text that is all ASCII

module _ (p : ℕ → Bool) (r : Range) (good : (b : ℕ) → within r b ≡ true → (b ≤ 0x7F) × (p b ≡ true)) where
  ascii-from : (s : List ℕ) → every (within r) s ≡ true → chars_from p (length s) s ≡ true
  unfolding every
  ascii-from [] h = chars-end p 0 [] refl
  ascii-from (b ∷ t) h =
      let g = good b (and_left (within r b) (every (within r) t) h) in
      chars-more p (length t) (b ∷ t) b 1 (omega arith) (char-one (b ∷ t) (omega arith) g.0)
      ∙ rw g.1 (ascii-from t (and_right (within r b) (every (within r) t) h))

  pub ascii-chars : (s : List ℕ) → every (within r) s ≡ true → all_chars p s ≡ true
  unfolding all_chars
  ascii-chars s h = ascii-from s h

-- Every byte of a rule's ASCII range is a character that the rule allows.
pub ascii-allowed : (rule : Allowed) (b : ℕ) → within (octets (first_ascii rule) (last_ascii rule)) b ≡ true → (b ≤ 0x7F) × (allows rule b ≡ true)
unfolding every
ascii-allowed Any b h = (leb-true b 0x7F (and_right (leb 0 b) (leb b 0x7F) h), refl)
ascii-allowed NoControl b h =
    let l : 0x20 ≤ b = leb-true 0x20 b (and_left (leb 0x20 b) (leb b 0x7E) h) in
    let m : b ≤ 0x7E = leb-true b 0x7E (and_right (leb 0x20 b) (leb b 0x7E) h) in
    (omega arith, rw (lt-leb b 0x1F l, lt-leb 0x7F b (omega arith)))
ascii-allowed NoControlNoWhitespace b h =
    let l : 0x21 ≤ b = leb-true 0x21 b (and_left (leb 0x21 b) (leb b 0x7E) h) in
    let m : b ≤ 0x7E = leb-true b 0x7E (and_right (leb 0x21 b) (leb b 0x7E) h) in
    let n : between 0x20 0x85 b ≡ true = rw (lt-ltb 0x20 b l, lt-ltb b 0x85 (omega arith)) in
    (omega arith, rw (lt-leb b 0x1F (omega arith), lt-leb 0x7F b (omega arith), none_between 0x20 0x85 b white_space refl n))

-- ---- the strict name, byte by byte

abbrev part : Bool → Bool → ℕ → Part
part good in_domain run = record { good = good; in_domain = in_domain; run = run }

-- In the trust domain (true) or a segment (false), of which n bytes were read: the byte b may
-- follow.
abbrev byte_fits : Bool → ℕ → ℕ → Bool
byte_fits true n b = is_domain_byte b && ltb n 255
byte_fits false n b = is_segment_byte b

-- There the bytes g may follow, and then the part ends.
abbrev part_fits : Bool → ℕ → List ℕ → Bool
part_fits d n [] = ltb 0 n
part_fits d n (b ∷ g) = byte_fits d n b && part_fits d (n + 1) g

-- There the first of these parts may follow, and the others are segments.
abbrev rest_fits : Bool → ℕ → List (List ℕ) → Bool
rest_fits d n [] = true
rest_fits d n (g ∷ gs) = part_fits d n g && all_segments gs

cond_cases : {A : Type 0} (P : A → Type 0) (t : Bool) (x y : A) → P x → P y → P (cond t x y)
cond_cases P true x y h k = h
cond_cases P false x y h k = k

cond_both : {A B : Type 0} (f : A → Bool) (g : B → Bool) (t : Bool) {x y : A} {u v : B} → f x ≡ g u → f y ≡ g v → f (cond t x y) ≡ g (cond t u v)
cond_both f g true h k = h
cond_both f g false h k = k

-- What holds of each case of the next part holds of the next part.
next-cases : (P : Part → Type 0) (p : Part) (b : ℕ) → P (part (p.good && ltb 0 p.run) false 0)
    → P (part (p.good && byte_fits true p.run b) true (p.run + 1)) → P (part (p.good && byte_fits false p.run b) false (p.run + 1))
    → P (next_part p b)
next-cases P p b h k l = cond_cases P (eqb b 47) _ _ h (cond_cases P p.in_domain _ _ k l)

pub next-run : (p : Part) (b : ℕ) → (next_part p b).run ≤ p.run + 1
next-run p b = next-cases (λ (q : Part). q.run ≤ p.run + 1) p b (omega arith) (omega arith) (omega arith)

-- The answer where the part p is being read and the bytes s follow.
unfoldable pub parts_from : Part → List ℕ → Bool
parts_from p [] = p.good && ltb 0 p.run
parts_from p (b ∷ s) = parts_from (next_part p b) s

pub parts_more : (p : Part) (s : List ℕ) (i : ℕ) → i < length s → parts_from p (drop i s) ≡ parts_from (next_part p (get_or s i 0)) (drop (i + 1) s)
unfolding parts_from
parts_more p s i h = rw (add-one i, drop-cons s i 0)

-- What is wrong stays wrong.
parts-bad : (d : Bool) (n : ℕ) (s : List ℕ) → parts_from (part false d n) s ≡ false
unfolding parts_from
parts-bad d n [] = refl
parts-bad d n (b ∷ s) =
    next-cases (λ (p : Part). parts_from p s ≡ false) (part false d n) b (parts-bad false 0 s) (parts-bad true (n + 1) s) (parts-bad false (n + 1) s)

parts-good : (g d : Bool) (n : ℕ) (s : List ℕ) → parts_from (part g d n) s ≡ (g && parts_from (part true d n) s)
parts-good true d n s = refl
parts-good false d n s = parts-bad d n s

and-swap : (p q r : Bool) → (p && (q && r)) ≡ (q && (p && r))
and-swap true q r = refl
and-swap false q r = sym (and-false q)

segment-fits : (m n : ℕ) (g : List ℕ) → n + length g ≡ m → part_fits false n g ≡ (leb 1 m && every is_segment_byte g)
unfolding every
segment-fits m n [] e = let f : n ≡ m = omega arith in rw f (sym (and-true (leb 1 m)))
segment-fits m n (b ∷ g) e = rw (segment-fits m (n + 1) g (omega arith)) (and-swap (is_segment_byte b) (leb 1 m) (every is_segment_byte g))

domain-fits : (m n : ℕ) (g : List ℕ) → n + length g ≡ m → n ≤ 255 → part_fits true n g ≡ ((leb 1 m && leb m 255) && every is_domain_byte g)
unfolding every
domain-fits m n [] e h =
    let f : n ≡ m = omega arith in
    rw (f, le-leb m 255 (omega arith)) (sym (and-true (leb 1 m && true) ∙ and-true (leb 1 m)))
domain-fits m n (b ∷ g) e h = by (ltb n 255) refl (λ k. domain-fits m (n + 1) g (omega arith) k)
  where
    by : (t : Bool) → ltb n 255 ≡ t → (n + 1 ≤ 255 → part_fits true (n + 1) g ≡ ((leb 1 m && leb m 255) && every is_domain_byte g))
        → ((is_domain_byte b && t) && part_fits true (n + 1) g) ≡ ((leb 1 m && leb m 255) && (is_domain_byte b && every is_domain_byte g))
    by true k rest =
        rw (and-true, rest (omega (arith, ltb-true n 255 k))) (and-swap (is_domain_byte b) (leb 1 m && leb m 255) (every is_domain_byte g))
    by false k rest = rw (lt-leb m 255 (omega (arith, ltb-false n 255 k)), and-false (is_domain_byte b), and-false (leb 1 m))

rest-segments : (l : List (List ℕ)) → rest_fits false 0 l ≡ all_segments l
unfolding all_segments
rest-segments [] = refl
rest-segments (g ∷ gs) = rw (segment-fits (length g) 0 g (omega arith))

prepended : (d : Bool) (n b : ℕ) (l : List (List ℕ)) → (byte_fits d n b && rest_fits d (n + 1) l) ≡ rest_fits d n (prepend b l)
unfolding all_segments
prepended d n b [] = rw (lt-ltb 0 (n + 1) (omega arith)) (sym (and-true (byte_fits d n b && true)))
prepended d n b (g ∷ gs) = sym (and_assoc (byte_fits d n b) (part_fits d (n + 1) g) (all_segments gs))

parts-split : (d : Bool) (n : ℕ) (s : List ℕ) → parts_from (part true d n) s ≡ rest_fits d n (split s)
unfolding parts_from split all_segments
parts-split d n [] = sym (and-true (ltb 0 n))
parts-split d n (b ∷ s) =
    cond_both (λ p. parts_from p s) (rest_fits d n) (eqb b 47)
    (parts-good (ltb 0 n) false 0 s ∙ ap (λ (t : Bool). ltb 0 n && t) (parts-split false 0 s ∙ rest-segments (split s)))
    (ap (λ (p : Part). parts_from p s) (same d)
    ∙ (parts-good (byte_fits d n b) d (n + 1) s ∙ (ap (λ (t : Bool). byte_fits d n b && t) (parts-split d (n + 1) s) ∙ prepended d n b (split s))))
  where
    same : (d : Bool) → cond d (part (byte_fits true n b) true (n + 1)) (part (byte_fits false n b) false (n + 1)) ≡ part (byte_fits d n b) d (n + 1)
    same true = refl
    same false = refl

domain-first : (g : List ℕ) (gs : List (List ℕ)) → are_strict_parts (g ∷ gs) ≡ rest_fits true 0 (g ∷ gs)
domain-first g gs = rw (domain-fits (length g) 0 g (omega arith) (omega arith))

whole_parts : (s : List ℕ) → are_strict_parts (split s) ≡ rest_fits true 0 (split s)
unfolding split
whole_parts [] = domain-first [] []
whole_parts (b ∷ s) = cond_cases (λ (l : List (List ℕ)). are_strict_parts l ≡ rest_fits true 0 l) (eqb b 47) _ _ (domain-first [] (split s)) (by (split s))
  where
    by : (l : List (List ℕ)) → are_strict_parts (prepend b l) ≡ rest_fits true 0 (prepend b l)
    by [] = domain-first (b ∷ []) []
    by (g ∷ gs) = domain-first (b ∷ g) gs

pub strict-parts : (s : List ℕ) → are_strict_parts (split s) ≡ parts_from (part true true 0) s
strict-parts s = whole_parts s ∙ sym (parts-split true 0 s)

-- ---- text, character by character

-- a character that the rule does not allow
pub refused_char : (rule : Allowed) (s : List ℕ) (code width : ℕ) → decoded_char s ≡ Char code width → allows rule code ≡ false
    → all_chars (allows rule) s ≡ false
refused_char rule s code width here e =
    all_chars_more (allows rule) s code width here ∙ ap (λ (t : Bool). t && all_chars (allows rule) (drop width s)) e

-- one that it allows: the rest decides
pub allowed_char : (rule : Allowed) (s : List ℕ) (code width : ℕ) → decoded_char s ≡ Char code width → allows rule code ≡ true
    → all_chars (allows rule) s ≡ all_chars (allows rule) (drop width s)
allowed_char rule s code width here e =
    all_chars_more (allows rule) s code width here ∙ ap (λ (t : Bool). t && all_chars (allows rule) (drop width s)) e
