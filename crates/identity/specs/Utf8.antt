-- UTF-8 as RFC 3629 defines it: the grammar of its section 4, and the code points of its section 3.
-- States "UTF-8 as RFC 3629 has it; the first byte is judged by its range" of document 01, section
-- "Text".
-- Assumes nothing.
use Rattle.std.specs.Prelude.{ℕ, zero, suc, ◌+◌, ◌*◌, ◌%◌, Bool, true, false, cond, ◌&&◌, List, [], ◌∷◌, length, get_or, drop, eqb, leb, Option, Some, None}

-- A range of byte values, both ends included: the RFC's %x80-BF.
pub record Range : Type 0 where
  pub low : ℕ
  pub high : ℕ

-- a range from its ends
abbrev pub octets : ℕ → ℕ → Range
octets low high = record { low = low; high = high }

-- a byte is in the range
abbrev pub within : Range → ℕ → Bool
within r b = leb r.low b && leb b r.high

-- UTF8-tail = %x80-BF
abbrev pub utf8_tail : Range
utf8_tail = octets 0x80 0xBF

-- UTF8-char = UTF8-1 / UTF8-2 / UTF8-3 / UTF8-4: each alternative of the grammar, in its order, as
-- the ranges of its bytes.
abbrev pub utf8_char : List (List Range)
utf8_char =
    (octets 0x00 0x7F ∷ [])
    ∷ (octets 0xC2 0xDF ∷ utf8_tail ∷ [])
    ∷ (octets 0xE0 0xE0 ∷ octets 0xA0 0xBF ∷ utf8_tail ∷ [])
    ∷ (octets 0xE1 0xEC ∷ utf8_tail ∷ utf8_tail ∷ [])
    ∷ (octets 0xED 0xED ∷ octets 0x80 0x9F ∷ utf8_tail ∷ [])
    ∷ (octets 0xEE 0xEF ∷ utf8_tail ∷ utf8_tail ∷ [])
    ∷ (octets 0xF0 0xF0 ∷ octets 0x90 0xBF ∷ utf8_tail ∷ utf8_tail ∷ [])
    ∷ (octets 0xF1 0xF3 ∷ utf8_tail ∷ utf8_tail ∷ utf8_tail ∷ [])
    ∷ (octets 0xF4 0xF4 ∷ octets 0x80 0x8F ∷ utf8_tail ∷ utf8_tail ∷ [])
    ∷ []

-- The front of s has a byte in each range of the alternative, in order.
unfoldable pub fits : List Range → List ℕ → Bool
fits [] s = true
fits (r ∷ rs) [] = false
fits (r ∷ rs) (b ∷ s) = within r b && fits rs s

-- How many bytes the alternative takes that the front of s fits; 0 where it fits none.
unfoldable pub width_in : List (List Range) → List ℕ → ℕ
width_in [] s = 0
width_in (a ∷ more) s = cond (fits a s) (length a) (width_in more s)

-- How many bytes the character at the front of s takes; 0 where there is none.
abbrev pub char_width : List ℕ → ℕ
char_width s = width_in utf8_char s

-- The code point of a character of that many bytes: the bits marked x in the table of section 3, in
-- order.
abbrev pub code_point : ℕ → List ℕ → ℕ
code_point width s =
    cond (eqb width 1) (get_or s 0 0)
    (cond (eqb width 2) (get_or s 0 0 % 32 * 64 + get_or s 1 0 % 64)
    (cond (eqb width 3) ((get_or s 0 0 % 16 * 64 + get_or s 1 0 % 64) * 64 + get_or s 2 0 % 64)
    (((get_or s 0 0 % 8 * 64 + get_or s 1 0 % 64) * 64 + get_or s 2 0 % 64) * 64 + get_or s 3 0 % 64)))

-- What stands at the front of some bytes: a character, its code point and how many bytes it takes,
-- or none.
abbrev pub Decoded : Type 0
Decoded = Option (ℕ × ℕ)

pattern abbrev pub Char : ℕ → ℕ → Decoded
Char code width = Some (code, width)

pattern abbrev pub Malformed : Decoded
Malformed = None

-- that, of a width and the bytes
abbrev pub decoded_of : ℕ → List ℕ → Decoded
decoded_of zero s = Malformed
decoded_of (suc n) s = Char (code_point (suc n) s) (suc n)

-- that, of the bytes themselves: `decode`
unfoldable pub decoded_char : List ℕ → Decoded
decoded_char s = decoded_of (char_width s) s

-- What stands at the front of s where the first byte has picked an alternative and rs are the
-- ranges of the bytes after it: `decode_two`, `decode_three`, `decode_four`, which take the bounds
-- of the second byte.
abbrev pub led_by : List Range → List ℕ → Decoded
led_by rs s = decoded_of (cond (fits rs (drop 1 s)) (suc (length rs)) 0) s

-- there is a character, and p holds of its code point
abbrev pub passes : (ℕ → Bool) → Decoded → Bool
passes p (Char code width) = p code
passes p Malformed = false

-- UTF8-octets = *( UTF8-char ): s is UTF-8, and p holds of each of its code points. No text of n
-- bytes has more than n characters.
unfoldable pub chars_from : (ℕ → Bool) → ℕ → List ℕ → Bool
chars_from p zero s = eqb (length s) 0
chars_from p (suc n) s = cond (eqb (length s) 0) true (passes p (decoded_char s) && chars_from p n (drop (char_width s) s))

-- from the start of s
unfoldable pub all_chars : (ℕ → Bool) → List ℕ → Bool
all_chars p s = chars_from p (length s) s
