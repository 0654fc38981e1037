-- Names, snapshot ids and strict names: document 01, section "Text". Lengths are counted in bytes.
-- The first two are the rules on text in validation.rs; the strict name is this project's, after
-- the SPIFFE-ID standard.
-- Assumes nothing.
use Rattle.std.specs.Prelude.{ℕ, ◌+◌, Bool, true, false, cond, not, ◌&&◌, ◌||◌, List, [], ◌∷◌, length, drop, eqb, leb, ltb}
use Rattle.identity.specs.Conditions.{◌and◌}
use Rattle.identity.specs.Utf8.{all_chars}
use Rattle.identity.specs.declared.text.Allowed.{Allowed}
use Rattle.identity.specs.declared.text.Allowed.TheVariants.{Any, NoControl, NoControlNoWhitespace}
use Rattle.identity.specs.declared.text.Part.{Part}

-- `char::is_control`: "control character (U+0000 to 001F, 007F to 009F)"
abbrev pub is_control : ℕ → Bool
is_control code = leb code 0x1F || (leb 0x7F code && leb code 0x9F)

-- "Unicode's 25 White_Space code points, kept as a list"
abbrev pub white_space : List ℕ
white_space =
    0x0009 ∷ 0x000A ∷ 0x000B ∷ 0x000C ∷ 0x000D ∷ 0x0020 ∷ 0x0085 ∷ 0x00A0 ∷ 0x1680
    ∷ 0x2000 ∷ 0x2001 ∷ 0x2002 ∷ 0x2003 ∷ 0x2004 ∷ 0x2005 ∷ 0x2006 ∷ 0x2007 ∷ 0x2008 ∷ 0x2009 ∷ 0x200A
    ∷ 0x2028 ∷ 0x2029 ∷ 0x202F ∷ 0x205F ∷ 0x3000 ∷ []

-- a number is in a list
unfoldable pub is_in : List ℕ → ℕ → Bool
is_in [] code = false
is_in (c ∷ cs) code = eqb c code || is_in cs code

-- `char::is_whitespace`
abbrev pub is_whitespace : ℕ → Bool
is_whitespace code = is_in white_space code

-- Which code points a text may hold.
abbrev pub allows : Allowed → ℕ → Bool
allows Any code = true
allows NoControl code = not (is_control code)
allows NoControlNoWhitespace code = not (is_control code) && not (is_whitespace code)

-- The ASCII characters that a rule allows are those from the first to the last: the inner functions
-- `first_ascii`, `last_ascii`, by which text that is all ASCII is judged without decoding it.
abbrev pub first_ascii : Allowed → ℕ
first_ascii Any = 0x00
first_ascii NoControl = 0x20
first_ascii NoControlNoWhitespace = 0x21

abbrev pub last_ascii : Allowed → ℕ
last_ascii Any = 0x7F
last_ascii NoControl = 0x7E
last_ascii NoControlNoWhitespace = 0x7E

-- UTF-8, of any characters
unfoldable pub is_utf8 : List ℕ → Bool
is_utf8 s = all_chars (allows Any) s

-- `spiffe://`, in ASCII
abbrev pub scheme : List ℕ
scheme = 115 ∷ 112 ∷ 105 ∷ 102 ∷ 102 ∷ 101 ∷ 58 ∷ 47 ∷ 47 ∷ []

-- the second list is at the front of the first
unfoldable pub starts_with : List ℕ → List ℕ → Bool
starts_with s [] = true
starts_with [] (p ∷ ps) = false
starts_with (b ∷ s) (p ∷ ps) = eqb b p && starts_with s ps

-- the shortest and the longest name, in bytes; the second is `MAX_VOTER_SPIFFE_ID_BYTES`
abbrev pub min_spiffe_id_bytes : ℕ
min_spiffe_id_bytes = 10

abbrev pub max_spiffe_id_bytes : ℕ
max_spiffe_id_bytes = 2048

-- `MAX_VOTER_SNAPSHOT_ID_BYTES`
abbrev pub max_snapshot_id_bytes : ℕ
max_snapshot_id_bytes = 256

-- "A controller or candidate name starts with `spiffe://`, is 10 to 2,048 bytes, and holds no
-- control character .. and none of Unicode's 25 White_Space code points"
unfoldable pub is_name : List ℕ → Bool
is_name s =
    (leb min_spiffe_id_bytes (length s) && leb (length s) max_spiffe_id_bytes)
    and starts_with s scheme
    and all_chars (allows NoControlNoWhitespace) s

-- "A snapshot id is 1 to 256 bytes without control characters; spaces may stand in it."
unfoldable pub is_snapshot_id : List ℕ → Bool
is_snapshot_id s = (leb 1 (length s) && leb (length s) max_snapshot_id_bytes) && all_chars (allows NoControl) s

-- The bytes of a strict name, in ASCII: in a trust domain a-z (97 to 122), 0-9 (48 to 57), dot
-- (46), hyphen (45) and underscore (95), and in a segment A-Z (65 to 90) too.
abbrev pub is_domain_byte : ℕ → Bool
is_domain_byte b =
    (leb 97 b && leb b 122) || ((leb 48 b && leb b 57) || (eqb b 46 || (eqb b 45 || eqb b 95)))

abbrev pub is_segment_byte : ℕ → Bool
is_segment_byte b = (leb 65 b && leb b 90) || is_domain_byte b

-- the test holds of every byte
unfoldable pub every : (ℕ → Bool) → List ℕ → Bool
every p [] = true
every p (b ∷ s) = p b && every p s

-- "a trust domain of 1 to 255 bytes"
abbrev pub max_trust_domain_bytes : ℕ
max_trust_domain_bytes = 255

-- so many of those bytes
abbrev pub is_trust_domain : List ℕ → Bool
is_trust_domain d = (leb 1 (length d) && leb (length d) max_trust_domain_bytes) && every is_domain_byte d

-- "each a slash and one or more of .."
abbrev pub is_segment : List ℕ → Bool
is_segment g = leb 1 (length g) && every is_segment_byte g

-- `/`
abbrev pub slash : ℕ
slash = 47

-- one byte more at the front of the first part
abbrev pub prepend : ℕ → List (List ℕ) → List (List ℕ)
prepend b [] = (b ∷ []) ∷ []
prepend b (part ∷ parts) = (b ∷ part) ∷ parts

-- What stands between the slashes of s: with k slashes, k + 1 parts.
unfoldable pub split : List ℕ → List (List ℕ)
split [] = [] ∷ []
split (b ∷ s) = cond (eqb b slash) ([] ∷ split s) (prepend b (split s))

-- every part is a segment
unfoldable pub all_segments : List (List ℕ) → Bool
all_segments [] = true
all_segments (g ∷ gs) = is_segment g && all_segments gs

-- the trust domain, "then no or more segments"
abbrev pub are_strict_parts : List (List ℕ) → Bool
are_strict_parts [] = false
are_strict_parts (domain ∷ segments) = is_trust_domain domain && all_segments segments

-- "At most 2,048 bytes in all: `spiffe://`, then a trust domain .., then no or more segments"
unfoldable pub is_strict_name : List ℕ → Bool
is_strict_name s = leb (length s) max_spiffe_id_bytes and starts_with s scheme and are_strict_parts (split (drop (length scheme) s))

-- The part of a strict name that is being read, and one byte more: the inner function `next_part`,
-- by which a strict name is judged in one pass. A slash ends a part, which must not be empty; any
-- other byte must be one of those that the part may hold, and a trust domain holds 255 at most.
abbrev pub next_part : Part → ℕ → Part
next_part part b =
    cond (eqb b slash) (record { good = part.good && ltb 0 part.run; in_domain = false; run = 0 })
    (cond part.in_domain
    (record { good = part.good && (is_domain_byte b && ltb part.run max_trust_domain_bytes); in_domain = true; run = part.run + 1 })
    (record { good = part.good && is_segment_byte b; in_domain = false; run = part.run + 1 }))
