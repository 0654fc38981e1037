-- Laws of the replay: what the first record of the bytes is, with no bound on how many there are;
-- that records which are written are read again; that what is printed of a record does not hang on
-- what follows it; and decimal numbers.
-- Assumes nothing.
use Rattle.std.specs.Prelude.{ℕ, zero, suc, ◌+◌, ◌*◌, ◌-◌, ◌/◌, ◌%◌, ◌^◌, ◌≤◌, ◌<◌, ◌≡◌, refl, Bool, true, false, cond, ◌&&◌, List, [], ◌∷◌, ◌++◌, map, length, get_or, take, drop, eqb, leb, ltb}
use Rattle.std.proofs.Common.{arith, add-zero, pow-suc, div-lt_iff_lt-mul, le-div_iff_mul-le, mod-lt, mod-eq_of_lt, sym, ap, ap₂, ◌∙◌, subst, append_assoc, append-nil, length-take, length-drop, length-append, drop-drop, lit<, lt-ltb, le-ltb, ltb-false, leb-false, leb-true}
use Rattle.std.proofs.Math.Nat.{pow-le-pow_right, div-lt_self}
use Rattle.std.proofs.Math.Bool.{and-true}
use Rattle.std.proofs.lemmas.Bool.{false≢true}
use Rattle.std.proofs.Math.Seq.{drop-append_seam}
use Rattle.identity.specs.Utf8Laws.{and_left, and_right}
use Rattle.io.specs.Digits.{hex_digit_ascii, last_digits, IsDigitCount}
use Rattle.format.specs.Res.{Res, and_then, began, ok-count}
use Rattle.format.specs.Res.Res.{ok, no}
use Rattle.format.specs.Combinators.{Codec, Bytes, dep, check, via, held, dec_seq, mapped, checked, dep-ok, dep-no-1, dep-no-2, checked-ok, checked-no, checked-bad, via-ok, via-no, back-and-there}
use Rattle.format.specs.Num.{uint, raw, val, dec_uint, uint-ok, uint-no, raw-is, raw-got, raw-not, pick}
use Rattle.format.specs.Through.{whole, whole_is, whole-there}
use Rattle.records.specs.Held.{AllOf}
use Rattle.layout.specs.Layout.{require}
use Rattle.codec.specs.Codec.{decode_lost_voter_attestation}
use Rattle.journal.specs.declared.replay.Mark.{Mark}
use Rattle.journal.specs.declared.replay.Mark.TheVariants.{Tb, Mk, Ad, Bg, Ob, Unknown}
use Rattle.journal.specs.declared.bodies.MarkerBody.{MarkerBody}
use Rattle.journal.specs.Records.{sized-long, sized_bytes, mark_text, marker_body, AdvanceBody, advance_body, BeginBody, begin_body, ObservationBody, observation_body, mark_of, is_known_mark, known_mark, frame}
use Rattle.journal.specs.Replay.{marker_asked, advance_asked, begin_asked, observation_asked, formed, attested, asking, Standing, Entry, step, first_entry, entries_in, entries, Turn, turn, run, ended, decimal_in, decimal, line_of, line, lines, heading, replay_from}
use Rattle.journal.specs.Replay.Asking.{asks}
use Rattle.journal.specs.Replay.Entry.{framed, broken}

-- ---- the head of a record, as a program reads it: the mark, the size, the body

abbrev pub head_mark : List ℕ → Mark
head_mark bs = mark_of (take 2 bs)

abbrev pub head_size : List ℕ → ℕ
head_size bs = val 0 (take 2 (drop 2 bs))

-- the mark by its two bytes, as code tests them
pub mark-two : (a b : ℕ)
    → mark_of (a ∷ (b ∷ []))
    ≡ cond (eqb a 84 && eqb b 66) Tb
    (cond (eqb a 77 && eqb b 75) Mk
    (cond (eqb a 65 && eqb b 68) Ad
    (cond (eqb a 66 && eqb b 71) Bg
    (cond (eqb a 79 && eqb b 66) Ob Unknown))))
unfolding mark_of
mark-two a b = rw (and-true (eqb b 66), and-true (eqb b 75), and-true (eqb b 68), and-true (eqb b 71))

mark-ok : (bs : List ℕ) → 2 ≤ length bs → is_known_mark (head_mark bs) ≡ true → known_mark.dec bs ≡ ok (head_mark bs) 2
unfolding known_mark pick
mark-ok bs h k = via-ok _ _ _ _ bs (checked-ok (raw 2) (λ l. require (is_known_mark (mark_of l))) bs (raw-got 2 bs h) (ap (λ (b : Bool). require b) k))

mark-short : (bs : List ℕ) → length bs < 2 → known_mark.dec bs ≡ no 6
unfolding known_mark
mark-short bs h = via-no _ _ _ _ bs (checked-no (raw 2) (λ l. require (is_known_mark (mark_of l))) bs (raw-not 2 bs h))

mark-unknown : (bs : List ℕ) → 2 ≤ length bs → is_known_mark (head_mark bs) ≡ false → known_mark.dec bs ≡ no 6
unfolding known_mark pick
mark-unknown bs h k = via-no _ _ _ _ bs (checked-bad (raw 2) (λ l. require (is_known_mark (mark_of l))) bs (raw-got 2 bs h) (ap (λ (b : Bool). require b) k))

-- a number of so many bytes
pub number_ok : (k : ℕ) (bs : List ℕ) → k ≤ length bs → (uint k).dec bs ≡ ok (val 0 (take k bs)) k
unfolding uint held via raw dec_uint
number_ok k bs h = uint-ok k bs h

pub number-no : (k : ℕ) (bs : List ℕ) → length bs < k → (uint k).dec bs ≡ no 6
unfolding uint held via raw dec_uint
number-no k bs h = uint-no k bs h

-- bytes after their size
pub sized-ok : (bs : List ℕ) → 2 + val 0 (take 2 bs) ≤ length bs → sized_bytes.dec bs ≡ ok (take (val 0 (take 2 bs)) (drop 2 bs)) (2 + val 0 (take 2 bs))
unfolding sized_bytes
sized-ok bs h =
    via-ok (dep (uint 2) raw) (λ p. p.1) (λ l. (length l, l)) sized-long bs
    (dep-ok (uint 2) raw bs (number_ok 2 bs (omega arith)) (raw-got (val 0 (take 2 bs)) (drop 2 bs) (let e = length-drop 2 bs in omega arith)))

pub sized-short : (bs : List ℕ) → length bs < 2 → sized_bytes.dec bs ≡ no 6
unfolding sized_bytes
sized-short bs h = via-no (dep (uint 2) raw) (λ p. p.1) (λ l. (length l, l)) sized-long bs (dep-no-1 (uint 2) raw bs (number-no 2 bs h))

pub sized-cut : (bs : List ℕ) → 2 ≤ length bs → length bs < 2 + val 0 (take 2 bs) → sized_bytes.dec bs ≡ no 6
unfolding sized_bytes
sized-cut bs h k =
    via-no (dep (uint 2) raw) (λ p. p.1) (λ l. (length l, l)) sized-long bs
    (dep-no-2 (uint 2) raw bs (number_ok 2 bs h) (raw-not (val 0 (take 2 bs)) (drop 2 bs) (let e = length-drop 2 bs in omega arith)))

-- a whole record
pub frame-got : (bs : List ℕ) → is_known_mark (head_mark bs) ≡ true → 4 + head_size bs ≤ length bs → frame.dec bs ≡ ok (head_mark bs, take (head_size bs) (drop 4 bs)) (4 + head_size bs)
unfolding frame
frame-got bs k h =
    let e = length-drop 2 bs in
    dep-ok known_mark (λ mark. sized_bytes) bs (mark-ok bs (omega arith) k) (sized-ok (drop 2 bs) (omega arith))
    ∙ ap₂ (λ (l : List ℕ) (n : ℕ). ok (head_mark bs, take (head_size bs) l) n) (drop-drop 2 2 bs) (omega arith)

-- "mark .. cut short"; "Unknown mark"; "size cut short"; "body cut short"
pub frame-short : (bs : List ℕ) → length bs < 2 → frame.dec bs ≡ no 6
unfolding frame
frame-short bs h = dep-no-1 known_mark (λ mark. sized_bytes) bs (mark-short bs h)

pub frame-unknown : (bs : List ℕ) → 2 ≤ length bs → is_known_mark (head_mark bs) ≡ false → frame.dec bs ≡ no 6
unfolding frame
frame-unknown bs h k = dep-no-1 known_mark (λ mark. sized_bytes) bs (mark-unknown bs h k)

pub frame-sizeless : (bs : List ℕ) → 2 ≤ length bs → is_known_mark (head_mark bs) ≡ true → length bs < 4 → frame.dec bs ≡ no 6
unfolding frame
frame-sizeless bs h k l =
    let e = length-drop 2 bs in
    dep-no-2 known_mark (λ mark. sized_bytes) bs (mark-ok bs h k) (sized-short (drop 2 bs) (omega arith))

pub frame-cut : (bs : List ℕ) → 4 ≤ length bs → is_known_mark (head_mark bs) ≡ true → length bs < 4 + head_size bs → frame.dec bs ≡ no 6
unfolding frame
frame-cut bs h k l =
    let e = length-drop 2 bs in
    dep-no-2 known_mark (λ mark. sized_bytes) bs (mark-ok bs (omega arith) k) (sized-cut (drop 2 bs) (omega arith) (omega arith))

-- ---- the records of the bytes: three equations, with no bound on how many

-- a record takes bytes
mark-takes : (bs : List ℕ) {m : Mark} {n : ℕ} → known_mark.dec bs ≡ ok m n → 2 ≡ n
unfolding known_mark via check raw
mark-takes bs {m} {n} e =
    let (l, e₁, e₂) = mapped _ mark_of bs e in
    (raw-is 2 bs (checked _ (λ l. require (is_known_mark (mark_of l))) bs e₁).0).2

number-takes : (bs : List ℕ) {x n : ℕ} → (uint 2).dec bs ≡ ok x n → 2 ≡ n
unfolding uint held via raw
number-takes bs e = let (l, e₁, e₂) = mapped _ (val 0) bs e in (raw-is 2 bs e₁).2

sized-takes : (bs : List ℕ) {l : List ℕ} {n : ℕ} → sized_bytes.dec bs ≡ ok l n → 2 ≤ n
unfolding sized_bytes via dep dec_seq
sized-takes bs {l} {n} e =
    let (q, e₁, e₂) = mapped _ (λ (p : ℕ × List ℕ). p.1) bs e in
    let (x, k, e₃, e₄) = began ((uint 2).dec bs) (λ x k. and_then ((raw x).dec (drop k bs)) (λ b j. ok (x, b) (k + j))) e₁ in
    let (b, j, e₅, e₆) = began ((raw x).dec (drop k bs)) (λ b j. ok (x, b) (k + j)) e₄ in
    let f = number-takes bs e₃ in
    let g : k + j ≡ n = ok-count {A = ℕ × List ℕ} {a = (x, b)} {b = q} {n = k + j} {m = n} e₆ in
    omega arith

pub frame-takes : (bs : List ℕ) {p : Mark × List ℕ} {n : ℕ} → frame.dec bs ≡ ok p n → 4 ≤ n
unfolding frame dep dec_seq
frame-takes bs {p} {n} e =
    let (m, k, e₁, e₂) = began (known_mark.dec bs) (λ m k. and_then (sized_bytes.dec (drop k bs)) (λ b j. ok (m, b) (k + j))) e in
    let (b, j, e₃, e₄) = began (sized_bytes.dec (drop k bs)) (λ b j. ok (m, b) (k + j)) e₂ in
    let f = mark-takes bs e₁ in
    let h = sized-takes (drop k bs) e₃ in
    let g : k + j ≡ n = ok-count e₄ in
    omega arith

first-same : (shown : Mark) (r : Res (Mark × List ℕ)) (f g : ℕ → List Entry) → ((p : Mark × List ℕ) (n : ℕ) → r ≡ ok p n → f n ≡ g n) → first_entry shown r f ≡ first_entry shown r g
unfolding first_entry
first-same shown (ok p n) f g h = ap (λ (l : List Entry). framed p.0 p.1 ∷ l) (h p n refl)
first-same shown (no k) f g h = refl

fewer : (n most : ℕ) (b : ℕ) (bs : List ℕ) → 4 ≤ n → length (b ∷ bs) ≤ suc most → length (drop n (b ∷ bs)) ≤ most
fewer n most b bs h k = let e = length-drop n (b ∷ bs) in omega arith

-- any bound that is no less than the number of bytes will do
most-same : (m n : ℕ) (bs : List ℕ) → length bs ≤ m → length bs ≤ n → entries_in m bs ≡ entries_in n bs
unfolding entries_in
most-same zero zero bs h k = refl
most-same zero (suc n) [] h k = refl
most-same zero (suc n) (b ∷ bs) h k = absurd (omega arith)
most-same (suc m) zero [] h k = refl
most-same (suc m) zero (b ∷ bs) h k = absurd (omega arith)
most-same (suc m) (suc n) [] h k = refl
most-same (suc m) (suc n) (b ∷ bs) h k =
    first-same (head_mark (b ∷ bs)) (frame.dec (b ∷ bs)) (λ j. entries_in m (drop j (b ∷ bs))) (λ j. entries_in n (drop j (b ∷ bs)))
    (λ p j e.
    let t = frame-takes (b ∷ bs) e in
    most-same m n (drop j (b ∷ bs)) (fewer j m b bs t h) (fewer j n b bs t k))

-- at the end there is none
pub entries_none : entries [] ≡ []
unfolding entries entries_in
entries_none = refl

-- a record, and the records of the bytes after it
pub entries_next : (bs : List ℕ) {p : Mark × List ℕ} {n : ℕ} → frame.dec bs ≡ ok p n → entries bs ≡ framed p.0 p.1 ∷ entries (drop n bs)
unfolding entries entries_in first_entry
entries_next [] {p} {n} e = let h = frame.within [] e in let t = frame-takes [] e in absurd (omega arith)
entries_next (b ∷ bs) {p} {n} e =
    rw e
    (ap (λ (l : List Entry). framed p.0 p.1 ∷ l)
    (most-same (length bs) (length (drop n (b ∷ bs))) (drop n (b ∷ bs)) (fewer n (length bs) b bs (frame-takes (b ∷ bs) e) (omega arith)) (omega arith)))

-- one that is broken, and it is the last
pub entries-broken : (b : ℕ) (bs : List ℕ) {k : ℕ} → frame.dec (b ∷ bs) ≡ no k → entries (b ∷ bs) ≡ broken (head_mark (b ∷ bs)) ∷ []
unfolding entries entries_in first_entry
entries-broken b bs e = rw e

-- after a whole record come the records of the bytes after it
broken-not : {mark shown : Mark} {body : List ℕ} → ◌≡◌ {A = Entry} (broken shown) (framed mark body) → ⊥
broken-not e = let z : ◌≡◌ {A = ℕ} 0 1 = cc in omega arith

abbrev pub Later : ℕ → List ℕ → Type 0
Later i bs = (n : ℕ) × (drop (suc i) (entries bs) ≡ entries (drop n bs))

abbrev pub Reached : ℕ → List ℕ → Type 0
Reached i bs = (mark : Mark) × (body : List ℕ) × (get_or (entries bs) i (broken Unknown) ≡ framed mark body)

-- at the first record, and at a later one
module _ (b : ℕ) (bs : List ℕ) where
  later_first : Reached zero (b ∷ bs) → (r : Res (Mark × List ℕ)) → frame.dec (b ∷ bs) ≡ r → Later zero (b ∷ bs)
  later_first h (ok p n) e = (n, ap (drop 1) (entries_next (b ∷ bs) e))
  later_first h (no k) e = absurd (broken-not (sym (ap (λ (es : List Entry). get_or es 0 (broken Unknown)) (entries-broken b bs e)) ∙ h.2))

  later-next : (i : ℕ) → ((cs : List ℕ) → Reached i cs → Later i cs) → Reached (suc i) (b ∷ bs) → (r : Res (Mark × List ℕ)) → frame.dec (b ∷ bs) ≡ r → Later (suc i) (b ∷ bs)
  later-next i then h (ok p n) e =
      let (k, f) = then (drop n (b ∷ bs)) (h.0, h.1, sym (ap (λ (es : List Entry). get_or es (suc i) (broken Unknown)) (entries_next (b ∷ bs) e)) ∙ h.2) in
      (n + k, ap (drop (suc (suc i))) (entries_next (b ∷ bs) e) ∙ f ∙ ap entries (drop-drop k n (b ∷ bs)))
  later-next i then h (no k) e = absurd (broken-not (sym (ap (λ (es : List Entry). get_or es (suc i) (broken Unknown)) (entries-broken b bs e)) ∙ h.2))

later-none : (i : ℕ) → Reached i [] → ⊥
later-none i h = broken-not (sym (ap (λ (es : List Entry). get_or es i (broken Unknown)) entries_none) ∙ h.2)

reached-first : (bs : List ℕ) → Reached zero bs → Later zero bs
reached-first [] h = absurd (later-none zero h)
reached-first (b ∷ bs) h = later_first b bs h (frame.dec (b ∷ bs)) refl

reached-next : (i : ℕ) → ((cs : List ℕ) → Reached i cs → Later i cs) → (bs : List ℕ) → Reached (suc i) bs → Later (suc i) bs
reached-next i then [] h = absurd (later-none (suc i) h)
reached-next i then (b ∷ bs) h = later-next b bs i then h (frame.dec (b ∷ bs)) refl

pub entries-later : (i : ℕ) (bs : List ℕ) → Reached i bs → Later i bs
entries-later zero = reached-first
entries-later (suc i) = reached-next i (entries-later i)

-- ---- the same by what a program with little memory holds at a time: up to four bytes of head, and
-- of the body up to as many as its size says

abbrev pub is_complete : List ℕ → List ℕ → Bool
is_complete head body = leb 4 (length head) && (is_known_mark (head_mark head) && leb (head_size head) (length body))

-- the record that they are, where some byte of the head was there
abbrev pub chunk_entry : List ℕ → List ℕ → Entry
chunk_entry head body = cond (is_complete head body) (framed (head_mark head) body) (broken (head_mark head))

four-mark : (bs : List ℕ) → take 2 (take 4 bs) ≡ take 2 bs
four-mark [] = refl
four-mark (a ∷ []) = refl
four-mark (a ∷ b ∷ bs) = refl

four-size : (bs : List ℕ) → take 2 (drop 2 (take 4 bs)) ≡ take 2 (drop 2 bs)
four-size [] = refl
four-size (a ∷ []) = refl
four-size (a ∷ b ∷ []) = refl
four-size (a ∷ b ∷ c ∷ []) = refl
four-size (a ∷ b ∷ c ∷ d ∷ bs) = refl

-- the head and the body of the first record
abbrev pub head_of : List ℕ → List ℕ
head_of bs = take 4 bs

abbrev pub body_of : List ℕ → List ℕ
body_of bs = take (head_size (head_of bs)) (drop 4 bs)

head-mark : (bs : List ℕ) → head_mark (head_of bs) ≡ head_mark bs
head-mark bs = ap mark_of (four-mark bs)

head-size : (bs : List ℕ) → head_size (head_of bs) ≡ head_size bs
head-size bs = ap (val 0) (four-size bs)

-- a complete one
chunk-frame : (bs : List ℕ) → is_complete (head_of bs) (body_of bs) ≡ true → frame.dec bs ≡ ok (head_mark (head_of bs), body_of bs) (4 + head_size (head_of bs))
chunk-frame bs c =
    let m = head-mark bs in
    let z = head-size bs in
    let l : 4 ≤ length (head_of bs) = leb-true 4 (length (head_of bs)) (and_left _ _ c) in
    let r = and_right (leb 4 (length (head_of bs))) _ c in
    let k : is_known_mark (head_mark bs) ≡ true = ap is_known_mark (sym m) ∙ and_left _ _ r in
    let b : head_size (head_of bs) ≤ length (body_of bs) = leb-true (head_size (head_of bs)) (length (body_of bs)) (and_right (is_known_mark (head_mark (head_of bs))) _ r) in
    let p = length-take 4 bs in
    let q = length-take (head_size (head_of bs)) (drop 4 bs) in
    let w = length-drop 4 bs in
    frame-got bs k (omega arith)
    ∙ ap₂ (λ (x : Mark) (n : ℕ). ok (x, take n (drop 4 bs)) (4 + n)) (sym m) (sym z)

pub entries-chunk : (bs : List ℕ) → is_complete (head_of bs) (body_of bs) ≡ true
    → entries bs ≡ chunk_entry (head_of bs) (body_of bs) ∷ entries (drop (4 + head_size (head_of bs)) bs)
entries-chunk bs c =
    entries_next bs (chunk-frame bs c)
    ∙ ap (λ (b : Bool). cond b (framed (head_mark (head_of bs)) (body_of bs)) (broken (head_mark (head_of bs))) ∷ entries (drop (4 + head_size (head_of bs)) bs)) (sym c)

-- one that is not: which of its three tests failed
chunk-broken : (bs : List ℕ) (a b c : Bool) → leb 4 (length (head_of bs)) ≡ a → is_known_mark (head_mark (head_of bs)) ≡ b → leb (head_size (head_of bs)) (length (body_of bs)) ≡ c
    → (a && (b && c)) ≡ false → frame.dec bs ≡ no 6
chunk-broken bs a false c x y z e = unknown (leb 2 (length bs)) refl
  where
    unknown : (t : Bool) → leb 2 (length bs) ≡ t → frame.dec bs ≡ no 6
    unknown true h = frame-unknown bs (leb-true 2 (length bs) h) (ap is_known_mark (sym (head-mark bs)) ∙ y)
    unknown false h = frame-short bs (leb-false 2 (length bs) h)
chunk-broken bs false true c x y z e = sizeless (leb 2 (length bs)) refl
  where
    few : length bs < 4
    few = let p = length-take 4 bs in let h = leb-false 4 (length (head_of bs)) x in omega arith

    sizeless : (t : Bool) → leb 2 (length bs) ≡ t → frame.dec bs ≡ no 6
    sizeless true h = frame-sizeless bs (leb-true 2 (length bs) h) (ap is_known_mark (sym (head-mark bs)) ∙ y) few
    sizeless false h = frame-short bs (leb-false 2 (length bs) h)
chunk-broken bs true true true x y z e = absurd (false≢true (sym e))
chunk-broken bs true true false x y z e =
    let l = leb-true 4 (length (head_of bs)) x in
    let b = leb-false (head_size (head_of bs)) (length (body_of bs)) z in
    let p = length-take 4 bs in
    let q = length-take (head_size (head_of bs)) (drop 4 bs) in
    let w = length-drop 4 bs in
    let s = head-size bs in
    frame-cut bs (omega arith) (ap is_known_mark (sym (head-mark bs)) ∙ y) (omega arith)

pub entries-cut : (b : ℕ) (bs : List ℕ) → is_complete (head_of (b ∷ bs)) (body_of (b ∷ bs)) ≡ false
    → entries (b ∷ bs) ≡ chunk_entry (head_of (b ∷ bs)) (body_of (b ∷ bs)) ∷ []
entries-cut b bs c =
    entries-broken b bs (chunk-broken (b ∷ bs) _ _ _ refl refl refl c)
    ∙ ap (λ (m : Mark). broken m ∷ []) (sym (head-mark (b ∷ bs)))
    ∙ ap (λ (t : Bool). cond t (framed (head_mark (head_of (b ∷ bs))) (body_of (b ∷ bs))) (broken (head_mark (head_of (b ∷ bs)))) ∷ []) (sym c)

-- ---- records that are written are read again

-- the bytes of a log
unfoldable pub log_bytes : List (Mark × List ℕ) → List ℕ
log_bytes [] = []
log_bytes (p ∷ l) = frame.enc p ++ log_bytes l

abbrev pub entry_of : Mark × List ℕ → Entry
entry_of p = framed p.0 p.1

pub log-read : (l : List (Mark × List ℕ)) → AllOf frame.Good l → (rest : List ℕ) → entries (log_bytes l ++ rest) ≡ map entry_of l ++ entries rest
unfolding log_bytes
log-read [] g rest = refl
log-read (p ∷ l) g rest =
    ap entries (append_assoc (frame.enc p) (log_bytes l) rest)
    ∙ entries_next (frame.enc p ++ (log_bytes l ++ rest)) (frame.back p (log_bytes l ++ rest) g.0)
    ∙ ap (λ (q : List ℕ). entry_of p ∷ entries q) (drop-append_seam (frame.enc p) (log_bytes l ++ rest))
    ∙ ap (λ (q : List Entry). entry_of p ∷ q) (log-read l g.1 rest)

-- which a log may hold: a known mark, and a body of at most 65,535 bytes
two_bytes : (a b : ℕ) → a < 256 → b < 256 → Bytes (a ∷ (b ∷ []))
unfolding Bytes
two_bytes a b h k zero = h
two_bytes a b h k (suc zero) = k
two_bytes a b h k (suc (suc i)) = lit< tt

mark-good : (m : Mark) → is_known_mark m ≡ true → known_mark.Good m
unfolding known_mark via check raw mark_of pick
mark-good Tb h = (((refl, two_bytes 84 66 (lit< tt) (lit< tt)), refl), refl)
mark-good Mk h = (((refl, two_bytes 77 75 (lit< tt) (lit< tt)), refl), refl)
mark-good Ad h = (((refl, two_bytes 65 68 (lit< tt) (lit< tt)), refl), refl)
mark-good Bg h = (((refl, two_bytes 66 71 (lit< tt) (lit< tt)), refl), refl)
mark-good Ob h = (((refl, two_bytes 79 66 (lit< tt) (lit< tt)), refl), refl)
mark-good Unknown h = absurd (let z : ◌≡◌ {A = ℕ} 0 1 = cc in omega arith)

pub frame-good : (m : Mark) (body : List ℕ) → is_known_mark m ≡ true → Bytes body → length body < 2 ^ 16 → frame.Good (m, body)
unfolding frame dep sized_bytes via raw uint held
frame-good m body h z k = (mark-good m h, ((k, (refl, z)), refl))

-- a body that is written asks what it says
module _ {A : Type 0} (C : Codec A) where
  pub body-there : (a : A) → C.Good a → whole C (C.enc a) ≡ ok a (length (C.enc a))
  body-there a g = whole-there C a g

  -- and one that is read is written with the same bytes
  pub body_back : (body : List ℕ) {a : A} {n : ℕ} → Bytes body → whole C body ≡ ok a n → C.enc a ≡ body
  body_back body z e = back-and-there C body z (whole_is C body e)

pub marker-there : (b : MarkerBody) → marker_body.Good b → asking Mk (marker_body.enc b) ≡ asks (marker_asked b)
unfolding asking formed
marker-there b g = rw (whole-there marker_body b g)

pub advance-there : (b : AdvanceBody) → advance_body.Good b → asking Ad (advance_body.enc b) ≡ asks (advance_asked b)
unfolding asking formed
advance-there b g = rw (whole-there advance_body b g)

pub begin-there : (b : BeginBody) → begin_body.Good b → asking Bg (begin_body.enc b) ≡ attested (decode_lost_voter_attestation b.attestation) (begin_asked b)
unfolding asking formed
begin-there b g = rw (whole-there begin_body b g)

pub observation-there : (b : ObservationBody) → observation_body.Good b → asking Ob (observation_body.enc b) ≡ asks (observation_asked b)
unfolding asking formed
observation-there b g = rw (whole-there observation_body b g)

-- ---- what is printed of a record does not hang on what follows

pub run-append : (s : Standing) (es fs : List Entry) → run s (es ++ fs) ≡ run s es ++ run (ended s es) fs
unfolding run ended
run-append s [] fs = refl
run-append s (e ∷ es) fs =
    ap (λ (l : List Turn). turn s e ∷ l) (run-append (step s e).1 es fs)

-- what stands after one list of records and another
pub ended-append : (s : Standing) (es fs : List Entry) → ended s (es ++ fs) ≡ ended (ended s es) fs
unfolding ended
ended-append s [] fs = refl
ended-append s (e ∷ es) fs = ended-append (step s e).1 es fs

pub lines-append : (n : ℕ) (ts us : List Turn) → lines n (ts ++ us) ≡ lines n ts ++ lines (n + length ts) us
unfolding lines
lines-append n [] us = ap (λ (k : ℕ). lines k us) (sym (add-zero n))
lines-append n (t ∷ ts) us =
    ap (λ (l : List ℕ). line n t ++ l) (lines-append (n + 1) ts us)
    ∙ sym (append_assoc (line n t) (lines (n + 1) ts) (lines (n + 1 + length ts) us))
    ∙ ap (λ (k : ℕ). line n t ++ lines (n + 1) ts ++ lines k us) (omega arith)

-- a line for each record
pub run_long : (s : Standing) (es : List Entry) → length (run s es) ≡ length es
unfolding run
run_long s [] = refl
run_long s (e ∷ es) = ap suc (run_long (step s e).1 es)

-- after the i-th record stands what stands after the first i + 1
pub run_at : (s : Standing) (es : List Entry) (i : ℕ) (d : Turn) → i < length es → (get_or (run s es) i d).afterwards ≡ ended s (take (suc i) es)
unfolding run ended
run_at s [] i d h = absurd (omega arith)
run_at s (e ∷ es) zero d h = refl
run_at s (e ∷ es) (suc i) d h = run_at (step s e).1 es i d (omega arith)

-- the turns from the i-th on are a run from what stood there
pub run_drop : (s : Standing) (es : List Entry) (i : ℕ) → drop i (run s es) ≡ run (ended s (take i es)) (drop i es)
unfolding run ended
run_drop s es zero = refl
run_drop s [] (suc i) = refl
run_drop s (e ∷ es) (suc i) = run_drop (step s e).1 es i

-- of records that are whole, and any bytes after them
pub replay-append : (s : Standing) (l : List (Mark × List ℕ)) → AllOf frame.Good l → (rest : List ℕ)
    → replay_from s (log_bytes l ++ rest)
    ≡ heading ++ (lines 1 (run s (map entry_of l)) ++ lines (1 + length (map entry_of l)) (run (ended s (map entry_of l)) (entries rest)))
unfolding replay_from
replay-append s l g rest =
    let es = map entry_of l in
    ap (λ (f : List Entry). heading ++ lines 1 (run s f)) (log-read l g rest)
    ∙ ap (λ (t : List Turn). heading ++ lines 1 t) (run-append s es (entries rest))
    ∙ ap (λ (x : List ℕ). heading ++ x) (lines-append 1 (run s es) (run (ended s es) (entries rest)))
    ∙ ap (λ (k : ℕ). heading ++ (lines 1 (run s es) ++ lines (1 + k) (run (ended s es) (entries rest)))) (run_long s es)

-- ---- what is left to print, for a loop over the bytes: nothing; a line, and what is left after
-- the record; a last line

abbrev pub left : ℕ → Standing → List ℕ → List ℕ
left number s bs = lines number (run s (entries bs))

pub left-none : (number : ℕ) (s : Standing) → left number s [] ≡ []
unfolding lines run
left-none number s = ap (λ (es : List Entry). lines number (run s es)) entries_none

pub left-next : (number : ℕ) (s : Standing) (bs : List ℕ) {p : Mark × List ℕ} {n : ℕ} → frame.dec bs ≡ ok p n
    → left number s bs ≡ line number (turn s (entry_of p)) ++ left (number + 1) (step s (entry_of p)).1 (drop n bs)
unfolding lines run
left-next number s bs e = ap (λ (es : List Entry). lines number (run s es)) (entries_next bs e)

pub left-broken : (number : ℕ) (s : Standing) (b : ℕ) (bs : List ℕ) {k : ℕ} → frame.dec (b ∷ bs) ≡ no k
    → left number s (b ∷ bs) ≡ line number (turn s (broken (head_mark (b ∷ bs))))
unfolding lines run
left-broken number s b bs e =
    ap (λ (es : List Entry). lines number (run s es)) (entries-broken b bs e) ∙ append-nil (line number (turn s (broken (head_mark (b ∷ bs)))))

-- ---- decimal numbers: the fewest digits, as `io::decimal` gives them

glyph-digit : (d : ℕ) → d < 10 → hex_digit_ascii d ≡ 48 + d
glyph-digit d h = ap (λ (b : Bool). cond b (48 + d) (87 + d)) (lt-ltb d 10 h)

decimal-in : (most n k : ℕ) → n < most → IsDigitCount 10 1 n k → last_digits 10 k n ≡ decimal_in most n
unfolding decimal_in
decimal-in zero n k h f = absurd (omega arith)
decimal-in (suc most) n zero h f = let e = f.0 in absurd (omega arith)
decimal-in (suc most) n (suc zero) h f =
    let s : n < 10 = f.1 in
    rw (lt-ltb n 10 s) (ap (λ (d : ℕ). d ∷ []) (glyph-digit (n % 10) (mod-lt n (lit< tt)) ∙ ap (λ (d : ℕ). 48 + d) (mod-eq_of_lt s)))
decimal-in (suc most) n (suc (suc k)) h f =
    let e : suc (suc k) - 1 ≡ suc k = omega arith in
    let a : 10 ^ suc k ≤ n = subst (λ (j : ℕ). 10 ^ j ≤ n) e (f.2 (omega arith)) in
    let b : 10 ^ 1 ≤ 10 ^ suc k = pow-le-pow_right (lit< tt) {i = 1} {j = suc k} (omega arith) in
    let c : 10 ≤ n = omega arith in
    let q : n / 10 < n = div-lt_self (omega arith) (lit< tt) in
    let up : n / 10 < 10 ^ suc k = (div-lt_iff_lt-mul (lit< tt)).1 (rw (← pow-suc) f.1) in
    let low : 10 ^ k ≤ n / 10 = (le-div_iff_mul-le (lit< tt)).1 (rw (← pow-suc) a) in
    rw (le-ltb n 10 c)
    (ap₂ (λ (l : List ℕ) (d : ℕ). l ++ (d ∷ [])) (decimal-in most (n / 10) (suc k) (omega arith) (omega arith, up, λ _. subst (λ (j : ℕ). 10 ^ j ≤ n / 10) (let g : k ≡ suc k - 1 = omega arith in g) low)) (glyph-digit (n % 10) (mod-lt n (lit< tt))))

pub decimal-is : (n k : ℕ) → IsDigitCount 10 1 n k → last_digits 10 k n ≡ decimal n
unfolding decimal
decimal-is n k f = decimal-in (n + 1) n k (omega arith) f

-- ---- how much is printed

decimal-few : (most n k : ℕ) → n < 10 ^ suc k → length (decimal_in most n) ≤ suc k
unfolding decimal_in
decimal-few zero n k h = omega arith
decimal-few (suc most) n k h = by (ltb n 10) refl k h (decimal-few most (n / 10))
  where
    by : (t : Bool) → ltb n 10 ≡ t → (k : ℕ) → n < 10 ^ suc k → ((j : ℕ) → n / 10 < 10 ^ suc j → length (decimal_in most (n / 10)) ≤ suc j)
        → length (cond t ((48 + n) ∷ []) (decimal_in most (n / 10) ++ ((48 + n % 10) ∷ []))) ≤ suc k
    by true e k h then = omega arith
    by false e zero h then = let f = ltb-false n 10 e in let g : n < 10 = h in absurd (omega arith)
    by false e (suc k) h then =
        let f = then k ((div-lt_iff_lt-mul (lit< tt)).1 (rw (← pow-suc) h)) in
        let g = length-append (decimal_in most (n / 10)) ((48 + n % 10) ∷ []) in
        omega arith

-- a number of 64 bits has at most 20 digits
pub decimal-long : (n : ℕ) → n < 2 ^ 64 → length (decimal n) ≤ 20
unfolding decimal
decimal-long n h = decimal-few (n + 1) n 19 (omega arith)

pub mark-long : (mark : Mark) → length (mark_text mark) ≡ 2
mark-long Tb = refl
mark-long Mk = refl
mark-long Ad = refl
mark-long Bg = refl
mark-long Ob = refl
mark-long Unknown = refl

-- a line has at most 66 bytes
pub line-long : (number : ℕ) (mark : Mark) (answer revision : ℕ) → number < 2 ^ 64 → answer < 2 ^ 64 → revision < 2 ^ 64 → length (line_of number mark answer revision) ≤ 66
unfolding line_of
line-long number mark answer revision a b c =
    let x = decimal-long number a in
    let y = decimal-long answer b in
    let z = decimal-long revision c in
    let m = mark-long mark in
    simp length-append (omega arith)

-- and a record has four bytes at least, but for a last one that is broken
few-by : (b : ℕ) (bs : List ℕ) (shown : Mark) (rest : ℕ → List Entry) → ((n : ℕ) → 4 * length (rest n) ≤ length (drop n (b ∷ bs)) + 3)
    → (r : Res (Mark × List ℕ)) → frame.dec (b ∷ bs) ≡ r → 4 * length (first_entry shown r rest) ≤ length (b ∷ bs) + 3
unfolding first_entry
few-by b bs shown rest h (ok p n) e =
    let t = frame-takes (b ∷ bs) e in
    let w = frame.within (b ∷ bs) e in
    let d = length-drop n (b ∷ bs) in
    let k = h n in
    omega arith
few-by b bs shown rest h (no k) e = omega arith

few-in : (most : ℕ) (bs : List ℕ) → 4 * length (entries_in most bs) ≤ length bs + 3
unfolding entries_in
few-in zero bs = omega arith
few-in (suc most) [] = omega arith
few-in (suc most) (b ∷ bs) = few-by b bs _ (λ n. entries_in most (drop n (b ∷ bs))) (λ n. few-in most (drop n (b ∷ bs))) (frame.dec (b ∷ bs)) refl

pub entries-few : (bs : List ℕ) → 4 * length (entries bs) ≤ length bs + 3
unfolding entries
entries-few bs = few-in (length bs) bs
