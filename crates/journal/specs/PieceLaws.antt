-- Pieces of an input one after another: the records that are ready in the first bytes are the first
-- records of all the bytes, whatever follows; so a program that plays piece after piece prints what
-- `replay` says of the whole input.
-- Assumes nothing.
use Rattle.std.specs.Prelude.{ℕ, zero, suc, ◌+◌, ◌≤◌, ◌<◌, ◌≡◌, refl, Bool, true, false, cond, not, ◌&&◌, ◌||◌, List, [], ◌∷◌, ◌++◌, length, take, drop, leb, ltb}
use Rattle.std.proofs.Common.{arith, sym, ap, ap₂, ◌∙◌, length-append, length-drop, drop-drop, leb-true, leb-false, le-leb, lt-ltb}
use Rattle.std.proofs.lemmas.Bool.{false≢true, lt-leb}
use Rattle.std.proofs.lemmas.List.{drop-append-le, take-append-le}
use Rattle.format.specs.Num.{val}
use Rattle.format.specs.Res.{Res}
use Rattle.format.specs.Res.Res.{ok, no}
use Rattle.journal.specs.declared.replay.Mark.{Mark}
use Rattle.journal.specs.Records.{frame, is_known_mark, mark_of}
use Rattle.journal.specs.Replay.{Entry, Standing, ended, entries, entries_in, first_entry, heading, lines, replay, replay_from, run}
use Rattle.journal.specs.Replay.Entry.{framed, broken}
use Rattle.journal.specs.Replay.Standing.{absent}
use Rattle.journal.specs.ReplayLaws.{head_mark, head_size, entries-broken, entries_next, frame-cut, frame-got, frame-short, frame-sizeless, frame-unknown, left, lines-append, run-append, run_long}
use Rattle.journal.specs.Play.{ends_in, first_ready, first_taken, is_broken, ready, taken}

-- ---- the front of more bytes

mark-front : (a b : List ℕ) → 2 ≤ length a → head_mark (a ++ b) ≡ head_mark a
mark-front a b h = ap mark_of (take-append-le 2 a b h)

size-front : (a b : List ℕ) → 4 ≤ length a → head_size (a ++ b) ≡ head_size a
size-front a b h =
    let d = length-drop 2 a in
    ap (val 0) (ap (take 2) (drop-append-le 2 a b (omega arith)) ∙ take-append-le 2 (drop 2 a) b (omega arith))

-- how a record stands at the front: whole; with an unknown mark; or cut short
pub data Front (bs : List ℕ) : Type 0 where
  whole : is_known_mark (head_mark bs) ≡ true → 4 + head_size bs ≤ length bs → Front bs
  unknown : 2 ≤ length bs → is_known_mark (head_mark bs) ≡ false → Front bs
  short : length bs < 2 → Front bs
  cut : 2 ≤ length bs → is_known_mark (head_mark bs) ≡ true → length bs < 4 + head_size bs → Front bs

front : (bs : List ℕ) → Front bs
front bs = by (leb 2 (length bs)) refl (is_known_mark (head_mark bs)) refl (leb (4 + head_size bs) (length bs)) refl
  where
    by : (a : Bool) → leb 2 (length bs) ≡ a → (b : Bool) → is_known_mark (head_mark bs) ≡ b → (c : Bool) → leb (4 + head_size bs) (length bs) ≡ c → Front bs
    by false p b q c r = short (leb-false 2 (length bs) p)
    by true p false q c r = unknown (leb-true 2 (length bs) p) q
    by true p true q true r = whole q (leb-true (4 + head_size bs) (length bs) r)
    by true p true q false r = cut (leb-true 2 (length bs) p) q (leb-false (4 + head_size bs) (length bs) r)

-- one that is cut short is not read
cut-no : (bs : List ℕ) → 2 ≤ length bs → is_known_mark (head_mark bs) ≡ true → length bs < 4 + head_size bs → frame.dec bs ≡ no 6
cut-no bs h k l = by (leb 4 (length bs)) refl
  where
    by : (a : Bool) → leb 4 (length bs) ≡ a → frame.dec bs ≡ no 6
    by true p = frame-cut bs (leb-true 4 (length bs) p) k l
    by false p = frame-sizeless bs h k (leb-false 4 (length bs) p)

-- ---- the records of all the bytes begin with those that are ready in the first

abbrev Begins : ℕ → List ℕ → List ℕ → Type 0
Begins most bs more =
    (ends_in (ready most false bs) ≡ false → entries (bs ++ more) ≡ ready most false bs ++ entries (drop (taken most false bs) bs ++ more))
    × (ends_in (ready most false bs) ≡ true → entries (bs ++ more) ≡ ready most false bs)

begins-by : (most : ℕ) (bs more : List ℕ) → ((n : ℕ) → Begins most (drop n bs) more) → Front bs → Begins (suc most) bs more
unfolding ready taken first_ready first_taken ends_in is_broken
begins-by most bs more then (whole k h) =
    let s = size-front bs more (omega arith) in
    let m = mark-front bs more (omega arith) in
    let a = length-append bs more in
    let e = frame-got bs k h in
    let d = length-drop 4 bs in
    let f : frame.dec (bs ++ more) ≡ ok (head_mark bs, take (head_size bs) (drop 4 bs)) (4 + head_size bs) =
    frame-got (bs ++ more) (ap is_known_mark m ∙ k) (omega arith)
    ∙ ap₂ (λ (x : Mark) (n : ℕ). ok (x, take n (drop 4 (bs ++ more))) (4 + n)) m s
    ∙ ap (λ (l : List ℕ). ok (head_mark bs, l) (4 + head_size bs)) (ap (take (head_size bs)) (drop-append-le 4 bs more (omega arith)) ∙ take-append-le (head_size bs) (drop 4 bs) more (omega arith)) in
    let g = entries_next (bs ++ more) f ∙ ap (λ (l : List ℕ). framed (head_mark bs) (take (head_size bs) (drop 4 bs)) ∷ entries l) (drop-append-le (4 + head_size bs) bs more h) in
    let (x, y) = then (4 + head_size bs) in
    rw e (
      λ q. g ∙ ap (λ (l : List Entry). framed (head_mark bs) (take (head_size bs) (drop 4 bs)) ∷ l) (x q ∙ ap (λ (l : List ℕ). ready most false (drop (4 + head_size bs) bs) ++ entries (l ++ more)) (drop-drop (taken most false (drop (4 + head_size bs) bs)) (4 + head_size bs) bs)),
      λ q. g ∙ ap (λ (l : List Entry). framed (head_mark bs) (take (head_size bs) (drop 4 bs)) ∷ l) (y q),
    )
begins-by most [] more then (unknown h k) = absurd (omega arith)
begins-by most (b ∷ bs) more then (unknown h k) =
    let m = mark-front (b ∷ bs) more h in
    let a = length-append (b ∷ bs) more in
    let f = frame-unknown (b ∷ bs ++ more) (omega arith) (ap is_known_mark m ∙ k) in
    rw (frame-unknown (b ∷ bs) h k) (rw (le-leb 2 (length (b ∷ bs)) h) (rw k (
      λ q. absurd (false≢true (sym q)),
      λ q. entries-broken b (bs ++ more) f ∙ ap (λ (x : Mark). broken x ∷ []) m,
    )))
begins-by most bs more then (short h) =
    rw (frame-short bs h) (rw (lt-leb 2 (length bs) h) (λ q. refl, λ q. absurd (false≢true q)))
begins-by most bs more then (cut h k l) =
    rw (cut-no bs h k l) (rw (le-leb 2 (length bs) h) (rw k (λ q. refl, λ q. absurd (false≢true q))))

pub begins : (most : ℕ) (bs more : List ℕ) → Begins most bs more
unfolding ready taken ends_in
begins zero bs more = (λ q. refl, λ q. absurd (false≢true q))
begins (suc most) bs more = begins-by most bs more (λ n. begins most (drop n bs) more) (front bs)

-- ---- and so do the lines

-- Of the lines of all the bytes, from a count of records and a standing on: those of the records
-- that are ready come first, and then those of the bytes that are left and whatever follows; a
-- record that ends the reading ends them.
module _ (count : ℕ) (s : Standing) (most : ℕ) (bs more : List ℕ) where
  abbrev es : List Entry
  es = ready most false bs

  pub pieces : ends_in es ≡ false
      → left (count + 1) s (bs ++ more) ≡ lines (count + 1) (run s es) ++ left (count + length es + 1) (ended s es) (drop (taken most false bs) bs ++ more)
  pieces q =
      ap (λ (l : List Entry). lines (count + 1) (run s l)) ((begins most bs more).0 q)
      ∙ ap (lines (count + 1)) (run-append s es (entries (drop (taken most false bs) bs ++ more)))
      ∙ lines-append (count + 1) (run s es) (run (ended s es) (entries (drop (taken most false bs) bs ++ more)))
      ∙ ap (λ (n : ℕ). lines (count + 1) (run s es) ++ lines n (run (ended s es) (entries (drop (taken most false bs) bs ++ more)))) (let e = run_long s es in omega arith)

  pub last-piece : ends_in es ≡ true → left (count + 1) s (bs ++ more) ≡ lines (count + 1) (run s es)
  last-piece q = ap (λ (l : List Entry). lines (count + 1) (run s l)) ((begins most bs more).1 q)

-- where no bytes follow, the records that are ready are the records of the bytes, as many as were
-- asked for
last-broken : (b : ℕ) (bs : List ℕ) → is_broken true (b ∷ bs) ≡ true
unfolding is_broken
last-broken b bs = by (leb 2 (length (b ∷ bs))) (not (is_known_mark (head_mark (b ∷ bs))))
  where
    by : (a c : Bool) → cond a (c || true) (true && ltb 0 (length (b ∷ bs))) ≡ true
    by true true = refl
    by true false = refl
    by false c = lt-ltb 0 (length (b ∷ bs)) (omega arith)

same_first : (shown : Mark) (r : Res (Mark × List ℕ)) (f g : ℕ → List Entry) → ((n : ℕ) → f n ≡ g n) → first_ready shown true r f ≡ first_entry shown r g
unfolding first_ready first_entry
same_first shown (ok p n) f g h = ap (λ (l : List Entry). framed p.0 p.1 ∷ l) (h n)
same_first shown (no k) f g h = refl

pub ready-last : (most : ℕ) (bs : List ℕ) → ready most true bs ≡ entries_in most bs
unfolding ready entries_in first_ready is_broken
ready-last zero bs = refl
ready-last (suc most) [] = rw (frame-short [] (omega arith))
ready-last (suc most) (b ∷ bs) =
    ap (λ (t : Bool). first_ready (head_mark (b ∷ bs)) t (frame.dec (b ∷ bs)) (λ n. ready most true (drop n (b ∷ bs)))) (last-broken b bs)
    ∙ same_first (head_mark (b ∷ bs)) (frame.dec (b ∷ bs)) (λ n. ready most true (drop n (b ∷ bs))) (λ n. entries_in most (drop n (b ∷ bs))) (λ n. ready-last most (drop n (b ∷ bs)))

-- so a log that is played in one piece, with room for all its records, is `replay` of it
pub one_piece : (input : List ℕ) → heading ++ lines 1 (run absent (ready (length input) true input)) ≡ replay input
unfolding replay replay_from entries
one_piece input = ap (λ (l : List Entry). heading ++ lines 1 (run absent l)) (ready-last (length input) input)
