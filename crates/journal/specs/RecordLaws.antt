-- The record at a place: the ways that reading it goes. And what a number that was read, or
-- refused, says of the bytes.
-- Assumes nothing.
use Rattle.std.specs.Prelude.{ℕ, zero, suc, ◌+◌, ◌-◌, ◌≤◌, ◌<◌, ◌≡◌, refl, Bool, not, ◌&&◌, List, [], ◌∷◌, length, get_or, take, drop, eqb, leb, ltb}
use native.Mathlib.Omega.{arith}
use borrow.Author.Tests.{ne_eqb}
use Rattle.std.proofs.Common.{sym, ◌∙◌, lt-ltb, le-leb, leb-true, leb-false, length-take-le}
use Rattle.std.proofs.Math.Path.{ap, ap₂}
use Rattle.std.proofs.Math.Bool.{true, false, and-false}
use Rattle.std.proofs.Math.ListN.{length-drop}
use Rattle.std.proofs.lemmas.Bool.{lt-leb}
use Rattle.format.specs.Res.{no_ok}
use Rattle.format.specs.Res.Res.{ok, no}
use Rattle.format.specs.Combinators.{held, via, mapped, rest}
use Rattle.format.specs.Num.{uint, raw, raw-is, val}
use Rattle.format.specs.Reads.{Reading, left_of, reads, reads_raw, reads_raw_short}
use Rattle.journal.specs.declared.record.Record.{Record}
use Rattle.journal.specs.declared.replay.Mark.{Mark}
use Rattle.journal.specs.declared.replay.Mark.TheVariants.{Unknown}
use Rattle.journal.specs.Play.{cut_short, is_broken, record_at, record_by}
use Rattle.journal.specs.Records.{sized_bytes, frame, is_known_mark, mark_of}
use Rattle.journal.specs.ReplayLaws.{head_mark, head_size, frame-cut, frame-got, frame-short, frame-sizeless, frame-unknown, number_ok, sized-cut, sized-ok, sized-short}

-- ---- a number of so many bytes

pub number_is : (k : ℕ) (bs : List ℕ) {x n : ℕ} → (uint k).dec bs ≡ ok x n → (k ≤ length bs) × (val 0 (take k bs) ≡ x) × (k ≡ n)
unfolding uint held via raw
number_is k bs e =
    let (l, e₁, e₂) = mapped _ (val 0) bs e in
    let (h, t, q) = raw-is k bs e₁ in
    (h, ap (val 0) t ∙ e₂, q)

number_by : (k : ℕ) (bs : List ℕ) {r : ℕ} (t : Bool) → leb k (length bs) ≡ t → (uint k).dec bs ≡ no r → length bs < k
number_by k bs true q e = absurd (no_ok (sym e ∙ number_ok k bs (leb-true k (length bs) q)))
number_by k bs false q e = leb-false k (length bs) q

pub number-not : (k : ℕ) (bs : List ℕ) {r : ℕ} → (uint k).dec bs ≡ no r → length bs < k
number-not k bs e = number_by k bs (leb k (length bs)) refl e

-- ---- so many bytes that were read, or refused

refused_not : {A : Type 0} {a : A} {l : List ℕ} {k : ℕ} → ◌≡◌ {A = Reading A} (Reading.refused k) (Reading.read a l) → ⊥
refused_not e = let z : ◌≡◌ {A = ℕ} 0 1 = cc in omega arith

value_of : {A : Type 0} {a b : A} {l m : List ℕ} → ◌≡◌ {A = Reading A} (Reading.read a l) (Reading.read b m) → a ≡ b
value_of e = cc

rest_of : {A : Type 0} {a b : A} {l m : List ℕ} → ◌≡◌ {A = Reading A} (Reading.read a l) (Reading.read b m) → l ≡ m
rest_of e = cc

module _ (n : ℕ) (bs : List ℕ) where
  raw_short : {k : ℕ} → Reading.refused k ≡ reads (raw n) bs → length bs < n
  raw_short e = by (leb n (length bs)) refl
    where
      by : (t : Bool) → leb n (length bs) ≡ t → length bs < n
      by true p = absurd (refused_not (e ∙ reads_raw n bs (leb-true n (length bs) p)))
      by false p = leb-false n (length bs) p

  raw_read : {l r : List ℕ} → Reading.read l r ≡ reads (raw n) bs → (n ≤ length bs) × ((l ≡ take n bs) × (r ≡ drop n bs))
  raw_read {l} {r} e = by (leb n (length bs)) refl
    where
      by : (t : Bool) → leb n (length bs) ≡ t → (n ≤ length bs) × ((l ≡ take n bs) × (r ≡ drop n bs))
      by true p =
          let h = leb-true n (length bs) p in
          let f = e ∙ reads_raw n bs h in
          (h, (value_of f, rest_of f))
      by false p = absurd (refused_not (sym (e ∙ reads_raw_short n bs (leb-false n (length bs) p))))

-- ---- the record at the front of a part of the bytes

some : (n : ℕ) → not (eqb n 0) ≡ ltb 0 n
some zero = refl
some (suc n) = ap not (ne_eqb (suc n) 0 (λ e. omega arith)) ∙ sym (lt-ltb 0 (suc n) (omega arith))

-- the mark by its two bytes
pub mark-at : (l : List ℕ) → 2 ≤ length l → mark_of (get_or l 0 0 ∷ (get_or l 1 0 ∷ [])) ≡ head_mark l
mark-at [] h = absurd (omega arith)
mark-at (a ∷ []) h = absurd (omega arith)
mark-at (a ∷ b ∷ l) h = refl

-- a mark that is cut short is unknown
mark-none : (l : List ℕ) → length l < 2 → Unknown ≡ head_mark l
unfolding mark_of
mark-none [] h = refl
mark-none (a ∷ []) h = simp and-false
mark-none (a ∷ b ∷ l) h = absurd (omega arith)

-- `record_at` of the part of the bytes from the place on
abbrev record_in : List ℕ → ℕ → ℕ → Bool → Record
record_in p at len last = record_by (head_mark p) (is_broken last p) at len (frame.dec p)

part-is : (bs : List ℕ) (at : ℕ) (last : Bool) → record_in (take (length bs - at) (drop at bs)) at (length bs) last ≡ record_at bs at last
unfolding record_at
part-is bs at last = ap (λ p. record_in p at (length bs) last) (rest bs at)

module _ (bs : List ℕ) (at : ℕ) (last : Bool) where
  abbrev pub part : List ℕ
  part = take (length bs - at) (drop at bs)

  -- a record that is not whole, by its mark and whether it ends the reading
  cut_by : {mark : Mark} {ends : Bool} {k : ℕ} → frame.dec part ≡ no k → mark ≡ head_mark part → is_broken last part ≡ ends
      → cut_short mark ends at (length bs) ≡ record_at bs at last
  unfolding record_by
  cut_by f m e =
      ap₂ (λ m b. cut_short m b at (length bs)) m (sym e)
      ∙ ap (record_by (head_mark part) (is_broken last part) at (length bs)) (sym f)
      ∙ part-is bs at last

  -- "mark .. cut short", or no bytes at all
  pub record_short : {k : ℕ} → Reading.refused k ≡ reads (raw 2) part → cut_short Unknown (last && not (eqb (length part) 0)) at (length bs) ≡ record_at bs at last
  unfolding is_broken
  record_short e =
      let h = raw_short 2 part e in
      ap (λ t. cut_short Unknown (last && t) at (length bs)) (some (length part))
      ∙ cut_by (frame-short part h) (mark-none part h) (rw (lt-leb 2 (length part) h))

  module _ (text r : List ℕ) (t : Reading.read text r ≡ reads (raw 2) part) where
    front : (2 ≤ length part) × ((text ≡ take 2 part) × (r ≡ drop 2 part))
    front = raw_read 2 part t

    mark_is : mark_of text ≡ head_mark part
    mark_is = ap mark_of front.1.0

    -- "Unknown mark"
    pub record_unknown : {mark : Mark} → mark ≡ mark_of text → is_known_mark mark ≡ false → cut_short mark true at (length bs) ≡ record_at bs at last
    unfolding is_broken
    record_unknown m k =
        let u : is_known_mark (head_mark part) ≡ false = ap is_known_mark (sym (m ∙ mark_is)) ∙ k in
        cut_by (frame-unknown part front.0 u) (m ∙ mark_is) (rw (le-leb 2 (length part) front.0, u))

    module _ {mark : Mark} (m : mark ≡ mark_of text) (k : is_known_mark mark ≡ true) where
      known : is_known_mark (head_mark part) ≡ true
      known = ap is_known_mark (sym (m ∙ mark_is)) ∙ k

      -- the size and the body are there, or not
      abbrev Whole : Type 0
      Whole = 4 + head_size part ≤ length part

      sized_at : reads sized_bytes r ≡ left_of (drop 2 part) (sized_bytes.dec (drop 2 part))
      unfolding reads
      sized_at = ap (λ l. reads sized_bytes l) front.1.1

      -- "size cut short", "body cut short"
      pub record_cut : {j : ℕ} → Reading.refused j ≡ reads sized_bytes r → cut_short mark last at (length bs) ≡ record_at bs at last
      unfolding is_broken
      record_cut e = by (leb 4 (length part)) refl (leb (4 + head_size part) (length part)) refl
        where
          by : (a : Bool) → leb 4 (length part) ≡ a → (b : Bool) → leb (4 + head_size part) (length part) ≡ b → cut_short mark last at (length bs) ≡ record_at bs at last
          by false p b q =
              cut_by (frame-sizeless part front.0 known (leb-false 4 (length part) p)) (m ∙ mark_is) (rw (le-leb 2 (length part) front.0, known))
          by true p false q =
              cut_by (frame-cut part (leb-true 4 (length part) p) known (leb-false (4 + head_size part) (length part) q)) (m ∙ mark_is)
              (rw (le-leb 2 (length part) front.0, known))
          by true p true q =
              let h = leb-true (4 + head_size part) (length part) q in
              let d = length-drop 2 part in
              absurd (refused_not (e ∙ sized_at ∙ ap (left_of (drop 2 part)) (sized-ok (drop 2 part) (omega arith))))

      -- the size that was read, and the body
      pub record_within : {body rest : List ℕ} → Reading.read body rest ≡ reads sized_bytes r → Whole × (length body ≡ head_size part)
      record_within {body} {rest} e = by (leb 4 (length part)) refl (leb (4 + head_size part) (length part)) refl
        where
          f : Reading.read body rest ≡ left_of (drop 2 part) (sized_bytes.dec (drop 2 part))
          f = e ∙ sized_at

          d : length (drop 2 part) ≡ length part - 2
          d = length-drop 2 part

          by : (a : Bool) → leb 4 (length part) ≡ a → (b : Bool) → leb (4 + head_size part) (length part) ≡ b → Whole × (length body ≡ head_size part)
          by false p b q =
              let h = leb-false 4 (length part) p in
              absurd (refused_not (sym (f ∙ ap (left_of (drop 2 part)) (sized-short (drop 2 part) (omega (arith, d, front.0))))))
          by true p false q =
              let h = leb-true 4 (length part) p in
              let g = leb-false (4 + head_size part) (length part) q in
              absurd (refused_not (sym (f ∙ ap (left_of (drop 2 part)) (sized-cut (drop 2 part) (omega (arith, d)) (omega (arith, d))))))
          by true p true q =
              let h = leb-true (4 + head_size part) (length part) q in
              let z : body ≡ take (head_size part) (drop 2 (drop 2 part)) = value_of (f ∙ ap (left_of (drop 2 part)) (sized-ok (drop 2 part) (omega (arith, d)))) in
              (h, ap length z ∙ length-take-le (head_size part) (drop 2 (drop 2 part)) (omega (arith, d, length-drop 2 (drop 2 part))))

      -- a whole one
      pub record_whole : (body rest : List ℕ) → Reading.read body rest ≡ reads sized_bytes r
          → ◌≡◌ {A = Record} record { mark = mark; asks = mark; body = at + 4; end = at + 4 + length body; ends = false } (record_at bs at last)
      unfolding record_by
      record_whole body rest e =
          let s = record_within e in
          let n : length body ≡ head_size part = s.1 in
          let end : at + 4 + length body ≡ at + (4 + head_size part) = omega arith in
          let same : (x : Mark) (y : ℕ) → Record = λ x y. record { mark = x; asks = x; body = at + 4; end = y; ends = false } in
          ap₂ same (m ∙ mark_is) end
          ∙ ap (record_by (head_mark part) (is_broken last part) at (length bs)) (sym (frame-got part known s.0))
          ∙ part-is bs at last
