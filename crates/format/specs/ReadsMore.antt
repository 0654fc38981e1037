-- What reading leaves of a list in a place of fixed size, filled from its front; of a form to the
-- last byte; and of a form in a box.
-- For the loops of a `Reader`, its `finish` and its `sized_bytes`.
-- Assumes nothing.
use Rattle.std.specs.Prelude.{ℕ, ◌+◌, ◌-◌, ◌≤◌, ◌<◌, ◌≡◌, refl, Bool, true, false, List, [], ◌∷◌, ◌++◌, length, take, drop, set, replicate, eqb, leb}
use Rattle.std.proofs.Common.{ap, sym, ◌∙◌, arith, subst, true≢false, eqb-true, eq-eqb, drop-drop, add-one, length-set, length-drop, take-append-drop}
use Rattle.format.specs.Res.{Res, malformed, too_large, and_then}
use Rattle.format.specs.Res.Res.{ok, no}
use Rattle.format.specs.Num.{pick, uint, raw}
use Rattle.format.specs.Combinators.{Codec, dep, check, dec_seq, dec_map}
use Rattle.format.specs.List.{vec, vec-start, vec-stays, vec-long, dec_vec, padded}
use Rattle.format.specs.Through.{whole, boxed, boxed-ok, boxed-no-1, boxed-no-2}
use Rattle.format.specs.Copy.{filled_more, unfilled-more, drop-replicate}
use Rattle.format.specs.Reads.{Reading, left_of, reads, then_read, made_read, reads_via}

refused_is : {A : Type 0} (bs : List ℕ) {k : ℕ} (x : Res A) → left_of bs x ≡ Reading.refused k → x ≡ no k
refused_is bs (ok a n) e = absurd (read_refused e)
  where
    read_refused : {A : Type 0} {a : A} {l : List ℕ} {k : ℕ} → Reading.read a l ≡ Reading.refused k → ⊥
    read_refused e = let z : ◌≡◌ {A = ℕ} 0 1 = cc in omega arith
refused_is bs (no r) e = ap no (refused_number e)
  where
    refused_number : {A : Type 0} {r k : ℕ} → ◌≡◌ {A = Reading A} (Reading.refused r) (Reading.refused k) → r ≡ k
    refused_number e = cc

-- ---- n values of one form, one after the other, in a place of nine

abbrev pub nine : {A : Type 0} → Codec A → A → ℕ → Codec (List A)
nine C blank n = padded (vec C blank n) n 9 blank (vec-long C blank n)

module _ {A : Type 0} (C : Codec A) (blank : A) where
  abbrev ended_by : List A → A → List A
  ended_by l a = l ++ (a ∷ [])

  abbrev listed : List A → A → List A × A
  listed l a = (l, a)

  last : (bs : List ℕ) (l : List A) (k : ℕ) (y : Res A)
      → left_of bs (and_then (and_then y (λ a m. ok (listed l a) (k + m))) (λ p n. ok (p.0 ++ (p.1 ∷ [])) n)) ≡ made_read (ended_by l) (left_of (drop k bs) y)
  unfolding and_then
  last bs l k (ok a m) = ap (λ t. Reading.read (ended_by l a) t) (sym (drop-drop m k bs))
  last bs l k (no r) = refl

  step : (bs : List ℕ) (x : Res (List A))
      → left_of bs (and_then (and_then x (λ l n. and_then (C.dec (drop n bs)) (λ a m. ok (listed l a) (n + m)))) (λ p n. ok (p.0 ++ (p.1 ∷ [])) n))
      ≡ then_read (left_of bs x) (λ l rest. made_read (ended_by l) (reads C rest))
  unfolding and_then reads
  step bs (ok l k) = last bs l k (C.dec (drop k bs))
  step bs (no r) = refl

  -- one more
  pub reads_vec_more : (i : ℕ) (bs : List ℕ) → reads (vec C blank (i + 1)) bs ≡ then_read (reads (vec C blank i) bs) (λ l rest. made_read (λ a. l ++ (a ∷ [])) (reads C rest))
  unfolding reads vec dec_vec dec_map dec_seq
  reads_vec_more i bs = rw add-one (step bs (dec_vec C.dec i bs))

  -- a refusal on the way is that of every longer list
  pub reads_vec_refused : (i n : ℕ) (bs : List ℕ) {k : ℕ} → i ≤ n → reads (vec C blank i) bs ≡ Reading.refused k → reads (vec C blank n) bs ≡ Reading.refused k
  unfolding reads vec
  reads_vec_refused i n bs h e = ap (left_of bs) (vec-stays C.dec i n bs h (refused_is bs (dec_vec C.dec i bs) e))

  -- the first i of the nine places v are read, and the others are as they were in w
  pub record Filled (i : ℕ) (bs rest : List ℕ) (v w : List A) : Type 0 where
    pub front : reads (vec C blank i) bs ≡ Reading.read (take i v) rest
    pub back : drop i v ≡ drop i w
    pub long : length v ≡ 9

  pub filled_none : (bs : List ℕ) (w : List A) → length w ≡ 9 → Filled 0 bs bs w w
  unfolding reads
  filled_none bs w e = record { front = ap (left_of bs) (vec-start C blank bs); back = refl; long = e }

  pub filled_next : (i : ℕ) (bs rest r : List ℕ) (v w : List A) (a : A) → Filled i bs rest v w → i < 9 → Reading.read a r ≡ reads C rest → Filled (i + 1) bs r (set v i a) w
  filled_next i bs rest r v w a f h e = record {
    front =
        reads_vec_more i bs
        ∙ ap (λ x. then_read x (λ l rest. made_read (λ a. l ++ (a ∷ [])) (reads C rest))) f.front
        ∙ ap (made_read (λ a. take i v ++ (a ∷ []))) (sym e)
        ∙ ap (λ l. Reading.read l r) (sym (filled_more v i a (omega (arith, f.long))));
    back = unfilled-more v w i a f.back;
    long = length-set v i a ∙ f.long;
  }

  -- a refusal at a place is that of all
  pub filled_refused : (i n : ℕ) (bs rest : List ℕ) (v w : List A) {k : ℕ} → Filled i bs rest v w → i < n → reads C rest ≡ Reading.refused k → reads (vec C blank n) bs ≡ Reading.refused k
  filled_refused i n bs rest v w f h e =
      reads_vec_refused (i + 1) n bs (omega arith)
      (reads_vec_more i bs
      ∙ ap (λ x. then_read x (λ l rest. made_read (λ a. l ++ (a ∷ [])) (reads C rest))) f.front
      ∙ ap (made_read (λ a. take i v ++ (a ∷ []))) e)

  module _ (n : ℕ) (long : (l : List A) → (vec C blank n).Good l → length l ≡ n) (bs : List ℕ) where
    pub reads_padded : reads (padded (vec C blank n) n 9 blank long) bs ≡ made_read (λ l. l ++ replicate (9 - n) blank) (reads (vec C blank n) bs)
    unfolding padded
    reads_padded = reads_via (vec C blank n) _ _ _ bs

    pub padded_refused : (i : ℕ) (rest : List ℕ) (v w : List A) {k : ℕ} → Filled i bs rest v w → i < n → reads C rest ≡ Reading.refused k
        → Reading.refused k ≡ reads (padded (vec C blank n) n 9 blank long) bs
    padded_refused i rest v w f h e = sym (reads_padded ∙ ap (made_read (λ l. l ++ replicate (9 - n) blank)) (filled_refused i n bs rest v w f h e))

    -- all are read, and blanks stand after them
    pub padded_filled : (i : ℕ) (rest : List ℕ) (v w : List A) → Filled i bs rest v w → w ≡ replicate 9 blank → i ≡ n → Reading.read v rest ≡ reads (padded (vec C blank n) n 9 blank long) bs
    padded_filled i rest v w f e q =
        let front : reads (vec C blank n) bs ≡ Reading.read (take i v) rest = subst (λ k. reads (vec C blank k) bs ≡ Reading.read (take i v) rest) q f.front in
        let back : drop i v ≡ replicate (9 - n) blank = f.back ∙ ap (drop i) e ∙ drop-replicate i 9 blank ∙ ap (λ k. replicate (9 - k) blank) q in
        ap (λ l. Reading.read l rest) (sym (take-append-drop i v) ∙ ap (λ t. take i v ++ t) back)
        ∙ sym (reads_padded ∙ ap (made_read (λ l. l ++ replicate (9 - n) blank)) front)

-- ---- a form to the last byte

-- the answer of a reading of n bytes in all
abbrev pub ended_read : {A : Type 0} → ℕ → Reading A → Res A
ended_read n (Reading.read a rest) = pick (eqb (length rest) 0) (ok a n) (no malformed)
ended_read n (Reading.refused k) = no k

module _ {A : Type 0} (C : Codec A) (bs : List ℕ) where
  ended : (x : Res A) → C.dec bs ≡ x → and_then x (λ a n. pick (eqb n (length bs)) (ok a n) (no malformed)) ≡ ended_read (length bs) (left_of bs x)
  unfolding and_then pick
  ended (ok a n) e = by_end a n (eqb n (length bs)) (eqb (length (drop n bs)) 0) (C.within bs e) refl refl
    where
      by_end : (a : A) (n : ℕ) (t u : Bool) → n ≤ length bs → eqb n (length bs) ≡ t → eqb (length (drop n bs)) 0 ≡ u → pick t (ok a n) (no malformed) ≡ pick u (ok a (length bs)) (no malformed)
      by_end a n true true h p q = ap (ok a) (eqb-true n (length bs) p)
      by_end a n true false h p q = absurd (true≢false (sym (eq-eqb (length (drop n bs)) 0 (omega (arith, length-drop n bs, eqb-true n (length bs) p))) ∙ q))
      by_end a n false true h p q = absurd (true≢false (sym (eq-eqb n (length bs) (omega (arith, length-drop n bs, eqb-true (length (drop n bs)) 0 q))) ∙ p))
      by_end a n false false h p q = refl
  ended (no k) e = refl

  pub reads_whole : whole C bs ≡ ended_read (length bs) (reads C bs)
  unfolding whole reads
  reads_whole = ended (C.dec bs) refl

-- ---- a form in a box

-- what is read out of the bytes in it, and the rest after them
abbrev pub unboxed_read : {A : Type 0} → Res A → List ℕ → Reading A
unboxed_read (ok a n) rest = Reading.read a rest
unboxed_read (no k) rest = Reading.refused k

module _ {A : Type 0} (C : Codec A) (bound : ℕ) (bs : List ℕ) where
  abbrev box : Codec (ℕ × List ℕ)
  box = dep (check (uint 2) (λ n. pick (leb n bound) 0 too_large)) raw

  opened : (p : ℕ × List ℕ) (n : ℕ) (y : Res A) → box.dec bs ≡ ok p n → whole C p.1 ≡ y → left_of bs ((boxed C bound).dec bs) ≡ unboxed_read y (drop n bs)
  opened p n (ok a m) e f = ap (left_of bs) (boxed-ok C bound bs e f)
  opened p n (no k) e f = ap (left_of bs) (boxed-no-2 C bound bs e f)

  boxed_by : (x : Res (ℕ × List ℕ)) → box.dec bs ≡ x → left_of bs ((boxed C bound).dec bs) ≡ then_read (left_of bs x) (λ p rest. unboxed_read (whole C p.1) rest)
  boxed_by (ok p n) e = opened p n (whole C p.1) e refl
  boxed_by (no k) e = ap (left_of bs) (boxed-no-1 C bound bs e)

  pub reads_boxed : reads (boxed C bound) bs ≡ then_read (reads (dep (check (uint 2) (λ n. pick (leb n bound) 0 too_large)) raw) bs) (λ p rest. unboxed_read (whole C p.1) rest)
  unfolding reads
  reads_boxed = boxed_by (box.dec bs) refl
