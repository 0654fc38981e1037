-- Laws of the sets and the nodes of an observation: one id more, one set more, what refuses the
-- reading, and what the whole body asks.
-- Assumes nothing.
use Rattle.std.specs.Prelude.{ℕ, zero, suc, ◌+◌, ◌*◌, ◌≤◌, ◌<◌, ◌≡◌, Bool, length, take, drop, set, eqb, leb, Ok}
use native.Mathlib.Omega.{arith}
use Rattle.std.proofs.Common.{add-one, drop-drop, ap₂, ◌∙◌, length-take-le, take-add, take-suc-set, leb-true, leb-false, length-set}
use Rattle.std.proofs.Math.Path.{refl, sym, ap}
use Rattle.std.proofs.Math.Bool.{true, false, cond}
use mathlib.Core.List.{List, [], ◌∷◌, ◌++◌, append_assoc, append-nil, flatten, map-append}
use Rattle.std.proofs.Math.ListN.{length-drop}
use Rattle.std.proofs.lemmas.List.{drop-set-add, take-set-le}
use Rattle.format.specs.Combinators.{Codec}
use Rattle.format.specs.Res.{Res, malformed}
use Rattle.format.specs.Res.Res.{ok, no}
use Rattle.format.specs.List.{vec, vec-start}
use Rattle.format.specs.Num.{uint, val}
use Rattle.format.specs.Reads.{Reading, left_of, reads, then_read, made_read, reads_raw, reads_raw_short, reads_uint, reads_two, reads_three}
use Rattle.format.specs.ReadsMore.{reads_vec_more, reads_vec_refused}
use Rattle.layout.specs.Layout.{log_id}
use Rattle.records.specs.declared.records.VoterSlotLogId.{VoterSlotLogId}
use Rattle.journal.specs.declared.replay.Mark.TheVariants.{Ob}
use Rattle.journal.specs.BodiesLaws.{ended_asking, formed_read}
use Rattle.journal.specs.Records.{counted, node_ids, node_sets, ObservationBody, observation_body}
use Rattle.journal.specs.Replay.{asking, observation_asked}
use Rattle.journal.specs.Replay.Asked.{observation}
use Rattle.journal.specs.Replay.Asking.{asks, bad}
use Rattle.journal.specs.SetBody.{LaidIds, LaidSet, SetsSo}

-- ---- a number takes its bytes

rest_of : {A : Type 0} {a b : A} {l m : List ℕ} → ◌≡◌ {A = Reading A} (Reading.read a l) (Reading.read b m) → l ≡ m
rest_of e = cc

never_read : {A : Type 0} {a : A} {l : List ℕ} {k : ℕ} → ◌≡◌ {A = Reading A} (Reading.read a l) (Reading.refused k) → ⊥
never_read e = let z : ◌≡◌ {A = ℕ} 0 1 = cc in omega arith

pub number_takes : (k : ℕ) (bs rest : List ℕ) {v : ℕ} → Reading.read v rest ≡ reads (uint k) bs → k + length rest ≡ length bs
number_takes k bs rest {v} e = by (leb k (length bs)) refl
  where
    by : (t : Bool) → leb k (length bs) ≡ t → k + length rest ≡ length bs
    by true p =
        let h = leb-true k (length bs) p in
        let z : rest ≡ drop k bs = rest_of (e ∙ reads_uint k bs ∙ ap (made_read (val 0)) (reads_raw k bs h)) in
        omega (arith, length-drop k bs, ap length z)
    by false p = absurd (never_read (e ∙ reads_uint k bs ∙ ap (made_read (val 0)) (reads_raw_short k bs (leb-false k (length bs) p))))

-- nothing is read twice
pub reads_on : {A : Type 0} (C : Codec A) (bs rest : List ℕ) {a : A} → Reading.read a rest ≡ reads C bs → length rest ≤ length bs
unfolding reads
reads_on {A} C bs rest {a} e = by (C.dec bs) e
  where
    by : (x : Res A) → Reading.read a rest ≡ left_of bs x → length rest ≤ length bs
    by (ok a n) f = let z : rest ≡ drop n bs = rest_of f in omega (arith, length-drop n bs, ap length z)
    by (no k) f = absurd (never_read f)

-- ---- ids

module _ (bs : List ℕ) (from : ℕ) (old : List ℕ) where
  pub ids_start : LaidIds bs bs from 0 old old
  unfolding reads
  ids_start = record { front = refl; is = ap (left_of bs) (vec-start (uint 8) 0 bs); few = omega arith; long = refl }

  -- one more
  pub ids_more : (i v : ℕ) (new rest r : List ℕ) → from + i < length new → LaidIds bs rest from i old new → Reading.read v r ≡ reads (uint 8) rest
      → LaidIds bs r from (i + 1) old (set new (from + i) v)
  ids_more i v new rest r h l e =
      let d = length-drop from new in
      let t = number_takes 8 rest r e in
      let more : take (i + 1) (drop from (set new (from + i) v)) ≡ take i (drop from new) ++ (v ∷ []) =
      ap (take (i + 1)) (drop-set-add from new i v)
      ∙ ap (λ n. take n (set (drop from new) i v)) (add-one i)
      ∙ take-suc-set (drop from new) i v (omega arith)
      in
      record {
        front = take-set-le from new (from + i) v (omega arith) ∙ l.front;
        is =
            reads_vec_more (uint 8) 0 i bs
            ∙ ap (λ x. then_read x (λ l rest. made_read (λ a. l ++ (a ∷ [])) (reads (uint 8) rest))) l.is
            ∙ ap (made_read (λ a. take i (drop from new) ++ (a ∷ []))) (sym e)
            ∙ ap (λ l. Reading.read l r) (sym more);
        few = omega (arith, l.few);
        long = length-set new (from + i) v ∙ l.long;
      }

-- ---- a set

made_same : {A : Type 0} (x : Reading A) → made_read (λ a. a) x ≡ x
made_same (Reading.read a rest) = refl
made_same (Reading.refused k) = refl

counted_by : {A : Type 0} (C : ℕ → List ℕ → Reading A) (x : Reading ℕ) → then_read x (λ n r. made_read (λ l. l) (C n r)) ≡ then_read x C
counted_by C (Reading.read n rest) = made_same (C n rest)
counted_by C (Reading.refused k) = refl

pub set_read : (bs : List ℕ) → reads node_ids bs ≡ then_read (reads (uint 2) bs) (λ n r. reads (vec (uint 8) 0 n) r)
unfolding node_ids counted
set_read bs = reads_two (uint 2) (vec (uint 8) 0) _ _ _ bs ∙ counted_by (λ n r. reads (vec (uint 8) 0 n) r) (reads (uint 2) bs)

-- an id after those that were read
abbrev next_id : Reading (List ℕ) → Reading (List ℕ)
next_id x = then_read x (λ l rest. made_read (λ a. l ++ (a ∷ [])) (reads (uint 8) rest))

-- so many ids are there: what they are, and what is left
ids_there : (n : ℕ) (s : List ℕ) → 8 * n ≤ length s → (l : List ℕ) × (reads (vec (uint 8) 0 n) s ≡ Reading.read l (drop (8 * n) s))
unfolding reads
ids_there zero s h = ([], ap (left_of s) (vec-start (uint 8) 0 s))
ids_there (suc n) s h =
    let f = ids_there n s (omega arith) in
    let r = drop (8 * n) s in
    let q : 8 ≤ length r = omega (arith, length-drop (8 * n) s) in
    let more = ap next_id f.1 in
    let last = reads_uint 8 r ∙ ap (made_read (val 0)) (reads_raw 8 r q) in (
      f.0 ++ (val 0 (take 8 r) ∷ []),
      ap (λ k. reads (vec (uint 8) 0 k) s) (sym (add-one n))
          ∙ reads_vec_more (uint 8) 0 n s
          ∙ more
          ∙ ap (made_read (λ a. f.0 ++ (a ∷ []))) last
          ∙ ap (Reading.read (f.0 ++ (val 0 (take 8 r) ∷ []))) (drop-drop 8 (8 * n) s ∙ ap (λ k. drop k s) (omega arith)),
    )

-- there are fewer bytes than one more id takes
few_more : (n : ℕ) (s : List ℕ) → length s < 8 * (n + 1) → (length s < 8 * n → reads (vec (uint 8) 0 n) s ≡ Reading.refused malformed)
    → reads (vec (uint 8) 0 (n + 1)) s ≡ Reading.refused malformed
few_more n s h fewer = by (leb (8 * n) (length s)) refl
  where
    by : (t : Bool) → leb (8 * n) (length s) ≡ t → reads (vec (uint 8) 0 (n + 1)) s ≡ Reading.refused malformed
    by true p =
        let f = ids_there n s (leb-true (8 * n) (length s) p) in
        let r = drop (8 * n) s in
        let q : length r < 8 = omega (arith, length-drop (8 * n) s) in
        reads_vec_more (uint 8) 0 n s
        ∙ ap next_id f.1
        ∙ ap (made_read (λ a. f.0 ++ (a ∷ []))) (reads_uint 8 r ∙ ap (made_read (val 0)) (reads_raw_short 8 r q))
    by false p = reads_vec_more (uint 8) 0 n s ∙ ap next_id (fewer (leb-false (8 * n) (length s) p))

-- there are fewer bytes than so many ids take
few_ids : (n : ℕ) (s : List ℕ) → length s < 8 * n → reads (vec (uint 8) 0 n) s ≡ Reading.refused malformed
few_ids zero s h = absurd (omega arith)
few_ids (suc n) s h =
    ap (λ k. reads (vec (uint 8) 0 k) s) (sym (add-one n)) ∙ few_more n s (omega (arith, add-one n)) (λ p. few_ids n s p)

module _ (bs : List ℕ) {count : ℕ} (s : List ℕ) (e : Reading.read count s ≡ reads (uint 2) bs) where
  after_count : reads node_ids bs ≡ reads (vec (uint 8) 0 count) s
  after_count = set_read bs ∙ ap (λ x. then_read x (λ n r. reads (vec (uint 8) 0 n) r)) (sym e)

  -- fewer bytes than its ids take
  pub set_short : length s < 8 * count → Reading.refused malformed ≡ reads node_ids bs
  set_short h = sym (after_count ∙ few_ids count s h)

  -- too few ids
  pub set_refused : (from i k : ℕ) (rest old new : List ℕ) → LaidIds s rest from i old new → i < count → Reading.refused k ≡ reads (uint 8) rest
      → Reading.refused k ≡ reads node_ids bs
  set_refused from i k rest old new l h r =
      sym (after_count
      ∙ reads_vec_refused (uint 8) 0 (i + 1) count s (omega arith)
      (reads_vec_more (uint 8) 0 i s
      ∙ ap (λ x. then_read x (λ l rest. made_read (λ a. l ++ (a ∷ [])) (reads (uint 8) rest))) l.is
      ∙ ap (made_read (λ a. take i (drop from new) ++ (a ∷ []))) (sym r)))

  -- all of them
  pub set_laid : (from i : ℕ) (rest old new : List ℕ) → LaidIds s rest from i old new → i ≡ count → LaidSet (Ok count) bs rest from old new
  set_laid from i rest old new l q = record {
    front = l.front;
    is =
        ap (λ n. Reading.read (take n (drop from new)) rest) (sym q)
        ∙ sym l.is
        ∙ ap (λ n. reads (vec (uint 8) 0 n) s) q
        ∙ sym after_count;
    few = omega (arith, l.few, number_takes 2 bs s e, q);
  }

-- ---- sets

pub flatten-more : (sets : List (List ℕ)) (s : List ℕ) → flatten (sets ++ (s ∷ [])) ≡ flatten sets ++ s
unfolding flatten
flatten-more [] s = append-nil s
flatten-more (t ∷ sets) s = ap (λ l. t ++ l) (flatten-more sets s) ∙ sym (append_assoc t (flatten sets) s)

module _ (bs : List ℕ) where
  pub sets_start : (ids counts : List ℕ) → SetsSo bs bs 0 0 ids counts
  unfolding flatten reads
  sets_start ids counts = record { sets = []; is = ap (left_of bs) (vec-start node_ids [] bs); joined = refl; counted = refl; few = omega arith }

  module _ (i held : ℕ) (mid rest ids counts : List ℕ) (so : SetsSo bs mid i held ids counts) where
    one_more : reads (vec node_ids [] (i + 1)) bs ≡ made_read (λ s. so.sets ++ (s ∷ [])) (reads node_ids mid)
    one_more =
        reads_vec_more node_ids [] i bs
        ∙ ap (λ x. then_read x (λ l rest. made_read (λ a. l ++ (a ∷ [])) (reads node_ids rest))) so.is

    -- one more
    pub sets_more : (n : ℕ) (new : List ℕ) → LaidSet (Ok n) mid rest held ids new → held + n ≤ length new → i < length counts
        → SetsSo bs rest (i + 1) (held + n) new (set counts i n)
    sets_more n new l h k =
        let s = take n (drop held new) in
        let d = length-drop held new in
        let long : length s ≡ n = length-take-le n (drop held new) (omega arith) in
        record {
          sets = so.sets ++ (s ∷ []);
          is = one_more ∙ ap (made_read (λ s. so.sets ++ (s ∷ []))) (sym l.is);
          joined =
              flatten-more so.sets s
              ∙ ap (λ p. p ++ s) (so.joined ∙ sym l.front)
              ∙ sym (take-add held n new);
          counted =
              map-append length so.sets (s ∷ [])
              ∙ ap₂ (λ p m. p ++ (m ∷ [])) so.counted long
              ∙ sym (ap (λ m. take m (set counts i n)) (add-one i) ∙ take-suc-set counts i n k);
          few = omega (arith, so.few, l.few);
        }

    -- one that is refused ends the reading
    pub sets_refused : (k n : ℕ) → i < n → Reading.refused k ≡ reads node_ids mid → Reading.refused k ≡ reads (vec node_ids [] n) bs
    sets_refused k n h e =
        sym (reads_vec_refused node_ids [] (i + 1) n bs (omega arith) (one_more ∙ ap (made_read (λ s. so.sets ++ (s ∷ []))) (sym e)))

-- ---- the whole body

pub sets_read : (bs : List ℕ) → reads node_sets bs ≡ then_read (reads (uint 1) bs) (λ n r. reads (vec node_ids [] n) r)
unfolding node_sets counted
sets_read bs = reads_two (uint 1) (vec node_ids []) _ _ _ bs ∙ counted_by (λ n r. reads (vec node_ids [] n) r) (reads (uint 1) bs)

-- what stands after the cut
abbrev pub after_cut : VoterSlotLogId → List ℕ → Reading ObservationBody
after_cut cut r =
    then_read (then_read (reads (uint 1) r) (λ n s. reads (vec node_ids [] n) s))
    (λ sets t. made_read (λ nodes. record { cut = cut; sets = sets; nodes = nodes }) (reads node_ids t))

cut_read : (x : Reading VoterSlotLogId)
    → then_read x (λ cut r. then_read (reads node_sets r) (λ sets t. made_read {B = ObservationBody} (λ nodes. record { cut = cut; sets = sets; nodes = nodes }) (reads node_ids t)))
    ≡ then_read x after_cut
cut_read (Reading.read cut rest) =
    ap (λ y. then_read y (λ sets t. made_read {B = ObservationBody} (λ nodes. record { cut = cut; sets = sets; nodes = nodes }) (reads node_ids t))) (sets_read rest)
cut_read (Reading.refused k) = refl

pub observation_read : (body : List ℕ) → asking Ob body ≡ ended_asking (λ b. asks (observation_asked b)) (then_read (reads log_id body) after_cut)
unfolding asking observation_body
observation_read body =
    formed_read observation_body (λ b. asks (observation_asked b)) body
    ∙ ap (ended_asking {A = ObservationBody} (λ b. asks (observation_asked b))) (reads_three log_id (λ a. node_sets) (λ a. node_ids) _ _ _ body ∙ cut_read (reads log_id body))

module _ (body : List ℕ) where
  refused_at : {k : ℕ} → then_read (reads log_id body) after_cut ≡ Reading.refused k → bad ≡ asking Ob body
  refused_at e = sym (observation_read body ∙ ap (ended_asking {A = ObservationBody} (λ b. asks (observation_asked b))) e)

  -- no cut
  pub observation_cutless : {k : ℕ} → Reading.refused k ≡ reads log_id body → bad ≡ asking Ob body
  observation_cutless e = refused_at (ap (λ x. then_read x after_cut) (sym e))

  module _ {cut : VoterSlotLogId} (r : List ℕ) (c : Reading.read cut r ≡ reads log_id body) where
    cut_first : then_read (reads log_id body) after_cut ≡ after_cut cut r
    cut_first = ap (λ x. then_read x after_cut) (sym c)

    abbrev with_sets : List (List ℕ) → List ℕ → Reading ObservationBody
    with_sets sets t = made_read (λ nodes. record { cut = cut; sets = sets; nodes = nodes }) (reads node_ids t)

    -- no count of the sets
    pub observation_countless : {k : ℕ} → Reading.refused k ≡ reads (uint 1) r → bad ≡ asking Ob body
    observation_countless e =
        refused_at (cut_first ∙ ap (λ x. then_read (then_read x (λ n s. reads (vec node_ids [] n) s)) with_sets) (sym e))

    module _ {count : ℕ} (s : List ℕ) (n : Reading.read count s ≡ reads (uint 1) r) where
      then_sets : after_cut cut r ≡ then_read (reads (vec node_ids [] count) s) with_sets
      then_sets = ap (λ x. then_read (then_read x (λ n s. reads (vec node_ids [] n) s)) with_sets) (sym n)

      -- not so many sets
      pub observation_setless : {k : ℕ} → Reading.refused k ≡ reads (vec node_ids [] count) s → bad ≡ asking Ob body
      observation_setless e = refused_at (cut_first ∙ then_sets ∙ ap (λ x. then_read x with_sets) (sym e))

      module _ {held : ℕ} (t ids counts : List ℕ) (so : SetsSo s t count held ids counts) where
        -- the ids of the sets take eight bytes each, of those before the nodes
        pub held_within : 8 * held + length t ≤ length body
        held_within = omega (arith, so.few, reads_on log_id body r c, reads_on (uint 1) r s n)

        then_nodes : then_read (reads log_id body) after_cut ≡ with_sets so.sets t
        then_nodes = cut_first ∙ then_sets ∙ ap (λ x. then_read x with_sets) so.is

        -- no nodes
        pub observation_nodeless : {k : ℕ} → Reading.refused k ≡ reads node_ids t → bad ≡ asking Ob body
        observation_nodeless e =
            refused_at (then_nodes ∙ ap (made_read {B = ObservationBody} (λ nodes. record { cut = cut; sets = so.sets; nodes = nodes })) (sym e))

        -- all of them, and then the end
        pub observation_end : (nodes : ℕ) (u new : List ℕ) → LaidSet (Ok nodes) t u held ids new
            → cond (eqb (length u) 0) (asks (observation (take held new) (take count counts) (take nodes (drop held new)) cut)) bad ≡ asking Ob body
        unfolding observation_asked
        observation_end nodes u new l =
            ap₂
            (λ a b. cond (eqb (length u) 0) (asks (observation a b (take nodes (drop held new)) cut)) bad)
            (l.front ∙ sym so.joined)
            (sym so.counted)
            ∙ sym (observation_read body
            ∙ ap (ended_asking {A = ObservationBody} (λ b. asks (observation_asked b)))
            (then_nodes ∙ ap (made_read {B = ObservationBody} (λ nodes. record { cut = cut; sets = so.sets; nodes = nodes })) (sym l.is)))
