-- Laws of the evidence, and of numbers that follow one another.
-- Each name here is a step of a proof; what is right is said in Evidence.
-- Assumes nothing.
use Rattle.std.specs.Prelude.{ℕ, ◌+◌, ◌-◌, ◌<◌, ◌≤◌, ◌≡◌, refl, Bool, true, false, cond, not, ◌&&◌, ◌||◌, ◌⊎◌, eqb, leb, ltb}
use Rattle.std.proofs.Math.Bool.{and-eq-true_iff, not-or_self, and-true}
use Rattle.std.proofs.lemmas.Bool.{false≢true, eqb-false}
use Rattle.std.proofs.Common.{inl, inr, arith, eqb-true, eq-eqb, ne_eqb, ltb-true, leb-true}
use Rattle.records.specs.Equality.{same_voter_slot_log_id, same_voter_snapshot_evidence}
use Rattle.records.specs.EqualityLaws.{same_voter_slot_log_id-true, same_voter_slot_log_id-refl, same_voter_snapshot_evidence-refl}
use Rattle.records.specs.Evidence.{follows, retains_cut, retains_marker, retains_cuts, retains}
use Rattle.records.specs.Records.{fenced}
use Rattle.records.specs.declared.records.OptionalLogId.{OptionalLogId}
use Rattle.records.specs.declared.records.VoterSlotLogId.{VoterSlotLogId}
use Rattle.records.specs.declared.records.VoterReplacementEvidence.{VoterReplacementEvidence}

-- ---- numbers

pub next-eqb : (value next : ℕ) → 0 < next → eqb (value + 1) next ≡ eqb value (next - 1)
next-eqb value next h = go (eqb value (next - 1)) refl
  where
    go : (t : Bool) → eqb value (next - 1) ≡ t → eqb (value + 1) next ≡ t
    go true e = let k = eqb-true value (next - 1) e in eq-eqb (value + 1) next (omega arith)
    go false e = ne_eqb (value + 1) next (λ k. eqb-false value (next - 1) e (omega arith))

-- ---- the order of cuts

pub follows-index : (a b : VoterSlotLogId) → follows a b false ≡ true → (b.index < a.index) × (b.term ≤ a.term)
unfolding follows
follows-index a b h = go (eqb a.index b.index) h
  where
    go : (t : Bool) → cond t false (ltb b.index a.index && leb b.term a.term) ≡ true → (b.index < a.index) × (b.term ≤ a.term)
    go true k = absurd (false≢true k)
    go false k =
        let e = (and-eq-true_iff (ltb b.index a.index) (leb b.term a.term)).0 k in
        (ltb-true b.index a.index e.0, leb-true b.term a.term e.1)

-- ---- evidence keeps itself

pub retains_cut-refl : (m : OptionalLogId) → retains_cut m m ≡ true
unfolding retains_cut
retains_cut-refl m = simp (same_voter_slot_log_id-refl, and-true, not-or_self)

pub retains_marker-refl : (m : OptionalLogId) (phase : ℕ) → retains_marker m m phase ≡ true
unfolding retains_marker
retains_marker-refl m phase = simp (same_voter_slot_log_id-refl, and-true, not-or_self)

pub retains-refl : (e : VoterReplacementEvidence) (phase : ℕ) → retains e e phase ≡ true
unfolding retains retains_cuts
retains-refl e phase =
    simp (same_voter_slot_log_id-refl, same_voter_snapshot_evidence-refl, retains_marker-refl, retains_cut-refl, and-true, not-or_self)

-- ---- what evidence that keeps the old says of the caught-up mark

-- The mark is there, and equal or of a greater index.
abbrev pub Kept : OptionalLogId → OptionalLogId → Type 0
Kept new old = (new.is_some ≡ true) × ((new.cut ≡ old.cut) ⊎ (old.cut.index < new.cut.index))

pub retains_marker-kept :
    (new old : OptionalLogId) (phase : ℕ) → retains_marker new old phase ≡ true → old.is_some ≡ true → Kept new old
unfolding retains_marker
retains_marker-kept new old phase h there =
    let k = (and-eq-true_iff new.is_some (same || moved)).0 (rw there at h) in
    (k.0, go same refl k.1)
  where
    same : Bool
    same = same_voter_slot_log_id new.cut old.cut

    moved : Bool
    moved = ltb phase fenced && follows new.cut old.cut false

    go : (t : Bool) → same ≡ t → (t || moved) ≡ true → (new.cut ≡ old.cut) ⊎ (old.cut.index < new.cut.index)
    go true e m = inl (same_voter_slot_log_id-true new.cut old.cut e)
    go false e m = inr (follows-index new.cut old.cut ((and-eq-true_iff (ltb phase fenced) (follows new.cut old.cut false)).0 m).1).0

pub retains-caught-up :
    (new old : VoterReplacementEvidence) (phase : ℕ) →
    retains new old phase ≡ true → old.caught_up.is_some ≡ true → Kept new.caught_up old.caught_up
unfolding retains
retains-caught-up new old phase h there =
    let rest = ((and-eq-true_iff (same_voter_slot_log_id new.prepare old.prepare) _).0 h).1 in
    let marks = ((and-eq-true_iff (not old.has_snapshot || (new.has_snapshot && same_voter_snapshot_evidence new.snapshot old.snapshot)) _).0 rest).1 in
    let mark = ((and-eq-true_iff (retains_marker new.caught_up old.caught_up phase) _).0 marks).0 in
    retains_marker-kept new.caught_up old.caught_up phase mark there
