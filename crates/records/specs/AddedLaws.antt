-- Evidence with one part added to valid evidence: the Rust types can hold it, and the tests of the
-- whole come to those of the part that is added.
-- Each name here is a step of a proof; what is right is said in Evidence.
-- Assumes nothing.
use Rattle.std.specs.Prelude.{ℕ, ◌<◌, ◌≤◌, ◌≡◌, Bool, cond, ◌&&◌, ◌||◌, List, ◌∷◌, [], eqb, leb, ltb}
use Rattle.std.proofs.Math.Path.{refl, ap}
use Rattle.std.proofs.Common.{sym, ◌∙◌, true≢false, arith, eqb-true, ltb-true, leb-true, leb-false, ltb-false, lt-ltb, le-leb, ne_eqb}
use Rattle.std.proofs.Math.Bool.{true, false, not, and-true, not-or_self}
use Rattle.std.specs.Bool.{beq}
use Rattle.std.proofs.lemmas.Bool.{false≢true}
use Rattle.identity.specs.Utf8Laws.{and_left, and_right}
use Rattle.records.specs.declared.records.OptionalLogId.{OptionalLogId}
use Rattle.records.specs.declared.records.VoterSlotLogId.{VoterSlotLogId}
use Rattle.records.specs.declared.records.VoterSnapshotEvidence.{VoterSnapshotEvidence}
use Rattle.records.specs.declared.records.VoterReplacementEvidence.{VoterReplacementEvidence}
use Rattle.records.specs.Equality.{all_true, same_voter_slot_log_id, same_voter_snapshot_evidence}
use Rattle.records.specs.EqualityLaws.{eq-same, same_voter_slot_log_id-true, same_voter_slot_log_id-refl, same_voter_snapshot_evidence-refl}
use Rattle.records.specs.Evidence.{valid_log_id, follows, valid_stage, stage_or, snapshot_cut, valid_stages, in_order, valid_continuation, valid_snapshot_id, valid_evidence, retains_cut, retains_marker, retains_cuts, retains, later_of, latest}
use Rattle.records.specs.EvidenceLaws.{follows-index, retains_cut-refl, retains_marker-refl}
use Rattle.records.specs.Records.{prepared, snapshot_installed, learner_added, caught_up, fenced, joint, uniform}
use Rattle.records.specs.Representable.{representable_snapshot, representable_optional_log_id, representable_evidence}
use Rattle.records.specs.With.{present, with_snapshot, with_learner, with_caught_up, with_continuation, with_fence, with_joint, with_uniform}
use Rattle.records.specs.RepresentableParts.{evidence-is}
use Rattle.records.specs.TestLaws.{says, passes, Each, each, then-says, and_both, cond-true}

-- ---- the Rust types can hold it

present-fits : (cut : VoterSlotLogId) → representable_optional_log_id (present cut) ≡ true
unfolding representable_optional_log_id
present-fits cut = refl

module _ (e : VoterReplacementEvidence) (h : representable_evidence e ≡ true) where
  pub snapshot-fits : (snapshot : VoterSnapshotEvidence) → representable_snapshot snapshot ≡ true → representable_evidence (with_snapshot e snapshot) ≡ true
  snapshot-fits snapshot k = let p = says (evidence-is e) h in passes (evidence-is (with_snapshot e snapshot)) (k, p.1)

  pub learner-fits : (cut : VoterSlotLogId) → representable_evidence (with_learner e cut) ≡ true
  learner-fits cut = let p = says (evidence-is e) h in passes (evidence-is (with_learner e cut)) (p.0, (present-fits cut, p.1.1))

  pub caught-up-fits : (cut : VoterSlotLogId) → representable_evidence (with_caught_up e cut) ≡ true
  caught-up-fits cut = let p = says (evidence-is e) h in passes (evidence-is (with_caught_up e cut)) (p.0, (p.1.0, (present-fits cut, p.1.1.1)))

  pub continuation-fits : (cut : VoterSlotLogId) → representable_evidence (with_continuation e cut) ≡ true
  continuation-fits cut =
      let p = says (evidence-is e) h in passes (evidence-is (with_continuation e cut)) (p.0, (p.1.0, (p.1.1.0, (present-fits cut, p.1.1.1.1))))

  pub fence-fits : (cut : VoterSlotLogId) → representable_evidence (with_fence e cut) ≡ true
  fence-fits cut =
      let p = says (evidence-is e) h in passes (evidence-is (with_fence e cut)) (p.0, (p.1.0, (p.1.1.0, (p.1.1.1.0, (present-fits cut, p.1.1.1.1.1)))))

  pub joint-fits : (cut : VoterSlotLogId) → representable_evidence (with_joint e cut) ≡ true
  joint-fits cut =
      let p = says (evidence-is e) h in
      passes (evidence-is (with_joint e cut)) (p.0, (p.1.0, (p.1.1.0, (p.1.1.1.0, (p.1.1.1.1.0, (present-fits cut, p.1.1.1.1.1.1))))))

  pub uniform-fits : (cut : VoterSlotLogId) → representable_evidence (with_uniform e cut) ≡ true
  uniform-fits cut =
      let p = says (evidence-is e) h in
      passes (evidence-is (with_uniform e cut)) (p.0, (p.1.0, (p.1.1.0, (p.1.1.1.0, (p.1.1.1.1.0, (p.1.1.1.1.1.0, present-fits cut))))))

-- ---- the order of cuts

-- a cut that follows one that is not zero is not zero
follows-valid : (a b : VoterSlotLogId) (allow_equal : Bool) → valid_log_id b ≡ true → follows a b allow_equal ≡ true → valid_log_id a ≡ true
unfolding follows
follows-valid a b allow_equal v h = go (eqb a.index b.index) h
  where
    go : (t : Bool) → cond t (allow_equal && same_voter_slot_log_id a b) (ltb b.index a.index && leb b.term a.term) ≡ true → valid_log_id a ≡ true
    go true k = ap valid_log_id (same_voter_slot_log_id-true a b (and_right allow_equal (same_voter_slot_log_id a b) k)) ∙ v
    go false k =
        let i = ltb-true b.index a.index (and_left (ltb b.index a.index) (leb b.term a.term) k) in
        let t = leb-true b.term a.term (and_right (ltb b.index a.index) (leb b.term a.term) k) in
        let m = ltb-true 0 b.term (and_left (ltb 0 b.term) (ltb 0 b.index) v) in
        and_both (ltb 0 a.term) (ltb 0 a.index) (lt-ltb 0 a.term (omega arith)) (lt-ltb 0 a.index (omega arith))

implied : (v f : Bool) → (f ≡ true → v ≡ true) → (v && f) ≡ f
implied true f h = refl
implied false true h = h refl
implied false false h = refl

valid-follows : (a b : VoterSlotLogId) (allow_equal : Bool) → valid_log_id b ≡ true → (valid_log_id a && follows a b allow_equal) ≡ follows a b allow_equal
valid-follows a b allow_equal v = implied (valid_log_id a) (follows a b allow_equal) (follows-valid a b allow_equal v)

index-follows : (a b : VoterSlotLogId) → b.index < a.index → b.term ≤ a.term → follows a b false ≡ true
unfolding follows
index-follows a b i t = rw (ne_eqb a.index b.index (λ q. omega arith), lt-ltb b.index a.index i, le-leb b.term a.term t)

pub follows-trans : (a b c : VoterSlotLogId) → follows a b false ≡ true → follows b c false ≡ true → follows a c false ≡ true
follows-trans a b c h k =
    let x = follows-index a b h in
    let y = follows-index b c k in
    index-follows a c (omega arith) (omega arith)

-- an Advance's own test of its cut
pub past-prepare : (cut prepare : VoterSlotLogId) → (leb cut.index prepare.index || ltb cut.term prepare.term) ≡ false → follows cut prepare false ≡ true
past-prepare cut prepare h =
    index-follows cut prepare (leb-false _ _ (or_left (leb cut.index prepare.index) (ltb cut.term prepare.term) h))
    (ltb-false _ _ (or_right (leb cut.index prepare.index) (ltb cut.term prepare.term) h))
  where
    or_left : (a b : Bool) → (a || b) ≡ false → a ≡ false
    or_left true b h = absurd (true≢false h)
    or_left false b h = refl

    or_right : (a b : Bool) → (a || b) ≡ false → b ≡ false
    or_right true b h = absurd (true≢false h)
    or_right false b h = h

-- ---- one stage

stage-some : (stage : OptionalLogId) (due : Bool) (previous : VoterSlotLogId) (allow_equal : Bool) → valid_stage stage due previous allow_equal ≡ true → stage.is_some ≡ due
unfolding valid_stage
stage-some stage due previous allow_equal h = go stage.is_some due (and_left (beq stage.is_some due) _ h)
  where
    go : (a b : Bool) → beq a b ≡ true → a ≡ b
    go true true k = refl
    go true false k = absurd (false≢true k)
    go false true k = absurd (false≢true k)
    go false false k = refl

stage-cut : (stage : OptionalLogId) (previous : VoterSlotLogId) (allow_equal : Bool) → valid_stage stage true previous allow_equal ≡ true
    → (valid_log_id stage.cut ≡ true) × (follows stage.cut previous allow_equal ≡ true)
unfolding valid_stage
stage-cut stage previous allow_equal h =
    let s = stage-some stage true previous allow_equal h in
    let k = then-says stage.is_some _ (and_right (beq stage.is_some true) _ h) s in
    (and_left (valid_log_id stage.cut) _ k, and_right (valid_log_id stage.cut) _ k)

stage-absent : (stage : OptionalLogId) (previous : VoterSlotLogId) (allow_equal : Bool) → stage.is_some ≡ false → valid_stage stage false previous allow_equal ≡ true
unfolding valid_stage
stage-absent stage previous allow_equal h =
    ap (λ (b : Bool). beq b false && (not b || (valid_log_id stage.cut && follows stage.cut previous allow_equal))) h

stage-or : (stage : OptionalLogId) (previous : VoterSlotLogId) → stage.is_some ≡ true → stage_or stage previous ≡ stage.cut
unfolding stage_or
stage-or stage previous h = ap (λ (b : Bool). cond b stage.cut previous) h

order-absent : (c : VoterSlotLogId) (other : OptionalLogId) (is_snapshot : Bool) → other.is_some ≡ false → in_order c other is_snapshot ≡ true
unfolding in_order
order-absent c other is_snapshot h =
    ap
    (λ (b : Bool). not b || cond (leb other.cut.index c.index) (follows c other.cut is_snapshot) (follows other.cut c false))
    h

-- ---- the whole evidence, test by test

module _ (e : VoterReplacementEvidence) where
  abbrev after-snapshot : VoterSlotLogId
  after-snapshot = stage_or (snapshot_cut e) e.prepare

  abbrev after-learner : VoterSlotLogId
  after-learner = stage_or e.learner after-snapshot

  abbrev after-caught-up : VoterSlotLogId
  after-caught-up = stage_or e.caught_up after-learner

  abbrev after-fence : VoterSlotLogId
  after-fence = stage_or e.fence after-caught-up

  abbrev after-joint : VoterSlotLogId
  after-joint = stage_or e.joint after-fence

  abbrev stage_tests : ℕ → List Bool
  stage_tests phase =
      valid_stage (snapshot_cut e) (leb snapshot_installed phase) e.prepare true
      ∷ valid_stage e.learner (leb learner_added phase) after-snapshot false
      ∷ valid_stage e.caught_up (leb caught_up phase) after-learner false
      ∷ valid_stage e.fence (leb fenced phase) after-caught-up false
      ∷ valid_stage e.joint (leb joint phase) after-fence false
      ∷ valid_stage e.uniform (leb uniform phase) after-joint false
      ∷ []

  abbrev id_test : Bool
  id_test = not e.has_snapshot || valid_snapshot_id e.snapshot.snapshot_id

  -- valid evidence of a phase
  record Valid (phase : ℕ) : Type 0 where
    pub prepare : valid_log_id e.prepare ≡ true
    pub id : id_test ≡ true
    pub stages : Each (stage_tests phase)
    pub continuation : valid_continuation e ≡ true

  evidence-parts : (phase : ℕ) → valid_evidence e phase ≡ true → Valid phase
  unfolding valid_evidence valid_stages all_true
  evidence-parts phase h =
      let k = each (valid_log_id e.prepare ∷ id_test ∷ valid_stages e phase ∷ valid_continuation e ∷ []) h in
      record { prepare = k.0; id = k.1.0; stages = each (stage_tests phase) k.1.1.0; continuation = k.1.1.1 }

  stages-all : (phase : ℕ) → valid_evidence e phase ≡ true → valid_stages e phase ≡ true
  unfolding valid_evidence
  stages-all phase h = and_left (valid_stages e phase) (valid_continuation e) (and_right id_test _ (and_right (valid_log_id e.prepare) _ h))

and-both-true : (x : Bool) → ((x && true) && true) ≡ x
and-both-true x = and-true (x && true) ∙ and-true x

-- what is not there yet
module _ (e : VoterReplacementEvidence) where
  pub no-snapshot : valid_evidence e prepared ≡ true → e.has_snapshot ≡ false
  no-snapshot h = stage-some (snapshot_cut e) false e.prepare true (evidence-parts e prepared h).stages.0

  pub no-learner : valid_evidence e snapshot_installed ≡ true → e.learner.is_some ≡ false
  no-learner h = stage-some e.learner false (after-snapshot e) false (evidence-parts e snapshot_installed h).stages.1.0

  pub no-fence : valid_evidence e caught_up ≡ true → e.fence.is_some ≡ false
  no-fence h = stage-some e.fence false (after-caught-up e) false (evidence-parts e caught_up h).stages.1.1.1.0

  pub no-joint : valid_evidence e fenced ≡ true → e.joint.is_some ≡ false
  no-joint h = stage-some e.joint false (after-fence e) false (evidence-parts e fenced h).stages.1.1.1.1.0

  pub no-uniform : valid_evidence e joint ≡ true → e.uniform.is_some ≡ false
  no-uniform h = stage-some e.uniform false (after-joint e) false (evidence-parts e joint h).stages.1.1.1.1.1

  -- the caught-up mark: none while a learner is added, and after the learner's cut from then on
  pub no-mark : valid_evidence e learner_added ≡ true → e.caught_up.is_some ≡ false
  no-mark h = stage-some e.caught_up false (after-learner e) false (evidence-parts e learner_added h).stages.1.1.0

  pub mark-after : valid_evidence e caught_up ≡ true → (e.caught_up.is_some ≡ true) × (follows e.caught_up.cut e.learner.cut false ≡ true)
  mark-after h =
      let s = (evidence-parts e caught_up h).stages in
      let l = stage-or e.learner (after-snapshot e) (stage-some e.learner true (after-snapshot e) false s.1.0) in (
        stage-some e.caught_up true (after-learner e) false s.1.1.0,
        sym (ap (λ (q : VoterSlotLogId). follows e.caught_up.cut q false) l) ∙ (stage-cut e.caught_up (after-learner e) false s.1.1.0).1,
      )

-- a stage that is added
stage-added : (cut previous : VoterSlotLogId) (allow_equal : Bool) → valid_log_id previous ≡ true
    → valid_stage (present cut) true previous allow_equal ≡ follows cut previous allow_equal
unfolding valid_stage
stage-added cut previous allow_equal v = valid-follows cut previous allow_equal v

-- after a stage that is there
stage-next : (stage : OptionalLogId) (older cut : VoterSlotLogId) (allow_older allow_equal : Bool) → valid_stage stage true older allow_older ≡ true
    → valid_stage (present cut) true (stage_or stage older) allow_equal ≡ follows cut stage.cut allow_equal
stage-next stage older cut allow_older allow_equal h =
    ap (λ (q : VoterSlotLogId). valid_stage (present cut) true q allow_equal) (stage-or stage older (stage-some stage true older allow_older h))
    ∙ stage-added cut stage.cut allow_equal (stage-cut stage older allow_older h).0

-- of tests that all hold, one is put in another's place
under : (l old new y : Bool) → (l && old) ≡ true → (old ≡ true → new ≡ y) → (l && new) ≡ y
under true old new y h k = k h
under false old new y h k = absurd (false≢true h)

here : (x rest y : Bool) → (x && rest) ≡ true → (y && rest) ≡ y
here x rest y h = ap (λ (b : Bool). y && b) (and_right x rest h) ∙ and-true y

if_some : (some old new y : Bool) → (not some || old) ≡ true → (old ≡ true → new ≡ y) → (not some || new) ≡ (not some || y)
if_some true old new y h k = k h
if_some false old new y h k = refl

module _ (e : VoterReplacementEvidence) (cut : VoterSlotLogId) where
  -- ---- joint and uniform

  joint-in-order : valid_continuation (with_joint e cut) ≡ valid_continuation e
  unfolding valid_continuation
  joint-in-order = refl

  uniform-in-order : valid_continuation (with_uniform e cut) ≡ valid_continuation e
  unfolding valid_continuation
  uniform-in-order = refl

  pub joint-test : valid_evidence e fenced ≡ true → valid_evidence (with_joint e cut) joint ≡ follows cut e.fence.cut false
  unfolding valid_evidence valid_stages
  joint-test h =
      let v = evidence-parts e fenced h in
      let s = v.stages in
      let u = stage-absent e.uniform (after-joint (with_joint e cut)) false (stage-some e.uniform false (after-joint e) false s.1.1.1.1.1) in
      let n = stage-next e.fence (after-caught-up e) cut false false s.1.1.1.0 in
      rw (v.prepare, v.id, s.0, s.1.0, s.1.1.0, s.1.1.1.0, u, joint-in-order, v.continuation, n)
      (and-both-true (follows cut e.fence.cut false))

  pub uniform-test : valid_evidence e joint ≡ true → valid_evidence (with_uniform e cut) uniform ≡ follows cut e.joint.cut false
  unfolding valid_evidence valid_stages
  uniform-test h =
      let v = evidence-parts e joint h in
      let s = v.stages in
      let n = stage-next e.joint (after-fence e) cut false false s.1.1.1.1.0 in
      rw (v.prepare, v.id, s.0, s.1.0, s.1.1.0, s.1.1.1.0, s.1.1.1.1.0, uniform-in-order, v.continuation, n)
      (and-true (follows cut e.joint.cut false))

  -- ---- the fence

  fence-in-order : valid_continuation e ≡ true
      → valid_continuation (with_fence e cut) ≡ (not e.continuation.is_some || follows cut e.continuation.cut false)
  unfolding valid_continuation
  fence-in-order h =
      let c = e.continuation.cut in
      if_some e.continuation.is_some _ _ (follows cut c false) h
      (λ h. under (valid_log_id c) _ _ (follows cut c false) h (λ h. under (follows c e.prepare false) _ _ (follows cut c false) h
      (λ h. here (not e.fence.is_some || follows e.fence.cut c false) _ (follows cut c false) h)))

  pub fence-test : valid_evidence e caught_up ≡ true
      → valid_evidence (with_fence e cut) fenced
      ≡ (follows cut e.caught_up.cut false && (not e.continuation.is_some || follows cut e.continuation.cut false))
  unfolding valid_evidence valid_stages
  fence-test h =
      let v = evidence-parts e caught_up h in
      let s = v.stages in
      let j = stage-absent e.joint (after-fence (with_fence e cut)) false (stage-some e.joint false (after-fence e) false s.1.1.1.1.0) in
      let u = stage-absent e.uniform (after-joint (with_fence e cut)) false (stage-some e.uniform false (after-joint e) false s.1.1.1.1.1) in
      let n = stage-next e.caught_up (after-learner e) cut false false s.1.1.0 in
      rw (v.prepare, v.id, s.0, s.1.0, s.1.1.0, j, u, fence-in-order v.continuation, n)
      (ap
      (λ (b : Bool). b && (not e.continuation.is_some || follows cut e.continuation.cut false))
      (and-true (follows cut e.caught_up.cut false)))

  -- ---- the learner

  learner-in-order : valid_continuation e ≡ true
      → valid_continuation (with_learner e cut) ≡ (not e.continuation.is_some || in_order e.continuation.cut (present cut) false)
  unfolding valid_continuation
  learner-in-order h =
      let c = e.continuation.cut in
      let y = in_order c (present cut) false in
      if_some e.continuation.is_some _ _ y h
      (λ h. under (valid_log_id c) _ _ y h
      (λ h. under (follows c e.prepare false) _ _ y h
      (λ h. under (not e.fence.is_some || follows e.fence.cut c false) _ _ y h
      (λ h. under (in_order c (snapshot_cut e) true) _ _ y h (λ h. here (in_order c e.learner false) _ y h)))))

  pub learner-test : valid_evidence e snapshot_installed ≡ true
      → valid_evidence (with_learner e cut) learner_added
      ≡ (follows cut e.snapshot.cut false && (not e.continuation.is_some || in_order e.continuation.cut (present cut) false))
  unfolding valid_evidence valid_stages
  learner-test h =
      let v = evidence-parts e snapshot_installed h in
      let s = v.stages in
      let n = with_learner e cut in
      let k = stage-absent e.caught_up (after-learner n) false (stage-some e.caught_up false (after-learner e) false s.1.1.0) in
      let f = stage-absent e.fence (after-caught-up n) false (stage-some e.fence false (after-caught-up e) false s.1.1.1.0) in
      let j = stage-absent e.joint (after-fence n) false (stage-some e.joint false (after-fence e) false s.1.1.1.1.0) in
      let u = stage-absent e.uniform (after-joint n) false (stage-some e.uniform false (after-joint e) false s.1.1.1.1.1) in
      let q = stage-next (snapshot_cut e) e.prepare cut true false s.0 in
      rw (v.prepare, v.id, s.0, k, f, j, u, learner-in-order v.continuation, q)
      (ap
      (λ (b : Bool). b && (not e.continuation.is_some || in_order e.continuation.cut (present cut) false))
      (and-true (follows cut e.snapshot.cut false)))

  -- ---- the caught-up mark, first and moved on

  caught-up-in-order : valid_continuation e ≡ true
      → valid_continuation (with_caught_up e cut) ≡ (not e.continuation.is_some || in_order e.continuation.cut (present cut) false)
  unfolding valid_continuation
  caught-up-in-order h =
      let c = e.continuation.cut in
      let y = in_order c (present cut) false in
      if_some e.continuation.is_some _ _ y h
      (λ h. under (valid_log_id c) _ _ y h
      (λ h. under (follows c e.prepare false) _ _ y h
      (λ h. under (not e.fence.is_some || follows e.fence.cut c false) _ _ y h
      (λ h. under (in_order c (snapshot_cut e) true) _ _ y h (λ h. under (in_order c e.learner false) _ _ y h (λ h. refl))))))

  pub caught-up-test : (phase : ℕ) → leb snapshot_installed phase ≡ true → leb learner_added phase ≡ true → leb fenced phase ≡ false → leb joint phase ≡ false → leb uniform phase ≡ false
      → valid_evidence e phase ≡ true
      → valid_evidence (with_caught_up e cut) caught_up
      ≡ (follows cut e.learner.cut false && (not e.continuation.is_some || in_order e.continuation.cut (present cut) false))
  unfolding valid_evidence valid_stages
  caught-up-test phase is_one is-two no-four no-five no_six h =
      let v = evidence-parts e phase h in
      let s = v.stages in
      let n = with_caught_up e cut in
      let s0 : valid_stage (snapshot_cut e) true e.prepare true ≡ true = rw is_one at s.0 in
      let s1 : valid_stage e.learner true (after-snapshot e) false ≡ true = rw is-two at s.1.0 in
      let f = stage-absent e.fence (after-caught-up n) false (stage-some e.fence (leb fenced phase) (after-caught-up e) false s.1.1.1.0 ∙ no-four) in
      let j = stage-absent e.joint (after-fence n) false (stage-some e.joint (leb joint phase) (after-fence e) false s.1.1.1.1.0 ∙ no-five) in
      let u = stage-absent e.uniform (after-joint n) false (stage-some e.uniform (leb uniform phase) (after-joint e) false s.1.1.1.1.1 ∙ no_six) in
      let q = stage-next e.learner (after-snapshot e) cut false false s1 in
      rw (v.prepare, v.id, s0, s1, f, j, u, caught-up-in-order v.continuation, q)
      (ap
      (λ (b : Bool). b && (not e.continuation.is_some || in_order e.continuation.cut (present cut) false))
      (and-true (follows cut e.learner.cut false)))

  -- ---- the continuation

  continuation-stages : (phase : ℕ) → valid_stages (with_continuation e cut) phase ≡ valid_stages e phase
  unfolding valid_stages
  continuation-stages phase = refl

  pub continuation-test : (phase : ℕ) → leb fenced phase ≡ false → valid_evidence e phase ≡ true
      → valid_evidence (with_continuation e cut) phase
      ≡ (follows cut e.prepare false
      && (in_order cut (snapshot_cut e) true && (in_order cut e.learner false && in_order cut e.caught_up false)))
  unfolding valid_evidence valid_continuation
  continuation-test phase no-four h =
      let v = evidence-parts e phase h in
      let f = stage-some e.fence (leb fenced phase) (after-caught-up e) false v.stages.1.1.1.0 ∙ no-four in
      let st = stages-all e phase h in
      rw (v.prepare, v.id, continuation-stages phase, st)
      (ap
      (λ (b : Bool).
      valid_log_id cut
      && (follows cut e.prepare false
      && ((not b || follows e.fence.cut cut false)
      && (in_order cut (snapshot_cut e) true && (in_order cut e.learner false && in_order cut e.caught_up false)))))
      f
      ∙ implied (valid_log_id cut)
      (follows cut e.prepare false && (in_order cut (snapshot_cut e) true && (in_order cut e.learner false && in_order cut e.caught_up false)))
      (λ k. follows-valid cut e.prepare false v.prepare (and_left (follows cut e.prepare false) _ k)))

-- ---- the snapshot

module _ (e : VoterReplacementEvidence) (snapshot : VoterSnapshotEvidence) where
  snapshot-in-order : valid_continuation e ≡ true
      → valid_continuation (with_snapshot e snapshot) ≡ (not e.continuation.is_some || in_order e.continuation.cut (present snapshot.cut) true)
  unfolding valid_continuation
  snapshot-in-order h =
      let c = e.continuation.cut in
      let y = in_order c (present snapshot.cut) true in
      if_some e.continuation.is_some _ _ y h
      (λ h. under (valid_log_id c) _ _ y h
      (λ h. under (follows c e.prepare false) _ _ y h
      (λ h. under (not e.fence.is_some || follows e.fence.cut c false) _ _ y h (λ h. here (in_order c (snapshot_cut e) true) _ y h))))

  pub snapshot-test : valid_evidence e prepared ≡ true
      → valid_evidence (with_snapshot e snapshot) snapshot_installed
      ≡ (valid_snapshot_id snapshot.snapshot_id
      && (follows snapshot.cut e.prepare true
      && (not e.continuation.is_some || in_order e.continuation.cut (present snapshot.cut) true)))
  unfolding valid_evidence valid_stages
  snapshot-test h =
      let v = evidence-parts e prepared h in
      let s = v.stages in
      let n = with_snapshot e snapshot in
      let l = stage-absent e.learner (after-snapshot n) false (stage-some e.learner false (after-snapshot e) false s.1.0) in
      let k = stage-absent e.caught_up (after-learner n) false (stage-some e.caught_up false (after-learner e) false s.1.1.0) in
      let f = stage-absent e.fence (after-caught-up n) false (stage-some e.fence false (after-caught-up e) false s.1.1.1.0) in
      let j = stage-absent e.joint (after-fence n) false (stage-some e.joint false (after-fence e) false s.1.1.1.1.0) in
      let u = stage-absent e.uniform (after-joint n) false (stage-some e.uniform false (after-joint e) false s.1.1.1.1.1) in
      rw (v.prepare, l, k, f, j, u, snapshot-in-order v.continuation, stage-added snapshot.cut e.prepare true v.prepare)
      (ap
      (λ (b : Bool).
      valid_snapshot_id snapshot.snapshot_id
      && (b && (not e.continuation.is_some || in_order e.continuation.cut (present snapshot.cut) true)))
      (and-true (follows snapshot.cut e.prepare true)))

-- ---- what was there is kept

same-log-sym : (a b : VoterSlotLogId) → same_voter_slot_log_id a b ≡ same_voter_slot_log_id b a
same-log-sym a b = go (same_voter_slot_log_id a b) (same_voter_slot_log_id b a) refl refl
  where
    go : (p q : Bool) → same_voter_slot_log_id a b ≡ p → same_voter_slot_log_id b a ≡ q → p ≡ q
    go true true h k = refl
    go false false h k = refl
    go true false h k =
        let e = same_voter_slot_log_id-true a b h in
        sym (eq-same same_voter_slot_log_id same_voter_slot_log_id-refl b a (sym e)) ∙ k
    go false true h k =
        let e = same_voter_slot_log_id-true b a k in
        sym (sym (eq-same same_voter_slot_log_id same_voter_slot_log_id-refl a b (sym e)) ∙ h)

cut-absent : (new old : OptionalLogId) → old.is_some ≡ false → retains_cut new old ≡ true
unfolding retains_cut
cut-absent new old h = ap (λ (b : Bool). not b || (new.is_some && same_voter_slot_log_id new.cut old.cut)) h

module _ (e : VoterReplacementEvidence) (phase : ℕ) where
  snapshot-kept : (not e.has_snapshot || (e.has_snapshot && same_voter_snapshot_evidence e.snapshot e.snapshot)) ≡ true
  snapshot-kept = simp (same_voter_snapshot_evidence-refl, and-true, not-or_self)

  pub retains-snapshot : (snapshot : VoterSnapshotEvidence) → e.has_snapshot ≡ false → retains (with_snapshot e snapshot) e phase ≡ true
  unfolding retains retains_cuts
  retains-snapshot snapshot h =
      rw (
        same_voter_slot_log_id-refl e.prepare,
        ap (λ (b : Bool). not b || same_voter_snapshot_evidence snapshot e.snapshot) h,
        retains_marker-refl e.caught_up phase,
        retains_cut-refl e.learner,
        retains_cut-refl e.continuation,
        retains_cut-refl e.fence,
        retains_cut-refl e.joint,
      )
      (retains_cut-refl e.uniform)

  pub retains-learner : (cut : VoterSlotLogId) → e.learner.is_some ≡ false → retains (with_learner e cut) e phase ≡ true
  unfolding retains retains_cuts
  retains-learner cut h =
      rw (same_voter_slot_log_id-refl e.prepare, snapshot-kept, retains_marker-refl e.caught_up phase, cut-absent (present cut) e.learner h, retains_cut-refl e.continuation, retains_cut-refl e.fence, retains_cut-refl e.joint)
      (retains_cut-refl e.uniform)

  pub retains-continuation : (cut : VoterSlotLogId) → e.continuation.is_some ≡ false → retains (with_continuation e cut) e phase ≡ true
  unfolding retains retains_cuts
  retains-continuation cut h =
      rw (same_voter_slot_log_id-refl e.prepare, snapshot-kept, retains_marker-refl e.caught_up phase, retains_cut-refl e.learner, cut-absent (present cut) e.continuation h, retains_cut-refl e.fence, retains_cut-refl e.joint)
      (retains_cut-refl e.uniform)

  pub retains-fence : (cut : VoterSlotLogId) → e.fence.is_some ≡ false → retains (with_fence e cut) e phase ≡ true
  unfolding retains retains_cuts
  retains-fence cut h =
      rw (same_voter_slot_log_id-refl e.prepare, snapshot-kept, retains_marker-refl e.caught_up phase, retains_cut-refl e.learner, retains_cut-refl e.continuation, cut-absent (present cut) e.fence h, retains_cut-refl e.joint)
      (retains_cut-refl e.uniform)

  pub retains-joint : (cut : VoterSlotLogId) → e.joint.is_some ≡ false → retains (with_joint e cut) e phase ≡ true
  unfolding retains retains_cuts
  retains-joint cut h =
      rw (same_voter_slot_log_id-refl e.prepare, snapshot-kept, retains_marker-refl e.caught_up phase, retains_cut-refl e.learner, retains_cut-refl e.continuation, retains_cut-refl e.fence, cut-absent (present cut) e.joint h)
      (retains_cut-refl e.uniform)

  pub retains-uniform : (cut : VoterSlotLogId) → e.uniform.is_some ≡ false → retains (with_uniform e cut) e phase ≡ true
  unfolding retains retains_cuts
  retains-uniform cut h =
      rw (same_voter_slot_log_id-refl e.prepare, snapshot-kept, retains_marker-refl e.caught_up phase, retains_cut-refl e.learner, retains_cut-refl e.continuation, retains_cut-refl e.fence, retains_cut-refl e.joint)
      (cut-absent (present cut) e.uniform h)

  retains-mark : (mark : VoterSlotLogId) → retains (with_caught_up e mark) e phase ≡ retains_marker (present mark) e.caught_up phase
  unfolding retains retains_cuts
  retains-mark mark =
      rw (
        same_voter_slot_log_id-refl e.prepare,
        snapshot-kept,
        retains_cut-refl e.learner,
        retains_cut-refl e.continuation,
        retains_cut-refl e.fence,
        retains_cut-refl e.joint,
        retains_cut-refl e.uniform,
      )
      (and-true (retains_marker (present mark) e.caught_up phase))

  -- before the fence, and of a mark that is not the one there
  pub retains-caught-up : (mark : VoterSlotLogId) → ltb phase fenced ≡ true
      → (e.caught_up.is_some && same_voter_slot_log_id e.caught_up.cut mark) ≡ false
      → retains (with_caught_up e mark) e phase ≡ (not e.caught_up.is_some || follows mark e.caught_up.cut false)
  unfolding retains_marker
  retains-caught-up mark early other =
      retains-mark mark
      ∙ go e.caught_up.is_some (same_voter_slot_log_id e.caught_up.cut mark) (same_voter_slot_log_id mark e.caught_up.cut) (same-log-sym mark e.caught_up.cut) (ltb phase fenced) early
      (follows mark e.caught_up.cut false) other
    where
      go : (some same' same : Bool) → same ≡ same' → (is-early : Bool) → is-early ≡ true → (f : Bool) → (some && same') ≡ false
          → (not some || (same || (is-early && f))) ≡ (not some || f)
      go false s' s q l k f h = refl
      go true true s q l k f h = absurd (true≢false h)
      go true false true q l k f h = absurd (true≢false q)
      go true false false q true k f h = refl
      go true false false q false k f h = absurd (false≢true k)

-- ---- in the last phase the latest cut is the last stage's

later-below : (a : VoterSlotLogId) (stage : OptionalLogId) (n : ℕ) → a.index < n → (stage.is_some ≡ true → stage.cut.index < n) → (later_of a stage).index < n
unfolding later_of
later-below a stage n h k = go stage.is_some (ltb a.index stage.cut.index) k
  where
    go : (some later : Bool) → (some ≡ true → stage.cut.index < n) → (cond (some && later) stage.cut a).index < n
    go true true m = m refl
    go true false m = h
    go false later m = h

later_last : (a : VoterSlotLogId) (stage : OptionalLogId) → stage.is_some ≡ true → a.index < stage.cut.index → later_of a stage ≡ stage.cut
unfolding later_of
later_last a stage some h =
    cond-true (stage.is_some && ltb a.index stage.cut.index) stage.cut a (and_both _ _ some (lt-ltb a.index stage.cut.index h))

-- a stage after one that is there has the greater index
stage-above : (stage before : OptionalLogId) (older : VoterSlotLogId) → valid_stage stage true (stage_or before older) false ≡ true → before.is_some ≡ true
    → before.cut.index < stage.cut.index
stage-above stage before older h some =
    (follows-index stage.cut before.cut
    (sym (ap (λ (q : VoterSlotLogId). follows stage.cut q false) (stage-or before older some)) ∙ (stage-cut stage (stage_or before older) false h).1)).0

first_above : (cut prepare : VoterSlotLogId) → follows cut prepare true ≡ true → prepare.index ≤ cut.index
unfolding follows
first_above cut prepare h = go (eqb cut.index prepare.index) refl h
  where
    go : (t : Bool) → eqb cut.index prepare.index ≡ t
        → cond t (true && same_voter_slot_log_id cut prepare) (ltb prepare.index cut.index && leb prepare.term cut.term) ≡ true → prepare.index ≤ cut.index
    go true e k = let q = eqb-true cut.index prepare.index e in omega arith
    go false e k = let q = ltb-true prepare.index cut.index (and_left (ltb prepare.index cut.index) _ k) in omega arith

continuation-below : (e : VoterReplacementEvidence) → valid_continuation e ≡ true → e.fence.is_some ≡ true → e.continuation.is_some ≡ true
    → e.continuation.cut.index < e.fence.cut.index
unfolding valid_continuation
continuation-below e h f c =
    let k = then-says e.continuation.is_some _ h c in
    let m = and_right (follows e.continuation.cut e.prepare false) _ (and_right (valid_log_id e.continuation.cut) _ k) in
    let n = and_left (not e.fence.is_some || follows e.fence.cut e.continuation.cut false) _ m in
    (follows-index e.fence.cut e.continuation.cut (then-says e.fence.is_some _ n f)).0

pub latest-uniform : (e : VoterReplacementEvidence) → valid_evidence e uniform ≡ true → latest e ≡ e.uniform.cut
unfolding latest
latest-uniform e h =
    let v = evidence-parts e uniform h in
    let s = v.stages in
    let p0 = stage-some (snapshot_cut e) true e.prepare true s.0 in
    let p1 = stage-some e.learner true (after-snapshot e) false s.1.0 in
    let p2 = stage-some e.caught_up true (after-learner e) false s.1.1.0 in
    let p3 = stage-some e.fence true (after-caught-up e) false s.1.1.1.0 in
    let p4 = stage-some e.joint true (after-fence e) false s.1.1.1.1.0 in
    let p5 = stage-some e.uniform true (after-joint e) false s.1.1.1.1.1 in
    let n = e.uniform.cut.index in
    let l5 : e.joint.cut.index < n = stage-above e.uniform e.joint (after-fence e) s.1.1.1.1.1 p4 in
    let l4 : e.fence.cut.index < e.joint.cut.index = stage-above e.joint e.fence (after-caught-up e) s.1.1.1.1.0 p3 in
    let l3 : e.caught_up.cut.index < e.fence.cut.index = stage-above e.fence e.caught_up (after-learner e) s.1.1.1.0 p2 in
    let l2 : e.learner.cut.index < e.caught_up.cut.index = stage-above e.caught_up e.learner (after-snapshot e) s.1.1.0 p1 in
    let l1 : e.snapshot.cut.index < e.learner.cut.index = stage-above e.learner (snapshot_cut e) e.prepare s.1.0 p0 in
    let l0 : e.prepare.index ≤ e.snapshot.cut.index = first_above e.snapshot.cut e.prepare (stage-cut (snapshot_cut e) e.prepare true s.0).1 in
    let a1 = later-below e.prepare (snapshot_cut e) n (omega arith) (λ q. omega arith) in
    let a2 = later-below _ e.learner n a1 (λ q. omega arith) in
    let a3 = later-below _ e.caught_up n a2 (λ q. omega arith) in
    let a4 = later-below _ e.continuation n a3 (λ q. (let c = continuation-below e v.continuation p3 q in omega arith)) in
    let a5 = later-below _ e.fence n a4 (λ q. omega arith) in
    let a6 = later-below _ e.joint n a5 (λ q. omega arith) in
    later_last _ e.uniform p5 a6
