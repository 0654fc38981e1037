-- The verdict on a table that is known to be valid is that of Judgement, and on any other table but
-- for validity, which is asked for only where something is new.
-- `observes-as` and `observes-valid` say so of the whole call; `weighed-room` is what a maker asks
-- for.
-- Assumes nothing.
use Rattle.std.specs.Prelude.{ℕ, ◌≤◌, ◌≡◌, Bool, not, ◌&&◌, ◌||◌, List, ◌∷◌, [], leb, length}
use Rattle.std.proofs.Math.Path.{refl, sym, ap}
use Rattle.std.proofs.Common.{◌∙◌}
use Rattle.std.proofs.Math.Bool.{true, false, cond}
use Rattle.std.proofs.lemmas.Bool.{false≢true}
use Rattle.std.proofs.Math.Dec.{eqb, ltb}
use borrow.Author.Tests.{eqb-false, eqb-true, leb-true, ltb-true}
use Rattle.identity.specs.Answer.{is_accepted, Answer, Accepted, InvalidTransition, NotRising, RevisionExhausted, Unrepresentable}
use Rattle.identity.specs.Text.{every}
use Rattle.identity.specs.Utf8Laws.{and_left, and_right}
use Rattle.records.specs.declared.records.VoterSlotLogId.{VoterSlotLogId}
use Rattle.records.specs.declared.records.VoterSlotTable.{VoterSlotTable}
use Rattle.records.specs.Representable.{representable, representable_replacement}
use Rattle.records.specs.RepresentableParts.{configuration-is, replacement-is, table_is}
use Rattle.records.specs.TestLaws.{and_both, cond-false, cond-true, says, then-says}
use Rattle.records.specs.Blank.{blank_voter_replacement_record}
use Rattle.records.specs.Equality.{same_voter_replacement_record}
use Rattle.records.specs.declared.records.VoterReplacementRecord.{VoterReplacementRecord}
use Rattle.records.specs.ValidParts.{valid-parts}
use Rattle.records.specs.Validation.{validate, validity}
use Rattle.control.specs.Control.{current_configuration, full, target_index}
use Rattle.control.specs.DecisionLaws.{branch, refuses}
use Rattle.control.specs.Judgement.{Addition, Verdict, added, carried, joint_test, judge_observation, judge_sight, learner_test, phase_fits, uniform_test}
use Rattle.control.specs.Judgement.Addition.{adds_joint, adds_learner, adds_uniform}
use Rattle.control.specs.Judgement.Verdict.{refused, kept, moves}
use Rattle.control.specs.Observation.{Sight, all_rising, eq_ids, eq_sets, is_held_node_id, is_rising, member_ids, observe_membership, representable_sets, see, split_sets, total}
use Rattle.control.specs.Observation.Sight.{new_joint, new_learner, new_uniform, nothing_new, strange}
use Rattle.control.specs.ObserveSight.{Room, Supplied, answer_of_observed, confirmed, entry_weighed, few_members, is_change, judge_closed, judge_known, judge_seen, judge_sets, weighed}
use Rattle.control.specs.SettleLaws.{observes}

-- ---- validity, where something is new

confirmed-cond : (v b : Bool) (x y : Verdict Addition) → cond b (confirmed v x) (confirmed v y) ≡ confirmed v (cond b x y)
confirmed-cond v true x y = refl
confirmed-cond v false x y = refl

pub confirmed-true : (x : Verdict Addition) → confirmed true x ≡ x
unfolding confirmed
confirmed-true (refused answer) = refl
confirmed-true kept = refl
confirmed-true (moves m) = refl

asks : (v b : Bool) (m : Addition) → cond (v && b) (moves m) (refused InvalidTransition) ≡ confirmed v (cond b (moves m) (refused InvalidTransition))
unfolding confirmed
asks true true m = refl
asks true false m = refl
asks false true m = refl
asks false false m = refl

module _ (t : VoterSlotTable) (cut : VoterSlotLogId) where
  sight-confirmed : (s : Sight) → judge_sight t s cut ≡ confirmed (is_accepted (validity t)) (judge_known t s cut)
  unfolding judge_sight judge_known confirmed
  sight-confirmed strange = refl
  sight-confirmed nothing_new = confirmed-cond (is_accepted (validity t)) (phase_fits t) kept (refused InvalidTransition)
  sight-confirmed new_learner = asks (is_accepted (validity t)) (learner_test t.replacement.evidence cut) adds_learner
  sight-confirmed new_joint = asks (is_accepted (validity t)) (joint_test t.replacement.evidence cut) adds_joint
  sight-confirmed new_uniform = asks (is_accepted (validity t)) (uniform_test t.replacement.evidence cut) adds_uniform

  sets-confirmed : (sets : List (List ℕ)) (nodes : List ℕ) → judge_observation t sets nodes cut ≡ confirmed (is_accepted (validity t)) (judge_sets t sets nodes cut)
  unfolding judge_observation judge_sets confirmed
  sets-confirmed sets nodes =
      let v = is_accepted (validity t) in
      let current = member_ids (current_configuration t) in
      let same = eq_sets sets (current ∷ []) && eq_ids nodes current in
      let there = ltb (target_index t) t.count in
      let sight = see t.replacement sets nodes in
      let open-now = ap (λ (x : Verdict Addition). cond there x (refused InvalidTransition)) (sight-confirmed sight) ∙ confirmed-cond v there (judge_known t sight cut) (refused InvalidTransition) in
      let idle = confirmed-cond v same kept (refused InvalidTransition) in
      ap (λ (x : Verdict Addition). cond (eqb t.revision full) (refused RevisionExhausted) x)
      ((λ i. cond t.has_replacement (open-now i) (idle i)) ∙ confirmed-cond v t.has_replacement (judge_seen t sight cut) (judge_closed t sets nodes))
      ∙ confirmed-cond v (eqb t.revision full) (refused RevisionExhausted) (cond t.has_replacement (judge_seen t sight cut) (judge_closed t sets nodes))

-- ---- the whole call

few-of : (t : VoterSlotTable) → representable t ≡ true → few_members t ≡ true
few-of t h = by t.has_replacement (says (table_is t) h).1.1.1
  where
    op : VoterReplacementRecord
    op = t.replacement

    by : (b : Bool) → cond b (representable_replacement op) (same_voter_replacement_record op blank_voter_replacement_record) ≡ true
        → (leb t.count 9 && (not b || (leb op.predecessor.count 9 && leb op.successor.count 9))) ≡ true
    by true k =
        let r = says (replacement-is op) k in
        let old = says (configuration-is op.predecessor) r.1.0 in
        let new = says (configuration-is op.successor) r.1.1.0 in
        and_both (leb t.count 9) (leb op.predecessor.count 9 && leb op.successor.count 9) (says (table_is t) h).1.0
        (and_both (leb op.predecessor.count 9) (leb op.successor.count 9) old.1.0 new.1.0)
    by false k = and_both (leb t.count 9) true (says (table_is t) h).1.0 refl

module _ (t : VoterSlotTable) (ids counts nodes : List ℕ) (cut : VoterSlotLogId) where
  pub observes-not : representable t ≡ false → observe_membership t ids counts nodes cut ≡ (Unrepresentable, t)
  observes-not h =
      observes t ids counts nodes cut
      ∙ ap
      (λ (b : Bool).
      cond (b && representable_sets ids counts nodes)
      (cond (all_rising (split_sets ids counts) && is_rising nodes) (carried (added t cut) t (judge_observation t (split_sets ids counts) nodes cut)) (NotRising, t))
      (Unrepresentable, t)) h

  pub observes-as : representable t ≡ true
      → observe_membership t ids counts nodes cut ≡ carried (added t cut) t (confirmed (is_accepted (validity t)) (weighed t ids counts nodes cut))
  unfolding weighed confirmed
  observes-as h =
      let v = is_accepted (validity t) in
      let make = added t cut in
      let sets = split_sets ids counts in
      let rising = all_rising sets && is_rising nodes in
      let fits = few_members t && representable_sets ids counts nodes in
      let judged = judge_sets t sets nodes cut in
      observes t ids counts nodes cut
      ∙ (ap
      (λ (b : Bool).
      cond (b && representable_sets ids counts nodes)
      (cond rising (carried make t (judge_observation t sets nodes cut)) (NotRising, t))
      (Unrepresentable, t)) (h ∙ sym (few-of t h))
      ∙ (branch make t fits (cond rising (confirmed v judged) (refused NotRising)) (refused Unrepresentable)
      (branch make t rising (confirmed v judged) (refused NotRising) (ap (carried make t) (sets-confirmed t cut sets nodes)) (refuses make t NotRising))
      (refuses make t Unrepresentable)
      ∙ ap (carried make t)
      (ap (λ (x : Verdict Addition). cond fits x (refused Unrepresentable)) (confirmed-cond v rising judged (refused NotRising))
      ∙ confirmed-cond v fits (cond rising judged (refused NotRising)) (refused Unrepresentable))))

  pub observes-valid : validate t ≡ Accepted → observe_membership t ids counts nodes cut ≡ carried (added t cut) t (weighed t ids counts nodes cut)
  observes-valid h =
      let p = valid-parts t h in
      observes-as p.0
      ∙ (ap (λ (a : Answer). carried (added t cut) t (confirmed (is_accepted a) (weighed t ids counts nodes cut))) p.1
      ∙ ap (carried (added t cut) t) (confirmed-true (weighed t ids counts nodes cut)))

  -- the verdict of the entry point, carried out, is the entry point
  pub observes-entry : observe_membership t ids counts nodes cut ≡ carried (added t cut) t (entry_weighed t ids counts nodes cut)
  unfolding carried
  observes-entry = go (representable t) refl
    where
      go : (b : Bool) → representable t ≡ b
          → observe_membership t ids counts nodes cut ≡ carried (added t cut) t (cond b (confirmed (is_accepted (validity t)) (weighed t ids counts nodes cut)) (refused Unrepresentable))
      go true h = observes-as h
      go false h = observes-not h

-- ---- what a change knows

changes : (b : Bool) (x y : Verdict Addition) → is_change y ≡ false → is_change (cond b x y) ≡ true → (b ≡ true) × (is_change x ≡ true)
changes true x y n h = (refl, h)
changes false x y n h = absurd (false≢true (sym n ∙ h))

changes-not : (b : Bool) (x y : Verdict Addition) → is_change x ≡ false → is_change (cond b x y) ≡ true → (b ≡ false) × (is_change y ≡ true)
changes-not true x y n h = absurd (false≢true (sym n ∙ h))
changes-not false x y n h = (refl, h)

-- what is confirmed was one before
pub confirmed-change : (v : Bool) (x : Verdict Addition) → is_change (confirmed v x) ≡ true → is_change x ≡ true
unfolding confirmed
confirmed-change v (refused answer) h = h
confirmed-change v kept h = h
confirmed-change v (moves m) h = refl

idle-keeps : (b : Bool) → is_change (cond b kept (refused InvalidTransition)) ≡ false
idle-keeps true = refl
idle-keeps false = refl

module _ (t : VoterSlotTable) (ids counts nodes : List ℕ) (cut : VoterSlotLogId) where
  pub weighed-room : is_change (weighed t ids counts nodes cut) ≡ true → Room t
  unfolding weighed judge_sets
  weighed-room h =
      let sets = split_sets ids counts in
      let sight = see t.replacement sets nodes in
      let current = member_ids (current_configuration t) in
      let same = eq_sets sets (current ∷ []) && eq_ids nodes current in
      let fits = changes (few_members t && representable_sets ids counts nodes) (cond (all_rising sets && is_rising nodes) (judge_sets t sets nodes cut) (refused NotRising)) (refused Unrepresentable) refl h in
      let rising = changes (all_rising sets && is_rising nodes) (judge_sets t sets nodes cut) (refused NotRising) refl fits.1 in
      let room = changes-not (eqb t.revision full) (refused RevisionExhausted) (cond t.has_replacement (judge_seen t sight cut) (judge_closed t sets nodes)) refl rising.1 in
      let is_open = changes t.has_replacement (judge_seen t sight cut) (judge_closed t sets nodes) (idle-keeps same) room.1 in
      let there = changes (ltb (target_index t) t.count) (judge_known t sight cut) (refused InvalidTransition) refl is_open.1 in (
        eqb-false t.revision full room.0,
        (leb-true t.count 9 (and_left (leb t.count 9) _ (and_left (few_members t) (representable_sets ids counts nodes) fits.0)), ltb-true (target_index t) t.count there.0),
      )

  -- and so of the entry point's verdict
  pub entry-room : is_change (entry_weighed t ids counts nodes cut) ≡ true → Room t
  entry-room h =
      let v = is_accepted (validity t) in
      weighed-room (confirmed-change v (weighed t ids counts nodes cut) (changes (representable t) (confirmed v (weighed t ids counts nodes cut)) (refused Unrepresentable) refl h).1)

-- ---- what the code's tests tell

pub few-count : (t : VoterSlotTable) → few_members t ≡ true → t.count ≤ 9
few-count t h = leb-true t.count 9 (and_left (leb t.count 9) _ h)

pub few-open : (t : VoterSlotTable) → few_members t ≡ true → t.has_replacement ≡ true → (t.replacement.predecessor.count ≤ 9) × (t.replacement.successor.count ≤ 9)
few-open t h e =
    let old = t.replacement.predecessor.count in
    let new = t.replacement.successor.count in
    let both = then-says t.has_replacement (leb old 9 && leb new 9) (and_right (leb t.count 9) _ h) e in
    (leb-true old 9 (and_left (leb old 9) (leb new 9) both), leb-true new 9 (and_right (leb old 9) (leb new 9) both))

module _ (t : VoterSlotTable) (ids counts nodes : List ℕ) where
  abbrev fits : Bool
  fits = few_members t && representable_sets ids counts nodes

  abbrev rises : Bool
  rises = all_rising (split_sets ids counts) && is_rising nodes

  pub weighed-unfit : (cut : VoterSlotLogId) → fits ≡ false → weighed t ids counts nodes cut ≡ refused Unrepresentable
  unfolding weighed
  weighed-unfit cut h = cond-false fits (cond rises (judge_sets t (split_sets ids counts) nodes cut) (refused NotRising)) (refused Unrepresentable) h

  pub weighed-counted : fits ≡ true → total counts ≡ length ids
  unfolding representable_sets
  weighed-counted h =
      let counted = eqb (total counts) (length ids) in
      let r = and_right (few_members t) (counted && every is_held_node_id ids && every is_held_node_id nodes) h in
      eqb-true (total counts) (length ids)
      (and_left counted (every is_held_node_id ids) (and_left (counted && every is_held_node_id ids) (every is_held_node_id nodes) r))

  pub weighed-supplied : fits ≡ true → rises ≡ true → Supplied ids counts nodes × (few_members t ≡ true)
  unfolding representable_sets
  weighed-supplied h k =
      let counted = eqb (total counts) (length ids) in
      let r = and_right (few_members t) (counted && every is_held_node_id ids && every is_held_node_id nodes) h in (
        record {
          counted = weighed-counted h;
          held = and_right (counted && every is_held_node_id ids) (every is_held_node_id nodes) r;
          rising = and_left (all_rising (split_sets ids counts)) (is_rising nodes) k;
          nodes-rise = and_right (all_rising (split_sets ids counts)) (is_rising nodes) k;
        },
        and_left (few_members t) (representable_sets ids counts nodes) h,
      )

  pub weighed-unsorted : (cut : VoterSlotLogId) → fits ≡ true → rises ≡ false → weighed t ids counts nodes cut ≡ refused NotRising
  unfolding weighed
  weighed-unsorted cut h k =
      cond-true fits (cond rises (judge_sets t (split_sets ids counts) nodes cut) (refused NotRising)) (refused Unrepresentable) h
      ∙ cond-false rises (judge_sets t (split_sets ids counts) nodes cut) (refused NotRising) k

  pub weighed-passed : (cut : VoterSlotLogId) → fits ≡ true → rises ≡ true → weighed t ids counts nodes cut ≡ judge_sets t (split_sets ids counts) nodes cut
  unfolding weighed
  weighed-passed cut h k =
      cond-true fits (cond rises (judge_sets t (split_sets ids counts) nodes cut) (refused NotRising)) (refused Unrepresentable) h
      ∙ cond-true rises (judge_sets t (split_sets ids counts) nodes cut) (refused NotRising) k

-- nothing is made, or something is
pub confirmed-none : (v : Bool) (x : Verdict Addition) → is_change x ≡ false → x ≡ confirmed v x
unfolding confirmed
confirmed-none v (refused answer) h = refl
confirmed-none v kept h = refl
confirmed-none v (moves m) h = absurd (false≢true (sym h))

pub confirmed-some : (v : Bool) (x : Verdict Addition) → is_change x ≡ true → cond v x (refused InvalidTransition) ≡ confirmed v x
unfolding confirmed
confirmed-some v (refused answer) h = absurd (false≢true h)
confirmed-some v kept h = absurd (false≢true h)
confirmed-some v (moves m) h = refl

pub added_none : (make : Addition → VoterSlotTable) (t : VoterSlotTable) (v : Verdict Addition)
    → is_change v ≡ false → ◌≡◌ {A = Answer × VoterSlotTable} (answer_of_observed v, t) (carried make t v)
unfolding carried
added_none make t (refused answer) h = refl
added_none make t kept h = refl
added_none make t (moves m) h = absurd (false≢true (sym h))
