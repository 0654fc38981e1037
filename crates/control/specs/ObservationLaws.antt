-- When an observation is accepted, of any table that the Rust types can hold: by what is seen, by
-- tests of the cut, and by validity where something is new.
-- With nothing new the table made is the same, unless the slot's phase is not that of the request;
-- with something new it differs.
-- Assumes nothing.
use Rattle.std.specs.Prelude.{ℕ, ◌<◌, ◌≡◌, Bool, cond, ◌&&◌, List, ◌∷◌, [], ◌≢◌, set, eqb, ltb}
use Rattle.std.proofs.Math.Path.{refl, ap}
use Rattle.std.proofs.Common.{sym, ◌∙◌, arith}
use Rattle.std.proofs.Math.Bool.{true, false, and-true}
use Rattle.std.proofs.lemmas.List.{set-get_or}
use borrow.Author.Tests.{eqb-true, eqb-false, eq-eqb, ltb-true}
use Rattle.identity.specs.Answer.{is_accepted, Answer, Accepted, InvalidTransition, Unrepresentable}
use Rattle.records.specs.declared.records.VoterSlotLogId.{VoterSlotLogId}
use Rattle.records.specs.declared.records.VoterSlotRecord.{VoterSlotRecord}
use Rattle.records.specs.declared.records.VoterReplacementRecord.{VoterReplacementRecord}
use Rattle.records.specs.declared.records.VoterSlotTable.{VoterSlotTable}
use Rattle.records.specs.Equality.{same_voter_slot_table}
use Rattle.records.specs.EqualityLaws.{ne_same, eq-same, same_voter_slot_table-true, same_voter_slot_table-refl}
use Rattle.records.specs.Evidence.{valid_evidence}
use Rattle.records.specs.Records.{snapshot_installed, learner_added, fenced, joint, uniform, no_slot_record, slot_at}
use Rattle.records.specs.Successor.{succession, first_refusal, validate_successor_of}
use Rattle.records.specs.Representable.{representable}
use Rattle.records.specs.Validation.{target_phase, validity}
use Rattle.records.specs.ValidationLaws.{is-accepted}
use Rattle.records.specs.ValidParts.{valid-joined}
use Rattle.records.specs.With.{table_with, with_learner, with_joint, with_uniform, in_phase}
use Rattle.records.specs.AddedLaws.{learner-fits, joint-fits, uniform-fits, no-learner, no-joint, no-uniform, learner-test, joint-test, uniform-test, retains-learner, retains-joint, retains-uniform}
use Rattle.records.specs.PlaceLaws.{at_place}
use Rattle.records.specs.TestLaws.{cond-true, cond-false, either_way}
use Rattle.control.specs.Control.{settle, full, current_configuration, target_index, target_slot}
use Rattle.control.specs.Control.Decision.{keep, change}
use Rattle.control.specs.Observation.{Sight, eq_ids, eq_sets, member_ids, see, with_target, learner_seen, joint_seen, uniform_seen, raised, keep_or, observed, observe_open, observe}
use Rattle.control.specs.Observation.Sight.{strange, nothing_new, new_learner, new_joint, new_uniform}
use Rattle.control.specs.AdvanceLaws.{epoch-same, valid-at}
use Rattle.control.specs.DecisionLaws.{branch, refuses, keeps, makes, settled, settle-cond}
use Rattle.control.specs.Judgement.{learner_test, joint_test, uniform_test, carried, Addition, added, phase_fits, judge_sight, judge_observation}
use Rattle.control.specs.OpenLaws.{Open, open-of-valid, target-of}
use Rattle.control.specs.SightLaws.{Fits, fits-see}
use Rattle.control.specs.Judgement.Verdict.{refused, kept, moves}
use Rattle.control.specs.Judgement.Addition.{adds_learner, adds_joint, adds_uniform}
use Rattle.control.specs.StepLaws.{stepped-exactly}

-- ---- the table with something new differs

keep-or-new : (t : VoterSlotTable) (epoch : ℕ) (op : VoterReplacementRecord) → op.phase ≢ t.replacement.phase
    → keep_or t (with_target t epoch op) ≡ change (raised (with_target t epoch op))
keep-or-new t epoch op n =
    cond-false (same_voter_slot_table (with_target t epoch op) t) keep (change (raised (with_target t epoch op)))
    (ne_same same_voter_slot_table same_voter_slot_table-true (with_target t epoch op) t (λ e. n (ap (λ (x : VoterSlotTable). x.replacement.phase) e)))

-- with nothing new it is the same, where the slot being replaced has the phase of the request
idle-same : (t : VoterSlotTable) → t.has_replacement ≡ true → (target_slot t).phase ≡ target_phase t.replacement.phase
    → with_target t t.configuration_epoch t.replacement ≡ t
idle-same t is_open h =
    let p : set t.slots (target_index t) (in_phase (target_slot t) (target_phase t.replacement.phase)) ≡ t.slots =
    ap (λ (p : ℕ). set t.slots (target_index t) (in_phase (target_slot t) p)) (sym h) ∙ set-get_or t.slots (target_index t) no_slot_record in
    λ i. table_with t t.revision t.configuration_epoch (p i) (sym is_open i) t.replacement

-- ---- an observation, settled

module _ (t : VoterSlotTable) (o : Open t) where
  -- with nothing new the table is the same
  pub nothing-same : with_target t t.configuration_epoch t.replacement ≡ t
  nothing-same = idle-same t o.open-now (target-of t o).phase

  pub observed-nothing : (cut : VoterSlotLogId) → observed t nothing_new cut ≡ keep
  unfolding observed
  observed-nothing cut =
      let next = with_target t t.configuration_epoch t.replacement in
      cond-true (same_voter_slot_table next t) keep (change (raised next)) (eq-same same_voter_slot_table same_voter_slot_table-refl next t nothing-same)

  pub learner-exactly : (cut : VoterSlotLogId) → t.replacement.phase ≡ snapshot_installed
      → is_accepted (validate_successor_of (raised (with_target t t.configuration_epoch (learner_seen t.replacement cut))) t)
      ≡ learner_test t.replacement.evidence cut
  learner-exactly cut p =
      let e = t.replacement.evidence in
      let v = valid-at t o snapshot_installed p in
      ap
      (λ (epoch : ℕ). is_accepted (validate_successor_of (raised (with_target t epoch (learner_seen t.replacement cut))) t))
      (sym (epoch-same t o learner_added (ap (λ (n : ℕ). eqb n uniform) (sym p))))
      ∙ (stepped-exactly t o learner_added (omega arith) (omega arith) (with_learner e cut) refl (learner-fits e o.parts.evidence cut)
      ∙ (ap (λ (b : Bool). valid_evidence (with_learner e cut) learner_added && b) (retains-learner e t.replacement.phase cut (no-learner e v))
      ∙ (and-true (valid_evidence (with_learner e cut) learner_added) ∙ learner-test e cut v)))

  pub joint-exactly : (cut : VoterSlotLogId) → t.replacement.phase ≡ fenced
      → is_accepted (validate_successor_of (raised (with_target t t.configuration_epoch (joint_seen t.replacement cut))) t)
      ≡ joint_test t.replacement.evidence cut
  joint-exactly cut p =
      let e = t.replacement.evidence in
      let v = valid-at t o fenced p in
      ap
      (λ (epoch : ℕ). is_accepted (validate_successor_of (raised (with_target t epoch (joint_seen t.replacement cut))) t))
      (sym (epoch-same t o joint (ap (λ (n : ℕ). eqb n uniform) (sym p))))
      ∙ (stepped-exactly t o joint (omega arith) (omega arith) (with_joint e cut) refl (joint-fits e o.parts.evidence cut)
      ∙ (ap (λ (b : Bool). valid_evidence (with_joint e cut) joint && b) (retains-joint e t.replacement.phase cut (no-joint e v))
      ∙ (and-true (valid_evidence (with_joint e cut) joint) ∙ joint-test e cut v)))

  pub uniform-exactly : (cut : VoterSlotLogId) → t.replacement.phase ≡ joint
      → is_accepted (validate_successor_of (raised (with_target t t.replacement.successor.epoch (uniform_seen t.replacement cut))) t)
      ≡ uniform_test t.replacement.evidence cut
  uniform-exactly cut p =
      let e = t.replacement.evidence in
      let v = valid-at t o joint p in
      stepped-exactly t o uniform (omega arith) (omega arith) (with_uniform e cut) refl (uniform-fits e o.parts.evidence cut)
      ∙ (ap (λ (b : Bool). valid_evidence (with_uniform e cut) uniform && b) (retains-uniform e t.replacement.phase cut (no-uniform e v))
      ∙ (and-true (valid_evidence (with_uniform e cut) uniform) ∙ uniform-test e cut v))

  -- what is seen, judged on a valid table
  judged : (b : Bool) (cut : VoterSlotLogId) (m : Addition)
      → cond b (Accepted, added t cut m) (InvalidTransition, t) ≡ carried (added t cut) t (cond (is_accepted (validity t) && b) (moves m) (refused InvalidTransition))
  judged b cut m =
      branch (added t cut) t b _ _ (makes _ t m) (refuses _ t _)
      ∙ ap (λ (c : Bool). carried (added t cut) t (cond (c && b) (moves m) (refused InvalidTransition))) (sym (ap is_accepted o.valid))

  settle-seen : (s : Sight) (cut : VoterSlotLogId) → Fits t.replacement s → settle t (observed t s cut) ≡ carried (added t cut) t (judge_sight t s cut)
  unfolding observed settle judge_sight added
  settle-seen strange cut f = refuses _ t _
  settle-seen nothing_new cut f =
      ap (settle t) (observed-nothing cut)
      ∙ (keeps (added t cut) t
      ∙ ap (λ (b : Bool). carried (added t cut) t (cond b kept (refused InvalidTransition))) (sym (eq-eqb _ _ (target-of t o).phase)))
  settle-seen new_learner cut f =
      ap (settle t) (keep-or-new t t.configuration_epoch (learner_seen t.replacement cut) (λ e. omega arith))
      ∙ (settled t _ _ (learner-exactly cut f) ∙ judged (learner_test t.replacement.evidence cut) cut adds_learner)
  settle-seen new_joint cut f =
      ap (settle t) (keep-or-new t t.configuration_epoch (joint_seen t.replacement cut) (λ e. omega arith))
      ∙ (settled t _ _ (joint-exactly cut f) ∙ judged (joint_test t.replacement.evidence cut) cut adds_joint)
  settle-seen new_uniform cut f =
      ap (settle t) (keep-or-new t t.replacement.successor.epoch (uniform_seen t.replacement cut) (λ e. omega arith))
      ∙ (settled t _ _ (uniform-exactly cut f) ∙ judged (uniform_test t.replacement.evidence cut) cut adds_uniform)

-- ---- on any table that the Rust types can hold, valid or not

-- No table may follow one that is not valid.
refused-invalid : (t next : VoterSlotTable) → is_accepted (validity t) ≡ false → settle t (change next) ≡ (InvalidTransition, t)
unfolding validate_successor_of
refused-invalid t next h = settled t next false (go (representable next && representable t) (validity next) (validity t) (succession next t) h)
  where
    after : (a b : Answer) → is_accepted b ≡ false → (s : Bool) → is_accepted a ≡ s → is_accepted (cond s b a) ≡ false
    after a b k true e = k
    after a b k false e = e

    go : (r : Bool) (a b c : Answer) → is_accepted b ≡ false → is_accepted (cond r (first_refusal a (first_refusal b c)) Unrepresentable) ≡ false
    go false a b c k = refl
    go true a b c k = after a (first_refusal b c) (ap is_accepted (cond-false (is_accepted b) c b k) ∙ k) (is_accepted a) refl

module _ (t : VoterSlotTable) (fits : representable t ≡ true) (is_open : t.has_replacement ≡ true) where
  shut : is_accepted (validity t) ≡ false → (b : Bool) (cut : VoterSlotLogId) (m : Addition)
      → (InvalidTransition, t) ≡ carried (added t cut) t (cond (is_accepted (validity t) && b) (moves m) (refused InvalidTransition))
  shut v b cut m = refuses (added t cut) t _ ∙ sym (ap (λ (c : Bool). carried (added t cut) t (cond (c && b) (moves m) (refused InvalidTransition))) v)

  invalid-any : (s : Sight) (cut : VoterSlotLogId) → Fits t.replacement s → target_index t < t.count → is_accepted (validity t) ≡ false
      → settle t (observed t s cut) ≡ carried (added t cut) t (judge_sight t s cut)
  unfolding observed settle judge_sight
  invalid-any strange cut f l v = refuses _ t _
  invalid-any nothing_new cut f l v = by (phase_fits t) refl
    where
      by : (b : Bool) → phase_fits t ≡ b
          → settle t (keep_or t (with_target t t.configuration_epoch t.replacement)) ≡ carried (added t cut) t (cond b kept (refused InvalidTransition))
      by true e =
          let next = with_target t t.configuration_epoch t.replacement in
          ap (settle t)
          (cond-true (same_voter_slot_table next t) keep (change (raised next))
          (eq-same same_voter_slot_table same_voter_slot_table-refl next t (idle-same t is_open (eqb-true (target_slot t).phase (target_phase t.replacement.phase) e))))
          ∙ keeps (added t cut) t
      by false e =
          let next = with_target t t.configuration_epoch t.replacement in
          let s = in_phase (target_slot t) (target_phase t.replacement.phase) in
          ap (settle t)
          (cond-false (same_voter_slot_table next t) keep (change (raised next))
          (ne_same same_voter_slot_table same_voter_slot_table-true next t
          (λ q.
          eqb-false (target_slot t).phase (target_phase t.replacement.phase) e
          (sym (ap (λ (x : VoterSlotTable). (slot_at x (target_index t)).phase) q)
          ∙ ap (λ (x : VoterSlotRecord). x.phase) (at_place t fits (target_index t) l s)))))
          ∙ (refused-invalid t (raised next) v ∙ refuses (added t cut) t _)
  invalid-any new_learner cut f l v =
      ap (settle t) (keep-or-new t t.configuration_epoch (learner_seen t.replacement cut) (λ e. omega arith)) ∙ (refused-invalid t _ v ∙ shut v (learner_test t.replacement.evidence cut) cut adds_learner)
  invalid-any new_joint cut f l v =
      ap (settle t) (keep-or-new t t.configuration_epoch (joint_seen t.replacement cut) (λ e. omega arith)) ∙ (refused-invalid t _ v ∙ shut v (joint_test t.replacement.evidence cut) cut adds_joint)
  invalid-any new_uniform cut f l v =
      ap (settle t) (keep-or-new t t.replacement.successor.epoch (uniform_seen t.replacement cut) (λ e. omega arith)) ∙ (refused-invalid t _ v ∙ shut v (uniform_test t.replacement.evidence cut) cut adds_uniform)

  judged-seen : (s : Sight) (cut : VoterSlotLogId) → Fits t.replacement s → target_index t < t.count → (b : Bool) → is_accepted (validity t) ≡ b
      → settle t (observed t s cut) ≡ carried (added t cut) t (judge_sight t s cut)
  judged-seen s cut f l true v =
      settle-seen t (open-of-valid t (valid-joined t fits (is-accepted (validity t) v)) is_open) s cut f
  judged-seen s cut f l false v = invalid-any s cut f l v

  settle-open : (sets : List (List ℕ)) (nodes : List ℕ) (cut : VoterSlotLogId)
      → settle t (observe_open t sets nodes cut)
      ≡ carried (added t cut) t (cond (ltb (target_index t) t.count) (judge_sight t (see t.replacement sets nodes) cut) (refused InvalidTransition))
  unfolding settle
  settle-open sets nodes cut =
      settle-cond t (ltb (target_index t) t.count) _ _
      ∙ (either_way (ltb (target_index t) t.count) _ _ _ _
      (λ l.
      judged-seen (see t.replacement sets nodes) cut (fits-see t.replacement sets nodes) (ltb-true _ _ l) (is_accepted (validity t)) refl)
      (λ _. refuses (added t cut) t _)
      ∙ branch (added t cut) t (ltb (target_index t) t.count) _ _ refl refl)

-- An observation that passed the tests for 30 and 31, of any table that the Rust types can hold.
pub settle-observe : (t : VoterSlotTable) → representable t ≡ true → (sets : List (List ℕ)) (nodes : List ℕ) (cut : VoterSlotLogId)
    → settle t (observe t sets nodes cut) ≡ carried (added t cut) t (judge_observation t sets nodes cut)
unfolding observe settle judge_observation
settle-observe t fits sets nodes cut =
    let current = member_ids (current_configuration t) in
    let same = eq_sets sets (current ∷ []) && eq_ids nodes current in
    let make = added t cut in
    settle-cond t (eqb t.revision full) _ _
    ∙ branch make t (eqb t.revision full) _ _ (refuses _ t _)
    (settle-cond t t.has_replacement _ _
    ∙ (either_way t.has_replacement _ _ _ _ (λ is_open. settle-open t fits is_open sets nodes cut) (λ _. settle-cond t same _ _ ∙ branch make t same _ _ (keeps _ t) (refuses _ t _))
    ∙ branch make t t.has_replacement _ _ refl refl))
