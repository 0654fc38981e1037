-- Demand 3, proved: each call leaves the table, or raises the revision by one and a measure that
-- reads nothing of the revision (see "the measure" below). Line does the rest.
-- Each name here is a step of the proof, `history`, whose claim is `DemandThree` of History.
-- Assumes nothing.
use Rattle.std.specs.Prelude.{Result, Ok, Err, ℕ, zero, suc, ◌+◌, ◌-◌, ◌*◌, ◌^◌, ◌<◌, ◌≤◌, ◌≡◌, Bool, true, false, not, ◌&&◌, ◌||◌, List, ◌∷◌, [], length, get_or, set}
use Rattle.identity.specs.declared.answer.Refusal.{Refusal}
use Rattle.std.proofs.Math.Path.{refl, ap, subst}
use Rattle.std.proofs.Common.{sym, ◌∙◌, append-nil, inl, inr, ⊎_elim, le_refl, arith, length-append}
use Rattle.std.proofs.Math.Bool.{cond, and-true, and-false}
use Rattle.std.proofs.lemmas.List.{length-replicate}
use Rattle.std.proofs.Math.Dec.{eqb, leb, ltb}
use borrow.Author.Tests.{eqb-true, eqb-false, leb-true, ltb-true, not-true, eq-eqb, le-leb}
use Rattle.identity.specs.Answer.{is_accepted, Answer, Accepted}
use Rattle.identity.specs.Identity.{from_node_id}
use Rattle.identity.specs.Utf8Laws.{and_left, and_right}
use Rattle.identity.specs.declared.identity.VoterSlotIdentity.{VoterSlotIdentity}
use Rattle.records.specs.declared.records.OptionalLogId.{OptionalLogId}
use Rattle.records.specs.declared.records.VoterSlotLogId.{VoterSlotLogId}
use Rattle.records.specs.declared.records.VoterSlotRecord.{VoterSlotRecord}
use Rattle.records.specs.declared.records.VoterSnapshotEvidence.{VoterSnapshotEvidence}
use Rattle.records.specs.declared.records.VoterReplacementEvidence.{VoterReplacementEvidence}
use Rattle.records.specs.declared.records.VoterSlotTable.{VoterSlotTable}
use Rattle.records.specs.Equality.{eq_bytes, same_voter_slot_log_id, same_voter_snapshot_evidence, same_voter_slot_table}
use Rattle.records.specs.EqualityLaws.{same_voter_slot_log_id-refl, same_voter_slot_table-true, same_voter_slot_table-refl}
use Rattle.records.specs.Evidence.{valid_log_id}
use Rattle.records.specs.EvidenceLaws.{Kept}
use Rattle.records.specs.Held.{HeldVoterSlotLogId, HeldVoterSnapshotEvidence, HeldVoterReplacementEvidence, HeldVoterSlotRecord, HeldVoterSlotTable, held-set}
use Rattle.records.specs.Records.{prepared, snapshot_installed, learner_added, caught_up, fenced, joint, uniform, all_below, slot_at, no_slot_record}
use Rattle.records.specs.Representable.{representable}
use Rattle.records.specs.Successor.{validate_successor_of}
use Rattle.records.specs.SuccessorLaws.{Keeps, SlotKept, successor, valid-slots}
use Rattle.records.specs.Validation.{target_phase, validity, validate}
use Rattle.records.specs.ValidationLaws.{is-accepted}
use Rattle.records.specs.With.{operation_with, in_phase, present}
use Rattle.records.specs.HeldParts.{held-present, held-operation, held-table, held-phase}
use Rattle.records.specs.TestLaws.{by-test}
use Rattle.codec.specs.Codec.{table_bytes, decoded, restart_outcome}
use Rattle.codec.specs.CodecLaws.{restarted_same}
use Rattle.control.specs.declared.control.VoterReplacementRequest.{VoterReplacementRequest}
use Rattle.control.specs.declared.control.VoterReplacementStep.{VoterReplacementStep}
use Rattle.control.specs.declared.control.VoterSlotControl.{VoterSlotControl}
use Rattle.control.specs.Control.Decision.{refuse, keep, change}
use Rattle.control.specs.Control.{Decision, settle, full, representable_control, advanced, current_configuration, request_check, is_known, known_digest, repeated, named_index, begin_check, begun_slot, begun, begin, record_snapshot, caught_up_recorded, is_catching_up, record_caught_up, continued, record_continuation, fence, target_index, target_slot, finalized_slot, finalized, finalize, is_completed, take_step, advance_open, advance, is_open_request, marker, decide, apply_control, record_snapshot_kind, record_caught_up_kind, record_continuation_kind, fence_kind, finalize_kind, begin_kind, advance_kind}
use Rattle.control.specs.Held.{HeldVoterReplacementRequest, HeldVoterReplacementStep, HeldVoterSlotControl}
use Rattle.control.specs.HeldLaws.{current-epoch, held-advanced, held-finalized, held-begun}
use Rattle.control.specs.History.Call.{command, observation, restart}
use Rattle.control.specs.History.{Call, with_room, after, table_at, struck_out, IsOpen, DemandThree}
use Rattle.control.specs.LineLaws.{Views, Went, Step, line}
use Rattle.control.specs.Observation.{Sight, eq_ids, eq_sets, is_rising, all_rising, split_sets, representable_sets, member_ids, see, with_target, raised, keep_or, observed, observe, observe_membership}
use Rattle.control.specs.Observation.Sight.{strange, nothing_new, new_learner, new_joint, new_uniform}
use Rattle.control.specs.Retired.{is_below_floor, is_retired_identity, is_retired}
use Rattle.control.specs.RetiredLaws.{valid-yes}
use Rattle.control.specs.OpenLaws.{open-of-valid}
use Rattle.control.specs.BeginCheckLaws.{starts}
use Rattle.control.specs.SightLaws.{Fits, fits-see}
use Rattle.control.specs.ObservationLaws.{observed-nothing}

-- a table of its type that is valid
pub record ValidTable (t : VoterSlotTable) : Type 0 where
  pub held : HeldVoterSlotTable t
  pub valid : validate t ≡ Accepted

-- ---- the measure: it compares in turn the sum of the slots' incarnations (Begin), the phase,
-- where no request open comes after the last phase (the steps, Finalize, observations), the index
-- of the caught-up mark (a second RecordCaughtUp), and whether there is a continuation
-- (RecordContinuation)

abbrev incarnations : List VoterSlotRecord → ℕ
incarnations [] = 0
incarnations (s ∷ l) = s.member.identity.incarnation + incarnations l

abbrev rank_of : VoterSlotTable → ℕ
rank_of t = cond t.has_replacement t.replacement.phase 7

abbrev mark_of : OptionalLogId → ℕ
mark_of m = cond m.is_some (m.cut.index + 1) 0

abbrev flag_of : OptionalLogId → ℕ
flag_of m = cond m.is_some 1 0

abbrev lex : ℕ → ℕ → ℕ → ℕ → ℕ
lex sum rank mark flag = (sum * 256 + rank) * 73786976294838206464 + mark * 2 + flag

abbrev measure : VoterSlotTable → ℕ
measure t = lex (incarnations t.slots) (rank_of t) (mark_of t.replacement.evidence.caught_up) (flag_of t.replacement.evidence.continuation)

module _ (s r m f s' r' m' f' : ℕ) (r_small : r < 256) (m-small : m < 18446744073709551617) (f-small : f < 2) where
  lex-sum : s < s' → lex s r m f < lex s' r' m' f'
  lex-sum h = omega arith

  lex-rank : s ≡ s' → r < r' → lex s r m f < lex s' r' m' f'
  lex-rank e h = omega arith

  lex-mark : s ≡ s' → r ≡ r' → m < m' → lex s r m f < lex s' r' m' f'
  lex-mark e g h = omega arith

  lex-flag : s ≡ s' → r ≡ r' → m ≡ m' → f < f' → lex s r m f < lex s' r' m' f'
  lex-flag e g k h = omega arith

below : (b : Bool) (x y n : ℕ) → x < n → y < n → cond b x y < n
below true x y n h k = h
below false x y n h k = k

module _ (t next : VoterSlotTable) (h : HeldVoterSlotTable t) where
  rank-small : rank_of t < 256
  rank-small = below t.has_replacement t.replacement.phase 7 256 (omega (arith, h.replacement.phase)) (omega arith)

  mark-small : mark_of t.replacement.evidence.caught_up < 18446744073709551617
  mark-small =
      let m = t.replacement.evidence.caught_up in
      below m.is_some (m.cut.index + 1) 0 18446744073709551617 (omega (arith, h.replacement.evidence.caught_up.cut.index)) (omega arith)

  flag_small : flag_of t.replacement.evidence.continuation < 2
  flag_small = below t.replacement.evidence.continuation.is_some 1 0 2 (omega arith) (omega arith)

  by-sum : incarnations t.slots < incarnations next.slots → measure t < measure next
  by-sum = lex-sum _ _ _ _ _ _ _ _ rank-small mark-small flag_small

  by_rank : incarnations t.slots ≡ incarnations next.slots → rank_of t < rank_of next → measure t < measure next
  by_rank = lex-rank _ _ _ _ _ _ _ _ rank-small mark-small flag_small

  by-mark : incarnations t.slots ≡ incarnations next.slots → rank_of t ≡ rank_of next
      → mark_of t.replacement.evidence.caught_up < mark_of next.replacement.evidence.caught_up → measure t < measure next
  by-mark = lex-mark _ _ _ _ _ _ _ _ rank-small mark-small flag_small

  by_flag : incarnations t.slots ≡ incarnations next.slots → rank_of t ≡ rank_of next
      → mark_of t.replacement.evidence.caught_up ≡ mark_of next.replacement.evidence.caught_up
      → flag_of t.replacement.evidence.continuation < flag_of next.replacement.evidence.continuation → measure t < measure next
  by_flag = lex-flag _ _ _ _ _ _ _ _ rank-small mark-small flag_small

-- a slot replaced
same_sum : (l : List VoterSlotRecord) (i : ℕ) (x : VoterSlotRecord) → x.member.identity.incarnation ≡ (get_or l i no_slot_record).member.identity.incarnation
    → incarnations l ≡ incarnations (set l i x)
same_sum [] i x e = refl
same_sum (y ∷ l) zero x e = omega arith
same_sum (y ∷ l) (suc i) x e = let h = same_sum l i x e in omega arith

more-sum : (l : List VoterSlotRecord) (i : ℕ) (x : VoterSlotRecord) → i < length l → (get_or l i no_slot_record).member.identity.incarnation < x.member.identity.incarnation
    → incarnations l < incarnations (set l i x)
more-sum [] i x l h = absurd (omega arith)
more-sum (y ∷ l) zero x b h = omega arith
more-sum (y ∷ l) (suc i) x b h = let k = more-sum l i x (omega arith) h in omega arith

-- the rank while a request is open
rank-open : (t : VoterSlotTable) → t.has_replacement ≡ true → rank_of t ≡ t.replacement.phase
rank-open t o = ap (λ (b : Bool). cond b t.replacement.phase 7) o

-- ---- decisions

-- of the table that a decision makes, if it makes one
abbrev pub Every : (VoterSlotTable → Type 0) → Decision → Type 0
Every P (refuse answer) = Unit {0}
Every P keep = Unit {0}
Every P (change next) = P next

-- what the next table has: it is of its type, one revision on, and larger in measure where it may
-- follow
record Moved (t next : VoterSlotTable) : Type 0 where
  held : HeldVoterSlotTable next
  revision : next.revision ≡ t.revision + 1
  rises : Keeps next t → measure t < measure next

module _ (t : VoterSlotTable) (v : ValidTable t) where
  few : (i : ℕ) → i < t.count → i < 9
  few i l = let c = (valid-slots t v.valid).few in omega arith

  -- a revision that is not full has a next one
  not_full : eqb t.revision full ≡ false → t.revision + 1 < 2 ^ 64
  not_full e = let n = eqb-false t.revision full e in let r = v.held.revision in omega arith

  -- ---- the steps of an Advance

  module _ (o : t.has_replacement ≡ true) (r : t.revision + 1 < 2 ^ 64) (cut : VoterSlotLogId) (c : HeldVoterSlotLogId cut) where
    -- the phase one on
    to-phase : (phase : ℕ) → phase < 2 ^ 8 → (e : VoterReplacementEvidence) → HeldVoterReplacementEvidence e → t.replacement.phase < phase → Moved t (advanced t phase e)
    to-phase phase p e k l =
        record {
          held = held-advanced t v.held phase p e k r;
          revision = refl;
          rises = λ _. by_rank t (advanced t phase e) v.held refl (let q = rank-open t o in omega arith);
        }

    snapshot-moves : (s : VoterSnapshotEvidence) → HeldVoterSnapshotEvidence s → Every (Moved t) (record_snapshot t s cut)
    unfolding record_snapshot
    snapshot-moves s k =
        let op = t.replacement in
        let h = v.held.replacement.evidence in
        by-test (Every (Moved t)) op.evidence.has_snapshot
        (λ _. by-test (Every (Moved t)) (same_voter_snapshot_evidence op.evidence.snapshot s) (λ _. tt) (λ _. tt))
        (λ _. by-test (Every (Moved t)) (eqb op.phase prepared && (ltb s.cut.index cut.index && leb s.cut.term cut.term))
        (λ e.
        let p = eqb-true op.phase prepared (and_left _ _ e) in
        to-phase snapshot_installed (omega arith) _
        (record { prepare = h.prepare; snapshot = k; learner = h.learner; caught_up = h.caught_up; continuation = h.continuation; fence = h.fence; joint = h.joint; uniform = h.uniform })
        (omega arith))
        (λ _. tt))

    fence-moves : Every (Moved t) (fence t cut)
    unfolding fence
    fence-moves =
        let op = t.replacement in
        let h = v.held.replacement.evidence in
        by-test (Every (Moved t)) (leb fenced op.phase) (λ _. tt)
        (λ _. by-test (Every (Moved t)) (eqb op.phase caught_up && (op.evidence.caught_up.is_some && eqb op.evidence.caught_up.cut.term cut.term))
        (λ e.
        let p = eqb-true op.phase caught_up (and_left _ _ e) in
        to-phase fenced (omega arith) _
        (record { prepare = h.prepare; snapshot = h.snapshot; learner = h.learner; caught_up = h.caught_up; continuation = h.continuation; fence = held-present cut c; joint = h.joint; uniform = h.uniform })
        (omega arith))
        (λ _. tt))

    continuation-moves : Every (Moved t) (record_continuation t cut)
    unfolding record_continuation
    continuation-moves =
        let op = t.replacement in
        let h = v.held.replacement.evidence in
        by-test (Every (Moved t)) op.evidence.continuation.is_some (λ _. tt)
        (λ n. by-test (Every (Moved t)) (leb fenced op.phase) (λ _. tt)
        (λ _.
        record {
          held =
              held-advanced t v.held op.phase v.held.replacement.phase _
              (record { prepare = h.prepare; snapshot = h.snapshot; learner = h.learner; caught_up = h.caught_up; continuation = held-present cut c; fence = h.fence; joint = h.joint; uniform = h.uniform })
              r;
          revision = refl;
          rises =
              λ _. by_flag t (continued t cut) v.held refl (rank-open t o) refl
              (let f : flag_of op.evidence.continuation ≡ 0 = ap (λ (b : Bool). cond b 1 0) n in omega arith);
        }))

    -- the mark that was there is another one, so the index of the new one is greater
    marked : (mark : VoterSlotLogId) (b : Bool) → t.replacement.evidence.caught_up.is_some ≡ b
        → (t.replacement.evidence.caught_up.is_some && same_voter_slot_log_id t.replacement.evidence.caught_up.cut mark) ≡ false
        → (b ≡ true → Kept (present mark) t.replacement.evidence.caught_up) → cond b (t.replacement.evidence.caught_up.cut.index + 1) 0 < mark.index + 1
    marked mark false e n k = omega arith
    marked mark true e n k = ⊎_elim same (λ l. omega arith) (k refl).1
      where
        same : mark ≡ t.replacement.evidence.caught_up.cut → t.replacement.evidence.caught_up.cut.index + 1 < mark.index + 1
        same q =
            absurd
            (let f : same_voter_slot_log_id t.replacement.evidence.caught_up.cut mark ≡ false =
            sym (ap (λ (x : Bool). x && same_voter_slot_log_id t.replacement.evidence.caught_up.cut mark) e) ∙ n in
            let g : same_voter_slot_log_id t.replacement.evidence.caught_up.cut mark ≡ true = rw q (same_voter_slot_log_id-refl _) in
            let z : ◌≡◌ {A = ℕ} 0 1 = cc in omega arith)

    -- from LearnerAdded the phase rises; in CaughtUp the mark does
    caught-up-rises : (mark : VoterSlotLogId) (b : Bool) → eqb t.replacement.phase learner_added ≡ b → (b || eqb t.replacement.phase caught_up) ≡ true
        → (t.replacement.evidence.caught_up.is_some && same_voter_slot_log_id t.replacement.evidence.caught_up.cut mark) ≡ false
        → Keeps (caught_up_recorded t mark) t → measure t < measure (caught_up_recorded t mark)
    caught-up-rises mark true e q n k =
        let p = eqb-true t.replacement.phase learner_added e in
        let w = rank-open t o in
        by_rank t (caught_up_recorded t mark) v.held refl (omega arith)
    caught-up-rises mark false e q n k =
        let p = eqb-true t.replacement.phase caught_up q in
        by-mark t (caught_up_recorded t mark) v.held refl (rank-open t o ∙ p)
        (marked mark t.replacement.evidence.caught_up.is_some refl n (λ s. (k.request o refl refl).marker s))

    caught-up-moves : (mark : VoterSlotLogId) → HeldVoterSlotLogId mark → Every (Moved t) (record_caught_up t mark cut)
    unfolding record_caught_up
    caught-up-moves mark m =
        let op = t.replacement in
        let h = v.held.replacement.evidence in
        by-test (Every (Moved t)) (op.evidence.caught_up.is_some && same_voter_slot_log_id op.evidence.caught_up.cut mark) (λ _. tt)
        (λ n. by-test (Every (Moved t)) (is_catching_up op.phase && (eqb mark.term cut.term && ltb mark.index cut.index))
        (λ e.
        record {
          held =
              held-advanced t v.held caught_up (omega arith) _
              (record { prepare = h.prepare; snapshot = h.snapshot; learner = h.learner; caught_up = held-present mark m; continuation = h.continuation; fence = h.fence; joint = h.joint; uniform = h.uniform })
              r;
          revision = refl;
          rises = caught-up-rises mark (eqb op.phase learner_added) refl (and_left _ _ e) n;
        })
        (λ _. tt))

    finalize-moves : Every (Moved t) (finalize t cut)
    unfolding finalize finalized_slot
    finalize-moves =
        by-test (Every (Moved t)) (eqb t.replacement.phase uniform && ltb (target_index t) t.count)
        (λ e.
        let p = eqb-true t.replacement.phase uniform (and_left _ _ e) in
        let l = ltb-true (target_index t) t.count (and_right (eqb t.replacement.phase uniform) _ e) in
        record {
          held = held-finalized t v.held cut c r (few (target_index t) l);
          revision = refl;
          rises =
              λ _. by_rank t (finalized t cut) v.held (same_sum t.slots (target_index t) (finalized_slot t cut) refl)
              (let w = rank-open t o in omega arith);
        })
        (λ _. tt)

    step-moves : (s : VoterReplacementStep) → HeldVoterReplacementStep s → Every (Moved t) (take_step t s cut)
    unfolding take_step
    step-moves s k =
        by-test (Every (Moved t)) (eqb s.kind record_snapshot_kind) (λ _. snapshot-moves s.snapshot k.snapshot)
        (λ _. by-test (Every (Moved t)) (eqb s.kind record_caught_up_kind) (λ _. caught-up-moves s.caught_up k.caught_up)
        (λ _. by-test (Every (Moved t)) (eqb s.kind record_continuation_kind) (λ _. continuation-moves)
        (λ _. by-test (Every (Moved t)) (eqb s.kind fence_kind) (λ _. fence-moves) (λ _. finalize-moves))))

  module _ (cut : VoterSlotLogId) (c : HeldVoterSlotLogId cut) where
    advance-moves : (id digest : List ℕ) (s : VoterReplacementStep) → HeldVoterReplacementStep s → Every (Moved t) (advance t id digest s cut)
    unfolding advance advance_open
    advance-moves id digest s k =
        let op = t.replacement in
        by-test (Every (Moved t)) (eqb t.revision full) (λ _. tt)
        (λ n. by-test (Every (Moved t)) t.has_replacement
        (λ o. by-test (Every (Moved t)) (not (eq_bytes op.attestation.request_id id)) (λ _. tt)
        (λ _. by-test (Every (Moved t)) (not (eq_bytes op.attestation.request_digest digest)) (λ _. tt)
        (λ _. by-test (Every (Moved t)) (leb cut.index op.evidence.prepare.index || ltb cut.term op.evidence.prepare.term) (λ _. tt)
        (λ _. step-moves o (not_full n) cut c s k))))
        (λ _. by-test (Every (Moved t)) (eqb s.kind finalize_kind && is_completed t id digest) (λ _. tt) (λ _. tt)))

    marker-moves : (id digest : List ℕ) → Every (Moved t) (marker t id digest)
    unfolding marker
    marker-moves id digest =
        by-test (Every (Moved t)) (is_open_request t id && eq_bytes t.replacement.attestation.request_digest digest && is_catching_up t.replacement.phase) (λ _. tt) (λ _. tt)

    -- ---- Begin

    module _ (q : VoterReplacementRequest) (k : HeldVoterReplacementRequest q) where
      begun-moves : begin_check t q cut ≡ Accepted → Moved t (begun t q cut)
      unfolding begun_slot
      begun-moves h =
          let s = starts t q cut h in
          let x = s.epoch-room in
          let y = current-epoch t v.held in
          let u = s.revision-room in
          let w = v.held.revision in
          let z = v.held.slots.count in
          let l = few (named_index t q) s.index in
          let n = s.next in
          let i = s.expected in
          record {
            held = held-begun t v.held cut c (omega arith) q k l (omega arith);
            revision = refl;
            rises = λ _. by-sum t (begun t q cut) v.held (more-sum t.slots (named_index t q) (begun_slot t q cut) (omega arith) (omega arith));
          }

      begin-moves : Every (Moved t) (begin t q cut)
      unfolding begin repeated
      begin-moves =
          by-test (Every (Moved t)) (is_known t q.attestation.request_id)
          (λ _. by-test (Every (Moved t)) (eq_bytes (known_digest t q.attestation.request_id) q.attestation.request_digest)
          (λ _. by-test (Every (Moved t)) (is_accepted (request_check q)) (λ _. tt) (λ _. tt))
          (λ _. tt))
          (λ _. by-test (Every (Moved t)) (is_accepted (begin_check t q cut)) (λ e. begun-moves (is-accepted (begin_check t q cut) e)) (λ _. tt))

    decide-moves : (x : VoterSlotControl) → HeldVoterSlotControl x → Every (Moved t) (decide t x cut)
    unfolding decide
    decide-moves x k =
        by-test (Every (Moved t)) (eqb x.kind begin_kind) (λ _. begin-moves x.request k.request)
        (λ _. by-test (Every (Moved t)) (eqb x.kind advance_kind) (λ _. advance-moves x.request_id x.request_digest x.step k.step)
        (λ _. marker-moves x.request_id x.request_digest))

    -- ---- observations

    module _ (o : t.has_replacement ≡ true) (r : t.revision + 1 < 2 ^ 64) (l : target_index t < t.count) where
      target-phase-small : (phase : ℕ) → target_phase phase < 2 ^ 8
      target-phase-small phase =
          below (leb phase snapshot_installed) 0 _ 256 (omega arith) (below (leb phase fenced) 1 2 256 (omega arith) (omega arith))

      phase-moves : (epoch : ℕ) → epoch < 2 ^ 64 → (phase : ℕ) (e : VoterReplacementEvidence) → HeldVoterReplacementEvidence e → phase < 2 ^ 8 → t.replacement.phase + 1 ≡ phase
          → Every (Moved t) (keep_or t (with_target t epoch (operation_with t.replacement phase e)))
      phase-moves epoch small phase e k p q =
          let op = operation_with t.replacement phase e in
          let here = in_phase (target_slot t) (target_phase phase) in
          by-test (Every (Moved t)) (same_voter_slot_table (with_target t epoch op) t) (λ _. tt)
          (λ _.
          record {
            held =
                held-table t v.held (t.revision + 1) epoch (set t.slots (target_index t) here) true op r small
                (held-set HeldVoterSlotRecord 9 t.slots (target_index t) here
                (held-phase t v.held (target_index t) (target_phase phase) (few (target_index t) l) (target-phase-small phase))
                v.held.slots)
                (held-operation t.replacement v.held.replacement phase p e k);
            revision = refl;
            rises =
                λ _. by_rank t (raised (with_target t epoch op)) v.held (same_sum t.slots (target_index t) here refl)
                (let w = rank-open t o in omega arith);
          })

      observed-moves : (s : Sight) → Fits t.replacement s → Every (Moved t) (observed t s cut)
      unfolding observed
      observed-moves strange f = tt
      observed-moves nothing_new f = subst (Every (Moved t)) (sym (observed-nothing t (open-of-valid t v.valid o) cut)) tt
      observed-moves new_learner f =
          let h = v.held.replacement.evidence in
          phase-moves t.configuration_epoch v.held.configuration_epoch learner_added _
          (record { prepare = h.prepare; snapshot = h.snapshot; learner = held-present cut c; caught_up = h.caught_up; continuation = h.continuation; fence = h.fence; joint = h.joint; uniform = h.uniform })
          (omega arith) (omega arith)
      observed-moves new_joint f =
          let h = v.held.replacement.evidence in
          phase-moves t.configuration_epoch v.held.configuration_epoch joint _
          (record { prepare = h.prepare; snapshot = h.snapshot; learner = h.learner; caught_up = h.caught_up; continuation = h.continuation; fence = h.fence; joint = held-present cut c; uniform = h.uniform })
          (omega arith) (omega arith)
      observed-moves new_uniform f =
          let h = v.held.replacement.evidence in
          phase-moves t.replacement.successor.epoch v.held.replacement.successor.epoch uniform _
          (record { prepare = h.prepare; snapshot = h.snapshot; learner = h.learner; caught_up = h.caught_up; continuation = h.continuation; fence = h.fence; joint = h.joint; uniform = held-present cut c })
          (omega arith) (omega arith)

    observe-moves : (sets : List (List ℕ)) (nodes : List ℕ) → Every (Moved t) (observe t sets nodes cut)
    unfolding observe
    observe-moves sets nodes =
        let current = member_ids (current_configuration t) in
        by-test (Every (Moved t)) (eqb t.revision full) (λ _. tt)
        (λ n. by-test (Every (Moved t)) t.has_replacement
        (λ o. by-test (Every (Moved t)) (ltb (target_index t) t.count)
        (λ l. observed-moves o (not_full n) (ltb-true _ _ l) (see t.replacement sets nodes) (fits-see t.replacement sets nodes))
        (λ _. tt))
        (λ _. by-test (Every (Moved t)) (eq_sets sets (current ∷ []) && eq_ids nodes current) (λ _. tt) (λ _. tt)))

-- ---- what a table that may follow another keeps

any-keeps : (p q : ℕ → Bool) (n : ℕ) → ((i : ℕ) → i < n → p i ≡ true → q i ≡ true) → not (all_below (λ i. not (p i)) n) ≡ true → not (all_below (λ i. not (q i)) n) ≡ true
unfolding all_below
any-keeps p q zero f h = h
any-keeps p q (suc n) f h = by (p n) refl h (any-keeps p q n (λ i l. f i (omega arith))) (f n (omega arith))
  where
    by : (b : Bool) → p n ≡ b → not (all_below (λ i. not (p i)) n && not b) ≡ true
        → (not (all_below (λ i. not (p i)) n) ≡ true → not (all_below (λ i. not (q i)) n) ≡ true) → (p n ≡ true → q n ≡ true)
        → not (all_below (λ i. not (q i)) n && not (q n)) ≡ true
    by true e k g m = rw (m e) (rw (and-false (all_below (λ i. not (q i)) n)))
    by false e k g m = rw (not-true (all_below (λ i. not (q i)) n) (g (rw (and-true (all_below (λ i. not (p i)) n)) at k)))

floor-keeps : (identity : VoterSlotIdentity) (new old : VoterSlotRecord) → SlotKept new old → is_below_floor identity old ≡ true → is_below_floor identity new ≡ true
floor-keeps identity new old k h =
    let s = eqb-true old.member.identity.slot identity.slot (and_left _ _ h) in
    let i = leb-true identity.incarnation old.retired_through (and_right (eqb old.member.identity.slot identity.slot) _ h) in
    rw (eq-eqb new.member.identity.slot identity.slot (k.slot ∙ s)) (le-leb identity.incarnation new.retired_through (omega (arith, k.retired)))

identity-keeps : (new old : VoterSlotTable) → Keeps new old → (x : Result VoterSlotIdentity Refusal) → is_retired_identity old x ≡ true → is_retired_identity new x ≡ true
unfolding is_retired_identity
identity-keeps new old k (Err answer) h = h
identity-keeps new old k (Ok identity) h =
    any-keeps (λ i. is_below_floor identity (slot_at old i)) (λ i. is_below_floor identity (slot_at new i)) new.count
    (λ i l. floor-keeps identity (slot_at new i) (slot_at old i) (k.slots i l))
    (subst (λ (n : ℕ). not (all_below (λ i. not (is_below_floor identity (slot_at old i))) n) ≡ true) (sym k.count) h)

-- ---- one call

views : Views VoterSlotTable (List ℕ)
views =
    record {
      same = same_voter_slot_table;
      revision = λ t. t.revision;
      struck = struck_out;
      Valid = ValidTable;
      Retired = λ t node. is_retired t node ≡ true;
      Open = IsOpen;
      rank = λ t. t.replacement.phase;
    }

-- a call that leaves the table
stayed : (t : VoterSlotTable) → ValidTable t → Went views measure t t
unfolding views
stayed t v = record { moves = inl refl; valid = v; retired = λ n h. h; rank = λ id o p. le_refl _ }

-- a call that changed it
passed : (t next : VoterSlotTable) → Moved t next → validate_successor_of next t ≡ Accepted → Went views measure t next
unfolding views
passed t next m e =
    let s = successor next t e in
    record {
      moves = inr (m.revision, m.rises s.keeps);
      valid = record { held = m.held; valid = s.new-valid };
      retired = λ n h. identity-keeps next t s.keeps (from_node_id n) h;
      rank = λ id o p. (s.keeps.request o.some p.some (p.same ∙ sym o.same)).phase;
    }

settled : (t : VoterSlotTable) → ValidTable t → (d : Decision) → Every (Moved t) d → Went views measure t (settle t d).1
unfolding settle
settled t v (refuse answer) m = stayed t v
settled t v keep m = stayed t v
settled t v (change next) m =
    by-test (λ (x : Answer × VoterSlotTable). Went views measure t x.1) (is_accepted (validate_successor_of next t))
    (λ e. passed t next m (is-accepted (validate_successor_of next t) e))
    (λ _. stayed t v)

pub restart-same : (t : VoterSlotTable) → ValidTable t → (buffer : List ℕ) → length (table_bytes t) ≤ length buffer → (restart_outcome t buffer).0 ≡ (0, t)
unfolding restart_outcome decoded
restart-same t v buffer l = rw (restarted_same t v.held v.valid buffer l)

pub has_room : (t : VoterSlotTable) (bytes : List ℕ) → length (table_bytes t) ≤ length (with_room t bytes)
has_room t bytes = simp (length-append, length-replicate) (omega arith)

-- a buffer that is long enough is used as it is
pub room-itself : (t : VoterSlotTable) (buffer : List ℕ) → length (table_bytes t) ≤ length buffer → with_room t buffer ≡ buffer
room-itself t buffer l = let e : length (table_bytes t) - length buffer ≡ 0 = omega arith in rw (e, append-nil buffer)

call-went : (x : Call) (t : VoterSlotTable) → ValidTable t → Went views measure t (after x t)
unfolding apply_control observe_membership
call-went (command x cut k c) t v =
    by-test (λ (y : Answer × VoterSlotTable). Went views measure t y.1) (representable t && representable_control x)
    (λ _. by-test (λ (y : Answer × VoterSlotTable). Went views measure t y.1) (is_accepted (validity t) && valid_log_id cut)
    (λ _. settled t v (decide t x cut) (decide-moves t v cut c x k))
    (λ _. stayed t v))
    (λ _. stayed t v)
call-went (observation ids counts nodes cut c) t v =
    by-test (λ (y : Answer × VoterSlotTable). Went views measure t y.1) (representable t && representable_sets ids counts nodes)
    (λ _. by-test (λ (y : Answer × VoterSlotTable). Went views measure t y.1) (all_rising (split_sets ids counts) && is_rising nodes)
    (λ _. settled t v (observe t (split_sets ids counts) nodes cut) (observe-moves t v cut c (split_sets ids counts) nodes))
    (λ _. stayed t v))
    (λ _. stayed t v)
call-went (restart bytes) t v =
    subst (λ (x : ℕ × VoterSlotTable). Went views measure t x.1) (sym (restart-same t v (with_room t bytes) (has_room t bytes))) (stayed t v)

-- Every call keeps the types and validity.
pub call-valid : (x : Call) (t : VoterSlotTable) → ValidTable t → ValidTable (after x t)
unfolding views
call-valid x t v = (call-went x t v).valid

one : Step after views measure
unfolding views
one =
    record {
      blind = λ s t e. ap measure e;
      same_true = same_voter_slot_table-true;
      same_refl = same_voter_slot_table-refl;
      went = call-went;
    }

-- ---- the whole of it

-- what is retired stays retired, by the definition under the retired test
pub retired-stays : (start : VoterSlotTable) → HeldVoterSlotTable start → validate start ≡ Accepted → (calls : List Call) (i j : ℕ) → i ≤ j → (node : ℕ)
    → is_retired (table_at start calls i) node ≡ true → is_retired (table_at start calls j) node ≡ true
unfolding views
retired-stays start h v calls = (line after views measure one start (record { held = h; valid = v }) calls).retired

pub history : DemandThree
unfolding views
history start h v calls =
    let l = line after views measure one start (record { held = h; valid = v }) calls in
    record {
      same = l.same;
      valid = λ i. (l.valid i).valid;
      counted = l.counted;
      retired = λ i j k node e.
          (valid-yes (table_at start calls j) node (l.valid j).valid).1
          (retired-stays start h v calls i j k node ((valid-yes (table_at start calls i) node (l.valid i).valid).0 e));
      phases = l.phases;
      restarts = λ i. restart-same (table_at start calls i) (l.valid i);
    }
