-- What the calls of Control and Observation come to on a valid table, as tests of numbers, names
-- and cuts: a verdict, which makes nothing, and a table for each change. No next table is validated
-- or compared. Nobody has to believe this page: SettleLaws proves that it is what Control and
-- Observation say (`applies`, `observes`). The code follows it, function by function.
-- Assumes nothing.
use Rattle.std.specs.Prelude.{ℕ, Bool, cond, false, not, true, ◌&&◌, ◌||◌, List, ◌∷◌, [], eqb, leb, ltb}
use Rattle.identity.specs.Conditions.{◌and◌}
use Rattle.identity.specs.Answer.{Accepted, IdempotencyConflict, InvalidTransition, RevisionExhausted, StaleIncarnation, Answer, is_accepted}
use Rattle.records.specs.declared.records.VoterReplacementEvidence.{VoterReplacementEvidence}
use Rattle.records.specs.declared.records.VoterSlotLogId.{VoterSlotLogId}
use Rattle.records.specs.declared.records.VoterSlotTable.{VoterSlotTable}
use Rattle.records.specs.declared.records.VoterSnapshotEvidence.{VoterSnapshotEvidence}
use Rattle.records.specs.Records.{caught_up, fenced, prepared, uniform}
use Rattle.records.specs.Equality.{eq_bytes, same_voter_slot_log_id, same_voter_snapshot_evidence}
use Rattle.records.specs.Evidence.{follows, latest, snapshot_cut, in_order, valid_snapshot_id}
use Rattle.records.specs.Validation.{target_phase, validity}
use Rattle.records.specs.With.{present}
use Rattle.control.specs.Observation.{Sight, eq_ids, eq_sets, joint_seen, learner_seen, member_ids, raised, see, uniform_seen, with_target}
use Rattle.control.specs.declared.control.VoterReplacementRequest.{VoterReplacementRequest}
use Rattle.control.specs.declared.control.VoterReplacementStep.{VoterReplacementStep}
use Rattle.control.specs.declared.control.VoterSlotControl.{VoterSlotControl}
use Rattle.control.specs.Control.{advance_kind, begin_check, begin_kind, begun, caught_up_recorded, continued, current_configuration, fence_kind, fenced_at, finalize_kind, finalized, full, is_catching_up, is_completed, is_known, is_open_request, known_digest, record_caught_up_kind, record_continuation_kind, record_snapshot_kind, request_check, snapshot_recorded, target_index, target_slot}
use Rattle.control.specs.Observation.Sight.{new_joint, new_learner, new_uniform, nothing_new, strange}

-- refused with an answer; accepted and unchanged; or accepted, with what is to be made
pub data Verdict (M : Type 0) : Type 0 where
  refused : Answer → Verdict M
  kept : Verdict M
  moves : M → Verdict M

-- the answer and the table, where `make` makes
unfoldable pub carried : {M : Type 0} → (M → VoterSlotTable) → VoterSlotTable → Verdict M → Answer × VoterSlotTable
carried make t (refused answer) = (answer, t)
carried make t kept = (Accepted, t)
carried make t (moves m) = (Accepted, make m)

-- ---- what a command makes

-- the change of a Begin, and of each step of an Advance
pub data Move : Type 0 where
  begins : Move
  records_snapshot : Move
  records_caught_up : Move
  continues : Move
  fences : Move
  finalizes : Move

-- the table of each
unfoldable pub made : VoterSlotTable → VoterSlotControl → VoterSlotLogId → Move → VoterSlotTable
made t c cut begins = begun t c.request cut
made t c cut records_snapshot = snapshot_recorded t c.step.snapshot
made t c cut records_caught_up = caught_up_recorded t c.step.caught_up
made t c cut continues = continued t cut
made t c cut fences = fenced_at t cut
made t c cut finalizes = finalized t cut

-- ---- Begin

-- `repeated` of Control: the id is known
unfoldable pub judge_repeated : VoterSlotTable → VoterReplacementRequest → Verdict Move
judge_repeated t r =
    cond (eq_bytes (known_digest t r.attestation.request_id) r.attestation.request_digest)
    (cond (is_accepted (request_check r)) kept (refused (request_check r)))
    (refused IdempotencyConflict)

-- where a request is superseded, its latest evidence lies before this cut
abbrev pub begin_test : VoterSlotTable → VoterSlotLogId → Bool
begin_test t cut = not t.has_replacement || follows cut (latest t.replacement.evidence) false

-- `begin` of Control
unfoldable pub judge_begin : VoterSlotTable → VoterReplacementRequest → VoterSlotLogId → Verdict Move
judge_begin t r cut =
    cond (is_known t r.attestation.request_id) (judge_repeated t r)
    (cond (is_accepted (begin_check t r cut)) (cond (begin_test t cut) (moves begins) (refused InvalidTransition)) (refused (begin_check t r cut)))

-- ---- the tests of a part that is added to the evidence

-- the continuation, if there is one, is in order with a cut that is added
abbrev pub order_test : VoterReplacementEvidence → VoterSlotLogId → Bool → Bool
order_test e cut is_snapshot = not e.continuation.is_some || in_order e.continuation.cut (present cut) is_snapshot

-- a snapshot: its id, and a cut that follows prepare or equals it
abbrev pub snapshot_test : VoterReplacementEvidence → VoterSnapshotEvidence → Bool
snapshot_test e snapshot =
    valid_snapshot_id snapshot.snapshot_id
    and follows snapshot.cut e.prepare true
    and order_test e snapshot.cut true

-- a mark: after the one that is there, or else after the learner's cut
abbrev pub caught_up_test : VoterReplacementEvidence → VoterSlotLogId → Bool
caught_up_test e mark = follows mark (cond e.caught_up.is_some e.caught_up.cut e.learner.cut) false && order_test e mark false

-- the continuation itself, of a cut past prepare: in order with what is there
abbrev pub continuation_test : VoterReplacementEvidence → VoterSlotLogId → Bool
continuation_test e cut = in_order cut (snapshot_cut e) true and in_order cut e.learner false and in_order cut e.caught_up false

-- the fence: after the mark, and after the continuation, if there is one
abbrev pub fence_test : VoterReplacementEvidence → VoterSlotLogId → Bool
fence_test e cut =
    follows cut e.caught_up.cut false && (not e.continuation.is_some || follows cut e.continuation.cut false)

-- the learner: after the snapshot's cut
abbrev pub learner_test : VoterReplacementEvidence → VoterSlotLogId → Bool
learner_test e cut = follows cut e.snapshot.cut false && order_test e cut false

-- joint: after the fence
abbrev pub joint_test : VoterReplacementEvidence → VoterSlotLogId → Bool
joint_test e cut = follows cut e.fence.cut false

-- uniform: after joint
abbrev pub uniform_test : VoterReplacementEvidence → VoterSlotLogId → Bool
uniform_test e cut = follows cut e.joint.cut false

-- ---- the five steps of an Advance

-- `record_snapshot` of Control: the same again is kept, another is refused with 14
unfoldable pub judge_snapshot : VoterSlotTable → VoterSnapshotEvidence → VoterSlotLogId → Verdict Move
judge_snapshot t snapshot cut =
    let op = t.replacement in
    cond op.evidence.has_snapshot
    (cond (same_voter_snapshot_evidence op.evidence.snapshot snapshot) kept (refused IdempotencyConflict))
    (cond
    ((eqb op.phase prepared and ltb snapshot.cut.index cut.index and leb snapshot.cut.term cut.term) && snapshot_test op.evidence snapshot)
    (moves records_snapshot) (refused InvalidTransition))

-- `record_caught_up` of Control: the same mark again is kept
unfoldable pub judge_caught_up : VoterSlotTable → VoterSlotLogId → VoterSlotLogId → Verdict Move
judge_caught_up t mark cut =
    let op = t.replacement in
    cond (op.evidence.caught_up.is_some && same_voter_slot_log_id op.evidence.caught_up.cut mark) kept
    (cond ((is_catching_up op.phase and eqb mark.term cut.term and ltb mark.index cut.index) && caught_up_test op.evidence mark)
    (moves records_caught_up) (refused InvalidTransition))

-- `record_continuation` of Control: one that is there is kept
unfoldable pub judge_continuation : VoterSlotTable → VoterSlotLogId → Verdict Move
judge_continuation t cut =
    let op = t.replacement in
    cond op.evidence.continuation.is_some kept
    (cond (leb fenced op.phase) (refused InvalidTransition)
    (cond (continuation_test op.evidence cut) (moves continues) (refused InvalidTransition)))

-- `fence` of Control: from Fenced on it is kept
unfoldable pub judge_fence : VoterSlotTable → VoterSlotLogId → Verdict Move
judge_fence t cut =
    let op = t.replacement in
    cond (leb fenced op.phase) kept
    (cond
    ((eqb op.phase caught_up and op.evidence.caught_up.is_some and eqb op.evidence.caught_up.cut.term cut.term) && fence_test op.evidence cut)
    (moves fences) (refused InvalidTransition))

-- `finalize` of Control: in Uniform the latest evidence is uniform's cut, and the slot being
-- replaced is there
unfoldable pub judge_finalize : VoterSlotTable → VoterSlotLogId → Verdict Move
judge_finalize t cut =
    cond (eqb t.replacement.phase uniform && follows cut t.replacement.evidence.uniform.cut false) (moves finalizes) (refused InvalidTransition)

-- `take_step` of Control: by the kind of the step
unfoldable pub judge_step : VoterSlotTable → VoterReplacementStep → VoterSlotLogId → Verdict Move
judge_step t s cut =
    cond (eqb s.kind record_snapshot_kind) (judge_snapshot t s.snapshot cut)
    (cond (eqb s.kind record_caught_up_kind) (judge_caught_up t s.caught_up cut)
    (cond (eqb s.kind record_continuation_kind) (judge_continuation t cut)
    (cond (eqb s.kind fence_kind) (judge_fence t cut) (judge_finalize t cut))))

-- ---- Advance

-- `advance_open` of Control: the open request against the command; a step is judged at a cut past
-- prepare
unfoldable pub judge_open : VoterSlotTable → (id digest : List ℕ) → VoterReplacementStep → VoterSlotLogId → Verdict Move
judge_open t id digest s cut =
    let op = t.replacement in
    cond (not (eq_bytes op.attestation.request_id id)) (refused StaleIncarnation)
    (cond (not (eq_bytes op.attestation.request_digest digest)) (refused IdempotencyConflict)
    (cond (leb cut.index op.evidence.prepare.index || ltb cut.term op.evidence.prepare.term) (refused InvalidTransition)
    (judge_step t s cut)))

-- `advance` of Control: the full revision first
unfoldable pub judge_advance : VoterSlotTable → (id digest : List ℕ) → VoterReplacementStep → VoterSlotLogId → Verdict Move
judge_advance t id digest s cut =
    cond (eqb t.revision full) (refused RevisionExhausted)
    (cond t.has_replacement (judge_open t id digest s cut)
    (cond (eqb s.kind finalize_kind && is_completed t id digest) kept (refused StaleIncarnation)))

-- ---- Marker, and all three

-- `marker` of Control: no full revision is tested
unfoldable pub judge_marker : VoterSlotTable → (id digest : List ℕ) → Verdict Move
judge_marker t id digest =
    cond (is_open_request t id && eq_bytes t.replacement.attestation.request_digest digest && is_catching_up t.replacement.phase) kept (refused InvalidTransition)

-- `decide` of Control: by the kind of the command
unfoldable pub judge : VoterSlotTable → VoterSlotControl → VoterSlotLogId → Verdict Move
judge t c cut =
    cond (eqb c.kind begin_kind) (judge_begin t c.request cut)
    (cond (eqb c.kind advance_kind) (judge_advance t c.request_id c.request_digest c.step cut) (judge_marker t c.request_id c.request_digest))

-- ---- observations, on any table that the Rust types can hold

-- the evidence that is added
pub data Addition : Type 0 where
  adds_learner : Addition
  adds_joint : Addition
  adds_uniform : Addition

-- the table with it
unfoldable pub added : VoterSlotTable → VoterSlotLogId → Addition → VoterSlotTable
added t cut adds_learner = raised (with_target t t.configuration_epoch (learner_seen t.replacement cut))
added t cut adds_joint = raised (with_target t t.configuration_epoch (joint_seen t.replacement cut))
added t cut adds_uniform = raised (with_target t t.replacement.successor.epoch (uniform_seen t.replacement cut))

-- the phase of the slot being replaced is the one that goes with the request's
abbrev pub phase_fits : VoterSlotTable → Bool
phase_fits t = eqb (target_slot t).phase (target_phase t.replacement.phase)

-- `observed` of Observation: the whole validity is asked for only where something is new
unfoldable pub judge_sight : VoterSlotTable → Sight → VoterSlotLogId → Verdict Addition
judge_sight t strange cut = refused InvalidTransition
judge_sight t nothing_new cut = cond (phase_fits t) kept (refused InvalidTransition)
judge_sight t new_learner cut = cond (is_accepted (validity t) && learner_test t.replacement.evidence cut) (moves adds_learner) (refused InvalidTransition)
judge_sight t new_joint cut = cond (is_accepted (validity t) && joint_test t.replacement.evidence cut) (moves adds_joint) (refused InvalidTransition)
judge_sight t new_uniform cut = cond (is_accepted (validity t) && uniform_test t.replacement.evidence cut) (moves adds_uniform) (refused InvalidTransition)

-- `observe` of Observation: the full revision first
unfoldable pub judge_observation : VoterSlotTable → List (List ℕ) → List ℕ → VoterSlotLogId → Verdict Addition
judge_observation t sets nodes cut =
    let current = member_ids (current_configuration t) in
    cond (eqb t.revision full) (refused RevisionExhausted)
    (cond t.has_replacement
    (cond (ltb (target_index t) t.count) (judge_sight t (see t.replacement sets nodes) cut) (refused InvalidTransition))
    (cond (eq_sets sets (current ∷ []) && eq_ids nodes current) kept (refused InvalidTransition)))
