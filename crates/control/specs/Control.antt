-- Commands: document 01, section "Commands", and `apply_control` of control.rs with what it calls,
-- in its order. What stands in quotes is document 01's. The tests give an Answer; a call is a
-- Decision: refused, unchanged, or a next table. A next table is then held to the successor check.
-- Each change of the table is a definition of its own.
-- Assumes nothing.
use Rattle.std.specs.Prelude.{ℕ, ◌+◌, ◌-◌, ◌^◌, Bool, true, false, cond, not, ◌&&◌, ◌||◌, List, map, set, eqb, leb, ltb}
use Rattle.identity.specs.Conditions.{◌and◌}
use Rattle.identity.specs.Answer.{is_accepted, Answer, Accepted, InvalidLossEvidence, StaleIncarnation, IdempotencyConflict, ReplacementInProgress, NoSurvivingQuorum, ReplacementPastFence, ConfigurationEpochExhausted, RevisionExhausted, InvalidTransition, Unrepresentable}
use Rattle.identity.specs.Identity.{is_configuration_epoch}
use Rattle.records.specs.declared.records.VoterSlotLogId.{VoterSlotLogId}
use Rattle.records.specs.declared.records.VoterSlotRecord.{VoterSlotRecord}
use Rattle.records.specs.declared.records.VoterConfiguration.{VoterConfiguration}
use Rattle.records.specs.declared.records.VoterReplacementResult.{VoterReplacementResult}
use Rattle.records.specs.declared.records.VoterSnapshotEvidence.{VoterSnapshotEvidence}
use Rattle.records.specs.declared.records.VoterReplacementEvidence.{VoterReplacementEvidence}
use Rattle.records.specs.declared.records.VoterReplacementRecord.{VoterReplacementRecord}
use Rattle.records.specs.declared.records.VoterSlotTable.{VoterSlotTable}
use Rattle.records.specs.Blank.{blank_voter_slot_log_id, blank_voter_snapshot_evidence, blank_optional_log_id, blank_voter_replacement_record}
use Rattle.records.specs.Equality.{eq_bytes, same_voter_slot_log_id, same_voter_snapshot_evidence}
use Rattle.records.specs.Evidence.{valid_log_id}
use Rattle.records.specs.Records.{min_replacement_slots, pending, prepared, snapshot_installed, learner_added, caught_up, fenced, uniform, completed, superseded, all_below, first_from, slot_at}
use Rattle.records.specs.Representable.{representable_member, representable_attestation, representable_snapshot, representable}
use Rattle.records.specs.Successor.{slot_index, first_refusal, validate_successor_of}
use Rattle.records.specs.Validation.{valid_attestation, validity}
use Rattle.records.specs.With.{table_with, operation_with, slot_with, evidence_with, with_snapshot, with_caught_up, with_continuation, with_fence}
use Rattle.control.specs.declared.control.VoterReplacementRequest.{VoterReplacementRequest}
use Rattle.control.specs.declared.control.VoterReplacementStep.{VoterReplacementStep}
use Rattle.control.specs.declared.control.VoterSlotControl.{VoterSlotControl}
use Rattle.control.specs.Blank.{blank_voter_replacement_request, blank_voter_replacement_step, blank_request_id, blank_request_digest, same_voter_replacement_request, same_voter_replacement_step}

-- "Command and step enums: a kind with its parts": the kinds of `VoterSlotControl`, in the order of
-- the Rust
abbrev pub begin_kind : ℕ
begin_kind = 0

abbrev pub advance_kind : ℕ
advance_kind = 1

abbrev pub marker_kind : ℕ
marker_kind = 2

-- the kinds of `VoterReplacementStep`, by the step byte of a replay record
abbrev pub record_snapshot_kind : ℕ
record_snapshot_kind = 0

abbrev pub record_caught_up_kind : ℕ
record_caught_up_kind = 1

abbrev pub record_continuation_kind : ℕ
record_continuation_kind = 2

abbrev pub fence_kind : ℕ
fence_kind = 3

abbrev pub finalize_kind : ℕ
finalize_kind = 4

-- "a full revision (2^64 − 1)", and a full epoch: where the Rust's `next_revision` and `checked_add`
-- refuse
abbrev pub full : ℕ
full = 2 ^ 64 - 1

-- ---- a call is decided, and then settled

-- refused with an answer; accepted and unchanged; or a next table
pub data Decision : Type 0 where
  refuse : Answer → Decision
  keep : Decision
  change : VoterSlotTable → Decision

-- the Rust's `?`: what follows an answer that is no refusal
abbrev pub or_refuse : Answer → Decision → Decision
or_refuse answer next = cond (is_accepted answer) next (refuse answer)

-- "Every changed table must pass the successor check, else 25."
unfoldable pub settle : VoterSlotTable → Decision → Answer × VoterSlotTable
settle t (refuse answer) = (answer, t)
settle t keep = (Accepted, t)
settle t (change next) = cond (is_accepted (validate_successor_of next t)) (Accepted, next) (InvalidTransition, t)

-- ---- 30: a command that the Rust types cannot hold; "unused parts zero"

-- no request
abbrev pub is_blank_request : VoterReplacementRequest → Bool
is_blank_request r = same_voter_replacement_request r blank_voter_replacement_request

-- no step
abbrev pub is_blank_step : VoterReplacementStep → Bool
is_blank_step s = same_voter_replacement_step s blank_voter_replacement_step

-- no id and no digest, which an Advance or a Marker has
abbrev pub is_blank_name : VoterSlotControl → Bool
is_blank_name c = eq_bytes c.request_id blank_request_id && eq_bytes c.request_digest blank_request_digest

-- a request: "epoch from 1", and what the candidate and the attestation may hold; any numbers and
-- any digests in the rest
abbrev pub representable_request : VoterReplacementRequest → Bool
representable_request r =
    is_configuration_epoch r.expected_configuration.configuration_epoch
    and representable_member r.candidate
    and representable_attestation r.attestation

-- a step: a kind of the five; only RecordSnapshot has a snapshot, and only RecordCaughtUp a mark,
-- which may be any cut
unfoldable pub representable_step : VoterReplacementStep → Bool
representable_step s =
    leb s.kind finalize_kind
    and cond (eqb s.kind record_snapshot_kind) (representable_snapshot s.snapshot) (same_voter_snapshot_evidence s.snapshot blank_voter_snapshot_evidence)
    and (eqb s.kind record_caught_up_kind || same_voter_slot_log_id s.caught_up blank_voter_slot_log_id)

-- a command: a kind of the three; only a Begin has a request, only the others have an id and a
-- digest, and only an Advance has a step
unfoldable pub representable_control : VoterSlotControl → Bool
representable_control c =
    leb c.kind marker_kind
    and cond (eqb c.kind begin_kind) (representable_request c.request && is_blank_name c) (is_blank_request c.request)
    and cond (eqb c.kind advance_kind) (representable_step c.step) (is_blank_step c.step)

-- ---- `VoterReplacementRequest::validate`: 12

-- All of it but the digest. An attested incarnation of 2^47 is 12 too: a candidate's incarnation is
-- at most 2^47, so none is the next one ("the Rust never gives 22").
unfoldable pub valid_request : VoterReplacementRequest → Bool
valid_request r =
    valid_attestation r.attestation
    and ltb 0 r.expected_revision
    and eq_bytes r.expected_configuration.cluster_id r.attestation.cluster_instance
    and eqb r.candidate.identity.slot r.attestation.slot
    and eqb (r.attestation.expected_incarnation + 1) r.candidate.identity.incarnation
    and eq_bytes r.candidate.key_digest r.attestation.candidate_key_digest
    and eqb r.candidate.admission_generation r.attestation.admission_generation

-- "The caller supplies the request digest as recomputed"
unfoldable pub request_check : VoterReplacementRequest → Answer
request_check r =
    cond (valid_request r && eq_bytes r.supplied_request_digest r.attestation.request_digest) Accepted InvalidLossEvidence

-- ---- `current_configuration`

-- that of the predecessor up to Joint, then that of the slots
unfoldable pub current_configuration : VoterSlotTable → VoterConfiguration
current_configuration t =
    cond (t.has_replacement && ltb t.replacement.phase uniform)
    t.replacement.predecessor
    (record { epoch = t.configuration_epoch; members = map (λ s. s.member) t.slots; count = t.count })

-- ---- `begin`

-- "1. The request id is that of the open request, .."
unfoldable pub is_open_request : VoterSlotTable → List ℕ → Bool
is_open_request t id = t.has_replacement && eq_bytes t.replacement.attestation.request_id id

-- ".. or else of a receipt in slot order": the first slot that has one, or the count
unfoldable pub receipt_index : VoterSlotTable → List ℕ → ℕ
receipt_index t id = first_from (λ i. (slot_at t i).has_last_result && eq_bytes (slot_at t i).last_result.request_id id) t.count 0

-- "1.": one or the other
abbrev pub is_known : VoterSlotTable → List ℕ → Bool
is_known t id = is_open_request t id || ltb (receipt_index t id) t.count

-- the digest that goes with it; of the open request first
unfoldable pub known_digest : VoterSlotTable → List ℕ → List ℕ
known_digest t id =
    cond (is_open_request t id) t.replacement.attestation.request_digest (slot_at t (receipt_index t id)).last_result.request_digest

-- "1. .. other digest 14; request check failed 12; else accepted, unchanged"
unfoldable pub repeated : VoterSlotTable → VoterReplacementRequest → Decision
repeated t r =
    cond (eq_bytes (known_digest t r.attestation.request_id) r.attestation.request_digest)
    (or_refuse (request_check r) keep)
    (refuse IdempotencyConflict)

-- "2. Open request: another slot 15; Fenced or later 19; index not above prepare's 25."
unfoldable pub open_check : VoterSlotTable → VoterReplacementRequest → VoterSlotLogId → Answer
open_check t r cut =
    let op = t.replacement in
    cond (not t.has_replacement) Accepted
    (cond (not (eqb op.attestation.slot r.attestation.slot)) ReplacementInProgress
    (cond (leb fenced op.phase) ReplacementPastFence
    (cond (leb cut.index op.evidence.prepare.index) InvalidTransition Accepted)))

-- the place of the slot that the attestation names, or the count
abbrev pub named_index : VoterSlotTable → VoterReplacementRequest → ℕ
named_index t r = slot_index t r.attestation.slot

-- that slot
abbrev pub named_slot : VoterSlotTable → VoterReplacementRequest → VoterSlotRecord
named_slot t r = slot_at t (named_index t r)

-- The current configuration is the expected one: "The caller supplies .. the current
-- configuration's id", and the cluster and the epoch are compared. (A valid table's configuration
-- is valid, so the Rust's 25 for one that is not does not come out.)
unfoldable pub is_expected : VoterSlotTable → VoterReplacementRequest → Bool
is_expected t r =
    eq_bytes t.cluster_instance r.expected_configuration.cluster_id
    && eq_bytes r.supplied_configuration_id r.expected_configuration.configuration_id
    && eqb (current_configuration t).epoch r.expected_configuration.configuration_epoch

-- "4. Slot missing, or revision, configuration, cluster, incarnation or old descriptor differs:
-- 13."
unfoldable pub is_current : VoterSlotTable → VoterReplacementRequest → Bool
is_current t r =
    ltb (named_index t r) t.count
    and eqb t.revision r.expected_revision
    and is_expected t r
    and eq_bytes r.attestation.cluster_instance t.cluster_instance
    and eqb r.attestation.expected_incarnation (named_slot t r).member.identity.incarnation
    and eq_bytes r.attestation.old_descriptor_digest (named_slot t r).member.descriptor_digest

-- "4." as an answer
abbrev pub stale_check : VoterSlotTable → VoterReplacementRequest → Answer
stale_check t r = cond (is_current t r) Accepted StaleIncarnation

-- "5. Under 3 slots 16. Admission generation not greater, or same key: 12."
unfoldable pub candidate_check : VoterSlotTable → VoterReplacementRequest → Answer
candidate_check t r =
    let old = (named_slot t r).member in
    cond (leb min_replacement_slots t.count)
    (cond (ltb old.admission_generation r.candidate.admission_generation && not (eq_bytes r.candidate.key_digest old.key_digest))
    Accepted InvalidLossEvidence)
    NoSurvivingQuorum

-- "6. Epoch full 23, revision full 24."
unfoldable pub full_check : VoterSlotTable → Answer
full_check t =
    cond (eqb (current_configuration t).epoch full) ConfigurationEpochExhausted
    (cond (eqb t.revision full) RevisionExhausted Accepted)

-- "2." to "6.": the first refusal; "3. Request check 12" is `request_check`
unfoldable pub begin_check : VoterSlotTable → VoterReplacementRequest → VoterSlotLogId → Answer
begin_check t r cut =
    first_refusal (open_check t r cut) (first_refusal (request_check r) (first_refusal (stale_check t r) (first_refusal (candidate_check t r) (full_check t))))

-- a receipt of the open request, at the next revision, of the incarnation that its slot has now; it
-- ends at the cut of the command
abbrev pub receipt_of : VoterSlotTable → VoterSlotRecord → ℕ → VoterSlotLogId → VoterReplacementResult
receipt_of t s kind cut =
    record {
      request_id = t.replacement.attestation.request_id;
      request_digest = t.replacement.attestation.request_digest;
      incarnation = s.member.identity.incarnation;
      revision = t.revision + 1;
      configuration_epoch = t.configuration_epoch;
      kind = kind;
      terminal = cut;
    }

-- The slot of the candidate: its prior incarnation is retired, and a request that was open leaves a
-- superseded receipt.
unfoldable pub begun_slot : VoterSlotTable → VoterReplacementRequest → VoterSlotLogId → VoterSlotRecord
begun_slot t r cut =
    let old = named_slot t r in
    slot_with r.candidate r.attestation.expected_incarnation pending (t.has_replacement || old.has_last_result)
    (cond t.has_replacement (receipt_of t old superseded cut) old.last_result)

-- the slots with that one in its place
abbrev pub begun_slots : VoterSlotTable → VoterReplacementRequest → VoterSlotLogId → List VoterSlotRecord
begun_slots t r cut = set t.slots (named_index t r) (begun_slot t r cut)

-- The request that is opened: Prepared at the cut, from the current configuration to that of the
-- slots with the candidate, one epoch on.
unfoldable pub begun_operation : VoterSlotTable → VoterReplacementRequest → VoterSlotLogId → VoterReplacementRecord
begun_operation t r cut =
    let none = blank_optional_log_id in
    record {
      expected_revision = r.expected_revision;
      attestation = r.attestation;
      predecessor = current_configuration t;
      successor = record { epoch = (current_configuration t).epoch + 1; members = map (λ s. s.member) (begun_slots t r cut); count = t.count };
      phase = prepared;
      evidence = evidence_with cut false blank_voter_snapshot_evidence none none none none none none;
    }

-- the table of a Begin, at the next revision; the epoch stays
abbrev pub begun : VoterSlotTable → VoterReplacementRequest → VoterSlotLogId → VoterSlotTable
begun t r cut = table_with t (t.revision + 1) t.configuration_epoch (begun_slots t r cut) true (begun_operation t r cut)

-- `begin`: a known id first, then the tests, then the table
unfoldable pub begin : VoterSlotTable → VoterReplacementRequest → VoterSlotLogId → Decision
begin t r cut =
    cond (is_known t r.attestation.request_id) (repeated t r)
    (or_refuse (begin_check t r cut) (change (begun t r cut)))

-- ---- the five steps of `advance`: each is tested, and makes a table of its own

-- the open request one step on, at the next revision
abbrev pub advanced : VoterSlotTable → ℕ → VoterReplacementEvidence → VoterSlotTable
advanced t phase evidence =
    table_with t (t.revision + 1) t.configuration_epoch t.slots true (operation_with t.replacement phase evidence)

-- `RecordSnapshot`: its table
abbrev pub snapshot_recorded : VoterSlotTable → VoterSnapshotEvidence → VoterSlotTable
snapshot_recorded t snapshot = advanced t snapshot_installed (with_snapshot t.replacement.evidence snapshot)

-- the same again 0, another 14; else in Prepared, with a cut before the command's index and not of
-- a later term
unfoldable pub record_snapshot : VoterSlotTable → VoterSnapshotEvidence → VoterSlotLogId → Decision
record_snapshot t snapshot cut =
    let op = t.replacement in
    cond op.evidence.has_snapshot
    (cond (same_voter_snapshot_evidence op.evidence.snapshot snapshot) keep (refuse IdempotencyConflict))
    (cond (eqb op.phase prepared and ltb snapshot.cut.index cut.index and leb snapshot.cut.term cut.term)
    (change (snapshot_recorded t snapshot)) (refuse InvalidTransition))

-- `RecordCaughtUp`: its table
abbrev pub caught_up_recorded : VoterSlotTable → VoterSlotLogId → VoterSlotTable
caught_up_recorded t mark = advanced t caught_up (with_caught_up t.replacement.evidence mark)

-- LearnerAdded or CaughtUp
abbrev pub is_catching_up : ℕ → Bool
is_catching_up phase = eqb phase learner_added || eqb phase caught_up

-- the same mark again 0; else in LearnerAdded or CaughtUp, a mark of the command's term and before
-- its index
unfoldable pub record_caught_up : VoterSlotTable → VoterSlotLogId → VoterSlotLogId → Decision
record_caught_up t mark cut =
    let op = t.replacement in
    cond (op.evidence.caught_up.is_some && same_voter_slot_log_id op.evidence.caught_up.cut mark) keep
    (cond (is_catching_up op.phase and eqb mark.term cut.term and ltb mark.index cut.index)
    (change (caught_up_recorded t mark)) (refuse InvalidTransition))

-- `RecordContinuation`: its table; the phase stays
abbrev pub continued : VoterSlotTable → VoterSlotLogId → VoterSlotTable
continued t cut = advanced t t.replacement.phase (with_continuation t.replacement.evidence cut)

-- one that is there 0; not from Fenced on
unfoldable pub record_continuation : VoterSlotTable → VoterSlotLogId → Decision
record_continuation t cut =
    let op = t.replacement in
    cond op.evidence.continuation.is_some keep
    (cond (leb fenced op.phase) (refuse InvalidTransition) (change (continued t cut)))

-- `Fence`: its table
abbrev pub fenced_at : VoterSlotTable → VoterSlotLogId → VoterSlotTable
fenced_at t cut = advanced t fenced (with_fence t.replacement.evidence cut)

-- Fenced or later 0; else in CaughtUp, in the term of the mark
unfoldable pub fence : VoterSlotTable → VoterSlotLogId → Decision
fence t cut =
    let op = t.replacement in
    cond (leb fenced op.phase) keep
    (cond (eqb op.phase caught_up and op.evidence.caught_up.is_some and eqb op.evidence.caught_up.cut.term cut.term)
    (change (fenced_at t cut)) (refuse InvalidTransition))

-- the place of the slot being replaced, or the count
abbrev pub target_index : VoterSlotTable → ℕ
target_index t = slot_index t t.replacement.attestation.slot

-- that slot
abbrev pub target_slot : VoterSlotTable → VoterSlotRecord
target_slot t = slot_at t (target_index t)

-- `Finalize`: its slot gets the completed receipt
unfoldable pub finalized_slot : VoterSlotTable → VoterSlotLogId → VoterSlotRecord
finalized_slot t cut =
    let s = target_slot t in
    slot_with s.member s.retired_through s.phase true (receipt_of t s completed cut)

-- its table: no request is open any more
abbrev pub finalized : VoterSlotTable → VoterSlotLogId → VoterSlotTable
finalized t cut =
    table_with t (t.revision + 1) t.configuration_epoch (set t.slots (target_index t) (finalized_slot t cut)) false blank_voter_replacement_record

-- in Uniform, and the slot is there
unfoldable pub finalize : VoterSlotTable → VoterSlotLogId → Decision
finalize t cut =
    cond (eqb t.replacement.phase uniform && ltb (target_index t) t.count) (change (finalized t cut)) (refuse InvalidTransition)

-- ---- `advance`

-- a slot has the completed receipt of that request
abbrev pub is_receipt_of : (id digest : List ℕ) → VoterSlotRecord → Bool
is_receipt_of id digest s =
    s.has_last_result
    && eq_bytes s.last_result.request_id id
    && eq_bytes s.last_result.request_digest digest
    && eqb s.last_result.kind completed

-- some slot has it
unfoldable pub is_completed : VoterSlotTable → (id digest : List ℕ) → Bool
is_completed t id digest = not (all_below (λ i. not (is_receipt_of id digest (slot_at t i))) t.count)

-- no request is open: a Finalize of a completed request again 0, anything else 13
abbrev pub advance_closed : VoterSlotTable → (id digest : List ℕ) → VoterReplacementStep → Decision
advance_closed t id digest step = cond (eqb step.kind finalize_kind && is_completed t id digest) keep (refuse StaleIncarnation)

-- the step, by its kind: the `match step` of the Rust
unfoldable pub take_step : VoterSlotTable → VoterReplacementStep → VoterSlotLogId → Decision
take_step t step cut =
    cond (eqb step.kind record_snapshot_kind) (record_snapshot t step.snapshot cut)
    (cond (eqb step.kind record_caught_up_kind) (record_caught_up t step.caught_up cut)
    (cond (eqb step.kind record_continuation_kind) (record_continuation t cut)
    (cond (eqb step.kind fence_kind) (fence t cut) (finalize t cut))))

-- the open request against the command: 13 other id; 14 other digest; 25 a cut not past prepare
unfoldable pub advance_open : VoterSlotTable → (id digest : List ℕ) → VoterReplacementStep → VoterSlotLogId → Decision
advance_open t id digest step cut =
    let op = t.replacement in
    cond (not (eq_bytes op.attestation.request_id id)) (refuse StaleIncarnation)
    (cond (not (eq_bytes op.attestation.request_digest digest)) (refuse IdempotencyConflict)
    (cond (leb cut.index op.evidence.prepare.index || ltb cut.term op.evidence.prepare.term) (refuse InvalidTransition)
    (take_step t step cut)))

-- "Advance tests a full revision (2^64 − 1) first, idle repeats included"
unfoldable pub advance : VoterSlotTable → (id digest : List ℕ) → VoterReplacementStep → VoterSlotLogId → Decision
advance t id digest step cut =
    cond (eqb t.revision full) (refuse RevisionExhausted)
    (cond t.has_replacement (advance_open t id digest step cut) (advance_closed t id digest step))

-- ---- Marker

-- the open request, by id and digest, in LearnerAdded or CaughtUp; else 25. A full revision is not
-- tested ("Begin repeats and Marker don't").
unfoldable pub marker : VoterSlotTable → (id digest : List ℕ) → Decision
marker t id digest =
    cond (is_open_request t id && eq_bytes t.replacement.attestation.request_digest digest && is_catching_up t.replacement.phase) keep
    (refuse InvalidTransition)

-- ---- `apply_control`

-- the command, by its kind: the `match control` of the Rust
unfoldable pub decide : VoterSlotTable → VoterSlotControl → VoterSlotLogId → Decision
decide t c cut =
    cond (eqb c.kind begin_kind) (begin t c.request cut)
    (cond (eqb c.kind advance_kind) (advance t c.request_id c.request_digest c.step cut) (marker t c.request_id c.request_digest))

-- 30; "Invalid table, or term or index 0: 25"; the command; the successor check of a changed table
unfoldable pub apply_control : VoterSlotTable → VoterSlotControl → VoterSlotLogId → Answer × VoterSlotTable
apply_control t c cut =
    cond (representable t && representable_control c)
    (cond (is_accepted (validity t) && valid_log_id cut) (settle t (decide t c cut)) (InvalidTransition, t))
    (Unrepresentable, t)
