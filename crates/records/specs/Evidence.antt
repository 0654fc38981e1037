-- Cuts and the evidence of a replacement: `VoterSlotLogId` and `VoterReplacementEvidence` of
-- validation.rs (`validate`, `follows`, `retains`, `latest`).
-- Document 01, section "Validity": a cut is a log position, and the evidence runs from prepare to
-- uniform.
-- Assumes nothing.
use Rattle.std.specs.Prelude.{ℕ, Bool, true, false, cond, not, ◌&&◌, ◌||◌, take, eqb, leb, ltb}
use Rattle.std.specs.Bool.{beq}
use Rattle.identity.specs.Conditions.{◌and◌}
use Rattle.identity.specs.Text.{is_snapshot_id, max_snapshot_id_bytes}
use Rattle.records.specs.Equality.{same_voter_slot_log_id, same_voter_snapshot_evidence}
use Rattle.records.specs.Records.{snapshot_installed, learner_added, caught_up, fenced, joint, uniform}
use Rattle.records.specs.declared.records.OptionalLogId.{OptionalLogId}
use Rattle.records.specs.declared.records.SnapshotId.{SnapshotId}
use Rattle.records.specs.declared.records.VoterSlotLogId.{VoterSlotLogId}
use Rattle.records.specs.declared.records.VoterReplacementEvidence.{VoterReplacementEvidence}

-- `VoterSlotLogId::validate`: no term or index of 0
abbrev pub valid_log_id : VoterSlotLogId → Bool
valid_log_id cut = ltb 0 cut.term && ltb 0 cut.index

-- `VoterSlotLogId::follows`: "Cut B follows A if its index is greater and its term not smaller."
unfoldable pub follows : VoterSlotLogId → VoterSlotLogId → Bool → Bool
follows cut older allow_equal =
    cond (eqb cut.index older.index) (allow_equal && same_voter_slot_log_id cut older)
    (ltb older.index cut.index && leb older.term cut.term)

-- One stage of the evidence: "each following the last and present exactly from its phase on"
unfoldable pub valid_stage : OptionalLogId → Bool → VoterSlotLogId → Bool → Bool
valid_stage stage due previous allow_equal =
    beq stage.is_some due && (not stage.is_some || (valid_log_id stage.cut && follows stage.cut previous allow_equal))

-- The cut that the next stage follows: this one, where it is present.
unfoldable pub stage_or : OptionalLogId → VoterSlotLogId → VoterSlotLogId
stage_or stage previous = cond stage.is_some stage.cut previous

-- the snapshot's cut as a stage
abbrev pub snapshot_cut : VoterReplacementEvidence → OptionalLogId
snapshot_cut e = record { is_some = e.has_snapshot; cut = e.snapshot.cut }

-- "Evidence runs prepare, snapshot, learner, caught up, fence, joint, uniform ..; only a snapshot
-- cut may equal prepare."
unfoldable pub valid_stages : VoterReplacementEvidence → ℕ → Bool
valid_stages e phase =
    let to_snapshot = stage_or (snapshot_cut e) e.prepare in
    let to_learner = stage_or e.learner to_snapshot in
    let to_caught_up = stage_or e.caught_up to_learner in
    let to_fence = stage_or e.fence to_caught_up in
    let to_joint = stage_or e.joint to_fence in
    valid_stage (snapshot_cut e) (leb snapshot_installed phase) e.prepare true
    and valid_stage e.learner (leb learner_added phase) to_snapshot false
    and valid_stage e.caught_up (leb caught_up phase) to_learner false
    and valid_stage e.fence (leb fenced phase) to_caught_up false
    and valid_stage e.joint (leb joint phase) to_fence false
    and valid_stage e.uniform (leb uniform phase) to_joint false

-- The continuation and one other cut, whichever of the two is later.
unfoldable pub in_order : VoterSlotLogId → OptionalLogId → Bool → Bool
in_order continuation other is_snapshot =
    not other.is_some
    || cond (leb other.cut.index continuation.index) (follows continuation other.cut is_snapshot) (follows other.cut continuation false)

-- The continuation, where there is one: after prepare, before the fence, and in order with the
-- snapshot, the learner and the mark. It may equal the snapshot's cut, and no other.
unfoldable pub valid_continuation : VoterReplacementEvidence → Bool
valid_continuation e =
    let c = e.continuation.cut in
    not e.continuation.is_some
    || (valid_log_id c
    and follows c e.prepare false
    and (not e.fence.is_some || follows e.fence.cut c false)
    and in_order c (snapshot_cut e) true
    and in_order c e.learner false
    and in_order c e.caught_up false)

-- A snapshot id. One that is longer than its field is invalid, whatever the field holds.
abbrev pub valid_snapshot_id : SnapshotId → Bool
valid_snapshot_id s = leb s.len max_snapshot_id_bytes && is_snapshot_id (take s.len s.bytes)

-- `VoterReplacementEvidence::validate`
unfoldable pub valid_evidence : VoterReplacementEvidence → ℕ → Bool
valid_evidence e phase =
    valid_log_id e.prepare
    and (not e.has_snapshot || valid_snapshot_id e.snapshot.snapshot_id)
    and valid_stages e phase
    and valid_continuation e

-- A cut that was there is still there.
unfoldable pub retains_cut : OptionalLogId → OptionalLogId → Bool
retains_cut new old = not old.is_some || (new.is_some && same_voter_slot_log_id new.cut old.cut)

-- The caught-up mark is kept or, before the fence, moved on.
unfoldable pub retains_marker : OptionalLogId → OptionalLogId → ℕ → Bool
retains_marker new old old_phase =
    not old.is_some
    || (new.is_some && (same_voter_slot_log_id new.cut old.cut || (ltb old_phase fenced && follows new.cut old.cut false)))

-- so of each of these
unfoldable pub retains_cuts : VoterReplacementEvidence → VoterReplacementEvidence → Bool
retains_cuts new old =
    retains_cut new.learner old.learner
    and retains_cut new.continuation old.continuation
    and retains_cut new.fence old.fence
    and retains_cut new.joint old.joint
    and retains_cut new.uniform old.uniform

-- `VoterReplacementEvidence::retains`
unfoldable pub retains : VoterReplacementEvidence → VoterReplacementEvidence → ℕ → Bool
retains new old old_phase =
    same_voter_slot_log_id new.prepare old.prepare
    and (not old.has_snapshot || (new.has_snapshot && same_voter_snapshot_evidence new.snapshot old.snapshot))
    and retains_marker new.caught_up old.caught_up old_phase
    and retains_cuts new old

-- of two cuts the one of the higher index; of one index the first
unfoldable pub later_of : VoterSlotLogId → OptionalLogId → VoterSlotLogId
later_of latest stage = cond (stage.is_some && ltb latest.index stage.cut.index) stage.cut latest

-- `VoterReplacementEvidence::latest`, in the order of the evidence
unfoldable pub latest : VoterReplacementEvidence → VoterSlotLogId
latest e =
    let to_snapshot = later_of e.prepare (snapshot_cut e) in
    let to_learner = later_of to_snapshot e.learner in
    let to_caught_up = later_of to_learner e.caught_up in
    let to_continuation = later_of to_caught_up e.continuation in
    let to_fence = later_of to_continuation e.fence in
    let to_joint = later_of to_fence e.joint in
    later_of to_joint e.uniform
