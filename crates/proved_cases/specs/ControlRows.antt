-- Rows of control: commands, observations, the retired test, quorums. They show what is easy to get
-- wrong, and they shut out the near programs of document 01, "The contracts", that cannot keep the
-- code's shape. Cases has them in its one table, and its theorem covers them.
-- Assumes nothing.
use Rattle.std.specs.Prelude.{ℕ, ◌+◌, ◌-◌, ◌^◌, true, List, [], ◌∷◌, ◌++◌, replicate}
use Rattle.identity.specs.Answer.{number_of}
use Rattle.records.specs.Blank.{blank_optional_log_id, blank_voter_slot_record, blank_voter_snapshot_evidence}
use Rattle.records.specs.Records.{pending, voting, snapshot_installed}
use Rattle.records.specs.Validation.{validate}
use Rattle.records.specs.With.{evidence_with, present}
use Rattle.records.specs.declared.records.VoterSlotTable.{VoterSlotTable}
use Rattle.control.specs.declared.control.VoterReplacementRequest.{VoterReplacementRequest}
use Rattle.control.specs.Blank.{blank_voter_replacement_step}
use Rattle.control.specs.Control.{begin_kind, advance_kind, marker_kind, record_caught_up_kind, finalize_kind, full}
use Rattle.control.specs.Quorum.{counts_in, is_quorum}
use Rattle.control.specs.Retired.{retired_test, retired_number}
use Rattle.proved_cases.specs.Row.{Row}
use Rattle.proved_cases.specs.Row.Row.{is_number, is-yes, is-no}
use Rattle.proved_cases.specs.Tables.{cut, member_with, fresh_slot, places_of, idle_with, fresh_table}
use Rattle.proved_cases.specs.Calls.{attest_of, request_of, candidate_of, request, unchecked, begins, names, mixed, marks, bare, step_by, snapshot_at, snapshots, catches, continues, fences, finalizes, rows_of, start, first, old, new, both, around, open_second, is_prepared, is_installed, has_learner_at, has_learner, is_caught_up, is_continued, is_fenced, is_joint_table, is_uniform, is_finalized_at, is_finalized, next, is_next, is_replaced_again, is_fenced_alone, second, other_slot, third, both_next, is_superseded, is_second_installed, has_second_learner, is_superseded_again, prepared_with, candidate_in, pending_of, attested_last, epoch_full}
use Rattle.proved_cases.specs.Calls.Act.{observes}
use Rattle.proved_cases.specs.Calls.Response.{gives, makes}

-- A request from its Begin to Finalize, with what is refused and what is repeated in each phase. It
-- shuts out a program that accepts everything and changes nothing, one with a fixed answer, one
-- that refuses all, one whose Begin goes straight to Uniform, one that raises the revision for
-- repeats (a repeat leaves every field as it was), and one that gives 25 early.
abbrev pub whole_replacement : List Row
whole_replacement =
    rows_of start
    -- no request is open. A cut with a zero is 25; nothing was begun or completed; "An idle
    -- observation may carry cut 0, 0"
    (gives (begins first (cut 0 10)) 25
    ∷ gives (begins first (cut 2 0)) 25
    ∷ gives (finalizes 21 (cut 2 1)) 13
    ∷ gives (marks 21 (cut 2 1)) 25
    ∷ gives (observes old (3 ∷ []) old (cut 0 0)) 0
    ∷ gives (observes old (3 ∷ []) (1 ∷ 2 ∷ []) (cut 0 0)) 25
    ∷ gives (observes new (3 ∷ []) old (cut 0 0)) 25
    -- Prepared; the same Begin again, at any cut, is accepted and changes nothing
    ∷ makes (begins first (cut 2 10)) is_prepared
    ∷ gives (begins first (cut 1 1)) 0
    -- another slot's request; steps that come later; a learner that comes early
    ∷ gives (begins other_slot (cut 2 11)) 15
    ∷ gives (marks 21 (cut 2 11)) 25
    ∷ gives (catches 21 (cut 2 11) (cut 2 12)) 25
    ∷ gives (fences 21 (cut 2 11)) 25
    ∷ gives (finalizes 21 (cut 2 11)) 25
    ∷ gives (observes old (3 ∷ []) both (cut 2 11)) 25
    -- a node of the predecessor is missing
    ∷ gives (observes old (3 ∷ []) (1 ∷ 2 ∷ []) (cut 2 11)) 25
    -- a snapshot at the cut of prepare; one that was taken before prepare, which the successor
    -- check refuses
    ∷ gives (snapshots 21 (cut 2 10) (cut 2 10)) 25
    ∷ gives (snapshots 21 (cut 2 9) (cut 2 12)) 25
    -- one that was not taken before the command; one of a later term
    ∷ gives (snapshots 21 (cut 2 12) (cut 2 12)) 25
    ∷ gives (snapshots 21 (cut 3 11) (cut 2 12)) 25
    -- SnapshotInstalled; "only a snapshot cut may equal prepare"
    ∷ makes (snapshots 21 (cut 2 10) (cut 2 12)) is_installed
    -- the same snapshot again; another one
    ∷ gives (snapshots 21 (cut 2 10) (cut 2 11)) 0
    ∷ gives (snapshots 21 (cut 2 11) (cut 2 12)) 14
    -- an observation that finds nothing new may carry cut 0, 0 with a request open too; one that
    -- adds a cut may not, and its cut follows the snapshot's
    ∷ gives (observes old (3 ∷ []) old (cut 0 0)) 0
    ∷ gives (observes old (3 ∷ []) both (cut 0 0)) 25
    ∷ gives (observes old (3 ∷ []) both (cut 2 10)) 25
    -- LearnerAdded; the learner stays from then on
    ∷ makes (observes old (3 ∷ []) both (cut 2 12)) has_learner
    ∷ gives (observes old (3 ∷ []) both (cut 0 0)) 0
    ∷ gives (observes old (3 ∷ []) old (cut 0 0)) 25
    -- a Marker in LearnerAdded, at a cut below prepare
    ∷ gives (marks 21 (cut 1 1)) 0
    -- a mark of another term than the command's
    ∷ gives (catches 21 (cut 2 14) (cut 3 15)) 25
    -- a mark that is not before the command
    ∷ gives (catches 21 (cut 2 15) (cut 2 15)) 25
    -- CaughtUp; the same mark again; a Marker; a later mark; an earlier one, which the successor
    -- check refuses
    ∷ makes (catches 21 (cut 2 14) (cut 2 15)) (is_caught_up 5 (cut 2 14))
    ∷ gives (catches 21 (cut 2 14) (cut 2 15)) 0
    ∷ gives (marks 21 (cut 1 1)) 0
    ∷ makes (catches 21 (cut 2 16) (cut 2 17)) (is_caught_up 6 (cut 2 16))
    ∷ gives (catches 21 (cut 2 15) (cut 2 18)) 25
    -- a continuation at the mark's cut; one that is recorded; another, which is not recorded
    ∷ gives (continues 21 (cut 2 16)) 25
    ∷ makes (continues 21 (cut 2 18)) is_continued
    ∷ gives (continues 21 (cut 2 19)) 0
    -- a fence at the continuation's cut, and one of another term than the mark's; then Fenced
    ∷ gives (fences 21 (cut 2 18)) 25
    ∷ gives (fences 21 (cut 3 19)) 25
    ∷ makes (fences 21 (cut 2 19)) is_fenced
    -- after the fence: no supersession, no Marker; the same snapshot, mark or fence at any cut past
    -- prepare is 0, another snapshot 14, another mark 25
    ∷ gives (begins second (cut 2 30)) 19
    ∷ gives (marks 21 (cut 2 20)) 25
    ∷ gives (snapshots 21 (cut 2 10) (cut 2 11)) 0
    ∷ gives (catches 21 (cut 2 16) (cut 2 11)) 0
    ∷ gives (fences 21 (cut 2 11)) 0
    ∷ gives (snapshots 21 (cut 2 11) (cut 2 30)) 14
    ∷ gives (catches 21 (cut 2 20) (cut 2 30)) 25
    -- Joint is not passed over, comes after the fence, and has the nodes of both configurations and
    -- no more
    ∷ gives (observes new (3 ∷ []) new (cut 2 21)) 25
    ∷ gives (observes (old ++ new) (3 ∷ 3 ∷ []) both (cut 2 19)) 25
    ∷ gives (observes (old ++ new) (3 ∷ 3 ∷ []) (both ++ (131074 ∷ [])) (cut 2 21)) 25
    -- Joint; the epoch stays
    ∷ makes (observes (old ++ new) (3 ∷ 3 ∷ []) both (cut 2 21)) is_joint_table
    ∷ gives (observes (old ++ new) (3 ∷ 3 ∷ []) both (cut 0 0)) 0
    ∷ gives (observes old (3 ∷ []) both (cut 2 22)) 25
    -- the fence again; a Finalize that comes early
    ∷ gives (fences 21 (cut 2 30)) 0
    ∷ gives (finalizes 21 (cut 2 22)) 25
    -- Uniform has the successor's nodes alone; then the epoch is the successor's
    ∷ gives (observes new (3 ∷ []) both (cut 2 22)) 25
    ∷ makes (observes new (3 ∷ []) new (cut 2 22)) is_uniform
    ∷ gives (observes new (3 ∷ []) new (cut 0 0)) 0
    ∷ gives (observes (old ++ new) (3 ∷ 3 ∷ []) both (cut 2 23)) 25
    -- a Finalize at Uniform's cut and below it, which the successor check refuses; then no request
    -- is open
    ∷ gives (finalizes 21 (cut 2 22)) 25
    ∷ gives (finalizes 21 (cut 2 21)) 25
    ∷ makes (finalizes 21 (cut 2 23)) is_finalized
    -- both again, at any cut but one with a zero
    ∷ gives (finalizes 21 (cut 1 1)) 0
    ∷ gives (finalizes 21 (cut 0 0)) 25
    ∷ gives (begins first (cut 1 1)) 0
    -- an idle observation of the new configuration, and of the old one
    ∷ gives (observes new (3 ∷ []) new (cut 0 0)) 0
    ∷ gives (observes old (3 ∷ []) old (cut 0 0)) 25
    -- a lower cut is not refused at a Begin with no open request; its epoch is that of the slots
    ∷ makes (begins next (cut 1 2)) is_next
    -- a completed request resent while another slot's request is open: 0, not 15; its Finalize: 13
    ∷ gives (begins first (cut 1 1)) 0
    ∷ gives (finalizes 21 (cut 1 3)) 13
    ∷ [])

-- Supersession: request 22 takes the place of 21, and 24 that of 22. The predecessor stays the
-- configuration that votes; the receipt says superseded.
abbrev pub supersession : List Row
supersession =
    rows_of has_learner
    -- its index is not above prepare's; it does not follow the learner's cut, and has a lower term,
    -- which the successor check refuses
    (gives (begins second (cut 2 10)) 25
    ∷ gives (begins second (cut 2 12)) 25
    ∷ gives (begins second (cut 1 30)) 25
    ∷ makes (begins second (cut 2 14)) is_superseded
    -- the first again, by its receipt: 0; its Finalize: 13
    ∷ gives (begins first (cut 1 1)) 0
    ∷ gives (finalizes 21 (cut 2 30)) 13
    -- the learner of the superseded request may linger, or be gone; that of the new one comes early
    ∷ gives (observes old (3 ∷ []) both (cut 0 0)) 0
    ∷ gives (observes old (3 ∷ []) old (cut 0 0)) 0
    ∷ gives (observes old (3 ∷ []) both_next (cut 2 15)) 25
    -- no other node may: one of another slot, or of a later incarnation
    ∷ gives (observes old (3 ∷ []) (1 ∷ 2 ∷ 3 ∷ 65539 ∷ []) (cut 0 0)) 25
    ∷ gives (observes old (3 ∷ []) (1 ∷ 2 ∷ 3 ∷ 196610 ∷ []) (cut 0 0)) 25
    -- SnapshotInstalled: it may linger still, and not next to the new one
    ∷ makes (snapshots 22 (cut 2 15) (cut 2 16)) is_second_installed
    ∷ gives (observes old (3 ∷ []) both (cut 0 0)) 0
    ∷ gives (observes old (3 ∷ []) (both ++ (131074 ∷ [])) (cut 2 17)) 25
    -- LearnerAdded: it lingers no more; a continuation at the learner's cut is refused
    ∷ makes (observes old (3 ∷ []) both_next (cut 2 17)) has_second_learner
    ∷ gives (observes old (3 ∷ []) both (cut 2 18)) 25
    ∷ gives (continues 22 (cut 2 17)) 25
    -- superseded again: the receipt of 21 was overwritten and is not remembered, so 21 is stale; 22
    -- is known
    ∷ makes (begins third (cut 2 18)) is_superseded_again
    ∷ gives (begins first (cut 2 30)) 13
    ∷ gives (begins second (cut 1 1)) 0
    ∷ [])
    -- the slot is replaced again: the node that was replaced first does not come back as a learner
    ++ rows_of is_finalized
    (makes (begins (request 11 2 26 2 2 9 10 6) (cut 1 2)) is_replaced_again
    ∷ gives (observes new (3 ∷ []) (1 ∷ 2 ∷ 3 ∷ 65538 ∷ []) (cut 0 0)) 25
    ∷ [])
    -- past the fence no continuation is recorded
    ++ rows_of is_fenced_alone (gives (continues 21 (cut 2 30)) 25 ∷ [])
    -- a continuation may equal the snapshot's cut
    ++ rows_of is_second_installed
    (makes (continues 22 (cut 2 15))
    (open_second 7 pending snapshot_installed
    (evidence_with (cut 2 14) true (snapshot_at (cut 2 15)) blank_optional_log_id blank_optional_log_id (present (cut 2 15)) blank_optional_log_id blank_optional_log_id
    blank_optional_log_id))
    ∷ [])

-- a request for another cluster
abbrev foreign : VoterReplacementRequest
foreign = let a = attest_of 21 21 8 2 1 2 9 5 in request_of 1 8 1 (candidate_of a) a 21 8

-- The order of a Begin: 30; 25; same id 14, 12, else 0; 15; 19; 25 index; 12; 13; 16; 12; 23; 24;
-- 25 successor check. Each call has two faults, and the number of the first.
abbrev pub begin_order : List Row
begin_order =
    rows_of start
    -- 30 and a cut of zeros: a candidate of slot 0
    (gives (begins (request_of 1 7 1 (member_with 0 2 9 5) (attest_of 21 21 7 2 1 2 9 5) 21 8) (cut 0 0)) 30
    -- and a Begin that names a request
    ∷ gives (mixed begin_kind first 21 (cut 0 0)) 30
    -- 12 and 13: the digest recomputed and the revision differ
    ∷ gives (begins (unchecked (request 9 1 21 2 1 2 9 5)) (cut 2 10)) 12
    -- 12 and 13: the expected revision is 0; the expected cluster is not the attested one
    ∷ gives (begins (request 0 1 21 2 1 2 9 5) (cut 2 10)) 12
    ∷ gives (begins (request_of 1 8 1 (member_with 2 2 9 5) (attest_of 21 21 7 2 1 2 9 5) 21 8) (cut 2 10)) 12
    -- 12: the candidate has another key, or another generation, than the attested
    ∷ gives (begins (request_of 1 7 1 (member_with 2 2 10 5) (attest_of 21 21 7 2 1 2 9 5) 21 8) (cut 2 10)) 12
    ∷ gives (begins (request_of 1 7 1 (member_with 2 2 9 6) (attest_of 21 21 7 2 1 2 9 5) 21 8) (cut 2 10)) 12
    -- 12: the candidate of another slot; the attested incarnation is 2^47, and 22 is not given
    ∷ gives (begins (request_of 1 7 1 (member_with 3 2 9 5) (attest_of 21 21 7 2 1 2 9 5) 21 8) (cut 2 10)) 12
    ∷ gives (begins (request_of 1 7 1 (member_with 2 (2 ^ 47) 9 5) (attest_of 21 21 7 2 (2 ^ 47) 2 9 5) 21 8) (cut 2 10)) 12
    -- 13: the slot is missing; the revision, the epoch, the configuration's id, the cluster, the
    -- incarnation or the old descriptor differs; the key is the old one too
    ∷ gives (begins (request 1 1 21 4 1 4 4 5) (cut 2 10)) 13
    ∷ gives (begins (request 9 1 21 2 1 2 2 5) (cut 2 10)) 13
    ∷ gives (begins (request 1 9 21 2 1 2 2 5) (cut 2 10)) 13
    ∷ gives (begins (let a = attest_of 21 21 7 2 1 2 2 5 in request_of 1 7 1 (candidate_of a) a 21 9) (cut 2 10)) 13
    ∷ gives (begins (let a = attest_of 21 21 8 2 1 2 2 5 in request_of 1 8 1 (candidate_of a) a 21 8) (cut 2 10)) 13
    ∷ gives (begins (request 1 1 21 2 2 2 2 5) (cut 2 10)) 13
    ∷ gives (begins (request 1 1 21 2 1 1 2 5) (cut 2 10)) 13
    -- an id of zeros is that of no request: no request is open, and no slot has a receipt
    ∷ gives (begins (request 9 1 0 2 1 2 9 5) (cut 2 10)) 13
    -- step 5's 12: the generation is not greater; the key is the same
    ∷ gives (begins (request 1 1 21 2 1 2 9 1) (cut 2 10)) 12
    ∷ gives (begins (request 1 1 21 2 1 2 2 5) (cut 2 10)) 12
    ∷ [])
    -- one slot: 13 before 16, and 16 before step 5's 12
    ++ rows_of (fresh_table 1) (gives (begins (request 9 1 21 1 1 1 1 5) (cut 2 10)) 13 ∷ gives (begins (request 1 1 21 1 1 1 1 5) (cut 2 10)) 16 ∷ [])
    -- a full epoch: step 5's 12 before 23
    ++ rows_of (idle_with 1 full 3 (places_of 3 9 1))
    (gives (begins (request 1 full 21 2 1 2 2 5) (cut 2 10)) 12 ∷ gives (begins (request 1 full 21 2 1 2 9 5) (cut 2 10)) 23 ∷ [])
    -- a full epoch and a full revision: 23; a full revision alone: 24, and step 5's 12 before it,
    -- so that 24 does not come early
    ++ rows_of (idle_with full full 3 (places_of 3 9 1)) (gives (begins (request full full 21 2 1 2 9 5) (cut 2 10)) 23 ∷ [])
    ++ rows_of (idle_with full 1 3 (places_of 3 9 1))
    (gives (begins (request full 1 21 2 1 2 2 5) (cut 2 10)) 12 ∷ gives (begins (request full 1 21 2 1 2 9 5) (cut 2 10)) 24 ∷ [])
    ++ rows_of is_prepared
    -- the same id: a cut with a zero is 25 before 14, and 14 comes before 12; the request is
    -- checked again
    (gives (begins (let a = attest_of 21 20 7 2 1 2 9 5 in request_of 1 7 1 (candidate_of a) a 20 8) (cut 0 1)) 25
    ∷ gives (begins (let a = attest_of 21 20 7 2 1 2 9 5 in request_of 1 7 1 (candidate_of a) a 99 8) (cut 1 1)) 14
    ∷ gives (begins (unchecked first) (cut 1 1)) 12
    ∷ gives (begins (request 1 1 21 2 1 2 9 0) (cut 1 1)) 12
    -- it looks at nothing else: another slot, revision and epoch, supplied configuration id, or
    -- cluster
    ∷ gives (begins (request 1 1 21 3 1 3 9 5) (cut 1 1)) 0
    ∷ gives (begins (request 9 9 21 2 1 2 9 5) (cut 1 1)) 0
    ∷ gives (begins (let a = attest_of 21 21 7 2 1 2 9 5 in request_of 1 7 1 (candidate_of a) a 21 9) (cut 1 1)) 0
    ∷ gives (begins foreign (cut 1 1)) 0
    -- 15 is for the attested slot: the candidate's is 12; and 15 comes before the index and before
    -- 12
    ∷ gives (begins (request_of 2 7 1 (member_with 3 3 10 6) (attest_of 22 22 7 2 2 9 10 6) 22 8) (cut 2 11)) 12
    ∷ gives (begins (unchecked other_slot) (cut 2 10)) 15
    -- 25 for the index comes before 12; the term does not: a lower one comes after 12, 13 and step
    -- 5's 12
    ∷ gives (begins (unchecked (request 2 1 22 2 2 9 10 6)) (cut 2 10)) 25
    ∷ gives (begins (unchecked (request 2 1 22 2 2 9 10 6)) (cut 1 11)) 12
    ∷ gives (begins (request 9 1 22 2 2 9 10 6) (cut 1 11)) 13
    ∷ gives (begins (request 2 1 22 2 2 9 9 6) (cut 1 11)) 12
    ∷ gives (begins (request 2 1 22 2 2 9 10 6) (cut 1 11)) 25
    ∷ [])
    -- past the fence: another slot's is 15 before 19, and 19 comes before the index
    ++ rows_of is_fenced (gives (begins other_slot (cut 2 30)) 15 ∷ gives (begins second (cut 2 10)) 19 ∷ [])
    -- a full revision with a request open: a lower term comes after 24; a repeat does not test it
    ++ rows_of (has_learner_at full) (gives (begins (request full 1 22 2 2 9 10 6) (cut 1 30)) 24 ∷ gives (begins first (cut 1 1)) 0 ∷ [])

-- The order of an Advance: 30; 25; 24; no request open 0 or 13; 13 other id; 14 other digest; 25
-- cut against prepare; the step's.
abbrev pub advance_order : List Row
advance_order =
    rows_of is_installed
    -- 30 and a cut of zeros: no step is of kind 5; a Finalize has no mark; a Marker has no step; a
    -- Finalize has no snapshot; a Marker has no request; no command is of kind 3
    (gives (names advance_kind 21 21 (bare 5) (cut 0 0)) 30
    ∷ gives (names advance_kind 21 21 (step_by finalize_kind blank_voter_snapshot_evidence (cut 1 1)) (cut 0 0)) 30
    ∷ gives (names marker_kind 21 21 (bare record_caught_up_kind) (cut 0 0)) 30
    ∷ gives (names advance_kind 21 21 (step_by finalize_kind (snapshot_at (cut 1 1)) (cut 0 0)) (cut 0 0)) 30
    ∷ gives (mixed marker_kind first 21 (cut 0 0)) 30
    ∷ gives (names 3 21 21 blank_voter_replacement_step (cut 0 0)) 30
    -- 13 and 14: another id and another digest; 14 and the cut of prepare
    ∷ gives (names advance_kind 22 20 (bare finalize_kind) (cut 2 10)) 13
    ∷ gives (names advance_kind 21 20 (bare finalize_kind) (cut 2 10)) 14
    -- the cut is compared with prepare before a repeat's 0 and before 14: its index, and its term
    ∷ gives (snapshots 21 (cut 2 10) (cut 2 10)) 25
    ∷ gives (snapshots 21 (cut 2 10) (cut 1 30)) 25
    ∷ gives (snapshots 21 (cut 2 11) (cut 2 10)) 25
    ∷ [])
    -- no request open: a repeated Finalize with another digest, and another step
    ++ rows_of is_finalized (gives (names advance_kind 21 20 (bare finalize_kind) (cut 1 1)) 13 ∷ gives (fences 21 (cut 1 1)) 13 ∷ [])
    -- a full revision: 25 for the cut before 24; 24 before 13, and for an idle repeat
    ++ rows_of (is_finalized_at full)
    (gives (finalizes 21 (cut 0 1)) 25 ∷ gives (fences 22 (cut 1 1)) 24 ∷ gives (finalizes 21 (cut 1 1)) 24 ∷ [])
    -- with a request open: 24 before 13 and before the cut; a Marker does not test it
    ++ rows_of (has_learner_at full) (gives (fences 22 (cut 2 10)) 24 ∷ gives (snapshots 21 (cut 2 10) (cut 2 11)) 24 ∷ gives (marks 21 (cut 1 1)) 0 ∷ [])
    -- a Marker by another id, another digest, or at a cut with a zero
    ++ rows_of has_learner
    (gives (marks 22 (cut 1 1)) 25 ∷ gives (names marker_kind 21 20 blank_voter_replacement_step (cut 1 1)) 25 ∷ gives (marks 21 (cut 0 1)) 25 ∷ [])

-- The order of an observation: 30; 31; 24; 25 sets and nodes; unchanged 0; 25 successor check.
abbrev pub observation_order : List Row
observation_order =
    rows_of start
    -- 30 and 31: an id of 2^63 after a greater one; counts that do not add up; a sum that must not
    -- wrap
    (gives (observes ((2 ^ 63 + 1) ∷ (2 ^ 63) ∷ []) (2 ∷ []) old (cut 0 0)) 30
    ∷ gives (observes (3 ∷ 2 ∷ []) (1 ∷ []) old (cut 0 0)) 30
    ∷ gives (observes [] (full ∷ 1 ∷ []) [] (cut 0 0)) 30
    ∷ gives (observes old (3 ∷ []) ((2 ^ 63) ∷ 1 ∷ []) (cut 0 0)) 30
    -- an id of 0 can be held: it is of no slot
    ∷ gives (observes old (3 ∷ []) (0 ∷ old) (cut 0 0)) 25
    -- and the greatest id
    ∷ gives (observes old (3 ∷ []) (old ++ ((2 ^ 63 - 1) ∷ [])) (cut 0 0)) 25
    -- 31: a set, a second set, or the nodes
    ∷ gives (observes (old ++ (2 ∷ 1 ∷ [])) (3 ∷ 2 ∷ []) old (cut 0 0)) 31
    ∷ gives (observes (1 ∷ 3 ∷ 2 ∷ []) (3 ∷ []) old (cut 0 0)) 31
    ∷ gives (observes old (3 ∷ []) (1 ∷ 1 ∷ []) (cut 0 0)) 31
    ∷ [])
    -- 30 of the table comes before 31
    ++ rows_of (fresh_table 10) (gives (observes (3 ∷ 2 ∷ []) (2 ∷ []) [] (cut 0 0)) 30 ∷ [])
    -- a full revision: 31 before 24; 24 before 25, and for an idle observation that matches
    ++ rows_of (idle_with full 1 3 (places_of 3 9 1))
    (gives (observes (1 ∷ 3 ∷ 2 ∷ []) (3 ∷ []) old (cut 0 0)) 31
    ∷ gives (observes old (3 ∷ []) (2 ∷ 1 ∷ []) (cut 0 0)) 31
    ∷ gives (observes new (3 ∷ []) new (cut 0 0)) 24
    ∷ gives (observes old (3 ∷ []) old (cut 0 0)) 24
    ∷ [])
    -- with a request open too
    ++ rows_of (has_learner_at full) (gives (observes [] [] [] (cut 0 0)) 24 ∷ gives (observes old (3 ∷ []) both (cut 0 0)) 24 ∷ [])

-- Observations do not validate, and commands do: tables that are not valid.
abbrev pub invalid_tables : List Row
invalid_tables =
    -- no slots: one empty set and no nodes is what the table has; no set is not
    rows_of (fresh_table 0) (gives (observes [] (0 ∷ []) [] (cut 0 0)) 0 ∷ gives (observes [] [] [] (cut 0 0)) 25 ∷ gives (begins first (cut 2 10)) 25 ∷ [])
    -- slot 1 twice: the set has it once
    ++ rows_of (idle_with 1 1 2 (fresh_slot 1 ∷ fresh_slot 1 ∷ replicate 7 blank_voter_slot_record)) (gives (observes (1 ∷ []) (1 ∷ []) (1 ∷ []) (cut 0 0)) 0 ∷ [])
    -- Prepared, where the slot being replaced is Voting: its phase would change, and the successor
    -- check refuses that
    ++ rows_of (prepared_with (around (candidate_in voting))) (gives (observes old (3 ∷ []) old (cut 0 0)) 25 ∷ [])
    -- the wrong phase is another slot's, which an observation does not write; a repeated Begin is
    -- 25 all the same
    ++ rows_of (prepared_with (fresh_slot 1 ∷ candidate_in pending ∷ pending_of 3 ∷ replicate 6 blank_voter_slot_record))
    (gives (observes old (3 ∷ []) old (cut 0 0)) 0 ∷ gives (begins first (cut 2 10)) 25 ∷ [])
    -- the slot being replaced is absent
    ++ rows_of (prepared_with (around (fresh_slot 4))) (gives (observes old (3 ∷ []) old (cut 0 0)) 25 ∷ [])
    -- an attested incarnation of 2^47: 3, also with a fault in a later slot; a fault in an earlier
    -- slot is 6. A command answers 25
    ++ (is_number (number_of (validate (attested_last (around (candidate_in pending))))) 3
    ∷ is_number (number_of (validate (attested_last (fresh_slot 1 ∷ candidate_in pending ∷ pending_of 3 ∷ replicate 6 blank_voter_slot_record)))) 3
    ∷ is_number (number_of (validate (attested_last (pending_of 1 ∷ candidate_in pending ∷ fresh_slot 3 ∷ replicate 6 blank_voter_slot_record)))) 6
    ∷ [])
    ++ rows_of (attested_last (around (candidate_in pending))) (gives (marks 21 (cut 2 11)) 25 ∷ [])
    -- a full epoch of the predecessor has none after it
    ++ (is_number (number_of (validate epoch_full)) 6 ∷ [])

-- what the retired test answers: 100 no, 101 yes, or 30
abbrev asked : VoterSlotTable → ℕ → ℕ
asked t node = retired_number (retired_test t node)

-- The retired test: 30 from the table; then no or yes.
abbrev pub retired_rows : List Row
retired_rows =
    -- before the Begin, node 2 is not retired; from the Begin on it is, though still in the
    -- predecessor configuration; its candidate and another slot's node are not
    is_number (asked start 2) 100
    ∷ is_number (asked is_prepared 2) 101
    ∷ is_number (asked is_prepared 65538) 100
    ∷ is_number (asked is_prepared 1) 100
    -- and it stays so; a candidate that was superseded is retired too
    ∷ is_number (asked is_finalized 2) 101
    ∷ is_number (asked is_finalized 65538) 100
    ∷ is_number (asked is_superseded 65538) 101
    ∷ is_number (asked is_superseded 131074) 100
    -- an invalid id, and one of a slot that is not there: no
    ∷ is_number (asked is_prepared 0) 100
    ∷ is_number (asked is_prepared (2 ^ 63)) 100
    ∷ is_number (asked is_prepared 4) 100
    -- a slot number that occurs twice: every slot is looked at
    ∷ is_number (asked (idle_with 1 1 2 (fresh_slot 2 ∷ candidate_in pending ∷ replicate 7 blank_voter_slot_record)) 2) 101
    -- a table of ten slots
    ∷ is_number (asked (fresh_table 10) 2) 30
    ∷ []

-- What Quorum says that it does not say: node 2 is being replaced by 65,538, and `whole_replacement`
-- has the calls from Fenced through Joint to Uniform.
abbrev pub quorum_rows : List Row
quorum_rows =
    -- two quorums of one table share only node 2, which counts though it is retired
    is-yes (is_quorum is_fenced (1 ∷ 2 ∷ []))
    ∷ is-yes (is_quorum is_fenced (2 ∷ 3 ∷ []))
    ∷ is-yes (counts_in is_fenced 2)
    ∷ is_number (asked is_fenced 2) 101
    -- the candidate counts from Joint on
    ∷ is-no (counts_in is_fenced 65538)
    ∷ is-yes (counts_in is_joint_table 65538)
    -- a quorum of Fenced and one of Uniform that share no node; neither is one of Joint
    ∷ is-yes (is_quorum is_uniform (3 ∷ 65538 ∷ []))
    ∷ is-no (is_quorum is_joint_table (1 ∷ 2 ∷ []))
    ∷ is-no (is_quorum is_joint_table (3 ∷ 65538 ∷ []))
    -- node 2 counts no more
    ∷ is-no (counts_in is_uniform 2)
    -- of five, three are a quorum, and two are not
    ∷ is-yes (is_quorum (fresh_table 5) (1 ∷ 3 ∷ 5 ∷ []))
    ∷ is-no (is_quorum (fresh_table 5) (1 ∷ 3 ∷ []))
    ∷ []
