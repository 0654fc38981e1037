-- What the rows of control speak of: requests, commands and observations; how a line of calls
-- becomes rows; and each table that stands on such a line, written out field by field, so that a
-- row compares a whole table with what document 01 says of it and not with what a definition makes.
-- Assumes nothing.
use Rattle.std.specs.Prelude.{ℕ, ◌+◌, ◌^◌, true, false, List, [], ◌∷◌, ◌++◌, replicate}
use Rattle.identity.specs.Identity.{identity_of}
use Rattle.identity.specs.Text.{scheme}
use Rattle.identity.specs.Answer.{Answer}
use Rattle.records.specs.Blank.{blank_optional_log_id, blank_voter_slot_member, blank_voter_replacement_result, blank_voter_slot_record, blank_voter_snapshot_evidence}
use Rattle.records.specs.Records.{pending, catching_up, voting, prepared, snapshot_installed, learner_added, caught_up, fenced, joint, uniform, completed, superseded, storage_lost}
use Rattle.records.specs.With.{slot_with, table_with, evidence_with, present}
use Rattle.records.specs.declared.records.SpiffeId.{SpiffeId}
use Rattle.records.specs.declared.records.VoterSlotLogId.{VoterSlotLogId}
use Rattle.records.specs.declared.records.VoterSlotMember.{VoterSlotMember}
use Rattle.records.specs.declared.records.VoterSlotRecord.{VoterSlotRecord}
use Rattle.records.specs.declared.records.VoterSnapshotEvidence.{VoterSnapshotEvidence}
use Rattle.records.specs.declared.records.VoterConfiguration.{VoterConfiguration}
use Rattle.records.specs.declared.records.VoterReplacementEvidence.{VoterReplacementEvidence}
use Rattle.records.specs.declared.records.VoterReplacementRecord.{VoterReplacementRecord}
use Rattle.records.specs.declared.records.VoterReplacementResult.{VoterReplacementResult}
use Rattle.records.specs.declared.records.LostVoterAttestationV1.{LostVoterAttestationV1}
use Rattle.records.specs.declared.records.VoterSlotTable.{VoterSlotTable}
use Rattle.control.specs.declared.control.VoterReplacementRequest.{VoterReplacementRequest}
use Rattle.control.specs.declared.control.VoterReplacementStep.{VoterReplacementStep}
use Rattle.control.specs.declared.control.VoterSlotControl.{VoterSlotControl}
use Rattle.control.specs.Blank.{blank_voter_replacement_request, blank_voter_replacement_step, blank_request_id, blank_request_digest}
use Rattle.control.specs.Control.{begin_kind, advance_kind, marker_kind, record_snapshot_kind, record_caught_up_kind, record_continuation_kind, fence_kind, finalize_kind, full, apply_control}
use Rattle.control.specs.Observation.{observe_membership}
use Rattle.proved_cases.specs.Row.{Row}
use Rattle.proved_cases.specs.Row.Row.{is-outcome}
use Rattle.proved_cases.specs.Tables.{cut, key, member_with, fresh_slot, idle_with, fresh_table}

-- ---- requests

-- `spiffe://a`
abbrev pub name : SpiffeId
name = record { len = 10; bytes = scheme ++ (97 ∷ replicate 2038 0) }

-- an attestation: ids and digests are told by one byte
abbrev pub attest_of : (id digest cluster slot incarnation old candidate generation : ℕ) → LostVoterAttestationV1
attest_of id digest cluster slot incarnation old candidate generation =
    record {
      request_id = replicate 16 id;
      request_digest = key digest;
      cluster_instance = key cluster;
      slot = slot;
      expected_incarnation = incarnation;
      old_descriptor_digest = key old;
      candidate_key_digest = key candidate;
      admission_generation = generation;
      candidate_spiffe_id = name;
      controller_spiffe_id = name;
      signing_key_digest = key 1;
      reason = storage_lost;
      policy_digest = key 2;
      observation_start_ms = 1;
      decision_ms = 2;
      issued_ms = 3;
      expires_ms = 4;
      signature = replicate 64 3;
    }

-- the digest is told by the id's byte, and the cluster is the tables'
abbrev pub attest : (id slot incarnation old candidate generation : ℕ) → LostVoterAttestationV1
attest id slot incarnation old candidate generation = attest_of id id 7 slot incarnation old candidate generation

-- a request with each part that the request check and the stale check compare
abbrev pub request_of : (revision cluster epoch : ℕ) → VoterSlotMember → LostVoterAttestationV1 → (digest configuration : ℕ) → VoterReplacementRequest
request_of revision cluster epoch candidate a digest configuration =
    record {
      expected_revision = revision;
      expected_configuration = record { cluster_id = key cluster; configuration_id = key 8; configuration_epoch = epoch };
      candidate = candidate;
      attestation = a;
      supplied_request_digest = key digest;
      supplied_configuration_id = key configuration;
    }

-- the candidate that an attestation speaks of
abbrev pub candidate_of : LostVoterAttestationV1 → VoterSlotMember
candidate_of a =
    record {
      identity = identity_of a.slot (a.expected_incarnation + 1);
      key_digest = a.candidate_key_digest;
      descriptor_digest = a.candidate_key_digest;
      admission_generation = a.admission_generation;
    }

-- for that revision and epoch, as the table is and as recomputed
abbrev pub request : (revision epoch id slot incarnation old candidate generation : ℕ) → VoterReplacementRequest
request revision epoch id slot incarnation old candidate generation =
    let a = attest id slot incarnation old candidate generation in
    request_of revision 7 epoch (candidate_of a) a id 8

-- the same with another recomputed digest: the request check fails
abbrev pub unchecked : VoterReplacementRequest → VoterReplacementRequest
unchecked r =
    record {
      expected_revision = r.expected_revision;
      expected_configuration = r.expected_configuration;
      candidate = r.candidate;
      attestation = r.attestation;
      supplied_request_digest = key 99;
      supplied_configuration_id = r.supplied_configuration_id;
    }

-- ---- calls

-- a call with its values
pub data Act : Type 0 where
  commands : VoterSlotControl → VoterSlotLogId → Act
  observes : (ids counts nodes : List ℕ) → VoterSlotLogId → Act

-- what it gives, by the definitions of `apply_control` and `observe_membership`
abbrev pub does : Act → VoterSlotTable → Answer × VoterSlotTable
does (commands c at) t = apply_control t c at
does (observes ids counts nodes at) t = observe_membership t ids counts nodes at

-- a Begin
abbrev pub begins : VoterReplacementRequest → VoterSlotLogId → Act
begins r at =
    commands (record { kind = begin_kind; request = r; request_id = blank_request_id; request_digest = blank_request_digest; step = blank_voter_replacement_step }) at

-- a command that names a request by its id and its digest
abbrev pub names : (kind id digest : ℕ) → VoterReplacementStep → VoterSlotLogId → Act
names kind id digest s at =
    commands (record { kind = kind; request = blank_voter_replacement_request; request_id = replicate 16 id; request_digest = key digest; step = s }) at

-- a command of any kind with a request and an id, which none has
abbrev pub mixed : (kind : ℕ) → VoterReplacementRequest → (id : ℕ) → VoterSlotLogId → Act
mixed kind r id at =
    commands (record { kind = kind; request = r; request_id = replicate 16 id; request_digest = blank_request_digest; step = blank_voter_replacement_step }) at

-- a Marker
abbrev pub marks : (id : ℕ) → VoterSlotLogId → Act
marks id at = names marker_kind id id blank_voter_replacement_step at

-- a step of these parts
abbrev pub step_by : ℕ → VoterSnapshotEvidence → VoterSlotLogId → VoterReplacementStep
step_by kind snapshot mark = record { kind = kind; snapshot = snapshot; caught_up = mark }

-- a step with no part
abbrev pub bare : ℕ → VoterReplacementStep
bare kind = step_by kind blank_voter_snapshot_evidence (cut 0 0)

-- a snapshot at that cut, with the id `s`
abbrev pub snapshot_at : VoterSlotLogId → VoterSnapshotEvidence
snapshot_at at = record { cut = at; snapshot_id = record { len = 1; bytes = 115 ∷ replicate 255 0 }; digest = key 4 }

-- each step: of request id, with its part, at a cut
abbrev pub snapshots : ℕ → (taken at : VoterSlotLogId) → Act
snapshots id taken at = names advance_kind id id (step_by record_snapshot_kind (snapshot_at taken) (cut 0 0)) at

abbrev pub catches : ℕ → (mark at : VoterSlotLogId) → Act
catches id mark at = names advance_kind id id (step_by record_caught_up_kind blank_voter_snapshot_evidence mark) at

abbrev pub continues : ℕ → VoterSlotLogId → Act
continues id at = names advance_kind id id (bare record_continuation_kind) at

abbrev pub fences : ℕ → VoterSlotLogId → Act
fences id at = names advance_kind id id (bare fence_kind) at

abbrev pub finalizes : ℕ → VoterSlotLogId → Act
finalizes id at = names advance_kind id id (bare finalize_kind) at

-- ---- lines of calls

-- A call that is refused, or accepted and unchanged, gives its number and leaves the table; one
-- that changes it is accepted and makes that table.
pub data Response : Type 0 where
  gives : Act → ℕ → Response
  makes : Act → VoterSlotTable → Response

-- each call a row, on the table that the one before it leaves
abbrev pub rows_of : VoterSlotTable → List Response → List Row
rows_of t [] = []
rows_of t (gives act number ∷ responses) = is-outcome (does act t) number t ∷ rows_of t responses
rows_of t (makes act next ∷ responses) = is-outcome (does act t) 0 next ∷ rows_of next responses

-- ---- request 21: slot 2 of three, in incarnation 2; from its Begin to Finalize

-- the table before it
abbrev pub start : VoterSlotTable
start = fresh_table 3

-- its request, for revision 1 and epoch 1
abbrev pub first : VoterReplacementRequest
first = request 1 1 21 2 1 2 9 5

-- the nodes of the predecessor, of the successor, and of both
abbrev pub old : List ℕ
old = 1 ∷ 2 ∷ 3 ∷ []

abbrev pub new : List ℕ
new = 1 ∷ 3 ∷ 65538 ∷ []

abbrev pub both : List ℕ
both = 1 ∷ 2 ∷ 3 ∷ 65538 ∷ []

-- three slots and their members, with these in place of slot 2
abbrev pub around : VoterSlotRecord → List VoterSlotRecord
around two = fresh_slot 1 ∷ two ∷ fresh_slot 3 ∷ replicate 6 blank_voter_slot_record

-- the configuration of that epoch, with this member in slot 2
abbrev pub configuration_with : ℕ → VoterSlotMember → VoterConfiguration
configuration_with epoch two =
    record { epoch = epoch; members = member_with 1 1 1 1 ∷ two ∷ member_with 3 1 3 1 ∷ replicate 6 blank_voter_slot_member; count = 3 }

-- a table of these parts, with this request open
abbrev pub open_with : (revision epoch : ℕ) → List VoterSlotRecord → VoterReplacementRecord → VoterSlotTable
open_with revision epoch slots op = table_with start revision epoch slots true op

-- a request of these parts, where the member of slot 2 that is replaced is the first one
abbrev pub operation_of : (revision : ℕ) → LostVoterAttestationV1 → VoterSlotMember → ℕ → VoterReplacementEvidence → VoterReplacementRecord
operation_of revision a candidate phase evidence =
    record {
      expected_revision = revision;
      attestation = a;
      predecessor = configuration_with 1 (member_with 2 1 2 1);
      successor = configuration_with 2 candidate;
      phase = phase;
      evidence = evidence;
    }

-- with request 21 open, in these phases
abbrev pub open_first : (revision epoch slot_phase phase : ℕ) → VoterReplacementEvidence → VoterSlotTable
open_first revision epoch slot_phase phase evidence =
    open_with revision epoch (around (slot_with (member_with 2 2 9 5) 1 slot_phase false blank_voter_replacement_result))
    (operation_of 1 (attest 21 2 1 2 9 5) (member_with 2 2 9 5) phase evidence)

-- evidence of a prepare alone
abbrev pub prepare_at : VoterSlotLogId → VoterReplacementEvidence
prepare_at at =
    evidence_with at false blank_voter_snapshot_evidence blank_optional_log_id blank_optional_log_id blank_optional_log_id blank_optional_log_id blank_optional_log_id
    blank_optional_log_id

-- after its Begin, and after each step up to Finalize
abbrev pub is_prepared : VoterSlotTable
is_prepared = open_first 2 1 pending prepared (prepare_at (cut 2 10))

abbrev pub is_installed : VoterSlotTable
is_installed =
    open_first 3 1 pending snapshot_installed
    (evidence_with (cut 2 10) true (snapshot_at (cut 2 10)) blank_optional_log_id blank_optional_log_id blank_optional_log_id blank_optional_log_id blank_optional_log_id
    blank_optional_log_id)

-- at that revision
abbrev pub has_learner_at : ℕ → VoterSlotTable
has_learner_at revision =
    open_first revision 1 catching_up learner_added
    (evidence_with (cut 2 10) true (snapshot_at (cut 2 10)) (present (cut 2 12)) blank_optional_log_id blank_optional_log_id blank_optional_log_id blank_optional_log_id
    blank_optional_log_id)

abbrev pub has_learner : VoterSlotTable
has_learner = has_learner_at 4

-- at that revision, with that mark
abbrev pub is_caught_up : ℕ → VoterSlotLogId → VoterSlotTable
is_caught_up revision mark =
    open_first revision 1 catching_up caught_up
    (evidence_with (cut 2 10) true (snapshot_at (cut 2 10)) (present (cut 2 12)) (present mark) blank_optional_log_id blank_optional_log_id blank_optional_log_id
    blank_optional_log_id)

abbrev pub is_continued : VoterSlotTable
is_continued =
    open_first 7 1 catching_up caught_up
    (evidence_with (cut 2 10) true (snapshot_at (cut 2 10)) (present (cut 2 12)) (present (cut 2 16)) (present (cut 2 18)) blank_optional_log_id blank_optional_log_id
    blank_optional_log_id)

abbrev pub is_fenced : VoterSlotTable
is_fenced =
    open_first 8 1 catching_up fenced
    (evidence_with (cut 2 10) true (snapshot_at (cut 2 10)) (present (cut 2 12)) (present (cut 2 16)) (present (cut 2 18)) (present (cut 2 19)) blank_optional_log_id
    blank_optional_log_id)

-- the epoch is still that of the predecessor
abbrev pub is_joint_table : VoterSlotTable
is_joint_table =
    open_first 9 1 voting joint
    (evidence_with (cut 2 10) true (snapshot_at (cut 2 10)) (present (cut 2 12)) (present (cut 2 16)) (present (cut 2 18)) (present (cut 2 19)) (present (cut 2 21))
    blank_optional_log_id)

-- and here that of the successor
abbrev pub is_uniform : VoterSlotTable
is_uniform =
    open_first 10 2 voting uniform
    (evidence_with (cut 2 10) true (snapshot_at (cut 2 10)) (present (cut 2 12)) (present (cut 2 16)) (present (cut 2 18)) (present (cut 2 19)) (present (cut 2 21))
    (present (cut 2 22)))

-- a receipt of these parts; the digest is told by the id's byte
abbrev pub receipt_with : (id incarnation revision epoch kind : ℕ) → VoterSlotLogId → VoterReplacementResult
receipt_with id incarnation revision epoch kind terminal =
    record {
      request_id = replicate 16 id;
      request_digest = key id;
      incarnation = incarnation;
      revision = revision;
      configuration_epoch = epoch;
      kind = kind;
      terminal = terminal;
    }

-- slot 2 with the receipt of its Finalize at revision 11
abbrev pub replaced_slot : VoterSlotRecord
replaced_slot = slot_with (member_with 2 2 9 5) 1 voting true (receipt_with 21 2 11 2 completed (cut 2 23))

-- at that revision
abbrev pub is_finalized_at : ℕ → VoterSlotTable
is_finalized_at revision = idle_with revision 2 3 (around replaced_slot)

-- after Finalize
abbrev pub is_finalized : VoterSlotTable
is_finalized = is_finalized_at 11

-- ---- request 25, after it: slot 3, at a lower cut

-- its request, for revision 11 and epoch 2
abbrev pub next : VoterReplacementRequest
next = request 11 2 25 3 1 3 9 5

-- after its Begin
abbrev pub is_next : VoterSlotTable
is_next =
    open_with 12 2 (fresh_slot 1 ∷ replaced_slot ∷ slot_with (member_with 3 2 9 5) 1 pending false blank_voter_replacement_result ∷ replicate 6 blank_voter_slot_record)
    (record {
      expected_revision = 11;
      attestation = attest 25 3 1 3 9 5;
      predecessor = configuration_with 2 (member_with 2 2 9 5);
      successor =
          record { epoch = 3; members = member_with 1 1 1 1 ∷ member_with 2 2 9 5 ∷ member_with 3 2 9 5 ∷ replicate 6 blank_voter_slot_member; count = 3 };
      phase = prepared;
      evidence = prepare_at (cut 1 2);
    })

-- ---- request 26, after it too: slot 2 again, in incarnation 3

-- after its Begin; the receipt of 21 stays
abbrev pub is_replaced_again : VoterSlotTable
is_replaced_again =
    open_with 12 2 (around (slot_with (member_with 2 3 10 6) 2 pending true replaced_slot.last_result))
    (record {
      expected_revision = 11;
      attestation = attest 26 2 2 9 10 6;
      predecessor = configuration_with 2 (member_with 2 2 9 5);
      successor = configuration_with 3 (member_with 2 3 10 6);
      phase = prepared;
      evidence = prepare_at (cut 1 2);
    })

-- ---- requests 22 and 24, of which each supersedes the one before it; 23 is for another slot

-- the three requests
abbrev pub second : VoterReplacementRequest
second = request 4 1 22 2 2 9 10 6

abbrev pub other_slot : VoterReplacementRequest
other_slot = request 1 1 23 3 1 3 9 5

abbrev pub third : VoterReplacementRequest
third = request 7 1 24 2 3 10 11 7

-- the candidate of 22, and the predecessor's nodes with it as learner
abbrev pub both_next : List ℕ
both_next = 1 ∷ 2 ∷ 3 ∷ 131074 ∷ []

-- The slot has the superseded receipt of 21: the incarnation of its candidate, the revision of the
-- Begin that superseded it, the table's epoch.
abbrev pub open_second : (revision slot_phase phase : ℕ) → VoterReplacementEvidence → VoterSlotTable
open_second revision slot_phase phase evidence =
    open_with revision 1 (around (slot_with (member_with 2 3 10 6) 2 slot_phase true (receipt_with 21 2 5 1 superseded (cut 2 14))))
    (operation_of 4 (attest 22 2 2 9 10 6) (member_with 2 3 10 6) phase evidence)

-- 22 after its Begin, and after two steps
abbrev pub is_superseded : VoterSlotTable
is_superseded = open_second 5 pending prepared (prepare_at (cut 2 14))

abbrev pub is_second_installed : VoterSlotTable
is_second_installed =
    open_second 6 pending snapshot_installed
    (evidence_with (cut 2 14) true (snapshot_at (cut 2 15)) blank_optional_log_id blank_optional_log_id blank_optional_log_id blank_optional_log_id blank_optional_log_id
    blank_optional_log_id)

abbrev pub has_second_learner : VoterSlotTable
has_second_learner =
    open_second 7 catching_up learner_added
    (evidence_with (cut 2 14) true (snapshot_at (cut 2 15)) (present (cut 2 17)) blank_optional_log_id blank_optional_log_id blank_optional_log_id blank_optional_log_id
    blank_optional_log_id)

-- the receipt of 22 has taken the place of that of 21
abbrev pub is_superseded_again : VoterSlotTable
is_superseded_again =
    open_with 8 1 (around (slot_with (member_with 2 4 11 7) 3 pending true (receipt_with 22 3 8 1 superseded (cut 2 18))))
    (operation_of 7 (attest 24 2 3 10 11 7) (member_with 2 4 11 7) prepared (prepare_at (cut 2 18)))

-- ---- Fenced, with no continuation

-- after the fence
abbrev pub is_fenced_alone : VoterSlotTable
is_fenced_alone =
    open_first 7 1 catching_up fenced
    (evidence_with (cut 2 10) true (snapshot_at (cut 2 10)) (present (cut 2 12)) (present (cut 2 16)) blank_optional_log_id (present (cut 2 19)) blank_optional_log_id
    blank_optional_log_id)

-- ---- tables that are not valid

-- Prepared, with these slots
abbrev pub prepared_with : List VoterSlotRecord → VoterSlotTable
prepared_with slots = open_with 2 1 slots is_prepared.replacement

-- slot 2 of the candidate, in that phase
abbrev pub candidate_in : ℕ → VoterSlotRecord
candidate_in phase = slot_with (member_with 2 2 9 5) 1 phase false blank_voter_replacement_result

-- slot of that number in its first incarnation, pending
abbrev pub pending_of : ℕ → VoterSlotRecord
pending_of slot = slot_with (member_with slot 1 slot 1) 0 pending false blank_voter_replacement_result

-- Prepared, where the attested incarnation is 2^47
abbrev pub attested_last : List VoterSlotRecord → VoterSlotTable
attested_last slots = open_with 2 1 slots (operation_of 1 (attest 21 2 (2 ^ 47) 2 9 5) (member_with 2 2 9 5) prepared (prepare_at (cut 2 10)))

-- Prepared, where the epoch of the predecessor is full
abbrev pub epoch_full : VoterSlotTable
epoch_full =
    open_with 2 full (around (candidate_in pending))
    (record {
      expected_revision = 1;
      attestation = attest 21 2 1 2 9 5;
      predecessor = configuration_with full (member_with 2 1 2 1);
      successor = configuration_with 1 (member_with 2 2 9 5);
      phase = prepared;
      evidence = prepare_at (cut 2 10);
    })
