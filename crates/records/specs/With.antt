-- Records with some parts changed: a table, an open request, a slot, and the evidence with one part
-- more.
-- For the commands and observations of control.rs, each of which changes a few fields of a table:
-- an argument is what changes, and the rest stays.
-- Assumes nothing.
use Rattle.std.specs.Prelude.{ℕ, Bool, true, List}
use Rattle.records.specs.declared.records.OptionalLogId.{OptionalLogId}
use Rattle.records.specs.declared.records.VoterSlotLogId.{VoterSlotLogId}
use Rattle.records.specs.declared.records.VoterSlotMember.{VoterSlotMember}
use Rattle.records.specs.declared.records.VoterReplacementResult.{VoterReplacementResult}
use Rattle.records.specs.declared.records.VoterSlotRecord.{VoterSlotRecord}
use Rattle.records.specs.declared.records.VoterSnapshotEvidence.{VoterSnapshotEvidence}
use Rattle.records.specs.declared.records.VoterReplacementEvidence.{VoterReplacementEvidence}
use Rattle.records.specs.declared.records.VoterReplacementRecord.{VoterReplacementRecord}
use Rattle.records.specs.declared.records.VoterSlotTable.{VoterSlotTable}

-- a table of the same installation and number of slots
abbrev pub table_with : VoterSlotTable → (revision epoch : ℕ) → List VoterSlotRecord → Bool → VoterReplacementRecord → VoterSlotTable
table_with t revision epoch slots is_open replacement =
    record {
      cluster_instance = t.cluster_instance;
      manifest_digest = t.manifest_digest;
      revision = revision;
      configuration_epoch = epoch;
      slots = slots;
      count = t.count;
      has_replacement = is_open;
      replacement = replacement;
    }

-- the same open request in another phase, with other evidence
abbrev pub operation_with : VoterReplacementRecord → ℕ → VoterReplacementEvidence → VoterReplacementRecord
operation_with op phase evidence =
    record {
      expected_revision = op.expected_revision;
      attestation = op.attestation;
      predecessor = op.predecessor;
      successor = op.successor;
      phase = phase;
      evidence = evidence;
    }

-- a slot of these parts
abbrev pub slot_with : VoterSlotMember → (retired phase : ℕ) → Bool → VoterReplacementResult → VoterSlotRecord
slot_with member retired phase has_result result =
    record { member = member; retired_through = retired; phase = phase; has_last_result = has_result; last_result = result }

-- the same slot in another phase
abbrev pub in_phase : VoterSlotRecord → ℕ → VoterSlotRecord
in_phase s phase = slot_with s.member s.retired_through phase s.has_last_result s.last_result

-- a cut that is present
abbrev pub present : VoterSlotLogId → OptionalLogId
present cut = record { is_some = true; cut = cut }

-- evidence of these parts
abbrev pub evidence_with :
    VoterSlotLogId → Bool → VoterSnapshotEvidence → (learner caught_up continuation fence joint uniform : OptionalLogId) → VoterReplacementEvidence
evidence_with prepare has_snapshot snapshot learner caught_up continuation fence joint uniform =
    record {
      prepare = prepare;
      has_snapshot = has_snapshot;
      snapshot = snapshot;
      learner = learner;
      caught_up = caught_up;
      continuation = continuation;
      fence = fence;
      joint = joint;
      uniform = uniform;
    }

-- the same evidence with one part more: its snapshot, or one of its cuts
abbrev pub with_snapshot : VoterReplacementEvidence → VoterSnapshotEvidence → VoterReplacementEvidence
with_snapshot e snapshot =
    evidence_with e.prepare true snapshot e.learner e.caught_up e.continuation e.fence e.joint e.uniform

abbrev pub with_learner : VoterReplacementEvidence → VoterSlotLogId → VoterReplacementEvidence
with_learner e cut =
    evidence_with e.prepare e.has_snapshot e.snapshot (present cut) e.caught_up e.continuation e.fence e.joint e.uniform

abbrev pub with_caught_up : VoterReplacementEvidence → VoterSlotLogId → VoterReplacementEvidence
with_caught_up e mark =
    evidence_with e.prepare e.has_snapshot e.snapshot e.learner (present mark) e.continuation e.fence e.joint e.uniform

abbrev pub with_continuation : VoterReplacementEvidence → VoterSlotLogId → VoterReplacementEvidence
with_continuation e cut =
    evidence_with e.prepare e.has_snapshot e.snapshot e.learner e.caught_up (present cut) e.fence e.joint e.uniform

abbrev pub with_fence : VoterReplacementEvidence → VoterSlotLogId → VoterReplacementEvidence
with_fence e cut =
    evidence_with e.prepare e.has_snapshot e.snapshot e.learner e.caught_up e.continuation (present cut) e.joint e.uniform

abbrev pub with_joint : VoterReplacementEvidence → VoterSlotLogId → VoterReplacementEvidence
with_joint e cut =
    evidence_with e.prepare e.has_snapshot e.snapshot e.learner e.caught_up e.continuation e.fence (present cut) e.uniform

abbrev pub with_uniform : VoterReplacementEvidence → VoterSlotLogId → VoterReplacementEvidence
with_uniform e cut =
    evidence_with e.prepare e.has_snapshot e.snapshot e.learner e.caught_up e.continuation e.fence e.joint (present cut)
