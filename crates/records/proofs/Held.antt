-- What the program logic says of a value that a function owns, as the `Held` records of specs/Held.antt. Written by scripts/records.py.
-- Assumes nothing.
use Prim.Native.Nat.{ℕ}
use mathlib.Core.List.{List, [], ◌∷◌}
use mir.Syntax.{w8}
use mir.Val.{Val}
use base.Fml.{Fml}
use denote.Array.{each, in_array}
use denote.Plain.{UInt}
use denote.Shadow.{shadow}
use Rattle.records.specs.Held.{AllOf, HeldArray, Byte, HeldBytes, HeldVoterSlotIdentity, HeldSpiffeId, HeldSnapshotId, HeldVoterSlotLogId, HeldOptionalLogId, HeldVoterSlotMember, HeldVoterReplacementResult, HeldVoterSlotRecord, HeldVoterSnapshotEvidence, HeldVoterConfiguration, HeldLostVoterAttestationV1, HeldVoterReplacementEvidence, HeldVoterReplacementRecord, HeldVoterSlotTable}
use Rattle.identity.specs.declared.identity.VoterSlotIdentity.{VoterSlotIdentity}
use Rattle.records.specs.declared.records.SpiffeId.{SpiffeId}
use Rattle.records.specs.declared.records.SnapshotId.{SnapshotId}
use Rattle.records.specs.declared.records.VoterSlotLogId.{VoterSlotLogId}
use Rattle.records.specs.declared.records.OptionalLogId.{OptionalLogId}
use Rattle.records.specs.declared.records.VoterSlotMember.{VoterSlotMember}
use Rattle.records.specs.declared.records.VoterReplacementResult.{VoterReplacementResult}
use Rattle.records.specs.declared.records.VoterSlotRecord.{VoterSlotRecord}
use Rattle.records.specs.declared.records.VoterSnapshotEvidence.{VoterSnapshotEvidence}
use Rattle.records.specs.declared.records.VoterConfiguration.{VoterConfiguration}
use Rattle.records.specs.declared.records.LostVoterAttestationV1.{LostVoterAttestationV1}
use Rattle.records.specs.declared.records.VoterReplacementEvidence.{VoterReplacementEvidence}
use Rattle.records.specs.declared.records.VoterReplacementRecord.{VoterReplacementRecord}
use Rattle.records.specs.declared.records.VoterSlotTable.{VoterSlotTable}
use Rattle.identity.specs.contracts.identity.VoterSlotIdentity as TheVoterSlotIdentity
use Rattle.records.specs.contracts.records.SpiffeId as TheSpiffeId
use Rattle.records.specs.contracts.records.SnapshotId as TheSnapshotId
use Rattle.records.specs.contracts.records.VoterSlotLogId as TheVoterSlotLogId
use Rattle.records.specs.contracts.records.OptionalLogId as TheOptionalLogId
use Rattle.records.specs.contracts.records.VoterSlotMember as TheVoterSlotMember
use Rattle.records.specs.contracts.records.VoterReplacementResult as TheVoterReplacementResult
use Rattle.records.specs.contracts.records.VoterSlotRecord as TheVoterSlotRecord
use Rattle.records.specs.contracts.records.VoterSnapshotEvidence as TheVoterSnapshotEvidence
use Rattle.records.specs.contracts.records.VoterConfiguration as TheVoterConfiguration
use Rattle.records.specs.contracts.records.LostVoterAttestationV1 as TheLostVoterAttestationV1
use Rattle.records.specs.contracts.records.VoterReplacementEvidence as TheVoterReplacementEvidence
use Rattle.records.specs.contracts.records.VoterReplacementRecord as TheVoterReplacementRecord
use Rattle.records.specs.contracts.records.VoterSlotTable as TheVoterSlotTable

module _ {X : Type 0} (own : X → List Val → Fml) (P : X → Type 0) (h : (x : X) (vs : List Val) → shadow (own x vs) → P x) where
  held-list : (xs : List X) (us : List Val) → shadow (each X own xs us) → AllOf P xs
  held-list [] us g = tt
  held-list (x ∷ xs) [] g = absurd g
  held-list (x ∷ xs) (u ∷ us) g = (h x (u ∷ []) g.0, held-list xs us g.1)

  pub held-array : (n : ℕ) (xs : List X) (vs : List Val) → shadow (in_array X own n xs vs) → HeldArray P n xs
  held-array n xs vs g = record { count = g.1.0.1; each = held-list xs g.0 g.1.1 }

pub held_bytes : (n : ℕ) (l : List ℕ) (vs : List Val) → shadow (in_array ℕ (UInt w8).own_val n l vs) → HeldBytes n l
held_bytes n l vs g = held-array (UInt w8).own_val Byte (λ x us h. h.1) n l vs g

pub held-voter-slot-identity : (r : VoterSlotIdentity) (vs : List Val)
    → shadow ((TheVoterSlotIdentity.the_field).row.own_val ((TheVoterSlotIdentity.the_field).into r) vs) → HeldVoterSlotIdentity r
held-voter-slot-identity r vs g =
    let f = g.1.1 in
    record {
      slot = f.0.1;
      incarnation = f.1.0.1;
    }

pub held-spiffe-id : (r : SpiffeId) (vs : List Val)
    → shadow ((TheSpiffeId.the_field).row.own_val ((TheSpiffeId.the_field).into r) vs) → HeldSpiffeId r
held-spiffe-id r vs g =
    let f = g.1.1 in
    record {
      len = f.0.1;
      bytes = held_bytes 2048 r.bytes _ f.1.0;
    }

pub held-snapshot-id : (r : SnapshotId) (vs : List Val)
    → shadow ((TheSnapshotId.the_field).row.own_val ((TheSnapshotId.the_field).into r) vs) → HeldSnapshotId r
held-snapshot-id r vs g =
    let f = g.1.1 in
    record {
      len = f.0.1;
      bytes = held_bytes 256 r.bytes _ f.1.0;
    }

pub held-voter-slot-log-id : (r : VoterSlotLogId) (vs : List Val)
    → shadow ((TheVoterSlotLogId.the_field).row.own_val ((TheVoterSlotLogId.the_field).into r) vs) → HeldVoterSlotLogId r
held-voter-slot-log-id r vs g =
    let f = g.1.1 in
    record {
      term = f.0.1;
      index = f.1.0.1;
    }

pub held-optional-log-id : (r : OptionalLogId) (vs : List Val)
    → shadow ((TheOptionalLogId.the_field).row.own_val ((TheOptionalLogId.the_field).into r) vs) → HeldOptionalLogId r
held-optional-log-id r vs g =
    let f = g.1.1 in
    record {
      cut = held-voter-slot-log-id r.cut _ f.1.0;
    }

pub held-voter-slot-member : (r : VoterSlotMember) (vs : List Val)
    → shadow ((TheVoterSlotMember.the_field).row.own_val ((TheVoterSlotMember.the_field).into r) vs) → HeldVoterSlotMember r
held-voter-slot-member r vs g =
    let f = g.1.1 in
    record {
      identity = held-voter-slot-identity r.identity _ f.0;
      key_digest = held_bytes 32 r.key_digest _ f.1.0;
      descriptor_digest = held_bytes 32 r.descriptor_digest _ f.1.1.0;
      admission_generation = f.1.1.1.0.1;
    }

pub held-voter-replacement-result : (r : VoterReplacementResult) (vs : List Val)
    → shadow ((TheVoterReplacementResult.the_field).row.own_val ((TheVoterReplacementResult.the_field).into r) vs) → HeldVoterReplacementResult r
held-voter-replacement-result r vs g =
    let f = g.1.1 in
    record {
      request_id = held_bytes 16 r.request_id _ f.0;
      request_digest = held_bytes 32 r.request_digest _ f.1.0;
      incarnation = f.1.1.0.1;
      revision = f.1.1.1.0.1;
      configuration_epoch = f.1.1.1.1.0.1;
      kind = f.1.1.1.1.1.0.1;
      terminal = held-voter-slot-log-id r.terminal _ f.1.1.1.1.1.1.0;
    }

pub held-voter-slot-record : (r : VoterSlotRecord) (vs : List Val)
    → shadow ((TheVoterSlotRecord.the_field).row.own_val ((TheVoterSlotRecord.the_field).into r) vs) → HeldVoterSlotRecord r
held-voter-slot-record r vs g =
    let f = g.1.1 in
    record {
      member = held-voter-slot-member r.member _ f.0;
      retired_through = f.1.0.1;
      phase = f.1.1.0.1;
      last_result = held-voter-replacement-result r.last_result _ f.1.1.1.1.0;
    }

pub held-voter-snapshot-evidence : (r : VoterSnapshotEvidence) (vs : List Val)
    → shadow ((TheVoterSnapshotEvidence.the_field).row.own_val ((TheVoterSnapshotEvidence.the_field).into r) vs) → HeldVoterSnapshotEvidence r
held-voter-snapshot-evidence r vs g =
    let f = g.1.1 in
    record {
      cut = held-voter-slot-log-id r.cut _ f.0;
      snapshot_id = held-snapshot-id r.snapshot_id _ f.1.0;
      digest = held_bytes 32 r.digest _ f.1.1.0;
    }

pub held-voter-configuration : (r : VoterConfiguration) (vs : List Val)
    → shadow ((TheVoterConfiguration.the_field).row.own_val ((TheVoterConfiguration.the_field).into r) vs) → HeldVoterConfiguration r
held-voter-configuration r vs g =
    let f = g.1.1 in
    record {
      epoch = f.0.1;
      members = held-array (TheVoterSlotMember.the_row).own_val HeldVoterSlotMember held-voter-slot-member 9 r.members _ f.1.0;
      count = f.1.1.0.1;
    }

pub held-lost-voter-attestation-v1 : (r : LostVoterAttestationV1) (vs : List Val)
    → shadow ((TheLostVoterAttestationV1.the_field).row.own_val ((TheLostVoterAttestationV1.the_field).into r) vs) → HeldLostVoterAttestationV1 r
held-lost-voter-attestation-v1 r vs g =
    let f = g.1.1 in
    record {
      request_id = held_bytes 16 r.request_id _ f.0;
      request_digest = held_bytes 32 r.request_digest _ f.1.0;
      cluster_instance = held_bytes 32 r.cluster_instance _ f.1.1.0;
      slot = f.1.1.1.0.1;
      expected_incarnation = f.1.1.1.1.0.1;
      old_descriptor_digest = held_bytes 32 r.old_descriptor_digest _ f.1.1.1.1.1.0;
      candidate_key_digest = held_bytes 32 r.candidate_key_digest _ f.1.1.1.1.1.1.0;
      admission_generation = f.1.1.1.1.1.1.1.0.1;
      candidate_spiffe_id = held-spiffe-id r.candidate_spiffe_id _ f.1.1.1.1.1.1.1.1.0;
      controller_spiffe_id = held-spiffe-id r.controller_spiffe_id _ f.1.1.1.1.1.1.1.1.1.0;
      signing_key_digest = held_bytes 32 r.signing_key_digest _ f.1.1.1.1.1.1.1.1.1.1.0;
      reason = f.1.1.1.1.1.1.1.1.1.1.1.0.1;
      policy_digest = held_bytes 32 r.policy_digest _ f.1.1.1.1.1.1.1.1.1.1.1.1.0;
      observation_start_ms = f.1.1.1.1.1.1.1.1.1.1.1.1.1.0.1;
      decision_ms = f.1.1.1.1.1.1.1.1.1.1.1.1.1.1.0.1;
      issued_ms = f.1.1.1.1.1.1.1.1.1.1.1.1.1.1.1.0.1;
      expires_ms = f.1.1.1.1.1.1.1.1.1.1.1.1.1.1.1.1.0.1;
      signature = held_bytes 64 r.signature _ f.1.1.1.1.1.1.1.1.1.1.1.1.1.1.1.1.1.0;
    }

pub held-voter-replacement-evidence : (r : VoterReplacementEvidence) (vs : List Val)
    → shadow ((TheVoterReplacementEvidence.the_field).row.own_val ((TheVoterReplacementEvidence.the_field).into r) vs) → HeldVoterReplacementEvidence r
held-voter-replacement-evidence r vs g =
    let f = g.1.1 in
    record {
      prepare = held-voter-slot-log-id r.prepare _ f.0;
      snapshot = held-voter-snapshot-evidence r.snapshot _ f.1.1.0;
      learner = held-optional-log-id r.learner _ f.1.1.1.0;
      caught_up = held-optional-log-id r.caught_up _ f.1.1.1.1.0;
      continuation = held-optional-log-id r.continuation _ f.1.1.1.1.1.0;
      fence = held-optional-log-id r.fence _ f.1.1.1.1.1.1.0;
      joint = held-optional-log-id r.joint _ f.1.1.1.1.1.1.1.0;
      uniform = held-optional-log-id r.uniform _ f.1.1.1.1.1.1.1.1.0;
    }

pub held-voter-replacement-record : (r : VoterReplacementRecord) (vs : List Val)
    → shadow ((TheVoterReplacementRecord.the_field).row.own_val ((TheVoterReplacementRecord.the_field).into r) vs) → HeldVoterReplacementRecord r
held-voter-replacement-record r vs g =
    let f = g.1.1 in
    record {
      expected_revision = f.0.1;
      attestation = held-lost-voter-attestation-v1 r.attestation _ f.1.0;
      predecessor = held-voter-configuration r.predecessor _ f.1.1.0;
      successor = held-voter-configuration r.successor _ f.1.1.1.0;
      phase = f.1.1.1.1.0.1;
      evidence = held-voter-replacement-evidence r.evidence _ f.1.1.1.1.1.0;
    }

pub held-voter-slot-table : (r : VoterSlotTable) (vs : List Val)
    → shadow ((TheVoterSlotTable.the_field).row.own_val ((TheVoterSlotTable.the_field).into r) vs) → HeldVoterSlotTable r
held-voter-slot-table r vs g =
    let f = g.1.1 in
    record {
      cluster_instance = held_bytes 32 r.cluster_instance _ f.0;
      manifest_digest = held_bytes 32 r.manifest_digest _ f.1.0;
      revision = f.1.1.0.1;
      configuration_epoch = f.1.1.1.0.1;
      slots = held-array (TheVoterSlotRecord.the_row).own_val HeldVoterSlotRecord held-voter-slot-record 9 r.slots _ f.1.1.1.1.0;
      count = f.1.1.1.1.1.0.1;
      replacement = held-voter-replacement-record r.replacement _ f.1.1.1.1.1.1.1.0;
    }
