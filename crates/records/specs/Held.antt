-- What every value that the program holds has: each number fits its type, each array has its
-- length. Written by scripts/records.py.
-- From the types of voter_slots/records.rs and identity.rs: for theorems over all records.
-- Assumes nothing.
use Rattle.std.specs.Prelude.{ℕ, zero, suc, ◌<◌, ◌^◌, ◌≡◌, List, [], ◌∷◌, length, get_or, set}
use Rattle.std.proofs.Common.{arith, length-set}
use Rattle.identity.specs.declared.identity.VoterSlotIdentity.{VoterSlotIdentity}
use Rattle.records.specs.declared.records.SpiffeId.{SpiffeId}
use Rattle.records.specs.declared.records.SnapshotId.{SnapshotId}
use Rattle.records.specs.declared.records.VoterSlotLogId.{VoterSlotLogId}
use Rattle.records.specs.declared.records.OptionalLogId.{OptionalLogId}
use Rattle.records.specs.declared.records.VoterSlotMember.{VoterSlotMember}
use Rattle.records.specs.declared.records.VoterReplacementResult.{VoterReplacementResult}
use Rattle.records.specs.declared.records.VoterSlotRecord.{VoterSlotRecord}
use Rattle.records.specs.declared.records.VoterSnapshotEvidence.{VoterSnapshotEvidence}
use Rattle.records.specs.declared.records.VoterConfiguration.{VoterConfiguration}
use Rattle.records.specs.declared.records.LostVoterAttestationV1.{LostVoterAttestationV1}
use Rattle.records.specs.declared.records.VoterReplacementEvidence.{VoterReplacementEvidence}
use Rattle.records.specs.declared.records.VoterReplacementRecord.{VoterReplacementRecord}
use Rattle.records.specs.declared.records.VoterSlotTable.{VoterSlotTable}

-- P of every element
abbrev pub AllOf : {A : Type 0} → (A → Type 0) → List A → Type 0
AllOf P [] = Unit {0}
AllOf P (x ∷ l) = P x × AllOf P l

-- an array of n elements
pub record HeldArray {A : Type 0} (P : A → Type 0) (n : ℕ) (l : List A) : Type 0 where
  pub count : length l ≡ n
  pub each : AllOf P l

-- of the element at an index; of a list with one element replaced
pub all-at : {A : Type 0} (P : A → Type 0) (d : A) (l : List A) (i : ℕ) → i < length l → AllOf P l → P (get_or l i d)
all-at P d [] i h a = absurd (omega arith)
all-at P d (x ∷ l) zero h a = a.0
all-at P d (x ∷ l) (suc i) h a = all-at P d l i (omega arith) a.1

all_set : {A : Type 0} (P : A → Type 0) (l : List A) (i : ℕ) (x : A) → P x → AllOf P l → AllOf P (set l i x)
all_set P [] i x p a = a
all_set P (y ∷ l) zero x p a = (p, a.1)
all_set P (y ∷ l) (suc i) x p a = (a.0, all_set P l i x p a.1)

pub held-set : {A : Type 0} (P : A → Type 0) (n : ℕ) (l : List A) (i : ℕ) (x : A) → P x → HeldArray P n l → HeldArray P n (set l i x)
held-set P n l i x p h = record { count = rw length-set h.count; each = all_set P l i x p h.each }

abbrev pub Byte : ℕ → Type 0
Byte x = x < 2 ^ 8

abbrev pub HeldBytes : ℕ → List ℕ → Type 0
HeldBytes n l = HeldArray Byte n l

pub record HeldVoterSlotIdentity (r : VoterSlotIdentity) : Type 0 where
  pub slot : r.slot < 2 ^ 16
  pub incarnation : r.incarnation < 2 ^ 64

pub record HeldSpiffeId (r : SpiffeId) : Type 0 where
  pub len : r.len < 2 ^ 64
  pub bytes : HeldBytes 2048 r.bytes

pub record HeldSnapshotId (r : SnapshotId) : Type 0 where
  pub len : r.len < 2 ^ 64
  pub bytes : HeldBytes 256 r.bytes

pub record HeldVoterSlotLogId (r : VoterSlotLogId) : Type 0 where
  pub term : r.term < 2 ^ 64
  pub index : r.index < 2 ^ 64

pub record HeldOptionalLogId (r : OptionalLogId) : Type 0 where
  pub cut : HeldVoterSlotLogId r.cut

pub record HeldVoterSlotMember (r : VoterSlotMember) : Type 0 where
  pub identity : HeldVoterSlotIdentity r.identity
  pub key_digest : HeldBytes 32 r.key_digest
  pub descriptor_digest : HeldBytes 32 r.descriptor_digest
  pub admission_generation : r.admission_generation < 2 ^ 64

pub record HeldVoterReplacementResult (r : VoterReplacementResult) : Type 0 where
  pub request_id : HeldBytes 16 r.request_id
  pub request_digest : HeldBytes 32 r.request_digest
  pub incarnation : r.incarnation < 2 ^ 64
  pub revision : r.revision < 2 ^ 64
  pub configuration_epoch : r.configuration_epoch < 2 ^ 64
  pub kind : r.kind < 2 ^ 8
  pub terminal : HeldVoterSlotLogId r.terminal

pub record HeldVoterSlotRecord (r : VoterSlotRecord) : Type 0 where
  pub member : HeldVoterSlotMember r.member
  pub retired_through : r.retired_through < 2 ^ 64
  pub phase : r.phase < 2 ^ 8
  pub last_result : HeldVoterReplacementResult r.last_result

pub record HeldVoterSnapshotEvidence (r : VoterSnapshotEvidence) : Type 0 where
  pub cut : HeldVoterSlotLogId r.cut
  pub snapshot_id : HeldSnapshotId r.snapshot_id
  pub digest : HeldBytes 32 r.digest

pub record HeldVoterConfiguration (r : VoterConfiguration) : Type 0 where
  pub epoch : r.epoch < 2 ^ 64
  pub members : HeldArray HeldVoterSlotMember 9 r.members
  pub count : r.count < 2 ^ 64

pub record HeldLostVoterAttestationV1 (r : LostVoterAttestationV1) : Type 0 where
  pub request_id : HeldBytes 16 r.request_id
  pub request_digest : HeldBytes 32 r.request_digest
  pub cluster_instance : HeldBytes 32 r.cluster_instance
  pub slot : r.slot < 2 ^ 16
  pub expected_incarnation : r.expected_incarnation < 2 ^ 64
  pub old_descriptor_digest : HeldBytes 32 r.old_descriptor_digest
  pub candidate_key_digest : HeldBytes 32 r.candidate_key_digest
  pub admission_generation : r.admission_generation < 2 ^ 64
  pub candidate_spiffe_id : HeldSpiffeId r.candidate_spiffe_id
  pub controller_spiffe_id : HeldSpiffeId r.controller_spiffe_id
  pub signing_key_digest : HeldBytes 32 r.signing_key_digest
  pub reason : r.reason < 2 ^ 8
  pub policy_digest : HeldBytes 32 r.policy_digest
  pub observation_start_ms : r.observation_start_ms < 2 ^ 64
  pub decision_ms : r.decision_ms < 2 ^ 64
  pub issued_ms : r.issued_ms < 2 ^ 64
  pub expires_ms : r.expires_ms < 2 ^ 64
  pub signature : HeldBytes 64 r.signature

pub record HeldVoterReplacementEvidence (r : VoterReplacementEvidence) : Type 0 where
  pub prepare : HeldVoterSlotLogId r.prepare
  pub snapshot : HeldVoterSnapshotEvidence r.snapshot
  pub learner : HeldOptionalLogId r.learner
  pub caught_up : HeldOptionalLogId r.caught_up
  pub continuation : HeldOptionalLogId r.continuation
  pub fence : HeldOptionalLogId r.fence
  pub joint : HeldOptionalLogId r.joint
  pub uniform : HeldOptionalLogId r.uniform

pub record HeldVoterReplacementRecord (r : VoterReplacementRecord) : Type 0 where
  pub expected_revision : r.expected_revision < 2 ^ 64
  pub attestation : HeldLostVoterAttestationV1 r.attestation
  pub predecessor : HeldVoterConfiguration r.predecessor
  pub successor : HeldVoterConfiguration r.successor
  pub phase : r.phase < 2 ^ 8
  pub evidence : HeldVoterReplacementEvidence r.evidence

pub record HeldVoterSlotTable (r : VoterSlotTable) : Type 0 where
  pub cluster_instance : HeldBytes 32 r.cluster_instance
  pub manifest_digest : HeldBytes 32 r.manifest_digest
  pub revision : r.revision < 2 ^ 64
  pub configuration_epoch : r.configuration_epoch < 2 ^ 64
  pub slots : HeldArray HeldVoterSlotRecord 9 r.slots
  pub count : r.count < 2 ^ 64
  pub replacement : HeldVoterReplacementRecord r.replacement
