-- Which values the types hold, part by part: arrays, every blank, and the records of With whose
-- parts the types hold.
-- Each name here is a step of a proof; what is right is said in Held.
-- Assumes nothing.
use Rattle.std.specs.Prelude.{ℕ, zero, suc, ◌^◌, ◌<◌, Bool, true, false, cond, List, map, ◌++◌, ◌∷◌, [], replicate}
use Rattle.std.proofs.Common.{◌∙◌, arith}
use Rattle.std.proofs.lemmas.List.{length-replicate, length-map}
use Rattle.records.specs.declared.records.VoterSlotLogId.{VoterSlotLogId}
use Rattle.records.specs.declared.records.VoterSlotRecord.{VoterSlotRecord}
use Rattle.records.specs.declared.records.VoterReplacementEvidence.{VoterReplacementEvidence}
use Rattle.records.specs.declared.records.VoterReplacementRecord.{VoterReplacementRecord}
use Rattle.records.specs.declared.records.VoterSlotTable.{VoterSlotTable}
use Rattle.records.specs.Records.{no_slot_record, slot_at}
use Rattle.records.specs.Blank.{blank_voter_slot_identity, blank_spiffe_id, blank_snapshot_id, blank_voter_slot_log_id, blank_optional_log_id, blank_voter_slot_member, blank_voter_replacement_result, blank_voter_slot_record, blank_voter_snapshot_evidence, blank_voter_configuration, blank_lost_voter_attestation_v1, blank_voter_replacement_evidence, blank_voter_replacement_record}
use Rattle.records.specs.Held.{AllOf, HeldArray, all-at, HeldBytes, Byte, HeldSpiffeId, HeldVoterSlotLogId, HeldOptionalLogId, HeldVoterSlotMember, HeldVoterReplacementResult, HeldVoterSlotRecord, HeldVoterSnapshotEvidence, HeldVoterConfiguration, HeldLostVoterAttestationV1, HeldVoterReplacementEvidence, HeldVoterReplacementRecord, HeldVoterSlotTable}
use Rattle.records.specs.With.{table_with, operation_with, in_phase, present}

-- ---- arrays

-- of one value, so many times
pub all_replicate : {A : Type 0} (P : A → Type 0) (n : ℕ) (x : A) → P x → AllOf P (replicate n x)
all_replicate P zero x p = tt
all_replicate P (suc n) x p = (p, all_replicate P n x p)

pub held-replicate : {A : Type 0} (P : A → Type 0) (n : ℕ) (x : A) → P x → HeldArray P n (replicate n x)
held-replicate P n x p = record { count = length-replicate n x; each = all_replicate P n x p }

pub all_append : {A : Type 0} (P : A → Type 0) (a b : List A) → AllOf P a → AllOf P b → AllOf P (a ++ b)
all_append P [] b p q = q
all_append P (x ∷ a) b p q = (p.0, all_append P a b p.1 q)

-- the values of a function that takes what P holds of to what Q holds of
all_map : {A B : Type 0} (P : A → Type 0) (Q : B → Type 0) (f : A → B) → ((x : A) → P x → Q (f x)) → (l : List A) → AllOf P l → AllOf Q (map f l)
all_map P Q f g [] a = tt
all_map P Q f g (x ∷ l) a = (g x a.0, all_map P Q f g l a.1)

pub zeros-held : (n : ℕ) → HeldBytes n (replicate n 0)
zeros-held n = held-replicate Byte n 0 (omega arith)

-- ---- blanks

pub blank-cut-held : HeldVoterSlotLogId blank_voter_slot_log_id
unfolding blank_voter_slot_log_id
blank-cut-held = record { term = omega arith; index = omega arith }

pub blank-optional-held : HeldOptionalLogId blank_optional_log_id
unfolding blank_optional_log_id
blank-optional-held = record { cut = blank-cut-held }

pub blank-snapshot-held : HeldVoterSnapshotEvidence blank_voter_snapshot_evidence
unfolding blank_voter_snapshot_evidence blank_snapshot_id
blank-snapshot-held = record { cut = blank-cut-held; snapshot_id = record { len = omega arith; bytes = zeros-held 256 }; digest = zeros-held 32 }

pub blank-member-held : HeldVoterSlotMember blank_voter_slot_member
unfolding blank_voter_slot_member blank_voter_slot_identity
blank-member-held = record { identity = record { slot = omega arith; incarnation = omega arith }; key_digest = zeros-held 32; descriptor_digest = zeros-held 32; admission_generation = omega arith }

pub blank-result-held : HeldVoterReplacementResult blank_voter_replacement_result
unfolding blank_voter_replacement_result
blank-result-held =
    record {
      request_id = zeros-held 16;
      request_digest = zeros-held 32;
      incarnation = omega arith;
      revision = omega arith;
      configuration_epoch = omega arith;
      kind = omega arith;
      terminal = blank-cut-held;
    }

pub blank-slot-held : HeldVoterSlotRecord blank_voter_slot_record
unfolding blank_voter_slot_record
blank-slot-held = record { member = blank-member-held; retired_through = omega arith; phase = omega arith; last_result = blank-result-held }

blank-configuration-held : HeldVoterConfiguration blank_voter_configuration
unfolding blank_voter_configuration
blank-configuration-held = record { epoch = omega arith; members = held-replicate HeldVoterSlotMember 9 blank_voter_slot_member blank-member-held; count = omega arith }

blank-name-held : HeldSpiffeId blank_spiffe_id
unfolding blank_spiffe_id
blank-name-held = record { len = omega arith; bytes = zeros-held 2048 }

pub blank-attestation-held : HeldLostVoterAttestationV1 blank_lost_voter_attestation_v1
unfolding blank_lost_voter_attestation_v1
blank-attestation-held =
    record {
      request_id = zeros-held 16;
      request_digest = zeros-held 32;
      cluster_instance = zeros-held 32;
      slot = omega arith;
      expected_incarnation = omega arith;
      old_descriptor_digest = zeros-held 32;
      candidate_key_digest = zeros-held 32;
      admission_generation = omega arith;
      candidate_spiffe_id = blank-name-held;
      controller_spiffe_id = blank-name-held;
      signing_key_digest = zeros-held 32;
      reason = omega arith;
      policy_digest = zeros-held 32;
      observation_start_ms = omega arith;
      decision_ms = omega arith;
      issued_ms = omega arith;
      expires_ms = omega arith;
      signature = zeros-held 64;
    }

blank-evidence-held : HeldVoterReplacementEvidence blank_voter_replacement_evidence
unfolding blank_voter_replacement_evidence
blank-evidence-held =
    record {
      prepare = blank-cut-held;
      snapshot = blank-snapshot-held;
      learner = blank-optional-held;
      caught_up = blank-optional-held;
      continuation = blank-optional-held;
      fence = blank-optional-held;
      joint = blank-optional-held;
      uniform = blank-optional-held;
    }

pub blank-replacement-held : HeldVoterReplacementRecord blank_voter_replacement_record
unfolding blank_voter_replacement_record
blank-replacement-held =
    record {
      expected_revision = omega arith;
      attestation = blank-attestation-held;
      predecessor = blank-configuration-held;
      successor = blank-configuration-held;
      phase = omega arith;
      evidence = blank-evidence-held;
    }

-- ---- a choice, and records whose parts the types hold

pub held-either : {A : Type 0} (P : A → Type 0) (b : Bool) (x y : A) → P x → P y → P (cond b x y)
held-either P true x y p q = p
held-either P false x y p q = q

pub held-present : (cut : VoterSlotLogId) → HeldVoterSlotLogId cut → HeldOptionalLogId (present cut)
held-present cut h = record { cut = h }

pub held-operation : (op : VoterReplacementRecord) → HeldVoterReplacementRecord op → (phase : ℕ) → phase < 2 ^ 8 → (e : VoterReplacementEvidence) → HeldVoterReplacementEvidence e
    → HeldVoterReplacementRecord (operation_with op phase e)
held-operation op h phase p e k =
    record { expected_revision = h.expected_revision; attestation = h.attestation; predecessor = h.predecessor; successor = h.successor; phase = p; evidence = k }

-- the members of nine slots
pub held-members : (slots : List VoterSlotRecord) → HeldArray HeldVoterSlotRecord 9 slots → HeldArray HeldVoterSlotMember 9 (map (λ s. s.member) slots)
held-members slots h =
    record { count = length-map slots (λ s. s.member) ∙ h.count; each = all_map HeldVoterSlotRecord HeldVoterSlotMember (λ s. s.member) (λ s k. k.member) slots h.each }

module _ (t : VoterSlotTable) (h : HeldVoterSlotTable t) where
  pub held-table : (revision epoch : ℕ) (slots : List VoterSlotRecord) (is_open : Bool) (op : VoterReplacementRecord) → revision < 2 ^ 64 → epoch < 2 ^ 64
      → HeldArray HeldVoterSlotRecord 9 slots → HeldVoterReplacementRecord op → HeldVoterSlotTable (table_with t revision epoch slots is_open op)
  held-table revision epoch slots is_open op r e s k =
      record {
        cluster_instance = h.cluster_instance;
        manifest_digest = h.manifest_digest;
        revision = r;
        configuration_epoch = e;
        slots = s;
        count = h.count;
        replacement = k;
      }

  -- the slot at a place
  pub held-slot : (i : ℕ) → i < 9 → HeldVoterSlotRecord (slot_at t i)
  held-slot i l = let c = h.slots.count in all-at HeldVoterSlotRecord no_slot_record t.slots i (omega arith) h.slots.each

  -- and in another phase
  pub held-phase : (i phase : ℕ) → i < 9 → phase < 2 ^ 8 → HeldVoterSlotRecord (in_phase (slot_at t i) phase)
  held-phase i phase l p =
      let k = held-slot i l in
      record { member = k.member; retired_through = k.retired_through; phase = p; last_result = k.last_result }
