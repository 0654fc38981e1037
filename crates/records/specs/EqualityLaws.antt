-- Laws of equality: a test that holds is a path, each value is the same as itself, and the steps of the loops over lists. Written by scripts/records.py.
-- Each name here is a step of a proof; what is right is said in Equality.
-- Assumes nothing.
use Prim.Native.Nat.{ℕ, zero, suc, ◌+◌, ◌<◌, ◌≤◌}
use Rattle.std.specs.Prelude.{◌≡◌, Bool, true, false, ◌&&◌, length, get_or, take, eqb}
use Rattle.std.proofs.Math.Path.{refl}
use Rattle.std.proofs.Common.{sym, ap, ◌∙◌, true≢false, add-one, arith, take_all, eqb-true, eq-eqb}
use Rattle.std.specs.Bool.{beq}
use Rattle.std.proofs.lemmas.Bool.{false≢true}
use Rattle.std.proofs.Math.Bool.{and-true, and-false, and_assoc, and-eq-true_iff}
use mathlib.Core.List.{List, [], ◌∷◌}
use Rattle.records.specs.Equality.{all_true, eq_list, eq_bytes, same_voter_slot_identity, same_spiffe_id, same_snapshot_id, same_voter_slot_log_id, same_optional_log_id, same_voter_slot_member, same_voter_replacement_result, same_voter_slot_record, same_voter_snapshot_evidence, same_voter_configuration, same_lost_voter_attestation_v1, same_voter_replacement_evidence, same_voter_replacement_record, same_voter_slot_table}
use Rattle.identity.specs.declared.identity.VoterSlotIdentity.{VoterSlotIdentity}
use Rattle.records.specs.declared.records.SpiffeId.{SpiffeId}
use Rattle.records.specs.declared.records.SnapshotId.{SnapshotId}
use Rattle.records.specs.declared.records.VoterSlotLogId.{VoterSlotLogId}
use Rattle.records.specs.declared.records.OptionalLogId.{OptionalLogId}
use Rattle.records.specs.declared.records.VoterSlotMember.{VoterSlotMember}
use Rattle.records.specs.declared.records.VoterReplacementResult.{VoterReplacementResult}
use Rattle.records.specs.declared.records.VoterSlotRecord.{VoterSlotRecord}
use Rattle.records.specs.declared.records.VoterSnapshotEvidence.{VoterSnapshotEvidence}
use Rattle.records.specs.declared.records.VoterConfiguration.{VoterConfiguration}
use Rattle.records.specs.declared.records.LostVoterAttestationV1.{LostVoterAttestationV1}
use Rattle.records.specs.declared.records.VoterReplacementEvidence.{VoterReplacementEvidence}
use Rattle.records.specs.declared.records.VoterReplacementRecord.{VoterReplacementRecord}
use Rattle.records.specs.declared.records.VoterSlotTable.{VoterSlotTable}

-- ---- any test with the laws `-true` and `-refl`

module _ {A : Type 0} (f : A → A → Bool) where
  pub eq-same : ((x : A) → f x x ≡ true) → (a b : A) → a ≡ b → f a b ≡ true
  eq-same f-refl a b e = sym (ap (f a) e) ∙ f-refl a

  pub same_false : ((x : A) → f x x ≡ true) → (a b : A) → f a b ≡ false → a ≡ b → ⊥
  same_false f-refl a b h e = true≢false (sym (eq-same f-refl a b e) ∙ h)

  pub ne_same : ((x y : A) → f x y ≡ true → x ≡ y) → (a b : A) → (a ≡ b → ⊥) → f a b ≡ false
  ne_same f-true a b n = not-true (f a b) (λ t. n (f-true a b t))
    where
      not-true : (t : Bool) → (t ≡ true → ⊥) → t ≡ false
      not-true true h = absurd (h refl)
      not-true false h = refl

-- ---- numbers, bools and lists of tests

eqb_refl : (n : ℕ) → eqb n n ≡ true
eqb_refl n = eq-eqb n n refl

beq-true : (a b : Bool) → beq a b ≡ true → a ≡ b
beq-true true true h = refl
beq-true true false h = absurd (false≢true h)
beq-true false true h = absurd (false≢true h)
beq-true false false h = refl

beq-refl : (a : Bool) → beq a a ≡ true
beq-refl true = refl
beq-refl false = refl

abbrev EachTrue : List Bool → Type 0
EachTrue [] = Unit {0}
EachTrue (p ∷ ps) = (p ≡ true) × EachTrue ps

all-each : (ps : List Bool) → all_true ps ≡ true → EachTrue ps
unfolding all_true
all-each [] h = tt
all-each (p ∷ []) h = (h, tt)
all-each (p ∷ (q ∷ ps)) h = let k = (and-eq-true_iff p (all_true (q ∷ ps))).0 h in (k.0, all-each (q ∷ ps) k.1)

-- the first test fails
pub all_first : (p q : Bool) (ps : List Bool) → p ≡ false → all_true (p ∷ (q ∷ ps)) ≡ false
unfolding all_true
all_first p q ps h = rw h

-- ---- lists

module _ {A : Type 0} (f : A → A → Bool) where
  pub eq_list-true : ((x y : A) → f x y ≡ true → x ≡ y) → (a b : List A) → eq_list f a b ≡ true → a ≡ b
  eq_list-true d [] [] h = refl
  eq_list-true d [] (y ∷ b) h = absurd (false≢true h)
  eq_list-true d (x ∷ a) [] h = absurd (false≢true h)
  eq_list-true d (x ∷ a) (y ∷ b) h =
      let k = (and-eq-true_iff (f x y) (eq_list f a b)).0 h in
      let p = d x y k.0 in
      let q = eq_list-true d a b k.1 in
      λ i. p i ∷ q i

  pub eq_list-refl : ((x : A) → f x x ≡ true) → (a : List A) → eq_list f a a ≡ true
  eq_list-refl d [] = refl
  eq_list-refl d (x ∷ a) = rw (d x) (eq_list-refl d a)

  -- lists of two lengths differ
  pub eq_list-lengths : (a b : List A) → (length a ≡ length b → ⊥) → eq_list f a b ≡ false
  eq_list-lengths [] [] n = absurd (n refl)
  eq_list-lengths [] (y ∷ b) n = refl
  eq_list-lengths (x ∷ a) [] n = refl
  eq_list-lengths (x ∷ a) (y ∷ b) n = rw (eq_list-lengths a b (λ e. n (ap suc e))) (and-false (f x y))

  eq_list-suc : (d : A) (a b : List A) (i : ℕ) → i < length a → i < length b
      → eq_list f (take (suc i) a) (take (suc i) b) ≡ (eq_list f (take i a) (take i b) && f (get_or a i d) (get_or b i d))
  eq_list-suc d [] b i h k = absurd (omega arith)
  eq_list-suc d (x ∷ a) [] i h k = absurd (omega arith)
  eq_list-suc d (x ∷ a) (y ∷ b) zero h k = and-true (f x y)
  eq_list-suc d (x ∷ a) (y ∷ b) (suc i) h k =
      rw (eq_list-suc d a b i (omega arith) (omega arith))
      (sym (and_assoc (f x y) (eq_list f (take i a) (take i b)) (f (get_or a i d) (get_or b i d))))

  -- a loop without early exit, whose answer so far is `same`: one more element, whose test is t, and the end
  pub eq_list-more : (d : A) (a b : List A) (i : ℕ) (same t : Bool) → i < length a → i < length b
      → same ≡ eq_list f (take i a) (take i b) → t ≡ f (get_or a i d) (get_or b i d) → (same && t) ≡ eq_list f (take (i + 1) a) (take (i + 1) b)
  eq_list-more d a b i same t h k p q = rw (add-one, eq_list-suc d a b i h k, p, q)

  pub eq_list-end : (a b : List A) (i : ℕ) (same : Bool) → length a ≤ i → length b ≤ i
      → same ≡ eq_list f (take i a) (take i b) → same ≡ eq_list f a b
  eq_list-end a b i same h k p = p ∙ (λ j. eq_list f (take_all i a h j) (take_all i b k j))

pub eq_bytes-true : (a b : List ℕ) → eq_bytes a b ≡ true → a ≡ b
eq_bytes-true a b h = eq_list-true eqb eqb-true a b h

pub eq_bytes-refl : (a : List ℕ) → eq_bytes a a ≡ true
eq_bytes-refl a = eq_list-refl eqb eqb_refl a

-- ---- the records

pub same_voter_slot_identity-true : (a b : VoterSlotIdentity) → same_voter_slot_identity a b ≡ true → a ≡ b
unfolding same_voter_slot_identity
same_voter_slot_identity-true a b h =
    let e = all-each _ h in
    λ i. record {
      slot = eqb-true a.slot b.slot e.0 i;
      incarnation = eqb-true a.incarnation b.incarnation e.1.0 i;
    }

pub same_voter_slot_identity-refl : (a : VoterSlotIdentity) → same_voter_slot_identity a a ≡ true
unfolding all_true same_voter_slot_identity
same_voter_slot_identity-refl a = simp (eqb_refl)

pub same_spiffe_id-true : (a b : SpiffeId) → same_spiffe_id a b ≡ true → a ≡ b
unfolding same_spiffe_id
same_spiffe_id-true a b h =
    let e = all-each _ h in
    λ i. record { len = eqb-true a.len b.len e.0 i; bytes = eq_bytes-true a.bytes b.bytes e.1.0 i }

pub same_spiffe_id-refl : (a : SpiffeId) → same_spiffe_id a a ≡ true
unfolding all_true same_spiffe_id
same_spiffe_id-refl a = simp (eqb_refl, eq_bytes-refl)

pub same_snapshot_id-true : (a b : SnapshotId) → same_snapshot_id a b ≡ true → a ≡ b
unfolding same_snapshot_id
same_snapshot_id-true a b h =
    let e = all-each _ h in
    λ i. record { len = eqb-true a.len b.len e.0 i; bytes = eq_bytes-true a.bytes b.bytes e.1.0 i }

pub same_snapshot_id-refl : (a : SnapshotId) → same_snapshot_id a a ≡ true
unfolding all_true same_snapshot_id
same_snapshot_id-refl a = simp (eqb_refl, eq_bytes-refl)

pub same_voter_slot_log_id-true : (a b : VoterSlotLogId) → same_voter_slot_log_id a b ≡ true → a ≡ b
unfolding same_voter_slot_log_id
same_voter_slot_log_id-true a b h =
    let e = all-each _ h in
    λ i. record { term = eqb-true a.term b.term e.0 i; index = eqb-true a.index b.index e.1.0 i }

pub same_voter_slot_log_id-refl : (a : VoterSlotLogId) → same_voter_slot_log_id a a ≡ true
unfolding all_true same_voter_slot_log_id
same_voter_slot_log_id-refl a = simp (eqb_refl)

pub same_optional_log_id-true : (a b : OptionalLogId) → same_optional_log_id a b ≡ true → a ≡ b
unfolding same_optional_log_id
same_optional_log_id-true a b h =
    let e = all-each _ h in
    λ i. record {
      is_some = beq-true a.is_some b.is_some e.0 i;
      cut = same_voter_slot_log_id-true a.cut b.cut e.1.0 i;
    }

pub same_optional_log_id-refl : (a : OptionalLogId) → same_optional_log_id a a ≡ true
unfolding all_true same_optional_log_id
same_optional_log_id-refl a = simp (beq-refl, same_voter_slot_log_id-refl)

pub same_voter_slot_member-true : (a b : VoterSlotMember) → same_voter_slot_member a b ≡ true → a ≡ b
unfolding same_voter_slot_member
same_voter_slot_member-true a b h =
    let e = all-each _ h in
    λ i. record {
      identity = same_voter_slot_identity-true a.identity b.identity e.0 i;
      key_digest = eq_bytes-true a.key_digest b.key_digest e.1.0 i;
      descriptor_digest = eq_bytes-true a.descriptor_digest b.descriptor_digest e.1.1.0 i;
      admission_generation = eqb-true a.admission_generation b.admission_generation e.1.1.1.0 i;
    }

pub same_voter_slot_member-refl : (a : VoterSlotMember) → same_voter_slot_member a a ≡ true
unfolding all_true same_voter_slot_member
same_voter_slot_member-refl a = simp (same_voter_slot_identity-refl, eq_bytes-refl, eqb_refl)

pub same_voter_replacement_result-true : (a b : VoterReplacementResult) → same_voter_replacement_result a b ≡ true → a ≡ b
unfolding same_voter_replacement_result
same_voter_replacement_result-true a b h =
    let e = all-each _ h in
    λ i. record {
      request_id = eq_bytes-true a.request_id b.request_id e.0 i;
      request_digest = eq_bytes-true a.request_digest b.request_digest e.1.0 i;
      incarnation = eqb-true a.incarnation b.incarnation e.1.1.0 i;
      revision = eqb-true a.revision b.revision e.1.1.1.0 i;
      configuration_epoch = eqb-true a.configuration_epoch b.configuration_epoch e.1.1.1.1.0 i;
      kind = eqb-true a.kind b.kind e.1.1.1.1.1.0 i;
      terminal = same_voter_slot_log_id-true a.terminal b.terminal e.1.1.1.1.1.1.0 i;
    }

pub same_voter_replacement_result-refl : (a : VoterReplacementResult) → same_voter_replacement_result a a ≡ true
unfolding all_true same_voter_replacement_result
same_voter_replacement_result-refl a = simp (eq_bytes-refl, eqb_refl, same_voter_slot_log_id-refl)

pub same_voter_slot_record-true : (a b : VoterSlotRecord) → same_voter_slot_record a b ≡ true → a ≡ b
unfolding same_voter_slot_record
same_voter_slot_record-true a b h =
    let e = all-each _ h in
    λ i. record {
      member = same_voter_slot_member-true a.member b.member e.0 i;
      retired_through = eqb-true a.retired_through b.retired_through e.1.0 i;
      phase = eqb-true a.phase b.phase e.1.1.0 i;
      has_last_result = beq-true a.has_last_result b.has_last_result e.1.1.1.0 i;
      last_result = same_voter_replacement_result-true a.last_result b.last_result e.1.1.1.1.0 i;
    }

pub same_voter_slot_record-refl : (a : VoterSlotRecord) → same_voter_slot_record a a ≡ true
unfolding all_true same_voter_slot_record
same_voter_slot_record-refl a =
    simp (same_voter_slot_member-refl, eqb_refl, beq-refl, same_voter_replacement_result-refl)

pub same_voter_snapshot_evidence-true : (a b : VoterSnapshotEvidence) → same_voter_snapshot_evidence a b ≡ true → a ≡ b
unfolding same_voter_snapshot_evidence
same_voter_snapshot_evidence-true a b h =
    let e = all-each _ h in
    λ i. record {
      cut = same_voter_slot_log_id-true a.cut b.cut e.0 i;
      snapshot_id = same_snapshot_id-true a.snapshot_id b.snapshot_id e.1.0 i;
      digest = eq_bytes-true a.digest b.digest e.1.1.0 i;
    }

pub same_voter_snapshot_evidence-refl : (a : VoterSnapshotEvidence) → same_voter_snapshot_evidence a a ≡ true
unfolding all_true same_voter_snapshot_evidence
same_voter_snapshot_evidence-refl a = simp (same_voter_slot_log_id-refl, same_snapshot_id-refl, eq_bytes-refl)

pub same_voter_configuration-true : (a b : VoterConfiguration) → same_voter_configuration a b ≡ true → a ≡ b
unfolding same_voter_configuration
same_voter_configuration-true a b h =
    let e = all-each _ h in
    λ i. record {
      epoch = eqb-true a.epoch b.epoch e.0 i;
      members = eq_list-true same_voter_slot_member same_voter_slot_member-true a.members b.members e.1.0 i;
      count = eqb-true a.count b.count e.1.1.0 i;
    }

pub same_voter_configuration-refl : (a : VoterConfiguration) → same_voter_configuration a a ≡ true
unfolding all_true same_voter_configuration
same_voter_configuration-refl a =
    simp (eqb_refl, eq_list-refl same_voter_slot_member same_voter_slot_member-refl)

pub same_lost_voter_attestation_v1-true : (a b : LostVoterAttestationV1) → same_lost_voter_attestation_v1 a b ≡ true → a ≡ b
unfolding same_lost_voter_attestation_v1
same_lost_voter_attestation_v1-true a b h =
    let e = all-each _ h in
    λ i. record {
      request_id = eq_bytes-true a.request_id b.request_id e.0 i;
      request_digest = eq_bytes-true a.request_digest b.request_digest e.1.0 i;
      cluster_instance = eq_bytes-true a.cluster_instance b.cluster_instance e.1.1.0 i;
      slot = eqb-true a.slot b.slot e.1.1.1.0 i;
      expected_incarnation = eqb-true a.expected_incarnation b.expected_incarnation e.1.1.1.1.0 i;
      old_descriptor_digest = eq_bytes-true a.old_descriptor_digest b.old_descriptor_digest e.1.1.1.1.1.0 i;
      candidate_key_digest = eq_bytes-true a.candidate_key_digest b.candidate_key_digest e.1.1.1.1.1.1.0 i;
      admission_generation = eqb-true a.admission_generation b.admission_generation e.1.1.1.1.1.1.1.0 i;
      candidate_spiffe_id = same_spiffe_id-true a.candidate_spiffe_id b.candidate_spiffe_id e.1.1.1.1.1.1.1.1.0 i;
      controller_spiffe_id = same_spiffe_id-true a.controller_spiffe_id b.controller_spiffe_id e.1.1.1.1.1.1.1.1.1.0 i;
      signing_key_digest = eq_bytes-true a.signing_key_digest b.signing_key_digest e.1.1.1.1.1.1.1.1.1.1.0 i;
      reason = eqb-true a.reason b.reason e.1.1.1.1.1.1.1.1.1.1.1.0 i;
      policy_digest = eq_bytes-true a.policy_digest b.policy_digest e.1.1.1.1.1.1.1.1.1.1.1.1.0 i;
      observation_start_ms = eqb-true a.observation_start_ms b.observation_start_ms e.1.1.1.1.1.1.1.1.1.1.1.1.1.0 i;
      decision_ms = eqb-true a.decision_ms b.decision_ms e.1.1.1.1.1.1.1.1.1.1.1.1.1.1.0 i;
      issued_ms = eqb-true a.issued_ms b.issued_ms e.1.1.1.1.1.1.1.1.1.1.1.1.1.1.1.0 i;
      expires_ms = eqb-true a.expires_ms b.expires_ms e.1.1.1.1.1.1.1.1.1.1.1.1.1.1.1.1.0 i;
      signature = eq_bytes-true a.signature b.signature e.1.1.1.1.1.1.1.1.1.1.1.1.1.1.1.1.1.0 i;
    }

pub same_lost_voter_attestation_v1-refl : (a : LostVoterAttestationV1) → same_lost_voter_attestation_v1 a a ≡ true
unfolding all_true same_lost_voter_attestation_v1
same_lost_voter_attestation_v1-refl a = simp (eq_bytes-refl, eqb_refl, same_spiffe_id-refl)

pub same_voter_replacement_evidence-true : (a b : VoterReplacementEvidence) → same_voter_replacement_evidence a b ≡ true → a ≡ b
unfolding same_voter_replacement_evidence
same_voter_replacement_evidence-true a b h =
    let e = all-each _ h in
    λ i. record {
      prepare = same_voter_slot_log_id-true a.prepare b.prepare e.0 i;
      has_snapshot = beq-true a.has_snapshot b.has_snapshot e.1.0 i;
      snapshot = same_voter_snapshot_evidence-true a.snapshot b.snapshot e.1.1.0 i;
      learner = same_optional_log_id-true a.learner b.learner e.1.1.1.0 i;
      caught_up = same_optional_log_id-true a.caught_up b.caught_up e.1.1.1.1.0 i;
      continuation = same_optional_log_id-true a.continuation b.continuation e.1.1.1.1.1.0 i;
      fence = same_optional_log_id-true a.fence b.fence e.1.1.1.1.1.1.0 i;
      joint = same_optional_log_id-true a.joint b.joint e.1.1.1.1.1.1.1.0 i;
      uniform = same_optional_log_id-true a.uniform b.uniform e.1.1.1.1.1.1.1.1.0 i;
    }

pub same_voter_replacement_evidence-refl : (a : VoterReplacementEvidence) → same_voter_replacement_evidence a a ≡ true
unfolding all_true same_voter_replacement_evidence
same_voter_replacement_evidence-refl a =
    simp (same_voter_slot_log_id-refl, beq-refl, same_voter_snapshot_evidence-refl, same_optional_log_id-refl)

pub same_voter_replacement_record-true : (a b : VoterReplacementRecord) → same_voter_replacement_record a b ≡ true → a ≡ b
unfolding same_voter_replacement_record
same_voter_replacement_record-true a b h =
    let e = all-each _ h in
    λ i. record {
      expected_revision = eqb-true a.expected_revision b.expected_revision e.0 i;
      attestation = same_lost_voter_attestation_v1-true a.attestation b.attestation e.1.0 i;
      predecessor = same_voter_configuration-true a.predecessor b.predecessor e.1.1.0 i;
      successor = same_voter_configuration-true a.successor b.successor e.1.1.1.0 i;
      phase = eqb-true a.phase b.phase e.1.1.1.1.0 i;
      evidence = same_voter_replacement_evidence-true a.evidence b.evidence e.1.1.1.1.1.0 i;
    }

pub same_voter_replacement_record-refl : (a : VoterReplacementRecord) → same_voter_replacement_record a a ≡ true
unfolding all_true same_voter_replacement_record
same_voter_replacement_record-refl a =
    simp (
      eqb_refl,
      same_lost_voter_attestation_v1-refl,
      same_voter_configuration-refl,
      same_voter_replacement_evidence-refl,
    )

pub same_voter_slot_table-true : (a b : VoterSlotTable) → same_voter_slot_table a b ≡ true → a ≡ b
unfolding same_voter_slot_table
same_voter_slot_table-true a b h =
    let e = all-each _ h in
    λ i. record {
      cluster_instance = eq_bytes-true a.cluster_instance b.cluster_instance e.0 i;
      manifest_digest = eq_bytes-true a.manifest_digest b.manifest_digest e.1.0 i;
      revision = eqb-true a.revision b.revision e.1.1.0 i;
      configuration_epoch = eqb-true a.configuration_epoch b.configuration_epoch e.1.1.1.0 i;
      slots = eq_list-true same_voter_slot_record same_voter_slot_record-true a.slots b.slots e.1.1.1.1.0 i;
      count = eqb-true a.count b.count e.1.1.1.1.1.0 i;
      has_replacement = beq-true a.has_replacement b.has_replacement e.1.1.1.1.1.1.0 i;
      replacement = same_voter_replacement_record-true a.replacement b.replacement e.1.1.1.1.1.1.1.0 i;
    }

pub same_voter_slot_table-refl : (a : VoterSlotTable) → same_voter_slot_table a a ≡ true
unfolding all_true same_voter_slot_table
same_voter_slot_table-refl a =
    simp (
      eq_bytes-refl,
      eqb_refl,
      eq_list-refl same_voter_slot_record same_voter_slot_record-refl,
      beq-refl,
      same_voter_replacement_record-refl,
    )
