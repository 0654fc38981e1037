-- A value that a format holds (`Good`) has the bounds of its types: each number fits, each array
-- has its length. For `read_held` of CodecLaws.
-- Each name here is a step of a proof; what is right is said in Layout and Held.
-- Assumes nothing.
use Rattle.std.specs.Prelude.{ℕ, zero, suc, ◌-◌, ◌^◌, ◌≤◌, ◌<◌, ◌≡◌, Bool, length, take, get_or, replicate, leb}
use native.Mathlib.Omega.{arith}
use Rattle.std.proofs.Common.{ap, ◌∙◌, length-append}
use Rattle.std.proofs.Math.Path.{subst}
use Rattle.std.proofs.Math.Bool.{true, false}
use mathlib.Core.List.{List, [], ◌∷◌, ◌++◌}
use Rattle.std.proofs.lemmas.List.{length-replicate}
use borrow.Author.Tests.{leb-true}
use Rattle.identity.specs.declared.identity.VoterSlotIdentity.{VoterSlotIdentity}
use Rattle.format.specs.Combinators.{Codec, Bytes, dep, check, via, held, always}
use Rattle.format.specs.Num.{uint, raw, pick-zero}
use Rattle.format.specs.List.{vec, vec-long, padded, either, opt}
use Rattle.format.specs.Through.{boxed-is}
use Rattle.records.specs.Blank.{blank_voter_slot_log_id, blank_voter_slot_member, blank_voter_replacement_result, blank_voter_slot_record, blank_voter_snapshot_evidence, blank_voter_replacement_record}
use Rattle.records.specs.Held.{AllOf, HeldArray, Byte, HeldBytes, HeldVoterSlotIdentity, HeldSpiffeId, HeldSnapshotId, HeldVoterSlotLogId, HeldOptionalLogId, HeldVoterSlotMember, HeldVoterReplacementResult, HeldVoterSlotRecord, HeldVoterSnapshotEvidence, HeldVoterConfiguration, HeldLostVoterAttestationV1, HeldVoterReplacementEvidence, HeldVoterReplacementRecord, HeldVoterSlotTable}
use Rattle.records.specs.HeldParts.{all_replicate, all_append, blank-cut-held, blank-member-held, blank-result-held, blank-slot-held, blank-snapshot-held, blank-replacement-held}
use Rattle.records.specs.Validation.{valid_count}
use Rattle.records.specs.ValidationLaws.{count_small}
use Rattle.records.specs.declared.records.SpiffeId.{SpiffeId}
use Rattle.records.specs.declared.records.SnapshotId.{SnapshotId}
use Rattle.records.specs.declared.records.VoterSlotLogId.{VoterSlotLogId}
use Rattle.records.specs.declared.records.OptionalLogId.{OptionalLogId}
use Rattle.records.specs.declared.records.VoterSlotMember.{VoterSlotMember}
use Rattle.records.specs.declared.records.VoterReplacementResult.{VoterReplacementResult}
use Rattle.records.specs.declared.records.VoterSlotRecord.{VoterSlotRecord}
use Rattle.records.specs.declared.records.VoterSnapshotEvidence.{VoterSnapshotEvidence}
use Rattle.records.specs.declared.records.VoterConfiguration.{VoterConfiguration}
use Rattle.records.specs.declared.records.LostVoterAttestationV1.{LostVoterAttestationV1}
use Rattle.records.specs.declared.records.VoterReplacementEvidence.{VoterReplacementEvidence}
use Rattle.records.specs.declared.records.VoterReplacementRecord.{VoterReplacementRecord}
use Rattle.records.specs.declared.records.VoterSlotTable.{VoterSlotTable}
use Rattle.layout.specs.Parts.{binding_of}
use Rattle.layout.specs.Layout.{require-is, slot_id, incarnation, epoch, slot_count, choice, identity, log_id, optional_log_id, sized, string, string-long, placed, spiffe_id, snapshot_id, binding, member, members, configuration, result_head, replacement_result, slot_member, slot, slots, claims_request, claims_slot, claims_names, times, claims_end, claims, attestation, snapshot, three_cuts, evidence, change, replacement, table_head, table}
use Rattle.layout.specs.declared.parts.Binding.{Binding}

-- ---- lists

-- of each element, and so of all
all_from : {A : Type 0} (P : A → Type 0) (d : A) (l : List A) → ((i : ℕ) → i < length l → P (get_or l i d)) → AllOf P l
all_from P d [] f = tt
all_from P d (x ∷ l) f = (f zero (omega arith), all_from P d l (λ i h. f (suc i) (omega arith)))

-- a list, and after it blanks up to k places
padded-held : {A : Type 0} (P : A → Type 0) (blank : A) (l : List A) (n k : ℕ) → length l ≡ n → n ≤ k → AllOf P l → P blank → HeldArray P k (l ++ replicate (k - n) blank)
padded-held P blank l n k e h a b = record {
  count = length-append l (replicate (k - n) blank) ∙ (let f = length-replicate (k - n) blank in omega arith);
  each = all_append P l (replicate (k - n) blank) a (all_replicate P (k - n) blank b);
}

-- ---- the ways to make a format

pub bytes-held : (l : List ℕ) → Bytes l → AllOf Byte l
unfolding Bytes
bytes-held l z = all_from Byte 0 l (λ i h. z i)

pub raw-held : (n : ℕ) (l : List ℕ) → (raw n).Good l → HeldBytes n l
unfolding raw
raw-held n l g = record { count = g.0; each = bytes-held l g.1 }

pub uint-held : (k x : ℕ) → (uint k).Good x → x < 256 ^ k
unfolding uint held
uint-held k x g = g

module _ {A : Type 0} (C : Codec A) (P : A → Type 0) (blank : A) (is : P blank) (each : (a : A) → C.Good a → P a) where
  -- a part that may be absent: then it is the blank
  opt-held : (b : Bool) (a : A) → (opt C blank).Good (b, a) → P a
  unfolding opt dep either always
  opt-held true a g = each a g.1
  opt-held false a g = subst P g.1 is

  -- nine places, of which n are in use: the others hold the blank
  places-held : (n : ℕ) (l : List A) → n ≤ 9 → (padded (vec C blank n) n 9 blank (vec-long C blank n)).Good l → HeldArray P 9 l
  unfolding padded via vec
  places-held n l h g =
      let e = g.0.0 in
      subst (λ (r : List A). HeldArray P 9 r) g.1
      (padded-held P blank (take n l) n 9 e h (all_from P blank (take n l) (λ i q. each (get_or (take n l) i blank) (g.0.1 i (omega arith)))) is)

-- ---- numbers and names

slot_id-held : (x : ℕ) → slot_id.Good x → x < 2 ^ 16
unfolding slot_id check
slot_id-held x g = uint-held 2 x g.0

incarnation-held : (x : ℕ) → incarnation.Good x → x < 2 ^ 64
unfolding incarnation check
incarnation-held x g = uint-held 8 x g.0

epoch-held : (x : ℕ) → epoch.Good x → x < 2 ^ 64
unfolding epoch check
epoch-held x g = uint-held 8 x g.0

count_most : (n : ℕ) → slot_count.Good n → n ≤ 9
unfolding slot_count check
count_most n g = count_small n (require-is (valid_count n) g.1)

count_held : (n : ℕ) → slot_count.Good n → n < 2 ^ 64
count_held n g = let h = count_most n g in omega arith

pub choice-held : (low high x : ℕ) → (choice low high).Good x → x < 2 ^ 8
unfolding choice check
choice-held low high x g = uint-held 1 x g.0

identity-held : (i : VoterSlotIdentity) → identity.Good i → HeldVoterSlotIdentity i
unfolding identity via dep
identity-held i g = record { slot = slot_id-held i.slot g.0.0; incarnation = incarnation-held i.incarnation g.0.1 }

pub log_id-held : (c : VoterSlotLogId) → log_id.Good c → HeldVoterSlotLogId c
unfolding log_id via dep
log_id-held c g = record { term = uint-held 8 c.term g.0.0; index = uint-held 8 c.index g.0.1 }

optional_log_id-held : (c : OptionalLogId) → optional_log_id.Good c → HeldOptionalLogId c
unfolding optional_log_id via
optional_log_id-held c g = record { cut = opt-held log_id HeldVoterSlotLogId blank_voter_slot_log_id blank-cut-held log_id-held c.is_some c.cut g.0 }

-- a text in its place
module _ (bound n : ℕ) (l : List ℕ) (g : (string bound).Good (n, take n l)) (p : placed bound (n, take n l) ≡ l) where
  text-most : n ≤ bound
  unfolding string sized check dep
  text-most = leb-true n bound (pick-zero (leb n bound) 4 g.0.0.1)

  text-len : n < 2 ^ 64
  unfolding string sized check dep
  text-len = let h = uint-held 2 n g.0.0.0 in omega arith

  text-bytes : Bytes (take n l)
  unfolding string sized check dep raw
  text-bytes = g.0.1.1

  text-held : HeldBytes bound l
  text-held = subst (λ (r : List ℕ). HeldBytes bound r) p (padded-held Byte 0 (take n l) n bound (string-long bound (n, take n l) g) text-most (bytes-held (take n l) text-bytes) (omega arith))

spiffe_id-held : (s : SpiffeId) → spiffe_id.Good s → HeldSpiffeId s
unfolding spiffe_id via
spiffe_id-held s g = record {
  len = text-len 2048 s.len s.bytes g.0 (ap (λ (x : SpiffeId). x.bytes) g.1);
  bytes = text-held 2048 s.len s.bytes g.0 (ap (λ (x : SpiffeId). x.bytes) g.1);
}

snapshot_id-held : (s : SnapshotId) → snapshot_id.Good s → HeldSnapshotId s
unfolding snapshot_id via
snapshot_id-held s g = record {
  len = text-len 256 s.len s.bytes g.0 (ap (λ (x : SnapshotId). x.bytes) g.1);
  bytes = text-held 256 s.len s.bytes g.0 (ap (λ (x : SnapshotId). x.bytes) g.1);
}

-- ---- members and configurations

pub record HeldBinding (b : Binding) : Type 0 where
  pub key_digest : HeldBytes 32 b.key_digest
  pub descriptor_digest : HeldBytes 32 b.descriptor_digest
  pub admission_generation : b.admission_generation < 2 ^ 64

pub binding-held : (b : Binding) → binding.Good b → HeldBinding b
unfolding binding via dep
binding-held b g = record {
  key_digest = raw-held 32 b.key_digest g.0.0.0;
  descriptor_digest = raw-held 32 b.descriptor_digest g.0.0.1;
  admission_generation = uint-held 8 b.admission_generation g.0.1;
}

-- a member is its identity and its binding
pub bound-held : (m : VoterSlotMember) → HeldVoterSlotIdentity m.identity → HeldBinding (binding_of m) → HeldVoterSlotMember m
bound-held m i b = record { identity = i; key_digest = b.key_digest; descriptor_digest = b.descriptor_digest; admission_generation = b.admission_generation }

member-held : (m : VoterSlotMember) → member.Good m → HeldVoterSlotMember m
unfolding member via dep
member-held m g = bound-held m (identity-held m.identity g.0.0) (binding-held (binding_of m) g.0.1)

configuration-held : (c : VoterConfiguration) → configuration.Good c → HeldVoterConfiguration c
unfolding configuration members via dep
configuration-held c g = record {
  epoch = epoch-held c.epoch g.0.0.0;
  members = places-held member HeldVoterSlotMember blank_voter_slot_member blank-member-held member-held c.count c.members (count_most c.count g.0.0.1) g.0.1;
  count = count_held c.count g.0.0.1;
}

-- ---- slots

result-held : (r : VoterReplacementResult) → replacement_result.Good r → HeldVoterReplacementResult r
unfolding replacement_result result_head via dep
result-held r g = record {
  request_id = raw-held 16 r.request_id g.0.0.0.0.0.0.0.0;
  request_digest = raw-held 32 r.request_digest g.0.0.0.0.0.0.0.1;
  incarnation = incarnation-held r.incarnation g.0.0.0.0.0.0.1;
  revision = uint-held 8 r.revision g.0.0.0.0.0.1;
  configuration_epoch = epoch-held r.configuration_epoch g.0.0.0.1;
  kind = choice-held 0 1 r.kind g.0.0.1;
  terminal = log_id-held r.terminal g.0.1;
}

slot_held : (s : VoterSlotRecord) → slot.Good s → HeldVoterSlotRecord s
unfolding slot slot_member via dep
slot_held s g = record {
  member = bound-held s.member (identity-held s.member.identity g.0.0.0.0.0.0) (binding-held (binding_of s.member) g.0.0.0.0.1);
  retired_through = uint-held 8 s.retired_through g.0.0.0.0.0.1;
  phase = choice-held 0 2 s.phase g.0.0.1;
  last_result = opt-held replacement_result HeldVoterReplacementResult blank_voter_replacement_result blank-result-held result-held s.has_last_result s.last_result g.0.1;
}

-- ---- an attestation

claims-held : (a : LostVoterAttestationV1) → claims.Good a → HeldLostVoterAttestationV1 a
unfolding claims claims_request claims_slot claims_names claims_end times via dep
claims-held a g =
    let i = identity-held (record { slot = a.slot; incarnation = a.expected_incarnation }) g.0.0.0.1.0.0.0.1 in
    record {
      request_id = raw-held 16 a.request_id g.0.0.0.0.0.0.1;
      request_digest = raw-held 32 a.request_digest g.0.0.0.0.0.1;
      cluster_instance = raw-held 32 a.cluster_instance g.0.0.0.1.0.0.0.0;
      slot = i.slot;
      expected_incarnation = i.incarnation;
      old_descriptor_digest = raw-held 32 a.old_descriptor_digest g.0.0.0.1.0.0.1;
      candidate_key_digest = raw-held 32 a.candidate_key_digest g.0.0.0.1.0.1;
      admission_generation = uint-held 8 a.admission_generation g.0.0.1.0.0.0.0;
      candidate_spiffe_id = spiffe_id-held a.candidate_spiffe_id g.0.0.1.0.0.0.1;
      controller_spiffe_id = spiffe_id-held a.controller_spiffe_id g.0.0.1.0.0.1;
      signing_key_digest = raw-held 32 a.signing_key_digest g.0.0.1.0.1;
      reason = choice-held 1 2 a.reason g.0.1.0.0.0.0;
      policy_digest = raw-held 32 a.policy_digest g.0.1.0.0.0.1;
      observation_start_ms = uint-held 8 a.observation_start_ms g.0.1.0.0.1.0.0.0.0;
      decision_ms = uint-held 8 a.decision_ms g.0.1.0.0.1.0.0.0.1;
      issued_ms = uint-held 8 a.issued_ms g.0.1.0.0.1.0.0.1;
      expires_ms = uint-held 8 a.expires_ms g.0.1.0.0.1.0.1;
      signature = raw-held 64 a.signature g.0.1.0.1;
    }

pub attestation-held : (a : LostVoterAttestationV1) → attestation.Good a → HeldLostVoterAttestationV1 a
unfolding attestation check
attestation-held a g = claims-held a g.0

-- ---- an open request

snapshot-held : (s : VoterSnapshotEvidence) → snapshot.Good s → HeldVoterSnapshotEvidence s
unfolding snapshot via dep
snapshot-held s g = record { cut = log_id-held s.cut g.0.0.0; snapshot_id = snapshot_id-held s.snapshot_id g.0.0.1; digest = raw-held 32 s.digest g.0.1 }

evidence-held : (e : VoterReplacementEvidence) → evidence.Good e → HeldVoterReplacementEvidence e
unfolding evidence three_cuts via dep
evidence-held e g = record {
  prepare = log_id-held e.prepare g.0.0.0.0;
  snapshot = opt-held snapshot HeldVoterSnapshotEvidence blank_voter_snapshot_evidence blank-snapshot-held snapshot-held e.has_snapshot e.snapshot g.0.0.0.1;
  learner = optional_log_id-held e.learner g.0.0.1.0.0.0;
  caught_up = optional_log_id-held e.caught_up g.0.0.1.0.0.1;
  continuation = optional_log_id-held e.continuation g.0.0.1.0.1;
  fence = optional_log_id-held e.fence g.0.1.0.0.0;
  joint = optional_log_id-held e.joint g.0.1.0.0.1;
  uniform = optional_log_id-held e.uniform g.0.1.0.1;
}

replacement-held : (r : VoterReplacementRecord) → replacement.Good r → HeldVoterReplacementRecord r
unfolding replacement change via dep
replacement-held r g = record {
  expected_revision = uint-held 8 r.expected_revision g.0.0.0.0;
  attestation = attestation-held r.attestation (boxed-is attestation 8192 r.attestation g.0.0.0.1);
  predecessor = configuration-held r.predecessor g.0.0.1.0.0.0;
  successor = configuration-held r.successor g.0.0.1.0.0.1;
  phase = choice-held 0 6 r.phase g.0.0.1.0.1;
  evidence = evidence-held r.evidence g.0.1;
}

-- ---- a table

pub table-held : (t : VoterSlotTable) → table.Good t → HeldVoterSlotTable t
unfolding table table_head slots via dep
table-held t g = record {
  cluster_instance = raw-held 32 t.cluster_instance g.0.0.0.0.1.0.0.0.0;
  manifest_digest = raw-held 32 t.manifest_digest g.0.0.0.0.1.0.0.0.1;
  revision = uint-held 8 t.revision g.0.0.0.0.1.0.0.1;
  configuration_epoch = epoch-held t.configuration_epoch g.0.0.0.0.1.0.1;
  slots = places-held slot HeldVoterSlotRecord blank_voter_slot_record blank-slot-held slot_held t.count t.slots (count_most t.count g.0.0.0.1) g.0.0.1;
  count = count_held t.count g.0.0.0.1;
  replacement = opt-held replacement HeldVoterReplacementRecord blank_voter_replacement_record blank-replacement-held replacement-held t.has_replacement t.replacement g.0.1;
}
