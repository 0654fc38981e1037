-- The bytes of a table (`OPVI` version 1) and of an attestation, field by field, in the order of
-- codec.rs. `uint 8` is a number of 8 bytes, `raw 32` 32 bytes as they stand.
-- A format here has its writer, its reader and the laws that tie them (crate `format`). From
-- codec.rs; document 01, "Refusals from the input": 1 and 2 for a slot or incarnation, 4 for
-- another version, 5 for a name, snapshot id or attestation that is too long, 6 for any other bad
-- bytes.
-- Assumes nothing.
use Rattle.std.specs.Prelude.{ℕ, ◌-◌, ◌≡◌, refl, Bool, true, false, ◌&&◌, List, [], ◌∷◌, ◌++◌, length, take, replicate, eqb, leb}
use Rattle.std.proofs.Common.{ap, ap₂, sym, arith, take_at, eqb-true}
use Rattle.identity.specs.Answer.{number_of}
use Rattle.identity.specs.Identity.{is_configuration_epoch, validate_slot_id, validate_voter_incarnation}
use Rattle.identity.specs.Text.{is_utf8, max_spiffe_id_bytes, max_snapshot_id_bytes}
use Rattle.identity.specs.declared.identity.VoterSlotIdentity.{VoterSlotIdentity}
use Rattle.format.specs.Res.{malformed, too_large}
use Rattle.format.specs.Combinators.{Codec, dep, check, via, tested}
use Rattle.format.specs.Num.{uint, raw, raw-long, pick, pick-zero}
use Rattle.format.specs.List.{vec, vec-long, padded, opt}
use Rattle.format.specs.Through.{boxed}
use Rattle.records.specs.Blank.{blank_voter_slot_log_id, blank_voter_slot_member, blank_voter_replacement_result, blank_voter_slot_record, blank_voter_snapshot_evidence, blank_voter_replacement_record}
use Rattle.records.specs.Equality.{eq_bytes}
use Rattle.records.specs.EqualityLaws.{eq_bytes-true}
use Rattle.records.specs.Records.{max_fixed_voter_slots, pending, voting, prepared, uniform, completed, superseded, storage_lost, time_bound_loss}
use Rattle.records.specs.Validation.{valid_count, valid_attestation}
use Rattle.records.specs.declared.records.SpiffeId.{SpiffeId}
use Rattle.records.specs.declared.records.SnapshotId.{SnapshotId}
use Rattle.records.specs.declared.records.VoterSlotLogId.{VoterSlotLogId}
use Rattle.records.specs.declared.records.OptionalLogId.{OptionalLogId}
use Rattle.records.specs.declared.records.VoterSlotMember.{VoterSlotMember}
use Rattle.records.specs.declared.records.VoterReplacementResult.{VoterReplacementResult}
use Rattle.records.specs.declared.records.VoterSlotRecord.{VoterSlotRecord}
use Rattle.records.specs.declared.records.VoterSnapshotEvidence.{VoterSnapshotEvidence}
use Rattle.records.specs.declared.records.VoterConfiguration.{VoterConfiguration}
use Rattle.records.specs.declared.records.LostVoterAttestationV1.{LostVoterAttestationV1}
use Rattle.records.specs.declared.records.VoterReplacementEvidence.{VoterReplacementEvidence}
use Rattle.records.specs.declared.records.VoterReplacementRecord.{VoterReplacementRecord}
use Rattle.records.specs.declared.records.VoterSlotTable.{VoterSlotTable}
use Rattle.layout.specs.Parts.{member_of, binding_of, result_of, result_head_of, slot_member_of, attestation_of, claims_request_of, claims_slot_of, claims_names_of, claims_end_of, evidence_of, early_cuts, late_cuts, replacement_of, change_of, table_of, table_head_of, TableFront}
use Rattle.layout.specs.declared.parts.Binding.{Binding}
use Rattle.layout.specs.declared.parts.ResultHead.{ResultHead}
use Rattle.layout.specs.declared.parts.SlotMember.{SlotMember}
use Rattle.layout.specs.declared.parts.ThreeCuts.{ThreeCuts}
use Rattle.layout.specs.declared.parts.ClaimsRequest.{ClaimsRequest}
use Rattle.layout.specs.declared.parts.ClaimsSlot.{ClaimsSlot}
use Rattle.layout.specs.declared.parts.ClaimsNames.{ClaimsNames}
use Rattle.layout.specs.declared.parts.ClaimsEnd.{ClaimsEnd}
use Rattle.layout.specs.declared.parts.Times.{Times}
use Rattle.layout.specs.declared.parts.Change.{Change}
use Rattle.layout.specs.declared.parts.TableHead.{TableHead}

-- ---- numbers and names

-- what is not so is refused by 6
abbrev pub require : Bool → ℕ
require t = pick t 0 malformed

-- 1, 2: "slot 0; incarnation 0 or above 2^47"; an epoch of 0 is 6.
unfoldable pub slot_id : Codec ℕ
slot_id = check (uint 2) (λ x. number_of (validate_slot_id x))

unfoldable pub incarnation : Codec ℕ
incarnation = check (uint 8) (λ x. number_of (validate_voter_incarnation x))

unfoldable pub epoch : Codec ℕ
epoch = check (uint 8) (λ x. require (is_configuration_epoch x))

-- how many slots or members: odd, up to nine
unfoldable pub slot_count : Codec ℕ
slot_count = check (uint 1) (λ x. require (valid_count x))

-- one of the numbers from low to high
unfoldable pub choice : ℕ → ℕ → Codec ℕ
choice low high = check (uint 1) (λ x. require (leb low x && leb x high))

-- `identity`: slot, incarnation
unfoldable pub identity : Codec VoterSlotIdentity
identity =
    via (dep slot_id (λ a. incarnation)) (λ p. record { slot = p.0; incarnation = p.1 }) (λ i. (i.slot, i.incarnation)) (λ a g. refl)

-- `log_id`: term, index
unfoldable pub log_id : Codec VoterSlotLogId
log_id = via (dep (uint 8) (λ a. uint 8)) (λ p. record { term = p.0; index = p.1 }) (λ c. (c.term, c.index)) (λ a g. refl)

-- `optional(Reader::log_id)`
unfoldable pub optional_log_id : Codec OptionalLogId
optional_log_id =
    via (opt log_id blank_voter_slot_log_id) (λ p. record { is_some = p.0; cut = p.1 }) (λ c. (c.is_some, c.cut)) (λ a g. refl)

-- `sized_bytes`: a length of at most `bound`, refused by 5, and so many bytes
unfoldable pub sized : ℕ → Codec (ℕ × List ℕ)
sized bound = dep (check (uint 2) (λ n. pick (leb n bound) 0 too_large)) raw

-- `string`: they are UTF-8, else refused by 6
unfoldable pub string : ℕ → Codec (ℕ × List ℕ)
string bound = check (sized bound) (λ p. require (is_utf8 p.1))

-- so many bytes as the length says
pub string-long : (bound : ℕ) (p : ℕ × List ℕ) → (string bound).Good p → length p.1 ≡ p.0
unfolding string sized check dep
string-long bound p g = raw-long p.0 p.1 g.0.1

-- text in a place of `bound` bytes, zeros after it, and the text of the place
abbrev pub placed : ℕ → ℕ × List ℕ → List ℕ
placed bound p = p.1 ++ replicate (bound - p.0) 0

pub placed-back : (bound : ℕ) (p : ℕ × List ℕ) → (string bound).Good p → ◌≡◌ {A = ℕ × List ℕ} (p.0, take p.0 (placed bound p)) p
placed-back bound p g = ap (λ l. (p.0, l)) (take_at p.1 (replicate (bound - p.0) 0) p.0 (string-long bound p g))

-- `identity_string`, in its place of 2,048 bytes
unfoldable pub spiffe_id : Codec SpiffeId
spiffe_id =
    via (string max_spiffe_id_bytes) (λ p. record { len = p.0; bytes = placed max_spiffe_id_bytes p }) (λ t. (t.len, take t.len t.bytes)) (λ p g. placed-back max_spiffe_id_bytes p g)

-- a snapshot id, in its place of 256 bytes
unfoldable pub snapshot_id : Codec SnapshotId
snapshot_id =
    via (string max_snapshot_id_bytes) (λ p. record { len = p.0; bytes = placed max_snapshot_id_bytes p }) (λ t. (t.len, take t.len t.bytes)) (λ p g. placed-back max_snapshot_id_bytes p g)

-- ---- members and configurations

-- `binding`: what follows an identity in a member
unfoldable pub binding : Codec Binding
binding =
    via (dep (dep (raw 32) (λ a. raw 32)) (λ a. uint 8))
    (λ p. record { key_digest = p.0.0; descriptor_digest = p.0.1; admission_generation = p.1 })
    (λ b. ((b.key_digest, b.descriptor_digest), b.admission_generation)) (λ a g. refl)

-- a member of a configuration
unfoldable pub member : Codec VoterSlotMember
member = via (dep identity (λ i. binding)) (λ p. member_of p.0 p.1) (λ m. (m.identity, binding_of m)) (λ a g. refl)

-- so many members, in nine places
unfoldable pub members : ℕ → Codec (List VoterSlotMember)
members n = padded (vec member blank_voter_slot_member n) n max_fixed_voter_slots blank_voter_slot_member (vec-long member blank_voter_slot_member n)

-- `configuration`: epoch, count, members
unfoldable pub configuration : Codec VoterConfiguration
configuration =
    via (dep (dep epoch (λ a. slot_count)) (λ p. members p.1)) (λ p. record { epoch = p.0.0; members = p.1; count = p.0.1 })
    (λ c. ((c.epoch, c.count), c.members)) (λ a g. refl)

-- ---- slots

-- a receipt up to its revision
unfoldable pub result_head : Codec ResultHead
result_head =
    via (dep (dep (dep (raw 16) (λ a. raw 32)) (λ a. incarnation)) (λ a. uint 8))
    (λ p. record { request_id = p.0.0.0; request_digest = p.0.0.1; incarnation = p.0.1; revision = p.1 })
    (λ r. (((r.request_id, r.request_digest), r.incarnation), r.revision)) (λ a g. refl)

-- a receipt: request id, request digest, incarnation, revision, epoch, kind, terminal cut
unfoldable pub replacement_result : Codec VoterReplacementResult
replacement_result =
    via (dep (dep (dep result_head (λ a. epoch)) (λ a. choice completed superseded)) (λ a. log_id)) (λ p. result_of p.0.0.0 p.0.0.1 p.0.1 p.1)
    (λ r. (((result_head_of r, r.configuration_epoch), r.kind), r.terminal)) (λ a g. refl)

-- the retired number stands between the identity and the binding
unfoldable pub slot_member : Codec SlotMember
slot_member =
    via (dep (dep identity (λ a. uint 8)) (λ a. binding)) (λ p. record { member = member_of p.0.0 p.1; retired_through = p.0.1 })
    (λ s. ((s.member.identity, s.retired_through), binding_of s.member)) (λ a g. refl)

-- a slot: its member and retired number, its phase, its receipt
unfoldable pub slot : Codec VoterSlotRecord
slot =
    via (dep (dep slot_member (λ a. choice pending voting)) (λ a. opt replacement_result blank_voter_replacement_result))
    (λ p. record {
      member = p.0.0.member;
      retired_through = p.0.0.retired_through;
      phase = p.0.1;
      has_last_result = p.1.0;
      last_result = p.1.1;
    })
    (λ s. ((slot_member_of s, s.phase), (s.has_last_result, s.last_result))) (λ a g. refl)

-- so many slots, in nine places
unfoldable pub slots : ℕ → Codec (List VoterSlotRecord)
slots n = padded (vec slot blank_voter_slot_record n) n max_fixed_voter_slots blank_voter_slot_record (vec-long slot blank_voter_slot_record n)

-- ---- an attestation

-- a test that was passed
pub require-is : (t : Bool) → require t ≡ 0 → t ≡ true
require-is t e = pick-zero t 5 e

-- the version, which is 1
unfoldable pub version : Codec (Unit {0})
version = via (check (uint 2) (λ x. require (eqb x 1))) (λ x. tt) (λ u. 1)
    (λ x g. sym (eqb-true x 1 (require-is (eqb x 1) (tested (uint 2) (λ x. require (eqb x 1)) x g))))

-- the request: version, request id, request digest
unfoldable pub claims_request : Codec ClaimsRequest
claims_request =
    via (dep (dep version (λ a. raw 16)) (λ a. raw 32))
    (λ p. record { request_id = p.0.1; request_digest = p.1 })
    (λ r. ((tt, r.request_id), r.request_digest)) (λ a g. refl)

-- the installation, the slot with the incarnation that was lost, its descriptor, and the
-- candidate's key
unfoldable pub claims_slot : Codec ClaimsSlot
claims_slot =
    via (dep (dep (dep (raw 32) (λ a. identity)) (λ a. raw 32)) (λ a. raw 32))
    (λ p. record { cluster_instance = p.0.0.0; identity = p.0.0.1; old_descriptor_digest = p.0.1; candidate_key_digest = p.1 })
    (λ s. (((s.cluster_instance, s.identity), s.old_descriptor_digest), s.candidate_key_digest)) (λ a g. refl)

-- the generation of the admission, the names, and the key that signs
unfoldable pub claims_names : Codec ClaimsNames
claims_names =
    via (dep (dep (dep (uint 8) (λ a. spiffe_id)) (λ a. spiffe_id)) (λ a. raw 32))
    (λ p. record { admission_generation = p.0.0.0; candidate_spiffe_id = p.0.0.1; controller_spiffe_id = p.0.1; signing_key_digest = p.1 })
    (λ n. (((n.admission_generation, n.candidate_spiffe_id), n.controller_spiffe_id), n.signing_key_digest)) (λ a g. refl)

-- observation start, decision, issued, expires
unfoldable pub times : Codec Times
times =
    via (dep (dep (dep (uint 8) (λ a. uint 8)) (λ a. uint 8)) (λ a. uint 8))
    (λ p. record { observation_start_ms = p.0.0.0; decision_ms = p.0.0.1; issued_ms = p.0.1; expires_ms = p.1 })
    (λ t. (((t.observation_start_ms, t.decision_ms), t.issued_ms), t.expires_ms)) (λ a g. refl)

-- the reason, its policy, the times, and the signature
unfoldable pub claims_end : Codec ClaimsEnd
claims_end =
    via (dep (dep (dep (choice storage_lost time_bound_loss) (λ a. raw 32)) (λ a. times)) (λ a. raw 64))
    (λ p. record { reason = p.0.0.0; policy_digest = p.0.0.1; times = p.0.1; signature = p.1 })
    (λ e. (((e.reason, e.policy_digest), e.times), e.signature)) (λ a g. refl)

-- the fields of an attestation, all of them
unfoldable pub claims : Codec LostVoterAttestationV1
claims =
    via (dep (dep (dep claims_request (λ a. claims_slot)) (λ a. claims_names)) (λ a. claims_end))
    (λ p. attestation_of p.0.0.0 p.0.0.1 p.0.1 p.1)
    (λ a. (((claims_request_of a, claims_slot_of a), claims_names_of a), claims_end_of a)) (λ a g. refl)

-- `MAX_LOST_VOTER_ATTESTATION_BYTES`
abbrev pub max_attestation_bytes : ℕ
max_attestation_bytes = 8192

-- The fields and then `LostVoterAttestationV1::validate`. The Rust tests for bytes left over
-- between the two; both refuse by 6, so the order cannot be seen.
unfoldable pub attestation : Codec LostVoterAttestationV1
attestation = check claims (λ a. require (valid_attestation a))

-- ---- an open request

-- the snapshot of the evidence: cut, id, digest
unfoldable pub snapshot : Codec VoterSnapshotEvidence
snapshot =
    via (dep (dep log_id (λ a. snapshot_id)) (λ a. raw 32)) (λ p. record { cut = p.0.0; snapshot_id = p.0.1; digest = p.1 })
    (λ s. ((s.cut, s.snapshot_id), s.digest)) (λ a g. refl)

-- three cuts, each present or absent
unfoldable pub three_cuts : Codec ThreeCuts
three_cuts =
    via (dep (dep optional_log_id (λ a. optional_log_id)) (λ a. optional_log_id)) (λ p. record { first = p.0.0; second = p.0.1; third = p.1 })
    (λ c. ((c.first, c.second), c.third)) (λ a g. refl)

-- prepare, the snapshot, learner, caught up, continuation, fence, joint, uniform
unfoldable pub evidence : Codec VoterReplacementEvidence
evidence =
    via (dep (dep (dep log_id (λ a. opt snapshot blank_voter_snapshot_evidence)) (λ a. three_cuts)) (λ a. three_cuts))
    (λ p. evidence_of p.0.0.0 p.0.0.1.0 p.0.0.1.1 p.0.1 p.1)
    (λ e. (((e.prepare, (e.has_snapshot, e.snapshot)), early_cuts e), late_cuts e)) (λ a g. refl)

-- predecessor, successor, phase
unfoldable pub change : Codec Change
change =
    via (dep (dep configuration (λ a. configuration)) (λ a. choice prepared uniform))
    (λ p. record { predecessor = p.0.0; successor = p.0.1; phase = p.1 }) (λ c. ((c.predecessor, c.successor), c.phase)) (λ a g. refl)

-- expected revision, the attestation with its size, both configurations and the phase, the evidence
unfoldable pub replacement : Codec VoterReplacementRecord
replacement =
    via (dep (dep (dep (uint 8) (λ a. boxed attestation max_attestation_bytes)) (λ a. change)) (λ a. evidence))
    (λ p. replacement_of p.0.0.0 p.0.0.1 p.0.1 p.1)
    (λ r. (((r.expected_revision, r.attestation), change_of r), r.evidence)) (λ a g. refl)

-- ---- a table

-- `OPVI`
abbrev pub magic : List ℕ
magic = 79 ∷ 80 ∷ 86 ∷ 73 ∷ []

-- both are read before either is judged: 6 for the magic, then 4 for the version
unfoldable pub head_test : List ℕ × ℕ → ℕ
head_test p = pick (eq_bytes p.0 magic) (pick (eqb p.1 1) 0 4) malformed

head-by : (p : List ℕ × ℕ) (t u : Bool) → eq_bytes p.0 magic ≡ t → eqb p.1 1 ≡ u → pick {A = ℕ} t (pick u 0 4) malformed ≡ 0 → ◌≡◌ {A = List ℕ × ℕ} (magic, 1) p
unfolding pick
head-by p true true q r e = ap₂ (λ m v. (m, v)) (sym (eq_bytes-true p.0 magic q)) (sym (eqb-true p.1 1 r))
head-by p true false q r e = absurd (omega arith)
head-by p false u q r e = absurd (omega arith)

pub head-is : (p : List ℕ × ℕ) → head_test p ≡ 0 → ◌≡◌ {A = List ℕ × ℕ} (magic, 1) p
unfolding head_test
head-is p e = head-by p (eq_bytes p.0 magic) (eqb p.1 1) refl refl e

-- magic and version
unfoldable pub magic_and_version : Codec (Unit {0})
magic_and_version = via (check (dep (raw 4) (λ a. uint 2)) head_test) (λ p. tt) (λ u. (magic, 1)) (λ p g. head-is p (tested (dep (raw 4) (λ a. uint 2)) head_test p g))

-- installation, manifest, revision, epoch
unfoldable pub table_head : Codec TableHead
table_head =
    via (dep (dep (dep (raw 32) (λ a. raw 32)) (λ a. uint 8)) (λ a. epoch))
    (λ p. record { cluster_instance = p.0.0.0; manifest_digest = p.0.0.1; revision = p.0.1; configuration_epoch = p.1 })
    (λ h. (((h.cluster_instance, h.manifest_digest), h.revision), h.configuration_epoch)) (λ a g. refl)

-- what stands before the flag that tells an open request
abbrev pub table_front : Codec TableFront
table_front = dep (dep (dep magic_and_version (λ a. table_head)) (λ a. slot_count)) (λ p. slots p.1)

-- The bytes of a table, whole; its validity is tested after them (codec).
unfoldable pub table : Codec VoterSlotTable
table =
    via (dep table_front (λ a. opt replacement blank_voter_replacement_record))
    (λ p. table_of p.0.0.0.1 p.0.0.1 p.0.1 p.1.0 p.1.1)
    (λ t. ((((tt, table_head_of t), t.count), t.slots), (t.has_replacement, t.replacement))) (λ a g. refl)
