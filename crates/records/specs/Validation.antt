-- Validity of a table: document 01, section "Validity", and exactly validation.rs, in its order.
-- Numbers 6 and 3, after 30.
-- The Rust gives 5 for a name above 2,048 bytes and a snapshot id above 256. Here both get 30,
-- before validity is asked, so validity never gives 5.
-- Assumes nothing.
use Rattle.std.specs.Prelude.{ℕ, zero, suc, ◌+◌, ◌-◌, ◌%◌, ◌≡◌, Bool, true, cond, not, ◌&&◌, ◌||◌, take, eqb, leb, ltb}
use Rattle.identity.specs.Conditions.{◌and◌}
use Rattle.identity.specs.Answer.{is_accepted, Answer, Accepted, IncarnationExhausted, InvalidRecord, Unrepresentable}
use Rattle.identity.specs.Identity.{max_voter_incarnation}
use Rattle.identity.specs.Text.{is_name, max_spiffe_id_bytes}
use Rattle.records.specs.Equality.{eq_bytes, same_voter_slot_log_id, same_voter_slot_member}
use Rattle.records.specs.Records.{max_fixed_voter_slots, min_replacement_slots, pending, catching_up, voting, snapshot_installed, fenced, uniform, completed, superseded, all_below, slot_at, member_at}
use Rattle.records.specs.Evidence.{valid_log_id, valid_evidence}
use Rattle.records.specs.Representable.{representable}
use Rattle.records.specs.declared.records.SpiffeId.{SpiffeId}
use Rattle.records.specs.declared.records.VoterSlotMember.{VoterSlotMember}
use Rattle.records.specs.declared.records.VoterSlotRecord.{VoterSlotRecord}
use Rattle.records.specs.declared.records.VoterConfiguration.{VoterConfiguration}
use Rattle.records.specs.declared.records.LostVoterAttestationV1.{LostVoterAttestationV1}
use Rattle.records.specs.declared.records.VoterReplacementRecord.{VoterReplacementRecord}
use Rattle.records.specs.declared.records.VoterSlotTable.{VoterSlotTable}
use Rattle.records.specs.declared.validation.Claims.{Claims}

-- `require`: what follows, or 6
abbrev pub require_of : Bool → Answer → Answer
require_of valid next = cond valid next InvalidRecord

-- `validate_count`: "odd count, 1 to 9"
abbrev pub valid_count : ℕ → Bool
valid_count count = ltb 0 count and leb count max_fixed_voter_slots and eqb (count % 2) 1

-- `VoterConfiguration::validate`
unfoldable pub valid_configuration : VoterConfiguration → Bool
valid_configuration c =
    valid_count c.count
    and all_below (λ i. ltb 0 (member_at c i).admission_generation) c.count
    and all_below (λ i. ltb (member_at c i).identity.slot (member_at c (i + 1)).identity.slot) (c.count - 1)

-- A controller or candidate name. One that is longer than its field is invalid, whatever the field
-- holds.
abbrev pub valid_spiffe_id : SpiffeId → Bool
valid_spiffe_id s = leb s.len max_spiffe_id_bytes && is_name (take s.len s.bytes)

-- Both names of an attestation are valid. No rule of its own: with it the numbers alone decide
-- (`names-hold` of ValidationLaws).
pub record NamesHold (a : LostVoterAttestationV1) : Type 0 where
  pub candidate : valid_spiffe_id a.candidate_spiffe_id ≡ true
  pub controller : valid_spiffe_id a.controller_spiffe_id ≡ true

-- `LostVoterAttestationV1::validate`
unfoldable pub valid_attestation : LostVoterAttestationV1 → Bool
valid_attestation a =
    valid_spiffe_id a.candidate_spiffe_id
    and valid_spiffe_id a.controller_spiffe_id
    and ltb 0 a.admission_generation
    and leb a.observation_start_ms a.decision_ms
    and leb a.decision_ms a.issued_ms
    and ltb a.issued_ms a.expires_ms

-- ---- `VoterSlotTable::validate`

-- The open request is about this slot.
abbrev pub is_active : VoterSlotTable → VoterSlotRecord → Bool
is_active t s = t.has_replacement && eqb t.replacement.attestation.slot s.member.identity.slot

-- A slot's receipt, in a table of that revision and epoch.
unfoldable pub valid_result : ℕ → ℕ → Bool → VoterSlotRecord → Bool
valid_result revision epoch active s =
    let r = s.last_result in
    let own = s.member.identity.incarnation in
    valid_log_id r.terminal
    and (ltb 0 r.revision
    and leb r.revision revision
    and leb r.configuration_epoch epoch
    and ltb 1 r.incarnation
    and leb r.incarnation own)
    and (not active || ltb r.incarnation own)
    and (not (eqb r.incarnation own) || (eqb s.phase voting && eqb r.kind completed))

-- One slot: "retired-through is incarnation − 1"; past its first incarnation it is being replaced
-- or has its completed receipt.
unfoldable pub valid_slot : ℕ → ℕ → Bool → VoterSlotRecord → Bool
valid_slot revision epoch active s =
    let r = s.last_result in
    let own = s.member.identity.incarnation in
    (ltb 0 s.member.admission_generation && eqb (s.retired_through + 1) own)
    and ((active || leb own 1) || (s.has_last_result and eqb r.incarnation own and eqb r.kind completed))
    and (not s.has_last_result || valid_result revision epoch active s)

-- Two slots have no receipt of one request.
abbrev pub distinct_results : VoterSlotRecord → VoterSlotRecord → Bool
distinct_results a b =
    not (a.has_last_result and b.has_last_result and eq_bytes a.last_result.request_id b.last_result.request_id)

-- "odd count, 1 to 9, slot numbers strictly rising. Revision above 0"; each slot is valid, and no
-- two have a receipt of one request.
unfoldable pub valid_slots : VoterSlotTable → Bool
valid_slots t =
    valid_count t.count
    and ltb 0 t.revision
    and all_below (λ i. ltb (slot_at t i).member.identity.slot (slot_at t (i + 1)).member.identity.slot) (t.count - 1)
    and all_below (λ i. valid_slot t.revision t.configuration_epoch (is_active t (slot_at t i)) (slot_at t i)) t.count
    and all_below (λ i. all_below (λ j. distinct_results (slot_at t j) (slot_at t i)) i) t.count

-- ---- `VoterSlotTable::validate_operation`

-- "Slot phase of the slot being replaced: Pending up to SnapshotInstalled, CatchingUp to Fenced,
-- then Voting."
abbrev pub target_phase : ℕ → ℕ
target_phase phase = cond (leb phase snapshot_installed) pending (cond (leb phase fenced) catching_up voting)

-- The open request, against the table's head.
unfoldable pub valid_operation_head : VoterSlotTable → VoterReplacementRecord → Bool
valid_operation_head t op =
    ltb 0 op.expected_revision
    and ltb op.expected_revision t.revision
    and eq_bytes op.attestation.cluster_instance t.cluster_instance
    and leb min_replacement_slots t.count
    and eqb op.predecessor.count t.count
    and eqb op.successor.count t.count
    and eqb (op.predecessor.epoch + 1) op.successor.epoch

-- The table's epoch is the predecessor's, and from Uniform on the successor's.
unfoldable pub is_current_epoch : VoterSlotTable → VoterReplacementRecord → Bool
is_current_epoch t op = eqb t.configuration_epoch (cond (eqb op.phase uniform) op.successor.epoch op.predecessor.epoch)

-- The open request by itself, and against the table's head and epoch.
unfoldable pub valid_operation : VoterSlotTable → VoterReplacementRecord → Bool
valid_operation t op =
    valid_attestation op.attestation
    and valid_configuration op.predecessor
    and valid_configuration op.successor
    and valid_evidence op.evidence op.phase
    and valid_operation_head t op
    and is_current_epoch t op

-- What the open request claims of the slots.
abbrev pub claims_of : VoterReplacementRecord → Claims
claims_of op =
    record {
      request_id = op.attestation.request_id;
      slot = op.attestation.slot;
      expected_incarnation = op.attestation.expected_incarnation;
      old_descriptor_digest = op.attestation.old_descriptor_digest;
      candidate_key_digest = op.attestation.candidate_key_digest;
      admission_generation = op.attestation.admission_generation;
      phase = op.phase;
      prepare = op.evidence.prepare;
    }

-- The receipt that a supersession leaves: of the incarnation that the new request replaces, at its
-- prepare.
abbrev pub superseded_receipt : VoterSlotRecord → Claims → Bool
superseded_receipt s c =
    s.has_last_result
    and eqb s.last_result.incarnation c.expected_incarnation
    and eqb s.last_result.kind superseded
    and same_voter_slot_log_id s.last_result.terminal c.prepare

-- The member that is being replaced: the attested one with the attested descriptor; or an earlier
-- one, where the attested one was a candidate that was superseded.
unfoldable pub retired_member : Claims → VoterSlotRecord → VoterSlotMember → Bool
retired_member c s predecessor =
    cond (eqb predecessor.identity.incarnation c.expected_incarnation)
    (eq_bytes predecessor.descriptor_digest c.old_descriptor_digest)
    (superseded_receipt s c)

-- The slot being replaced, after the test that an incarnation follows the attested one.
unfoldable pub valid_target : Claims → VoterSlotRecord → VoterSlotMember → VoterSlotMember → Bool
valid_target c s predecessor successor =
    (eqb (c.expected_incarnation + 1) successor.identity.incarnation
    and leb predecessor.identity.incarnation c.expected_incarnation
    and ltb predecessor.admission_generation successor.admission_generation
    and eqb successor.admission_generation c.admission_generation
    and eq_bytes successor.key_digest c.candidate_key_digest)
    and eqb s.phase (target_phase c.phase)
    and retired_member c s predecessor

-- No receipt of the open request.
abbrev pub other_request : Claims → VoterSlotRecord → Bool
other_request c s =
    not s.has_last_result || not (eq_bytes s.last_result.request_id c.request_id)

-- A slot that is not being replaced.
abbrev pub other_member : VoterSlotRecord → VoterSlotMember → VoterSlotMember → Bool
other_member s predecessor successor = same_voter_slot_member predecessor successor && eqb s.phase voting

-- One slot and its two members; 3 where the slot is the target and no incarnation follows the
-- attested one.
unfoldable pub validate_member : Claims → VoterSlotRecord → VoterSlotMember → VoterSlotMember → Answer
validate_member c s predecessor successor =
    require_of (same_voter_slot_member s.member successor && eqb predecessor.identity.slot successor.identity.slot)
    (cond (eqb s.member.identity.slot c.slot)
    (cond (eqb c.expected_incarnation max_voter_incarnation) IncarnationExhausted
    (require_of (valid_target c s predecessor successor && other_request c s) Accepted))
    (require_of (other_member s predecessor successor && other_request c s) Accepted))

-- The first refusal of the slots below n.
unfoldable pub validate_members : VoterSlotTable → ℕ → Answer
validate_members t zero = Accepted
validate_members t (suc n) =
    cond (is_accepted (validate_members t n))
    (validate_member (claims_of t.replacement) (slot_at t n) (member_at t.replacement.predecessor n) (member_at t.replacement.successor n))
    (validate_members t n)

-- A slot is the target.
abbrev pub has_target : VoterSlotTable → Bool
has_target t = not (all_below (λ i. not (eqb (slot_at t i).member.identity.slot t.replacement.attestation.slot)) t.count)

-- `validate_operation`: 6, then the first refusal of the slots (3 among them), then 6 where no slot
-- is the target.
unfoldable pub validate_operation : VoterSlotTable → Answer
validate_operation t =
    require_of (valid_operation t t.replacement)
    (cond (is_accepted (validate_members t t.count)) (require_of (has_target t) Accepted) (validate_members t t.count))

-- `VoterSlotTable::validate`, of a table that has passed the representability check: the slots;
-- then the open request, or with none open the phase Voting in every slot.
unfoldable pub validity : VoterSlotTable → Answer
validity t =
    require_of (valid_slots t)
    (cond t.has_replacement (validate_operation t)
    (require_of (all_below (λ i. eqb (slot_at t i).phase voting) t.count) Accepted))

-- the same after 30: "Exactly validation.rs, and nothing in the table that gets 30."
unfoldable pub validate : VoterSlotTable → Answer
validate t = cond (representable t) (validity t) Unrepresentable
