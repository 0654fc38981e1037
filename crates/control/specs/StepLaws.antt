-- One step of the open request of a valid table: a phase not before the one it has, evidence with
-- the same prepare, the slot's phase and the epoch with it. The successor check looks at nothing
-- but the evidence: it is valid for the phase, and it keeps what was there (`stepped-exactly`).
-- Each other name here is a step of a proof.
-- Assumes nothing.
use Rattle.std.specs.Prelude.{ℕ, ◌+◌, ◌≤◌, ◌≡◌, Bool, false, cond, ◌&&◌, set, eqb}
use Rattle.std.proofs.Common.{subst, ap₂, sym, ◌∙◌, arith}
use Rattle.std.proofs.Math.Path.{refl, ap}
use Rattle.std.proofs.Math.Bool.{true, not, and-true}
use borrow.Author.Tests.{eqb-true, eqb-false, le-leb, ne_eqb, eq-eqb}
use Rattle.identity.specs.Answer.{is_accepted, Accepted}
use Rattle.identity.specs.Identity.{is_configuration_epoch}
use Rattle.records.specs.declared.records.VoterSlotLogId.{VoterSlotLogId}
use Rattle.records.specs.declared.records.VoterSlotMember.{VoterSlotMember}
use Rattle.records.specs.declared.records.VoterSlotRecord.{VoterSlotRecord}
use Rattle.records.specs.declared.records.VoterReplacementEvidence.{VoterReplacementEvidence}
use Rattle.records.specs.declared.records.VoterReplacementRecord.{VoterReplacementRecord}
use Rattle.records.specs.declared.records.VoterSlotTable.{VoterSlotTable}
use Rattle.records.specs.declared.validation.Claims.{Claims}
use Rattle.records.specs.Equality.{eq_bytes}
use Rattle.records.specs.EqualityLaws.{eq_bytes-refl, same_lost_voter_attestation_v1-refl, same_voter_configuration-refl}
use Rattle.records.specs.Evidence.{valid_evidence, retains}
use Rattle.records.specs.Records.{uniform, slot_at, member_at}
use Rattle.records.specs.Representable.{representable_slot_record, representable_evidence, representable}
use Rattle.records.specs.Successor.{request_succeeds, or_regression, replacement_succeeds, succession, first_refusal, validate_successor_of}
use Rattle.records.specs.Validation.{require_of, target_phase, valid_operation_head, is_current_epoch, valid_operation, claims_of, retired_member, valid_target, validate_member, validate_members, has_target, validate_operation, validity}
use Rattle.records.specs.With.{table_with, operation_with, in_phase}
use Rattle.records.specs.TestLaws.{says, passes, by-test, cond-true, cond-false, some_below}
use Rattle.records.specs.ValidParts.{SlotHolds, slot-later, slot-moved, SlotsHold, slots-valid, phase-held, phase-rises, head-valid, members-all}
use Rattle.records.specs.RepresentableParts.{slot_is, epoch-fits, slot-fits, replacement-joined}
use Rattle.records.specs.SuccessorParts.{slot-in-phase, check-is, accepted-both}
use Rattle.records.specs.PlaceLaws.{distinct-two, at-used, placed-fits, number-placed, placed-slots, placed-succession}
use Rattle.control.specs.OpenLaws.{Open, target-of, other-idle, target-slot, other-slot}
use Rattle.control.specs.Control.{target_index, target_slot}

-- the epoch of a table whose request is in that phase
abbrev pub epoch_at : VoterReplacementRecord → ℕ → ℕ
epoch_at op phase = cond (eqb phase uniform) op.successor.epoch op.predecessor.epoch

-- the table after the step
abbrev pub stepped : VoterSlotTable → ℕ → VoterReplacementEvidence → VoterSlotTable
stepped t phase e =
    table_with t (t.revision + 1) (epoch_at t.replacement phase) (set t.slots (target_index t) (in_phase (target_slot t) (target_phase phase))) true
    (operation_with t.replacement phase e)

-- ---- what a request claims of a slot, in another phase

abbrev claims_with : Claims → ℕ → VoterSlotLogId → Claims
claims_with c phase prepare =
    record {
      request_id = c.request_id;
      slot = c.slot;
      expected_incarnation = c.expected_incarnation;
      old_descriptor_digest = c.old_descriptor_digest;
      candidate_key_digest = c.candidate_key_digest;
      admission_generation = c.admission_generation;
      phase = phase;
      prepare = prepare;
    }

module _ (c : Claims) (phase : ℕ) (s : VoterSlotRecord) (predecessor successor : VoterSlotMember) where
  other-claims : (prepare : VoterSlotLogId) → eqb s.member.identity.slot c.slot ≡ false
      → validate_member (claims_with c phase prepare) s predecessor successor ≡ validate_member c s predecessor successor
  unfolding validate_member
  other-claims prepare h = rw h

  target-claims : eqb s.member.identity.slot c.slot ≡ true → s.phase ≡ target_phase c.phase
      → validate_member (claims_with c phase c.prepare) (in_phase s (target_phase phase)) predecessor successor ≡ validate_member c s predecessor successor
  unfolding validate_member valid_target retired_member
  target-claims n h = rw (n, eq-eqb s.phase (target_phase c.phase) h, eq-eqb (target_phase phase) (target_phase phase) refl)

module _ (t : VoterSlotTable) (o : Open t) (phase : ℕ) (later : t.replacement.phase ≤ phase) (most : phase ≤ uniform) where
  -- a step does not lower the epoch
  epoch-later : t.configuration_epoch ≤ epoch_at t.replacement phase
  epoch-later = go (eqb t.replacement.phase uniform) (eqb phase uniform) refl refl o.operation.epoch
    where
      raise : t.configuration_epoch ≡ t.replacement.predecessor.epoch → t.configuration_epoch ≤ t.replacement.successor.epoch
      raise e = omega (arith, o.operation.head.next)

      go : (a b : Bool) → eqb t.replacement.phase uniform ≡ a → eqb phase uniform ≡ b
          → t.configuration_epoch ≡ cond a t.replacement.successor.epoch t.replacement.predecessor.epoch
          → t.configuration_epoch ≤ cond b t.replacement.successor.epoch t.replacement.predecessor.epoch
      go true true h k e = omega arith
      go true false h k e = absurd (let m = eqb-true t.replacement.phase uniform h in eqb-false phase uniform k (omega arith))
      go false true h k e = raise e
      go false false h k e = omega arith

  epoch-fits-at : is_configuration_epoch (epoch_at t.replacement phase) ≡ true
  epoch-fits-at = by-test (λ (e : ℕ). is_configuration_epoch e ≡ true) (eqb phase uniform) (λ h. epoch-fits _ o.parts.successor) (λ h. epoch-fits _ o.parts.predecessor)

  abbrev moved : VoterSlotRecord
  moved = in_phase (target_slot t) (target_phase phase)

  moved-fits : representable_slot_record moved ≡ true
  moved-fits =
      let k = says (slot_is (target_slot t)) (slot-fits t o.fits (target_index t) o.below) in
      passes (slot_is moved) (k.0, (phase-held phase, k.1.1))

  module _ (e : VoterReplacementEvidence) (prepare : e.prepare ≡ t.replacement.evidence.prepare) (fits : representable_evidence e ≡ true) where
    step_fits : representable (stepped t phase e) ≡ true
    step_fits =
        placed-fits t o.fits (target_index t) o.below moved (t.revision + 1) (epoch_at t.replacement phase) true (operation_with t.replacement phase e) epoch-fits-at moved-fits
        (replacement-joined (operation_with t.replacement phase e)
        (record { attestation = o.parts.attestation; predecessor = o.parts.predecessor; successor = o.parts.successor; phase = most; evidence = fits }))

    later-slot : (active : Bool) (s : VoterSlotRecord) → SlotHolds t.revision t.configuration_epoch active s
        → SlotHolds (t.revision + 1) (epoch_at t.replacement phase) active s
    later-slot active s = slot-later t.revision t.configuration_epoch (t.revision + 1) (epoch_at t.replacement phase) active s (omega arith) epoch-later

    step-slots : SlotsHold (stepped t phase e)
    step-slots =
        placed-slots t o.fits (target_index t) o.below moved (t.revision + 1) (epoch_at t.replacement phase) true (operation_with t.replacement phase e) refl o.slots (omega arith)
        (subst (λ (b : Bool). SlotHolds (t.revision + 1) (epoch_at t.replacement phase) b moved) (sym (eq-eqb _ _ (sym o.named)))
        (later-slot true moved (slot-moved t.revision t.configuration_epoch (target_slot t) (target_phase phase) (target-slot t o))))
        (λ i l d.
        subst (λ (b : Bool). SlotHolds (t.revision + 1) (epoch_at t.replacement phase) b (slot_at t i)) (sym (other-idle t o i l d)) (later-slot false (slot_at t i) (other-slot t o i l d)))
        (λ i l d. distinct-two t o.slots (target_index t) i o.below l (λ k. d (sym k)))

    step-operation : valid_operation (stepped t phase e) (operation_with t.replacement phase e) ≡ valid_evidence e phase
    unfolding valid_operation is_current_epoch
    step-operation =
        let h = o.operation.head in
        let k : valid_operation_head (stepped t phase e) (operation_with t.replacement phase e) ≡ true =
        head-valid (stepped t phase e) (operation_with t.replacement phase e)
        (record {
          some = h.some;
          earlier = omega (arith, h.earlier);
          cluster = h.cluster;
          three = h.three;
          predecessor = h.predecessor;
          successor = h.successor;
          next = h.next;
        }) in
        rw (
          o.operation.attestation,
          o.operation.predecessor,
          o.operation.successor,
          k,
          eq-eqb (epoch_at t.replacement phase) (epoch_at t.replacement phase) refl,
        )
        (and-true (valid_evidence e phase))

    step-members : validate_members (stepped t phase e) t.count ≡ Accepted
    step-members =
        let op = t.replacement in
        members-all (stepped t phase e) t.count
        (at-used t o.fits (target_index t) o.below moved
        (λ i x. validate_member (claims_with (claims_of op) phase e.prepare) x (member_at op.predecessor i) (member_at op.successor i) ≡ Accepted) t.count
        (ap
        (λ (q : VoterSlotLogId).
        validate_member (claims_with (claims_of op) phase q) moved (member_at op.predecessor (target_index t)) (member_at op.successor (target_index t)))
        prepare
        ∙ (target-claims (claims_of op) phase (target_slot t) (member_at op.predecessor (target_index t)) (member_at op.successor (target_index t)) (eq-eqb _ _ o.named) (target-of t o).phase
        ∙ o.member (target_index t) o.below))
        (λ i l d.
        other-claims (claims_of op) phase (slot_at t i) (member_at op.predecessor i) (member_at op.successor i) e.prepare (ne_eqb _ _ (o.alone i l d))
        ∙ o.member i l))

    step-target : has_target (stepped t phase e) ≡ true
    step-target =
        some_below (λ i. not (eqb (slot_at (stepped t phase e) i).member.identity.slot t.replacement.attestation.slot)) t.count (target_index t) o.below
        (ap not (eq-eqb _ _
        (number-placed t o.fits (target_index t) o.below moved (t.revision + 1) (epoch_at t.replacement phase) true (operation_with t.replacement phase e) refl (target_index t) ∙ o.named)))

    step-valid : validity (stepped t phase e) ≡ require_of (valid_evidence e phase) Accepted
    unfolding validity validate_operation
    step-valid = rw (slots-valid (stepped t phase e) step-slots, step-operation, step-members, step-target)

    step-request :
        request_succeeds (operation_with t.replacement phase e) t.replacement ≡ retains e t.replacement.evidence t.replacement.phase
    unfolding request_succeeds
    step-request =
        let op = t.replacement in
        rw (
          eq-eqb op.expected_revision op.expected_revision refl,
          same_lost_voter_attestation_v1-refl op.attestation,
          same_voter_configuration-refl op.predecessor,
          same_voter_configuration-refl op.successor,
          le-leb op.phase phase later,
        )

    step-replacement :
        replacement_succeeds (stepped t phase e) t ≡ or_regression (retains e t.replacement.evidence t.replacement.phase) Accepted
    unfolding replacement_succeeds
    step-replacement =
        let id = t.replacement.attestation.request_id in
        cond-false (not t.has_replacement) _ _ (ap not o.open-now)
        ∙ (cond-true (eq_bytes id id) _ _ (eq_bytes-refl id) ∙ ap (λ (b : Bool). or_regression b Accepted) step-request)

    step-succession : succession (stepped t phase e) t ≡ or_regression (retains e t.replacement.evidence t.replacement.phase) Accepted
    step-succession =
        placed-succession t o.fits (target_index t) o.below moved (t.revision + 1) (epoch_at t.replacement phase) true (operation_with t.replacement phase e) refl (omega arith) epoch-later
        (slot-in-phase (target_slot t) (target_phase phase) (rw (target-of t o).phase (phase-rises t.replacement.phase phase later)))
        ∙ step-replacement

    pub stepped-exactly :
        is_accepted (validate_successor_of (stepped t phase e) t) ≡ (valid_evidence e phase && retains e t.replacement.evidence t.replacement.phase)
    stepped-exactly =
        let kept = retains e t.replacement.evidence t.replacement.phase in
        ap is_accepted (check-is (stepped t phase e) t step_fits o.fits o.valid ∙ ap₂ first_refusal step-valid step-succession)
        ∙ accepted-both (valid_evidence e phase) kept
