-- When a Finalize of a valid table is accepted: its request is in the last phase, and the cut
-- follows the latest of the evidence.
-- Laws for SettleLaws; what is right is said in Control.
-- Assumes nothing.
use Prim.Native.Nat.{ℕ, ◌+◌}
use Rattle.std.proofs.Common.{ap₂, sym, ◌∙◌, le_refl, arith}
use Rattle.std.proofs.Math.Path.{refl, ap}
use Rattle.std.specs.Prelude.{◌≡◌, Bool, true, cond, ◌&&◌, ◌||◌, set, leb, ltb}
use Rattle.std.proofs.Math.Bool.{false, not, and-true, or-true}
use Rattle.std.proofs.lemmas.Bool.{false≢true}
use Rattle.std.proofs.Math.Dec.{eqb}
use borrow.Author.Tests.{eqb-true, le-leb, lt-ltb, ne_eqb, eq-eqb}
use Rattle.identity.specs.Answer.{is_accepted, Answer, Accepted, IncarnationExhausted, InvalidTransition}
use Rattle.identity.specs.Identity.{max_voter_incarnation}
use Rattle.records.specs.declared.records.VoterSlotLogId.{VoterSlotLogId}
use Rattle.records.specs.declared.records.VoterSlotRecord.{VoterSlotRecord}
use Rattle.records.specs.declared.records.VoterSlotTable.{VoterSlotTable}
use Rattle.records.specs.Blank.{blank_voter_replacement_record}
use Rattle.records.specs.EqualityLaws.{eq_bytes-refl, same_voter_replacement_record-refl}
use Rattle.records.specs.Evidence.{valid_log_id, follows, latest}
use Rattle.records.specs.Records.{voting, fenced, uniform, completed, first_from, slot_at}
use Rattle.records.specs.Representable.{representable_slot_record, representable}
use Rattle.records.specs.Successor.{slot_succeeds, own_receipt, request_ended, slot_index, or_regression, ended_succeeds, replacement_succeeds, succession, first_refusal, validate_successor_of}
use Rattle.records.specs.Validation.{target_phase, validity}
use Rattle.records.specs.TestLaws.{says, passes, cond-true, cond-false, decided}
use Rattle.records.specs.ValidParts.{SlotHolds, slot-later, SlotsHold, idle-valid}
use Rattle.records.specs.RepresentableParts.{member_is, result-is, slot_is, table_is, slot-fits, attested-some}
use Rattle.records.specs.SuccessorParts.{result-later, slot-stays, check-is, accepted-where}
use Rattle.records.specs.PlaceLaws.{at_place, at-used, placed-fits, number-placed, placed-slots, placed-succession}
use Rattle.records.specs.With.{table_with, slot_with}
use Rattle.records.specs.AddedLaws.{latest-uniform}
use Rattle.control.specs.OpenLaws.{Open, target-of, other-of, target-slot, other-slot}
use Rattle.control.specs.Control.{settle, receipt_of, target_index, target_slot, finalized_slot, finalized, finalize}
use Rattle.control.specs.Control.Decision.{change}
use Rattle.control.specs.AdvanceLaws.{valid-at}
use Rattle.control.specs.DecisionLaws.{settled, settle-cond}

-- the slot with its receipt, and the table
abbrev ended_slot : VoterSlotTable → VoterSlotLogId → VoterSlotRecord
ended_slot t cut = let s = target_slot t in slot_with s.member s.retired_through s.phase true (receipt_of t s completed cut)

abbrev ended_table : VoterSlotTable → VoterSlotLogId → VoterSlotTable
ended_table t cut =
    table_with t (t.revision + 1) t.configuration_epoch (set t.slots (target_index t) (ended_slot t cut)) false blank_voter_replacement_record

is-ended : (t : VoterSlotTable) (cut : VoterSlotLogId) → finalized t cut ≡ ended_table t cut
unfolding finalized_slot
is-ended t cut = refl

module _ (t : VoterSlotTable) (o : Open t) (cut : VoterSlotLogId) (nonzero : valid_log_id cut ≡ true) (last : t.replacement.phase ≡ uniform) where
  is-voting : (target_slot t).phase ≡ voting
  is-voting = (target-of t o).phase ∙ ap target_phase last

  epoch-now : t.configuration_epoch ≡ t.replacement.successor.epoch
  epoch-now = o.operation.epoch ∙ ap (λ (n : ℕ). cond (eqb n uniform) t.replacement.successor.epoch t.replacement.predecessor.epoch) last

  -- ---- the Rust types can hold it

  slot_held : representable_slot_record (ended_slot t cut) ≡ true
  slot_held =
      let s = says (slot_is (target_slot t)) (slot-fits t o.fits (target_index t) o.below) in
      passes (slot_is (ended_slot t cut)) (
        s.0,
        (s.1.0, passes (result-is (receipt_of t (target_slot t) completed cut)) ((says (member_is (target_slot t).member) s.0).1, ((says (table_is t) o.fits).0, refl))),
      )

  ended-fits : representable (ended_table t cut) ≡ true
  ended-fits =
      placed-fits t o.fits (target_index t) o.below (ended_slot t cut) (t.revision + 1) t.configuration_epoch false blank_voter_replacement_record (says (table_is t) o.fits).0 slot_held
      (same_voter_replacement_record-refl blank_voter_replacement_record)

  -- ---- it is valid

  ended-slot : SlotHolds (t.revision + 1) t.configuration_epoch false (ended_slot t cut)
  ended-slot =
      let old = target-slot t o in
      let mine = (target_slot t).member.identity.incarnation in
      let next = (target-of t o).next in
      let first = attested-some t.replacement o.parts in
      record {
        generation = old.generation;
        retired = old.retired;
        placed = ap (λ (b : Bool). leb mine 1 || (b && true)) (eq-eqb mine mine refl) ∙ or-true (leb mine 1);
        receipt = λ h.
            record {
              terminal = nonzero;
              some = omega arith;
              revision = le_refl _;
              epoch = le_refl _;
              later = omega arith;
              own = le_refl _;
              earlier = λ a. absurd (false≢true a);
              settled = λ a. ap (λ (b : Bool). b && true) (eq-eqb (target_slot t).phase voting is-voting);
            };
      }

  ended-slots : SlotsHold (ended_table t cut)
  ended-slots =
      placed-slots t o.fits (target_index t) o.below (ended_slot t cut) (t.revision + 1) t.configuration_epoch false blank_voter_replacement_record refl o.slots (omega arith) ended-slot
      (λ i l d.
      slot-later t.revision t.configuration_epoch (t.revision + 1) t.configuration_epoch false (slot_at t i) (omega arith) (le_refl _) (other-slot t o i l d))
      (λ i l d a b e. (other-of t o i l d).other b (sym e))

  ended-valid : validity (ended_table t cut) ≡ Accepted
  ended-valid =
      idle-valid (ended_table t cut) refl
      (record {
        slots = ended-slots;
        phase = at-used t o.fits (target_index t) o.below (ended_slot t cut) (λ i x. x.phase ≡ voting) t.count is-voting (λ i l d. (other-of t o i l d).phase);
      })

  -- ---- it may follow the old one

  -- its receipt is later than any that the slot has
  ended-slot-succeeds : slot_succeeds (ended_slot t cut) (target_slot t) ≡ true
  ended-slot-succeeds =
      slot-stays (target_slot t) (target_slot t).phase true (receipt_of t (target_slot t) completed cut) (le_refl _)
      (λ h.
      let k = (target-slot t o).receipt h in
      result-later (receipt_of t (target_slot t) completed cut) (target_slot t).last_result (omega (arith, k.revision)) (k.earlier refl) k.epoch)

  ended-request : request_ended t.configuration_epoch t.replacement (receipt_of t (target_slot t) completed cut) ≡ follows cut (latest t.replacement.evidence) false
  unfolding request_ended own_receipt
  ended-request =
      let op = t.replacement in
      let exp = op.attestation.expected_incarnation in
      let mine = (target-of t o).next in
      rw (
        lt-ltb exp (target_slot t).member.identity.incarnation (omega arith),
        le-leb op.successor.epoch t.configuration_epoch (let q = epoch-now in omega arith),
        eq_bytes-refl op.attestation.request_id,
        eq_bytes-refl op.attestation.request_digest,
        or-true (ltb op.phase fenced),
        or-true (not (eqb (exp + 1) (target_slot t).member.identity.incarnation)),
      )
      (and-true (follows cut (latest op.evidence) false))

  ended-replacement : replacement_succeeds (ended_table t cut) t ≡ or_regression (follows cut (latest t.replacement.evidence) false) Accepted
  unfolding replacement_succeeds ended_succeeds
  ended-replacement =
      let op = t.replacement in
      let exp = op.attestation.expected_incarnation in
      let judged : ℕ → VoterSlotRecord → Answer =
      λ i s.
      or_regression (ltb i t.count)
      (cond (eqb exp max_voter_incarnation) IncarnationExhausted
      (or_regression (s.has_last_result && request_ended t.configuration_epoch op s.last_result) Accepted)) in
      let place : slot_index (ended_table t cut) op.attestation.slot ≡ target_index t =
      λ z.
      first_from
      (λ i. eqb (number-placed t o.fits (target_index t) o.below (ended_slot t cut) (t.revision + 1) t.configuration_epoch false blank_voter_replacement_record refl i z) op.attestation.slot)
      t.count 0 in
      cond-false (not t.has_replacement) _ _ (ap not o.open-now)
      ∙ (ap (λ (i : ℕ). judged i (slot_at (ended_table t cut) i)) place
      ∙ (ap (judged (target_index t)) (at_place t o.fits (target_index t) o.below (ended_slot t cut))
      ∙ (cond-true (ltb (target_index t) t.count) _ _ (lt-ltb _ _ o.below)
      ∙ (cond-false (eqb exp max_voter_incarnation) _ _ (ne_eqb _ _ (target-of t o).more) ∙ ap (λ (b : Bool). or_regression b Accepted) ended-request))))

  ended-succession : succession (ended_table t cut) t ≡ or_regression (follows cut (latest t.replacement.evidence) false) Accepted
  ended-succession =
      placed-succession t o.fits (target_index t) o.below (ended_slot t cut) (t.revision + 1) t.configuration_epoch false blank_voter_replacement_record refl (omega arith) (le_refl _)
      ended-slot-succeeds
      ∙ ended-replacement

  pub finalized-exactly : is_accepted (validate_successor_of (finalized t cut) t) ≡ follows cut (latest t.replacement.evidence) false
  finalized-exactly =
      ap (λ (n : VoterSlotTable). is_accepted (validate_successor_of n t)) (is-ended t cut)
      ∙ (ap is_accepted (check-is (ended_table t cut) t ended-fits o.fits o.valid ∙ ap₂ first_refusal ended-valid ended-succession)
      ∙ accepted-where (follows cut (latest t.replacement.evidence) false))

-- the decision, settled: in the last phase the latest cut is the uniform one
pub settle-finalize : (t : VoterSlotTable) → Open t → (cut : VoterSlotLogId) → valid_log_id cut ≡ true
    → settle t (finalize t cut)
    ≡ cond (eqb t.replacement.phase uniform && follows cut t.replacement.evidence.uniform.cut false) (Accepted, finalized t cut) (InvalidTransition, t)
unfolding finalize settle
settle-finalize t o cut nonzero =
    let c = eqb t.replacement.phase uniform in
    let e = t.replacement.evidence in
    settle-cond t (c && ltb (target_index t) t.count) _ _
    ∙ (ap (λ (b : Bool). cond (c && b) (settle t (change (finalized t cut))) (InvalidTransition, t)) (lt-ltb (target_index t) t.count o.below)
    ∙ (ap (λ (b : Bool). cond b (settle t (change (finalized t cut))) (InvalidTransition, t)) (and-true c)
    ∙ decided c (follows cut e.uniform.cut false) (Accepted, finalized t cut) (InvalidTransition, t) _
    (λ h.
    let p = eqb-true t.replacement.phase uniform h in
    settled t (finalized t cut) _
    (finalized-exactly t o cut nonzero p ∙ ap (λ (q : VoterSlotLogId). follows cut q false) (latest-uniform e (valid-at t o uniform p))))))
