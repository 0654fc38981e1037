-- When a Begin is accepted: where no request is open, always; superseding one, exactly where the
-- cut follows its latest evidence.
-- Laws for the layers above; what is right is said in Control.
-- Assumes nothing.
use Rattle.std.specs.Prelude.{ℕ, ◌+◌, ◌<◌, ◌≤◌, ◌≡◌, Bool, true, false, ◌&&◌, ◌||◌, eqb, ltb}
use Rattle.std.proofs.Math.Path.{refl, ap}
use Rattle.std.proofs.Common.{sym, ◌∙◌, le_refl, arith}
use Rattle.std.proofs.Math.Bool.{cond, not}
use borrow.Author.Tests.{eq-eqb, ne_eqb, lt-ltb}
use Rattle.identity.specs.Answer.{is_accepted, Answer, Accepted, InvalidTransition, IncarnationExhausted}
use Rattle.identity.specs.Identity.{max_voter_incarnation}
use Rattle.records.specs.declared.records.VoterSlotLogId.{VoterSlotLogId}
use Rattle.records.specs.declared.records.VoterSlotRecord.{VoterSlotRecord}
use Rattle.records.specs.declared.records.VoterSlotTable.{VoterSlotTable}
use Rattle.records.specs.Equality.{eq_bytes}
use Rattle.records.specs.EqualityLaws.{eq_bytes-refl}
use Rattle.records.specs.Evidence.{valid_log_id, follows, latest}
use Rattle.records.specs.Records.{pending, superseded, slot_at}
use Rattle.records.specs.Successor.{result_succeeds, slot_succeeds, slot_index, own_receipt, request_ended, or_regression, ended_succeeds, replacement_succeeds, succession, first_refusal, validate_successor_of}
use Rattle.records.specs.ValidationLaws.{is-accepted}
use Rattle.records.specs.Validation.{validate}
use Rattle.records.specs.ValidParts.{valid-joined, valid-parts}
use Rattle.records.specs.With.{slot_with}
use Rattle.records.specs.TestLaws.{and_both, then-passes, left_or, cond-true, cond-false, other-bytes, first-same}
use Rattle.records.specs.SuccessorParts.{result-same, result-later, slot_next, only-second, check-is, accepted-where}
use Rattle.records.specs.PlaceLaws.{at_place, placed-succession}
use Rattle.control.specs.declared.control.VoterReplacementRequest.{VoterReplacementRequest}
use Rattle.control.specs.Control.{representable_request, receipt_of, is_known, named_index, named_slot, begin_check, begun_slot, begun_operation, begun, repeated, begin, refuse, change, settle}
use Rattle.control.specs.BeginCheckLaws.{starts, fresh-open, superseding_slot, idle_slot, begun-cases}
use Rattle.control.specs.BegunLaws.{Given, slots, same_number, number, was-target, begun-valid, begun-held}

module _ (t : VoterSlotTable) (r : VoterReplacementRequest) (cut : VoterSlotLogId) (g : Given t r cut) where
  -- the receipt that a supersession leaves is later than the one before it
  superseding-receipt : t.has_replacement ≡ true → (named_slot t r).has_last_result ≡ true
      → result_succeeds (receipt_of t (named_slot t r) superseded cut) (named_slot t r).last_result ≡ true
  superseding-receipt e a =
      let k = ((slots t r cut g).each (named_index t r) g.starts.index).receipt a in
      let b = k.earlier (and_both _ _ e (eq-eqb _ _ ((g.starts.supersedes e).slot ∙ sym g.starts.named))) in
      result-later (receipt_of t (named_slot t r) superseded cut) (named_slot t r).last_result (omega (arith, k.revision)) b k.epoch

  begun-next : slot_succeeds (begun_slot t r cut) (named_slot t r) ≡ true
  begun-next =
      begun-cases t r cut g.starts (λ s c. slot_succeeds s (named_slot t r) ≡ true)
      (λ e. slot_next (superseding_slot t r cut) (named_slot t r) same retired later g.starts.generation (λ a. and_both _ _ refl (superseding-receipt e a)))
      (λ e. slot_next (idle_slot t r) (named_slot t r) same retired later g.starts.generation (λ a. and_both _ _ a (result-same (named_slot t r).last_result)))
    where
      same : r.candidate.identity.slot ≡ (named_slot t r).member.identity.slot
      same = g.starts.slot ∙ sym g.starts.named

      retired : (named_slot t r).retired_through ≤ r.attestation.expected_incarnation
      retired = let o = ((slots t r cut g).each (named_index t r) g.starts.index).retired in omega (arith, g.starts.expected)

      later : (named_slot t r).member.identity.incarnation < r.candidate.identity.incarnation
      later = omega (arith, g.starts.expected, g.starts.next)

  now-succession : succession (begun t r cut) t ≡ replacement_succeeds (begun t r cut) t
  now-succession =
      placed-succession t g.held (named_index t r) g.starts.index (begun_slot t r cut) (t.revision + 1) t.configuration_epoch true (begun_operation t r cut) (same_number t r cut g)
      (omega arith) (le_refl _) begun-next

  now-index : t.has_replacement ≡ true → slot_index (begun t r cut) t.replacement.attestation.slot ≡ named_index t r
  now-index e =
      first-same (λ i. eqb (slot_at (begun t r cut) i).member.identity.slot t.replacement.attestation.slot) (λ i. eqb (slot_at t i).member.identity.slot r.attestation.slot) t.count 0
      (λ j l. λ k. eqb (number t r cut g j k) ((g.starts.supersedes e).slot k))

  now-superseding : t.has_replacement ≡ true → slot_at (begun t r cut) (named_index t r) ≡ superseding_slot t r cut
  unfolding begun_slot
  now-superseding e =
      at_place t g.held (named_index t r) g.starts.index (begun_slot t r cut)
      ∙ (λ k. slot_with r.candidate r.attestation.expected_incarnation pending (e k || (named_slot t r).has_last_result) (cond (e k) (receipt_of t (named_slot t r) superseded cut) (named_slot t r).last_result))

  -- the request that was open has ended, where the cut follows its evidence
  now-ended : (e : t.has_replacement ≡ true)
      → request_ended t.configuration_epoch t.replacement (receipt_of t (named_slot t r) superseded cut) ≡ follows cut (latest t.replacement.evidence) false
  unfolding request_ended own_receipt
  now-ended e =
      let n = (was-target t r cut g e).next in
      let op = t.replacement in
      let l = lt-ltb _ _ (g.starts.supersedes e).phase in
      only-second (ltb op.attestation.expected_incarnation (named_slot t r).member.identity.incarnation) _ _ _
      (lt-ltb op.attestation.expected_incarnation (named_slot t r).member.identity.incarnation (omega arith))
      (left_or _ _ l)
      (then-passes (eqb (op.attestation.expected_incarnation + 1) (named_slot t r).member.identity.incarnation) _
      (λ k. and_both _ _ (eq_bytes-refl op.attestation.request_id) (and_both _ _ (eq_bytes-refl op.attestation.request_digest) l)))

  ended : t.has_replacement ≡ true → ended_succeeds (begun t r cut) t.replacement ≡ or_regression (follows cut (latest t.replacement.evidence) false) Accepted
  unfolding ended_succeeds
  ended e =
      let op = t.replacement in
      let n = (was-target t r cut g e).more in
      let new = begun t r cut in
      ap (λ (i : ℕ). or_regression (ltb i t.count) (cond (eqb op.attestation.expected_incarnation max_voter_incarnation) IncarnationExhausted
      (or_regression ((slot_at new i).has_last_result && request_ended t.configuration_epoch op (slot_at new i).last_result) Accepted))) (now-index e)
      ∙ (cond-true (ltb (named_index t r) t.count) _ _ (lt-ltb _ _ g.starts.index)
      ∙ (cond-false (eqb op.attestation.expected_incarnation max_voter_incarnation) _ _ (ne_eqb _ _ n)
      ∙ (ap (λ (s : VoterSlotRecord). or_regression (s.has_last_result && request_ended t.configuration_epoch op s.last_result) Accepted) (now-superseding e)
      ∙ ap (λ (b : Bool). or_regression b Accepted) (now-ended e))))

  now-replacement : (t.has_replacement ≡ true) → replacement_succeeds (begun t r cut) t ≡ or_regression (follows cut (latest t.replacement.evidence) false) Accepted
  unfolding replacement_succeeds begun_operation
  now-replacement e =
      cond-false (not t.has_replacement) _ _ (ap not e)
      ∙ (cond-false (eq_bytes r.attestation.request_id t.replacement.attestation.request_id) _ _
      (other-bytes _ _ (λ k. fresh-open t r.attestation.request_id g.fresh e (sym k)))
      ∙ ended e)

  now-idle : (t.has_replacement ≡ false) → replacement_succeeds (begun t r cut) t ≡ Accepted
  unfolding replacement_succeeds
  now-idle e = cond-true (not t.has_replacement) _ _ (ap not e)

  begun-replacement : replacement_succeeds (begun t r cut) t ≡ or_regression (not t.has_replacement || follows cut (latest t.replacement.evidence) false) Accepted
  begun-replacement = go t.has_replacement refl
    where
      go : (b : Bool) → t.has_replacement ≡ b
          → replacement_succeeds (begun t r cut) t ≡ or_regression (not b || follows cut (latest t.replacement.evidence) false) Accepted
      go true e = now-replacement e
      go false e = now-idle e

  pub begun-answer : validate_successor_of (begun t r cut) t ≡ or_regression (not t.has_replacement || follows cut (latest t.replacement.evidence) false) Accepted
  begun-answer =
      check-is (begun t r cut) t (begun-held t r cut g) g.held g.valid
      ∙ (ap (λ (a : Answer). first_refusal a (succession (begun t r cut) t)) (begun-valid t r cut g) ∙ (now-succession ∙ begun-replacement))

-- ---- the law

module _ (t : VoterSlotTable) (r : VoterReplacementRequest) (cut : VoterSlotLogId) (valid : validate t ≡ Accepted) (request : representable_request r ≡ true)
    (numbered : valid_log_id cut ≡ true) (fresh : is_known t r.attestation.request_id ≡ false) (check : begin_check t r cut ≡ Accepted) where
  given : Given t r cut
  given =
      let v = valid-parts t valid in
      record { held = v.0; valid = v.1; request = request; numbered = numbered; fresh = fresh; starts = starts t r cut check }

  -- A Begin that passed its tests makes a valid table.
  pub begin-valid : validate (begun t r cut) ≡ Accepted
  begin-valid = valid-joined (begun t r cut) (begun-held t r cut given) (begun-valid t r cut given)

  -- The successor check passes exactly where no request was open, or the cut follows the latest
  -- evidence of the one that was; else 7.
  pub begin-answer :
      validate_successor_of (begun t r cut) t ≡ or_regression (not t.has_replacement || follows cut (latest t.replacement.evidence) false) Accepted
  begin-answer = begun-answer t r cut given

  pub begin-exact :
      is_accepted (validate_successor_of (begun t r cut) t) ≡ (not t.has_replacement || follows cut (latest t.replacement.evidence) false)
  begin-exact = ap is_accepted begin-answer ∙ accepted-where (not t.has_replacement || follows cut (latest t.replacement.evidence) false)

-- A Begin settled without the successor check: by what is known of its id, by its tests, and by the
-- cut and the latest evidence.
module _ (t : VoterSlotTable) (r : VoterReplacementRequest) (cut : VoterSlotLogId) (valid : validate t ≡ Accepted) (request : representable_request r ≡ true)
    (numbered : valid_log_id cut ≡ true) where
  pub begin-settles :
      settle t (begin t r cut)
      ≡ cond (is_known t r.attestation.request_id) (settle t (repeated t r))
      (cond (is_accepted (begin_check t r cut))
      (cond (not t.has_replacement || follows cut (latest t.replacement.evidence) false) (Accepted, begun t r cut) (InvalidTransition, t))
      (begin_check t r cut, t))
  unfolding begin settle
  begin-settles = by (is_known t r.attestation.request_id) (is_accepted (begin_check t r cut)) refl refl
    where
      ended : Answer × VoterSlotTable
      ended = cond (not t.has_replacement || follows cut (latest t.replacement.evidence) false) (Accepted, begun t r cut) (InvalidTransition, t)

      by : (k a : Bool) → is_known t r.attestation.request_id ≡ k → is_accepted (begin_check t r cut) ≡ a
          → settle t (cond k (repeated t r) (cond a (change (begun t r cut)) (refuse (begin_check t r cut))))
          ≡ cond k (settle t (repeated t r)) (cond a ended (begin_check t r cut, t))
      by true a e f = refl
      by false true e f =
          ap (λ (b : Bool). cond b (Accepted, begun t r cut) (InvalidTransition, t))
          (begin-exact t r cut valid request numbered e (is-accepted (begin_check t r cut) f))
      by false false e f = refl
