-- What the calls of each kind are to a command of any kind; and, where the caller has made the
-- tests of the entry point, to `apply_control`.
-- Laws for the proofs of code, and for callers of the thin calls by kind; what is right is said in
-- Control.
-- Assumes nothing.
use Rattle.std.specs.Prelude.{ℕ, ◌≡◌, Bool, cond, ◌&&◌, eqb}
use Rattle.std.proofs.Math.Path.{refl, sym, ap, ap₂}
use Rattle.std.proofs.Common.{◌∙◌, ne_eqb}
use Rattle.std.proofs.Math.Bool.{false, true}
use Rattle.identity.specs.Answer.{is_accepted, Answer, Accepted, InvalidTransition}
use Rattle.records.specs.declared.records.VoterSlotLogId.{VoterSlotLogId}
use Rattle.records.specs.declared.records.VoterSlotTable.{VoterSlotTable}
use Rattle.records.specs.Equality.{eq_bytes}
use Rattle.records.specs.Evidence.{valid_log_id}
use Rattle.records.specs.Validation.{validate}
use Rattle.records.specs.ValidParts.{valid-parts}
use Rattle.control.specs.declared.control.VoterSlotControl.{VoterSlotControl}
use Rattle.control.specs.Control.{advance_kind, apply_control, begin_kind, is_catching_up, is_open_request, representable_control}
use Rattle.control.specs.Judgement.{carried, judge, judge_begin, judge_marker, made}
use Rattle.control.specs.Judgement.Verdict.{kept, refused}
use Rattle.control.specs.Verdicts.{advance_in, advance_outcome, answer_of, applied_of, begin_in, checked_of, judge_of, paired}
use Rattle.control.specs.VerdictLaws.{advance-made, entry-passed}
use Rattle.control.specs.BeginJudge.{begin_outcome}
use Rattle.control.specs.BeginVerdictLaws.{begin-made}

module _ (t : VoterSlotTable) (c : VoterSlotControl) (cut : VoterSlotLogId) where
  -- the command with these answers to whether it is a Begin, and whether it is an Advance
  abbrev by_kind : Bool → Bool → Answer × VoterSlotTable
  by_kind begins advances =
      carried (made t c cut) t
      (cond begins (judge_begin t c.request cut) (cond advances (judge_of t (advance_in c cut)) (judge_marker t c.request_id c.request_digest)))

  pub applied-begin : c.kind ≡ begin_kind → begin_outcome t (begin_in c cut) ≡ applied_of t c cut
  unfolding judge
  applied-begin k = sym (begin-made t c cut) ∙ ap (λ (n : ℕ). by_kind (eqb n begin_kind) (eqb n advance_kind)) (sym k)

  pub applied-advance : c.kind ≡ advance_kind → advance_outcome t (advance_in c cut) ≡ applied_of t c cut
  unfolding judge
  applied-advance k = sym (advance-made t c cut) ∙ ap (λ (n : ℕ). by_kind (eqb n begin_kind) (eqb n advance_kind)) (sym k)

  pub applied-marker : (c.kind ≡ begin_kind → ⊥) → (c.kind ≡ advance_kind → ⊥)
      → paired (answer_of (judge_marker t c.request_id c.request_digest)) t ≡ applied_of t c cut
  unfolding judge judge_marker carried
  applied-marker n m =
      marker-carried (is_open_request t c.request_id && eq_bytes t.replacement.attestation.request_digest c.request_digest && is_catching_up t.replacement.phase)
      ∙ ap₂ by_kind (sym (ne_eqb _ _ n)) (sym (ne_eqb _ _ m))
    where
      marker-carried : (b : Bool) → paired (answer_of (cond b kept (refused InvalidTransition))) t ≡ carried (made t c cut) t (cond b kept (refused InvalidTransition))
      marker-carried true = refl
      marker-carried false = refl

-- ---- What the calls on a valid table do not test, their caller has tested: the cut has no zero,
-- and the command passes the representability check. Then each call is `apply_control` of the
-- command.

module _
    (t : VoterSlotTable)
    (c : VoterSlotControl)
    (cut : VoterSlotLogId)
    (valid : validate t ≡ Accepted)
    (nonzero : valid_log_id cut ≡ true)
    (fits : representable_control c ≡ true)
  where
    tested : is_accepted (checked_of t c cut) ≡ true
    unfolding checked_of
    tested = rw ((valid-parts t valid).0, fits, (valid-parts t valid).1, nonzero)

    -- any command
    pub valid-applied : applied_of t c cut ≡ apply_control t c cut
    valid-applied = entry-passed t c cut tested

    pub valid-begin : c.kind ≡ begin_kind → begin_outcome t (begin_in c cut) ≡ apply_control t c cut
    valid-begin k = applied-begin t c cut k ∙ valid-applied

    pub valid-advance : c.kind ≡ advance_kind → advance_outcome t (advance_in c cut) ≡ apply_control t c cut
    valid-advance k = applied-advance t c cut k ∙ valid-applied
