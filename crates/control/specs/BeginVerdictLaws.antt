-- What the verdict on a Begin tells: what its maker asks for, and the answer and the table by the
-- number of the verdict, by which no code goes.
-- Laws for proofs of code; what is right is said in Control and Judgement.
-- Assumes nothing.
use Rattle.std.specs.Prelude.{◌<◌, ◌≤◌, ◌≡◌, Bool, true, false, cond}
use Rattle.std.proofs.Math.Path.{refl}
use Rattle.std.proofs.lemmas.Bool.{false≢true}
use Rattle.std.proofs.Common.{arith}
use Rattle.identity.specs.Answer.{is_accepted, Accepted, IdempotencyConflict, InvalidTransition}
use Rattle.records.specs.declared.records.VoterSlotLogId.{VoterSlotLogId}
use Rattle.records.specs.declared.records.VoterSlotTable.{VoterSlotTable}
use Rattle.records.specs.Equality.{eq_bytes}
use Rattle.records.specs.RepresentableLaws.{representable-count}
use Rattle.records.specs.ValidParts.{valid-parts}
use Rattle.records.specs.Validation.{validate}
use Rattle.records.specs.ValidationLaws.{is-accepted}
use Rattle.control.specs.declared.begin.VoterBegin.{VoterBegin}
use Rattle.control.specs.declared.control.VoterReplacementRequest.{VoterReplacementRequest}
use Rattle.control.specs.declared.control.VoterSlotControl.{VoterSlotControl}
use Rattle.control.specs.Control.{begin_check, current_configuration, full, is_known, known_digest, named_index, request_check}
use Rattle.control.specs.Judgement.{Move, Verdict, begin_test, carried, judge_begin, judge_repeated, made}
use Rattle.control.specs.Judgement.Verdict.{refused, kept, moves}
use Rattle.control.specs.Judgement.Move.{begins, records_snapshot, records_caught_up, continues, fences, finalizes}
use Rattle.control.specs.Verdicts.{answer_of, begin_in, paired, route_of}
use Rattle.control.specs.VerdictLaws.{is_move, routed-to}
use Rattle.control.specs.BeginCheckLaws.{starts}
use Rattle.control.specs.BeginJudge.{begin_made, begin_outcome}

-- the number of a verdict that makes a table
pub begin-told : (v : Verdict Move) → route_of v ≡ 6 → v ≡ moves begins
begin-told v e = routed-to v begins e (λ z. absurd (omega arith))

module _ (t : VoterSlotTable) (b : VoterBegin) where
  -- where a table is made, the tests were passed
  pub begin-passed : is_move (judge_begin t b.request b.cut) ≡ true → begin_check t b.request b.cut ≡ Accepted
  unfolding judge_begin judge_repeated
  begin-passed h =
      go (is_known t r.attestation.request_id) (eq_bytes (known_digest t r.attestation.request_id) r.attestation.request_digest) (is_accepted (request_check r))
      (is_accepted (begin_check t r b.cut)) refl h
    where
      r : VoterReplacementRequest
      r = b.request

      go : (k s q a : Bool) → is_accepted (begin_check t r b.cut) ≡ a
          → is_move (cond k (cond s (cond q kept (refused (request_check r))) (refused IdempotencyConflict))
          (cond a (cond (begin_test t b.cut) (moves begins) (refused InvalidTransition)) (refused (begin_check t r b.cut)))) ≡ true
          → begin_check t r b.cut ≡ Accepted
      go true true true a e h = absurd (false≢true h)
      go true true false a e h = absurd (false≢true h)
      go true false q a e h = absurd (false≢true h)
      go false s q true e h = is-accepted _ e
      go false s q false e h = absurd (false≢true h)

  -- so there is room for the next epoch and revision, and the named slot is there
  pub begin-room : validate t ≡ Accepted → is_move (judge_begin t b.request b.cut) ≡ true
      → (t.revision ≡ full → ⊥) × (((current_configuration t).epoch ≡ full → ⊥) × ((t.count ≤ 9) × (named_index t b.request < t.count)))
  begin-room valid h =
      let s = starts t b.request b.cut (begin-passed h) in
      (s.revision-room, (s.epoch-room, (representable-count t (valid-parts t valid).0, s.index)))

  -- by any other number the table is kept
  pub begin-kept : (v : Verdict Move) → (route_of v ≡ 6 → ⊥) → paired (answer_of v) t ≡ carried (begin_made t b) t v
  unfolding carried begin_made
  begin-kept (refused answer) n = refl
  begin-kept kept n = refl
  begin-kept (moves begins) n = absurd (n refl)
  begin-kept (moves records_snapshot) n = refl
  begin-kept (moves records_caught_up) n = refl
  begin-kept (moves continues) n = refl
  begin-kept (moves fences) n = refl
  begin-kept (moves finalizes) n = refl

-- what a Begin of a command makes is that
pub begin-made : (t : VoterSlotTable) (c : VoterSlotControl) (cut : VoterSlotLogId)
    → carried (made t c cut) t (judge_begin t c.request cut) ≡ begin_outcome t (begin_in c cut)
unfolding judge_begin judge_repeated carried made begin_made
begin-made t c cut =
    go (is_known t r.attestation.request_id) (eq_bytes (known_digest t r.attestation.request_id) r.attestation.request_digest) (is_accepted (request_check r))
    (is_accepted (begin_check t r cut)) (begin_test t cut)
  where
    r : VoterReplacementRequest
    r = c.request

    verdict : (k s q a d : Bool) → Verdict Move
    verdict k s q a d =
        cond k (cond s (cond q kept (refused (request_check r))) (refused IdempotencyConflict))
        (cond a (cond d (moves begins) (refused InvalidTransition)) (refused (begin_check t r cut)))

    go : (k s q a d : Bool) → carried (made t c cut) t (verdict k s q a d) ≡ carried (begin_made t (begin_in c cut)) t (verdict k s q a d)
    go true true true a d = refl
    go true true false a d = refl
    go true false q a d = refl
    go false s q true true = refl
    go false s q true false = refl
    go false s q false d = refl
