-- `control::begin::judge_known_request` meets its contract: by the digest of the open request, or else of the receipt that was found.
-- Assumes nothing.
use mathlib.Core.Path.{◌≡◌, ap, sym, ◌∙◌}
use mathlib.Core.Bool.{Bool, cond}
use Rattle.std.specs.Option.{option_or}
use Rattle.std.specs.Prelude.{Option, Some, None, true, false}
use Rattle.records.proofs.Held.{held-voter-slot-table}
use Rattle.records.specs.Equality.{eq_bytes}
use Rattle.identity.specs.Answer.{IdempotencyConflict}
use Rattle.control.specs.BeginJudgeLaws.{known-judged, known_by}
use Rattle.control.specs.Control.{is_known, known_digest}
use Rattle.control.specs.Judgement.Verdict.{refused}
use Rattle.control.specs.Verdicts.{verdict_of}
use Rattle.control.proofs.begin.judge_known_request.Goals as goal
use Rattle.control.proofs.begin.judge_known_request.Goals.{After-or}

judged : (c : After-or) (y : Option Bool) → c.or.result ≡ y
    → known_by (verdict_of c.args.again) (refused IdempotencyConflict) (verdict_of c.args.fresh) y
    ≡ cond (is_known c.args.table c.args.request.attestation.request_id)
    (cond (eq_bytes (known_digest c.args.table c.args.request.attestation.request_id) c.args.request.attestation.request_digest) (verdict_of c.args.again) (refused IdempotencyConflict))
    (verdict_of c.args.fresh)
judged c y is =
    let t = c.args.table in
    let a = c.args.request.attestation in
    let nine = (held-voter-slot-table t _ c.well_formed.0).slots.count in
    let e = ap (λ (x : Option Bool). option_or x c.find_receipt-receipt.result) (sym c.then_some.ensures) ∙ (sym c.or.ensures ∙ is) in
    known-judged t nine a.request_id a.request_digest _ _ _ _ _ _ c.eq-same_id.ensures c.eq-own.ensures c.find_receipt-receipt.ensures y e

pub returns-in-None : goal.returns-in-None
returns-in-None c = judged c.before None c.in-None.is

pub returns-in-Some-true : goal.returns-in-Some-true
returns-in-Some-true c = judged c.before (Some true) (c.in-Some-true.is ∙ ap Some c.in-Some-true.field-0-test)

pub returns-in-Some-false : goal.returns-in-Some-false
returns-in-Some-false c = judged c.before (Some false) (c.in-Some-false.is ∙ ap Some c.in-Some-false.field-0-test)
