-- `control::request::find_receipt` meets its contract: what was found is at the first of the places passed. Assumes nothing.
use mathlib.Core.Path.{ap, ◌∙◌}
use native.Mathlib.Omega.{arith}
use Rattle.std.specs.Option.{option_or}
use Rattle.std.specs.Prelude.{Bool, Option, Some, None}
use Rattle.control.specs.Control.{receipt_index}
use Rattle.control.specs.BeginJudge.{has_digest, has_receipt}
use Rattle.control.specs.BeginJudgeLaws.{picked-by, place_none, read-turn, read-end}
use Rattle.control.proofs.request.find_receipt.Goals as goal

pub loop-i-init : goal.loop-i-init
loop-i-init c = place_none c.args.table (has_receipt c.args.id) (λ s. Some (has_digest c.args.digest s)) None

pub loop-i-preserved : goal.loop-i-preserved
loop-i-preserved c =
    let own = Some c.has_digest-own.result in
    c.or-found.ensures
    ∙ (ap (λ (x : Option Bool). option_or x c.loop-i.found) c.then_some.ensures
    ∙ (picked-by _ c.has_digest-own.result c.loop-i.found
    ∙ read-turn c.args.table (has_receipt c.args.id) (λ s. Some (has_digest c.args.digest s)) None c.loop-i.i _ own c.loop-i.found (omega arith) (omega arith) c.has_receipt-held.ensures (ap Some c.has_digest-own.ensures) c.loop-i.invariant))

pub returns : goal.returns
unfolding receipt_index
returns c = c.loop-i.invariant ∙ read-end c.args.table (has_receipt c.args.id) (λ s. Some (has_digest c.args.digest s)) None c.loop-i.i (omega arith)
