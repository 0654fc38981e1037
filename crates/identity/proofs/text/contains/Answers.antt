-- `identity::text::contains` meets its contract: the answer so far is that of the elements passed. Assumes nothing.
use Rattle.std.proofs.Common.{◌<◌, Bool, ◌||◌, eqb, length, get_or, sym, ap, ◌∙◌, arith}
use Rattle.identity.specs.TextLaws.{in-more}
use Rattle.identity.proofs.text.contains.Goals as goal

pub loop-one-preserved : goal.loop-one-preserved
loop-one-preserved c =
    let i = c.loop-one.one-index in
    let list = c.args.list.now in
    let h : i < length list = omega arith in
    ap (λ (t : Bool). t || eqb (get_or list i 0) c.args.code) c.loop-one.invariant ∙ sym (in-more list c.args.code i h)
