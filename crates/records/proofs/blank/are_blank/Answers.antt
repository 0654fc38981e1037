-- `records::blank::are_blank` meets its contract: the answer so far is that of the values passed. Assumes nothing.
use Rattle.std.proofs.Common.{refl, ap, ◌∙◌, arith}
use Rattle.records.specs.ZeroLaws.{blank-more}
use Rattle.records.proofs.blank.are_blank.Goals as goal

pub loop-value-preserved : goal.loop-value-preserved
loop-value-preserved g c =
    let b = g.T.Blank in
    blank-more b.same b.blank _ c.args.values.now _ c.loop-value.value-index _ _ refl (omega (arith, c.loop-value-test.true)) c.loop-value.invariant (c.is_blank-all.ensures ∙ ap (λ x. b.same x b.blank) c.value-item.is)
