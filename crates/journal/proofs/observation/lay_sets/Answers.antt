-- `journal::observation::lay_sets` meets its contract. Assumes nothing.
use Rattle.std.proofs.Common.{arith, rules, length-set, ◌∙◌}
use Rattle.journal.specs.SetBodyLaws.{sets_more, sets_refused}
use Rattle.journal.proofs.observation.lay_sets.Goals as goal

pub returns-in_err-count : goal.returns-in_err-count
returns-in_err-count c =
    let e = sets_refused _ _ _ _ c.lay_set.new.input.bytes.now _ _ c.loop-i.invariant.0 _ c.args.sets (omega arith) c.in_err-count.ensures.is in
    (search rules, search (rules, e))

pub loop-i-preserved : goal.loop-i-preserved
loop-i-preserved c =
    let l = c.loop-i in
    let s = c.in_ok-count.ensures in (
      sets_more _ _ _ _ _ _ _ l.invariant.0 _ _ s (omega (arith, c.requires, l.invariant, l.invariant.0.few, s.few)) (omega (arith, c.requires, l.invariant)),
      (search rules, length-set l.counts l.i c.in_ok-count.count ∙ l.invariant.1.1),
    )
