-- `records::validation::results_distinct` meets its contract: a slot without a receipt changes nothing. Assumes nothing.
use Rattle.std.proofs.Common.{◌∙◌, refl, sym, true, arith, length-take}
use Rattle.std.proofs.Math.Bool.{and-true}
use Rattle.records.specs.Records.{no_slot_record, slot_in}
use Rattle.records.specs.RecordsLaws.{all_below-turn, front-all}
use Rattle.records.specs.Validation.{distinct_results}
use Rattle.records.specs.ValidationLaws.{distinct_without}
use Rattle.records.specs.declared.records.VoterSlotRecord.{VoterSlotRecord}
use Rattle.records.proofs.validation.results_distinct.Goals as goal
use Rattle.records.proofs.validation.results_distinct.Goals.{then-slot, else-slot}

pub loop-i-preserved : goal.loop-i-preserved
loop-i-preserved c =
    let slots = c.args.slots.now in
    let i = c.loop-i.i in
    elim c.if-slot.branch [
      | then-slot w ↦ w.all-is ∙ all_below-turn _ i _ _ c.loop-i.invariant (w.is_distinct_from-all.ensures ∙ front-all no_slot_record slots _ i refl (omega (arith, length-take {A = VoterSlotRecord})) (λ s. distinct_results s (slot_in slots i)))
      | else-slot w ↦ w.all-is ∙ (sym (and-true _) ∙ all_below-turn _ i _ true c.loop-i.invariant (sym (distinct_without slots i w.if-slot.false)))
    ]
