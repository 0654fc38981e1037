-- `records::records::VoterSlotTable::are_valid_slots` meets its contract: the slots in use are those of the table. Assumes nothing.
use Rattle.std.proofs.Common.{◌≤◌, ◌∙◌, ltb, arith}
use Rattle.std.proofs.lemmas.Grind.{common_steps}
use Rattle.records.specs.Records.{no_slot_record}
use Rattle.records.specs.RecordsLaws.{front-all, front-sorted, front-before}
use Rattle.records.specs.Validation.{valid_slot, is_active, distinct_results, valid_slots}
use Rattle.records.specs.ValidationLaws.{count_small}
use Rattle.records.proofs.records.VoterSlotTable.are_valid_slots.Goals as goal

pub returns : goal.returns
unfolding valid_slots
returns c =
    let t = c.args.self.now in
    let u = c.slots_in_use-slots in
    let h : t.count ≤ 9 = grind (arith, common_steps, count_small) in
    let a = front-sorted no_slot_record t.slots u.result.now t.count u.ensures.slots (u.ensures.count h) (λ s r. ltb s.member.identity.slot r.member.identity.slot) _ c.slots_rise.ensures in
    let b = c.is_each_slot_valid.ensures ∙ front-all no_slot_record t.slots u.result.now t.count u.ensures.slots (u.ensures.count h) (λ s. valid_slot t.revision t.configuration_epoch (is_active t s) s) in
    let d = c.results_distinct.ensures ∙ front-before no_slot_record t.slots u.result.now t.count u.ensures.slots (u.ensures.count h) distinct_results in
    grind (arith, common_steps, a, b, d)
