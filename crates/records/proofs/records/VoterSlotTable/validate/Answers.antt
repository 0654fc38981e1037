-- `records::records::VoterSlotTable::validate` meets its contract: the slots in use are those of the table. Assumes nothing.
use Rattle.std.proofs.Common.{◌≤◌, ◌∙◌, eqb, arith}
use Rattle.std.proofs.lemmas.Grind.{common_steps}
use Rattle.records.specs.Records.{no_slot_record, voting}
use Rattle.records.specs.RecordsLaws.{front-all}
use Rattle.records.specs.Validation.{validity}
use Rattle.records.proofs.InUse.{slots_few}
use Rattle.records.proofs.records.VoterSlotTable.validate.Goals as goal

pub returns-then-not-self : goal.returns-then-not-self
unfolding validity
returns-then-not-self c =
    let t = c.args.self.now in
    let u = c.slots_in_use in
    let h : t.count ≤ 9 = grind (arith, common_steps, slots_few) in
    let idle = c.all_voting.ensures ∙ front-all no_slot_record t.slots u.result.now t.count u.ensures.slots (u.ensures.count h) (λ s. eqb s.phase voting) in
    grind (arith, common_steps, idle)
