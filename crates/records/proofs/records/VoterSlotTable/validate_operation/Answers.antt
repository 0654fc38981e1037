-- `records::records::VoterSlotTable::validate_operation` meets its contract: the slots in use are those of the table. Assumes nothing.
use Rattle.std.proofs.Common.{◌≤◌, ◌∙◌, eqb, arith}
use Rattle.std.proofs.lemmas.Grind.{common_steps}
use Rattle.records.specs.Records.{no_slot_record}
use Rattle.records.specs.RecordsLaws.{front-any}
use Rattle.records.specs.Validation.{validate_operation}
use Rattle.records.proofs.InUse.{operation_few}
use Rattle.records.proofs.records.VoterSlotTable.validate_operation.Goals as goal

pub returns : goal.returns
unfolding validate_operation
returns c =
    let t = c.args.self.now in
    let u = c.slots_in_use in
    let h : t.count ≤ 9 = grind (arith, common_steps, operation_few) in
    let target = c.has_target.ensures ∙ front-any no_slot_record t.slots u.result.now t.count u.ensures.slots (u.ensures.count h) (λ s. eqb s.member.identity.slot t.replacement.attestation.slot) in
    grind (arith, common_steps, target)
