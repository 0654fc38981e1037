-- `records::records::VoterSlotTable::validate_members` meets its contract: every slot passed is accepted, and the first that is refused gives the answer. Assumes nothing.
use Rattle.std.proofs.Common.{◌≡◌, ◌<◌, ◌∙◌, ap, true, false, arith}
use Rattle.std.proofs.lemmas.Grind.{common_steps}
use Rattle.identity.specs.Answer.{is_accepted}
use Rattle.records.specs.Records.{no_slot_record, member_at}
use Rattle.records.specs.RecordsLaws.{front-at}
use Rattle.records.specs.Validation.{validate_member}
use Rattle.records.specs.ValidationLaws.{member_answer, member-claims, members-accepted, members-refused}
use Rattle.records.specs.declared.records.VoterSlotRecord.{VoterSlotRecord}
use Rattle.records.proofs.records.VoterSlotTable.validate_members.Goals as goal
use Rattle.records.proofs.records.VoterSlotTable.validate_members.Goals.{After-validate_member}

-- the place is one of those in use, and its answer is the call's
below : (c : After-validate_member) → c.loop-i.i < c.args.self.now.count
below c = omega (arith, c.slots_in_use-slot-items.ensures.count)

answered : (c : After-validate_member) → c.validate_member.result ≡ member_answer c.args.self.now c.loop-i.i
answered c =
    let t = c.args.self.now in
    let i = c.loop-i.i in
    let u = c.slots_in_use-slot-items in
    let at = front-at no_slot_record t.slots u.result.now t.count u.ensures.slots (u.ensures.count c.requires) i (below c) in
    c.validate_member.ensures
    ∙ (ap (λ (s : VoterSlotRecord). validate_member c.from-claims.result s (member_at t.replacement.predecessor i) (member_at t.replacement.successor i)) at
    ∙ member-claims t c.from-claims.result i c.from-claims.ensures)

pub returns-in_err-validate_member : goal.returns-in_err-validate_member
returns-in_err-validate_member c =
    let d = c.before.before.before in
    let e = answered d in
    let f : is_accepted (member_answer c.args.self.now c.loop-i.i) ≡ false = grind (arith, common_steps, e) in
    let g = members-refused c.args.self.now c.loop-i.i c.args.self.now.count (below d) c.loop-i.invariant f in
    grind (arith, common_steps, e, g)

pub loop-i-preserved : goal.loop-i-preserved
loop-i-preserved c =
    let e = answered c.before.before in
    let a : is_accepted (member_answer c.args.self.now c.loop-i.i) ≡ true = grind (arith, common_steps, e) in
    members-accepted c.args.self.now c.loop-i.i c.loop-i.invariant a
