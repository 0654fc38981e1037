-- `records::records::VoterSlotTable::ended_succeeds` meets its contract: the slot's place is its place among those in use. Assumes nothing.
use Rattle.std.proofs.Common.{arith}
use Rattle.std.proofs.lemmas.Grind.{common_steps}
use Rattle.records.specs.Successor.{ended_succeeds}
use Rattle.records.proofs.InUse.{place-in-use}
use Rattle.records.proofs.records.VoterSlotTable.ended_succeeds.Goals as goal

pub returns : goal.returns
unfolding ended_succeeds
returns c =
    let u = c.slots_in_use-slots in
    let e = place-in-use c.args.self.now u.result.now u.ensures.slots (u.ensures.count c.requires) c.args.old.now.attestation.slot in
    grind (arith, common_steps, e)
