-- `records::records::VoterSlotTable::slot_index` meets its contract: the slot's place is its place among those in use. Assumes nothing.
use Rattle.records.proofs.InUse.{index-in-use}
use Rattle.records.proofs.records.VoterSlotTable.slot_index.Goals as goal

pub returns : goal.returns
returns c =
    let u = c.slots_in_use in
    let e = index-in-use c.args.self.now u.result.now u.ensures.slots (u.ensures.count c.requires) c.args.slot in
    cc
