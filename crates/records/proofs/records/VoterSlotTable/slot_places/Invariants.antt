-- `records::records::VoterSlotTable::slot_places` meets its contract: the answer so far is that of the places passed. Assumes nothing.
use Rattle.std.proofs.Common.{◌≡◌, leb}
use Rattle.records.specs.Records.{all_below, slot_at}
use Rattle.records.specs.Representable.{slot_place}
use Rattle.records.proofs.records.VoterSlotTable.slot_places.Given as goal

abbrev pub invariant-loop-i : goal.invariant-loop-i
invariant-loop-i l = l.all ≡ all_below (λ i. slot_place (leb l.self.count i) (slot_at l.self i)) l.i
