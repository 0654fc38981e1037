-- `records::successor::slots_succeed` meets its contract: the answer so far is that of the places passed. Assumes nothing.
use Rattle.std.proofs.Common.{◌≡◌}
use Rattle.records.specs.Records.{all_below, slot_in}
use Rattle.records.specs.Successor.{slot_succeeds}
use Rattle.records.proofs.successor.slots_succeed.Given as goal

abbrev pub invariant-loop-i : goal.invariant-loop-i
invariant-loop-i l = l.all ≡ all_below (λ i. slot_succeeds (slot_in l.new i) (slot_in l.old i)) l.i
