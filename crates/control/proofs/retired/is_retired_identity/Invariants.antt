-- `control::retired::is_retired_identity` meets its contract: the answer so far is that of the places passed. Assumes nothing.
use Rattle.std.proofs.Common.{◌≡◌, not, ◌||◌, leb}
use Rattle.records.specs.Records.{all_below, slot_at}
use Rattle.control.specs.Retired.{is_below_floor}
use Rattle.control.proofs.retired.is_retired_identity.Given as goal

abbrev pub invariant-loop-i : goal.invariant-loop-i
invariant-loop-i l = l.none ≡ all_below (λ k. leb l.fn.table.count k || not (is_below_floor l.identity (slot_at l.fn.table k))) l.i
