-- `control::judge::is_completed` meets its contract: the answer so far is that of the places passed. Assumes nothing.
use mathlib.Core.Path.{◌≡◌}
use mathlib.Core.Bool.{not, ◌||◌}
use lib.Dec.{leb}
use Rattle.records.specs.Records.{all_below, slot_at}
use Rattle.control.specs.Control.{is_receipt_of}
use Rattle.control.proofs.judge.is_completed.Given as goal

abbrev pub invariant-loop-i : goal.invariant-loop-i
invariant-loop-i l = l.none ≡ all_below (λ k. leb l.table.count k || not (is_receipt_of l.id l.digest (slot_at l.table k))) l.i
