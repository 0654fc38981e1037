-- `records::validation::results_distinct` meets its contract: the answer so far is that of the places passed. Assumes nothing.
use Rattle.std.proofs.Common.{◌≡◌}
use Rattle.records.specs.Records.{all_below, slot_in}
use Rattle.records.specs.Validation.{distinct_results}
use Rattle.records.proofs.validation.results_distinct.Given as goal

abbrev pub invariant-loop-i : goal.invariant-loop-i
invariant-loop-i l = l.all ≡ all_below (λ i. all_below (λ j. distinct_results (slot_in l.slots j) (slot_in l.slots i)) i) l.i
