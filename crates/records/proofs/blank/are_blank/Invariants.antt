-- `records::blank::are_blank` meets its contract: the answer so far is that of the values passed. Assumes nothing.
use Rattle.std.proofs.Common.{◌≡◌, length, take}
use Rattle.std.specs.Prelude.{replicate}
use Rattle.records.specs.Equality.{eq_list}
use Rattle.records.proofs.blank.are_blank.Given as goal

abbrev pub invariant-loop-value : goal.invariant-loop-value
invariant-loop-value g l =
    let b = g.T.Blank in l.all ≡ eq_list b.same (take l.value-index l.values) (take l.value-index (replicate (length l.values) b.blank))
