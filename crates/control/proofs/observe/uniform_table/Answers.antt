-- `control::observe::uniform_table` meets its contract: the place of the slot is that of the definition. Assumes nothing.
use mathlib.Core.Path.{ap, ◌∙◌}
use mathlib.Core.Bool.{true}
use Prim.Native.Nat.{ℕ, ◌+◌}
use lib.ListN.{set}
use Rattle.records.specs.Records.{slot_at, voting}
use Rattle.records.specs.With.{in_phase, table_with}
use Rattle.control.specs.Judgement.{added}
use Rattle.control.specs.Observation.{uniform_seen}
use Rattle.control.proofs.observe.uniform_table.Goals as goal

pub returns : goal.returns
unfolding added
returns c =
    let a = c.args in
    c.with_phase.ensures
    ∙ ap (λ (k : ℕ). table_with a.table (a.table.revision + 1) a.table.replacement.successor.epoch (set a.table.slots k (in_phase (slot_at a.table k) voting)) true (uniform_seen a.table.replacement a.cut)) c.slot_place-at.ensures
