-- `control::observe::joint_table` meets its contract: the place of the slot is that of the definition. Assumes nothing.
use mathlib.Core.Path.{ap, ◌∙◌}
use mathlib.Core.Bool.{true}
use Prim.Native.Nat.{ℕ, ◌+◌}
use lib.ListN.{set}
use Rattle.records.specs.Records.{slot_at, voting}
use Rattle.records.specs.With.{in_phase, table_with}
use Rattle.control.specs.Judgement.{added}
use Rattle.control.specs.Observation.{joint_seen}
use Rattle.control.proofs.observe.joint_table.Goals as goal

pub returns : goal.returns
unfolding added
returns c =
    let a = c.args in
    c.with_phase.ensures
    ∙ ap (λ (k : ℕ). table_with a.table (a.table.revision + 1) a.table.configuration_epoch (set a.table.slots k (in_phase (slot_at a.table k) voting)) true (joint_seen a.table.replacement a.cut)) c.slot_place-at.ensures
