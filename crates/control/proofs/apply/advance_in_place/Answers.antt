-- `control::apply::advance_in_place` meets its contract: what each maker asks for comes from the verdict. Assumes nothing.
use mathlib.Core.Path.{refl}
use Rattle.control.specs.declared.judge.Judged.TheVariants.{RecordSnapshot, RecordCaughtUp, Continue, Fence, Finalize}
use Rattle.control.proofs.Stored.{advance_room}
use Rattle.control.proofs.apply.advance_in_place.Goals as goal

pub snapshot_table-requires : goal.snapshot_table-requires
snapshot_table-requires c = (advance_room c.args.table.now c.args.advance _ RecordSnapshot c.requires c.in_ok-judge_advance.ensures c.in-RecordSnapshot.is refl).0

pub catch_up_table-requires : goal.catch_up_table-requires
catch_up_table-requires c = (advance_room c.args.table.now c.args.advance _ RecordCaughtUp c.requires c.in_ok-judge_advance.ensures c.in-RecordCaughtUp.is refl).0

pub continue_table-requires : goal.continue_table-requires
continue_table-requires c = (advance_room c.args.table.now c.args.advance _ Continue c.requires c.in_ok-judge_advance.ensures c.in-Continue.is refl).0

pub fence_table-requires : goal.fence_table-requires
fence_table-requires c = (advance_room c.args.table.now c.args.advance _ Fence c.requires c.in_ok-judge_advance.ensures c.in-Fence.is refl).0

pub finalize_table-requires : goal.finalize_table-requires
finalize_table-requires c = advance_room c.args.table.now c.args.advance _ Finalize c.requires c.in_ok-judge_advance.ensures c.in-Finalize.is refl
