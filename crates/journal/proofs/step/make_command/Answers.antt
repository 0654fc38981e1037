-- `journal::step::make_command` meets its contract. Assumes nothing.
use Rattle.std.specs.Prelude.{refl}
use Rattle.std.proofs.Common.{rules}
use Rattle.control.specs.Verdicts.{step_made}
use Rattle.control.specs.Judgement.Move.{records_snapshot, records_caught_up, continues, fences, finalizes}
use Rattle.journal.proofs.MakerLaws.{begin_makes, begin_target, step_makes, step_room, step_target}
use Rattle.journal.proofs.step.make_command.Goals as goal

pub snapshot_table-requires : goal.snapshot_table-requires
snapshot_table-requires c =
    step_room c.args.table c.args.body.now _ c.requires records_snapshot refl (search rules) c.advance_in.result c.advance_in.ensures

pub returns-in-Ok-RecordSnapshot : goal.returns-in-Ok-RecordSnapshot
unfolding step_made
returns-in-Ok-RecordSnapshot c =
    step_makes c.args.table c.args.body.now _ c.requires records_snapshot refl (search rules) c.advance_in.result c.advance_in.ensures
    c.snapshot_table.ensures

pub catch_up_table-requires : goal.catch_up_table-requires
catch_up_table-requires c =
    step_room c.args.table c.args.body.now _ c.requires records_caught_up refl (search rules) c.advance_in-in-Ok-RecordCaughtUp.result c.advance_in-in-Ok-RecordCaughtUp.ensures

pub returns-in-Ok-RecordCaughtUp : goal.returns-in-Ok-RecordCaughtUp
unfolding step_made
returns-in-Ok-RecordCaughtUp c =
    step_makes c.args.table c.args.body.now _ c.requires records_caught_up refl (search rules) c.advance_in-in-Ok-RecordCaughtUp.result c.advance_in-in-Ok-RecordCaughtUp.ensures
    c.catch_up_table.ensures

pub continue_table-requires : goal.continue_table-requires
continue_table-requires c =
    step_room c.args.table c.args.body.now _ c.requires continues refl (search rules) c.advance_in-in-Ok-Continue.result c.advance_in-in-Ok-Continue.ensures

pub returns-in-Ok-Continue : goal.returns-in-Ok-Continue
unfolding step_made
returns-in-Ok-Continue c =
    step_makes c.args.table c.args.body.now _ c.requires continues refl (search rules) c.advance_in-in-Ok-Continue.result c.advance_in-in-Ok-Continue.ensures
    c.continue_table.ensures

pub fence_table-requires : goal.fence_table-requires
fence_table-requires c =
    step_room c.args.table c.args.body.now _ c.requires fences refl (search rules) c.advance_in-in-Ok-Fence.result c.advance_in-in-Ok-Fence.ensures

pub returns-in-Ok-Fence : goal.returns-in-Ok-Fence
unfolding step_made
returns-in-Ok-Fence c =
    step_makes c.args.table c.args.body.now _ c.requires fences refl (search rules) c.advance_in-in-Ok-Fence.result c.advance_in-in-Ok-Fence.ensures
    c.fence_table.ensures

pub finalize_table-requires : goal.finalize_table-requires
finalize_table-requires c =
    step_target c.args.table c.args.body.now _ c.requires finalizes refl (search rules) c.advance_in-in-Ok-Finalize.result c.advance_in-in-Ok-Finalize.ensures

pub returns-in-Ok-Finalize : goal.returns-in-Ok-Finalize
unfolding step_made
returns-in-Ok-Finalize c =
    step_makes c.args.table c.args.body.now _ c.requires finalizes refl (search rules) c.advance_in-in-Ok-Finalize.result c.advance_in-in-Ok-Finalize.ensures
    c.finalize_table.ensures

pub begin_table-requires : goal.begin_table-requires
begin_table-requires c =
    begin_target c.args.table c.args.body.now _ c.requires (search rules) c.begin_in.result c.begin_in.ensures

pub returns-in-Ok-Begin : goal.returns-in-Ok-Begin
returns-in-Ok-Begin c =
    begin_makes c.args.table c.args.body.now _ c.requires (search rules) c.begin_in.result c.begin_in.ensures c.begin_table.ensures
