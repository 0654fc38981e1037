-- `control::begin::begin_in_place` meets its contract: what the maker asks for comes from the verdict. Assumes nothing.
use Rattle.control.proofs.Stored.{begin_room}
use Rattle.control.proofs.begin.begin_in_place.Goals as goal

pub begin_table-requires : goal.begin_table-requires
begin_table-requires c = begin_room c.args.table.now c.args.begin _ c.requires c.in_ok-judge_begin.ensures c.in-Begin.is
