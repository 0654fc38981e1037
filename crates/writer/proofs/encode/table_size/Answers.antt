-- `writer::encode::table_size` meets its contract: the sizes of its parts, which are small enough to add. Assumes nothing.
use Rattle.std.proofs.Common.{arith}
use Rattle.std.proofs.lemmas.Grind.{common_steps}
use Rattle.records.proofs.Held.{held-voter-slot-table}
use Rattle.writer.specs.Size.{table_size}
use Rattle.writer.specs.SizeLaws.{table-long, slots-front}
use Rattle.writer.proofs.encode.table_size.Goals as goal

pub returns : goal.returns
unfolding table_size
returns c =
    let t = c.args.table in
    let e = table-long t (held-voter-slot-table t _ c.well_formed.0) c.requires in
    grind (arith, common_steps, slots-front)

pub returns-then-table : goal.returns-then-table
unfolding table_size
returns-then-table c =
    let t = c.args.table in
    let e = table-long t (held-voter-slot-table t _ c.well_formed.0) c.requires in
    grind (arith, common_steps, slots-front)
