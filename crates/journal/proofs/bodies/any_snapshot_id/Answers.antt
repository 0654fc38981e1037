-- `journal::bodies::any_snapshot_id` meets its contract. Assumes nothing.
use Rattle.std.proofs.Common.{rules}
use Rattle.journal.specs.BodiesLaws.{id_placed}
use Rattle.journal.specs.Replay.{snapshot_id_of}
use Rattle.journal.proofs.bodies.any_snapshot_id.Goals as goal

pub returns : goal.returns
unfolding snapshot_id_of
returns c =
    let p = id_placed 256 c.in_ok-id.id.now c.min-held.result c.min-held.ensures in
    search (rules, p, c.copy_bytes.ensures)
