-- `voter_slots::lent::read_over` meets its contract. Assumes nothing.
use Rattle.std.specs.Prelude.{◌≡◌, length}
use Rattle.std.proofs.Common.{rules}
use Rattle.format.specs.Res.Res.{ok}
use Rattle.codec.specs.Codec.{decode_voter_slot_table}
use Rattle.voter_slots.specs.ExportLaws.{filled_as, read_fits}
use Rattle.voter_slots.proofs.Typed.{lent_bytes}
use Rattle.voter_slots.proofs.lent.read_over.Goals as goal

pub numbers_of-requires : goal.numbers_of-requires
numbers_of-requires c =
    let bs = c.args.bytes.now in
    let t = c.fill_voter_slot_table.new.table in
    let e : ok t (length bs) ≡ decode_voter_slot_table bs = search rules in
    (read_fits bs t (lent_bytes bs c.type_inv.bytes) (filled_as bs t (length bs) e)).count
