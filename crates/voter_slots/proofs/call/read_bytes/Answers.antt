-- `voter_slots::call::read_bytes` meets its contract. Assumes nothing.
use Rattle.std.specs.Prelude.{◌≡◌, length}
use Rattle.std.proofs.Common.{rules}
use Rattle.format.specs.Res.Res.{ok}
use Rattle.codec.specs.Codec.{decode_voter_slot_table}
use Rattle.voter_slots.specs.ExportLaws.{filled_as, read_fits}
use Rattle.voter_slots.proofs.Typed.{lent_bytes}
use Rattle.voter_slots.proofs.call.read_bytes.Goals as goal

pub numbers_of-requires : goal.numbers_of-requires
numbers_of-requires c =
    let bs = c.args.table.now in
    let t = c.fill_voter_slot_table.new.table in
    let e : ok t (length bs) ≡ decode_voter_slot_table bs = search rules in
    (read_fits bs t (lent_bytes bs c.type_inv.table) (filled_as bs t (length bs) e)).count
