-- `voter_slots::call::retired_bytes` meets its contract. Assumes nothing.
use Rattle.std.specs.Prelude.{◌≡◌, Bool, length, Ok}
use Rattle.std.proofs.Common.{rules, ap, ◌∙◌}
use Rattle.format.specs.Res.Res.{ok}
use Rattle.codec.specs.Codec.{decode_voter_slot_table}
use Rattle.control.specs.Retired.{retired_number}
use Rattle.voter_slots.specs.ExportLaws.{filled_as, says}
use Rattle.voter_slots.proofs.Typed.{lent_bytes}
use Rattle.voter_slots.proofs.call.retired_bytes.Goals as goal

pub returns : goal.returns
returns c =
    let bs = c.args.table.now in
    let t = c.fill_voter_slot_table.new.table in
    let e : ok t (length bs) ≡ decode_voter_slot_table bs = search rules in
    ap (λ (b : Bool). retired_number (Ok b)) c.is_retired_in.ensures ∙ says bs t c.args.node (lent_bytes bs c.type_inv.table) (filled_as bs t (length bs) e)
