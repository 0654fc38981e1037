-- `journal::play::open_record` meets its contract. Assumes nothing.
use Rattle.std.proofs.Common.{arith, sym, ap, ◌∙◌}
use Rattle.format.specs.Combinators.{Bytes}
use Rattle.journal.specs.Replay.{opening}
use Rattle.journal.proofs.PlayLaws.{opened_valid}
use Rattle.journal.proofs.play.open_record.Goals as goal

pub returns-in-Tb : goal.returns-in-Tb
unfolding Bytes opening
returns-in-Tb c =
    let body = c.args.body.now in
    let bytes : Bytes body = λ i. omega (arith, c.type_inv.body i) in
    let p = opened_valid body bytes c.read_voter_slot_table.result c.read_voter_slot_table.ensures in
    (p.0 ∙ ap (λ m. opening m body) (sym c.in-Tb.is), p.1)
