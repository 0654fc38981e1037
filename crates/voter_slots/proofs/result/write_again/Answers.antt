-- `voter_slots::result::write_again` meets its contract. Assumes nothing.
use Rattle.std.proofs.Common.{ap, arith}
use Rattle.voter_slots.specs.ExportLaws.{again-ok, again-short, read_fits}
use Rattle.voter_slots.proofs.Typed.{lent_bytes}
use Rattle.voter_slots.specs.declared.result.VoterSlotsResult.{VoterSlotsResult}
use Rattle.voter_slots.proofs.result.write_again.Goals as goal

pub returns-then-out-bytes : goal.returns-then-out-bytes
returns-then-out-bytes c =
    let s = c.args in
    record {
      gives = again-short s.bytes.now s.table s.out.now (lent_bytes s.bytes.now c.type_inv.bytes) c.requires (omega arith);
      good = tt;
    }

pub numbers_of-requires : goal.numbers_of-requires
numbers_of-requires c = (read_fits c.args.bytes.now c.args.table (lent_bytes c.args.bytes.now c.type_inv.bytes) c.requires).count

pub returns : goal.returns
returns c =
    let s = c.args in
    record {
      gives =
          again-ok s.bytes.now s.table s.out.now (lent_bytes s.bytes.now c.type_inv.bytes) c.requires (omega arith) c.put_bytes-count.ensures c.numbers_of.ensures;
      good = ap (λ (r : VoterSlotsResult). r.answer) c.numbers_of.ensures;
    }
