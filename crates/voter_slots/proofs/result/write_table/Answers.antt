-- `voter_slots::result::write_table` meets its contract. Assumes nothing.
use native.Mathlib.Omega.{arith}
use Rattle.layout.specs.Parts.{TableFits}
use Rattle.codec.specs.Codec.{table_bytes}
use Rattle.codec.specs.FitsLaws.{table_fits}
use Rattle.records.specs.ValidParts.{valid-parts}
use Rattle.voter_slots.specs.ExportLaws.{written-ok, written-short}
use Rattle.std.proofs.Common.{ap}
use Rattle.voter_slots.specs.declared.result.VoterSlotsResult.{VoterSlotsResult}
use Rattle.voter_slots.proofs.result.write_table.Goals as goal
use Rattle.voter_slots.proofs.result.write_table.Goals.{Start}

-- the table is valid, so its fields fit
fits : (c : Start) → TableFits c.args.table
fits c = table_fits _ (valid-parts _ c.requires).0

pub table_size-requires : goal.table_size-requires
table_size-requires c = fits c.before.before

pub returns-then-out-table_size : goal.returns-then-out-table_size
unfolding table_bytes
returns-then-out-table_size c =
    record {
      gives = written-short c.args.table c.args.out.now c.requires (omega (arith, c.table_size.ensures));
      good = tt;
    }

pub put_table-count-requires : goal.put_table-count-requires
put_table-count-requires c = (omega (arith, c.table_size.ensures), fits c.before.before.before.before)

pub numbers_of-requires : goal.numbers_of-requires
numbers_of-requires c = (fits c.before.before.before.before.before.before.before.before).count

pub returns : goal.returns
returns c =
    record {
      gives =
          written-ok c.args.table c.args.out.now c.requires (omega (arith, c.table_size.ensures)) c.put_table-count.ensures c.numbers_of.ensures;
      good = ap (λ (r : VoterSlotsResult). r.answer) c.numbers_of.ensures;
    }
