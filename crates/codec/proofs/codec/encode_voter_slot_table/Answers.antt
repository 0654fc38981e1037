-- `codec::codec::encode_voter_slot_table` meets its contract. Assumes nothing.
use Rattle.std.specs.Prelude.{◌≡◌, length}
use Rattle.std.proofs.Common.{arith, rules, zero-add, sym, ap, ◌∙◌}
use Rattle.format.specs.Res.Res.{ok}
use Rattle.identity.specs.Answer.{Accepted}
use Rattle.records.specs.ValidParts.{valid-parts}
use Rattle.records.specs.Validation.{validate}
use Rattle.records.specs.declared.records.VoterSlotTable.{VoterSlotTable}
use Rattle.layout.specs.Layout.{table}
use Rattle.layout.specs.Parts.{TableFits}
use Rattle.layout.specs.Reading.{outcome}
use Rattle.codec.specs.Codec.{table_bytes}
use Rattle.codec.specs.CodecLaws.{encoded-is}
use Rattle.codec.specs.EntryLaws.{put-start, encode_refuses, encode-short}
use Rattle.codec.specs.FitsLaws.{table_fits}
use Rattle.codec.proofs.codec.encode_voter_slot_table.Goals as goal

-- the fields of a valid table fit
fits : (t : VoterSlotTable) → validate t ≡ Accepted → TableFits t
fits t v = table_fits t (valid-parts t v).0

pub returns-in_err-validate_table : goal.returns-in_err-validate_table
unfolding outcome
returns-in_err-validate_table c = rw (encode_refuses c.args.table c.args.buffer.now c.in_err-validate_table.field-0.0 (search rules)) (search rules)

pub table_size-requires : goal.table_size-requires
table_size-requires c = fits c.args.table (search rules)

pub returns-then-buffer-table_size : goal.returns-then-buffer-table_size
unfolding outcome table_bytes
returns-then-buffer-table_size c =
    let b = c.args.buffer.now in
    ap (outcome b) (sym (encode-short c.args.table b (search rules) (omega (arith, c.table_size.ensures))))

pub put_table-requires : goal.put_table-requires
put_table-requires c = (omega (arith, c.table_size.ensures), fits c.args.table (search rules))

pub returns : goal.returns
unfolding outcome table_bytes
returns c =
    let b = c.args.buffer.now in
    let t = c.args.table in
    let p = c.put_table.ensures in
    ap (outcome b) (sym (encoded-is t b (search rules) (omega (arith, c.table_size.ensures))
    ∙ (λ i. ok (sym (p.bytes ∙ put-start (table.enc t) b) i) (sym (p.next ∙ zero-add (length (table.enc t))) i))))
