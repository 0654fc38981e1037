-- `writer::encode::put_table` meets its contract: an attestation that its type holds is as long as Size says. Assumes nothing.
use Rattle.std.proofs.Common.{sym}
use Rattle.records.proofs.Held.{held-voter-slot-table}
use Rattle.writer.specs.SizeLaws.{claims-long}
use Rattle.writer.proofs.encode.put_table.Goals as goal

pub put-requires-clause-small : goal.put-requires-clause-small
put-requires-clause-small c =
    let t = c.args.table in
    let f = c.requires.1.replacement in
    (c.requires.1, sym (claims-long t.replacement.attestation (held-voter-slot-table t _ c.well_formed.1.1.0).replacement.attestation f.candidate f.controller))
