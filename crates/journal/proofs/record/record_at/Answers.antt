-- `journal::record::record_at` meets its contract. Assumes nothing.
use Rattle.std.proofs.Common.{arith, rules}
use Rattle.journal.specs.RecordLaws.{record_within}
use Rattle.journal.proofs.record.record_at.Goals as goal

pub overflow_add-result-3 : goal.overflow_add-result-3
overflow_add-result-3 c =
    let a = c.args in
    let w = record_within a.input.now a.at a.last c.in-Ok.text c.array.new.self.bytes.now (search rules) {mark = c.from-mark.result} (search rules) (search rules) {body = c.in-Ok-sized_bytes.body.now} {rest = c.sized_bytes.new.input.bytes.now} (search rules) in
    omega (arith, w)
