-- `journal::observation::lay_set` meets its contract. Assumes nothing.
use Rattle.std.specs.Prelude.{◌≡◌, refl}
use Rattle.std.proofs.Common.{ap, arith, length, rules}
use Rattle.format.specs.Num.{uint}
use Rattle.format.specs.Reads.{Reading, reads}
use Rattle.journal.specs.SetBodyLaws.{ids_more, ids_start, number_takes, set_laid, set_read, set_short}
use Rattle.journal.proofs.observation.lay_set.Goals as goal

pub returns-in_err-count : goal.returns-in_err-count
returns-in_err-count c = record { front = refl; is = search (rules, set_read); few = search rules }

pub returns-then-rest-count : goal.returns-then-rest-count
returns-then-rest-count c =
    let h : Reading.read c.in_ok-count.field-0 c.u16.new.self.bytes.now ≡ reads (uint 2) c.args.input.now.bytes.now = search rules in
    record { front = refl; is = set_short _ _ h (omega (arith, ap length c.rest.ensures)); few = search rules }

pub loop-i-init : goal.loop-i-init
loop-i-init c = ids_start _ _ _

pub bounds-ids-from : goal.bounds-ids-from
bounds-ids-from c =
    let l = c.loop-i in
    let h : Reading.read c.in_ok-count.field-0 c.u16.new.self.bytes.now ≡ reads (uint 2) c.args.input.now.bytes.now = search rules in
    let e : Reading.read c.in_ok-id.id c.u64.new.self.bytes.now ≡ reads (uint 8) l.input.bytes.now = search rules in
    omega (arith, c.requires, number_takes 2 _ _ h, number_takes 8 _ _ e, l.invariant.few, l.invariant.long)

pub loop-i-preserved : goal.loop-i-preserved
loop-i-preserved c =
    let l = c.loop-i in
    let h : Reading.read c.in_ok-count.field-0 c.u16.new.self.bytes.now ≡ reads (uint 2) c.args.input.now.bytes.now = search rules in
    let e : Reading.read c.in_ok-id.id c.u64.new.self.bytes.now ≡ reads (uint 8) l.input.bytes.now = search rules in
    ids_more _ _ _ _ _ _ _ _ (omega (arith, c.requires, number_takes 2 _ _ h, number_takes 8 _ _ e, l.invariant.few, l.invariant.long)) l.invariant e

pub returns : goal.returns
returns c =
    let h : Reading.read c.in_ok-count.field-0 c.u16.new.self.bytes.now ≡ reads (uint 2) c.args.input.now.bytes.now = search rules in
    set_laid _ _ h _ _ _ _ _ c.loop-i.invariant (omega arith)
