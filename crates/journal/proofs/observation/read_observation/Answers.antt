-- `journal::observation::read_observation` meets its contract. Assumes nothing.
use Rattle.std.specs.Prelude.{◌≡◌, true, false, length, eqb, Ok}
use Rattle.std.proofs.Common.{arith, length-take-le, rules, sym}
use Rattle.format.specs.Num.{pick, uint}
use Rattle.format.specs.Reads.{Reading, reads}
use Rattle.layout.specs.Layout.{log_id}
use Rattle.journal.specs.SetBody.{LaidSet, SetsSo}
use Rattle.journal.specs.SetBodyLaws.{held_within, observation_end, reads_on}
use Rattle.journal.proofs.observation.read_observation.Goals as goal

pub lay_sets-requires : goal.lay_sets-requires
lay_sets-requires c =
    let h : Reading.read c.in_ok-cut.cut c.log_id.new.self.bytes.now ≡ reads log_id c.args.body.now = search rules in
    let e : Reading.read c.in_ok-sets.field-0 c.u8.new.self.bytes.now ≡ reads (uint 1) c.log_id.new.self.bytes.now = search rules in
    (omega arith, omega (arith, c.requires, reads_on _ _ _ h, reads_on _ _ _ e))

pub lay_set-requires : goal.lay_set-requires
lay_set-requires c =
    let h : Reading.read c.in_ok-cut.cut c.log_id.new.self.bytes.now ≡ reads log_id c.args.body.now = search rules in
    let e : Reading.read c.in_ok-sets.field-0 c.u8.new.self.bytes.now ≡ reads (uint 1) c.log_id.new.self.bytes.now = search rules in
    let so : SetsSo c.u8.new.self.bytes.now c.lay_sets.new.input.bytes.now c.in_ok-sets.field-0 c.in_ok-held.held c.lay_sets.new.ids c.lay_sets.new.counts = search rules in
    omega (arith, c.requires, held_within _ _ h _ e _ _ _ so)

pub split_at-requires : goal.split_at-requires
split_at-requires c =
    let h : Reading.read c.in_ok-cut.cut c.log_id.new.self.bytes.now ≡ reads log_id c.args.body.now = search rules in
    let e : Reading.read c.in_ok-sets.field-0 c.u8.new.self.bytes.now ≡ reads (uint 1) c.log_id.new.self.bytes.now = search rules in
    let so : SetsSo c.u8.new.self.bytes.now c.lay_sets.new.input.bytes.now c.in_ok-sets.field-0 c.in_ok-held.held c.lay_sets.new.ids c.lay_sets.new.counts = search rules in
    let l : LaidSet (Ok c.in_ok-nodes.nodes) c.lay_sets.new.input.bytes.now c.lay_set.new.input.bytes.now c.in_ok-held.held c.lay_sets.new.ids c.lay_set.new.ids = search rules in
    omega (arith, c.requires, held_within _ _ h _ e _ _ _ so, l.few)

pub slice_bounds-result-end-2 : goal.slice_bounds-result-end-2
slice_bounds-result-end-2 c =
    let h : Reading.read c.in_ok-cut.cut c.log_id.new.self.bytes.now ≡ reads log_id c.args.body.now = search rules in
    let e : Reading.read c.in_ok-sets.field-0 c.u8.new.self.bytes.now ≡ reads (uint 1) c.log_id.new.self.bytes.now = search rules in
    let so : SetsSo c.u8.new.self.bytes.now c.lay_sets.new.input.bytes.now c.in_ok-sets.field-0 c.in_ok-held.held c.lay_sets.new.ids c.lay_sets.new.counts = search rules in
    let l : LaidSet (Ok c.in_ok-nodes.nodes) c.lay_sets.new.input.bytes.now c.lay_set.new.input.bytes.now c.in_ok-held.held c.lay_sets.new.ids c.lay_set.new.ids = search rules in
    sym (length-take-le c.in_ok-nodes.nodes c.split_at.result.1.now (omega (arith, c.requires, held_within _ _ h _ e _ _ _ so, l.few, c.split_at.ensures.back_len)))

pub returns-in_err-ok : goal.returns-in_err-ok
unfolding pick
returns-in_err-ok c =
    let h : Reading.read c.in_ok-cut.cut c.log_id.new.self.bytes.now ≡ reads log_id c.args.body.now = search rules in
    let e : Reading.read c.in_ok-sets.field-0 c.u8.new.self.bytes.now ≡ reads (uint 1) c.log_id.new.self.bytes.now = search rules in
    let so : SetsSo c.u8.new.self.bytes.now c.lay_sets.new.input.bytes.now c.in_ok-sets.field-0 c.in_ok-held.held c.lay_sets.new.ids c.lay_sets.new.counts = search rules in
    let l : LaidSet (Ok c.in_ok-nodes.nodes) c.lay_sets.new.input.bytes.now c.lay_set.new.input.bytes.now c.in_ok-held.held c.lay_sets.new.ids c.lay_set.new.ids = search rules in
    let q : eqb (length c.lay_set.new.input.bytes.now) 0 ≡ false = search rules in
    let w = observation_end c.args.body.now _ h _ e _ _ _ so _ _ _ l in
    record {
      gives = search (rules, w, q);
      few = search rules;
    }

pub returns : goal.returns
unfolding pick
returns c =
    let h : Reading.read c.in_ok-cut.cut c.log_id.new.self.bytes.now ≡ reads log_id c.args.body.now = search rules in
    let e : Reading.read c.in_ok-sets.field-0 c.u8.new.self.bytes.now ≡ reads (uint 1) c.log_id.new.self.bytes.now = search rules in
    let so : SetsSo c.u8.new.self.bytes.now c.lay_sets.new.input.bytes.now c.in_ok-sets.field-0 c.in_ok-held.held c.lay_sets.new.ids c.lay_sets.new.counts = search rules in
    let l : LaidSet (Ok c.in_ok-nodes.nodes) c.lay_sets.new.input.bytes.now c.lay_set.new.input.bytes.now c.in_ok-held.held c.lay_sets.new.ids c.lay_set.new.ids = search rules in
    let q : eqb (length c.lay_set.new.input.bytes.now) 0 ≡ true = search rules in
    let w = observation_end c.args.body.now _ h _ e _ _ _ so _ _ _ l in
    let within = held_within _ _ h _ e _ _ _ so in
    let nodes = length-take-le c.in_ok-nodes.nodes c.split_at.result.1.now (omega (arith, c.requires, within, l.few, c.split_at.ensures.back_len)) in
    let counts = length-take-le c.in_ok-sets.field-0 c.lay_sets.new.counts (omega arith) in
    record {
      gives = rw (c.split_at.ensures.front, c.split_at.ensures.back, sym w, q);
      few = (omega (arith, within, l.few, nodes, c.split_at.ensures.front_len), omega (arith, counts));
    }
