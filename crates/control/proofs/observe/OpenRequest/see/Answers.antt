-- `control::observe::OpenRequest::see` meets its contract: the ids of the members in use are the front of the nine places, and `see-is`
-- says that this is the definition. Assumes nothing.
use mathlib.Core.Path.{sym, ap, ◌∙◌}
use lib.ListN.{take}
use Rattle.control.specs.ObserveSight.{Supplied, seen_of}
use Rattle.control.specs.ObserveSightLaws.{front-listed, see-is}
use Rattle.control.proofs.observe.OpenRequest.see.Goals as goal
use Rattle.control.proofs.observe.OpenRequest.see.Goals.{After-see_ids}

supplied : (c : After-see_ids) → Supplied c.args.membership.now.observation.sets.now c.args.membership.now.observation.counts.now c.args.membership.now.observation.nodes.now
supplied c =
    let m = c.args.membership.now in
    record { counted = m.counted; held = m.held; rising = m.rising; nodes-rise = m.nodes_rise }

pub returns : goal.returns
returns c =
    let a = c.args in
    let op = a.self.now.operation.now in
    let old = op.predecessor in
    let new = op.successor in
    let e = ap (take old.count) c.ids_of-before.ensures ∙ front-listed old 9 old.count a.self.now.few_before in
    let f = ap (take new.count) c.ids_of-after.ensures ∙ front-listed new 9 new.count a.self.now.few_after in
    let sets = a.membership.now.observation.sets.now in
    let counts = a.membership.now.observation.counts.now in
    let nodes = a.membership.now.observation.nodes.now in
    c.see_ids.ensures ∙ ((λ i. seen_of op (e i) (f i) sets counts nodes) ∙ sym (see-is op sets counts nodes (supplied c)))
