-- `control::observe::judge_closed` meets its contract: the ids of the slots in use are the front of the nine places (`idle-is`). Assumes nothing.
use mathlib.Core.Path.{sym, ap, ◌∙◌}
use mathlib.Core.Bool.{Bool, cond}
use mathlib.Core.List.{List}
use Prim.Native.Nat.{ℕ}
use lib.ListN.{take}
use Rattle.identity.specs.Answer.{InvalidTransition}
use Rattle.control.specs.Judgement.Verdict.{refused, kept}
use Rattle.control.specs.ObserveSets.{slot_members}
use Rattle.control.specs.ObserveSight.{Supplied, judge_members}
use Rattle.control.specs.ObserveSightLaws.{front-listed, idle-is}
use Rattle.control.proofs.observe.judge_closed.Goals as goal
use Rattle.control.proofs.observe.judge_closed.Goals.{After-judge_members}

supplied : (c : After-judge_members) → Supplied c.args.membership.now.observation.sets.now c.args.membership.now.observation.counts.now c.args.membership.now.observation.nodes.now
supplied c =
    let m = c.args.membership.now in
    record { counted = m.counted; held = m.held; rising = m.rising; nodes-rise = m.nodes_rise }

pub returns : goal.returns
returns c =
    let a = c.args in
    let sets = a.membership.now.observation.sets.now in
    let counts = a.membership.now.observation.counts.now in
    let nodes = a.membership.now.observation.nodes.now in
    let e = ap (take a.table.now.count) c.ids_of_slots-ids.ensures ∙ front-listed (slot_members a.table.now) 9 a.table.now.count c.requires.0 in
    c.judge_members.ensures
    ∙ (ap (λ (l : List ℕ). judge_members l sets counts nodes) e
    ∙ sym (ap (λ (b : Bool). cond b kept (refused InvalidTransition)) (idle-is a.table.now sets counts nodes (supplied c) c.requires.1)))
