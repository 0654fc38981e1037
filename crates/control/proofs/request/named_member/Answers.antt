-- `control::request::named_member` meets its contract: what was found is at the first of the places passed. Assumes nothing.
use Prim.Native.Nat.{◌-◌}
use mathlib.Core.Path.{ap, refl, ◌∙◌}
use native.Mathlib.Omega.{arith}
use Rattle.std.specs.Option.{option_or}
use Rattle.std.specs.Prelude.{Option, Some, None}
use Rattle.records.specs.Records.{slot_at}
use Rattle.records.specs.declared.records.VoterSlotMember.{VoterSlotMember}
use Rattle.control.specs.BeginJudgeLaws.{picked-by, place_none, read-turn, read-end}
use Rattle.control.proofs.request.named_member.Goals as goal
use Rattle.control.proofs.request.named_member.Invariants.{bears}

pub loop-i-init : goal.loop-i-init
loop-i-init c = place_none c.args.table (bears c.args.number) (λ s. Some s.member) None

pub loop-i-preserved : goal.loop-i-preserved
loop-i-preserved c =
    let own = (slot_at c.args.table (c.loop-i.i - 1)).member in
    c.or-member.ensures
    ∙ (ap (λ (x : Option VoterSlotMember). option_or x c.loop-i.member) c.then_some.ensures
    ∙ (picked-by _ own c.loop-i.member
    ∙ read-turn c.args.table (bears c.args.number) (λ s. Some s.member) None c.loop-i.i _ (Some own) c.loop-i.member (omega arith) (omega arith) refl refl c.loop-i.invariant))

pub returns : goal.returns
returns c = c.loop-i.invariant ∙ read-end c.args.table (bears c.args.number) (λ s. Some s.member) None c.loop-i.i (omega arith)
