-- `control::begin::members_of` meets its contract: the members so far are those of the slots passed. Assumes nothing.
use mathlib.Core.Path.{◌≡◌, refl, sym, ap, ◌∙◌}
use mathlib.Core.List.{map}
use native.Mathlib.Omega.{arith}
use lib.ListN.{get_or, length-set}
use lib.Seq.{take_all}
use Rattle.records.specs.Records.{no_slot_record}
use Rattle.records.specs.declared.records.VoterSlotRecord.{VoterSlotRecord}
use Rattle.control.specs.BeginJudgeLaws.{members-more}
use Rattle.control.proofs.begin.members_of.Goals as goal

pub loop-i-init : goal.loop-i-init
loop-i-init c = (refl, refl)

pub loop-i-preserved : goal.loop-i-preserved
loop-i-preserved c =
    let h = c.loop-i.invariant in
    let nine = c.well_formed.0.1.0.1 in
    (length-set c.loop-i.members c.loop-i.i (get_or c.args.slots c.loop-i.i no_slot_record).member ∙ h.0, members-more c.loop-i.members c.args.slots c.loop-i.i (omega (arith, h.0)) (omega (arith, nine)) h.1)

pub returns : goal.returns
returns c =
    let h = c.loop-i.invariant in
    let nine = c.well_formed.0.1.0.1 in
    let e : c.loop-i.i ≡ 9 = omega arith in
    sym (take_all c.loop-i.i c.loop-i.members (omega (arith, h.0))) ∙ (h.1 ∙ ap (map (λ (s : VoterSlotRecord). s.member)) (take_all c.loop-i.i c.args.slots (omega (arith, nine))))
