-- `control::begin::begun_slots` meets its contract: the place that is found is that of the slot that the request names. Assumes nothing.
use Prim.Native.Nat.{ℕ}
use mathlib.Core.Path.{◌≡◌, refl, sym, ap, ◌∙◌}
use native.Mathlib.Omega.{arith}
use lib.ListN.{length, length-take, set, take}
use Rattle.std.specs.Option.{unwrap_or}
use Rattle.std.specs.Prelude.{Option}
use Rattle.records.proofs.Held.{held-voter-slot-table}
use Rattle.records.proofs.InUse.{index-in-use}
use Rattle.records.specs.Records.{slot_at}
use Rattle.records.specs.declared.records.VoterSlotRecord.{VoterSlotRecord}
use Rattle.control.specs.Control.{begun_slot, named_index}
use Rattle.control.specs.BeginJudge.{slot_from}
use Rattle.control.proofs.begin.begun_slots.Goals as goal
use Rattle.control.proofs.begin.begun_slots.Goals.{After-place_of}

-- the place that was found, or the count
place : (c : After-place_of) → unwrap_or c.place_of.result c.args.table.count ≡ named_index c.args.table c.args.begin.request
place c =
    let t = c.args.table in
    let nine = (held-voter-slot-table t _ c.well_formed.0).slots.count in
    let h : length (take t.count t.slots) ≡ t.count = simp length-take (omega (arith, nine, c.requires.1.0)) in
    ap (λ (o : Option ℕ). unwrap_or o t.count) c.place_of.ensures ∙ index-in-use t (take t.count t.slots) refl h c.args.begin.request.attestation.slot

pub returns-in-Some : goal.returns-in-Some
unfolding begun_slot
returns-in-Some c =
    let t = c.args.table in
    let r = c.args.begin.request in
    let cut = c.args.begin.cut in
    let e = ap (λ (o : Option ℕ). unwrap_or o t.count) (sym c.in-Some.is) ∙ place c.before.before.before in
    ap (λ (x : VoterSlotRecord). set t.slots c.in-Some.at x) c.begun_slot.ensures
    ∙ ap (λ (k : ℕ). set t.slots k (slot_from t r cut (slot_at t k))) e

pub returns-in_default : goal.returns-in_default
returns-in_default c =
    let t = c.args.table in
    let e = ap (λ (o : Option ℕ). unwrap_or o t.count) (sym c.in_default.is) ∙ place c.before in
    absurd (omega (arith, e, c.requires.1.1))
