-- `control::judge::is_completed` meets its contract: the answer so far is that of the places passed. Assumes nothing.
use mathlib.Core.Path.{◌≡◌, refl, ap, ◌∙◌}
use mathlib.Core.Bool.{Bool, not, ◌||◌}
use native.Mathlib.Omega.{arith}
use lib.Dec.{leb}
use lib.ListN.{length}
use Rattle.records.specs.Records.{all_below, slot_at}
use Rattle.records.specs.RecordsLaws.{all_below-turn}
use Rattle.records.proofs.Held.{held-voter-slot-table}
use Rattle.control.specs.Control.{is_completed, is_receipt_of}
use Rattle.control.specs.PlacesLaws.{nine-places}
use Rattle.control.proofs.judge.is_completed.Goals as goal
use Rattle.control.proofs.judge.is_completed.Goals.{Start}

pub loop-i-init : goal.loop-i-init
unfolding all_below
loop-i-init c = refl

pub loop-i-preserved : goal.loop-i-preserved
loop-i-preserved c =
    let t = c.args.table in
    all_below-turn _ c.loop-i.i _ _ c.loop-i.invariant (ap (λ (b : Bool). leb t.count c.loop-i.i || not b) c.is_receipt_of-receipt.ensures)

-- nine places
nine : (c : Start) → length c.args.table.slots ≡ 9
nine c = (held-voter-slot-table c.args.table _ c.well_formed.0).slots.count

pub returns : goal.returns
unfolding is_completed
returns c =
    let s = c.before.before in
    let e : c.loop-i.i ≡ 9 = omega arith in
    let t = s.args.table in
    let all : c.loop-i.none ≡ all_below (λ k. not (is_receipt_of s.args.id s.args.digest (slot_at t k))) t.count =
    c.loop-i.invariant ∙ rw e (nine-places t (nine s) (λ x. not (is_receipt_of s.args.id s.args.digest x)) refl) in
    ap not all
