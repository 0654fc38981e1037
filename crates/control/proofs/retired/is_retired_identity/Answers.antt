-- `control::retired::is_retired_identity` meets its contract: the answer so far is that of the places passed. Assumes nothing.
use mathlib.Core.Path.{◌≡◌, ap, ◌∙◌}
use mathlib.Core.Bool.{Bool, true, not, ◌&&◌, ◌||◌}
use Prim.Native.Nat.{◌≤◌}
use native.Mathlib.Omega.{arith}
use lib.Dec.{leb}
use lib.ListN.{length}
use borrow.Author.Tests.{ne_eqb}
use Rattle.identity.specs.declared.identity.VoterSlotIdentity.{VoterSlotIdentity}
use Rattle.records.specs.Records.{all_below, no_slot_record, slot_at}
use Rattle.records.specs.RecordsLaws.{all_below-turn}
use Rattle.records.proofs.Held.{held-voter-slot-table}
use Rattle.control.specs.Retired.{is_below_floor, is_retired_identity}
use Rattle.control.specs.PlacesLaws.{nine-places}
use Rattle.control.proofs.retired.is_retired_identity.Goals as goal
use Rattle.control.proofs.retired.is_retired_identity.Goals.{Start}

pub loop-i-preserved : goal.loop-i-preserved
loop-i-preserved c =
    let table = c.args.table in
    all_below-turn _ c.loop-i.i _ _ c.loop-i.invariant (ap (λ (b : Bool). leb table.count c.loop-i.i || not b) c.is_below_floor.ensures)

-- nine places
nine : (c : Start) → length c.args.table.slots ≡ 9
nine c = (held-voter-slot-table c.args.table _ c.well_formed.0).slots.count

-- no identity with a slot is covered by a blank place
blank : (identity : VoterSlotIdentity) → 1 ≤ identity.slot → not (is_below_floor identity no_slot_record) ≡ true
blank identity h = ap (λ (b : Bool). not (b && leb identity.incarnation 0)) (ne_eqb 0 identity.slot (λ e. omega arith))

pub returns : goal.returns
unfolding is_retired_identity
returns c =
    let s = c.before.before.before in
    let e : c.loop-i.i ≡ 9 = omega arith in
    let table = s.args.table in
    let all : c.loop-i.none ≡ all_below (λ k. not (is_below_floor s.args.identity (slot_at table k))) table.count =
    c.loop-i.invariant ∙ rw e (nine-places table (nine s) (λ x. not (is_below_floor s.args.identity x)) (blank s.args.identity s.requires)) in
    ap not all
