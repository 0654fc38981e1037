-- `control::observe::slot_place` meets its contract: the place so far is the first of those passed. Assumes nothing.
use Prim.Native.Nat.{ℕ, ◌-◌, ◌+◌}
use mathlib.Core.Path.{◌≡◌, refl, sym, ap, ◌∙◌}
use mathlib.Core.Bool.{Bool, true, false, false≢true, ◌||◌}
use native.Mathlib.Omega.{arith}
use lib.Dec.{leb}
use borrow.Author.Tests.{leb-true, leb-false}
use Rattle.records.specs.declared.records.VoterSlotRecord.{VoterSlotRecord}
use Rattle.records.specs.declared.records.VoterSlotTable.{VoterSlotTable}
use Rattle.records.specs.Records.{slot_at}
use Rattle.records.specs.RecordsLaws.{first_more, first-none, first-stop}
use Rattle.control.specs.BeginJudgeLaws.{place-first, place_from}
use Rattle.control.proofs.observe.slot_place.Goals as goal
use Rattle.control.proofs.observe.slot_place.Invariants.{bears}

-- a place that is not in use, or whose slot has the number, is the first from it on
stops : (t : VoterSlotTable) (p : VoterSlotRecord → Bool) (i : ℕ) → (leb t.count i || p (slot_at t i)) ≡ true → i ≡ place_from t p i
stops t p i = go (leb t.count i) refl
  where
    go : (b : Bool) → leb t.count i ≡ b → (b || p (slot_at t i)) ≡ true → i ≡ place_from t p i
    go true e h = sym (first-none (λ k. p (slot_at t k)) t.count i (leb-true _ _ e))
    go false e h = sym (first-stop (λ k. p (slot_at t k)) t.count i (leb-false _ _ e) h)

-- at any other the first is among those after it
goes_on : (t : VoterSlotTable) (p : VoterSlotRecord → Bool) (i : ℕ) → (leb t.count i || p (slot_at t i)) ≡ false → place_from t p (i + 1) ≡ place_from t p i
goes_on t p i = go (leb t.count i) refl
  where
    go : (b : Bool) → leb t.count i ≡ b → (b || p (slot_at t i)) ≡ false → place_from t p (i + 1) ≡ place_from t p i
    go true e h = absurd (false≢true (sym h))
    go false e h = sym (first_more (λ k. p (slot_at t k)) t.count i (leb-false _ _ e) h)

pub loop-i-init : goal.loop-i-init
loop-i-init c = (omega arith, sym (first-none (λ k. bears c.args.slot (slot_at c.args.table k)) c.args.table.count 9 c.requires))

pub loop-i-preserved-then-table-i : goal.loop-i-preserved-then-table-i
loop-i-preserved-then-table-i c =
    let s = c.args in
    let i = c.loop-i.i in
    (omega arith, stops s.table (bears s.slot) (i - 1) c.if-table-i.true)

pub loop-i-preserved : goal.loop-i-preserved
loop-i-preserved c =
    let s = c.args in
    let l = c.loop-i in
    let e : l.i ≡ l.i - 1 + 1 = omega arith in
    (omega arith, l.invariant.1 ∙ (ap (place_from s.table (bears s.slot)) e ∙ goes_on s.table (bears s.slot) (l.i - 1) c.if-table-i.false))

pub returns : goal.returns
returns c =
    let s = c.args in
    let l = c.loop-i in
    let e : l.i ≡ 0 = omega arith in
    l.invariant.1 ∙ (ap (place_from s.table (bears s.slot)) e ∙ place-first s.table (bears s.slot))
