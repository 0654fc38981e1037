-- `control::observe::with_phase` meets its contract: up to the place nothing is stored, and after it that one phase. Assumes nothing.
use Prim.Native.Nat.{ℕ}
use mathlib.Core.Path.{refl, ap₂, ◌∙◌}
use native.Mathlib.Omega.{arith}
use Rattle.records.specs.declared.records.VoterSlotTable.{VoterSlotTable}
use Rattle.control.proofs.observe.with_phase.Goals as goal
use Rattle.control.proofs.observe.with_phase.Goals.{then-i-at, else-i-at}
use Rattle.control.proofs.observe.with_phase.Invariants.{phased}

pub loop-i-init : goal.loop-i-init
loop-i-init c = (omega arith, (λ l. refl, λ l. absurd (omega arith)))

pub loop-i-preserved : goal.loop-i-preserved
loop-i-preserved c =
    let a = c.args in
    let l = c.loop-i in (
      omega arith,
      (
        λ h. elim c.if-i-at.branch [ then-i-at w ↦ absurd (omega arith) | else-i-at w ↦ w.next-is ∙ l.invariant.1.0 (omega arith) ],
        λ h.
            elim c.if-i-at.branch [
              | then-i-at w ↦ w.next-is ∙ ap₂ (λ (u : VoterSlotTable) (k : ℕ). phased u k a.phase) (l.invariant.1.0 (omega arith)) w.if-i-at.true
              | else-i-at w ↦ let n = w.if-i-at.false in w.next-is ∙ l.invariant.1.1 (omega arith)
            ],
      ),
    )

pub returns : goal.returns
returns c =
    let p = c.requires in
    c.loop-i.invariant.1.1 (omega arith)
