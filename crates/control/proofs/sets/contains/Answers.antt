-- `control::sets::contains` meets its contract: the answer so far is that of the ids passed. Assumes nothing.
use mathlib.Core.Path.{sym, refl, ap, ◌∙◌}
use mathlib.Core.Bool.{Bool, ◌||◌}
use Prim.Native.Nat.{◌<◌}
use native.Mathlib.Omega.{arith}
use lib.ListN.{length, get_or}
use lib.Seq.{take_all}
use lib.Dec.{eqb}
use Rattle.control.specs.Observation.{contains}
use Rattle.control.specs.ObserveSetsLaws.{contains-more}
use Rattle.control.proofs.sets.contains.Goals as goal

pub loop-i-init : goal.loop-i-init
unfolding contains
loop-i-init c = refl

pub loop-i-preserved : goal.loop-i-preserved
loop-i-preserved c =
    let i = c.loop-i.i in
    let set = c.args.set.now in
    let id = c.args.id in
    let h : i < length set = omega arith in
    ap (λ (t : Bool). t || eqb id (get_or set i 0)) c.loop-i.invariant ∙ sym (contains-more id set i h)

pub returns : goal.returns
returns c =
    let s = c.args in
    c.loop-i.invariant ∙ ap (contains s.id) (take_all c.loop-i.i s.set.now (omega arith))
