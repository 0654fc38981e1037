-- `replay::shift` meets its contract: what `copy_within` pastes at the front is what lay from start on. Assumes nothing.
use Rattle.std.proofs.Common.{◌≡◌, ◌+◌, ◌-◌, length, take, drop, ap, ◌∙◌, refl, arith, length-drop}
use lib.Seq.{paste}
use Rattle.std.proofs.lemmas.List.Edits.{take-paste}
use Rattle.replay.proofs.shift.Goals as goal

pub returns : goal.returns
returns c =
    let all = c.args.input.now in
    let left = c.args.end - c.args.start in
    let rest = drop c.args.start all in
    let same : left ≡ 0 + left = omega arith in
    let long : length rest ≡ length all - c.args.start = length-drop c.args.start all in
    (refl, ap (take left) c.copy_within.ensures.after ∙ ap (λ k. take k (paste all 0 rest left)) same ∙ take-paste all 0 rest left (omega arith) (omega arith))
