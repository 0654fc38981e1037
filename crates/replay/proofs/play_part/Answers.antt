-- `replay::play_part` meets its contract: `play` is given the part that is held; it reads no more than there is, and writes no more than has room. Assumes nothing.
use Prim.Native.Nat.{◌-◌}
use native.Mathlib.Omega.{arith}
use lib.ListN.{length-drop, length-take, drop}
use borrow.Author.Rules.{rules}
use Rattle.journal.proofs.PlayLaws.{play-fits}
use Rattle.replay.proofs.play_part.Goals as goal

pub shape_of-output : goal.shape_of-output
shape_of-output c = search rules

pub returns : goal.returns
returns c =
    let a = c.args in
    let r = c.play.result in
    let f = play-fits a.journal _ a.at.last a.output.now _ r.answer r.read r.written r.journal c.play.ensures.played (shape_of-output c) in
    let t = length-take (a.at.held - a.at.start) (drop a.at.start a.input.now) in
    let d = length-drop a.at.start a.input.now in
    let x = f.0 in
    let y = f.1 in
    let s = shape_of-output c in
    (c.play.ensures.played, (omega arith, omega arith))
