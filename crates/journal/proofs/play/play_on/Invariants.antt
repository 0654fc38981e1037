-- `journal::play::play_on` meets its contract. Assumes nothing.
use mathlib.Core.Path.{◌≡◌}
use mathlib.Core.Bool.{true, false}
use lib.ListN.{length}
use Rattle.journal.specs.Play.{Goes, Safe, opened_at}
use Rattle.journal.proofs.play.play_on.Given as goal

abbrev pub invariant-loop-place : goal.invariant-loop-place
invariant-loop-place l =
    Goes l.input l.last (opened_at l.initial.place true l.initial.t) l.initial.out (opened_at l.place true l.t) l.out × (Safe l.input (length l.out) (opened_at l.place true l.t) × (l.kept.behind ≡ false → l.kept.table ≡ l.t))

abbrev pub decreases-loop-place : goal.decreases-loop-place
decreases-loop-place l = l.place.turns
