-- `journal::play::open_log` meets its contract. Assumes nothing.
use lib.ListN.{length}
use Rattle.journal.specs.Play.{Goes, Safe, opened_at}
use Rattle.journal.proofs.play.open_log.Given as goal

abbrev pub invariant-loop-place : goal.invariant-loop-place
invariant-loop-place l =
    Goes l.input l.last (opened_at l.initial.place l.initial.stands l.initial.table) l.initial.out (opened_at l.place l.stands l.table) l.out × Safe l.input (length l.out) (opened_at l.place l.stands l.table)

abbrev pub decreases-loop-place : goal.decreases-loop-place
decreases-loop-place l = l.place.turns
