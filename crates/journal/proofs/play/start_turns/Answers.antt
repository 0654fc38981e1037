-- `journal::play::start_turns` meets its contract. Assumes nothing.
use native.Mathlib.Omega.{arith}
use Rattle.journal.proofs.play.start_turns.Goals as goal

pub returns-then-stops : goal.returns-then-stops
returns-then-stops c = (rw c.if-stops.true, omega arith)

pub returns-then-counts-lines : goal.returns-then-counts-lines
returns-then-counts-lines c = (rw c.if-stops.false (omega arith), omega arith)

pub returns : goal.returns
returns c = (rw c.if-stops.false (omega arith), omega arith)
