-- `journal::play::turns_after` meets its contract. Assumes nothing.
use Rattle.journal.proofs.play.turns_after.Goals as goal

pub returns : goal.returns
returns c = rw c.if-ends.false
