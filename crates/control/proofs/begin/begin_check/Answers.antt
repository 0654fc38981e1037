-- `control::begin::begin_check` meets its contract: the tests in their order. Assumes nothing.
use Rattle.control.specs.BeginJudgeLaws.{and-answers, then-assoc}
use Rattle.control.proofs.begin.begin_check.Goals as goal

pub returns : goal.returns
returns c = simp (c.and-3.ensures, c.and-2.ensures, c.and.ensures, and-answers, then-assoc, c.open_check-open.ensures, c.slot_check-slot.ensures, c.full_check-full.ensures)
