-- `questions::input::read_full` gives a count within the buffer. Assumes nothing.
use Rattle.std.specs.Prelude.{length, ◌≤◌}
use Rattle.questions.proofs.input.read_full.Given as goal

abbrev pub invariant-loop : goal.invariant-loop
invariant-loop g l = l.done ≤ length l.buffer
