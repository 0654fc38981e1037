-- `identity::text::is_allowed` meets its contract: each arm is the case of `allows` for its rule. Assumes nothing.
use mathlib.Core.Path.{ap}
use mathlib.Core.Bool.{not, ◌&&◌}
use Rattle.identity.proofs.text.is_allowed.Goals as goal

pub returns-in-NoControl : goal.returns-in-NoControl
returns-in-NoControl c = rw c.in-NoControl.is (ap not c.is_control.ensures)

pub returns-in-NoControlNoWhitespace : goal.returns-in-NoControlNoWhitespace
returns-in-NoControlNoWhitespace c = rw c.in-NoControlNoWhitespace.is (λ i. not (c.is_control-in-NoControlNoWhitespace.ensures i) && not (c.is_whitespace.ensures i))
