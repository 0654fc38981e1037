-- `control::apply::apply_control_in_place` meets its contract: a table that the tests pass is valid. Assumes nothing.
use mathlib.Core.Path.{ap, sym}
use Rattle.identity.specs.Answer.{is_accepted}
use Rattle.control.specs.VerdictLaws.{entry-valid}
use Rattle.control.proofs.apply.apply_control_in_place.Goals as goal

pub apply_in_place-requires : goal.apply_in_place-requires
apply_in_place-requires c = entry-valid c.args.table.now c.args.command.control c.args.command.cut (sym (ap is_accepted c.in_ok-checked.ensures))
