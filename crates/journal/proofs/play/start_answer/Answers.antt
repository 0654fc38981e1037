-- `journal::play::start_answer` meets its contract. Assumes nothing.
use mathlib.Core.Path.{sym, ap, ◌∙◌}
use mathlib.Core.Bool.{Bool}
use Rattle.journal.specs.Play.{start_answer}
use Rattle.journal.proofs.play.start_answer.Goals as goal

pub returns-then-stands : goal.returns-then-stands
returns-then-stands c = c.validate_table.ensures ∙ ap (λ (b : Bool). start_answer b c.args.table) (sym c.if-stands.true)

pub returns : goal.returns
returns c = ap (λ (b : Bool). start_answer b c.args.table) (sym c.if-stands.false)
