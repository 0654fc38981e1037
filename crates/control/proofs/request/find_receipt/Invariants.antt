-- `control::request::find_receipt` meets its contract: what was found is at the first of the places passed. Assumes nothing.
use mathlib.Core.Path.{◌≡◌}
use Rattle.std.specs.Prelude.{Some, None}
use Rattle.control.specs.BeginJudge.{has_digest, has_receipt, read_at}
use Rattle.control.specs.BeginJudgeLaws.{place_from}
use Rattle.control.proofs.request.find_receipt.Given as goal

abbrev pub invariant-loop-i : goal.invariant-loop-i
invariant-loop-i l = l.found ≡ read_at l.table (place_from l.table (has_receipt l.id) l.i) (λ s. Some (has_digest l.digest s)) None
