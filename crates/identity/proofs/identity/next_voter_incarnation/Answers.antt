-- `identity::identity::next_voter_incarnation` meets its contract: what passed the check is small enough for one more. Assumes nothing.
use native.Mathlib.Omega.{arith}
use Rattle.std.proofs.Common.{sym, ap}
use Rattle.identity.specs.Answer.{is_accepted}
use Rattle.identity.proofs.IdentityLaws.{incarnation-within}
use Rattle.identity.proofs.identity.next_voter_incarnation.Goals as goal

pub overflow_add-result : goal.overflow_add-result
overflow_add-result c = omega (arith, (incarnation-within _ (sym (ap is_accepted c.in_ok-validate_voter_incarnation.ensures))).below)
