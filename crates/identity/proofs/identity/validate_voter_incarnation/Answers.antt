-- `identity::identity::validate_voter_incarnation` meets its contract. Assumes nothing.
use native.Mathlib.Omega.{arith}
use borrow.Author.Tests.{le-leb, lt-leb}
use Rattle.identity.specs.Identity.{max_voter_incarnation, validate_voter_incarnation}
use Rattle.identity.proofs.identity.validate_voter_incarnation.Goals as goal

pub returns-then-value-eq0 : goal.returns-then-value-eq0
unfolding validate_voter_incarnation
returns-then-value-eq0 c = rw c.if-value-eq0.true

pub returns-then-value-gt-MAX_VOTER_INCARNATION : goal.returns-then-value-gt-MAX_VOTER_INCARNATION
unfolding validate_voter_incarnation
returns-then-value-gt-MAX_VOTER_INCARNATION c = let v = c.args.value in
    rw (le-leb 1 v (omega arith), lt-leb v max_voter_incarnation (omega arith))

pub returns : goal.returns
unfolding validate_voter_incarnation
returns c = let v = c.args.value in
    rw (le-leb 1 v (omega arith), le-leb v max_voter_incarnation (omega arith))
