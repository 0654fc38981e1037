-- `identity::identity::validate_slot_id` meets its contract: a u16 is at most the largest slot. Assumes nothing.
use native.Mathlib.Omega.{arith}
use borrow.Author.Tests.{le-leb}
use Rattle.identity.specs.Identity.{max_slot_id, validate_slot_id}
use Rattle.identity.proofs.identity.validate_slot_id.Goals as goal

pub returns-then-value-eq0 : goal.returns-then-value-eq0
unfolding validate_slot_id
returns-then-value-eq0 c = rw c.if-value-eq0.true

pub returns : goal.returns
unfolding validate_slot_id
returns c = let v = c.args.value in
    rw (le-leb 1 v (omega arith), le-leb v max_slot_id (omega arith))
