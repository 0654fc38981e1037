-- `identity::identity::VoterSlotIdentity::node_id` meets its contract: the number of an identity that passed its check fits 63 bits. Assumes nothing.
use native.Mathlib.Omega.{arith}
use Rattle.std.proofs.Common.{sym, ap}
use Rattle.identity.specs.Answer.{is_accepted}
use Rattle.identity.proofs.IdentityLaws.{Sound, identity-sound}
use Rattle.identity.proofs.identity.VoterSlotIdentity.node_id.Goals as goal
use Rattle.identity.proofs.identity.VoterSlotIdentity.node_id.Goals.{In_ok-validate}

sound : (c : In_ok-validate) → Sound c.args.self
sound c = identity-sound c.args.self (sym (ap is_accepted c.in_ok-validate.ensures))

pub overflow_sub-result : goal.overflow_sub-result
overflow_sub-result c = omega (arith, (sound c.before).incarnation.above)

pub overflow_mul-result : goal.overflow_mul-result
overflow_mul-result c = omega (arith, (sound c.before).incarnation.below)

pub overflow_add-result : goal.overflow_add-result
overflow_add-result c = omega (arith, (sound c.before.before).incarnation.below, (sound c.before.before).slot.below)
