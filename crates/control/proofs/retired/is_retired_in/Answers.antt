-- `control::retired::is_retired_in` meets its contract: an identity that was read is looked for, and where reading is refused the answer is no. Assumes nothing.
use Rattle.std.specs.Prelude.{Ok}
use Prim.Native.Nat.{ℕ, ◌≤◌}
use mathlib.Core.Path.{◌≡◌, sym, subst}
use Rattle.identity.specs.Identity.{from_node_id}
use Rattle.identity.proofs.IdentityLaws.{TellingIdentity, read-telling}
use Rattle.identity.specs.declared.identity.VoterSlotIdentity.{VoterSlotIdentity}
use Rattle.control.proofs.retired.is_retired_in.Goals as goal

-- an identity that was read has a slot above 0
has-slot : (node : ℕ) (identity : VoterSlotIdentity) → from_node_id node ≡ Ok identity → 1 ≤ identity.slot
has-slot node identity h = (subst TellingIdentity h (read-telling node)).slot.above

pub is_retired_identity-requires : goal.is_retired_identity-requires
is_retired_identity-requires c = has-slot c.args.node c.in-Ok.identity (sym c.in-Ok.ensures)
