-- `identity::identity::VoterSlotIdentity::from_node_id` meets its contract. Assumes nothing.
use Rattle.identity.specs.Identity.{from_node_id}
use Rattle.identity.proofs.identity.VoterSlotIdentity.from_node_id.Goals as goal

pub returns : goal.returns
unfolding from_node_id
returns c = c.new.ensures
