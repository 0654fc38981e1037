-- `control::sets::are_held` meets its contract: the answer so far is that of the ids passed. Assumes nothing.
use Rattle.std.proofs.Common.{◌≡◌, take}
use Rattle.identity.specs.Text.{every}
use Rattle.control.specs.Observation.{is_held_node_id}
use Rattle.control.proofs.sets.are_held.Given as goal

abbrev pub invariant-loop-id : goal.invariant-loop-id
invariant-loop-id l = l.all ≡ every is_held_node_id (take l.id-index l.ids)
