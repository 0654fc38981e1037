-- `voter_slots::result::refused` meets its contract. Assumes nothing.
use mathlib.Core.Path.{ap}
use Rattle.voter_slots.specs.Export.{refused_result}
use Rattle.voter_slots.proofs.result.refused.Goals as goal

pub returns : goal.returns
returns c = ap refused_result c.number.ensures
