-- `identity::text::is_segment_byte` meets its contract by that of `is_domain_byte`. Assumes nothing.
use mathlib.Core.Path.{ap}
use mathlib.Core.Bool.{Bool, ◌&&◌, ◌||◌}
use lib.Dec.{leb}
use Rattle.identity.proofs.text.is_segment_byte.Goals as goal

pub returns : goal.returns
returns c =
    let b = c.args.b in
    ap (λ (t : Bool). (leb 65 b && leb b 90) || t) c.is_domain_byte.ensures
