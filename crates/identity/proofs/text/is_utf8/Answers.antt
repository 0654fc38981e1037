-- `identity::text::is_utf8` meets its contract. Assumes nothing.
use Rattle.identity.specs.Text.{is_utf8}
use Rattle.identity.proofs.text.is_utf8.Goals as goal

pub returns : goal.returns
unfolding is_utf8
returns c = c.all_allowed.ensures
