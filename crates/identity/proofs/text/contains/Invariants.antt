-- `identity::text::contains` meets its contract: the answer so far is that of the elements passed. Assumes nothing.
use Rattle.std.proofs.Common.{◌≡◌, take}
use Rattle.identity.specs.Text.{is_in}
use Rattle.identity.proofs.text.contains.Given as goal

abbrev pub invariant-loop-one : goal.invariant-loop-one
invariant-loop-one l = l.found ≡ is_in (take l.one-index l.list) l.code
