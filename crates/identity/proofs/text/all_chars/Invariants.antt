-- `identity::text::all_chars` meets its contract: what is left to decide is whether the rest is text
-- that the rule allows. Assumes nothing.
use Rattle.std.proofs.Common.{ℕ, ◌≡◌, length}
use Rattle.identity.specs.Utf8.{all_chars}
use Rattle.identity.specs.Text.{allows}
use Rattle.identity.proofs.text.all_chars.Given as goal

abbrev pub invariant-loop-code : goal.invariant-loop-code
invariant-loop-code l = all_chars (allows l.rule) l.bytes ≡ all_chars (allows l.rule) l.rest

abbrev pub decreases-loop-code : goal.decreases-loop-code
decreases-loop-code l = length l.rest
