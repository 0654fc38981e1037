-- A list of conditions: `a and b and c` is `a && (b && c)`. `&&` groups to the left, and would need
-- the parentheses. Both mean the same, and a short list may stand with either.
-- From no part of the Rust: it is how its `require(a && b && c)` is written here.
-- Assumes nothing.
use Rattle.std.specs.Prelude.{Bool, ◌&&◌}

-- both hold
infixr 35 ◌and◌
abbrev pub ◌and◌ : Bool → Bool → Bool
a and b = a && b
