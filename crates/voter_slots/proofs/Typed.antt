-- What the type of a slice of bytes says of it: its elements are bytes. Assumes nothing.
use Rattle.std.proofs.Common.{ℕ, List, get_or, Fits, arith}
use mir.Syntax.{w8}
use Rattle.format.specs.Combinators.{Bytes}

pub lent_bytes : (bs : List ℕ) → ((i : ℕ) → Fits w8 (get_or bs i 0)) → Bytes bs
unfolding Bytes
lent_bytes bs h i = omega (arith, h i)
