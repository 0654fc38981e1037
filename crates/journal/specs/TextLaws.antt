-- Laws of a text that is written: the same bytes in other words.
-- Assumes nothing.
use Rattle.std.specs.Prelude.{ℕ, ◌≡◌, List}
use Rattle.std.proofs.Common.{subst}
use Rattle.format.specs.Put.{Put}

pub put_same : {a b : List ℕ} {at : ℕ} {xs ys : List ℕ} {r : ℕ} → a ≡ b → Put a at xs ys r → Put b at xs ys r
put_same {a} {b} {at} {xs} {ys} {r} e p = subst (λ l. Put l at xs ys r) e p
