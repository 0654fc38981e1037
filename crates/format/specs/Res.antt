-- What reading gives: a value with the count of bytes read, or the number of a refusal.
-- The `Result` that the readers of codec.rs give, by document 01's numbers.
-- Assumes nothing.
use Rattle.std.specs.Prelude.{ℕ, ◌≡◌, refl}
use Rattle.std.proofs.Common.{arith}

-- accepted, or refused by a number
pub data Res (A : Type 0) : Type 0 where
  ok : A → ℕ → Res A
  no : ℕ → Res A

-- The two refusals that a form has of its own, by document 01's numbers: bad bytes, and more bytes
-- than a bound allows. A test may refuse by any number.
abbrev pub malformed : ℕ
malformed = 6

abbrev pub too_large : ℕ
too_large = 5

-- the Rust's `?`: go on with the value and the count, or pass the refusal on
unfoldable pub and_then : {A B : Type 0} → Res A → (A → ℕ → Res B) → Res B
and_then (ok a n) f = f a n
and_then (no k) f = no k

pub ok-value : {A : Type 0} {a b : A} {n m : ℕ} → ◌≡◌ {A = Res A} (ok a n) (ok b m) → a ≡ b
ok-value e = cc

pub ok-count : {A : Type 0} {a b : A} {n m : ℕ} → ◌≡◌ {A = Res A} (ok a n) (ok b m) → n ≡ m
ok-count e = cc

pub no_ok : {A : Type 0} {b : A} {k m : ℕ} → ◌≡◌ {A = Res A} (no k) (ok b m) → ⊥
no_ok e = let z : ◌≡◌ {A = ℕ} 0 1 = cc in omega arith

-- a chain that ends well began well
pub began : {A B : Type 0} {b : B} {m : ℕ} (x : Res A) (f : A → ℕ → Res B) → and_then x f ≡ ok b m → (a : A) × (n : ℕ) × (x ≡ ok a n) × (f a n ≡ ok b m)
unfolding and_then
began (ok a n) f e = (a, n, refl, e)
began (no k) f e = absurd (no_ok e)
