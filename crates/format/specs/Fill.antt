-- Bytes laid into a place of zeros from its start, and what a test that fails refuses: lemmas
-- alone. For the writers and readers of `layout`, `reader` and `writer`.
-- Assumes nothing.
use Rattle.std.specs.Prelude.{ℕ, zero, suc, ◌-◌, false, ◌≡◌, refl, List, ◌++◌, length, drop, replicate, eqb}
use Rattle.std.proofs.Common.{arith, zero-add, ap, ◌∙◌, append-nil}
use Rattle.format.specs.Res.{and_then}
use Rattle.format.specs.Res.Res.{ok, no}
use Rattle.format.specs.Combinators.{Codec, check, dec_check, gate}
use Rattle.format.specs.Copy.{zeros, drop-replicate}
use Rattle.format.specs.Put.{put}

-- l at the start of k zeros
pub put-zeros : (l : List ℕ) (k : ℕ) → put l 0 (zeros k) ≡ l ++ replicate (k - length l) 0
unfolding put zeros
put-zeros l k = ap (λ n. l ++ drop n (replicate k 0)) (zero-add (length l)) ∙ ap (λ t. l ++ t) (drop-replicate (length l) k 0)

-- l fills the place
pub put_whole : (l : List ℕ) (k : ℕ) → length l ≡ k → put l 0 (zeros k) ≡ l
put_whole l k e =
    let z : k - length l ≡ 0 = omega arith in
    put-zeros l k ∙ ap (λ n. l ++ replicate n 0) z ∙ append-nil l

pub gate-refused : {A : Type 0} (k : ℕ) (a : A) (n : ℕ) → eqb k 0 ≡ false → gate k a n ≡ no k
unfolding gate
gate-refused zero a n e = absurd (let z : ◌≡◌ {A = ℕ} 0 1 = cc in omega arith)
gate-refused (suc k) a n e = refl

-- a value that fails its test is refused by the test's number
pub checked_refused : {A : Type 0} (C : Codec A) (test : A → ℕ) (bs : List ℕ) {a : A} {n : ℕ} → C.dec bs ≡ ok a n → eqb (test a) 0 ≡ false
    → (check C test).dec bs ≡ no (test a)
unfolding check dec_check and_then
checked_refused C test bs {a} {n} p q = rw p (gate-refused (test a) a n q)
