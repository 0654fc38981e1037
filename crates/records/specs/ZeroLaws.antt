-- Laws of the test for a blank: bytes against zeros, a bool against false, and a turn of the loop
-- over the places.
-- Each name here is a step of a proof; what is right is said in Equality, Blank and Representable.
-- Assumes nothing.
use Rattle.std.specs.Prelude.{ℕ, ◌+◌, ◌<◌, ◌≡◌, refl, Bool, true, false, not, ◌&&◌, List, [], ◌∷◌, length, get_or, take, replicate}
use Rattle.std.proofs.Common.{sym, ap, ◌∙◌, arith}
use Rattle.std.specs.Bool.{beq}
use Rattle.std.proofs.lemmas.List.{length-replicate, get_or-replicate}
use Rattle.identity.specs.Text.{every}
use Rattle.records.specs.Equality.{eq_list, eq_bytes}
use Rattle.records.specs.EqualityLaws.{eq_list-more}
use Rattle.records.specs.Representable.{is_zero}

-- of the answer of `are_blank`
pub zeros_same : (a : List ℕ) → every is_zero a ≡ eq_bytes a (replicate (length a) 0)
unfolding every
zeros_same [] = refl
zeros_same (x ∷ a) = ap (λ (t : Bool). is_zero x && t) (zeros_same a)

pub eq_bytes-zeros : (a : List ℕ) (n : ℕ) → length a ≡ n → eq_bytes a (replicate n 0) ≡ every is_zero a
eq_bytes-zeros a n h = ap (λ (k : ℕ). eq_bytes a (replicate k 0)) (sym h) ∙ sym (zeros_same a)

pub zeros-blank : (a : List ℕ) (n : ℕ) (t : Bool) → length a ≡ n → t ≡ every is_zero a → t ≡ eq_bytes a (replicate n 0)
zeros-blank a n t h e = e ∙ sym (eq_bytes-zeros a n h)

pub beq-false : (b : Bool) → not b ≡ beq b false
beq-false true = refl
beq-false false = refl

-- a loop over n places without early exit, whose answer so far is `same`: one more place, whose
-- test is t
module _ {A : Type 0} (f : A → A → Bool) (blank : A) where
  pub blank-more : (d : A) (a : List A) (n i : ℕ) (same t : Bool) → length a ≡ n → i < n
      → same ≡ eq_list f (take i a) (take i (replicate n blank)) → t ≡ f (get_or a i d) blank
      → (same && t) ≡ eq_list f (take (i + 1) a) (take (i + 1) (replicate n blank))
  blank-more d a n i same t h k p q =
      eq_list-more f d a (replicate n blank) i same t (omega (arith, h)) (omega (arith, length-replicate n blank)) p
      (q ∙ ap (f (get_or a i d)) (sym (get_or-replicate n i blank d k)))
