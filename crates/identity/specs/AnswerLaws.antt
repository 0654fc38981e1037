-- Laws of the answers: no two have one number, and what a call of `accepted` on a callee's answer
-- tells of the definition.
-- Each name here is a step of a proof or a law for the layers above; what is right is said in
-- Answer.
-- Assumes nothing.
use Rattle.std.specs.Prelude.{ℕ, ◌<◌, ◌≡◌, refl, Bool, true, false, cond, not, eqb, Ok, Err}
use Rattle.std.proofs.Common.{sym, ap, ◌∙◌, arith, lit<}
use Rattle.std.proofs.lemmas.Bool.{not-true, not-false}
use Rattle.identity.specs.declared.answer.Refusal.TheVariants as refusal
use Rattle.identity.specs.declared.answer.Refusal.{Refusal}
use Rattle.identity.specs.Answer.{Answer, number_of, number_of_refusal, is_accepted, Accepted, InvalidSlot, InvalidIncarnation, IncarnationExhausted, FreshInstallationRequired, TooLarge, InvalidRecord, Regression, InvalidLossEvidence, StaleIncarnation, IdempotencyConflict, ReplacementInProgress, NoSurvivingQuorum, ReplacementPastFence, ConfigurationEpochExhausted, RevisionExhausted, InvalidTransition, Unrepresentable, NotRising, BufferTooShort, BadRecord}

-- ---- the answer of a number

at : ℕ → ℕ → Answer → Answer → Answer
at n m a b = cond (eqb n m) a b

answer_of : ℕ → Answer
unfolding at
answer_of n =
    at n 1 InvalidSlot
    (at n 2 InvalidIncarnation
    (at n 3 IncarnationExhausted
    (at n 4 FreshInstallationRequired
    (at n 5 TooLarge
    (at n 6 InvalidRecord
    (at n 7 Regression
    (at n 12 InvalidLossEvidence
    (at n 13 StaleIncarnation
    (at n 14 IdempotencyConflict
    (at n 15 ReplacementInProgress
    (at n 16 NoSurvivingQuorum
    (at n 19 ReplacementPastFence
    (at n 23 ConfigurationEpochExhausted
    (at n 24 RevisionExhausted
    (at n 25 InvalidTransition
    (at n 30 Unrepresentable
    (at n 31 NotRising
    (at n 32 BufferTooShort
    (at n 33 BadRecord Accepted)))))))))))))))))))

answer-of-number : (a : Answer) → answer_of (number_of a) ≡ a
unfolding answer_of
answer-of-number (Ok nothing) = refl
answer-of-number (Err refusal.InvalidSlot) = refl
answer-of-number (Err refusal.InvalidIncarnation) = refl
answer-of-number (Err refusal.IncarnationExhausted) = refl
answer-of-number (Err refusal.FreshInstallationRequired) = refl
answer-of-number (Err refusal.TooLarge) = refl
answer-of-number (Err refusal.InvalidRecord) = refl
answer-of-number (Err refusal.Regression) = refl
answer-of-number (Err refusal.InvalidLossEvidence) = refl
answer-of-number (Err refusal.StaleIncarnation) = refl
answer-of-number (Err refusal.IdempotencyConflict) = refl
answer-of-number (Err refusal.ReplacementInProgress) = refl
answer-of-number (Err refusal.NoSurvivingQuorum) = refl
answer-of-number (Err refusal.ReplacementPastFence) = refl
answer-of-number (Err refusal.ConfigurationEpochExhausted) = refl
answer-of-number (Err refusal.RevisionExhausted) = refl
answer-of-number (Err refusal.InvalidTransition) = refl
answer-of-number (Err refusal.Unrepresentable) = refl
answer-of-number (Err refusal.NotRising) = refl
answer-of-number (Err refusal.BufferTooShort) = refl
answer-of-number (Err refusal.BadRecord) = refl

-- Two answers of one number are the same.
pub number-injective : (a b : Answer) → number_of a ≡ number_of b → a ≡ b
number-injective a b e = sym (answer-of-number a) ∙ (ap answer_of e ∙ answer-of-number b)

-- No two refusals have one number, and none has 0.
pub refusal-injective : (a b : Refusal) → number_of_refusal a ≡ number_of_refusal b → a ≡ b
refusal-injective a b e = let z : ◌≡◌ {A = Answer} (Err a) (Err b) = number-injective (Err a) (Err b) e in cc

pub refusal-not-0 : (a : Refusal) → 0 ≡ number_of_refusal a → ⊥
refusal-not-0 a e =
    let z : ◌≡◌ {A = Answer} Accepted (Err a) = number-injective Accepted (Err a) e in
    let y : ◌≡◌ {A = ℕ} 0 1 = cc in
    omega arith

-- "Accepted is 0", and no refusal is.
pub accepted-is-0 : (a : Answer) → is_accepted a ≡ eqb (number_of a) 0
accepted-is-0 (Ok nothing) = refl
accepted-is-0 (Err refusal.InvalidSlot) = refl
accepted-is-0 (Err refusal.InvalidIncarnation) = refl
accepted-is-0 (Err refusal.IncarnationExhausted) = refl
accepted-is-0 (Err refusal.FreshInstallationRequired) = refl
accepted-is-0 (Err refusal.TooLarge) = refl
accepted-is-0 (Err refusal.InvalidRecord) = refl
accepted-is-0 (Err refusal.Regression) = refl
accepted-is-0 (Err refusal.InvalidLossEvidence) = refl
accepted-is-0 (Err refusal.StaleIncarnation) = refl
accepted-is-0 (Err refusal.IdempotencyConflict) = refl
accepted-is-0 (Err refusal.ReplacementInProgress) = refl
accepted-is-0 (Err refusal.NoSurvivingQuorum) = refl
accepted-is-0 (Err refusal.ReplacementPastFence) = refl
accepted-is-0 (Err refusal.ConfigurationEpochExhausted) = refl
accepted-is-0 (Err refusal.RevisionExhausted) = refl
accepted-is-0 (Err refusal.InvalidTransition) = refl
accepted-is-0 (Err refusal.Unrepresentable) = refl
accepted-is-0 (Err refusal.NotRising) = refl
accepted-is-0 (Err refusal.BufferTooShort) = refl
accepted-is-0 (Err refusal.BadRecord) = refl

-- No number reaches 100.
pub number-small : (a : Answer) → number_of a < 100
number-small (Ok nothing) = lit< tt
number-small (Err refusal.InvalidSlot) = lit< tt
number-small (Err refusal.InvalidIncarnation) = lit< tt
number-small (Err refusal.IncarnationExhausted) = lit< tt
number-small (Err refusal.FreshInstallationRequired) = lit< tt
number-small (Err refusal.TooLarge) = lit< tt
number-small (Err refusal.InvalidRecord) = lit< tt
number-small (Err refusal.Regression) = lit< tt
number-small (Err refusal.InvalidLossEvidence) = lit< tt
number-small (Err refusal.StaleIncarnation) = lit< tt
number-small (Err refusal.IdempotencyConflict) = lit< tt
number-small (Err refusal.ReplacementInProgress) = lit< tt
number-small (Err refusal.NoSurvivingQuorum) = lit< tt
number-small (Err refusal.ReplacementPastFence) = lit< tt
number-small (Err refusal.ConfigurationEpochExhausted) = lit< tt
number-small (Err refusal.RevisionExhausted) = lit< tt
number-small (Err refusal.InvalidTransition) = lit< tt
number-small (Err refusal.Unrepresentable) = lit< tt
number-small (Err refusal.NotRising) = lit< tt
number-small (Err refusal.BufferTooShort) = lit< tt
number-small (Err refusal.BadRecord) = lit< tt

-- ---- `let answer = check(..); if !accepted(answer) { .. }`: what is known of the check's
-- definition in each arm

module _ (definition result : Answer) (t : Bool) (met : result ≡ definition) (asked : t ≡ is_accepted result) where
  same_test : t ≡ is_accepted definition
  same_test = asked ∙ ap is_accepted met

  pub refused : not t ≡ true → is_accepted definition ≡ false
  refused h = sym same_test ∙ not-true t h

  pub passed : not t ≡ false → is_accepted definition ≡ true
  passed h = sym same_test ∙ not-false t h
