-- The number of each answer: document 01, "Refusals from the input", "Refusals from the state", and
-- 0 for accepted.
-- 1 to 7 are `VoterSlotError`, 11 to 28 number `VoterReplacementError` in its order, 30 to 33 are
-- document 01's own.
-- Assumes nothing.
use Rattle.std.specs.Prelude.{ℕ, Bool, Result, Ok, Err, is_ok}
use Rattle.identity.specs.declared.answer.Refusal.{Refusal}
use Rattle.identity.specs.declared.answer.Refusal.TheVariants as refusal

-- the refusals in the order of their numbers
abbrev pub number_of_refusal : Refusal → ℕ
number_of_refusal refusal.InvalidSlot = 1
number_of_refusal refusal.InvalidIncarnation = 2
number_of_refusal refusal.IncarnationExhausted = 3
number_of_refusal refusal.FreshInstallationRequired = 4
number_of_refusal refusal.TooLarge = 5
number_of_refusal refusal.InvalidRecord = 6
number_of_refusal refusal.Regression = 7
number_of_refusal refusal.InvalidLossEvidence = 12
number_of_refusal refusal.StaleIncarnation = 13
number_of_refusal refusal.IdempotencyConflict = 14
number_of_refusal refusal.ReplacementInProgress = 15
number_of_refusal refusal.NoSurvivingQuorum = 16
number_of_refusal refusal.ReplacementPastFence = 19
number_of_refusal refusal.ConfigurationEpochExhausted = 23
number_of_refusal refusal.RevisionExhausted = 24
number_of_refusal refusal.InvalidTransition = 25
number_of_refusal refusal.Unrepresentable = 30
number_of_refusal refusal.NotRising = 31
number_of_refusal refusal.BufferTooShort = 32
number_of_refusal refusal.BadRecord = 33

-- what a call answers that gives nothing but its success
abbrev pub Answer : Type 0
Answer = Result (Unit {0}) Refusal

-- "Accepted is 0."
abbrev pub number_of : Answer → ℕ
number_of (Ok nothing) = 0
number_of (Err e) = number_of_refusal e

-- its number is 0 (`accepted-is-0` of AnswerLaws)
abbrev pub is_accepted : Answer → Bool
is_accepted a = is_ok a

-- The answers by name.
abbrev pub Accepted : Answer
Accepted = Ok tt

abbrev pub InvalidSlot : Answer
InvalidSlot = Err refusal.InvalidSlot

abbrev pub InvalidIncarnation : Answer
InvalidIncarnation = Err refusal.InvalidIncarnation

abbrev pub IncarnationExhausted : Answer
IncarnationExhausted = Err refusal.IncarnationExhausted

abbrev pub FreshInstallationRequired : Answer
FreshInstallationRequired = Err refusal.FreshInstallationRequired

abbrev pub TooLarge : Answer
TooLarge = Err refusal.TooLarge

abbrev pub InvalidRecord : Answer
InvalidRecord = Err refusal.InvalidRecord

abbrev pub Regression : Answer
Regression = Err refusal.Regression

abbrev pub InvalidLossEvidence : Answer
InvalidLossEvidence = Err refusal.InvalidLossEvidence

abbrev pub StaleIncarnation : Answer
StaleIncarnation = Err refusal.StaleIncarnation

abbrev pub IdempotencyConflict : Answer
IdempotencyConflict = Err refusal.IdempotencyConflict

abbrev pub ReplacementInProgress : Answer
ReplacementInProgress = Err refusal.ReplacementInProgress

abbrev pub NoSurvivingQuorum : Answer
NoSurvivingQuorum = Err refusal.NoSurvivingQuorum

abbrev pub ReplacementPastFence : Answer
ReplacementPastFence = Err refusal.ReplacementPastFence

abbrev pub ConfigurationEpochExhausted : Answer
ConfigurationEpochExhausted = Err refusal.ConfigurationEpochExhausted

abbrev pub RevisionExhausted : Answer
RevisionExhausted = Err refusal.RevisionExhausted

abbrev pub InvalidTransition : Answer
InvalidTransition = Err refusal.InvalidTransition

abbrev pub Unrepresentable : Answer
Unrepresentable = Err refusal.Unrepresentable

abbrev pub NotRising : Answer
NotRising = Err refusal.NotRising

abbrev pub BufferTooShort : Answer
BufferTooShort = Err refusal.BufferTooShort

abbrev pub BadRecord : Answer
BadRecord = Err refusal.BadRecord
