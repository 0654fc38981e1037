-- Demand 1 of commands and observations: a call that is refused returns the table that it was
-- given. Of all values, invalid tables included.
-- The laws are `refused-command` and `refused-observation`, about the definitions that the
-- contracts of the entry points name.
-- Assumes nothing.
use Rattle.std.specs.Prelude.{ℕ, refl, ◌≡◌, false, ◌&&◌, List}
use Rattle.std.proofs.Common.{sym}
use Rattle.std.proofs.lemmas.Bool.{false≢true}
use Rattle.identity.specs.Answer.{is_accepted, Answer}
use Rattle.records.specs.declared.records.VoterSlotLogId.{VoterSlotLogId}
use Rattle.records.specs.declared.records.VoterSlotTable.{VoterSlotTable}
use Rattle.records.specs.Evidence.{valid_log_id}
use Rattle.records.specs.Representable.{representable}
use Rattle.records.specs.Successor.{validate_successor_of}
use Rattle.records.specs.TestLaws.{by-test}
use Rattle.records.specs.Validation.{validity}
use Rattle.control.specs.declared.control.VoterSlotControl.{VoterSlotControl}
use Rattle.control.specs.Control.{Decision, settle, representable_control, decide, apply_control}
use Rattle.control.specs.Control.Decision.{refuse, keep, change}
use Rattle.control.specs.Observation.{is_rising, all_rising, split_sets, representable_sets, observe, observe_membership}

-- an answer that is no acceptance comes with that table
abbrev Returns : VoterSlotTable → Answer × VoterSlotTable → Type 0
Returns t r = is_accepted r.0 ≡ false → r.1 ≡ t

settle-returns : (t : VoterSlotTable) (d : Decision) → Returns t (settle t d)
unfolding settle
settle-returns t (refuse answer) = λ h. refl
settle-returns t keep = λ h. refl
settle-returns t (change next) = by-test (Returns t) (is_accepted (validate_successor_of next t)) (λ _ h. absurd (false≢true (sym h))) (λ _ h. refl)

pub refused-command : (t : VoterSlotTable) (c : VoterSlotControl) (cut : VoterSlotLogId) → is_accepted (apply_control t c cut).0 ≡ false → (apply_control t c cut).1 ≡ t
unfolding apply_control
refused-command t c cut =
    by-test (Returns t) (representable t && representable_control c)
    (λ _. by-test (Returns t) (is_accepted (validity t) && valid_log_id cut) (λ _. settle-returns t (decide t c cut)) (λ _ h. refl))
    (λ _ h. refl)

pub refused-observation : (t : VoterSlotTable) (ids counts nodes : List ℕ) (cut : VoterSlotLogId) → is_accepted (observe_membership t ids counts nodes cut).0 ≡ false
    → (observe_membership t ids counts nodes cut).1 ≡ t
unfolding observe_membership
refused-observation t ids counts nodes cut =
    by-test (Returns t) (representable t && representable_sets ids counts nodes)
    (λ _. by-test (Returns t) (all_rising (split_sets ids counts) && is_rising nodes) (λ _. settle-returns t (observe t (split_sets ids counts) nodes cut)) (λ _ h. refl))
    (λ _ h. refl)
