-- Laws of the makers: what each asks for, and that the one that the verdict names makes the table of
-- what was judged.
-- Assumes nothing.
use Rattle.std.specs.Prelude.{ℕ, ◌<◌, ◌≤◌, ◌≡◌, refl, true, List, Result, Ok, Err}
use Rattle.std.specs.Result.{result_unwrap_or}
use Rattle.std.proofs.Math.Path.{sym}
use Rattle.std.proofs.Common.{arith, ap, ◌∙◌, subst}
use Rattle.std.proofs.lemmas.Bool.{false≢true}
use Rattle.identity.specs.declared.answer.Refusal.{Refusal}
use Rattle.format.specs.Res.{Res}
use Rattle.format.specs.Res.Res.{ok, no}
use Rattle.format.specs.Reads.{left_of, reads}
use Rattle.layout.specs.Layout.{log_id}
use Rattle.layout.specs.Told.{told}
use Rattle.records.specs.Blank.{blank_voter_slot_log_id}
use Rattle.records.specs.declared.records.VoterSlotLogId.{VoterSlotLogId}
use Rattle.records.specs.declared.records.VoterSlotTable.{VoterSlotTable}
use Rattle.control.specs.declared.begin.VoterBegin.{VoterBegin}
use Rattle.control.specs.declared.control.VoterAdvance.{VoterAdvance}
use Rattle.control.specs.Control.{begun, current_configuration, full, named_index, target_index}
use Rattle.control.specs.Judgement.{Addition, Move, Verdict, added, made}
use Rattle.control.specs.Judgement.Move.{begins, records_snapshot, records_caught_up, continues, fences, finalizes}
use Rattle.control.specs.Judgement.Verdict.{moves}
use Rattle.control.specs.ObserveSight.{Room, verdict_of_observed}
use Rattle.control.specs.Verdicts.{step_made, verdict_of}
use Rattle.control.specs.declared.judge.Judged.{Judged}
use Rattle.control.specs.declared.observe.Observed.{Observed}
use Rattle.journal.specs.declared.step.Called.{Called}
use Rattle.journal.specs.declared.step.Called.TheVariants.{Command, Observation}
use Rattle.control.specs.VerdictLaws.{is_step, room_as, target-as}
use Rattle.journal.specs.declared.replay.Mark.{Mark}
use Rattle.journal.specs.declared.replay.Mark.TheVariants.{Ad, Bg}
use Rattle.journal.specs.Replay.{asking}
use Rattle.journal.specs.Step.{HoldsAdvance, HoldsBegin, Makes, MakesCommand, MakesObservation, made_by, command_in, command_verdict, cut_at, cut_by, made_by_command, made_by_observation, mark_of_move}
use Rattle.journal.specs.Step.Numbered.{moves_by}
use Rattle.journal.proofs.StepLaws.{AdvanceNeed, BeginNeed, advance_need, begin_need, cut_is, observation_room}

step-mark : (m : Move) → is_step (moves m) ≡ true → mark_of_move m ≡ Ad
step-mark begins s = absurd (false≢true s)
step-mark records_snapshot s = refl
step-mark records_caught_up s = refl
step-mark continues s = refl
step-mark fences s = refl
step-mark finalizes s = refl

module _ (t : VoterSlotTable) (body : List ℕ) where
  -- a step of an Advance
  module _ (v : Verdict Move) (g : MakesCommand t body v) (m : Move) (s : is_step (moves m) ≡ true) (e : v ≡ moves m) (a : VoterAdvance) (h : HoldsAdvance body a) where
    step-needs : AdvanceNeed t body a m (asking Ad body)
    step-needs =
        advance_need t body a m s h
        (subst (λ (k : Mark). command_verdict t (asking k body) ≡ moves_by m) (step-mark m s) (g m e))

    pub step_room : t.revision ≡ full → ⊥
    step_room = room_as t a (moves m) step-needs.1.0 refl

    pub step_target : (t.revision ≡ full → ⊥) × ((t.count ≤ 9) × (target_index t < t.count))
    step_target = (step_room, target-as t a (moves m) step-needs.1.0 refl step-needs.0)

    pub step_makes : {u : VoterSlotTable} → u ≡ step_made t a.step a.cut m → u ≡ made_by_command t body v
    unfolding made_by_command
    step_makes f =
        f
        ∙ (step-needs.1.1
        ∙ (ap (λ (k : Mark). made t (command_in (asking k body)).0 (command_in (asking k body)).1 m) (sym (step-mark m s)) ∙ ap (made_by_command t body) (sym e)))

  -- a Begin
  module _ (v : Verdict Move) (g : MakesCommand t body v) (e : v ≡ moves begins) (b : VoterBegin) (h : HoldsBegin body b) where
    begin-needs : BeginNeed t body b (asking Bg body)
    begin-needs = begin_need t body b h (g begins e)

    pub begin_target : (t.revision ≡ full → ⊥) × (((current_configuration t).epoch ≡ full → ⊥) × ((t.count ≤ 9) × (named_index t b.request < t.count)))
    begin_target = begin-needs.0

    pub begin_makes : {u : VoterSlotTable} → u ≡ begun t b.request b.cut → u ≡ made_by_command t body v
    unfolding made_by_command
    begin_makes f = f ∙ (begin-needs.1 ∙ ap (made_by_command t body) (sym e))

  -- an observation
  module _ (v : Verdict Addition) (g : MakesObservation t body v) (m : Addition) (e : v ≡ moves m) where
    pub addition_room : Room t
    addition_room = observation_room t body m (g m e)

    pub addition_makes : {cut : VoterSlotLogId} → cut ≡ cut_at body → {u : VoterSlotTable} → u ≡ added t cut m → u ≡ made_by_observation t body v
    unfolding made_by_observation
    addition_makes k f =
        f
        ∙ (ap (λ (x : VoterSlotLogId). added t x m) (k ∙ cut_is t body m (g m e)) ∙ ap (made_by_observation t body) (sym e))

-- what was judged of a body may be made of it, and what is made is the table afterwards: a command
module _ (t : VoterSlotTable) (body : List ℕ) {called : Called} (g : Makes t body called) where
  pub command_of : {judged : Result Judged Refusal} → called ≡ Command judged → MakesCommand t body (verdict_of judged)
  command_of e = subst (Makes t body) e g

  pub command_made : {judged : Result Judged Refusal} {u : VoterSlotTable} → called ≡ Command judged → u ≡ made_by_command t body (verdict_of judged) → u ≡ made_by t body called
  command_made e f = f ∙ sym (ap (made_by t body) e)

  -- and an observation
  pub observation_of : {observed : Result Observed Refusal} → called ≡ Observation observed → MakesObservation t body (verdict_of_observed observed)
  observation_of e = subst (Makes t body) e g

  pub observation_made : {observed : Result Observed Refusal} {u : VoterSlotTable} → called ≡ Observation observed → u ≡ made_by_observation t body (verdict_of_observed observed) → u ≡ made_by t body called
  observation_made e f = f ∙ sym (ap (made_by t body) e)

-- the cut that a body begins with, as the cursor reads it
pub cut_taken : (r : Result VoterSlotLogId Refusal) (body rest : List ℕ) → told r rest ≡ reads log_id body → result_unwrap_or r blank_voter_slot_log_id ≡ cut_at body
unfolding cut_by reads
cut_taken r body rest e = by r (log_id.dec body) e
  where
    by : (r : Result VoterSlotLogId Refusal) (x : Res VoterSlotLogId) → told r rest ≡ left_of body x → result_unwrap_or r blank_voter_slot_log_id ≡ cut_by x
    by (Ok c) (ok d n) f = let z : c ≡ d = cc in z
    by (Ok c) (no k) f = absurd (let z : ◌≡◌ {A = ℕ} 0 1 = cc in omega arith)
    by (Err x) (ok d n) f = absurd (let z : ◌≡◌ {A = ℕ} 0 1 = cc in omega arith)
    by (Err x) (no k) f = refl
