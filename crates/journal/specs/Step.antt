-- A record at a valid table, judged before anything is made: `called` of Replay in the two steps of
-- the code. That both give the same is proved (StepLaws).
-- From document 01, section "Replay program": 33; the attestation reader's number; 30; 31; the
-- call.
-- Assumes nothing.
use Rattle.std.specs.Prelude.{ℕ, ◌≡◌, Bool, true, false, cond, List, Option, Result, IfSome, IfOk}
use Rattle.identity.specs.Answer.{number_of, Answer, Accepted, InvalidTransition, Unrepresentable}
use Rattle.identity.specs.declared.answer.Refusal.{Refusal}
use Rattle.format.specs.Res.{Res}
use Rattle.format.specs.Res.Res.{ok, no}
use Rattle.layout.specs.Layout.{log_id}
use Rattle.records.specs.Blank.{blank_voter_slot_log_id}
use Rattle.records.specs.Evidence.{valid_log_id}
use Rattle.records.specs.Validation.{validate}
use Rattle.records.specs.declared.records.VoterSlotLogId.{VoterSlotLogId}
use Rattle.records.specs.declared.records.VoterSlotTable.{VoterSlotTable}
use Rattle.control.specs.declared.begin.VoterBegin.{VoterBegin}
use Rattle.control.specs.declared.control.VoterAdvance.{VoterAdvance}
use Rattle.control.specs.declared.control.VoterSlotControl.{VoterSlotControl}
use Rattle.control.specs.Judgement.{Addition, Move, Verdict, added, made}
use Rattle.control.specs.Judgement.Move.{begins, records_snapshot, records_caught_up, continues, fences, finalizes}
use Rattle.control.specs.Judgement.Verdict.{kept, moves}
use Rattle.control.specs.Judgement.Verdict.{refused as refuses}
use Rattle.control.specs.ObserveSight.{answer_of_observed, verdict_of_observed, weighed}
use Rattle.control.specs.Verdicts.{answer_of, entry_verdict, verdict_of}
use Rattle.journal.specs.declared.replay.Mark.{Mark}
use Rattle.journal.specs.declared.replay.Mark.TheVariants.{Ad, Bg, Ob}
use Rattle.journal.specs.declared.step.Called.{Called}
use Rattle.journal.specs.declared.step.Called.TheVariants.{Command, Observation}
use Rattle.journal.specs.Bodies.{advance_asking, begin_asking, blank_marker_body}
use Rattle.journal.specs.Replay.{Asking, Standing, asking, bad_record, marker_control}
use Rattle.journal.specs.Replay.Asked.{command, observation}
use Rattle.journal.specs.Replay.Asking.{bad, refused, asks}
use Rattle.journal.specs.Replay.Standing.{absent, stands}

-- a verdict with document 01's number in place of the answer
pub data Numbered (M : Type 0) : Type 0 where
  refused_by : ℕ → Numbered M
  keeps : Numbered M
  moves_by : M → Numbered M

-- each case of a verdict
abbrev pub numbered : {M : Type 0} → Verdict M → Numbered M
numbered (refuses answer) = refused_by (number_of answer)
numbered kept = keeps
numbered (moves m) = moves_by m

-- a body that asks for a command: 33, the reader's number, or the verdict of the entry point
unfoldable pub command_verdict : VoterSlotTable → Asking → Numbered Move
command_verdict t bad = refused_by bad_record
command_verdict t (refused number) = refused_by number
command_verdict t (asks (command c cut)) = numbered (entry_verdict t c cut)
command_verdict t (asks (observation ids counts nodes cut)) = refused_by bad_record

-- a body that asks for an observation
unfoldable pub observation_verdict : VoterSlotTable → Asking → Numbered Addition
observation_verdict t bad = refused_by bad_record
observation_verdict t (refused number) = refused_by number
observation_verdict t (asks (command c cut)) = refused_by bad_record
observation_verdict t (asks (observation ids counts nodes cut)) = numbered (weighed t ids counts nodes cut)

-- the tests of the entry point on a valid table: 30, and 25 for a zero in the cut
abbrev pub checked_call : Bool → VoterSlotLogId → Verdict Move → Verdict Move
checked_call fits cut v = cond fits (cond (valid_log_id cut) v (refuses InvalidTransition)) (refuses Unrepresentable)

-- ---- what was judged

-- the answer
abbrev pub answer_of_called : Called → Answer
answer_of_called (Command judged) = answer_of (verdict_of judged)
answer_of_called (Observation observed) = answer_of_observed (verdict_of_observed observed)

-- it was judged of this body, under this mark
abbrev pub Judges : VoterSlotTable → Mark → List ℕ → Called → Type 0
Judges t mark body (Command judged) = (mark ≡ Ob → ⊥) × (numbered (verdict_of judged) ≡ command_verdict t (asking mark body))
Judges t mark body (Observation observed) = (mark ≡ Ob) × (numbered (verdict_of_observed observed) ≡ observation_verdict t (asking Ob body))

-- ---- what is made

-- the cut that a body begins with, or a blank one
unfoldable pub cut_by : Res VoterSlotLogId → VoterSlotLogId
cut_by (ok cut n) = cut
cut_by (no k) = blank_voter_slot_log_id

-- that, of the body
abbrev pub cut_at : List ℕ → VoterSlotLogId
cut_at body = cut_by (log_id.dec body)

-- a table that stands is valid
abbrev pub ValidStanding : Standing → Type 0
ValidStanding absent = Unit {0}
ValidStanding (stands t) = validate t ≡ Accepted

-- the command of a body; of one that asks for none, which nobody makes, any
abbrev pub command_in : Asking → VoterSlotControl × VoterSlotLogId
command_in bad = (marker_control blank_marker_body, blank_voter_slot_log_id)
command_in (refused number) = (marker_control blank_marker_body, blank_voter_slot_log_id)
command_in (asks (command c cut)) = (c, cut)
command_in (asks (observation ids counts nodes cut)) = (marker_control blank_marker_body, cut)

-- the mark of the body that a change is read from again
abbrev pub mark_of_move : Move → Mark
mark_of_move begins = Bg
mark_of_move records_snapshot = Ad
mark_of_move records_caught_up = Ad
mark_of_move continues = Ad
mark_of_move fences = Ad
mark_of_move finalizes = Ad

-- the table that a command makes, read from the body again
unfoldable pub made_by_command : VoterSlotTable → List ℕ → Verdict Move → VoterSlotTable
made_by_command t body (refuses answer) = t
made_by_command t body kept = t
made_by_command t body (moves m) = made t (command_in (asking (mark_of_move m) body)).0 (command_in (asking (mark_of_move m) body)).1 m

-- the table that an observation makes
unfoldable pub made_by_observation : VoterSlotTable → List ℕ → Verdict Addition → VoterSlotTable
made_by_observation t body (refuses answer) = t
made_by_observation t body kept = t
made_by_observation t body (moves m) = added t (command_in (asking Ob body)).1 m

-- the table afterwards
abbrev pub made_by : VoterSlotTable → List ℕ → Called → VoterSlotTable
made_by t body (Command judged) = made_by_command t body (verdict_of judged)
made_by t body (Observation observed) = made_by_observation t body (verdict_of_observed observed)

-- a change that is made was judged of the body that it is read from
abbrev pub MakesCommand : VoterSlotTable → List ℕ → Verdict Move → Type 0
MakesCommand t body v = (m : Move) → v ≡ moves m → command_verdict t (asking (mark_of_move m) body) ≡ moves_by m

-- the same of an observation
abbrev pub MakesObservation : VoterSlotTable → List ℕ → Verdict Addition → Type 0
MakesObservation t body v = (m : Addition) → v ≡ moves m → observation_verdict t (asking Ob body) ≡ moves_by m

-- and of either
abbrev pub Makes : VoterSlotTable → List ℕ → Called → Type 0
Makes t body (Command judged) = MakesCommand t body (verdict_of judged)
Makes t body (Observation observed) = MakesObservation t body (verdict_of_observed observed)

-- what a body holds that is read again for a maker: the Advance that it asks for, if it asks for
-- one
abbrev pub HoldsAdvance : List ℕ → VoterAdvance → Type 0
HoldsAdvance body a = (o : Option VoterAdvance) × ((advance_asking o ≡ asking Ad body) × IfSome o (λ b. b ≡ a))

-- the same of a Begin
abbrev pub HoldsBegin : List ℕ → VoterBegin → Type 0
HoldsBegin body b = (o : Option (Result VoterBegin Refusal)) × ((begin_asking o ≡ asking Bg body) × IfSome o (λ r. IfOk r (λ a. a ≡ b)))

-- whether the table changes
abbrev pub is_made : {M : Type 0} → Verdict M → Bool
is_made (refuses answer) = false
is_made kept = false
is_made (moves m) = true

-- of either
abbrev pub is_changing : Called → Bool
is_changing (Command judged) = is_made (verdict_of judged)
is_changing (Observation observed) = is_made (verdict_of_observed observed)
