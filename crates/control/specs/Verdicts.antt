-- What the code's judges return, an enum or a refusal, as verdicts of Judgement, and what a verdict comes to in
-- the code: an answer, a number, a table.
-- From `apply_control` of control.rs, as Judgement cuts it; that the entry point is `apply_control`
-- is proved by the laws of VerdictLaws.
-- Assumes nothing.
use Rattle.std.specs.Prelude.{ℕ, cond, ◌&&◌, Result, Ok, Err}
use Rattle.identity.specs.Answer.{is_accepted, Answer, Accepted, InvalidTransition, Unrepresentable}
use Rattle.identity.specs.declared.answer.Refusal.{Refusal}
use Rattle.records.specs.Evidence.{valid_log_id}
use Rattle.records.specs.Representable.{representable}
use Rattle.records.specs.Validation.{validity}
use Rattle.control.specs.declared.control.VoterSlotControl.{VoterSlotControl}
use Rattle.records.specs.declared.records.VoterSlotLogId.{VoterSlotLogId}
use Rattle.records.specs.declared.records.VoterSlotTable.{VoterSlotTable}
use Rattle.control.specs.declared.begin.VoterBegin.{VoterBegin}
use Rattle.control.specs.declared.control.VoterAdvance.{VoterAdvance}
use Rattle.control.specs.declared.control.VoterReplacementStep.{VoterReplacementStep}
use Rattle.control.specs.declared.judge.Judged.{Judged}
use Rattle.control.specs.declared.judge.Judged.TheVariants.{Keep, Begin, RecordSnapshot, RecordCaughtUp, Continue, Fence, Finalize}
use Rattle.control.specs.Control.{caught_up_recorded, continued, fenced_at, finalized, representable_control, snapshot_recorded}
use Rattle.control.specs.Judgement.{Move, Verdict, carried, judge, judge_advance, made}
use Rattle.control.specs.Judgement.Verdict.{refused, kept, moves}
use Rattle.control.specs.Judgement.Move.{begins, records_snapshot, records_caught_up, continues, fences, finalizes}

-- a refusal, or each case of the enum
abbrev pub verdict_of : Result Judged Refusal → Verdict Move
verdict_of (Err e) = refused (Err e)
verdict_of (Ok Keep) = kept
verdict_of (Ok Begin) = moves begins
verdict_of (Ok RecordSnapshot) = moves records_snapshot
verdict_of (Ok RecordCaughtUp) = moves records_caught_up
verdict_of (Ok Continue) = moves continues
verdict_of (Ok Fence) = moves fences
verdict_of (Ok Finalize) = moves finalizes

-- ---- what a verdict comes to

-- the answer
abbrev pub answer_of : Verdict Move → Answer
answer_of (refused answer) = answer
answer_of kept = Accepted
answer_of (moves m) = Accepted

-- No code goes by this, and it stands with its laws (VerdictLaws, BeginVerdictLaws): which table is made, as a
-- number, 0 for none
abbrev pub route_of : Verdict Move → ℕ
route_of (refused answer) = 0
route_of kept = 0
route_of (moves records_snapshot) = 1
route_of (moves records_caught_up) = 2
route_of (moves continues) = 3
route_of (moves fences) = 4
route_of (moves finalizes) = 5
route_of (moves begins) = 6

-- what a step of an Advance makes
unfoldable pub step_made : VoterSlotTable → VoterReplacementStep → VoterSlotLogId → Move → VoterSlotTable
step_made t s cut begins = t
step_made t s cut records_snapshot = snapshot_recorded t s.snapshot
step_made t s cut records_caught_up = caught_up_recorded t s.caught_up
step_made t s cut continues = continued t cut
step_made t s cut fences = fenced_at t cut
step_made t s cut finalizes = finalized t cut

-- an answer and a table
abbrev pub paired : Answer → VoterSlotTable → Answer × VoterSlotTable
paired a t = (a, t)

-- the Begin that a command holds
abbrev pub begin_in : VoterSlotControl → VoterSlotLogId → VoterBegin
begin_in c cut = record { request = c.request; cut = cut }

-- the Advance that a command holds
abbrev pub advance_in : VoterSlotControl → VoterSlotLogId → VoterAdvance
advance_in c cut = record { request_id = c.request_id; request_digest = c.request_digest; step = c.step; cut = cut }

-- the verdict of an Advance with its cut
abbrev pub judge_of : VoterSlotTable → VoterAdvance → Verdict Move
judge_of t c = judge_advance t c.request_id c.request_digest c.step c.cut

-- an Advance on a valid table: the answer and the table
abbrev pub advance_outcome : VoterSlotTable → VoterAdvance → Answer × VoterSlotTable
advance_outcome t c = carried (step_made t c.step c.cut) t (judge_of t c)

-- any command on a valid table: the answer and the table
abbrev pub applied_of : VoterSlotTable → VoterSlotControl → VoterSlotLogId → Answer × VoterSlotTable
applied_of t c cut = carried (made t c cut) t (judge t c cut)

-- the tests of the entry point: 30; "Invalid table, or term or index 0: 25"
unfoldable pub checked_of : VoterSlotTable → VoterSlotControl → VoterSlotLogId → Answer
checked_of t c cut =
    cond (representable t && representable_control c) (cond (is_accepted (validity t) && valid_log_id cut) Accepted InvalidTransition) Unrepresentable

-- the verdict of the entry point: its tests, and then the command's
abbrev pub entry_verdict : VoterSlotTable → VoterSlotControl → VoterSlotLogId → Verdict Move
entry_verdict t c cut = cond (is_accepted (checked_of t c cut)) (judge t c cut) (refused (checked_of t c cut))
