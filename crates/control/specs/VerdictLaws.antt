-- Laws of verdicts, for the proofs of code: which kind of command makes which table, what a verdict
-- that makes one gives its maker, and what the entry point comes to.
-- Each name here is a step of a proof; what is right is said in Control, and how code decides it in
-- Judgement.
-- Assumes nothing.
use Rattle.std.specs.Bool.{then_some}
use Rattle.std.specs.Option.{ok_or}
use Rattle.std.specs.Result.{result_and}
use Rattle.std.specs.Prelude.{Result, Ok, Err, ℕ, ◌<◌, ◌≤◌, ◌≡◌, Bool, not, ◌&&◌, ◌||◌, List}
use Rattle.identity.specs.declared.answer.Refusal.{Refusal}
use Rattle.identity.specs.declared.answer.Refusal.TheVariants as refusal
use Rattle.control.specs.declared.judge.Judged.{Judged}
use Rattle.control.specs.declared.judge.Judged.TheVariants as code
use Rattle.std.proofs.Math.Path.{refl}
use Rattle.std.proofs.Common.{sym, ap, ◌∙◌, eq-eqb}
use Rattle.std.proofs.Math.Bool.{cond, false, true, false≢true}
use Rattle.std.proofs.Math.Dec.{eqb, leb, ltb}
use Rattle.identity.specs.Answer.{Answer, Accepted, InvalidTransition, StaleIncarnation, Unrepresentable, is_accepted}
use Rattle.records.specs.declared.records.VoterSlotLogId.{VoterSlotLogId}
use Rattle.records.specs.declared.records.VoterSlotTable.{VoterSlotTable}
use Rattle.records.specs.Equality.{eq_bytes, same_voter_slot_log_id, same_voter_snapshot_evidence}
use Rattle.identity.specs.Utf8Laws.{and_left}
use Rattle.records.specs.Evidence.{follows, valid_log_id}
use Rattle.records.specs.Representable.{representable}
use Rattle.records.specs.ValidationLaws.{is-accepted}
use Rattle.records.specs.ValidParts.{valid-joined, valid-parts}
use Rattle.control.specs.SettleLaws.{applies}
use Rattle.records.specs.Records.{caught_up, fenced, prepared, uniform}
use Rattle.records.specs.Validation.{validate, validity}
use Rattle.control.specs.declared.control.VoterReplacementRequest.{VoterReplacementRequest}
use Rattle.control.specs.declared.control.VoterReplacementStep.{VoterReplacementStep}
use Rattle.control.specs.declared.control.VoterSlotControl.{VoterSlotControl}
use Rattle.control.specs.Control.{advance_kind, apply_control, begin_check, begin_kind, is_known, is_open_request, known_digest, request_check, representable_control, fence_kind, finalize_kind, full, is_catching_up, is_completed, record_caught_up_kind, record_continuation_kind, record_snapshot_kind, target_index}
use Rattle.control.specs.Judgement.{Move, Verdict, begin_test, carried, judge_advance, judge_repeated, judge_open, judge_step, judge_snapshot, judge_caught_up, judge_continuation, judge_fence, judge_finalize, judge, judge_begin, judge_marker, made, snapshot_test, caught_up_test, continuation_test, fence_test}
use Rattle.control.specs.Judgement.Verdict.{refused, kept, moves}
use Rattle.control.specs.Judgement.Move.{begins, records_snapshot, records_caught_up, continues, fences, finalizes}
use Rattle.control.specs.OpenLaws.{open-of-valid}
use Rattle.records.specs.RepresentableLaws.{representable-count}
use Rattle.control.specs.declared.control.VoterAdvance.{VoterAdvance}
use Rattle.control.specs.Verdicts.{advance_in, advance_outcome, answer_of, applied_of, checked_of, entry_verdict, judge_of, paired, route_of, step_made, verdict_of}

-- ---- what is made

-- some table
abbrev pub is_move : Verdict Move → Bool
is_move (refused answer) = false
is_move kept = false
is_move (moves m) = true

-- that of a Begin
abbrev is_begin : Verdict Move → Bool
is_begin (refused answer) = false
is_begin kept = false
is_begin (moves begins) = true
is_begin (moves records_snapshot) = false
is_begin (moves records_caught_up) = false
is_begin (moves continues) = false
is_begin (moves fences) = false
is_begin (moves finalizes) = false

-- that of a step of an Advance
abbrev pub is_step : Verdict Move → Bool
is_step (refused answer) = false
is_step kept = false
is_step (moves begins) = false
is_step (moves records_snapshot) = true
is_step (moves records_caught_up) = true
is_step (moves continues) = true
is_step (moves fences) = true
is_step (moves finalizes) = true

-- what is said of neither of two verdicts is not said of the one that a test picks
both-not : (f : Verdict Move → Bool) (b : Bool) (v w : Verdict Move) → f v ≡ false → f w ≡ false → f (cond b v w) ≡ false
both-not f true v w p q = p
both-not f false v w p q = q

-- ---- a Begin makes no table of a step, and a Marker makes none at all

begin-steps : (t : VoterSlotTable) (r : VoterReplacementRequest) (cut : VoterSlotLogId) → is_step (judge_begin t r cut) ≡ false
unfolding judge_begin judge_repeated
begin-steps t r cut =
    both-not is_step (is_known t r.attestation.request_id) _ _
    (both-not is_step (eq_bytes (known_digest t r.attestation.request_id) r.attestation.request_digest) _ _ (both-not is_step (is_accepted (request_check r)) _ _ refl refl) refl)
    (both-not is_step (is_accepted (begin_check t r cut)) _ _ (both-not is_step (begin_test t cut) _ _ refl refl) refl)

marker-moves : (t : VoterSlotTable) (id digest : List ℕ) → is_move (judge_marker t id digest) ≡ false
unfolding judge_marker
marker-moves t id digest =
    both-not is_move (is_open_request t id && eq_bytes t.replacement.attestation.request_digest digest && is_catching_up t.replacement.phase) _ _ refl refl

-- ---- an Advance makes no table of a Begin

module _ (t : VoterSlotTable) (id digest : List ℕ) (s : VoterReplacementStep) (cut : VoterSlotLogId) where
  never-step : is_begin (judge_step t s cut) ≡ false
  unfolding judge_step judge_snapshot judge_caught_up judge_continuation judge_fence judge_finalize
  never-step =
      let op = t.replacement in
      let e = op.evidence in
      let at = s.snapshot.cut in
      let mark = s.caught_up in
      both-not is_begin (eqb s.kind record_snapshot_kind) _ _
      (both-not is_begin e.has_snapshot _ _ (both-not is_begin (same_voter_snapshot_evidence e.snapshot s.snapshot) _ _ refl refl)
      (both-not is_begin ((eqb op.phase prepared && (ltb at.index cut.index && leb at.term cut.term)) && snapshot_test e s.snapshot) _ _ refl refl))
      (both-not is_begin (eqb s.kind record_caught_up_kind) _ _
      (both-not is_begin (e.caught_up.is_some && same_voter_slot_log_id e.caught_up.cut mark) _ _ refl
      (both-not is_begin ((is_catching_up op.phase && (eqb mark.term cut.term && ltb mark.index cut.index)) && caught_up_test e mark) _ _ refl refl))
      (both-not is_begin (eqb s.kind record_continuation_kind) _ _
      (both-not is_begin e.continuation.is_some _ _ refl (both-not is_begin (leb fenced op.phase) _ _ refl (both-not is_begin (continuation_test e cut) _ _ refl refl)))
      (both-not is_begin (eqb s.kind fence_kind) _ _
      (both-not is_begin (leb fenced op.phase) _ _ refl
      (both-not is_begin ((eqb op.phase caught_up && (e.caught_up.is_some && eqb e.caught_up.cut.term cut.term)) && fence_test e cut) _ _ refl refl))
      (both-not is_begin (eqb op.phase uniform && follows cut e.uniform.cut false) _ _ refl refl))))

  never-begins : is_begin (judge_advance t id digest s cut) ≡ false
  unfolding judge_advance judge_open
  never-begins =
      let op = t.replacement in
      both-not is_begin (eqb t.revision full) _ _ refl
      (both-not is_begin t.has_replacement _ _
      (both-not is_begin (not (eq_bytes op.attestation.request_id id)) _ _ refl
      (both-not is_begin (not (eq_bytes op.attestation.request_digest digest)) _ _ refl
      (both-not is_begin (leb cut.index op.evidence.prepare.index || ltb cut.term op.evidence.prepare.term) _ _ refl never-step)))
      (both-not is_begin (eqb s.kind finalize_kind && is_completed t id digest) _ _ refl refl))

  -- what is made has room for the next revision
  pub has_room : is_move (judge_advance t id digest s cut) ≡ true → t.revision ≡ full → ⊥
  unfolding judge_advance
  has_room h e =
      let k : is_move (judge_advance t id digest s cut) ≡ false = rw (eq-eqb t.revision full e) in
      false≢true (sym k ∙ h)

  -- and a request is open
  has-open-by : (b : Bool) → t.has_replacement ≡ b → is_move (judge_advance t id digest s cut) ≡ true → t.has_replacement ≡ true
  unfolding judge_advance
  has-open-by true e h = e
  has-open-by false e h =
      let idle : Verdict Move = cond (eqb s.kind finalize_kind && is_completed t id digest) kept (refused StaleIncarnation) in
      let k : is_move (judge_advance t id digest s cut) ≡ false =
      both-not is_move (eqb t.revision full) _ _ refl
      (ap (λ (b : Bool). is_move (cond b (judge_open t id digest s cut) idle)) e ∙ both-not is_move (eqb s.kind finalize_kind && is_completed t id digest) _ _ refl refl) in
      absurd (false≢true (sym k ∙ h))

  pub has-target : is_move (judge_advance t id digest s cut) ≡ true → validate t ≡ Accepted → target_index t < t.count
  has-target h valid = (open-of-valid t valid (has-open-by t.has_replacement refl h)).below

-- what a command makes by an Advance is what its step makes
by-verdict : (t : VoterSlotTable) (c : VoterSlotControl) (cut : VoterSlotLogId) (v : Verdict Move) → is_begin v ≡ false
    → carried (made t c cut) t v ≡ carried (step_made t c.step cut) t v
unfolding carried made step_made
by-verdict t c cut (refused answer) h = refl
by-verdict t c cut kept h = refl
by-verdict t c cut (moves begins) h = absurd (false≢true (sym h))
by-verdict t c cut (moves records_snapshot) h = refl
by-verdict t c cut (moves records_caught_up) h = refl
by-verdict t c cut (moves continues) h = refl
by-verdict t c cut (moves fences) h = refl
by-verdict t c cut (moves finalizes) h = refl

pub advance-made : (t : VoterSlotTable) (c : VoterSlotControl) (cut : VoterSlotLogId)
    → carried (made t c cut) t (judge_advance t c.request_id c.request_digest c.step cut) ≡ advance_outcome t (advance_in c cut)
advance-made t c cut = by-verdict t c cut _ (never-begins t c.request_id c.request_digest c.step cut)

-- ---- which kind a command has, by what it makes

module _ (t : VoterSlotTable) (c : VoterSlotControl) (cut : VoterSlotLogId) where
  step_by : (b a : Bool) (m : Move) → is_step (moves m) ≡ true
      → cond b (judge_begin t c.request cut) (cond a (judge_of t (advance_in c cut)) (judge_marker t c.request_id c.request_digest)) ≡ moves m → judge_of t (advance_in c cut) ≡ moves m
  step_by true a m h e = absurd (false≢true (sym (begin-steps t c.request cut) ∙ (ap is_step e ∙ h)))
  step_by false true m h e = e
  step_by false false m h e = absurd (false≢true (sym (marker-moves t c.request_id c.request_digest) ∙ ap is_move e))

  -- the table of a step: an Advance
  pub step-advance : (m : Move) → is_step (moves m) ≡ true → judge t c cut ≡ moves m → judge_of t (advance_in c cut) ≡ moves m
  unfolding judge
  step-advance m h e = step_by (eqb c.kind begin_kind) (eqb c.kind advance_kind) m h e

  begin-by : (b a : Bool)
      → cond b (judge_begin t c.request cut) (cond a (judge_of t (advance_in c cut)) (judge_marker t c.request_id c.request_digest)) ≡ moves begins
      → judge_begin t c.request cut ≡ moves begins
  begin-by true a e = e
  begin-by false true e = absurd (false≢true (sym (never-begins t c.request_id c.request_digest c.step cut) ∙ ap is_begin e))
  begin-by false false e = absurd (false≢true (sym (marker-moves t c.request_id c.request_digest) ∙ ap is_move e))

  -- the table of a Begin: a Begin
  pub begin-begins : judge t c cut ≡ moves begins → judge_begin t c.request cut ≡ moves begins
  unfolding judge
  begin-begins e = begin-by (eqb c.kind begin_kind) (eqb c.kind advance_kind) e

-- ---- what the code's picks come to

-- a refusal, or else what comes next
pub and-judged : (a : Answer) (next : Result Judged Refusal) → verdict_of (result_and a next) ≡ cond (is_accepted a) (verdict_of next) (refused a)
and-judged (Ok nothing) next = refl
and-judged (Err e) next = refl

-- a Begin, or else 25
pub change-judged : (b : Bool) → verdict_of (ok_or (then_some b code.Begin) refusal.InvalidTransition) ≡ cond b (moves begins) (refused InvalidTransition)
change-judged true = refl
change-judged false = refl

-- ---- what a case of the code's verdict tells

count_fits : (t : VoterSlotTable) → validate t ≡ Accepted → t.count ≤ 9
count_fits t valid = representable-count t (valid-parts t valid).0

module _ (t : VoterSlotTable) (c : VoterAdvance) (v : Verdict Move) (is : judge_of t c ≡ v) where
  -- the answer and the table
  pub carried-as : carried (step_made t c.step c.cut) t v ≡ advance_outcome t c
  carried-as = ap (carried (step_made t c.step c.cut) t) (sym is)

  -- where something is made: there is room, and the slot being replaced is there
  pub room_as : is_move v ≡ true → t.revision ≡ full → ⊥
  room_as h = has_room t _ _ c.step c.cut (ap is_move is ∙ h)

  pub target-as : is_move v ≡ true → validate t ≡ Accepted → (t.count ≤ 9) × (target_index t < t.count)
  target-as h valid = (count_fits t valid, has-target t _ _ c.step c.cut (ap is_move is ∙ h) valid)

-- ---- what the number of a verdict tells
--
-- No code goes by such a number; what these say of it stands.

-- the move of a number
abbrev move_at : ℕ → Move
move_at n = cond (eqb n 1) records_snapshot (cond (eqb n 2) records_caught_up (cond (eqb n 3) continues (cond (eqb n 4) fences (cond (eqb n 5) finalizes begins))))

move-back : (m : Move) → move_at (route_of (moves m)) ≡ m
move-back begins = refl
move-back records_snapshot = refl
move-back records_caught_up = refl
move-back continues = refl
move-back fences = refl
move-back finalizes = refl

one_number : (k m : Move) → route_of (moves k) ≡ route_of (moves m) → k ≡ m
one_number k m e = sym (move-back k) ∙ (ap move_at e ∙ move-back m)

pub routed-to : (v : Verdict Move) (m : Move) → route_of v ≡ route_of (moves m) → (route_of (moves m) ≡ 0 → ⊥) → v ≡ moves m
routed-to (refused answer) m e some = absurd (some (sym e))
routed-to kept m e some = absurd (some (sym e))
routed-to (moves k) m e some = ap moves (one_number k m e)

-- the number of no step of an Advance: nothing is made
pub routed-none : (t : VoterSlotTable) (s : VoterReplacementStep) (cut : VoterSlotLogId) (v : Verdict Move)
    → (route_of v ≡ 1 → ⊥) → (route_of v ≡ 2 → ⊥) → (route_of v ≡ 3 → ⊥) → (route_of v ≡ 4 → ⊥) → (route_of v ≡ 5 → ⊥) → paired (answer_of v) t ≡ carried (step_made t s cut) t v
unfolding carried step_made
routed-none t s cut (refused answer) a b c d e = refl
routed-none t s cut kept a b c d e = refl
routed-none t s cut (moves begins) a b c d e = refl
routed-none t s cut (moves records_snapshot) a b c d e = absurd (a refl)
routed-none t s cut (moves records_caught_up) a b c d e = absurd (b refl)
routed-none t s cut (moves continues) a b c d e = absurd (c refl)
routed-none t s cut (moves fences) a b c d e = absurd (d refl)
routed-none t s cut (moves finalizes) a b c d e = absurd (e refl)

-- the same of a command of any kind
pub command-none : (t : VoterSlotTable) (c : VoterSlotControl) (cut : VoterSlotLogId) (v : Verdict Move)
    → (route_of v ≡ 1 → ⊥) → (route_of v ≡ 2 → ⊥) → (route_of v ≡ 3 → ⊥) → (route_of v ≡ 4 → ⊥) → (route_of v ≡ 5 → ⊥) → (route_of v ≡ 6 → ⊥)
    → paired (answer_of v) t ≡ carried (made t c cut) t v
unfolding carried made
command-none t c cut (refused answer) a b d e f g = refl
command-none t c cut kept a b d e f g = refl
command-none t c cut (moves begins) a b d e f g = absurd (g refl)
command-none t c cut (moves records_snapshot) a b d e f g = absurd (a refl)
command-none t c cut (moves records_caught_up) a b d e f g = absurd (b refl)
command-none t c cut (moves continues) a b d e f g = absurd (d refl)
command-none t c cut (moves fences) a b d e f g = absurd (e refl)
command-none t c cut (moves finalizes) a b d e f g = absurd (f refl)

-- ---- the entry point: its tests, and then the verdict

abbrev head : Bool → Bool → Answer
head p q = cond p (cond q Accepted InvalidTransition) Unrepresentable

by-head : (p q : Bool) (x : Answer × VoterSlotTable) (t : VoterSlotTable)
    → cond p (cond q x (paired InvalidTransition t)) (paired Unrepresentable t) ≡ cond (is_accepted (head p q)) x (paired (head p q) t)
by-head true true x t = refl
by-head true false x t = refl
by-head false q x t = refl

head_passed : (p q : Bool) → is_accepted (head p q) ≡ true → (p ≡ true) × (q ≡ true)
head_passed true true h = (refl, refl)
head_passed true false h = absurd (false≢true h)
head_passed false q h = absurd (false≢true h)

module _ (t : VoterSlotTable) (c : VoterSlotControl) (cut : VoterSlotLogId) where
  entry : apply_control t c cut ≡ cond (is_accepted (checked_of t c cut)) (carried (made t c cut) t (judge t c cut)) (paired (checked_of t c cut) t)
  unfolding checked_of
  entry = applies t c cut ∙ by-head (representable t && representable_control c) (is_accepted (validity t) && valid_log_id cut) _ t

  pub entry-refused : is_accepted (checked_of t c cut) ≡ false → paired (checked_of t c cut) t ≡ apply_control t c cut
  entry-refused h = sym (entry ∙ ap (λ (b : Bool). cond b (carried (made t c cut) t (judge t c cut)) (paired (checked_of t c cut) t)) h)

  pub entry-passed : is_accepted (checked_of t c cut) ≡ true → applied_of t c cut ≡ apply_control t c cut
  entry-passed h = sym (entry ∙ ap (λ (b : Bool). cond b (carried (made t c cut) t (judge t c cut)) (paired (checked_of t c cut) t)) h)

  pub entry-valid : is_accepted (checked_of t c cut) ≡ true → validate t ≡ Accepted
  unfolding checked_of
  entry-valid h =
      let e = head_passed (representable t && representable_control c) (is_accepted (validity t) && valid_log_id cut) h in
      valid-joined t (and_left (representable t) _ e.0) (is-accepted _ (and_left (is_accepted (validity t)) _ e.1))

  -- the verdict of the entry point, carried out, is the entry point
  pub entry-carried : carried (made t c cut) t (entry_verdict t c cut) ≡ apply_control t c cut
  unfolding carried
  entry-carried = go (is_accepted (checked_of t c cut)) refl
    where
      go : (b : Bool) → is_accepted (checked_of t c cut) ≡ b → carried (made t c cut) t (cond b (judge t c cut) (refused (checked_of t c cut))) ≡ apply_control t c cut
      go true h = entry-passed h
      go false h = entry-refused h

  -- it makes a table where the command's does, of a table that its tests found valid
  pub entry-moves : (m : Move) → entry_verdict t c cut ≡ moves m → (validate t ≡ Accepted) × (judge t c cut ≡ moves m)
  entry-moves m = go (is_accepted (checked_of t c cut)) refl
    where
      go : (b : Bool) → is_accepted (checked_of t c cut) ≡ b → cond b (judge t c cut) (refused (checked_of t c cut)) ≡ moves m → (validate t ≡ Accepted) × (judge t c cut ≡ moves m)
      go true h e = (entry-valid h, e)
      go false h e = absurd (false≢true (ap is_move e))
