-- Laws of a record that is judged and then made: what the judges of bodies come to, that a verdict
-- makes its table from the body it was judged of, what each maker asks for, and that both together
-- are `step` of Replay.
-- Assumes nothing.
use Prim.Native.Nat.{ℕ, ◌+◌, ◌<◌, ◌≤◌}
use Rattle.std.proofs.Common.{arith, sym, ap₂, ◌∙◌}
use Rattle.std.proofs.Math.Path.{◌≡◌, refl, ap, subst}
use Rattle.std.proofs.Math.Bool.{Bool, true, false, cond}
use Rattle.std.specs.Prelude.{◌&&◌, drop, Option, Some, None, Result, Ok, Err, IfSome, IfOk}
use Rattle.std.proofs.lemmas.Bool.{false≢true}
use mathlib.Core.List.{List}
use Rattle.identity.specs.Answer.{is_accepted, number_of, Answer, Accepted, InvalidTransition, Unrepresentable}
use Rattle.format.specs.Combinators.{dec_seq, dep, mapped, via}
use Rattle.format.specs.Res.{Res, and_then, began, ok-value}
use Rattle.format.specs.Res.Res.{ok, no}
use Rattle.format.specs.Through.{whole, whole_is}
use Rattle.layout.specs.Layout.{log_id}
use Rattle.records.specs.Equality.{eq_bytes}
use Rattle.records.specs.Evidence.{valid_log_id}
use Rattle.records.specs.Representable.{representable}
use Rattle.records.specs.SuccessorLaws.{successor}
use Rattle.records.specs.TestLaws.{and_both, by-test, same_bytes}
use Rattle.records.specs.ValidParts.{valid-parts}
use Rattle.records.specs.Validation.{validate, validity}
use Rattle.records.specs.ValidationLaws.{is-accepted}
use Rattle.records.specs.Successor.{validate_successor_of}
use Rattle.records.specs.declared.records.LostVoterAttestationV1.{LostVoterAttestationV1}
use Rattle.records.specs.declared.records.VoterSlotLogId.{VoterSlotLogId}
use Rattle.records.specs.declared.records.VoterSlotTable.{VoterSlotTable}
use Rattle.codec.specs.Codec.{decode_lost_voter_attestation}
use Rattle.control.specs.declared.begin.VoterBegin.{VoterBegin}
use Rattle.control.specs.declared.control.VoterAdvance.{VoterAdvance}
use Rattle.control.specs.declared.control.VoterReplacementRequest.{VoterReplacementRequest}
use Rattle.control.specs.declared.control.VoterSlotControl.{VoterSlotControl}
use Rattle.control.specs.declared.judge.Judged.{Judged}
use Rattle.control.specs.declared.observe.Observed.{Observed}
use Rattle.control.specs.Blank.{blank_voter_replacement_request, blank_voter_replacement_step, blank_request_id, blank_request_digest}
use Rattle.control.specs.BlankLaws.{same_voter_replacement_request-refl, same_voter_replacement_step-refl}
use Rattle.control.specs.Control.{Decision, apply_control, begun, begin_check, current_configuration, decide, full, is_catching_up, is_known, is_open_request, known_digest, named_index, representable_control, representable_request, representable_step, request_check, settle}
use Rattle.control.specs.Control.Decision.{refuse, keep, change}
use Rattle.control.specs.Judgement.{Addition, Move, Verdict, added, begin_test, carried, judge, judge_begin, judge_marker, judge_repeated, made}
use Rattle.control.specs.Judgement.Move.{begins, records_snapshot, records_caught_up, continues, fences, finalizes}
use Rattle.control.specs.Judgement.Verdict.{kept, moves}
use Rattle.control.specs.Judgement.Verdict.{refused as refuses}
use Rattle.control.specs.Observation.{all_rising, is_rising, observe, observe_membership, representable_sets, split_sets}
use Rattle.control.specs.ObserveLaws.{observes-valid, weighed-room}
use Rattle.control.specs.ObserveSight.{Room, answer_of_observed, is_change, verdict_of_observed, weighed}
use Rattle.control.specs.Verdicts.{answer_of, checked_of, entry_verdict, judge_of, step_made, verdict_of}
use Rattle.control.specs.VerdictLaws.{advance-made, begin-begins, entry-carried, entry-moves, is_move, is_step, step-advance}
use Rattle.control.specs.BeginVerdictLaws.{begin-room}
use Rattle.journal.specs.declared.bodies.MarkerBody.{MarkerBody}
use Rattle.journal.specs.declared.replay.Mark.{Mark}
use Rattle.journal.specs.declared.replay.Mark.TheVariants.{Tb, Mk, Ad, Bg, Ob, Unknown}
use Rattle.journal.specs.declared.step.Called.{Called}
use Rattle.journal.specs.declared.step.Called.TheVariants.{Command, Observation}
use Rattle.identity.specs.declared.answer.Refusal.{Refusal}
use Rattle.identity.specs.declared.answer.Refusal.TheVariants as refusal
use Rattle.journal.specs.Bodies.{advance_asking, begin_asking}
use Rattle.journal.specs.Records.{AdvanceBody, BeginBody, ObservationBody, advance_body, begin_body, marker_body, node_ids, node_sets, observation_body}
use Rattle.journal.specs.Replay.{Asked, Asking, Standing, advance_asked, advance_control, advance_of, answered, asking, attested, bad_record, begin_asked, begin_control, begin_of, called, formed, marker_asked, marker_control, observation_asked, step}
use Rattle.journal.specs.Replay.Asked.{command, observation}
use Rattle.journal.specs.Replay.Asking.{bad, refused, asks}
use Rattle.journal.specs.Replay.Entry.{framed}
use Rattle.journal.specs.Replay.Standing.{stands}
use Rattle.journal.specs.Step.{HoldsAdvance, HoldsBegin, Judges, Makes, ValidStanding, answer_of_called, is_changing, checked_call, cut_at, cut_by, is_made, command_in, command_verdict, made_by, made_by_command, made_by_observation, mark_of_move, numbered, observation_verdict}
use Rattle.journal.specs.Step.Numbered.{refused_by, moves_by}

-- ---- the command of a body passes the representability check where the part does that it uses

pub fits_marker : (b : MarkerBody) → representable_control (marker_control b) ≡ true
unfolding representable_control marker_control
fits_marker b = and_both _ _ (same_voter_replacement_request-refl blank_voter_replacement_request) (same_voter_replacement_step-refl blank_voter_replacement_step)

pub fits_advance : (a : VoterAdvance) → representable_control (advance_control a) ≡ representable_step a.step
unfolding representable_control advance_control
fits_advance a = ap (λ (b : Bool). b && representable_step a.step) (same_voter_replacement_request-refl blank_voter_replacement_request)

and-two : (b p q : Bool) → p ≡ true → q ≡ true → ((b && p) && q) ≡ b
and-two true p q h k = and_both p q h k
and-two false p q h k = refl

pub fits_begin : (r : VoterReplacementRequest) → representable_control (begin_control r) ≡ representable_request r
unfolding representable_control begin_control
fits_begin r =
    and-two (representable_request r) _ _ (and_both _ _ (same_bytes blank_request_id _ refl) (same_bytes blank_request_digest _ refl))
    (same_voter_replacement_step-refl blank_voter_replacement_step)

-- ---- the entry point on a valid table

module _ (t : VoterSlotTable) (valid : validate t ≡ Accepted) where
  entry-by : (p q : Bool) (v : Verdict Move)
      → cond (is_accepted (cond p (cond q Accepted InvalidTransition) Unrepresentable)) v (refuses (cond p (cond q Accepted InvalidTransition) Unrepresentable))
      ≡ cond p (cond q v (refuses InvalidTransition)) (refuses Unrepresentable)
  entry-by true true v = refl
  entry-by true false v = refl
  entry-by false q v = refl

  pub entry-as : (c : VoterSlotControl) (cut : VoterSlotLogId) → entry_verdict t c cut ≡ checked_call (representable_control c) cut (judge t c cut)
  unfolding checked_of
  entry-as c cut =
      let p = valid-parts t valid in
      let f : Bool → Answer → Answer = λ b a. cond (b && representable_control c) (cond (is_accepted a && valid_log_id cut) Accepted InvalidTransition) Unrepresentable in
      ap (λ (a : Answer). cond (is_accepted a) (judge t c cut) (refuses a)) (ap₂ f p.0 p.1)
      ∙ entry-by (representable_control c) (valid_log_id cut) (judge t c cut)

  pub marker_entry : (b : MarkerBody) → entry_verdict t (marker_control b) b.cut ≡ checked_call true b.cut (judge_marker t b.request_id b.request_digest)
  unfolding judge marker_control
  marker_entry b =
      entry-as (marker_control b) b.cut
      ∙ ap (λ (f : Bool). checked_call f b.cut (judge_marker t b.request_id b.request_digest)) (fits_marker b)

  pub advance_entry : (a : VoterAdvance) → entry_verdict t (advance_control a) a.cut ≡ checked_call (representable_step a.step) a.cut (judge_of t a)
  unfolding judge advance_control
  advance_entry a =
      entry-as (advance_control a) a.cut ∙ ap (λ (f : Bool). checked_call f a.cut (judge_of t a)) (fits_advance a)

  pub begin_entry : (b : VoterBegin) → entry_verdict t (begin_control b.request) b.cut ≡ checked_call (representable_request b.request) b.cut (judge_begin t b.request b.cut)
  unfolding judge begin_control
  begin_entry b =
      entry-as (begin_control b.request) b.cut
      ∙ ap (λ (f : Bool). checked_call f b.cut (judge_begin t b.request b.cut)) (fits_begin b.request)

-- ---- which verdict makes a table

-- a number of a verdict that makes a table
pub moved : {M : Type 0} (v : Verdict M) (m : M) → numbered v ≡ moves_by m → v ≡ moves m
moved (refuses answer) m e = absurd (let z : ◌≡◌ {A = ℕ} 0 1 = cc in omega arith)
moved kept m e = absurd (let z : ◌≡◌ {A = ℕ} 0 1 = cc in omega arith)
moved (moves k) m e = let z : k ≡ m = cc in ap moves z

-- a body that is not of its form asks nothing that makes one
by-formed : {A : Type 0} (P : Asking → Type 0) (r : Res A) (next : A → Asking) → P bad → ((a : A) → P (next a)) → P (formed r next)
unfolding formed
by-formed P (ok a n) next p f = f a
by-formed P (no k) next p f = p

-- nor does a Begin whose attestation is refused
by-attested : (P : Asking → Type 0) (r : Res LostVoterAttestationV1) (next : LostVoterAttestationV1 → Asked) → ((k : ℕ) → P (refused k))
    → ((a : LostVoterAttestationV1) → P (asks (next a))) → P (attested r next)
unfolding attested
by-attested P (ok a n) next p f = f a
by-attested P (no k) next p f = p k

-- a Marker makes none
marker-never : (b : Bool) (m : Move) → cond b kept (refuses InvalidTransition) ≡ moves m → ⊥
marker-never true m e = false≢true (ap is_move e)
marker-never false m e = false≢true (ap is_move e)

-- a Begin makes no table of a step
step-not : (b : Bool) (v w : Verdict Move) → is_step v ≡ false → is_step w ≡ false → is_step (cond b v w) ≡ false
step-not true v w p q = p
step-not false v w p q = q

begin-steps : (t : VoterSlotTable) (r : VoterReplacementRequest) (cut : VoterSlotLogId) → is_step (judge_begin t r cut) ≡ false
unfolding judge_begin judge_repeated
begin-steps t r cut =
    step-not (is_known t r.attestation.request_id) _ _
    (step-not (eq_bytes (known_digest t r.attestation.request_id) r.attestation.request_digest) _ _ (step-not (is_accepted (request_check r)) _ _ refl refl) refl)
    (step-not (is_accepted (begin_check t r cut)) _ _ (step-not (begin_test t cut) _ _ refl refl) refl)

-- An Advance makes no table of a Begin: what it makes is that of a step (`advance-made`), and a
-- Begin's has another revision.
begins-not : (t : VoterSlotTable) (a : VoterAdvance) → judge_of t a ≡ moves begins → ⊥
unfolding carried made step_made advance_control
begins-not t a e =
    let c = advance_control a in
    let z = sym (ap (carried (made t c a.cut) t) e) ∙ (advance-made t c a.cut ∙ ap (carried (step_made t a.step a.cut) t) e) in
    let r : t.revision + 1 ≡ t.revision = ap (λ (x : Answer × VoterSlotTable). x.1.revision) z in
    omega arith

module _ (t : VoterSlotTable) where
  -- the command that the entry point judged makes its table
  pub judged-moves : (c : VoterSlotControl) (cut : VoterSlotLogId) (m : Move) → numbered (entry_verdict t c cut) ≡ moves_by m → (validate t ≡ Accepted) × (judge t c cut ≡ moves m)
  judged-moves c cut m e = entry-moves t c cut m (moved (entry_verdict t c cut) m e)

  advance-mark : (a : VoterAdvance) (m : Move) → judge_of t a ≡ moves m → mark_of_move m ≡ Ad
  advance-mark a begins e = absurd (begins-not t a e)
  advance-mark a records_snapshot e = refl
  advance-mark a records_caught_up e = refl
  advance-mark a continues e = refl
  advance-mark a fences e = refl
  advance-mark a finalizes e = refl

  begin-mark : (m : Move) → is_step (moves m) ≡ false → mark_of_move m ≡ Bg
  begin-mark begins h = refl
  begin-mark records_snapshot h = absurd (false≢true (sym h))
  begin-mark records_caught_up h = absurd (false≢true (sym h))
  begin-mark continues h = absurd (false≢true (sym h))
  begin-mark fences h = absurd (false≢true (sym h))
  begin-mark finalizes h = absurd (false≢true (sym h))

  -- the body that a change is read from again is the one that it was judged of
  Marks : Mark → Move → Asking → Type 0
  Marks mark m a = command_verdict t a ≡ moves_by m → mark_of_move m ≡ mark

  bad-marks : (mark : Mark) (m : Move) → Marks mark m bad
  unfolding Marks command_verdict
  bad-marks mark m e = absurd (let z : ◌≡◌ {A = ℕ} 0 1 = cc in omega arith)

  refused-marks : (mark : Mark) (m : Move) (k : ℕ) → Marks mark m (refused k)
  unfolding Marks command_verdict
  refused-marks mark m k e = absurd (let z : ◌≡◌ {A = ℕ} 0 1 = cc in omega arith)

  marker-marks : (m : Move) (b : MarkerBody) → Marks Mk m (asks (marker_asked b))
  unfolding Marks command_verdict marker_asked marker_control judge judge_marker
  marker-marks m b e =
      absurd
      (marker-never
      (is_open_request t b.request_id && eq_bytes t.replacement.attestation.request_digest b.request_digest && is_catching_up t.replacement.phase) m
      (judged-moves (marker_control b) b.cut m e).1)

  advance-marks : (m : Move) (b : AdvanceBody) → Marks Ad m (asks (advance_asked b))
  unfolding Marks command_verdict advance_asked advance_control advance_of judge
  advance-marks m b e = advance-mark (advance_of b) m (judged-moves (advance_control (advance_of b)) b.named.cut m e).1

  begin-marks : (m : Move) (b : BeginBody) (a : LostVoterAttestationV1) → Marks Bg m (asks (begin_asked b a))
  unfolding Marks command_verdict begin_asked begin_control judge
  begin-marks m b a e =
      let r = (begin_of b a).request in
      begin-mark m (sym (ap is_step (judged-moves (begin_control r) b.head.cut m e).1) ∙ begin-steps t r b.head.cut)

  pub move-mark : (mark : Mark) (body : List ℕ) (m : Move) → (mark ≡ Ob → ⊥) → command_verdict t (asking mark body) ≡ moves_by m → mark_of_move m ≡ mark
  unfolding asking Marks
  move-mark Tb body m n = bad-marks Tb m
  move-mark Mk body m n = by-formed (Marks Mk m) (whole marker_body body) (λ b. asks (marker_asked b)) (bad-marks Mk m) (marker-marks m)
  move-mark Ad body m n = by-formed (Marks Ad m) (whole advance_body body) (λ b. asks (advance_asked b)) (bad-marks Ad m) (advance-marks m)
  move-mark Bg body m n =
      by-formed (Marks Bg m) (whole begin_body body) (λ b. attested (decode_lost_voter_attestation b.attestation) (begin_asked b)) (bad-marks Bg m)
      (λ b. by-attested (Marks Bg m) (decode_lost_voter_attestation b.attestation) (begin_asked b) (refused-marks Bg m) (begin-marks m b))
  move-mark Ob body m n = absurd (n refl)
  move-mark Unknown body m n = bad-marks Unknown m

  -- so what was judged of a body may be made of it
  pub makes : (mark : Mark) (body : List ℕ) (called : Called) → Judges t mark body called → Makes t body called
  makes mark body (Command judged) j =
      λ m h.
      let e : command_verdict t (asking mark body) ≡ moves_by m = sym j.1 ∙ ap numbered h in
      subst (λ (k : Mark). command_verdict t (asking k body) ≡ moves_by m) (sym (move-mark mark body m j.0 e)) e
  makes mark body (Observation observed) j = λ m h. sym j.1 ∙ ap numbered h

-- ---- judged and made is `step`

-- what a body under each mark asks
abbrev pub observes : Asking → Bool
observes bad = false
observes (refused k) = false
observes (asks (command c cut)) = false
observes (asks (observation ids counts nodes cut)) = true

abbrev commands : Asking → Bool
commands bad = false
commands (refused k) = false
commands (asks (command c cut)) = true
commands (asks (observation ids counts nodes cut)) = false

pub no-observation : (mark : Mark) (body : List ℕ) → (mark ≡ Ob → ⊥) → observes (asking mark body) ≡ false
unfolding asking marker_asked advance_asked begin_asked
no-observation Tb body n = refl
no-observation Mk body n = by-formed (λ (a : Asking). observes a ≡ false) (whole marker_body body) (λ b. asks (marker_asked b)) refl (λ b. refl)
no-observation Ad body n = by-formed (λ (a : Asking). observes a ≡ false) (whole advance_body body) (λ b. asks (advance_asked b)) refl (λ b. refl)
no-observation Bg body n =
    by-formed (λ (a : Asking). observes a ≡ false) (whole begin_body body) (λ b. attested (decode_lost_voter_attestation b.attestation) (begin_asked b)) refl
    (λ b. by-attested (λ (a : Asking). observes a ≡ false) (decode_lost_voter_attestation b.attestation) (begin_asked b) (λ k. refl) (λ a. refl))
no-observation Ob body n = absurd (n refl)
no-observation Unknown body n = refl

no-command : (body : List ℕ) → commands (asking Ob body) ≡ false
unfolding asking observation_asked
no-command body = by-formed (λ (a : Asking). commands a ≡ false) (whole observation_body body) (λ b. asks (observation_asked b)) refl (λ b. refl)

module _ {M : Type 0} (make : M → VoterSlotTable) (t : VoterSlotTable) where
  -- of a verdict with the number of another that was carried out
  abbrev Outcome : Verdict M → ℕ × Standing
  Outcome v = (number_of (carried make t v).0, stands (carried make t v).1)

  same_outcome : (v w : Verdict M) → numbered v ≡ numbered w → Outcome w ≡ Outcome v
  unfolding carried
  same_outcome (refuses a) (refuses b) e = let z : number_of b ≡ number_of a = cc in ap (λ (n : ℕ). (n, stands t)) z
  same_outcome (refuses a) kept e = absurd (let z : ◌≡◌ {A = ℕ} 0 1 = cc in omega arith)
  same_outcome (refuses a) (moves m) e = absurd (let z : ◌≡◌ {A = ℕ} 0 1 = cc in omega arith)
  same_outcome kept (refuses b) e = absurd (let z : ◌≡◌ {A = ℕ} 0 1 = cc in omega arith)
  same_outcome kept kept e = refl
  same_outcome kept (moves m) e = absurd (let z : ◌≡◌ {A = ℕ} 0 1 = cc in omega arith)
  same_outcome (moves k) (refuses b) e = absurd (let z : ◌≡◌ {A = ℕ} 0 1 = cc in omega arith)
  same_outcome (moves k) kept e = absurd (let z : ◌≡◌ {A = ℕ} 0 1 = cc in omega arith)
  same_outcome (moves k) (moves m) e = let z : m ≡ k = cc in ap (λ (x : M). Outcome (moves x)) z

  refused-outcome : (v : Verdict M) (n : ℕ) → numbered v ≡ refused_by n → (n, stands t) ≡ Outcome v
  unfolding carried
  refused-outcome (refuses a) n e = let z : n ≡ number_of a = cc in ap (λ (k : ℕ). (k, stands t)) z
  refused-outcome kept n e = absurd (let z : ◌≡◌ {A = ℕ} 0 1 = cc in omega arith)
  refused-outcome (moves m) n e = absurd (let z : ◌≡◌ {A = ℕ} 0 1 = cc in omega arith)

module _ (t : VoterSlotTable) where
  command-step : (a : Asking) (v : Verdict Move) → observes a ≡ false → numbered v ≡ command_verdict t a → called t a ≡ Outcome (made t (command_in a).0 (command_in a).1) t v
  unfolding called command_verdict answered
  command-step bad v h e = refused-outcome (made t (command_in bad).0 (command_in bad).1) t v bad_record e
  command-step (refused k) v h e = refused-outcome (made t (command_in bad).0 (command_in bad).1) t v k e
  command-step (asks (command c cut)) v h e =
      ap (λ (x : Answer × VoterSlotTable). (number_of x.0, stands x.1)) (sym (entry-carried t c cut)) ∙ same_outcome (made t c cut) t v (entry_verdict t c cut) e
  command-step (asks (observation ids counts nodes cut)) v h e = absurd (false≢true (sym h))

  command-made : (mark : Mark) (body : List ℕ) (v : Verdict Move) → (mark ≡ Ob → ⊥) → numbered v ≡ command_verdict t (asking mark body)
      → Outcome (made t (command_in (asking mark body)).0 (command_in (asking mark body)).1) t v ≡ (number_of (answer_of v), stands (made_by_command t body v))
  unfolding carried made_by_command
  command-made mark body (refuses a) n e = refl
  command-made mark body kept n e = refl
  command-made mark body (moves m) n e =
      ap (λ (k : Mark). (number_of Accepted, stands (made t (command_in (asking k body)).0 (command_in (asking k body)).1 m))) (sym (move-mark t mark body m n (sym e)))

  observation-step : validate t ≡ Accepted → (a : Asking) (v : Verdict Addition) → commands a ≡ false → numbered v ≡ observation_verdict t a
      → called t a ≡ Outcome (added t (command_in a).1) t v
  unfolding called observation_verdict answered
  observation-step valid bad v h e = refused-outcome (added t (command_in bad).1) t v bad_record e
  observation-step valid (refused k) v h e = refused-outcome (added t (command_in bad).1) t v k e
  observation-step valid (asks (command c cut)) v h e = absurd (false≢true (sym h))
  observation-step valid (asks (observation ids counts nodes cut)) v h e =
      ap (λ (x : Answer × VoterSlotTable). (number_of x.0, stands x.1)) (observes-valid t ids counts nodes cut valid)
      ∙ same_outcome (added t cut) t v (weighed t ids counts nodes cut) e

  observation-made : (body : List ℕ) (v : Verdict Addition)
      → Outcome (added t (command_in (asking Ob body)).1) t v ≡ (number_of (answer_of_observed v), stands (made_by_observation t body v))
  unfolding carried made_by_observation
  observation-made body (refuses a) = refl
  observation-made body kept = refl
  observation-made body (moves m) = refl

  pub step-called : validate t ≡ Accepted → (mark : Mark) (body : List ℕ) (called : Called) → Judges t mark body called
      → step (stands t) (framed mark body) ≡ (number_of (answer_of_called called), stands (made_by t body called))
  unfolding step
  step-called valid mark body (Command judged) j =
      command-step (asking mark body) (verdict_of judged) (no-observation mark body j.0) j.1 ∙ command-made mark body (verdict_of judged) j.0 j.1
  step-called valid mark body (Observation observed) j =
      ap (λ (k : Mark). step (stands t) (framed k body)) j.0
      ∙ (observation-step valid (asking Ob body) (verdict_of_observed observed) (no-command body) j.1 ∙ observation-made body (verdict_of_observed observed))

-- ---- what each maker asks for

-- what was read first of two parts
seq-front : {A B : Type 0} (c : List ℕ → Res A) (d : A → List ℕ → Res B) (bs : List ℕ) {p : A × B} {n : ℕ} → dec_seq c d bs ≡ ok p n → (k : ℕ) × (c bs ≡ ok p.0 k)
unfolding dec_seq
seq-front {A} {B} c d bs e =
    let (a, k, e₁, e₂) = began (c bs) (λ a k. and_then (d a (drop k bs)) (λ b m. ok (a, b) (k + m))) e in
    let (b, m, e₃, e₄) = began (d a (drop k bs)) (λ b m. ok (a, b) (k + m)) e₂ in
    (k, e₁ ∙ ap (λ (x : A × B). ok x.0 k) (ok-value e₄))

module _ (t : VoterSlotTable) (body : List ℕ) where
  -- a Begin
  abbrev pub BeginNeed : VoterBegin → Asking → Type 0
  BeginNeed b a =
      ((t.revision ≡ full → ⊥) × (((current_configuration t).epoch ≡ full → ⊥) × ((t.count ≤ 9) × (named_index t b.request < t.count))))
      × (begun t b.request b.cut ≡ made t (command_in a).0 (command_in a).1 begins)

  pub begin_need : (b : VoterBegin) → HoldsBegin body b → command_verdict t (asking Bg body) ≡ moves_by begins → BeginNeed b (asking Bg body)
  unfolding command_verdict made begin_control
  begin_need b h q = by h.0 h.1.0 h.1.1
    where
      asked : (v : VoterBegin) → command_verdict t (asks (command (begin_control v.request) v.cut)) ≡ moves_by begins → BeginNeed v (asks (command (begin_control v.request) v.cut))
      asked v k =
          let j = judged-moves t (begin_control v.request) v.cut begins k in
          (begin-room t v j.0 (ap is_move (begin-begins t (begin_control v.request) v.cut j.1)), refl)

      by : (o : Option (Result VoterBegin Refusal)) → begin_asking o ≡ asking Bg body → IfSome o (λ r. IfOk r (λ v. v ≡ b)) → BeginNeed b (asking Bg body)
      by None e i = absurd (let k = ap (command_verdict t) e ∙ q in let z : ◌≡◌ {A = ℕ} 0 1 = cc in omega arith)
      by (Some (Err x)) e i = absurd (let k = ap (command_verdict t) e ∙ q in let z : ◌≡◌ {A = ℕ} 0 1 = cc in omega arith)
      by (Some (Ok v)) e i =
          subst (λ (x : VoterBegin). BeginNeed x (asking Bg body)) i
          (subst (λ (a : Asking). command_verdict t a ≡ moves_by begins → BeginNeed v a) e (asked v) q)

  -- a step of an Advance
  abbrev pub AdvanceNeed : VoterAdvance → Move → Asking → Type 0
  AdvanceNeed v m a =
      (validate t ≡ Accepted) × ((judge_of t v ≡ moves m) × (step_made t v.step v.cut m ≡ made t (command_in a).0 (command_in a).1 m))

  step-made : (v : VoterAdvance) (m : Move) → is_step (moves m) ≡ true → step_made t v.step v.cut m ≡ made t (advance_control v) v.cut m
  unfolding made step_made advance_control
  step-made v begins h = absurd (false≢true h)
  step-made v records_snapshot h = refl
  step-made v records_caught_up h = refl
  step-made v continues h = refl
  step-made v fences h = refl
  step-made v finalizes h = refl

  pub advance_need : (a : VoterAdvance) (m : Move) → is_step (moves m) ≡ true → HoldsAdvance body a → command_verdict t (asking Ad body) ≡ moves_by m
      → AdvanceNeed a m (asking Ad body)
  unfolding command_verdict advance_control
  advance_need a m s h q = by h.0 h.1.0 h.1.1
    where
      asked : (v : VoterAdvance) → command_verdict t (asks (command (advance_control v) v.cut)) ≡ moves_by m → AdvanceNeed v m (asks (command (advance_control v) v.cut))
      asked v k =
          let j = judged-moves t (advance_control v) v.cut m k in
          (j.0, (step-advance t (advance_control v) v.cut m s j.1, step-made v m s))

      by : (o : Option VoterAdvance) → advance_asking o ≡ asking Ad body → IfSome o (λ v. v ≡ a) → AdvanceNeed a m (asking Ad body)
      by None e i = absurd (let k = ap (command_verdict t) e ∙ q in let z : ◌≡◌ {A = ℕ} 0 1 = cc in omega arith)
      by (Some v) e i =
          subst (λ (x : VoterAdvance). AdvanceNeed x m (asking Ad body)) i
          (subst (λ (y : Asking). command_verdict t y ≡ moves_by m → AdvanceNeed v m y) e (asked v) q)

  -- an observation: there is room
  room_by : (a : Asking) (m : Addition) → observation_verdict t a ≡ moves_by m → Room t
  unfolding observation_verdict
  room_by bad m e = absurd (let z : ◌≡◌ {A = ℕ} 0 1 = cc in omega arith)
  room_by (refused k) m e = absurd (let z : ◌≡◌ {A = ℕ} 0 1 = cc in omega arith)
  room_by (asks (command c cut)) m e = absurd (let z : ◌≡◌ {A = ℕ} 0 1 = cc in omega arith)
  room_by (asks (observation ids counts nodes cut)) m e = weighed-room t ids counts nodes cut (ap is_change (moved (weighed t ids counts nodes cut) m e))

  pub observation_room : (m : Addition) → observation_verdict t (asking Ob body) ≡ moves_by m → Room t
  observation_room = room_by (asking Ob body)

  -- and its cut is the log id that the body begins with
  cut-front : (b : ObservationBody) {n : ℕ} → observation_body.dec body ≡ ok b n → (k : ℕ) × (log_id.dec body ≡ ok b.cut k)
  unfolding observation_body via dep
  cut-front b {n} e =
      let (p, e₁, e₂) =
      mapped _ (λ (p : (VoterSlotLogId × List (List ℕ)) × List ℕ). record { cut = p.0.0; sets = p.0.1; nodes = p.1 }) body e in
      let (k, f) = seq-front (dep log_id (λ a. node_sets)).dec (λ a. node_ids.dec) body e₁ in
      let (j, g) = seq-front log_id.dec (λ a. node_sets.dec) body f in
      (j, g ∙ ap (λ (y : ObservationBody). ok y.cut j) e₂)

  pub cut_is : (m : Addition) → observation_verdict t (asking Ob body) ≡ moves_by m → cut_at body ≡ (command_in (asking Ob body)).1
  unfolding asking formed observation_verdict observation_asked cut_by
  cut_is m = by (whole observation_body body) refl
    where
      by : (r : Res ObservationBody) → whole observation_body body ≡ r → observation_verdict t (formed r (λ b. asks (observation_asked b))) ≡ moves_by m
          → cut_at body ≡ (command_in (formed r (λ b. asks (observation_asked b)))).1
      by (ok b n) e h = ap cut_by (cut-front b (whole_is observation_body body e)).1
      by (no k) e h = absurd (let z : ◌≡◌ {A = ℕ} 0 1 = cc in omega arith)

-- ---- where there is none, the table stays
pub unchanged : (t : VoterSlotTable) (body : List ℕ) (called : Called) → is_changing called ≡ false → t ≡ made_by t body called
unfolding made_by_command made_by_observation
unchanged t body (Command judged) = by (verdict_of judged)
  where
    by : (v : Verdict Move) → is_made v ≡ false → t ≡ made_by_command t body v
    by (refuses answer) h = refl
    by kept h = refl
    by (moves m) h = absurd (false≢true (sym h))
unchanged t body (Observation observed) = by (verdict_of_observed observed)
  where
    by : (v : Verdict Addition) → is_made v ≡ false → t ≡ made_by_observation t body v
    by (refuses answer) h = refl
    by kept h = refl
    by (moves m) h = absurd (false≢true (sym h))

-- ---- a valid table is followed by a valid one

settle-valid : (t : VoterSlotTable) (d : Decision) → validate t ≡ Accepted → validate (settle t d).1 ≡ Accepted
unfolding settle
settle-valid t (refuse answer) h = h
settle-valid t keep h = h
settle-valid t (change next) h =
    by-test (λ (x : Answer × VoterSlotTable). validate x.1 ≡ Accepted) (is_accepted (validate_successor_of next t))
    (λ e. (successor next t (is-accepted (validate_successor_of next t) e)).new-valid)
    (λ _. h)

module _ (t : VoterSlotTable) (valid : validate t ≡ Accepted) where
  answered-valid : (a : Asked) → validate (answered t a).1 ≡ Accepted
  unfolding answered apply_control observe_membership
  answered-valid (command c cut) =
      by-test (λ (x : Answer × VoterSlotTable). validate x.1 ≡ Accepted) (representable t && representable_control c)
      (λ _. by-test (λ (x : Answer × VoterSlotTable). validate x.1 ≡ Accepted) (is_accepted (validity t) && valid_log_id cut) (λ _. settle-valid t (decide t c cut) valid) (λ _. valid))
      (λ _. valid)
  answered-valid (observation ids counts nodes cut) =
      by-test (λ (x : Answer × VoterSlotTable). validate x.1 ≡ Accepted) (representable t && representable_sets ids counts nodes)
      (λ _. by-test (λ (x : Answer × VoterSlotTable). validate x.1 ≡ Accepted) (all_rising (split_sets ids counts) && is_rising nodes)
      (λ _. settle-valid t (observe t (split_sets ids counts) nodes cut) valid)
      (λ _. valid))
      (λ _. valid)

  called-valid : (a : Asking) → ValidStanding (called t a).1
  unfolding called
  called-valid bad = valid
  called-valid (refused k) = valid
  called-valid (asks a) = answered-valid a

  pub made-valid : (mark : Mark) (body : List ℕ) (called : Called) → Judges t mark body called → validate (made_by t body called) ≡ Accepted
  unfolding step
  made-valid mark body called j = subst ValidStanding (ap (λ (x : ℕ × Standing). x.1) (step-called t valid mark body called j)) (called-valid (asking mark body))

-- ---- what was judged, by the mark

abbrev pub is_observation : Mark → Bool
is_observation Tb = false
is_observation Mk = false
is_observation Ad = false
is_observation Bg = false
is_observation Ob = true
is_observation Unknown = false

module _ (t : VoterSlotTable) (mark : Mark) (body : List ℕ) (called : Called) where
  pub judges-command : (judged : Result Judged Refusal) (m : Mark) → called ≡ Command judged → mark ≡ m → is_observation m ≡ false
      → numbered (verdict_of judged) ≡ command_verdict t (asking m body) → Judges t mark body called
  judges-command judged m e f n h =
      subst (Judges t mark body) (sym e) (
        λ g. false≢true (sym n ∙ ap is_observation (sym f ∙ g)),
        h ∙ ap (λ (x : Mark). command_verdict t (asking x body)) (sym f),
      )

  pub judges-observation : (observed : Result Observed Refusal) → called ≡ Observation observed → mark ≡ Ob
      → numbered (verdict_of_observed observed) ≡ observation_verdict t (asking Ob body) → Judges t mark body called
  judges-observation observed e f h = subst (Judges t mark body) (sym e) (f, h)

  -- of no known mark, or a TB
  pub judges-bad : (m : Mark) → called ≡ Command (Err refusal.BadRecord) → mark ≡ m → asking m body ≡ bad → is_observation m ≡ false → Judges t mark body called
  unfolding command_verdict
  judges-bad m e f b n = judges-command (Err refusal.BadRecord) m e f n (ap (command_verdict t) (sym b))

pub table-bad : (body : List ℕ) → asking Tb body ≡ bad
unfolding asking
table-bad body = refl

pub unknown-bad : (body : List ℕ) → asking Unknown body ≡ bad
unfolding asking
unknown-bad body = refl
