-- Each way that a call on a lent table can go, from what its parts answer.
-- Assumes nothing.
use Rattle.std.specs.Prelude.{ℕ, ◌<◌, ◌≤◌, ◌≡◌, Bool, cond, ◌&&◌, List, length, eqb, Result, Err}
use Rattle.identity.specs.declared.answer.Refusal.{Refusal}
use Rattle.std.proofs.Math.Path.{refl, ap}
use Rattle.std.proofs.Common.{sym, ◌∙◌, arith, ne_eqb}
use Rattle.std.proofs.Math.Bool.{true, false}
use Rattle.std.proofs.lemmas.Bool.{false≢true}
use Rattle.identity.specs.Answer.{is_accepted, number_of, Answer, Accepted, InvalidTransition, Unrepresentable}
use Rattle.identity.specs.AnswerLaws.{accepted-is-0, number-injective}
use Rattle.format.specs.Res.Res.{no}
use Rattle.records.specs.Representable.{representable}
use Rattle.records.specs.Successor.{validate_successor_of}
use Rattle.records.specs.SuccessorParts.{check-holds}
use Rattle.records.specs.TestLaws.{by-test, cond-false, cond-true}
use Rattle.records.specs.Validation.{validate, validity}
use Rattle.records.specs.ValidationLaws.{is-accepted}
use Rattle.records.specs.ValidParts.{valid-parts}
use Rattle.records.specs.Evidence.{valid_log_id}
use Rattle.records.specs.declared.records.VoterSlotLogId.{VoterSlotLogId}
use Rattle.records.specs.declared.records.VoterSlotTable.{VoterSlotTable}
use Rattle.codec.specs.Codec.{decode_voter_slot_table}
use Rattle.codec.specs.EntryLaws.{encode-refused}
use Rattle.codec.specs.FitsLaws.{table_fits}
use Rattle.control.specs.Control.{Decision, apply_control, decide, representable_control, settle}
use Rattle.control.specs.Control.Decision.{refuse, keep, change}
use Rattle.control.specs.Observation.{all_rising, is_rising, observe, observe_membership, representable_sets, split_sets}
use Rattle.journal.specs.declared.bodies.MarkerBody.{MarkerBody}
use Rattle.journal.specs.declared.replay.Mark.{Mark}
use Rattle.journal.specs.declared.replay.Mark.TheVariants.{Ob}
use Rattle.journal.specs.declared.step.Called.{Called}
use Rattle.journal.specs.Replay.{Asking, Standing, answered, asking, bad_record, called, marker_control, step}
use Rattle.journal.specs.Replay.Asked.{command, observation}
use Rattle.journal.specs.Replay.Asking.{bad, refused, asks}
use Rattle.journal.specs.Replay.Standing.{stands}
use Rattle.journal.specs.Step.{Judges, answer_of_called, made_by}
use Rattle.journal.proofs.StepLaws.{fits_marker, no-observation, observes, step-called}
use Rattle.voter_slots.specs.declared.result.VoterSlotsResult.{VoterSlotsResult}
use Rattle.voter_slots.specs.Calls.{most_body}
use Rattle.voter_slots.specs.CallLaws.{never-zero, observation-long, same-table}
use Rattle.voter_slots.specs.Export.{ReadAs, leaves, refused_result, numbers_of, said, written_by}
use Rattle.voter_slots.specs.ExportLaws.{read_as}
use Rattle.voter_slots.specs.Lent.{asked_at, read_over, refusal_at, stays, table_observe_of, table_read_of, table_write_of, told}

-- what a call gives, with a table
abbrev Outcome : Type 0
Outcome = VoterSlotsResult × VoterSlotTable

-- ---- reading and writing

pub over-ok : (t : VoterSlotTable) (bs : List ℕ) (read : VoterSlotTable) → ReadAs bs read → ◌≡◌ {A = Outcome} (numbers_of read (length bs), read) (table_read_of t bs)
unfolding read_over
over-ok t bs read e = ap (read_over t (length bs)) (sym (read_as bs read e).1)

pub over_no : (t : VoterSlotTable) (bs : List ℕ) {k : ℕ} → decode_voter_slot_table bs ≡ no k → stays k t ≡ table_read_of t bs
unfolding read_over
over_no t bs e = ap (read_over t (length bs)) (sym e)

pub unwritten : (t : VoterSlotTable) (out : List ℕ) → is_accepted (validate t) ≡ false → leaves (number_of (validate t)) out ≡ table_write_of t out
unfolding written_by
unwritten t out h = ap (written_by t out) (sym (encode-refused t out (sym (accepted-is-0 (validate t)) ∙ h)))

-- ---- what a caller is told

pub tells : (a : Answer) (u : VoterSlotTable) → is_accepted a ≡ true → ◌≡◌ {A = Outcome} (numbers_of u 0, u) (told (a, u))
tells a u h = ap (λ (r : VoterSlotsResult). (r, u)) (sym (cond-true (is_accepted a) (numbers_of u 0) (refused_result (number_of a)) h))

pub tells-not : (a : Answer) (u : VoterSlotTable) → is_accepted a ≡ false → stays (number_of a) u ≡ told (a, u)
tells-not a u h = ap (λ (r : VoterSlotsResult). (r, u)) (sym (cond-false (is_accepted a) (numbers_of u 0) (refused_result (number_of a)) h))

-- a refusal that is passed on
pub told-err : (x : Result VoterSlotsResult Refusal) (e : Refusal) (a : Answer) (t u : VoterSlotTable) → x ≡ Err e → Err e ≡ a → t ≡ u → ◌≡◌ {A = Outcome} (said x, t) (told (a, u))
told-err x e a t u r h s = ap (λ (y : Result VoterSlotsResult Refusal). (said y, t)) r ∙ (λ i. told (h i, s i))

-- a refusal by its number
told-no : (a : Answer) (t u : VoterSlotTable) (k : ℕ) → k ≡ number_of a → (k ≡ 0 → ⊥) → t ≡ u → told (a, u) ≡ stays k t
told-no a t u k e h s =
    ap (λ (b : Bool). (cond b (numbers_of u 0) (refused_result (number_of a)), u)) (accepted-is-0 a)
    ∙ (ap (λ (n : ℕ). (cond (eqb n 0) (numbers_of u 0) (refused_result n), u)) (sym e)
    ∙ (ap (λ (r : VoterSlotsResult). (r, u)) (cond-false (eqb k 0) (numbers_of u 0) (refused_result k) (ne_eqb k 0 h)) ∙ ap (stays k) (sym s)))

-- ---- a valid table

given-at : (x : Asking) (a : Answer) (u t : VoterSlotTable) → (x ≡ refused 0 → ⊥) → ◌≡◌ {A = ℕ × Standing} (called t x) (number_of a, stands u) → told (a, u) ≡ asked_at x t
unfolding called asked_at
given-at bad a u t h e = told-no a t u bad_record (λ i. (e i).0) (λ z. omega arith) (same-table t u (λ i. (e i).1))
given-at (refused k) a u t h e = told-no a t u k (λ i. (e i).0) (λ z. h (ap (λ (j : ℕ). refused j) z)) (same-table t u (λ i. (e i).1))
given-at (asks q) a u t h e =
    let s : (answered t q).0 ≡ a = number-injective (answered t q).0 a (λ i. (e i).0) in
    let v : (answered t q).1 ≡ u = same-table (answered t q).1 u (λ i. (e i).1) in
    λ i. told (sym s i, sym v i)

-- what was judged of the body, made
pub carried : (t : VoterSlotTable) (mark : Mark) (body : List ℕ) (c : Called) → validate t ≡ Accepted → Judges t mark body c
    → told (answer_of_called c, made_by t body c) ≡ asked_at (asking mark body) t
unfolding step
carried t mark body c v j = given-at (asking mark body) (answer_of_called c) (made_by t body c) t (never-zero mark body) (step-called t v mark body c j)

pub valid-count : (t : VoterSlotTable) → validate t ≡ Accepted → t.count ≤ 9
valid-count t v = (table_fits t (valid-parts t v).0).count

-- ---- a command at a table that is not valid

and-true : (b : Bool) → (b && true) ≡ b
and-true true = refl
and-true false = refl

module _ (t : VoterSlotTable) (invalid : is_accepted (validate t) ≡ false) where
  not_valid : representable t ≡ true → is_accepted (validity t) ≡ false
  unfolding validate
  not_valid r = ap is_accepted (sym (cond-true (representable t) (validity t) Unrepresentable r)) ∙ invalid

  refused-by : (fits held valid nonzero : Bool) (x : Answer × VoterSlotTable) → (fits ≡ true → valid ≡ false)
      → ◌≡◌ {A = Answer × VoterSlotTable} (cond (fits && held) (cond (valid && nonzero) x (InvalidTransition, t)) (Unrepresentable, t)) (cond (fits && held) InvalidTransition Unrepresentable, t)
  refused-by true true valid nonzero x h = ap (λ (b : Bool). cond (b && nonzero) x (InvalidTransition, t)) (h refl)
  refused-by true false valid nonzero x h = refl
  refused-by false held valid nonzero x h = refl

  told-by : (b : Bool) → stays (number_of (cond b InvalidTransition Unrepresentable)) t ≡ told (cond b InvalidTransition Unrepresentable, t)
  told-by true = refl
  told-by false = refl

  refusal-by : (x : Asking) → observes x ≡ false → stays (refusal_at (representable t) x) t ≡ asked_at x t
  unfolding refusal_at asked_at answered apply_control
  refusal-by bad h = refl
  refusal-by (refused k) h = refl
  refusal-by (asks (command c cut)) h =
      told-by (representable t && representable_control c)
      ∙ ap told (sym (refused-by (representable t) (representable_control c) (is_accepted (validity t)) (valid_log_id cut) (settle t (decide t c cut)) not_valid))
  refusal-by (asks (observation ids counts nodes cut)) h = absurd (false≢true (sym h))

  pub refusal_is : (mark : Mark) (body : List ℕ) → (mark ≡ Ob → ⊥) → stays (refusal_at (representable t) (asking mark body)) t ≡ asked_at (asking mark body) t
  refusal_is mark body n = refusal-by (asking mark body) (no-observation mark body n)

-- a marker has no part that does not fit
pub marker_fits : (fits : Bool) (b : MarkerBody) → (fits && representable_control (marker_control b)) ≡ fits
marker_fits fits b = ap (λ (x : Bool). fits && x) (fits_marker b) ∙ and-true fits

-- ---- an observation

-- a call that is accepted has a table whose slots have places
settle-fits : (t : VoterSlotTable) (d : Decision) → representable t ≡ true → (settle t d).1.count ≤ 9
unfolding settle
settle-fits t (refuse answer) r = (table_fits t r).count
settle-fits t keep r = (table_fits t r).count
settle-fits t (change next) r =
    by-test (λ (x : Answer × VoterSlotTable). x.1.count ≤ 9) (is_accepted (validate_successor_of next t))
    (λ h. valid-count next (check-holds next t (is-accepted (validate_successor_of next t) h)).new-valid) (λ _. (table_fits t r).count)

module _ (t : VoterSlotTable) (ids counts nodes : List ℕ) (cut : VoterSlotLogId) where
  and_left : (a b : Bool) → (a && b) ≡ true → a ≡ true
  and_left true b h = refl
  and_left false b h = absurd (false≢true h)

  pub observed-fits : is_accepted (observe_membership t ids counts nodes cut).0 ≡ true → (observe_membership t ids counts nodes cut).1.count ≤ 9
  unfolding observe_membership
  observed-fits =
      by-test (λ (x : Answer × VoterSlotTable). is_accepted x.0 ≡ true → x.1.count ≤ 9) (representable t && representable_sets ids counts nodes)
      (λ h. by-test (λ (x : Answer × VoterSlotTable). is_accepted x.0 ≡ true → x.1.count ≤ 9) (all_rising (split_sets ids counts) && is_rising nodes)
      (λ _ _. settle-fits t (observe t (split_sets ids counts) nodes cut) (and_left (representable t) (representable_sets ids counts nodes) h))
      (λ _ k. absurd (false≢true k)))
      (λ _ k. absurd (false≢true k))

-- one that no record has room for
pub long-observation : (t : VoterSlotTable) (body : List ℕ) → most_body < length body → stays bad_record t ≡ table_observe_of t body
unfolding asking asked_at
long-observation t body h = ap (λ (m : Mark). asked_at (asking m body) t) (sym (observation-long (length body) h))
