-- The laws of the specs as the attributes of the calls cite them: all variables are shown, and a law
-- of two sides has on its left what the check is to replace. What is said of a verdict and of the
-- answer and the table that it comes to (`added-told` to `added_left`, `told` to `command-room`) no
-- attribute cites, and it stands.
-- Assumes nothing.
use mathlib.Core.Bool.{false, true}
use mathlib.Core.Path.{◌≡◌, refl, sym, ap, ap₂, ◌∙◌}
use Rattle.std.specs.Prelude.{Result, Ok}
use mathlib.Core.List.{List}
use Prim.Native.Nat.{ℕ, ◌<◌, ◌≤◌}
use Rattle.identity.specs.Answer.{Answer, Accepted, is_accepted}
use Rattle.identity.specs.declared.answer.Refusal.{Refusal}
use Rattle.records.specs.Validation.{validate}
use Rattle.records.specs.declared.records.VoterSlotLogId.{VoterSlotLogId}
use Rattle.records.specs.declared.records.VoterSlotTable.{VoterSlotTable}
use Rattle.control.specs.declared.begin.VoterBegin.{VoterBegin}
use Rattle.control.specs.declared.control.VoterAdvance.{VoterAdvance}
use Rattle.control.specs.declared.control.VoterSlotControl.{VoterSlotControl}
use Rattle.control.specs.ApplyLaws.{applied-advance, applied-begin, applied-marker}
use Rattle.control.specs.BeginJudge.{begin_outcome}
use Rattle.control.specs.BeginVerdictLaws.{begin-room}
use Rattle.control.specs.Control.{apply_control, current_configuration, full, named_index, target_index}
use Rattle.control.specs.Judgement.{Addition, Move, Verdict, added, carried, judge, judge_advance, judge_begin, judge_marker}
use Rattle.control.specs.Judgement.Move.{begins, finalizes}
use Rattle.control.specs.Judgement.Verdict.{moves}
use Rattle.control.specs.Observation.{observe_membership}
use Rattle.control.specs.ObserveLaws.{added_none, entry-room, observes-entry, observes-valid, weighed-room}
use Rattle.control.specs.ObserveSight.{Room, answer_of_observed, entry_weighed, is_change, verdict_of_observed, weighed}
use Rattle.control.specs.VerdictLaws.{begin-begins, entry-passed, entry-refused, is_move, is_step, room_as, routed-to, step-advance, target-as}
use Rattle.control.specs.Verdicts.{advance_in, advance_outcome, answer_of, applied_of, begin_in, checked_of, paired, route_of, verdict_of}
use Rattle.control.specs.declared.judge.Judged.{Judged}
use Rattle.control.specs.declared.judge.Judged.TheVariants.{Begin}
use Rattle.control.specs.declared.observe.Observed.{Observed}

-- ---- observations

pub observed_valid : (t : VoterSlotTable) (ids counts nodes : List ℕ) (cut : VoterSlotLogId) → validate t ≡ Accepted
    → observe_membership t ids counts nodes cut ≡ carried (added t cut) t (weighed t ids counts nodes cut)
observed_valid t ids counts nodes cut = observes-valid t ids counts nodes cut

pub observed_entry : (t : VoterSlotTable) (ids counts nodes : List ℕ) (cut : VoterSlotLogId)
    → observe_membership t ids counts nodes cut ≡ carried (added t cut) t (entry_weighed t ids counts nodes cut)
observed_entry t ids counts nodes cut = observes-entry t ids counts nodes cut

pub weighed_room : (t : VoterSlotTable) (ids counts nodes : List ℕ) (cut : VoterSlotLogId) → is_change (weighed t ids counts nodes cut) ≡ true → Room t
weighed_room t ids counts nodes cut = weighed-room t ids counts nodes cut

pub entry_room : (t : VoterSlotTable) (ids counts nodes : List ℕ) (cut : VoterSlotLogId) → is_change (entry_weighed t ids counts nodes cut) ≡ true → Room t
entry_room t ids counts nodes cut = entry-room t ids counts nodes cut

-- what was observed is what the verdict v says
pub added-told : (r : Result Observed Refusal) (v : Verdict Addition) → verdict_of_observed r ≡ v → (o : Observed) → r ≡ Ok o → v ≡ verdict_of_observed (Ok o)
added-told r v judged o is = sym judged ∙ ap verdict_of_observed is

module _ (make : Addition → VoterSlotTable) (t : VoterSlotTable) (w v : Verdict Addition) (judged : w ≡ v) (answer : Answer) (answers : answer ≡ answer_of_observed w) where
  -- the table that is made, with the answer
  pub added_stored : (m : Addition) → v ≡ moves m → (n : VoterSlotTable) → n ≡ make m → paired answer n ≡ carried make t v
  unfolding carried
  added_stored m is n made = ap₂ paired (answers ∙ ap answer_of_observed (judged ∙ is)) made ∙ ap (carried make t) (sym is)

  -- the table as it was, with the answer
  pub added_left : (n : VoterSlotTable) → n ≡ t → is_change w ≡ false → paired answer n ≡ carried make t v
  added_left n kept none = ap₂ paired answers kept ∙ (added_none make t w none ∙ ap (carried make t) judged)

-- ---- commands: what a change finds

pub begin_room : (t : VoterSlotTable) (b : VoterBegin) (j : Judged) → validate t ≡ Accepted → verdict_of (Ok j) ≡ judge_begin t b.request b.cut → j ≡ Begin
    → (t.revision ≡ full → ⊥) × (((current_configuration t).epoch ≡ full → ⊥) × ((t.count ≤ 9) × (named_index t b.request < t.count)))
begin_room t b j valid judged is = begin-room t b valid (ap is_move (sym judged ∙ ap (λ (x : Judged). verdict_of (Ok x)) is))

pub advance_room : (t : VoterSlotTable) (a : VoterAdvance) (j k : Judged) → validate t ≡ Accepted → verdict_of (Ok j) ≡ judge_advance t a.request_id a.request_digest a.step a.cut
    → j ≡ k → is_move (verdict_of (Ok k)) ≡ true → Room t
advance_room t a j k valid judged is h =
    let v = sym judged ∙ ap (λ (x : Judged). verdict_of (Ok x)) is in (room_as t a (verdict_of (Ok k)) v h, target-as t a (verdict_of (Ok k)) v h valid)

-- ---- the kinds of a command

pub applied_begin : (t : VoterSlotTable) (c : VoterSlotControl) (cut : VoterSlotLogId) → c.kind ≡ 0 → applied_of t c cut ≡ begin_outcome t (begin_in c cut)
applied_begin t c cut k = sym (applied-begin t c cut k)

pub applied_advance : (t : VoterSlotTable) (c : VoterSlotControl) (cut : VoterSlotLogId) → c.kind ≡ 1 → applied_of t c cut ≡ advance_outcome t (advance_in c cut)
applied_advance t c cut k = sym (applied-advance t c cut k)

pub applied_marker : (t : VoterSlotTable) (c : VoterSlotControl) (cut : VoterSlotLogId) → (c.kind ≡ 0 → ⊥) → (c.kind ≡ 1 → ⊥)
    → applied_of t c cut ≡ paired (answer_of (judge_marker t c.request_id c.request_digest)) t
applied_marker t c cut n m = sym (applied-marker t c cut n m)

-- ---- the entry point: its tests, and then the command

pub entry_refused : (t : VoterSlotTable) (c : VoterSlotControl) (cut : VoterSlotLogId) → is_accepted (checked_of t c cut) ≡ false
    → apply_control t c cut ≡ paired (checked_of t c cut) t
entry_refused t c cut h = sym (entry-refused t c cut h)

pub entry_passed : (t : VoterSlotTable) (c : VoterSlotControl) (cut : VoterSlotLogId) → is_accepted (checked_of t c cut) ≡ true → apply_control t c cut ≡ applied_of t c cut
entry_passed t c cut h = sym (entry-passed t c cut h)

-- ---- the verdict w of the code's judge is v

module _ (w v : Verdict Move) (judged : w ≡ v) (y : ℕ) (routed : y ≡ route_of w) where
  -- by its number
  pub told : (m : Move) → y ≡ route_of (moves m) → (route_of (moves m) ≡ 0 → ⊥) → v ≡ moves m
  told m is some = sym judged ∙ routed-to w m (sym routed ∙ is) some

module _ (make : Move → VoterSlotTable) (t : VoterSlotTable) (w v : Verdict Move) (judged : w ≡ v) (answer : Answer) (answers : answer ≡ answer_of w) where
  -- the table that is made, with the answer
  pub stored : (m : Move) → v ≡ moves m → (n : VoterSlotTable) → n ≡ make m → paired answer n ≡ carried make t v
  unfolding carried
  stored m is n made = ap₂ paired (answers ∙ ap answer_of (judged ∙ is)) made ∙ ap (carried make t) (sym is)

  -- the table as it was, with the answer
  pub left : (n : VoterSlotTable) → n ≡ t → paired (answer_of w) t ≡ carried make t w → paired answer n ≡ carried make t v
  left n kept none = ap₂ paired answers kept ∙ (none ∙ ap (carried make t) judged)

-- ---- what the maker of a command asks for

module _ (t : VoterSlotTable) (c : VoterSlotControl) (cut : VoterSlotLogId) where
  pub step_room : (m : Move) → is_step (moves m) ≡ true → judge t c cut ≡ moves m → t.revision ≡ full → ⊥
  step_room m h is = room_as t (advance_in c cut) (moves m) (step-advance t c cut m h is) refl

  pub finalize-room : validate t ≡ Accepted → judge t c cut ≡ moves finalizes → (t.revision ≡ full → ⊥) × ((t.count ≤ 9) × (target_index t < t.count))
  finalize-room valid is = (
    step_room finalizes refl is,
    target-as t (advance_in c cut) (moves finalizes) (step-advance t c cut finalizes refl is) refl valid,
  )

  pub command-room : validate t ≡ Accepted → judge t c cut ≡ moves begins
      → (t.revision ≡ full → ⊥) × (((current_configuration t).epoch ≡ full → ⊥) × ((t.count ≤ 9) × (named_index t c.request < t.count)))
  command-room valid is = begin-room t (begin_in c cut) valid (ap is_move (begin-begins t c cut is))
