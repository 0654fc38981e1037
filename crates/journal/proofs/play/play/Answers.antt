-- `journal::play::play` meets its contract. Assumes nothing.
use native.Mathlib.Omega.{arith}
use mathlib.Core.Path.{◌≡◌, sym, ap, ◌∙◌, subst}
use mathlib.Core.Bool.{false, false≢true}
use lib.ListN.{length}
use borrow.Author.Tests.{not-true, not-false}
use Rattle.identity.specs.Answer.{Answer}
use mathlib.Core.List.{List}
use Prim.Native.Nat.{ℕ, ◌≤◌}
use mathlib.Core.Bool.{Bool}
use Rattle.journal.specs.declared.play.Journal.{Journal}
use Rattle.journal.specs.declared.play.Opened.{Opened}
use Rattle.journal.specs.declared.play.Place.{Place}
use Rattle.journal.specs.Play.{Goes, Safe, opened_at, played_to, start_answer, start_of, start_place}
use Rattle.format.specs.Combinators.{Bytes}
use Rattle.control.specs.Control.{full}
use Rattle.records.specs.Held.{HeldVoterSlotTable}
use Rattle.records.proofs.Held.{held-voter-slot-table}
use Rattle.journal.specs.RunHistoryLaws.{ready-bytes, played as run-line}
use Rattle.journal.proofs.PlayLaws.{goes_none, goes_then, played, start-safe}
use Rattle.journal.proofs.play.play.Goals as goal
use Rattle.journal.proofs.play.play.Goals.{Joined-not-opened, Joined-opened, then-not-opened, else-not-opened, then-opened, else-opened}

-- where it starts is where it should, and all is safe there
module _ (from : Journal) (input : List ℕ) (last : Bool) (out : List ℕ) (answer : Answer) (place : Place) where
  begun-is : answer ≡ start_answer from.stands from.table → place ≡ start_place answer from (length out)
      → opened_at place from.stands from.table ≡ start_of (start_answer from.stands from.table) from (length out)
  begun-is a p = ap (λ (x : Place). opened_at x from.stands from.table) (p ∙ ap (λ (x : Answer). start_place x from (length out)) a)

  begun-safe : answer ≡ start_answer from.stands from.table → (place ≡ start_place answer from (length out)) × (from.count ≤ full)
      → Safe input (length out) (opened_at place from.stands from.table)
  begun-safe a p = subst (Safe input (length out)) (sym (begun-is a p.0)) (start-safe from input last out p.1)

module _ (from : Journal) (input : List ℕ) (last : Bool) (out : List ℕ) (place : Place) where
  -- with a table, or none and nothing left to do
  abbrev Opens : Opened → List ℕ → Type 0
  Opens o ys =
      Goes input last (opened_at place from.stands from.table) out o ys × (Safe input (length ys) o × (o.stands ≡ false → o.place.turns ≡ 0))

  -- to the end
  abbrev Ends : Opened → List ℕ → Type 0
  Ends o ys = Goes input last (opened_at place from.stands from.table) out o ys × (o.place.turns ≡ 0)

opens : (c : Joined-not-opened) → Opens c.args.from c.args.input.now c.args.last c.args.out.now c.start_place-start.result c.if-not-opened.opened c.if-not-opened.out
opens c =
    let a = c.args in
    let place = c.start_place-start.result in
    let begun = opened_at place a.from.stands a.from.table in
    let safe = begun-safe a.from a.input.now a.last a.out.now c.start_answer-answer.result place c.start_answer-answer.ensures c.start_place-start.ensures in
    let f = safe.lines_fit in
    elim c.if-not-opened.branch [
      | then-not-opened w ↦
          subst (λ (o : Opened). Opens a.from a.input.now a.last a.out.now place o c.if-not-opened.out) (sym w.opened-is)
          (subst (λ (x : List ℕ). Opens a.from a.input.now a.last a.out.now place w.open_log-opened.result x) (sym w.out-is) w.open_log-opened.ensures)
      | else-not-opened w ↦
          subst (λ (o : Opened). Opens a.from a.input.now a.last a.out.now place o c.if-not-opened.out) (sym w.opened-is)
          (subst (λ (x : List ℕ). Opens a.from a.input.now a.last a.out.now place begun x) (sym w.out-is)
          (goes_none a.input.now a.last begun a.out.now (omega arith), (safe, λ h. absurd (false≢true (sym h ∙ not-false _ w.if-not-opened.false)))))
    ]

ends : (c : Joined-opened) → Ends c.args.from c.args.input.now c.args.last c.args.out.now c.start_place-start.result c.if-opened.opened c.if-opened.out
ends c =
    let a = c.args in
    let place = c.start_place-start.result in
    let p = opens (record { before = c.before.before; type_inv = record { input = c.shared_slice_known-1.given } }) in
    elim c.if-opened.branch [
      | then-opened w ↦
          subst (λ (o : Opened). Ends a.from a.input.now a.last a.out.now place o c.if-opened.out) (sym w.opened-is)
          (subst (λ (x : List ℕ). Ends a.from a.input.now a.last a.out.now place w.play_on-opened.result x) (sym w.out-is)
          (goes_then p.0 w.play_on-opened.ensures.0, w.play_on-opened.ensures.1))
      | else-opened w ↦
          subst (λ (o : Opened). Ends a.from a.input.now a.last a.out.now place o c.if-opened.out) (sym w.opened-is)
          (subst (λ (x : List ℕ). Ends a.from a.input.now a.last a.out.now place c.if-not-opened.opened x) (sym w.out-is) (p.0, p.1.1 w.if-opened.false))
    ]

pub open_log-opened-requires : goal.open_log-opened-requires
open_log-opened-requires c =
    let a = c.args in
    (begun-safe a.from a.input.now a.last a.out.now c.start_answer-answer.result c.start_place-start.result c.start_answer-answer.ensures c.start_place-start.ensures, not-true _ c.if-not-opened.true)

pub play_on-opened-requires : goal.play_on-opened-requires
play_on-opened-requires c = ((opens (record { before = c.before.before.before; type_inv = record { input = c.shared_slice_known-1.given } })).1.0, c.if-opened.true)

pub shape_of-out : goal.shape_of-out
shape_of-out c = (ends (record { before = c.before.before; type_inv = record { input = c.shared_slice_known-1.given } })).0.long

pub returns : goal.returns
unfolding Bytes
returns c =
    let a = c.args in
    let e = ends (record { before = c.before.before; type_inv = record { input = c.shared_slice_known-1.given } }) in
    let o = c.if-opened.opened in
    let out = c.if-opened.out in
    let held : HeldVoterSlotTable a.from.table = held-voter-slot-table a.from.table _ c.well_formed.0.1.1.1.1.1.0 in
    let bytes : Bytes a.input.now = λ i. omega (arith, c.shared_slice_known-1.given i) in
    record {
      played =
          ap (λ x. (x, out)) (c.played_to.ensures ∙ ap (λ (x : Answer). played_to x o) c.start_answer-answer.ensures)
          ∙ played a.from a.input.now a.last a.out.now o out
          (subst (λ (s : Opened). Goes a.input.now a.last s a.out.now o out) (begun-is a.from a.input.now a.last a.out.now c.start_answer-answer.result c.start_place-start.result c.start_answer-answer.ensures c.start_place-start.ensures.0) e.0) e.1;
      line = λ _ v. run-line a.from.table held v _ (ready-bytes _ a.last a.input.now bytes);
    }
