-- `journal::play::open_log` meets its contract. Assumes nothing.
use native.Mathlib.Omega.{arith}
use mathlib.Core.Path.{◌≡◌, sym, ◌∙◌, subst}
use mathlib.Core.Bool.{Bool, false}
use Rattle.std.specs.Prelude.{cond, is_ok}
use Rattle.std.proofs.Common.{rules}
use lib.ListN.{length}
use Rattle.identity.specs.Answer.{number_of}
use Rattle.journal.specs.Replay.{step}
use Rattle.journal.specs.Replay.Entry.{framed}
use Rattle.journal.specs.Play.{Goes, Safe, opened_at, standing, standing_in}
use Rattle.journal.proofs.PlayLaws.{body_in, brought, found, goes_none, goes_then, goes-turn, opens, put-less, safe-turn, turn-left, turn-none}
use Rattle.journal.proofs.play.open_log.Goals as goal

pub loop-place-init : goal.loop-place-init
loop-place-init c =
    let a = c.args in
    let none = opened_at a.from.place false a.from.table in
    let safe : Safe a.input.now (length a.out.now) none =
    subst (λ (b : Bool). Safe a.input.now (length a.out.now) (opened_at a.from.place b a.from.table)) c.requires.1 c.requires.0 in
    let f = c.requires.0.lines_fit in
    (goes_none a.input.now a.last none a.out.now (omega arith), safe)

pub record_at-found-requires : goal.record_at-found-requires
record_at-found-requires c =
    c.loop-place.invariant.1.within

pub slice_bounds-open_record-count : goal.slice_bounds-open_record-count
slice_bounds-open_record-count c =
    let h = found c.args.input.now c.args.last c.loop-place.place.read c.loop-place.invariant.1.within c.type_inv.input c.record_at-found.result c.record_at-found.ensures in omega arith

pub slice_bounds-open_record-start : goal.slice_bounds-open_record-start
slice_bounds-open_record-start c =
    let h = found c.args.input.now c.args.last c.loop-place.place.read c.loop-place.invariant.1.within c.type_inv.input c.record_at-found.result c.record_at-found.ensures in omega arith

pub slice_bounds-open_record-end : goal.slice_bounds-open_record-end
slice_bounds-open_record-end c =
    let h = found c.args.input.now c.args.last c.loop-place.place.read c.loop-place.invariant.1.within c.type_inv.input c.record_at-found.result c.record_at-found.ensures in omega arith

pub put_turn-place-requires : goal.put_turn-place-requires
put_turn-place-requires c =
    let left = turn-left c.loop-place.place.turns c.loop-place.stands c.loop-place-test.true in
    let l = c.loop-place in
    (left.0, (l.invariant.1.lines_fit, l.invariant.1.counts-fit))

pub loop-place-smaller : goal.loop-place-smaller
loop-place-smaller c =
    let left = turn-left c.loop-place.place.turns c.loop-place.stands c.loop-place-test.true in
    put-less c.put_turn-place.ensures left.0

-- what stands is not named by its step here, so that whatever the code stores there is asked for the
-- fact
pub loop-place-preserved : goal.loop-place-preserved
loop-place-preserved c =
    let a = c.args in
    let input = a.input.now in
    let last = a.last in
    let l = c.loop-place in
    let o = opened_at l.place l.stands l.table in
    let r = c.record_at-found.result in
    let h = found input last l.place.read l.invariant.1.within c.type_inv.input r c.record_at-found.ensures in
    let left = turn-left l.place.turns l.stands c.loop-place-test.true in
    let opened = c.open_record-opened.result in
    let answer = c.and-answer.result in
    let table = c.unwrap_or-table.result in
    let q = c.put_turn-place.result in
    let out = c.put_turn-place.new.out in
    let turned : (stands : Bool) → stands ≡ is_ok opened → c.revision_of-revision.result ≡ cond stands table.revision 0
    → Goes input last (opened_at a.from.place false a.from.table) a.out.now (opened_at q stands table) out × Safe input (length out) (opened_at q stands table) =
    λ stands e f.
    let j = brought l.table opened c.open_record-opened.ensures.1 c.and-answer.ensures e c.unwrap_or-table.ensures in
    let steps : step (standing_in o) (framed r.asks (body_in input r)) ≡ (number_of answer, standing stands table) =
    opens o r.asks (body_in input r) left.1 ∙ (sym c.open_record-opened.ensures.0 ∙ sym j.0) in
    let keeps : stands ≡ false → (l.stands ≡ false) × (table ≡ l.table) = λ k. (left.1, j.1.1.0 k) in
    let revision-is = f ∙ j.1.1.1 in (
      goes_then l.invariant.0
          (goes-turn input last o l.out l.invariant.1 left.0 r h answer stands table steps keeps
          c.revision_of-revision.result revision-is q _ c.put_turn-place.ensures),
      safe-turn input last o l.out l.invariant.1 left.0 r h answer stands table steps keeps
          c.revision_of-revision.result revision-is q _ c.put_turn-place.ensures j.1.0,
    ) in
    turned _ (search rules) c.revision_of-revision.ensures

pub shape_of-out : goal.shape_of-out
shape_of-out c =
    c.loop-place.invariant.0.long

pub returns : goal.returns
returns c =
    let a = c.args in
    let l = c.loop-place in (
      subst
          (λ (b : Bool). Goes a.input.now a.last (opened_at a.from.place b a.from.table) a.out.now (opened_at c.loop-place.place c.loop-place.stands c.loop-place.table) l.out)
          (sym c.requires.1) l.invariant.0,
      (l.invariant.1, turn-none l.place.turns l.stands c.loop-place-test.false),
    )
