-- `journal::play::play_on` meets its contract. Assumes nothing.
use Prim.Native.Nat.{◌<◌}
use native.Mathlib.Omega.{arith}
use mathlib.Core.Path.{◌≡◌, refl, sym, ap, ◌∙◌, subst}
use mathlib.Core.Bool.{Bool, true, false, false≢true}
use lib.ListN.{length, length-take, length-drop}
use Rattle.std.proofs.Common.{rules, ℕ, List, ◌||◌}
use Rattle.records.specs.declared.records.VoterSlotTable.{VoterSlotTable}
use Rattle.journal.specs.declared.step.Called.{Called}
use Rattle.control.specs.Verdicts.{step_made}
use Rattle.control.specs.Judgement.Addition.{adds_learner, adds_joint, adds_uniform}
use Rattle.control.specs.Judgement.Move.{records_snapshot, records_caught_up, continues, fences, finalizes}
use Rattle.journal.specs.declared.play.Kept.{Kept}
use Rattle.journal.specs.declared.play.Opened.{Opened}
use Rattle.journal.specs.declared.replay.Mark.TheVariants.{Tb, Mk, Ad, Bg, Unknown}
use Rattle.journal.specs.Play.{Goes, Safe, opened_at}
use Rattle.journal.specs.Step.{is_changing, Judges, Makes, made_by, made_by_command, made_by_observation}
use Rattle.journal.proofs.StepLaws.{judges-bad, judges-command, judges-observation, makes, unchanged, table-bad, unknown-bad}
use Rattle.journal.proofs.MakerLaws.{addition_makes, addition_room, begin_makes, begin_target, command_made, command_of, observation_made, observation_of, step_makes, step_room, step_target}
use Rattle.journal.proofs.PlayLaws.{body_in, found, goes_none, goes_then, goes-turn, play-turn, put-less, safe-turn, valid-at}
use Rattle.journal.proofs.play.play_on.Goals as goal
use Rattle.journal.proofs.play.play_on.Goals.{Joined-found, Joined-called, in-Mk, in-Ad, in-Bg, in-Ob, in-Tb, in-Unknown, in-Command+in-Ok-RecordSnapshot, in-Command+in-Ok-RecordCaughtUp, in-Command+in-Ok-Continue, in-Command+in-Ok-Fence, in-Command+in-Ok-Finalize, in-Command+in-Ok-Begin, in-Command+in-Ok+in-Keep-1, in-Command+in-Err-1, in-Observation+in-Ok-AddLearner, in-Observation+in-Ok-AddJoint, in-Observation+in-Ok-AddUniform, in-Observation+in-Ok+in-Keep-1, in-Observation+in-Err-1}

-- ---- what was judged of the record, and the table that is made

-- each arm judged the record's body under its mark
judged : (c : Joined-found) → Judges c.loop-place.t c.record_at-found.result.asks (body_in c.args.input.now c.record_at-found.result) c.match-found.called
judged c =
    let t = c.loop-place.t in
    let asks = c.record_at-found.result.asks in
    let body = body_in c.args.input.now c.record_at-found.result in
    elim c.match-found.branch [
      | in-Mk w ↦ judges-command t asks body c.match-found.called w.judge_marker_body.result Mk w.called-is w.in-Mk.is refl w.judge_marker_body.ensures
      | in-Ad w ↦ judges-command t asks body c.match-found.called w.judge_advance_body.result Ad w.called-is w.in-Ad.is refl w.judge_advance_body.ensures
      | in-Bg w ↦ judges-command t asks body c.match-found.called w.judge_begin_body.result Bg w.called-is w.in-Bg.is refl w.judge_begin_body.ensures
      | in-Ob w ↦ judges-observation t asks body c.match-found.called w.judge_observed.result w.called-is w.in-Ob.is w.judge_observed.ensures.judged
      | in-Tb w ↦ judges-bad t asks body c.match-found.called Tb w.called-is w.in-Tb.is (table-bad body) refl
      | in-Unknown w ↦ judges-bad t asks body c.match-found.called Unknown w.called-is w.in-Unknown.is (unknown-bad body) refl
    ]

makes-at : (c : Joined-found) → Makes c.loop-place.t (body_in c.args.input.now c.record_at-found.result) c.match-found.called
makes-at c = makes c.loop-place.t c.record_at-found.result.asks (body_in c.args.input.now c.record_at-found.result) c.match-found.called (judged c)

made_as : (c : Joined-called) → c.match-called.t ≡ made_by c.loop-place.t (body_in c.args.input.now c.record_at-found.result) c.match-found.called
unfolding step_made made_by_command made_by_observation
made_as c =
    let t = c.loop-place.t in
    let body = body_in c.args.input.now c.record_at-found.result in
    let g : Makes t body c.match-found.called = makes-at (record { before = c.before.before; type_inv = record { input = c.type_inv.input } }) in
    elim c.match-called.branch [
      | in-Command+in-Ok-RecordSnapshot w ↦ w.t-is ∙ command_made t body g w.in-Command.is (step_makes t body _ (command_of t body g w.in-Command.is) records_snapshot refl (search rules) w.advance_in.result w.advance_in.ensures w.snapshot_table-t.ensures)
      | in-Command+in-Ok-RecordCaughtUp w ↦ w.t-is ∙ command_made t body g w.in-Command.is (step_makes t body _ (command_of t body g w.in-Command.is) records_caught_up refl (search rules) w.advance_in-in-Ok-RecordCaughtUp.result w.advance_in-in-Ok-RecordCaughtUp.ensures w.catch_up_table-t.ensures)
      | in-Command+in-Ok-Continue w ↦ w.t-is ∙ command_made t body g w.in-Command.is (step_makes t body _ (command_of t body g w.in-Command.is) continues refl (search rules) w.advance_in-in-Ok-Continue.result w.advance_in-in-Ok-Continue.ensures w.continue_table-t.ensures)
      | in-Command+in-Ok-Fence w ↦ w.t-is ∙ command_made t body g w.in-Command.is (step_makes t body _ (command_of t body g w.in-Command.is) fences refl (search rules) w.advance_in-in-Ok-Fence.result w.advance_in-in-Ok-Fence.ensures w.fence_table-t.ensures)
      | in-Command+in-Ok-Finalize w ↦ w.t-is ∙ command_made t body g w.in-Command.is (step_makes t body _ (command_of t body g w.in-Command.is) finalizes refl (search rules) w.advance_in-in-Ok-Finalize.result w.advance_in-in-Ok-Finalize.ensures w.finalize_table-t.ensures)
      | in-Command+in-Ok-Begin w ↦ w.t-is ∙ command_made t body g w.in-Command.is (begin_makes t body _ (command_of t body g w.in-Command.is) (search rules) w.begin_in.result w.begin_in.ensures w.begin_table-t.ensures)
      | in-Command+in-Ok+in-Keep-1 w ↦ w.t-is ∙ command_made t body g w.in-Command.is (search rules)
      | in-Command+in-Err-1 w ↦ w.t-is ∙ command_made t body g w.in-Command.is (search rules)
      | in-Observation+in-Ok-AddLearner w ↦ w.t-is ∙ observation_made t body g w.in-Observation.is (addition_makes t body _ (observation_of t body g w.in-Observation.is) adds_learner (search rules) w.cut_in.ensures w.learner_table-t.ensures)
      | in-Observation+in-Ok-AddJoint w ↦ w.t-is ∙ observation_made t body g w.in-Observation.is (addition_makes t body _ (observation_of t body g w.in-Observation.is) adds_joint (search rules) w.cut_in-in-Ok-AddJoint.ensures w.joint_table-t.ensures)
      | in-Observation+in-Ok-AddUniform w ↦ w.t-is ∙ observation_made t body g w.in-Observation.is (addition_makes t body _ (observation_of t body g w.in-Observation.is) adds_uniform (search rules) w.cut_in-in-Ok-AddUniform.ensures w.uniform_table-t.ensures)
      | in-Observation+in-Ok+in-Keep-1 w ↦ w.t-is ∙ observation_made t body g w.in-Observation.is (search rules)
      | in-Observation+in-Err-1 w ↦ w.t-is ∙ observation_made t body g w.in-Observation.is (search rules)
    ]

-- the copy is the table, unless it is behind
kept_as : (c : Joined-found) → c.match-found.kept.behind ≡ false → c.match-found.kept.table ≡ c.loop-place.t
kept_as c =
    let before = c.loop-place.invariant.1.1 in
    let stays : c.match-found.kept ≡ c.loop-place.kept → c.match-found.kept.behind ≡ false → c.match-found.kept.table ≡ c.loop-place.t =
    λ e k. ap (λ (x : Kept). x.table) e ∙ before (ap (λ (x : Kept). x.behind) (sym e) ∙ k) in
    elim c.match-found.branch [
      | in-Mk w ↦ stays w.kept-is
      | in-Ad w ↦ stays w.kept-is
      | in-Bg w ↦ stays w.kept-is
      | in-Ob w ↦ λ k. ap (λ (x : Kept). x.table) w.kept-is ∙ w.judge_observed.ensures.copied
      | in-Tb w ↦ stays w.kept-is
      | in-Unknown w ↦ stays w.kept-is
    ]

-- where nothing is made, the table stays, and so does its copy
kept_then : (copy t : VoterSlotTable) (body : List ℕ) (called : Called) (behind changes : Bool) → changes ≡ is_changing called → (behind || changes) ≡ false → (behind ≡ false → copy ≡ t)
    → (next : VoterSlotTable) → next ≡ made_by t body called → copy ≡ next
kept_then copy t body called false false e k h next m = h refl ∙ unchanged t body called (sym e) ∙ sym m
kept_then copy t body called false true e k h next m = absurd (false≢true (sym k))
kept_then copy t body called true changes e k h next m = absurd (false≢true (sym k))

pub loop-place-init : goal.loop-place-init
loop-place-init c =
    let a = c.args in
    let safe : Safe a.input.now (length a.out.now) (opened_at a.from.place true a.from.table) =
    subst (λ (b : Bool). Safe a.input.now (length a.out.now) (opened_at a.from.place b a.from.table)) c.requires.1 c.requires.0 in
    let f = c.requires.0.lines_fit in
    (goes_none a.input.now a.last (opened_at a.from.place true a.from.table) a.out.now (omega arith), (safe, λ k. refl))

pub record_at-found-requires : goal.record_at-found-requires
record_at-found-requires c = c.loop-place.invariant.1.0.within

pub slice_bounds-body-count : goal.slice_bounds-body-count
slice_bounds-body-count c =
    let h = found c.args.input.now c.args.last c.loop-place.place.read c.loop-place.invariant.1.0.within c.type_inv.input c.record_at-found.result c.record_at-found.ensures in omega arith

pub slice_bounds-body-start : goal.slice_bounds-body-start
slice_bounds-body-start c =
    let h = found c.args.input.now c.args.last c.loop-place.place.read c.loop-place.invariant.1.0.within c.type_inv.input c.record_at-found.result c.record_at-found.ensures in omega arith

pub slice_bounds-body-end : goal.slice_bounds-body-end
slice_bounds-body-end c =
    let h = found c.args.input.now c.args.last c.loop-place.place.read c.loop-place.invariant.1.0.within c.type_inv.input c.record_at-found.result c.record_at-found.ensures in omega arith

pub judge_marker_body-requires : goal.judge_marker_body-requires
judge_marker_body-requires c = valid-at c.loop-place.t (c.loop-place.invariant.1.0.valid (omega arith))

pub judge_advance_body-requires : goal.judge_advance_body-requires
judge_advance_body-requires c = valid-at c.loop-place.t (c.loop-place.invariant.1.0.valid (omega arith))

pub judge_begin_body-requires : goal.judge_begin_body-requires
judge_begin_body-requires c = valid-at c.loop-place.t (c.loop-place.invariant.1.0.valid (omega arith))

pub judge_observed-requires : goal.judge_observed-requires
judge_observed-requires c =
    let h = found c.args.input.now c.args.last c.loop-place.place.read c.loop-place.invariant.1.0.within c.type_inv.input c.record_at-found.result c.record_at-found.ensures in
    (simp (length-take, length-drop) (omega arith), c.loop-place.invariant.1.1)

pub snapshot_table-t-requires : goal.snapshot_table-t-requires
snapshot_table-t-requires c =
    let g = makes-at (record { before = c.before.before.before.before; type_inv = record { input = c.type_inv.input } }) in
    step_room _ _ _ (command_of _ _ g c.in-Command.is) records_snapshot refl (search rules) c.advance_in.result c.advance_in.ensures

pub catch_up_table-t-requires : goal.catch_up_table-t-requires
catch_up_table-t-requires c =
    let g = makes-at (record { before = c.before.before.before.before; type_inv = record { input = c.type_inv.input } }) in
    step_room _ _ _ (command_of _ _ g c.in-Command.is) records_caught_up refl (search rules) c.advance_in-in-Ok-RecordCaughtUp.result c.advance_in-in-Ok-RecordCaughtUp.ensures

pub continue_table-t-requires : goal.continue_table-t-requires
continue_table-t-requires c =
    let g = makes-at (record { before = c.before.before.before.before; type_inv = record { input = c.type_inv.input } }) in
    step_room _ _ _ (command_of _ _ g c.in-Command.is) continues refl (search rules) c.advance_in-in-Ok-Continue.result c.advance_in-in-Ok-Continue.ensures

pub fence_table-t-requires : goal.fence_table-t-requires
fence_table-t-requires c =
    let g = makes-at (record { before = c.before.before.before.before; type_inv = record { input = c.type_inv.input } }) in
    step_room _ _ _ (command_of _ _ g c.in-Command.is) fences refl (search rules) c.advance_in-in-Ok-Fence.result c.advance_in-in-Ok-Fence.ensures

pub finalize_table-t-requires : goal.finalize_table-t-requires
finalize_table-t-requires c =
    let g = makes-at (record { before = c.before.before.before.before; type_inv = record { input = c.type_inv.input } }) in
    step_target _ _ _ (command_of _ _ g c.in-Command.is) finalizes refl (search rules) c.advance_in-in-Ok-Finalize.result c.advance_in-in-Ok-Finalize.ensures

pub begin_table-t-requires : goal.begin_table-t-requires
begin_table-t-requires c =
    let g = makes-at (record { before = c.before.before.before.before; type_inv = record { input = c.type_inv.input } }) in
    begin_target _ _ _ (command_of _ _ g c.in-Command.is) (search rules) c.begin_in.result c.begin_in.ensures

pub learner_table-t-requires : goal.learner_table-t-requires
learner_table-t-requires c =
    let g = makes-at (record { before = c.before.before.before.before; type_inv = record { input = c.type_inv.input } }) in
    addition_room _ _ _ (observation_of _ _ g c.in-Observation.is) adds_learner (search rules)

pub joint_table-t-requires : goal.joint_table-t-requires
joint_table-t-requires c =
    let g = makes-at (record { before = c.before.before.before.before; type_inv = record { input = c.type_inv.input } }) in
    addition_room _ _ _ (observation_of _ _ g c.in-Observation.is) adds_joint (search rules)

pub uniform_table-t-requires : goal.uniform_table-t-requires
uniform_table-t-requires c =
    let g = makes-at (record { before = c.before.before.before.before; type_inv = record { input = c.type_inv.input } }) in
    addition_room _ _ _ (observation_of _ _ g c.in-Observation.is) adds_uniform (search rules)

pub put_turn-place-requires : goal.put_turn-place-requires
put_turn-place-requires c =
    let l = c.loop-place in
    (omega arith, (l.invariant.1.0.lines_fit, l.invariant.1.0.counts-fit))

pub loop-place-smaller : goal.loop-place-smaller
loop-place-smaller c = put-less c.put_turn-place.ensures (omega arith)

pub loop-place-preserved : goal.loop-place-preserved
loop-place-preserved c =
    let l = c.loop-place in
    let o = opened_at l.place true l.t in
    let r = c.record_at-found.result in
    let input = c.args.input.now in
    let h = found input c.args.last l.place.read l.invariant.1.0.within c.type_inv.input r c.record_at-found.ensures in
    let some : 0 < l.place.turns = omega arith in
    let table = c.match-called.t in
    let answer = c.answer_of_called-answer in
    let m : Joined-called = record { before = c.before.before.before.before.before.before.before; type_inv = record { input = c.type_inv.input } } in
    let d : Joined-found = record { before = m.before.before; type_inv = record { input = c.type_inv.input } } in
    let p = play-turn l.t (valid-at l.t (l.invariant.1.0.valid some)) r.asks (body_in input r) c.match-found.called (judged d)
    answer.result (search rules) table (made_as m) in
    let keeps : true ≡ false → (true ≡ false) × (table ≡ l.t) = λ k. absurd (false≢true (sym k)) in
    let q = c.put_turn-place.result in (
      goes_then l.invariant.0
          (goes-turn input c.args.last o l.out l.invariant.1.0 some r h answer.result true table p.0 keeps
          table.revision p.1.1 q _ c.put_turn-place.ensures),
      (
        safe-turn input c.args.last o l.out l.invariant.1.0 some r h answer.result true table p.0 keeps
            table.revision p.1.1 q _ c.put_turn-place.ensures p.1.0,
        λ k. kept_then c.match-found.kept.table l.t (body_in input r) c.match-found.called c.match-found.kept.behind c.is_change.result (search rules) k (kept_as d) table (made_as m),
      ),
    )

pub shape_of-out : goal.shape_of-out
shape_of-out c = c.loop-place.invariant.0.long

pub returns : goal.returns
returns c =
    let a = c.args in
    let l = c.loop-place in
    let e = c.with_table.ensures in
    let done : l.place.turns ≡ 0 = omega arith in (
      subst (λ (b : Bool). Goes a.input.now a.last (opened_at a.from.place b a.from.table) a.out.now c.with_table.result l.out) (sym c.requires.1)
          (subst (λ (o : Opened). Goes a.input.now a.last (opened_at a.from.place true a.from.table) a.out.now o l.out) (sym e) l.invariant.0),
      ap (λ (o : Opened). o.place.turns) e ∙ done,
    )
