-- `voter_slots::call::observe_bytes` meets its contract. Assumes nothing.
use Rattle.std.specs.Prelude.{◌≡◌, refl, length, Err}
use Rattle.std.proofs.Common.{rules, sym, ap, ◌∙◌}
use Rattle.identity.specs.Answer.{number_of_refusal}
use Rattle.identity.specs.declared.answer.Refusal.TheVariants as refusal
use Rattle.format.specs.Res.Res.{ok, no}
use Rattle.codec.specs.Codec.{decode_voter_slot_table}
use Rattle.control.specs.ObserveSight.{verdict_of_observed}
use Rattle.journal.specs.declared.replay.Mark.TheVariants.{Ob}
use Rattle.journal.specs.declared.step.Called.TheVariants.{Observation}
use Rattle.journal.specs.Replay.{Asking, asking}
use Rattle.journal.specs.Replay.Asking.{bad}
use Rattle.journal.specs.Step.{numbered, observation_verdict}
use Rattle.journal.proofs.StepLaws.{made-valid, makes}
use Rattle.voter_slots.specs.Calls.{asked_of}
use Rattle.voter_slots.specs.CallLaws.{asked-ok, formed-refused, passed-err}
use Rattle.voter_slots.specs.ExportLaws.{filled_as, read-accepted}
use Rattle.voter_slots.proofs.Typed.{lent_bytes}
use Rattle.voter_slots.proofs.call.observe_bytes.Goals as goal

pub returns-in_err-observation : goal.returns-in_err-observation
unfolding asked_of
returns-in_err-observation g c =
    let s = c.args in
    let b : bad ≡ asking Ob s.body.now = search rules in
    record {
      gives =
          passed-err c.from_residual.result refusal.BadRecord s.out.now (search rules) ∙ ap (λ (x : Asking). asked_of x s.table.now s.out.now) b;
      good = search rules;
    }

pub returns-in_err-fill_voter_slot_table : goal.returns-in_err-fill_voter_slot_table
returns-in_err-fill_voter_slot_table g c =
    let s = c.args in
    let e = c.in_err-fill_voter_slot_table.field-0.0 in
    let h : no (number_of_refusal e) ≡ decode_voter_slot_table s.table.now = search rules in
    record {
      gives =
          passed-err c.from_residual-in_err-fill_voter_slot_table.result e s.out.now (search rules)
          ∙ formed-refused (asking Ob s.body.now) s.table.now s.out.now (Err e) (search rules) (sym h);
      good = search rules;
    }

pub finish-requires : goal.finish-requires
unfolding observation_verdict
finish-requires g c =
    let bs = c.args.table.now in
    let body = c.args.body.now in
    let t = c.fill_voter_slot_table.new.table in
    let w = c.weigh-observed in
    let e : ok t (length bs) ≡ decode_voter_slot_table bs = search rules in
    let j : numbered (verdict_of_observed w.result) ≡ observation_verdict t (asking Ob body) = search rules in
    let a = filled_as bs t (length bs) e in
    let v = read-accepted bs t (lent_bytes bs c.type_inv.table) a in
    (a, (makes t Ob body (Observation w.result) (refl, j), made-valid t v Ob body (Observation w.result) (refl, j)))

pub returns : goal.returns
unfolding observation_verdict
returns g c =
    let bs = c.args.table.now in
    let body = c.args.body.now in
    let t = c.fill_voter_slot_table.new.table in
    let w = c.weigh-observed in
    let e : ok t (length bs) ≡ decode_voter_slot_table bs = search rules in
    let j : numbered (verdict_of_observed w.result) ≡ observation_verdict t (asking Ob body) = search rules in
    record {
      gives =
          c.finish.ensures.gives
          ∙ asked-ok bs t Ob body c.args.out.now (Observation w.result) (lent_bytes bs c.type_inv.table) (filled_as bs t (length bs) e) (refl, j);
      good = c.finish.ensures.good;
    }
