-- `voter_slots::call::apply_bytes` meets its contract. Assumes nothing.
use Rattle.std.specs.Prelude.{◌≡◌, Bool, cond, length, Err}
use Rattle.std.proofs.Common.{rules, sym, ap, ◌∙◌}
use Rattle.identity.specs.Answer.{number_of, number_of_refusal, BadRecord}
use Rattle.format.specs.Res.Res.{ok, no}
use Rattle.codec.specs.Codec.{decode_voter_slot_table}
use Rattle.journal.specs.declared.replay.Mark.{Mark}
use Rattle.journal.specs.Replay.{asking}
use Rattle.journal.proofs.StepLaws.{made-valid, makes}
use Rattle.voter_slots.specs.Calls.{asked_of, mark_of}
use Rattle.voter_slots.specs.CallLaws.{asked-ok, formed-refused, refused-is}
use Rattle.voter_slots.specs.Export.{leaves}
use Rattle.voter_slots.specs.ExportLaws.{filled_as, read-accepted}
use Rattle.voter_slots.proofs.Typed.{lent_bytes}
use Rattle.voter_slots.proofs.call.apply_bytes.Goals as goal

pub returns-then-not-is_formed : goal.returns-then-not-is_formed
returns-then-not-is_formed c =
    let s = c.args in
    let m = c.command_of-asks in
    let e = c.in-Err.refusal in
    let h : no (number_of_refusal e) ≡ decode_voter_slot_table s.table.now = search rules in
    record {
      gives =
          ap (λ (b : Bool). leaves (number_of (cond b (Err e) BadRecord)) s.out.now) (sym c.if-not-is_formed.true ∙ c.is_formed.ensures)
          ∙ refused-is (asking (mark_of m.result) s.body.now) s.table.now s.out.now (Err e) (sym h)
          ∙ ap (λ (k : Mark). asked_of (asking k s.body.now) s.table.now s.out.now) m.ensures;
      good = tt;
    }

pub returns-in-Err : goal.returns-in-Err
returns-in-Err c =
    let s = c.args in
    let m = c.command_of-asks in
    let e = c.in-Err.refusal in
    let h : no (number_of_refusal e) ≡ decode_voter_slot_table s.table.now = search rules in
    record {
      gives =
          formed-refused (asking (mark_of m.result) s.body.now) s.table.now s.out.now (Err e) (sym c.is_formed.ensures ∙ c.if-not-is_formed.false) (sym h)
          ∙ ap (λ (k : Mark). asked_of (asking k s.body.now) s.table.now s.out.now) m.ensures;
      good = tt;
    }

pub judge_body-requires : goal.judge_body-requires
judge_body-requires c =
    let bs = c.args.table.now in
    let t = c.fill_voter_slot_table.new.table in
    let e : ok t (length bs) ≡ decode_voter_slot_table bs = search rules in
    read-accepted bs t (lent_bytes bs c.type_inv.table) (filled_as bs t (length bs) e)

pub finish-requires : goal.finish-requires
finish-requires c =
    let bs = c.args.table.now in
    let t = c.fill_voter_slot_table.new.table in
    let j = c.judge_body in
    let e : ok t (length bs) ≡ decode_voter_slot_table bs = search rules in
    let a = filled_as bs t (length bs) e in
    (a, (makes t _ c.args.body.now j.result j.ensures, made-valid t (read-accepted bs t (lent_bytes bs c.type_inv.table) a) _ c.args.body.now j.result j.ensures))

pub returns : goal.returns
returns c =
    let s = c.args in
    let bs = s.table.now in
    let t = c.fill_voter_slot_table.new.table in
    let j = c.judge_body in
    let e : ok t (length bs) ≡ decode_voter_slot_table bs = search rules in
    record {
      gives =
          c.finish.ensures.gives
          ∙ asked-ok bs t _ s.body.now s.out.now j.result (lent_bytes bs c.type_inv.table) (filled_as bs t (length bs) e) j.ensures
          ∙ ap (λ (k : Mark). asked_of (asking k s.body.now) bs s.out.now) c.command_of-asks.ensures;
      good = c.finish.ensures.good;
    }
