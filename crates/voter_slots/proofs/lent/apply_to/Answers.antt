-- `voter_slots::lent::apply_to` meets its contract. Assumes nothing.
use Rattle.std.proofs.Common.{◌≡◌, ℕ, rules, sym, ap, ◌∙◌, Bool, false, length}
use Rattle.identity.specs.Answer.{is_accepted, Accepted}
use Rattle.records.specs.Validation.{validate}
use Rattle.journal.specs.declared.replay.Mark.{Mark}
use Rattle.journal.specs.Replay.{asking}
use Rattle.journal.proofs.StepLaws.{made-valid, makes}
use Rattle.voter_slots.specs.Calls.{mark_of}
use Rattle.voter_slots.specs.CallLaws.{command-only}
use Rattle.voter_slots.specs.Lent.{asked_at, refusal_at, stays}
use Rattle.voter_slots.specs.LentLaws.{carried, refusal_is}
use Rattle.voter_slots.proofs.lent.apply_to.Goals as goal

pub returns-then-is_err : goal.returns-then-is_err
returns-then-is_err c =
    let t = c.args.table.now in
    let body = c.args.body.now in
    let m = c.command_of-asks in
    let invalid : is_accepted (validate t) ≡ false = search rules in
    record {
      gives =
          ap (λ (k : ℕ). stays k t) (c.refuse_command.ensures ∙ ap (λ (b : Bool). refusal_at b (asking (mark_of m.result) body)) c.is_representable.ensures)
          ∙ (refusal_is t invalid (mark_of m.result) body (λ e. command-only c.args.mark (length body) (sym m.ensures ∙ e))
          ∙ ap (λ (k : Mark). asked_at (asking k body) t) m.ensures);
      good = tt;
    }

pub carry_out_at-requires : goal.carry_out_at-requires
carry_out_at-requires c =
    let t = c.args.table.now in
    let j = c.judge_body-called in
    let v : validate t ≡ Accepted = search rules in
    (makes t _ c.args.body.now j.result j.ensures, (v, made-valid t v _ c.args.body.now j.result j.ensures))

pub returns : goal.returns
returns c =
    let t = c.args.table.now in
    let body = c.args.body.now in
    let j = c.judge_body-called in
    let v : validate t ≡ Accepted = search rules in
    record {
      gives =
          c.carry_out_at.ensures.gives
          ∙ (carried t _ body j.result v j.ensures ∙ ap (λ (k : Mark). asked_at (asking k body) t) c.command_of-asks.ensures);
      good = c.carry_out_at.ensures.good;
    }
