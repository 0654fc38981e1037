-- `voter_slots::call::finish` meets its contract. Assumes nothing.
use Rattle.std.specs.Prelude.{◌≡◌, Ok}
use Rattle.std.proofs.Common.{rules, sym, ap, ◌∙◌}
use Rattle.identity.specs.Answer.{Answer}
use Rattle.records.specs.Validation.{validate}
use Rattle.records.specs.declared.records.VoterSlotTable.{VoterSlotTable}
use Rattle.journal.specs.Step.{answer_of_called, made_by}
use Rattle.journal.proofs.StepLaws.{unchanged}
use Rattle.voter_slots.specs.Calls.{settled}
use Rattle.voter_slots.specs.CallLaws.{settled-err}
use Rattle.voter_slots.specs.Export.{written}
use Rattle.voter_slots.proofs.call.finish.Goals as goal

pub returns-in_err-answer_of_called : goal.returns-in_err-answer_of_called
returns-in_err-answer_of_called c =
    let s = c.args in
    record {
      gives =
          settled-err c.from_residual.result c.in_err-answer_of_called.field-0.0 (answer_of_called s.called) (made_by s.table s.body.now s.called) s.out.now (search rules) (search rules);
      good = search rules;
    }

pub write_table-requires : goal.write_table-requires
write_table-requires c = ap validate c.make_record.ensures ∙ c.requires.1.1

pub returns-then-is_change : goal.returns-then-is_change
returns-then-is_change c =
    let s = c.args in
    let h : Ok tt ≡ answer_of_called s.called = search rules in
    record {
      gives =
          c.write_table.ensures.gives
          ∙ ap (λ (u : VoterSlotTable). written u s.out.now) c.make_record.ensures
          ∙ ap (λ (a : Answer). settled (a, made_by s.table s.body.now s.called) s.out.now) h;
      good = c.write_table.ensures.good;
    }

pub returns : goal.returns
returns c =
    let s = c.args in
    let h : Ok tt ≡ answer_of_called s.called = search rules in
    record {
      gives =
          c.write_again.ensures.gives
          ∙ ap (λ (u : VoterSlotTable). written u s.out.now) (unchanged s.table s.body.now s.called (sym c.is_change.ensures ∙ c.if-is_change.false))
          ∙ ap (λ (a : Answer). settled (a, made_by s.table s.body.now s.called) s.out.now) h;
      good = c.write_again.ensures.good;
    }
