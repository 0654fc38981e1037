-- `voter_slots::lent::carry_out_at` meets its contract. Assumes nothing.
use Rattle.std.specs.Prelude.{◌≡◌, ◌≤◌, Ok, Err}
use Rattle.std.proofs.Common.{rules, sym, ap, subst, ◌∙◌}
use Rattle.records.specs.declared.records.VoterSlotTable.{VoterSlotTable}
use Rattle.journal.specs.Step.{answer_of_called, made_by}
use Rattle.journal.proofs.StepLaws.{unchanged}
use Rattle.voter_slots.specs.declared.result.VoterSlotsResult.{VoterSlotsResult}
use Rattle.voter_slots.specs.CallLaws.{refused-stays}
use Rattle.voter_slots.specs.Lent.{told}
use Rattle.voter_slots.specs.LentLaws.{told-err, valid-count}
use Rattle.voter_slots.proofs.lent.carry_out_at.Goals as goal
use Rattle.voter_slots.proofs.lent.carry_out_at.Goals.{then-is_change, else-is_change}

pub returns-in_err-answer_of_called : goal.returns-in_err-answer_of_called
returns-in_err-answer_of_called c =
    let s = c.args in
    let e = c.in_err-answer_of_called.field-0.0 in
    let h : Err e ≡ answer_of_called s.called = search rules in
    record {
      gives =
          told-err c.from_residual.result e (answer_of_called s.called) s.valid.now (made_by s.valid.now s.body.now s.called) (search rules) h
          (unchanged s.valid.now s.body.now s.called (refused-stays s.called e h));
      good = search rules;
    }

pub numbers_of-requires : goal.numbers_of-requires
numbers_of-requires c =
    let s = c.args in
    let u : c.if-is_change.valid ≡ made_by s.valid.now s.body.now s.called = elim c.if-is_change.branch [
      | then-is_change w ↦ w.valid-is ∙ w.make_record.ensures
      | else-is_change w ↦ w.valid-is ∙ unchanged s.valid.now s.body.now s.called (sym c.is_change.ensures ∙ w.if-is_change.false)
    ] in
    subst (λ (t : VoterSlotTable). t.count ≤ 9) (sym u) (valid-count _ c.requires.1.1)

pub returns : goal.returns
returns c =
    let s = c.args in
    let h : Ok tt ≡ answer_of_called s.called = search rules in
    let u : c.if-is_change.valid ≡ made_by s.valid.now s.body.now s.called = elim c.if-is_change.branch [
      | then-is_change w ↦ w.valid-is ∙ w.make_record.ensures
      | else-is_change w ↦ w.valid-is ∙ unchanged s.valid.now s.body.now s.called (sym c.is_change.ensures ∙ w.if-is_change.false)
    ] in
    record {
      gives = ap (λ (r : VoterSlotsResult). (r, c.if-is_change.valid)) c.numbers_of.ensures ∙ (λ i. told (h i, u i));
      good = ap (λ (r : VoterSlotsResult). r.answer) c.numbers_of.ensures;
    }
