-- `voter_slots::lent::observe_at` meets its contract. Assumes nothing.
use Rattle.std.proofs.Common.{ℕ, List, ◌≤◌, ◌≡◌, arith, length, sym, ap, ◌∙◌}
use Rattle.records.specs.declared.records.VoterSlotTable.{VoterSlotTable}
use Rattle.journal.specs.declared.replay.Mark.{Mark}
use Rattle.journal.specs.declared.replay.Mark.TheVariants.{Ob}
use Rattle.journal.specs.Replay.{asking}
use Rattle.voter_slots.specs.Calls.{most_body}
use Rattle.voter_slots.specs.CallLaws.{observation-fits}
use Rattle.voter_slots.specs.Lent.{asked_at, table_observe_of}
use Rattle.voter_slots.specs.LentLaws.{long-observation}
use Rattle.voter_slots.proofs.lent.observe_at.Goals as goal

-- the body is one of a record
fits : (t : VoterSlotTable) (body : List ℕ) → length body ≤ most_body → asked_at (asking Ob body) t ≡ table_observe_of t body
fits t body h = ap (λ (m : Mark). asked_at (asking m body) t) (sym (observation-fits (length body) h))

pub returns-then-body-gt-MOST_BODY : goal.returns-then-body-gt-MOST_BODY
returns-then-body-gt-MOST_BODY c =
    record {
      gives = long-observation c.args.table.now c.args.body.now (omega arith);
      good = tt;
    }

pub returns-then-body-le-USUAL_BODY : goal.returns-then-body-le-USUAL_BODY
returns-then-body-le-USUAL_BODY c =
    record {
      gives = c.observe_body.ensures.gives ∙ fits c.args.table.now c.args.body.now (omega arith);
      good = c.observe_body.ensures.good;
    }

pub returns : goal.returns
returns c =
    record {
      gives = c.observe_body-2.ensures.gives ∙ fits c.args.table.now c.args.body.now (omega arith);
      good = c.observe_body-2.ensures.good;
    }
