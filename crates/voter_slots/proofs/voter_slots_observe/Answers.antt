-- `voter_slots::voter_slots_observe` meets its contract. Assumes nothing.
use Rattle.std.proofs.Common.{ℕ, List, ◌≤◌, ◌≡◌, arith, length, sym, ap, ◌∙◌}
use Rattle.journal.specs.declared.replay.Mark.{Mark}
use Rattle.journal.specs.declared.replay.Mark.TheVariants.{Ob}
use Rattle.journal.specs.Replay.{asking}
use Rattle.voter_slots.specs.declared.result.VoterSlotsResult.{VoterSlotsResult}
use Rattle.voter_slots.specs.Calls.{asked_of, most_body, observe_of}
use Rattle.voter_slots.specs.CallLaws.{observation-fits, too_long}
use Rattle.voter_slots.proofs.voter_slots_observe.Goals as goal

-- the body is one of a record
fits : (bs body out : List ℕ) → length body ≤ most_body → asked_of (asking Ob body) bs out ≡ observe_of bs body out
fits bs body out h = ap (λ (m : Mark). asked_of (asking m body) bs out) (sym (observation-fits (length body) h))

pub returns-then-body-gt-MOST_BODY : goal.returns-then-body-gt-MOST_BODY
returns-then-body-gt-MOST_BODY c =
    let s = c.args in
    ap (λ (r : VoterSlotsResult). (r, s.out.now)) c.refused.ensures ∙ too_long s.table.now s.body.now s.out.now (omega arith)

pub returns-then-body-le-USUAL_BODY : goal.returns-then-body-le-USUAL_BODY
returns-then-body-le-USUAL_BODY c =
    let s = c.args in
    ap (λ (r : VoterSlotsResult). (r, c.observe_bytes.new.out)) c.said.ensures ∙ c.observe_bytes.ensures.gives ∙ fits s.table.now s.body.now s.out.now (omega arith)

pub returns : goal.returns
returns c =
    let s = c.args in
    ap (λ (r : VoterSlotsResult). (r, c.observe_bytes-2.new.out)) c.said-2.ensures ∙ c.observe_bytes-2.ensures.gives ∙ fits s.table.now s.body.now s.out.now (omega arith)
