-- `control::begin::judge_begin` meets its contract: what is picked is what the tests of the definition pick. Assumes nothing.
use Rattle.control.specs.Control.{begin_check}
use Rattle.control.specs.Judgement.{judge_begin, judge_repeated}
use Rattle.control.specs.VerdictLaws.{and-judged, change-judged}
use Rattle.control.proofs.begin.judge_begin.Goals as goal

pub returns : goal.returns
unfolding judge_begin judge_repeated begin_check
returns c =
    simp (
      c.judge_known_request.ensures,
      c.and-fresh.ensures,
      c.and-again.ensures,
      and-judged,
      c.ok_or-change.ensures.value,
      c.then_some.ensures,
      change-judged,
      c.is_later-later.ensures,
      c.begin_check-check.ensures,
      c.validate_request-valid.ensures,
    )
