-- `control::request::slot_check` meets its contract: the tests of the member that was found, or of a blank, in their order. Assumes nothing.
use mathlib.Core.Path.{◌≡◌, ap, sym, ◌∙◌}
use mathlib.Core.Bool.{false, true, cond, ◌&&◌}
use native.Mathlib.Omega.{arith}
use lib.Dec.{eqb, leb}
use borrow.Author.Tests.{le-leb, lt-leb}
use Rattle.identity.specs.Answer.{NoSurvivingQuorum, StaleIncarnation, Accepted, InvalidLossEvidence}
use Rattle.records.proofs.Held.{held-lost-voter-attestation-v1, held-voter-slot-table}
use Rattle.records.specs.Successor.{first_refusal}
use Rattle.records.specs.TestLaws.{cond-false, cond-true}
use Rattle.control.specs.BeginJudge.{attested_member, newer_than}
use Rattle.control.specs.BeginJudgeLaws.{slot-picked}
use Rattle.control.specs.Control.{candidate_check, stale_check}
use Rattle.control.proofs.request.slot_check.Goals as goal
use Rattle.control.proofs.request.slot_check.Goals.{After-is_some}

judged : (c : After-is_some)
    → cond (c.is_some.result && (eqb c.args.table.revision c.args.request.expected_revision && (c.is_expected-expected.result && (c.eq-same_cluster.result && c.is_attested-attested.result))))
    (cond (leb 3 c.args.table.count) (cond c.is_newer-newer.result Accepted InvalidLossEvidence) NoSurvivingQuorum) StaleIncarnation
    ≡ first_refusal (stale_check c.args.table c.args.request) (candidate_check c.args.table c.args.request)
judged c =
    let t = c.args.table in
    let r = c.args.request in
    let nine = (held-voter-slot-table t _ c.well_formed.0).slots.count in
    let bytes = (held-lost-voter-attestation-v1 r.attestation _ c.well_formed.1.0.1.1.1.1.1.0).old_descriptor_digest.count in
    slot-picked t r nine bytes c.is_some.result c.named_member-named.result c.default.result _ _ _ _ c.is_some.ensures c.named_member-named.ensures c.is_expected-expected.ensures
    c.eq-same_cluster.ensures (c.is_attested-attested.ensures ∙ ap (attested_member r) c.unwrap_or-member.ensures) (c.is_newer-newer.ensures ∙ ap (newer_than r) c.unwrap_or-member.ensures)

pub returns-then-not-current : goal.returns-then-not-current
returns-then-not-current c = sym (cond-false _ _ _ c.if-not-current.true) ∙ judged c.before.before.before.before

pub returns-then-not-enough : goal.returns-then-not-enough
returns-then-not-enough c =
    let few : leb 3 c.args.table.count ≡ false = lt-leb 3 c.args.table.count (omega arith) in
    sym (cond-true _ _ _ c.if-not-current.false ∙ cond-false _ _ _ few) ∙ judged c.before.before.before.before.before

pub returns-then-not-newer : goal.returns-then-not-newer
returns-then-not-newer c =
    let enough : leb 3 c.args.table.count ≡ true = le-leb 3 c.args.table.count (omega arith) in
    sym (cond-true _ _ _ c.if-not-current.false ∙ (cond-true _ _ _ enough ∙ cond-false _ _ _ c.if-not-newer.true)) ∙ judged c.before.before.before.before.before.before

pub returns-else-not-newer : goal.returns-else-not-newer
returns-else-not-newer c =
    let enough : leb 3 c.args.table.count ≡ true = le-leb 3 c.args.table.count (omega arith) in
    sym (cond-true _ _ _ c.if-not-current.false ∙ (cond-true _ _ _ enough ∙ cond-true _ _ _ c.if-not-newer.false)) ∙ judged c.before.before.before.before.before.before
