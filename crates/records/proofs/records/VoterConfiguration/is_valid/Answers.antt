-- `records::records::VoterConfiguration::is_valid` meets its contract: the members in use are those of the configuration. Assumes nothing.
use Rattle.std.proofs.Common.{◌≤◌, ◌∙◌, ltb, arith}
use Rattle.std.proofs.lemmas.Grind.{common_steps}
use Rattle.records.specs.Records.{no_member}
use Rattle.records.specs.RecordsLaws.{front-all, front-sorted}
use Rattle.records.specs.Validation.{valid_configuration}
use Rattle.records.specs.ValidationLaws.{count_small}
use Rattle.records.proofs.records.VoterConfiguration.is_valid.Goals as goal

pub returns : goal.returns
unfolding valid_configuration
returns c =
    let t = c.args.self.now in
    let u = c.members_in_use-members in
    let h : t.count ≤ 9 = grind (arith, common_steps, count_small) in
    let a = c.have_generations.ensures ∙ front-all no_member t.members u.result.now t.count u.ensures.members (u.ensures.count h) (λ m. ltb 0 m.admission_generation) in
    let b = front-sorted no_member t.members u.result.now t.count u.ensures.members (u.ensures.count h) (λ m k. ltb m.identity.slot k.identity.slot) _ c.members_rise.ensures in
    grind (arith, common_steps, a, b)
