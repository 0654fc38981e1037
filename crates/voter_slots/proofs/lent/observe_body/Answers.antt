-- `voter_slots::lent::observe_body` meets its contract. Assumes nothing.
use Rattle.std.proofs.Common.{◌≡◌, ◌≤◌, rules, sym, subst, true}
use Rattle.identity.specs.Answer.{is_accepted, Answer}
use Rattle.records.specs.declared.records.VoterSlotTable.{VoterSlotTable}
use Rattle.voter_slots.specs.LentLaws.{observed-fits}
use Rattle.voter_slots.proofs.lent.observe_body.Goals as goal

pub numbers_of-requires : goal.numbers_of-requires
numbers_of-requires g c =
    let a : is_accepted c.observe_membership_in_place.result ≡ true = search rules in
    subst (λ (x : Answer × VoterSlotTable). is_accepted x.0 ≡ true → x.1.count ≤ 9) (sym c.observe_membership_in_place.ensures) (observed-fits _ _ _ _ _) a
