-- `records::validation::slots_rise` meets its contract: each pair is compared by the slots. Assumes nothing.
use Rattle.std.proofs.Common.{ltb, rules}
use Rattle.std.proofs.lemmas.List.Sorted.{answers_always}
use Rattle.records.proofs.validation.slots_rise.Goals as goal

pub returns : goal.returns
returns c = c.is_sorted_by.ensures.cases (λ a b. ltb a.member.identity.slot b.member.identity.slot) (answers_always _ _ _ (λ f a r g called. search (rules, called)))
