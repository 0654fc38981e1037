-- `records::validation::members_rise` meets its contract: each pair is compared by the slots. Assumes nothing.
use Rattle.std.proofs.Common.{ltb, rules}
use Rattle.std.proofs.lemmas.List.Sorted.{answers_always}
use Rattle.records.proofs.validation.members_rise.Goals as goal

pub returns : goal.returns
returns c = c.is_sorted_by.ensures.cases (λ a b. ltb a.identity.slot b.identity.slot) (answers_always _ _ _ (λ f a r g called. search (rules, called)))
