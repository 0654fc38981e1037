-- The members in use, as the code has them, are those of the configuration, as Observation speaks of
-- them.
-- Assumes nothing.
use Rattle.std.proofs.Common.{ℕ, ◌+◌, ◌<◌, ◌≡◌, get_or, ◌∙◌, List, length, eqb, not, ap, sym, arith}
use Rattle.std.proofs.lemmas.Grind.{common_steps}
use Rattle.std.proofs.lemmas.List.Sums.{prefix_len-le-length}
use Rattle.std.specs.List.{position, position_or_len}
use Rattle.std.specs.Option.{unwrap_or}
use Rattle.records.specs.Records.{first_from, member_at, members_in_use, no_member}
use Rattle.records.specs.RecordsLaws.{first-position, front-at}
use Rattle.records.specs.declared.records.VoterConfiguration.{VoterConfiguration}
use Rattle.records.specs.declared.records.VoterSlotMember.{VoterSlotMember}
use Rattle.control.specs.Observation.{member_index}

module _ (c : VoterConfiguration) (used : List VoterSlotMember) (e : used ≡ members_in_use c) (h : length used ≡ c.count) where
  -- a member's place
  place-in-use : (slot : ℕ) → member_index c slot ≡ position_or_len (λ m. eqb m.identity.slot slot) used
  place-in-use slot =
      let bears = λ (m : VoterSlotMember). eqb m.identity.slot slot in
      let q = λ (i : ℕ). bears (member_at c i) in
      let at : (j : ℕ) → j < length used → q (0 + j) ≡ bears (get_or used j no_member) =
      λ j l. let z : 0 + j ≡ j = omega arith in ap q z ∙ sym (ap bears (front-at no_member c.members used c.count e h j (omega arith))) in
      let counted : member_index c slot ≡ first_from q (length used) 0 = ap (λ (n : ℕ). first_from q n 0) (sym h) in
      omega (arith, counted, first-position bears no_member q used 0 at)

  -- the place, or the count
  pub member-in-use : (slot : ℕ) → unwrap_or (position (λ m. eqb m.identity.slot slot) used) c.count ≡ member_index c slot
  member-in-use slot =
      let p = place-in-use slot in
      let l = prefix_len-le-length (λ m. not (eqb m.identity.slot slot)) used in
      grind (arith, common_steps, p, l)
