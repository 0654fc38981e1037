-- `records::records::VoterConfiguration::member_places` meets its contract: the answer so far is that of the places passed. Assumes nothing.
use Rattle.std.proofs.Common.{◌≡◌, leb}
use Rattle.records.specs.Records.{all_below, member_at}
use Rattle.records.specs.Representable.{member_place}
use Rattle.records.proofs.records.VoterConfiguration.member_places.Given as goal

abbrev pub invariant-loop-i : goal.invariant-loop-i
invariant-loop-i l = l.all ≡ all_below (λ i. member_place (leb l.self.count i) (member_at l.self i)) l.i
