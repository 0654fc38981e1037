-- `records::records::VoterSlotTable::validate_members` meets its contract: every slot passed is accepted. Assumes nothing.
use Rattle.std.proofs.Common.{◌≡◌}
use Rattle.identity.specs.Answer.{Accepted}
use Rattle.records.specs.Validation.{validate_members}
use Rattle.records.proofs.records.VoterSlotTable.validate_members.Given as goal

abbrev pub invariant-loop-i : goal.invariant-loop-i
invariant-loop-i l = validate_members l.self l.i ≡ Accepted
