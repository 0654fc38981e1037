-- `voter_slots::lent::refuse_command` meets its contract. Assumes nothing.
use Rattle.std.specs.Prelude.{Option}
use Rattle.std.proofs.Common.{ap, sym}
use Rattle.journal.specs.Replay.{asking}
use Rattle.voter_slots.specs.declared.call.CommandKind.{CommandKind}
use Rattle.voter_slots.specs.Calls.{mark_of}
use Rattle.voter_slots.specs.Lent.{refusal_at}
use Rattle.voter_slots.proofs.lent.refuse_command.Goals as goal

pub returns-in-None : goal.returns-in-None
unfolding asking refusal_at
returns-in-None c = ap (λ (k : Option CommandKind). refusal_at c.args.fits (asking (mark_of k) c.args.body.now)) (sym c.in-None.is)
