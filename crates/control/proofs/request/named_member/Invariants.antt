-- `control::request::named_member` meets its contract: what was found is at the first of the places passed. Assumes nothing.
use Prim.Native.Nat.{ℕ}
use mathlib.Core.Path.{◌≡◌}
use mathlib.Core.Bool.{Bool}
use lib.Dec.{eqb}
use Rattle.std.specs.Prelude.{Some, None}
use Rattle.records.specs.declared.records.VoterSlotRecord.{VoterSlotRecord}
use Rattle.control.specs.BeginJudge.{read_at}
use Rattle.control.specs.BeginJudgeLaws.{place_from}
use Rattle.control.proofs.request.named_member.Given as goal

-- the slot has that number
abbrev pub bears : ℕ → VoterSlotRecord → Bool
bears number s = eqb s.member.identity.slot number

abbrev pub invariant-loop-i : goal.invariant-loop-i
invariant-loop-i l = l.member ≡ read_at l.table (place_from l.table (bears l.number) l.i) (λ s. Some s.member) None
