-- The service's boundary, of a table and what is asked of it: what `voter_slots_apply` and
-- `voter_slots_observe` give, and what they leave in the bytes lent. The order of refusals: 33; the
-- table reader's number; the attestation reader's; 30; 31; the call; 32 last.
-- Document 01: "The Rust service calls through functions over numbers and bytes."
-- Assumes nothing.
use Rattle.std.specs.Prelude.{ℕ, Bool, cond, false, true, List, eqb, leb, length, Option, Some, None}
use Rattle.identity.specs.Answer.{is_accepted, number_of, Answer}
use Rattle.records.specs.declared.records.VoterSlotTable.{VoterSlotTable}
use Rattle.codec.specs.Codec.{decode_voter_slot_table}
use Rattle.journal.specs.declared.replay.Mark.{Mark}
use Rattle.journal.specs.declared.replay.Mark.TheVariants.{Ad, Bg, Mk, Ob, Unknown}
use Rattle.journal.specs.Replay.{Asking, answered, asking, bad_record}
use Rattle.journal.specs.Replay.Asking.{bad, refused, asks}
use Rattle.voter_slots.specs.declared.call.CommandKind.{CommandKind}
use Rattle.voter_slots.specs.declared.call.CommandKind.TheVariants.{Marker, Advance, Begin}
use Rattle.voter_slots.specs.declared.result.VoterSlotsResult.{VoterSlotsResult}
use Rattle.voter_slots.specs.Export.{leaves, with_table, written}

-- the longest body of a record: "a 16-bit body size"
abbrev pub most_body : ℕ
most_body = 65535

-- a mark as the number that its two bytes are: `MK`, `AD`, `BG`
abbrev pub marker_mark : ℕ
marker_mark = 0x4D4B

abbrev pub advance_mark : ℕ
advance_mark = 0x4144

abbrev pub begin_mark : ℕ
begin_mark = 0x4247

-- any other number is no command's
unfoldable pub marked_command : ℕ → Mark
marked_command n = cond (eqb n marker_mark) Mk (cond (eqb n advance_mark) Ad (cond (eqb n begin_mark) Bg Unknown))

-- the mark of a command that a service may ask for
abbrev pub mark_of : Option CommandKind → Mark
mark_of (Some Marker) = Mk
mark_of (Some Advance) = Ad
mark_of (Some Begin) = Bg
mark_of None = Unknown

-- a body that no record has room for asks nothing
unfoldable pub command_of : ℕ → ℕ → Mark
command_of mark len = cond (leb len most_body) (marked_command mark) Unknown

-- the same of an observation
unfoldable pub observation_of : ℕ → Mark
observation_of len = cond (leb len most_body) Ob Unknown

-- a body of its form, also one whose attestation is refused
abbrev pub is_formed : Asking → Bool
is_formed bad = false
is_formed (refused k) = true
is_formed (asks a) = true

-- a call that is refused writes nothing; else the table afterwards is written
abbrev pub settled : Answer × VoterSlotTable → List ℕ → VoterSlotsResult × List ℕ
settled r out = cond (is_accepted r.0) (written r.1 out) (leaves (number_of r.0) out)

-- 33; the table reader's number; the attestation reader's; the call; 32
unfoldable pub asked_of : Asking → List ℕ → List ℕ → VoterSlotsResult × List ℕ
asked_of bad bs out = leaves bad_record out
asked_of (refused k) bs out = with_table (decode_voter_slot_table bs) out (λ t. leaves k out)
asked_of (asks a) bs out = with_table (decode_voter_slot_table bs) out (λ t. settled (answered t a) out)

-- `voter_slots_apply`
abbrev pub apply_of : List ℕ → ℕ → List ℕ → List ℕ → VoterSlotsResult × List ℕ
apply_of bs mark body out = asked_of (asking (command_of mark (length body)) body) bs out

-- `voter_slots_observe`
abbrev pub observe_of : List ℕ → List ℕ → List ℕ → VoterSlotsResult × List ℕ
observe_of bs body out = asked_of (asking (observation_of (length body)) body) bs out
