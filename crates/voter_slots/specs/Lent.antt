-- The service's boundary, of a table value that the caller lends: what the functions
-- `voter_slots_table_..` give, and the table afterwards. The calls are document 01's on a table
-- value, so any table is answered as there. The order for a command or an observation is that of a
-- replay record: 33; the attestation reader's number; 30; 31; the call. A call that is refused
-- leaves the table as it was lent, a reading too: the blank table that `decode_voter_slot_table`
-- returns is not stored.
-- Assumes nothing.
use Rattle.std.specs.Prelude.{ℕ, Bool, cond, ◌&&◌, List, length}
use Rattle.identity.specs.Answer.{is_accepted, number_of, Answer, InvalidTransition, Unrepresentable}
use Rattle.format.specs.Res.{Res}
use Rattle.format.specs.Res.Res.{ok, no}
use Rattle.records.specs.declared.records.VoterSlotTable.{VoterSlotTable}
use Rattle.codec.specs.Codec.{decode_voter_slot_table}
use Rattle.control.specs.Control.{representable_control}
use Rattle.control.specs.Retired.{retired_number, retired_test}
use Rattle.journal.specs.Replay.{Asking, answered, asking, bad_record}
use Rattle.journal.specs.Replay.Asked.{command, observation}
use Rattle.journal.specs.Replay.Asking.{bad, refused, asks}
use Rattle.voter_slots.specs.declared.result.VoterSlotsResult.{VoterSlotsResult}
use Rattle.voter_slots.specs.Calls.{command_of, observation_of}
use Rattle.voter_slots.specs.Export.{refused_result, numbers_of, written}

-- refused: the table stays as it was lent
abbrev pub stays : ℕ → VoterSlotTable → VoterSlotsResult × VoterSlotTable
stays k t = (refused_result k, t)

-- ---- reading

-- by what the table's reader gives
unfoldable pub read_over : VoterSlotTable → ℕ → Res VoterSlotTable → VoterSlotsResult × VoterSlotTable
read_over t len (ok read n) = (numbers_of read len, read)
read_over t len (no k) = stays k t

-- `voter_slots_table_read`: the table that was read stands in the place of the one lent
abbrev pub table_read_of : VoterSlotTable → List ℕ → VoterSlotsResult × VoterSlotTable
table_read_of t bs = read_over t (length bs) (decode_voter_slot_table bs)

-- ---- writing

-- `voter_slots_table_write`: 30, validity's number, 32; a table that is written is not changed
abbrev pub table_write_of : VoterSlotTable → List ℕ → VoterSlotsResult × List ℕ
table_write_of t out = written t out

-- ---- calls

-- what a call gives, with its table; `count` is 0: no byte of a table is read or written
abbrev pub told : Answer × VoterSlotTable → VoterSlotsResult × VoterSlotTable
told r = (cond (is_accepted r.0) (numbers_of r.1 0) (refused_result (number_of r.0)), r.1)

-- 33; the attestation reader's number; the call
unfoldable pub asked_at : Asking → VoterSlotTable → VoterSlotsResult × VoterSlotTable
asked_at bad t = stays bad_record t
asked_at (refused k) t = stays k t
asked_at (asks a) t = told (answered t a)

-- `voter_slots_table_apply`
abbrev pub table_apply_of : VoterSlotTable → ℕ → List ℕ → VoterSlotsResult × VoterSlotTable
table_apply_of t mark body = asked_at (asking (command_of mark (length body)) body) t

-- `voter_slots_table_observe`
abbrev pub table_observe_of : VoterSlotTable → List ℕ → VoterSlotsResult × VoterSlotTable
table_observe_of t body = asked_at (asking (observation_of (length body)) body) t

-- For the code alone, and in no export's contract: a command at a table that is not valid, in the
-- steps of the code: 33; the attestation reader's number; 30; 25. The first is whether the table
-- passes the representability check.
unfoldable pub refusal_at : Bool → Asking → ℕ
refusal_at fits bad = bad_record
refusal_at fits (refused k) = k
refusal_at fits (asks (command c cut)) = number_of (cond (fits && representable_control c) InvalidTransition Unrepresentable)
refusal_at fits (asks (observation ids counts nodes cut)) = bad_record

-- ---- the retired test

-- `voter_slots_table_retired`: 100, 101, or 30
abbrev pub table_retired_of : VoterSlotTable → ℕ → ℕ
table_retired_of t node = retired_number (retired_test t node)
