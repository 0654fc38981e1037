-- The service's boundary, of a table alone: what `voter_slots_read`, `voter_slots_write` and
-- `voter_slots_retired` give, and what they leave in the bytes lent. The order of refusals: the
-- table reader's number; the call; 32 last. A call that is refused leaves every lent byte as it
-- was. Document 01: "The Rust service calls through functions over numbers and bytes."
-- Assumes nothing.
use Rattle.std.specs.Prelude.{ℕ, ◌≡◌, cond, List, length, Result, Ok, Err}
use Rattle.identity.specs.Answer.{number_of_refusal}
use Rattle.identity.specs.declared.answer.Refusal.{Refusal}
use Rattle.format.specs.Res.{Res}
use Rattle.format.specs.Res.Res.{ok, no}
use Rattle.records.specs.Blank.{blank_voter_slot_table}
use Rattle.records.specs.declared.records.VoterSlotTable.{VoterSlotTable}
use Rattle.codec.specs.Codec.{decoded, decode_voter_slot_table, encode_voter_slot_table}
use Rattle.control.specs.Retired.{retired_number, retired_test}
use Rattle.voter_slots.specs.declared.result.VoterSlotsResult.{VoterSlotsResult}

-- ---- results

-- in place of a phase, where no request is open
abbrev pub no_phase : ℕ
no_phase = 255

-- refused by a number: every other number as of no table
abbrev pub refused_result : ℕ → VoterSlotsResult
refused_result n = record { answer = n; slots = 0; count = 0; revision = 0; epoch = 0; open_slot = 0; open_phase = no_phase }

-- what a call says, or its refusal
abbrev pub said : Result VoterSlotsResult Refusal → VoterSlotsResult
said (Ok r) = r
said (Err e) = refused_result (number_of_refusal e)

-- accepted: what a service asks of the table, and how many bytes it takes
abbrev pub numbers_of : VoterSlotTable → ℕ → VoterSlotsResult
numbers_of t n =
    record {
      answer = 0;
      slots = t.count;
      count = n;
      revision = t.revision;
      epoch = t.configuration_epoch;
      open_slot = cond t.has_replacement t.replacement.attestation.slot 0;
      open_phase = cond t.has_replacement t.replacement.phase no_phase;
    }

-- ---- reading

-- the bytes were read as this table
abbrev pub ReadAs : List ℕ → VoterSlotTable → Type 0
ReadAs bs t = ◌≡◌ {A = ℕ × VoterSlotTable} (decoded blank_voter_slot_table (decode_voter_slot_table bs)) (0, t)

-- by what the table's reader gives
unfoldable pub read_by : ℕ → Res VoterSlotTable → VoterSlotsResult
read_by len (ok t n) = numbers_of t len
read_by len (no k) = refused_result k

-- `voter_slots_read`
abbrev pub read_of : List ℕ → VoterSlotsResult
read_of bs = read_by (length bs) (decode_voter_slot_table bs)

-- ---- writing: the result, and the lent bytes afterwards

-- refused: not a byte is written
abbrev pub leaves : ℕ → List ℕ → VoterSlotsResult × List ℕ
leaves k out = (refused_result k, out)

-- by what the writer gives
unfoldable pub written_by : VoterSlotTable → List ℕ → Res (List ℕ) → VoterSlotsResult × List ℕ
written_by t out (ok after n) = (numbers_of t n, after)
written_by t out (no k) = leaves k out

-- a table, as `encode_voter_slot_table` writes it
abbrev pub written : VoterSlotTable → List ℕ → VoterSlotsResult × List ℕ
written t out = written_by t out (encode_voter_slot_table t out)

-- the table's own refusal, or what follows with the table
unfoldable pub with_table : Res VoterSlotTable → List ℕ → (VoterSlotTable → VoterSlotsResult × List ℕ) → VoterSlotsResult × List ℕ
with_table (ok t n) out next = next t
with_table (no k) out next = leaves k out

-- `voter_slots_write`
abbrev pub write_of : List ℕ → List ℕ → VoterSlotsResult × List ℕ
write_of bs out = with_table (decode_voter_slot_table bs) out (λ t. written t out)

-- ---- the retired test

-- by what the table's reader gives
unfoldable pub retired_by : ℕ → Res VoterSlotTable → ℕ
retired_by node (ok t n) = retired_number (retired_test t node)
retired_by node (no k) = k

-- `voter_slots_retired`: 100, 101, or the reader's number
abbrev pub retired_of : List ℕ → ℕ → ℕ
retired_of bs node = retired_by node (decode_voter_slot_table bs)
