-- What reading gives, what writing leaves, and a restart: `decode_voter_slot_table`,
-- `decode_lost_voter_attestation` and `encode_voter_slot_table` of codec.rs.
-- Document 01, "Refusals from the input": 5 for too many bytes first, the field's own number, 6 for
-- bytes left over, then validity's.
-- Assumes nothing.
use Rattle.std.specs.Prelude.{ℕ, List, ◌++◌, length, take, drop, leb}
use Rattle.identity.specs.Answer.{number_of, BufferTooShort}
use Rattle.format.specs.Res.{Res, and_then, too_large}
use Rattle.format.specs.Res.Res.{ok, no}
use Rattle.format.specs.Combinators.{gate}
use Rattle.format.specs.Num.{pick}
use Rattle.format.specs.Through.{whole}
use Rattle.records.specs.Blank.{blank_voter_slot_table}
use Rattle.records.specs.Validation.{validity, validate}
use Rattle.records.specs.declared.records.LostVoterAttestationV1.{LostVoterAttestationV1}
use Rattle.records.specs.declared.records.VoterSlotTable.{VoterSlotTable}
use Rattle.layout.specs.Layout.{max_attestation_bytes, attestation, table}
use Rattle.layout.specs.Reading.{outcome}

-- `MAX_VOTER_SLOT_TABLE_BYTES`
abbrev pub max_table_bytes : ℕ
max_table_bytes = 65536

-- at most so many bytes, refused by 5
unfoldable pub bounded : {A : Type 0} → ℕ → List ℕ → Res A → Res A
bounded bound bs r = pick (leb (length bs) bound) r (no too_large)

-- `decode_voter_slot_table`: the bound (5), the fields, nothing left over (6), and then validity.
unfoldable pub decode_voter_slot_table : List ℕ → Res VoterSlotTable
decode_voter_slot_table bs = bounded max_table_bytes bs (and_then (whole table bs) (λ t n. gate (number_of (validity t)) t n))

-- `decode_lost_voter_attestation`: the bound (5), the fields and its rule, nothing left over (6)
unfoldable pub decode_lost_voter_attestation : List ℕ → Res LostVoterAttestationV1
decode_lost_voter_attestation bs = bounded max_attestation_bytes bs (whole attestation bs)

-- the bytes that `encode_voter_slot_table` writes
unfoldable pub table_bytes : VoterSlotTable → List ℕ
table_bytes t = table.enc t

-- ---- what the calls answer and leave

-- `encode_voter_slot_table` into a lent buffer: 30, validity's number, then 32 for a buffer that is
-- too short; else what the buffer holds afterwards, the bytes from its start and after them what
-- was there before, and the count.
unfoldable pub encode_voter_slot_table : VoterSlotTable → List ℕ → Res (List ℕ)
encode_voter_slot_table t buffer =
    and_then (gate (number_of (validate t)) (table_bytes t) (length (table_bytes t)))
    (λ bs n. pick (leb n (length buffer)) (ok (bs ++ drop n buffer) n) (no (number_of BufferTooShort)))

-- document 01's number of a reading, and the value, or the blank with a refusal
unfoldable pub decoded : {A : Type 0} → A → Res A → ℕ × A
decoded blank (ok a n) = (0, a)
decoded blank (no k) = (k, blank)

-- A restart, of document 01's "Lines of history": the writer into a lent buffer, "then the reader
-- on exactly the bytes counted"; "it is refused if the writer or the reader refuses".
unfoldable pub restarted : VoterSlotTable → List ℕ → Res VoterSlotTable
restarted t buffer = and_then (encode_voter_slot_table t buffer) (λ b n. decode_voter_slot_table (take n b))

-- What a restart answers: the number and the table, the blank one with a refusal. And what it
-- leaves in the buffer: what the writer does.
unfoldable pub restart_outcome : VoterSlotTable → List ℕ → (ℕ × VoterSlotTable) × List ℕ
restart_outcome t buffer = (decoded blank_voter_slot_table (restarted t buffer), (outcome buffer (encode_voter_slot_table t buffer)).1)
