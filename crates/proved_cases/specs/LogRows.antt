-- Rows of the replay program: what it prints of a log, byte for byte, and of each record the mark,
-- the answer and the revision afterwards. Document 01, section "Replay program". Cases has them in
-- its one table, and its theorem covers them.
-- Assumes nothing.
use Rattle.std.specs.Prelude.{ℕ, ◌/◌, ◌%◌, List, [], ◌∷◌, ◌++◌, length, replicate}
use Rattle.records.specs.Equality.{eq_bytes}
use Rattle.journal.specs.Records.{mark_text}
use Rattle.journal.specs.Replay.{Turn, entries, replay, revision_of, run}
use Rattle.journal.specs.Replay.Standing.{absent}
use Rattle.proved_cases.specs.Row.{Row}
use Rattle.proved_cases.specs.Row.Row.{is-yes}

-- the program prints this text of this log
abbrev prints : (input output : List ℕ) → Row
prints input output = is-yes (eq_bytes (replay input) output)

-- of each record the mark, the answer and the revision afterwards
abbrev shown : List Turn → List ℕ
shown [] = []
shown (t ∷ turns) = (mark_text t.mark ++ (t.answer ∷ revision_of t.afterwards ∷ [])) ++ shown turns

-- the records of this log give these lines, without their numbers
abbrev plays : (input lines : List ℕ) → Row
plays input lines = is-yes (eq_bytes (shown (run absent (entries input))) lines)

-- ---- what the rows are made of: bytes, written out

-- a number below 256 as eight bytes
abbrev wide : ℕ → List ℕ
wide n = replicate 7 0 ++ (n ∷ [])

-- 32 times one byte
abbrev digest : ℕ → List ℕ
digest b = replicate 32 b

-- the marks by their bytes: `TB`, `MK`, `AD`, `BG`, `OB`, and `??` for none of them
abbrev tb_mark : List ℕ
tb_mark = 84 ∷ 66 ∷ []

abbrev mk_mark : List ℕ
mk_mark = 77 ∷ 75 ∷ []

abbrev ad_mark : List ℕ
ad_mark = 65 ∷ 68 ∷ []

abbrev bg_mark : List ℕ
bg_mark = 66 ∷ 71 ∷ []

abbrev ob_mark : List ℕ
ob_mark = 79 ∷ 66 ∷ []

abbrev no_mark : List ℕ
no_mark = 63 ∷ 63 ∷ []

-- a number below 65,536 as two bytes
abbrev short : ℕ → List ℕ
short n = (n / 256) ∷ (n % 256) ∷ []

-- two bytes of mark, two of size, the body
abbrev entry : (mark body : List ℕ) → List ℕ
entry mark body = mark ++ short (length body) ++ body

-- a valid table of revision 1 and epoch 1: `OPVI`, version 1, and after the count the slots
abbrev bytes_of_table : ℕ → List ℕ → List ℕ
bytes_of_table count slots = (79 ∷ 80 ∷ 86 ∷ 73 ∷ 0 ∷ 1 ∷ []) ++ digest 7 ++ digest 6 ++ wide 1 ++ wide 1 ++ (count ∷ []) ++ slots ++ (0 ∷ [])

-- a slot in its first incarnation, voting, with no receipt
abbrev slot_bytes : ℕ → List ℕ
slot_bytes slot = (0 ∷ slot ∷ []) ++ wide 1 ++ wide 0 ++ digest slot ++ digest slot ++ wide 1 ++ (2 ∷ 0 ∷ [])

-- the records: a TB of one slot, and one of three
abbrev tb : List ℕ
tb = entry tb_mark (bytes_of_table 1 (slot_bytes 1))

abbrev tb_of_three : List ℕ
tb_of_three = entry tb_mark (bytes_of_table 3 (slot_bytes 1 ++ slot_bytes 2 ++ slot_bytes 3))

-- at a cut of term 1, for the request 21
abbrev named : ℕ → List ℕ
named index = wide 1 ++ wide index ++ replicate 16 21 ++ digest 21

-- an MK at that index
abbrev mk : ℕ → List ℕ
mk index = entry mk_mark (named index)

-- an AD: a step byte, and what follows it
abbrev ad : ℕ → List ℕ → List ℕ
ad index rest = entry ad_mark (named index ++ rest)

-- a snapshot at that index, with the id as given
abbrev snapshot_step : ℕ → List ℕ → List ℕ
snapshot_step index id = (0 ∷ []) ++ wide 1 ++ wide index ++ short (length id) ++ id ++ digest 4

-- `spiffe://a`, with its size
abbrev name : List ℕ
name = 0 ∷ 10 ∷ 115 ∷ 112 ∷ 105 ∷ 102 ∷ 102 ∷ 101 ∷ 58 ∷ 47 ∷ 47 ∷ 97 ∷ []

-- for the first incarnation of slot 2, with the key 9 and generation 5
abbrev attestation_bytes : List ℕ
attestation_bytes =
    (0 ∷ 1 ∷ []) ++ replicate 16 21 ++ digest 21 ++ digest 7 ++ (0 ∷ 2 ∷ []) ++ wide 1 ++ digest 2 ++ digest 9 ++ wide 5 ++ name ++ name ++ digest 1
    ++ (1 ∷ []) ++ digest 2 ++ wide 1 ++ wide 2 ++ wide 3 ++ wide 4 ++ replicate 64 3

-- a BG: epoch, slot and incarnation as given
abbrev bg : ℕ → ℕ → List ℕ → List ℕ → List ℕ
bg epoch slot incarnation attestation =
    entry bg_mark
    (wide 1 ++ wide 10 ++ wide 1 ++ digest 7 ++ digest 8 ++ wide epoch ++ (0 ∷ slot ∷ []) ++ incarnation ++ digest 9 ++ digest 9 ++ wide 5
    ++ short (length attestation) ++ attestation ++ digest 21 ++ digest 8)

-- the count of ids, and the ids as bytes
abbrev ids : ℕ → List ℕ → List ℕ
ids n bytes = (0 ∷ n ∷ []) ++ bytes

-- an OB: the count of sets, and the sets and the nodes
abbrev ob : ℕ → ℕ → List ℕ → List ℕ
ob index sets rest = entry ob_mark (wide 1 ++ wide index ++ (sets ∷ []) ++ rest)

-- the node of slot 2 in its second incarnation: 65,538
abbrev new_node : List ℕ
new_node = 0 ∷ 0 ∷ 0 ∷ 0 ∷ 0 ∷ 1 ∷ 0 ∷ 2 ∷ []

-- the nodes of the predecessor, of the successor, and of both
abbrev old : List ℕ
old = ids 3 (wide 1 ++ wide 2 ++ wide 3)

abbrev new : List ℕ
new = ids 3 (wide 1 ++ wide 3 ++ new_node)

abbrev both_nodes : List ℕ
both_nodes = ids 4 (wide 1 ++ wide 2 ++ wide 3 ++ new_node)

-- what one line shows: the mark, the answer, the revision
abbrev shows : (mark : List ℕ) (answer revision : ℕ) → List ℕ
shows mark answer revision = mark ++ (answer ∷ revision ∷ [])

-- ---- the rows

-- what document 01 says of the program, sentence by sentence, and a whole replacement
abbrev pub replay_rows : List Row
replay_rows =
    -- document 01's worked example: `replay 1`, `1 TB 0 1`, `2 MK 25 1`, `3 OB 0 1`
    prints (tb ++ mk 1 ++ ob 1 1 (ids 1 (wide 1) ++ ids 1 (wide 1)))
    (114 ∷ 101 ∷ 112 ∷ 108 ∷ 97 ∷ 121 ∷ 32 ∷ 49 ∷ 10
    ∷ 49 ∷ 32 ∷ 84 ∷ 66 ∷ 32 ∷ 48 ∷ 32 ∷ 49 ∷ 10
    ∷ 50 ∷ 32 ∷ 77 ∷ 75 ∷ 32 ∷ 50 ∷ 53 ∷ 32 ∷ 49 ∷ 10
    ∷ 51 ∷ 32 ∷ 79 ∷ 66 ∷ 32 ∷ 48 ∷ 32 ∷ 49 ∷ 10 ∷ [])
    -- "The first line is always `replay 1`."
    ∷ prints [] (114 ∷ 101 ∷ 112 ∷ 108 ∷ 97 ∷ 121 ∷ 32 ∷ 49 ∷ 10 ∷ [])
    -- mark cut short
    ∷ plays (84 ∷ []) (shows no_mark 33 0)
    -- unknown mark, and nothing is read after it
    ∷ plays ((84 ∷ 67 ∷ 0 ∷ 0 ∷ []) ++ tb) (shows no_mark 33 0)
    -- size cut short
    ∷ plays (tb_mark ++ (0 ∷ [])) (shows tb_mark 33 0)
    -- body cut short
    ∷ plays (tb ++ mk_mark ++ (0 ∷ 64 ∷ 0 ∷ [])) (shows tb_mark 0 1 ++ shows mk_mark 33 1)
    -- a call with no table; a TB whose table is refused; a TB; a TB while a table stands, whatever
    -- its body
    ∷ plays (mk 1 ++ entry tb_mark [] ++ tb ++ entry tb_mark [])
    (shows mk_mark 33 0 ++ shows tb_mark 6 0 ++ shows tb_mark 0 1 ++ shows tb_mark 33 1)
    -- a body that is too short; a step byte of 5; a byte too many; and a fence that is read, with
    -- no request open
    ∷ plays (tb ++ entry mk_mark [] ++ ad 1 (5 ∷ []) ++ ad 1 (3 ∷ 0 ∷ []) ++ ad 1 (3 ∷ []))
    (shows tb_mark 0 1 ++ shows mk_mark 33 1 ++ shows ad_mark 33 1 ++ shows ad_mark 33 1 ++ shows ad_mark 13 1)
    -- a snapshot id that is not UTF-8, and one of 257 bytes: 30; one of 256 bytes, and one that is
    -- empty: the call
    ∷ plays
    (tb
    ++ ad 1 (snapshot_step 1 (128 ∷ []))
    ++ ad 1 (snapshot_step 1 (replicate 257 97))
    ++ ad 1 (snapshot_step 1 (replicate 256 97))
    ++ ad 1 (snapshot_step 1 []))
    (shows tb_mark 0 1 ++ shows ad_mark 30 1 ++ shows ad_mark 30 1 ++ shows ad_mark 13 1 ++ shows ad_mark 13 1)
    -- a BG whose attestation is refused: the reader's number, before the 30 of candidate slot 0
    ∷ plays (tb ++ bg 1 2 (wide 2) [] ++ bg 1 0 (wide 2) []) (shows tb_mark 0 1 ++ shows bg_mark 6 1 ++ shows bg_mark 6 1)
    -- epoch 0, candidate slot 0, candidate incarnation 0 and 2^47 + 1: 30
    ∷ plays
    (tb
    ++ bg 0 2 (wide 2) attestation_bytes
    ++ bg 1 0 (wide 2) attestation_bytes
    ++ bg 1 2 (wide 0) attestation_bytes
    ++ bg 1 2 (0 ∷ 0 ∷ 128 ∷ 0 ∷ 0 ∷ 0 ∷ 0 ∷ 1 ∷ []) attestation_bytes)
    (shows tb_mark 0 1 ++ shows bg_mark 30 1 ++ shows bg_mark 30 1 ++ shows bg_mark 30 1 ++ shows bg_mark 30 1)
    -- a set that holds 2^63: 30, also where the nodes do not rise; the set 1, 1: 31; the set 1, 2:
    -- 25
    ∷ plays
    (tb
    ++ ob 1 1 (ids 1 (128 ∷ replicate 7 0) ++ ids 2 (wide 1 ++ wide 1))
    ++ ob 1 1 (ids 2 (wide 1 ++ wide 1) ++ ids 1 (wide 1))
    ++ ob 1 1 (ids 2 (wide 1 ++ wide 2) ++ ids 1 (wide 1)))
    (shows tb_mark 0 1 ++ shows ob_mark 30 1 ++ shows ob_mark 31 1 ++ shows ob_mark 25 1)
    -- a whole replacement
    ∷ plays
    (tb_of_three
    ++ bg 1 2 (wide 2) attestation_bytes
    ++ ad 12 (snapshot_step 11 (115 ∷ []))
    ++ ob 13 1 (old ++ both_nodes)
    ++ mk 14
    ++ ad 15 ((1 ∷ []) ++ wide 1 ++ wide 14)
    ++ ad 16 (3 ∷ [])
    ++ ob 17 2 (old ++ new ++ both_nodes)
    ++ ob 18 1 (new ++ new)
    ++ ad 19 (4 ∷ []))
    (shows tb_mark 0 1
    ++ shows bg_mark 0 2
    ++ shows ad_mark 0 3
    ++ shows ob_mark 0 4
    ++ shows mk_mark 0 4
    ++ shows ad_mark 0 5
    ++ shows ad_mark 0 6
    ++ shows ob_mark 0 7
    ++ shows ob_mark 0 8
    ++ shows ad_mark 0 9)
    ∷ []
