-- Demand 3 of a replay (document 01, sections "Lines of history" and "Replay program"): from an
-- accepted TB on, the tables that a run goes through are a line of history, and its calls are those
-- that the records ask for.
-- The proof is `played` and `replayed` of RunHistoryLaws.
-- Assumes nothing.
use Rattle.std.specs.Prelude.{ℕ, ◌+◌, ◌≡◌, List, [], ◌∷◌, ◌++◌, length, take, drop}
use Rattle.format.specs.Combinators.{Bytes}
use Rattle.records.specs.Held.{AllOf, HeldVoterSlotLogId, HeldVoterSlotTable}
use Rattle.records.specs.Validation.{validate}
use Rattle.identity.specs.Answer.{Accepted}
use Rattle.records.specs.declared.records.VoterSlotTable.{VoterSlotTable}
use Rattle.control.specs.Held.{HeldVoterSlotControl}
use Rattle.control.specs.History.{Call, table_at, LineOfHistory}
use Rattle.journal.specs.Replay.{Asked, Asking, asking, Standing, Entry, ended, entries}
use Rattle.journal.specs.Replay.Asked.{command, observation}
use Rattle.journal.specs.Replay.Asking.{bad, refused, asks}
use Rattle.journal.specs.Replay.Standing.{absent, stands}
use Rattle.journal.specs.Replay.Entry.{framed, broken}

-- what a record asks for: one call, or none where its body is bad or its attestation refused
abbrev pub asked_in : Asking → List Asked
asked_in bad = []
asked_in (refused number) = []
asked_in (asks a) = a ∷ []

-- that, of a record as it was read
abbrev pub asked_by : Entry → List Asked
asked_by (framed mark body) = asked_in (asking mark body)
asked_by (broken mark) = []

-- all that the records ask for while a table stands
abbrev pub asked : List Entry → List Asked
asked [] = []
asked (e ∷ es) = asked_by e ++ asked es

-- its values are of their types
abbrev pub HeldAsked : Asked → Type 0
HeldAsked (command c cut) = HeldVoterSlotControl c × HeldVoterSlotLogId cut
HeldAsked (observation ids counts nodes cut) = HeldVoterSlotLogId cut

-- the call of a line of history that it is
abbrev pub call_of : (a : Asked) → HeldAsked a → Call
call_of (command c cut) h = Call.command c cut h.0 h.1
call_of (observation ids counts nodes cut) h = Call.observation ids counts nodes cut h

-- and of a list of them
abbrev pub calls : (l : List Asked) → AllOf HeldAsked l → List Call
calls [] h = []
calls (a ∷ l) h = call_of a h.0 ∷ calls l h.1

-- every body is bytes, as it is where it was read from bytes
abbrev pub BytesEntry : Entry → Type 0
BytesEntry (framed mark body) = Bytes body
BytesEntry (broken mark) = Unit {0}

-- Of a table and records: after each of them stands the table of the line that is after as many
-- calls as the records up to there ask for. And it is a line of history.
pub record LineOfRun (start : VoterSlotTable) (es : List Entry) : Type 0 where
  pub held : AllOf HeldAsked (asked es)
  pub tables : (i : ℕ) → ended (stands start) (take i es) ≡ stands (table_at start (calls (asked es) held) (length (asked (take i es))))
  pub line : LineOfHistory start (calls (asked es) held)

-- of every valid table and all records
abbrev pub PlayedHistory : Type 0
PlayedHistory =
    (start : VoterSlotTable) → HeldVoterSlotTable start → validate start ≡ Accepted → (es : List Entry) → AllOf BytesEntry es → LineOfRun start es

-- what stands after so many records of an input
abbrev pub standing_at : List ℕ → ℕ → Standing
standing_at input i = ended absent (take i (entries input))

-- Of an input: where a record brings a table, the records after it are such a line from that table,
-- to the end.
pub record ReplayHistory (input : List ℕ) : Type 0 where
  pub from : (i : ℕ) (start : VoterSlotTable) → standing_at input i ≡ absent → standing_at input (i + 1) ≡ stands start
      → LineOfRun start (drop (i + 1) (entries input))
  -- What stands after i + j records is what the j records after the first i leave of what stood
  -- there. So the tables of `from` are those of the input from place i + 1 on, which by `run_at` of
  -- ReplayLaws are the tables whose revisions are printed.
  pub onwards : (i j : ℕ) → standing_at input (i + j) ≡ ended (standing_at input i) (take j (drop i (entries input)))

-- of every input
abbrev pub ReplayedHistory : Type 0
ReplayedHistory = (input : List ℕ) → Bytes input → ReplayHistory input
