-- A log played in pieces: what `play` gives of the bytes that are there, from any valid table or
-- none. Document 01, section "Replay program".
-- That the lines are those of `replay` of all the bytes, however they are cut, is proved
-- (PieceLaws).
-- Assumes nothing.
use Rattle.std.specs.Prelude.{ℕ, zero, suc, ◌+◌, ◌*◌, ◌-◌, ◌/◌, ◌<◌, ◌≤◌, min, ◌≡◌, Bool, true, false, cond, not, ◌&&◌, ◌||◌, List, [], ◌∷◌, ◌++◌, length, take, drop, eqb, leb, ltb, Result, Ok, Err}
use Rattle.identity.specs.Answer.{is_accepted, number_of, number_of_refusal, Answer, Accepted}
use Rattle.identity.specs.declared.answer.Refusal.{Refusal}
use Rattle.format.specs.Put.{Put, put}
use Rattle.format.specs.Res.{Res}
use Rattle.format.specs.Res.Res.{ok, no}
use Rattle.records.specs.Blank.{blank_voter_slot_table}
use Rattle.records.specs.Validation.{validate}
use Rattle.records.specs.declared.records.VoterSlotTable.{VoterSlotTable}
use Rattle.control.specs.Control.{full}
use Rattle.journal.specs.declared.play.Journal.{Journal}
use Rattle.journal.specs.declared.play.Opened.{Opened}
use Rattle.journal.specs.declared.play.Place.{Place}
use Rattle.journal.specs.declared.record.Record.{Record}
use Rattle.journal.specs.declared.replay.Mark.{Mark}
use Rattle.journal.specs.declared.replay.Mark.TheVariants.{Unknown}
use Rattle.journal.specs.Records.{frame, is_known_mark, mark_of}
use Rattle.journal.specs.Replay.{Entry, Standing, ended, line_of, lines, run}
use Rattle.journal.specs.Replay.Entry.{framed, broken}
use Rattle.journal.specs.Replay.Standing.{absent, stands}
use Rattle.journal.specs.Step.{ValidStanding}

-- ---- the record at the front of the bytes

-- "Unknown mark, mark or size cut short, or body cut short: 33 and end." An unknown mark is one at
-- once; what is cut short, where no bytes follow these (`last`). A mark takes two bytes.
unfoldable pub is_broken : Bool → List ℕ → Bool
is_broken last bs = cond (leb 2 (length bs)) (not (is_known_mark (mark_of (take 2 bs))) || last) (last && ltb 0 (length bs))

-- a record that is cut short takes all the bytes that are left, where it ends the reading, and else
-- none, since more may come
abbrev pub cut_short : Mark → Bool → ℕ → ℕ → Record
cut_short mark ends at len = record { mark = mark; asks = Unknown; body = cond ends len at; end = cond ends len at; ends = ends }

-- a whole one; its body stands after two bytes of mark and two of size
unfoldable pub record_by : Mark → Bool → ℕ → ℕ → Res (Mark × List ℕ) → Record
record_by shown ends at len (ok p n) = record { mark = p.0; asks = p.0; body = at + 4; end = at + n; ends = false }
record_by shown ends at len (no k) = cut_short shown ends at len

-- the record at a place
unfoldable pub record_at : List ℕ → ℕ → Bool → Record
record_at bs at last = record_by (mark_of (take 2 (drop at bs))) (is_broken last (drop at bs)) at (length bs) (frame.dec (drop at bs))

-- ---- the records that the bytes hold, at most so many, and how many bytes they take

-- the first record, and those after it
unfoldable pub first_ready : Mark → Bool → Res (Mark × List ℕ) → (ℕ → List Entry) → List Entry
first_ready shown ends (ok p n) rest = framed p.0 p.1 ∷ rest n
first_ready shown true (no k) rest = broken shown ∷ []
first_ready shown false (no k) rest = []

-- from the start of the bytes
unfoldable pub ready : ℕ → Bool → List ℕ → List Entry
ready zero last bs = []
ready (suc most) last bs = first_ready (mark_of (take 2 bs)) (is_broken last bs) (frame.dec bs) (λ n. ready most last (drop n bs))

-- the bytes of the first record, and of those after it
unfoldable pub first_taken : Bool → ℕ → Res (Mark × List ℕ) → (ℕ → ℕ) → ℕ
first_taken ends len (ok p n) rest = n + rest n
first_taken true len (no k) rest = len
first_taken false len (no k) rest = 0

-- from the start of the bytes
unfoldable pub taken : ℕ → Bool → List ℕ → ℕ
taken zero last bs = 0
taken (suc most) last bs = first_taken (is_broken last bs) (length bs) (frame.dec bs) (λ n. taken most last (drop n bs))

-- one of them has ended the reading
unfoldable pub ends_in : List Entry → Bool
ends_in [] = false
ends_in (framed mark body ∷ es) = ends_in es
ends_in (broken mark ∷ es) = true

-- ---- where a log stands

-- the table, if one stands
unfoldable pub standing : Bool → VoterSlotTable → Standing
standing true t = stands t
standing false t = absent

-- whether one stands
abbrev pub is_standing : Standing → Bool
is_standing absent = false
is_standing (stands t) = true

-- with none standing the table of the value is as it was
abbrev pub table_in : VoterSlotTable → Standing → VoterSlotTable
table_in t absent = t
table_in t (stands u) = u

-- before the first record: no table, and nothing read
abbrev pub new_journal : Journal
new_journal = record { stands = false; count = 0; ended = false; table = blank_voter_slot_table }

-- the table of a log, if one stands
abbrev pub standing_of : Journal → Standing
standing_of j = standing j.stands j.table

-- after so many records
unfoldable pub journal_after : Journal → List Entry → Journal
journal_after j es =
    record {
      stands = is_standing (ended (standing_of j) es);
      count = j.count + length es;
      ended = j.ended || ends_in es;
      table = table_in j.table (ended (standing_of j) es);
    }

-- ---- what is played

-- a table at the start is valid, else nothing is played
abbrev pub start_answer : Bool → VoterSlotTable → Answer
start_answer true t = validate t
start_answer false t = Accepted

-- most bytes of a line: three numbers of at most 20 digits, a mark of two bytes, three spaces and
-- the newline
abbrev pub longest_line : ℕ
longest_line = 66

-- as many records as lines have room, and the count of 64 bits too; none after the end
unfoldable pub turns_of : Answer → Bool → ℕ → ℕ → ℕ
turns_of answer is_ended count room = cond (is_ended || not (is_accepted answer)) 0 (min (room / longest_line) (full - count))

-- their lines
abbrev pub text_of : Journal → List Entry → List ℕ
text_of j es = lines (j.count + 1) (run (standing_of j) es)

-- the records that are played
abbrev pub ready_of : Journal → List ℕ → Bool → List ℕ → List Entry
ready_of j input last out = ready (turns_of (start_answer j.stands j.table) j.ended j.count (length out)) last input

-- `play`: the answer, how many bytes were read and written, where the log stands then; and the lent
-- bytes, the lines from the start and what stood after them.
unfoldable pub play_of : Journal → List ℕ → Bool → List ℕ → (Answer × (ℕ × (ℕ × Journal))) × List ℕ
play_of j input last out =
    let answer = start_answer j.stands j.table in
    let most = turns_of answer j.ended j.count (length out) in
    let es = ready most last input in
    ((answer, (taken most last input, (length (text_of j es), journal_after j es))), put (text_of j es) 0 out)

-- ---- how far a loop over the records has come

-- the table there, if one stands
abbrev pub standing_in : Opened → Standing
standing_in o = standing o.stands o.table

-- a place with a table
abbrev pub opened_at : Place → Bool → VoterSlotTable → Opened
opened_at place stood t = record { place = place; stands = stood; table = t }

-- nothing is read yet
abbrev pub start_place : Answer → Journal → ℕ → Place
start_place answer j room = record { read = 0; written = 0; count = j.count; turns = turns_of answer j.ended j.count room; ended = j.ended }

-- the same with the log's table
abbrev pub start_of : Answer → Journal → ℕ → Opened
start_of answer j room = record { place = start_place answer j room; stands = j.stands; table = j.table }

-- the turns that are left after a record
abbrev pub turns_after : ℕ → Bool → ℕ
turns_after turns ends = cond ends 0 (turns - 1)

-- the place after a record: one that takes no bytes is none, and ends the turns
unfoldable pub place_after : Bool → Place → Record → ℕ → Place
place_after true p r written = record { read = p.read; written = written; count = p.count; turns = 0; ended = p.ended }
place_after false p r written = record { read = r.end; written = written; count = p.count + 1; turns = turns_after p.turns r.ends; ended = p.ended || r.ends }

-- its line
abbrev pub turn_text : Bool → Place → Record → Answer → ℕ → List ℕ
turn_text is_none p r answer revision = cond is_none [] (line_of (p.count + 1) r.mark (number_of answer) revision)

-- a turn was put: the place after it, its line in the lent bytes, and the line's length
pub record PutTurn (p : Place) (r : Record) (answer : Answer) (revision : ℕ) (xs ys : List ℕ) (q : Place) : Type 0 where
  pub place : q ≡ place_after (eqb r.end p.read) p r q.written
  pub text : Put (turn_text (eqb r.end p.read) p r answer revision) p.written xs ys q.written
  pub short : length (turn_text (eqb r.end p.read) p r answer revision) ≤ longest_line

-- the bytes, the lines and the count have room for the turns that are left, and while there are
-- some the table that stands is valid
pub record Safe (bs : List ℕ) (room : ℕ) (o : Opened) : Type 0 where
  pub within : o.place.read ≤ length bs
  pub lines_fit : o.place.written + longest_line * o.place.turns ≤ room
  pub counts-fit : o.place.count + o.place.turns ≤ full
  pub valid : 0 < o.place.turns → ValidStanding (standing_in o)

-- From one place of a log to a later one: the records between them are those that were ready and
-- are no more, and their lines were put.
pub record Goes (bs : List ℕ) (last : Bool) (from : Opened) (xs : List ℕ) (to : Opened) (ys : List ℕ) : Type 0 where
  pub between : List Entry
  pub ready-then : between ++ ready to.place.turns last (drop to.place.read bs) ≡ ready from.place.turns last (drop from.place.read bs)
  pub taken_then :
      to.place.read + taken to.place.turns last (drop to.place.read bs) ≡ from.place.read + taken from.place.turns last (drop from.place.read bs)
  pub text : Put (lines (from.place.count + 1) (run (standing_in from) between)) from.place.written xs ys to.place.written
  pub fits : to.place.written ≤ length xs
  pub long : length ys ≡ length xs
  pub counted : to.place.count ≡ from.place.count + length between
  pub finished : to.place.ended ≡ (from.place.ended || ends_in between)
  pub stood : standing_in to ≡ ended (standing_in from) between
  pub kept : to.stands ≡ false → (from.stands ≡ false) × (to.table ≡ from.table)

-- ---- a record with no table, as the code reads it

-- `opened` of Replay
abbrev pub opened_to : Result VoterSlotTable Refusal → ℕ × Standing
opened_to (Ok t) = (number_of Accepted, stands t)
opened_to (Err e) = (number_of_refusal e, absent)

-- where the log stands then
abbrev pub journal_of : Opened → Journal
journal_of o = record { stands = o.stands; count = o.place.count; ended = o.place.ended; table = o.table }

-- what `play` answers
abbrev pub played_to : Answer → Opened → Answer × (ℕ × (ℕ × Journal))
played_to answer o = (answer, (o.place.read, (o.place.written, journal_of o)))
