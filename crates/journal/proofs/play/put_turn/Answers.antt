-- `journal::play::put_turn` meets its contract. Assumes nothing.
use Prim.Native.Nat.{ℕ, ◌+◌}
use native.Mathlib.Omega.{arith}
use mathlib.Core.Bool.{◌||◌}
use mathlib.Core.List.{List}
use Rattle.identity.specs.Answer.{Answer}
use Rattle.journal.specs.declared.play.Place.{Place}
use Rattle.journal.specs.declared.record.Record.{Record}
use Rattle.journal.specs.Play.{PutTurn}
use Rattle.journal.proofs.PlayLaws.{put-long, put-none, put_some}
use Rattle.journal.proofs.play.put_turn.Goals as goal
use Rattle.journal.proofs.play.put_turn.Goals.{After-put_line-written, After-turns_after-turns, Else-found-place, Start}

-- the call of the line, from after the last call; the start, from there
abbrev called-line : After-turns_after-turns → After-put_line-written
called-line c = c.before.before.before.before

abbrev goes_on : After-put_line-written → Else-found-place
goes_on c = (record { before = c.before.before.before; type_inv = record { out = c.slice_known-1.given } })

abbrev start : Else-found-place → Start
start c = c.before.before.before.before.before

-- the arguments, from after the last call
abbrev place_of : After-turns_after-turns → Place
place_of c = (start (goes_on (called-line c))).args.place

abbrev found_of : After-turns_after-turns → Record
found_of c = (start (goes_on (called-line c))).args.found

abbrev answer-of : After-turns_after-turns → Answer
answer-of c = (start (goes_on (called-line c))).args.answer

abbrev revision-of : After-turns_after-turns → ℕ
revision-of c = (start (goes_on (called-line c))).args.revision

abbrev out_of : After-turns_after-turns → List ℕ
out_of c = (start (goes_on (called-line c))).args.out.now

-- the place after a record that takes bytes
abbrev place_after : After-turns_after-turns → Place
place_after c =
    record {
      read = (found_of c).end;
      written = (called-line c).put_line-written.result;
      count = (place_of c).count + 1;
      turns = c.turns_after-turns.result;
      ended = (place_of c).ended || (found_of c).ends;
    }

turned : (c : After-turns_after-turns)
    → PutTurn (place_of c) (found_of c) (answer-of c) (revision-of c) (out_of c) (called-line c).put_line-written.new.out (place_after c)
turned c =
    put_some (place_of c) (found_of c) (answer-of c) (revision-of c) (out_of c) (goes_on (called-line c)).if-found-place.false
    (called-line c).put_line-written.ensures c.turns_after-turns.ensures (omega arith) (omega arith)

pub returns-then-found-place : goal.returns-then-found-place
returns-then-found-place c =
    let a = c.args in
    put-none a.place a.found a.answer a.revision a.out.now c.if-found-place.true

pub shape_of-out : goal.shape_of-out
shape_of-out c = put-long (turned (record { before = c.before.before.before; type_inv = record { out = c.slice_known-2-1.given } })) (omega arith)

pub returns : goal.returns
returns c = turned (record { before = c.before.before.before; type_inv = record { out = c.slice_known-2-1.given } })
