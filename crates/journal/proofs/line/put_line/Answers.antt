-- `journal::line::put_line` meets its contract: one put after the other. Assumes nothing.
use Prim.Native.Nat.{ℕ, ◌+◌, ◌≤◌}
use native.Mathlib.Omega.{arith}
use mathlib.Core.Path.{◌≡◌, ap, ◌∙◌}
use mathlib.Core.List.{List, ◌++◌}
use lib.ListN.{length}
use Rattle.format.specs.Put.{Put, then, room, room-left, length-put}
use Rattle.journal.specs.Replay.{decimal, line_of, newline, space}
use Rattle.journal.specs.ReplayLaws.{line-long}
use Rattle.journal.specs.TextLaws.{put_same}
use Rattle.journal.proofs.line.put_line.Goals as goal
use Rattle.journal.proofs.line.put_line.Goals.{After-number-answer, After-put_bytes, After-put_bytes-at, After-put_bytes-at-2, After-put_bytes-at-3, After-put_bytes-at-4, After-put_decimal-at, After-put_decimal-at-2, After-put_decimal-at-3, Start}

-- the mark's text and the answer's number are there; then come the puts
abbrev start : After-number-answer → Start
start c = c.before.before.before.before

abbrev count : After-number-answer → ℕ
count c = (start c).args.count

abbrev revision : After-number-answer → ℕ
revision c = (start c).args.revision

-- what is written, put by put
abbrev e1 : After-number-answer → List ℕ
e1 c = decimal (count c)

abbrev e2 : After-number-answer → List ℕ
e2 c = e1 c ++ space

abbrev e3 : After-number-answer → List ℕ
e3 c = e2 c ++ c.text-text.result

abbrev e4 : After-number-answer → List ℕ
e4 c = e3 c ++ space

abbrev e5 : After-number-answer → List ℕ
e5 c = e4 c ++ decimal c.number-answer.result

abbrev e6 : After-number-answer → List ℕ
e6 c = e5 c ++ space

abbrev e7 : After-number-answer → List ℕ
e7 c = e6 c ++ decimal (revision c)

abbrev e8 : After-number-answer → List ℕ
e8 c = e7 c ++ newline

-- all of it is the line
whole : (c : After-number-answer) → e8 c ≡ line_of (count c) (start c).args.mark c.number-answer.result (revision c)
unfolding line_of
whole c = ap (λ t. decimal (count c) ++ space ++ t ++ space ++ decimal c.number-answer.result ++ space ++ decimal (revision c) ++ newline) c.text-text.ensures

-- there is room for all of it, and so for each part
room8 : (c : After-number-answer) → (start c).args.at + length (e8 c) ≤ length (start c).args.out.now
room8 c =
    omega (arith, ap length (whole c), line-long (count c) (start c).args.mark c.number-answer.result (revision c) (omega arith) (omega arith) (omega arith))

room7 : (c : After-number-answer) → (start c).args.at + length (e7 c) ≤ length (start c).args.out.now
room7 c = room-left (e7 c) (newline) _ _ (room8 c)

room6 : (c : After-number-answer) → (start c).args.at + length (e6 c) ≤ length (start c).args.out.now
room6 c = room-left (e6 c) (decimal (revision c)) _ _ (room7 c)

room5 : (c : After-number-answer) → (start c).args.at + length (e5 c) ≤ length (start c).args.out.now
room5 c = room-left (e5 c) (space) _ _ (room6 c)

room4 : (c : After-number-answer) → (start c).args.at + length (e4 c) ≤ length (start c).args.out.now
room4 c = room-left (e4 c) (decimal c.number-answer.result) _ _ (room5 c)

room3 : (c : After-number-answer) → (start c).args.at + length (e3 c) ≤ length (start c).args.out.now
room3 c = room-left (e3 c) (space) _ _ (room4 c)

room2 : (c : After-number-answer) → (start c).args.at + length (e2 c) ≤ length (start c).args.out.now
room2 c = room-left (e2 c) c.text-text.result _ _ (room3 c)

room1 : (c : After-number-answer) → (start c).args.at + length (e1 c) ≤ length (start c).args.out.now
room1 c = room-left (e1 c) (space) _ _ (room2 c)

-- where the puts began, from after each of them
abbrev from1 : After-put_decimal-at → After-number-answer
from1 c = (record { before = c.before.before; type_inv = record { out = c.slice_known-1.given } })

abbrev from2 : After-put_bytes-at → After-number-answer
from2 c = from1 c.before.before.before.before.before.before

abbrev from3 : After-put_bytes-at-2 → After-number-answer
from3 c = from2 c.before.before.before.before.before

abbrev from4 : After-put_bytes-at-3 → After-number-answer
from4 c = from3 c.before.before.before.before.before.before

abbrev from5 : After-put_decimal-at-2 → After-number-answer
from5 c = from4 c.before.before.before.before

abbrev from6 : After-put_bytes-at-4 → After-number-answer
from6 c = from5 c.before.before.before.before.before.before

abbrev from7 : After-put_decimal-at-3 → After-number-answer
from7 c = from6 c.before.before.before.before

abbrev from8 : After-put_bytes → After-number-answer
from8 c = from7 c.before.before.before.before.before.before

-- what was written after each put
wrote1 : (c : After-put_decimal-at) → Put (e1 (from1 c)) (start (from1 c)).args.at (start (from1 c)).args.out.now c.put_decimal-at.new.out c.put_decimal-at.result
wrote1 c = c.put_decimal-at.ensures

wrote2 : (c : After-put_bytes-at) → Put (e2 (from2 c)) (start (from2 c)).args.at (start (from2 c)).args.out.now c.put_bytes-at.new.buffer c.put_bytes-at.result
wrote2 c = then _ (wrote1 c.before.before.before.before.before.before) (room2 (from2 c)) c.put_bytes-at.ensures

wrote3 : (c : After-put_bytes-at-2) → Put (e3 (from3 c)) (start (from3 c)).args.at (start (from3 c)).args.out.now c.put_bytes-at-2.new.buffer c.put_bytes-at-2.result
wrote3 c = then _ (wrote2 c.before.before.before.before.before) (room3 (from3 c)) c.put_bytes-at-2.ensures

wrote4 : (c : After-put_bytes-at-3) → Put (e4 (from4 c)) (start (from4 c)).args.at (start (from4 c)).args.out.now c.put_bytes-at-3.new.buffer c.put_bytes-at-3.result
wrote4 c = then _ (wrote3 c.before.before.before.before.before.before) (room4 (from4 c)) c.put_bytes-at-3.ensures

wrote5 : (c : After-put_decimal-at-2) → Put (e5 (from5 c)) (start (from5 c)).args.at (start (from5 c)).args.out.now c.put_decimal-at-2.new.out c.put_decimal-at-2.result
wrote5 c = then _ (wrote4 c.before.before.before.before) (room5 (from5 c)) c.put_decimal-at-2.ensures

wrote6 : (c : After-put_bytes-at-4) → Put (e6 (from6 c)) (start (from6 c)).args.at (start (from6 c)).args.out.now c.put_bytes-at-4.new.buffer c.put_bytes-at-4.result
wrote6 c = then _ (wrote5 c.before.before.before.before.before.before) (room6 (from6 c)) c.put_bytes-at-4.ensures

wrote7 : (c : After-put_decimal-at-3) → Put (e7 (from7 c)) (start (from7 c)).args.at (start (from7 c)).args.out.now c.put_decimal-at-3.new.out c.put_decimal-at-3.result
wrote7 c = then _ (wrote6 c.before.before.before.before) (room7 (from7 c)) c.put_decimal-at-3.ensures

wrote8 : (c : After-put_bytes) → Put (e8 (from8 c)) (start (from8 c)).args.at (start (from8 c)).args.out.now c.put_bytes.new.buffer c.put_bytes.result
wrote8 c = then _ (wrote7 c.before.before.before.before.before.before) (room8 (from8 c)) c.put_bytes.ensures

pub put_decimal-at-requires : goal.put_decimal-at-requires
put_decimal-at-requires c = room1 (record { before = c.before; type_inv = record { out = c.slice_known-1.given } })

pub put_bytes-at-requires : goal.put_bytes-at-requires
put_bytes-at-requires c = room _ (wrote1 c.before.before.before.before.before) (room2 (from1 c.before.before.before.before.before))

pub put_bytes-at-requires-2 : goal.put_bytes-at-requires-2
put_bytes-at-requires-2 c = room _ (wrote2 c.before.before.before.before) (room3 (from2 c.before.before.before.before))

pub put_bytes-at-requires-3 : goal.put_bytes-at-requires-3
put_bytes-at-requires-3 c = room _ (wrote3 c.before.before.before.before.before) (room4 (from3 c.before.before.before.before.before))

pub put_decimal-at-requires-2 : goal.put_decimal-at-requires-2
put_decimal-at-requires-2 c = room _ (wrote4 c.before.before.before) (room5 (from4 c.before.before.before))

pub put_bytes-at-requires-4 : goal.put_bytes-at-requires-4
put_bytes-at-requires-4 c = room _ (wrote5 c.before.before.before.before.before) (room6 (from5 c.before.before.before.before.before))

pub put_decimal-at-requires-3 : goal.put_decimal-at-requires-3
put_decimal-at-requires-3 c = room _ (wrote6 c.before.before.before) (room7 (from6 c.before.before.before))

pub put_bytes-requires : goal.put_bytes-requires
put_bytes-requires c = room _ (wrote7 c.before.before.before.before.before) (room8 (from7 c.before.before.before.before.before))

pub shape_of-out : goal.shape_of-out
shape_of-out c = ap length (wrote8 c.before.before.before).bytes ∙ length-put _ _ _ (room8 (from8 c.before.before.before))

pub returns : goal.returns
returns c =
    let a = from8 c.before.before.before in
    put_same (whole a ∙ ap (λ n. line_of (count a) (start a).args.mark n (revision a)) a.number-answer.ensures) (wrote8 c.before.before.before)
