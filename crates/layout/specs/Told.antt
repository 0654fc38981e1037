-- What a `Reader` says: its answer and the bytes that it has left, as a reading of a form.
-- Assumes nothing.
use Rattle.std.specs.Prelude.{ℕ, List, length, Result, Ok, Err}
use Rattle.std.proofs.Common.{Bor}
use Rattle.format.specs.Res.{Res}
use Rattle.format.specs.Res.Res.{ok, no}
use Rattle.format.specs.Reads.{Reading}
use Rattle.identity.specs.Answer.{number_of_refusal}
use Rattle.identity.specs.declared.answer.Refusal.{Refusal}

-- the value and the rest of the bytes, or the number of the refusal
abbrev pub told : {A : Type 0} → Result A Refusal → List ℕ → Reading A
told (Ok a) rest = Reading.read a rest
told (Err e) rest = Reading.refused (number_of_refusal e)

-- the same of a value that is read into a place, by itself and beside one that is given back
abbrev pub told_at : {A : Type 0} → Result (Unit {0}) Refusal → A → List ℕ → Reading A
told_at (Ok nothing) a rest = Reading.read a rest
told_at (Err e) a rest = Reading.refused (number_of_refusal e)

abbrev pub told_beside : {A B : Type 0} → Result A Refusal → B → List ℕ → Reading (A × B)
told_beside (Ok a) b rest = Reading.read (a, b) rest
told_beside (Err e) b rest = Reading.refused (number_of_refusal e)

-- the same of bytes that are lent: by themselves, and with their number before them
abbrev pub told_bytes : Result (Bor (List ℕ)) Refusal → List ℕ → Reading (List ℕ)
told_bytes (Ok s) rest = Reading.read s.now rest
told_bytes (Err e) rest = Reading.refused (number_of_refusal e)

abbrev pub told_sized : Result (Bor (List ℕ)) Refusal → List ℕ → Reading (ℕ × List ℕ)
told_sized (Ok s) rest = Reading.read (length s.now, s.now) rest
told_sized (Err e) rest = Reading.refused (number_of_refusal e)

-- the answer of a reading of n bytes, to the last: the value and their number, or the number of the
-- refusal
abbrev pub told_whole : {A : Type 0} → Result A Refusal → ℕ → Res A
told_whole (Ok a) n = ok a n
told_whole (Err e) n = no (number_of_refusal e)

abbrev pub told_whole_at : {A : Type 0} → Result (Unit {0}) Refusal → A → ℕ → Res A
told_whole_at (Ok nothing) a n = ok a n
told_whole_at (Err e) a n = no (number_of_refusal e)
