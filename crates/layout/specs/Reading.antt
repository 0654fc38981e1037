-- What an answer says of a reading or a writing, as a pair that has its value or buffer beside it:
-- "For every case of an enum answer, a definition gives this paper's number and values" (document
-- 01). `report` is of the answer alone, and `outcome` puts both together, with the blank where it
-- is a refusal. Told.antt says the same of a `Reader`'s answers, which have their value in them.
-- Assumes nothing.
use Rattle.std.specs.Prelude.{ℕ, Result, Ok, Err}
use Rattle.format.specs.Res.{Res}
use Rattle.format.specs.Res.Res.{ok, no}
use Rattle.identity.specs.Answer.{number_of_refusal}
use Rattle.identity.specs.declared.answer.Refusal.{Refusal}

-- how far was written, or the number of the refusal
abbrev pub report : Result ℕ Refusal → Res (Unit {0})
report (Ok n) = ok tt n
report (Err e) = no (number_of_refusal e)

-- the report of a reading, and its value, or the blank with a refusal; of a writing, and the
-- buffer, unchanged with a refusal
unfoldable pub outcome : {A : Type 0} → A → Res A → Res (Unit {0}) × A
outcome blank (ok a n) = (ok tt n, a)
outcome blank (no k) = (no k, blank)
