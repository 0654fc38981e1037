-- What a row of the table of cases says, and how all rows are computed at once. Cases has the table
-- and its theorem.
-- For document 01, "The contracts": "rows of one table that a sole theorem covers".
-- Assumes nothing.
use Rattle.std.specs.Prelude.{ℕ, ◌≡◌, refl, Bool, true, false, not, ◌&&◌, List, [], ◌∷◌, T, eqb}
use Rattle.std.proofs.Common.{eqb→eq}
use Rattle.identity.specs.Answer.{number_of, Answer}
use Rattle.records.specs.Equality.{same_voter_slot_table}
use Rattle.records.specs.declared.records.VoterSlotTable.{VoterSlotTable}

-- What a row says: two numbers are equal; a test answers yes, or no; a call gives a number and
-- leaves a table, every field of it.
pub data Row : Type 0 where
  is_number : ℕ → ℕ → Row
  is-yes : Bool → Row
  is-no : Bool → Row
  is-outcome : Answer × VoterSlotTable → ℕ → VoterSlotTable → Row

-- the claim of one row
abbrev pub Holds : Row → Type 0
Holds (is_number found expected) = found ≡ expected
Holds (is-yes answer) = answer ≡ true
Holds (is-no answer) = answer ≡ false
Holds (is-outcome found number table) = (number_of found.0 ≡ number) × (same_voter_slot_table found.1 table ≡ true)

-- of all of them
abbrev pub EveryRow : List Row → Type 0
EveryRow [] = Unit {0}
EveryRow (r ∷ rs) = Holds r × EveryRow rs

-- ---- the same as a test, which is computed

-- of one row
abbrev pub holds : Row → Bool
holds (is_number found expected) = eqb found expected
holds (is-yes answer) = answer
holds (is-no answer) = not answer
holds (is-outcome found number table) = eqb (number_of found.0) number && same_voter_slot_table found.1 table

-- of all of them
abbrev pub all : List Row → Bool
all [] = true
all (r ∷ rs) = holds r && all rs

both : (a b : Bool) → T (a && b) → T a × T b
both true b h = (tt, h)
both false b h = absurd h

says-yes : (a : Bool) → T a → a ≡ true
says-yes true h = refl
says-yes false h = absurd h

row : (r : Row) → T (holds r) → Holds r
row (is_number found expected) h = eqb→eq found expected h
row (is-yes answer) h = says-yes answer h
row (is-no true) h = absurd h
row (is-no false) h = refl
row (is-outcome found number table) h =
    let p = both (eqb (number_of found.0) number) (same_voter_slot_table found.1 table) h in
    (eqb→eq (number_of found.0) number p.0, says-yes (same_voter_slot_table found.1 table) p.1)

pub every_row : (rs : List Row) → T (all rs) → EveryRow rs
every_row [] h = tt
every_row (r ∷ rs) h = let p = both (holds r) (all rs) h in (row r p.0, every_row rs p.1)
