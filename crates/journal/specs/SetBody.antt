-- The sets and the nodes of an observation, as they are laid into the lent arrays: document 01,
-- section "Replay program", OB. What the readers of OB leave there.
-- Assumes nothing.
use Rattle.std.specs.Prelude.{ℕ, ◌+◌, ◌*◌, ◌≤◌, ◌≡◌, length, take, drop, Result, Ok, Err, IfOk, IfErr}
use mathlib.Core.List.{List, [], flatten, map}
use Rattle.identity.specs.Answer.{number_of_refusal}
use Rattle.identity.specs.declared.answer.Refusal.{Refusal}
use Rattle.format.specs.List.{vec}
use Rattle.format.specs.Num.{uint}
use Rattle.format.specs.Reads.{Reading, reads}
use Rattle.journal.specs.Records.{node_ids}

-- so many ids that stand from a place on, as a reading; or the refusal
abbrev pub told_ids : Result ℕ Refusal → ℕ → List ℕ → List ℕ → Reading (List ℕ)
told_ids (Ok count) from ids rest = Reading.read (take count (drop from ids)) rest
told_ids (Err e) from ids rest = Reading.refused (number_of_refusal e)

-- so many ids stand from a place on; those before it are as they were
pub record LaidIds (bs rest : List ℕ) (from count : ℕ) (old new : List ℕ) : Type 0 where
  pub front : take from new ≡ take from old
  pub is : reads (vec (uint 8) 0 count) bs ≡ Reading.read (take count (drop from new)) rest
  pub few : 8 * count + length rest ≡ length bs
  pub long : length new ≡ length old

-- a set, from a place on; an id takes 8 bytes
pub record LaidSet (r : Result ℕ Refusal) (bs rest : List ℕ) (from : ℕ) (old new : List ℕ) : Type 0 where
  pub front : take from new ≡ take from old
  pub is : told_ids r from new rest ≡ reads node_ids bs
  pub few : IfOk r (λ count. 8 * count + length rest ≤ length bs)

-- so many sets that were read, one after another: their ids, so many as are held, and their counts
pub record SetsSo (bs rest : List ℕ) (count held : ℕ) (ids counts : List ℕ) : Type 0 where
  pub sets : List (List ℕ)
  pub is : reads (vec node_ids [] count) bs ≡ Reading.read sets rest
  pub joined : flatten sets ≡ take held ids
  pub counted : map length sets ≡ take count counts
  pub few : 8 * held + length rest ≤ length bs

-- the same, or the refusal
abbrev pub LaidSets : Result ℕ Refusal → (bs rest : List ℕ) → ℕ → (ids counts : List ℕ) → Type 0
LaidSets r bs rest count ids counts =
    IfOk r (λ held. SetsSo bs rest count held ids counts) × IfErr r (λ e. Reading.refused (number_of_refusal e) ≡ reads (vec node_ids [] count) bs)
