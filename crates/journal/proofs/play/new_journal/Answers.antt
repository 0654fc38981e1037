-- `journal::play::new_journal` meets its contract. Assumes nothing.
use mathlib.Core.Path.{ap}
use mathlib.Core.Bool.{false}
use Rattle.records.specs.declared.records.VoterSlotTable.{VoterSlotTable}
use Rattle.journal.specs.declared.play.Journal.{Journal}
use Rattle.journal.proofs.play.new_journal.Goals as goal

-- a new journal, but for its table
abbrev journal_with : VoterSlotTable → Journal
journal_with t = record { stands = false; count = 0; ended = false; table = t }

pub returns : goal.returns
returns c = ap journal_with c.default-table.ensures
