-- `writer::writer::Writer::all` meets its contract: what is written so far are those passed. Assumes nothing.
use Rattle.std.specs.Prelude.{take, flat_map}
use Rattle.writer.specs.Writes.{Wrote}
use Rattle.writer.proofs.writer.Writer.all.Given as goal

abbrev pub invariant-loop-value : goal.invariant-loop-value
invariant-loop-value g l = Wrote (flat_map g.T.Encode.bytes (take l.value-index l.values)) l.initial.self l.self
