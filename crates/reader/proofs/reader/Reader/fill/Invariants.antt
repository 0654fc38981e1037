-- `reader::reader::Reader::fill` meets its contract. Assumes nothing.
use Rattle.format.specs.ReadsMore.{Filled}
use Rattle.reader.proofs.reader.Reader.fill.Given as goal

abbrev pub invariant-loop-i : goal.invariant-loop-i
invariant-loop-i g l = Filled g.T.Decode.form g.T.Blank.blank l.i l.initial.self.bytes.now l.self.bytes.now l.places l.initial.places
