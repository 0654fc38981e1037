-- `reader::reader::Reader::fill` meets its contract. Assumes nothing.
use Rattle.std.proofs.Common.{arith, rules}
use Rattle.format.specs.List.{vec-long}
use Rattle.format.specs.ReadsMore.{filled_next, padded_filled}
use Rattle.reader.proofs.reader.Reader.fill.Goals as goal

pub loop-i-preserved : goal.loop-i-preserved
loop-i-preserved g c = filled_next g.T.Decode.form g.T.Blank.blank _ _ _ _ _ _ _ c.loop-i.invariant (omega (arith, c.requires.few)) (search rules)

pub returns : goal.returns
returns g c =
    let long = vec-long g.T.Decode.form g.T.Blank.blank c.args.count in
    padded_filled g.T.Decode.form g.T.Blank.blank c.args.count long _ _ _ _ _ c.loop-i.invariant c.requires.blank (omega arith)
