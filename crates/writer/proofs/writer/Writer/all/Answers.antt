-- `writer::writer::Writer::all` meets its contract. Assumes nothing.
use Rattle.writer.specs.PutLaws.{all_room, all_more}
use Rattle.writer.proofs.writer.Writer.all.Goals as goal

pub put-requires-clause-room : goal.put-requires-clause-room
put-requires-clause-room g c =
    all_room g.T.Encode.bytes c.args.values.now _ _ c.args.self.now c.loop-value.self c.requires.room c.loop-value-test.true c.value-item.is c.loop-value.invariant

pub loop-value-preserved : goal.loop-value-preserved
loop-value-preserved g c =
    all_more g.T.Encode.bytes c.args.values.now _ _ c.args.self.now c.loop-value.self c.requires.room c.loop-value-test.true c.value-item.is c.loop-value.invariant c.put.new.output c.put.ensures
