-- `identity::utf8::decode_two` meets its contract. Assumes nothing.
use mathlib.Core.Path.{sym, ◌∙◌}
use Rattle.identity.specs.Utf8Laws.{led-two}
use Rattle.identity.proofs.utf8.decode_two.Goals as goal

pub returns-then-is_tail : goal.returns-then-is_tail
returns-then-is_tail c =
    let b = c.byte_at-second.ensures in
    sym (led-two c.args.bytes.now ∙ rw (rw (c.is_tail.ensures, b) at c.if-is_tail.true, c.byte_at-lead.ensures, b))

pub returns-else-is_tail : goal.returns-else-is_tail
returns-else-is_tail c =
    let b = c.byte_at-second.ensures in
    sym (led-two c.args.bytes.now ∙ rw (rw (c.is_tail.ensures, b) at c.if-is_tail.false))
