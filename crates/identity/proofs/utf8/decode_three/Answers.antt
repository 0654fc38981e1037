-- `identity::utf8::decode_three` meets its contract. Assumes nothing.
use mathlib.Core.Path.{sym, ◌∙◌}
use Rattle.identity.specs.Utf8Laws.{led-three}
use Rattle.identity.proofs.utf8.decode_three.Goals as goal

pub returns-then-low-second : goal.returns-then-low-second
returns-then-low-second c =
    let b = c.byte_at-second.ensures in
    let e = c.byte_at-third.ensures in
    sym (led-three c.args.low c.args.high c.requires c.args.bytes.now ∙ rw (rw (c.is_tail.ensures, b, e) at c.if-low-second.true, c.byte_at-lead.ensures, b, e))

pub returns-else-low-second : goal.returns-else-low-second
returns-else-low-second c =
    let b = c.byte_at-second.ensures in
    let e = c.byte_at-third.ensures in
    sym (led-three c.args.low c.args.high c.requires c.args.bytes.now ∙ rw (rw (c.is_tail.ensures, b, e) at c.if-low-second.false))
