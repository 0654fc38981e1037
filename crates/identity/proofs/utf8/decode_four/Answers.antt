-- `identity::utf8::decode_four` meets its contract. Assumes nothing.
use mathlib.Core.Path.{sym, ◌∙◌}
use Rattle.identity.specs.Utf8Laws.{led-four}
use Rattle.identity.proofs.utf8.decode_four.Goals as goal

pub returns-then-low-second : goal.returns-then-low-second
returns-then-low-second c =
    let b = c.byte_at-second.ensures in
    let e = c.byte_at-third.ensures in
    let f = c.byte_at-fourth.ensures in
    sym (led-four c.args.low c.args.high c.requires c.args.bytes.now ∙ rw (rw (c.is_tail.ensures, c.is_tail-2.ensures, b, e, f) at c.if-low-second.true, c.byte_at-lead.ensures, b, e, f))

pub returns-else-low-second : goal.returns-else-low-second
returns-else-low-second c =
    let b = c.byte_at-second.ensures in
    let e = c.byte_at-third.ensures in
    let f = c.byte_at-fourth.ensures in
    sym (led-four c.args.low c.args.high c.requires c.args.bytes.now ∙ rw (rw (c.is_tail.ensures, c.is_tail-2.ensures, b, e, f) at c.if-low-second.false))
