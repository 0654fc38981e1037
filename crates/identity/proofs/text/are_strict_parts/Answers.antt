-- `identity::text::are_strict_parts` meets its contract: what was read so far is in the part, and the answer is that part's for the bytes that follow.
-- Assumes nothing.
use Rattle.std.proofs.Common.{◌≡◌, ◌<◌, length, get_or, drop_of_length-le, sym, ap, ◌∙◌, arith}
use Rattle.identity.specs.Text.{next_part}
use Rattle.identity.specs.TextLaws.{parts_from, strict-parts, parts_more, next-run}
use Rattle.identity.proofs.text.are_strict_parts.Goals as goal

pub loop-byte-init : goal.loop-byte-init
loop-byte-init c = record { run = omega arith; parts = strict-parts c.args.bytes.now }

pub loop-byte-preserved : goal.loop-byte-preserved
loop-byte-preserved c =
    let i = c.loop-byte.byte-index in
    let p = c.loop-byte.part in
    let s = c.args.bytes.now in
    let h : i < length s = omega arith in
    let n : c.next_part-part.result ≡ next_part p (get_or s i 0) = c.next_part-part.ensures in
    record {
      run = rw n (omega (arith, next-run p (get_or s i 0)));
      parts = c.loop-byte.invariant.parts ∙ rw n (parts_more p s i h);
    }

pub returns : goal.returns
unfolding parts_from
returns c =
    let s = c.args.bytes.now in
    sym (c.loop-byte.invariant.parts ∙ ap (parts_from c.loop-byte.part) (drop_of_length-le s {i = c.loop-byte.byte-index} (omega arith)))
