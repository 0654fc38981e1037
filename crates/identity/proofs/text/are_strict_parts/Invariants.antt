-- `identity::text::are_strict_parts` meets its contract: what was read so far is in the part, and the answer is that part's for the bytes that follow.
-- Assumes nothing.
use Rattle.std.proofs.Common.{◌≡◌, ◌≤◌, drop}
use Rattle.identity.specs.Text.{split, are_strict_parts}
use Rattle.identity.specs.TextLaws.{parts_from}
use Rattle.identity.proofs.text.are_strict_parts.Given as goal

abbrev pub invariant-loop-byte : goal.invariant-loop-byte
invariant-loop-byte l = record {
  run : l.part.run ≤ l.byte-index;
  parts : are_strict_parts (split l.bytes) ≡ parts_from l.part (drop l.byte-index l.bytes);
}
