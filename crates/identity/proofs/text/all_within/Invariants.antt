-- `identity::text::all_within` meets its contract: the answer so far is that of the bytes passed. Assumes nothing.
use Rattle.std.proofs.Common.{◌≡◌, take}
use Rattle.identity.specs.Text.{every}
use Rattle.identity.specs.Utf8.{octets, within}
use Rattle.identity.proofs.text.all_within.Given as goal

abbrev pub invariant-loop-byte : goal.invariant-loop-byte
invariant-loop-byte l = l.all ≡ every (within (octets l.low l.high)) (take l.byte-index l.bytes)
