-- `journal::line::put_decimal` meets its contract: what `io::decimal` gives is the decimal text.
-- Assumes nothing.
use mathlib.Core.Path.{◌≡◌, ◌∙◌}
use native.Mathlib.Omega.{arith}
use lib.ListN.{take, length-take}
use mathlib.Core.List.{List}
use Prim.Native.Nat.{ℕ}
use Rattle.io.specs.Digits.{last_digits, IsDigitCount}
use Rattle.journal.specs.Replay.{decimal}
use Rattle.journal.specs.ReplayLaws.{decimal-is}
use Rattle.journal.specs.TextLaws.{put_same}
use Rattle.journal.proofs.line.put_decimal.Goals as goal

-- the digits are those of the number
is : (digits : List ℕ) (n k : ℕ) → IsDigitCount 10 1 n k → take k digits ≡ last_digits 10 k n → take k digits ≡ decimal n
is digits n k count e = e ∙ decimal-is n k count

pub slice_bounds-put_bytes-end : goal.slice_bounds-put_bytes-end
slice_bounds-put_bytes-end c = simp length-take (omega arith)

pub put_bytes-requires : goal.put_bytes-requires
put_bytes-requires c = rw (is _ _ _ c.decimal-count.ensures.len c.decimal-count.ensures.digits) c.requires

pub returns : goal.returns
returns c = put_same (is _ _ _ c.decimal-count.ensures.len c.decimal-count.ensures.digits) c.put_bytes.ensures
