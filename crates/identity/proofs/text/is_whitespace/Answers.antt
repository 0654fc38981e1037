-- `identity::text::is_whitespace` meets its contract: the list has nothing in the three ranges that the tests pick. Assumes nothing.
use mathlib.Core.Path.{◌≡◌, refl, sym}
use mathlib.Core.Bool.{true}
use Prim.Native.Nat.{◌+◌}
use native.Mathlib.Omega.{arith}
use borrow.Author.Tests.{lt-ltb}
use Rattle.identity.specs.Text.{every, white_space}
use Rattle.identity.specs.TextLaws.{between, none_between}
use Rattle.identity.proofs.text.is_whitespace.Goals as goal

pub returns-then-code : goal.returns-then-code
unfolding every
returns-then-code c = sym (none_between 0x20 0x85 _ white_space refl c.if-code.true)

pub returns-then-code-2 : goal.returns-then-code-2
unfolding every
returns-then-code-2 c = sym (none_between 0xA0 0x1680 _ white_space refl c.if-code-2.true)

pub returns-then-code-gt12288 : goal.returns-then-code-gt12288
unfolding every
returns-then-code-gt12288 c =
    let code = c.args.code in
    let h : between 0x3000 (code + 1) code ≡ true = rw (lt-ltb 0x3000 code c.if-code-gt12288.true, lt-ltb code (code + 1) (omega arith)) in
    sym (none_between 0x3000 (code + 1) code white_space refl h)

pub returns : goal.returns
returns c = c.contains.ensures
