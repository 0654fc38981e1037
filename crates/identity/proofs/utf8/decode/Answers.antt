-- `identity::utf8::decode` meets its contract: each arm is the alternative of the grammar at its place, and two arms are the gaps. Assumes nothing.
use mathlib.Core.Path.{refl, sym, ◌∙◌}
use native.Mathlib.Omega.{arith}
use Rattle.identity.specs.Utf8Laws.{char-none, char-one, char-led, char-gap, char-past}
use Rattle.identity.proofs.utf8.decode.Goals as goal

pub returns-then-bytes-eq0 : goal.returns-then-bytes-eq0
returns-then-bytes-eq0 c = sym (char-none c.args.bytes.now c.if-bytes-eq0.true)

pub returns-in-224 : goal.returns-in-224
returns-in-224 c = c.decode_three.ensures ∙ sym (char-led 2 _ _ refl refl refl _ (omega arith) (omega arith) (omega arith))

pub returns-in-237 : goal.returns-in-237
returns-in-237 c = c.decode_three-in-237.ensures ∙ sym (char-led 4 _ _ refl refl refl _ (omega arith) (omega arith) (omega arith))

pub returns-in-240 : goal.returns-in-240
returns-in-240 c = c.decode_four.ensures ∙ sym (char-led 6 _ _ refl refl refl _ (omega arith) (omega arith) (omega arith))

pub returns-in-244 : goal.returns-in-244
returns-in-244 c = c.decode_four-in-244.ensures ∙ sym (char-led 8 _ _ refl refl refl _ (omega arith) (omega arith) (omega arith))

pub returns-in-0-to-127 : goal.returns-in-0-to-127
returns-in-0-to-127 c = sym (char-one c.args.bytes.now (omega arith) (omega arith))

pub returns-in-194-to-223 : goal.returns-in-194-to-223
returns-in-194-to-223 c = c.decode_two.ensures ∙ sym (char-led 1 _ _ refl refl refl _ (omega arith) (omega arith) (omega arith))

pub returns-in-225-to-236 : goal.returns-in-225-to-236
returns-in-225-to-236 c = c.decode_three-in-225-to-236.ensures ∙ sym (char-led 3 _ _ refl refl refl _ (omega arith) (omega arith) (omega arith))

pub returns-in-238-to-239 : goal.returns-in-238-to-239
returns-in-238-to-239 c = c.decode_three-in-238-to-239.ensures ∙ sym (char-led 5 _ _ refl refl refl _ (omega arith) (omega arith) (omega arith))

pub returns-in-241-to-243 : goal.returns-in-241-to-243
returns-in-241-to-243 c = c.decode_four-in-241-to-243.ensures ∙ sym (char-led 7 _ _ refl refl refl _ (omega arith) (omega arith) (omega arith))

pub returns-in_default : goal.returns-in_default
returns-in_default c = sym (char-gap 1 0x80 0xC1 refl refl refl _ (omega arith) (omega arith) (omega arith))

pub returns-in_default-2 : goal.returns-in_default-2
returns-in_default-2 c = sym (char-past _ (omega arith) (omega arith))
