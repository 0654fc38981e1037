-- `layout::put::put_be` meets its contract: from the last byte to the first, what is left to write stands before what is written. Assumes nothing.
use Rattle.std.specs.Prelude.{ℕ, ◌+◌, ◌-◌, ◌%◌, ◌≡◌, List, ◌++◌, drop}
use Rattle.std.proofs.Common.{arith, add-zero, sym, ap, ◌∙◌, length-set}
use Rattle.std.proofs.Math.Seq.{take-set-le}
use Rattle.format.specs.Num.{be, length-be, uint, uint-long, raw}
use Rattle.format.specs.Combinators.{held, via}
use Rattle.format.specs.Put.{be-turn, be-put}
use Rattle.layout.proofs.put.put_be.Goals as goal

pub overflow_add-end : goal.overflow_add-end
overflow_add-end c = omega (arith, uint-long c.args.width c.args.value, c.requires)

pub overflow_add-buffer : goal.overflow_add-buffer
overflow_add-buffer c = omega (arith, uint-long c.args.width c.args.value, c.requires)

pub bounds-buffer-at : goal.bounds-buffer-at
bounds-buffer-at c = omega (arith, uint-long c.args.width c.args.value, c.requires, c.loop-k.invariant.3)

pub loop-k-preserved : goal.loop-k-preserved
loop-k-preserved c =
    let l = c.loop-k in
    let a = c.args in
    let j = a.at + (l.k - 1) in (
      omega arith,
      be-turn l.k (l.k - 1) l.rest a.at l.buffer (omega arith) (omega (arith, uint-long a.width a.value, c.requires, l.invariant.3)) ∙ l.invariant.1,
      take-set-le a.at l.buffer j (l.rest % 256) (omega arith) ∙ l.invariant.2,
      length-set l.buffer j (l.rest % 256) ∙ l.invariant.3,
    )

-- no byte is left to write
done : (k y at : ℕ) (buf : List ℕ) → k ≡ 0 → drop at buf ≡ be k y ++ drop (at + k) buf
unfolding be
done k y at buf z = sym (ap (λ n. be n y ++ drop (at + n) buf) z ∙ ap (λ n. drop n buf) (add-zero at))

pub returns : goal.returns
unfolding uint held via raw
returns c =
    let l = c.loop-k in
    let a = c.args in
    let z : l.k ≡ 0 = omega arith in
    record {
      next = ap (λ n. a.at + n) (sym (length-be a.width a.value));
      bytes = be-put a.width a.value a.at a.buffer.now l.buffer l.invariant.2 (done l.k l.rest a.at l.buffer z ∙ l.invariant.1);
    }
