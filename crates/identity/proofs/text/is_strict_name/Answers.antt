-- `identity::text::is_strict_name` meets its contract: each test is a part of `is_strict_name`. Assumes nothing.
use Prim.Native.Nat.{◌≤◌, ◌-◌}
use mathlib.Core.Path.{◌≡◌, sym, ◌∙◌}
use mathlib.Core.Bool.{true, false, and-false}
use native.Mathlib.Omega.{arith}
use lib.ListN.{length, take, drop, length-drop}
use lib.Seq.{take_all}
use borrow.Author.Tests.{le-leb, lt-leb, not-true, not-false}
use Rattle.identity.specs.Text.{scheme, starts_with, is_strict_name}
use Rattle.identity.specs.TextLaws.{starts_as, starts-length}
use Rattle.identity.proofs.text.is_strict_name.Goals as goal

pub returns-then-bytes-gt-MAX_VOTER_SPIFFE_ID_BYTES : goal.returns-then-bytes-gt-MAX_VOTER_SPIFFE_ID_BYTES
unfolding is_strict_name
returns-then-bytes-gt-MAX_VOTER_SPIFFE_ID_BYTES c = rw (lt-leb _ _ c.if-bytes-gt-MAX_VOTER_SPIFFE_ID_BYTES.true)

pub returns-then-not-starts_with : goal.returns-then-not-starts_with
unfolding is_strict_name
returns-then-not-starts_with c =
    let s = c.args.bytes.now in
    let n : starts_with s scheme ≡ false = sym (starts_as s scheme) ∙ sym c.starts_with.ensures.value ∙ not-true _ c.if-not-starts_with.true-raw in
    rw (n, and-false)

pub slice_bounds-are_strict_parts-count : goal.slice_bounds-are_strict_parts-count
slice_bounds-are_strict_parts-count c = starts-length _ scheme (sym (starts_as c.args.bytes.now scheme) ∙ sym c.starts_with.ensures.value ∙ not-false _ c.if-not-starts_with.false-raw)

pub slice_bounds-are_strict_parts-start : goal.slice_bounds-are_strict_parts-start
slice_bounds-are_strict_parts-start c = slice_bounds-are_strict_parts-count c

pub returns : goal.returns
unfolding is_strict_name
returns c =
    let s = c.args.bytes.now in
    let y : starts_with s scheme ≡ true = sym (starts_as s scheme) ∙ sym c.starts_with.ensures.value ∙ not-false _ c.if-not-starts_with.false-raw in
    let l : length s ≤ 2048 = omega arith in
    let d : take (length s - 9) (drop 9 s) ≡ drop 9 s = take_all (length s - 9) (drop 9 s) (omega (arith, length-drop 9 s)) in
    c.are_strict_parts.ensures ∙ rw (d, le-leb (length s) 2048 l, y)
