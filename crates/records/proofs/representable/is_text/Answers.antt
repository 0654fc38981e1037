-- `records::representable::is_text` meets its contract: bytes that are blank are zeros. Assumes nothing.
use Rattle.std.proofs.Common.{ℕ, ◌≡◌, ◌-◌, ◌∙◌, ap, sym, take, drop, length, take_all, replicate, arith, length-drop}
use Rattle.identity.specs.Text.{every}
use Rattle.records.specs.Equality.{eq_bytes}
use Rattle.records.specs.Representable.{is_zero}
use Rattle.records.specs.ZeroLaws.{zeros_same}
use Rattle.records.proofs.representable.is_text.Goals as goal

pub returns : goal.returns
returns c =
    let bytes = c.args.bytes.now in
    let past = drop c.args.len bytes in
    let whole : take (length bytes - c.args.len) past ≡ past = take_all _ past (omega (arith, length-drop {A = ℕ})) in
    let filler : c.are_blank-filler.result ≡ every is_zero past =
    c.are_blank-filler.ensures ∙ (ap (λ s. eq_bytes s (replicate (length s) 0)) whole ∙ sym (zeros_same past)) in
    rw (c.is_utf8-utf8.ensures, filler)
