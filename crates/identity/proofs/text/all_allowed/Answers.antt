-- `identity::text::all_allowed` meets its contract: where every byte is an ASCII character that the rule allows, so is the text. Assumes nothing.
use mathlib.Core.Path.{◌≡◌, sym}
use mathlib.Core.Bool.{true}
use Rattle.identity.specs.Utf8.{octets, within}
use Rattle.identity.specs.Text.{every, allows, first_ascii, last_ascii}
use Rattle.identity.specs.TextLaws.{ascii-chars, ascii-allowed}
use Rattle.identity.proofs.text.all_allowed.Goals as goal

pub returns-then-all_within : goal.returns-then-all_within
returns-then-all_within c =
    let s = c.args.bytes.now in
    let rule = c.args.rule in
    let e : every (within (octets (first_ascii rule) (last_ascii rule))) s ≡ true =
    rw (c.all_within.ensures, c.first_ascii.ensures, c.last_ascii.ensures) at c.if-all_within.true in
    sym (ascii-chars (allows rule) (octets (first_ascii rule) (last_ascii rule)) (ascii-allowed rule) s e)
