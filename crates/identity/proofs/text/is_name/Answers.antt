-- `identity::text::is_name` meets its contract: each test is one of the definition, in its order. Assumes nothing.
use mathlib.Core.Path.{sym, ◌∙◌}
use borrow.Author.Tests.{le-leb, lt-leb, not-true, not-false}
use native.Mathlib.Omega.{arith}
use lib.ListN.{length}
use Rattle.identity.specs.Text.{max_spiffe_id_bytes, scheme, is_name}
use Rattle.identity.specs.TextLaws.{starts_as}
use Rattle.identity.proofs.text.is_name.Goals as goal

pub returns-then-bytes-lt-MIN_VOTER_SPIFFE_ID_BYTES : goal.returns-then-bytes-lt-MIN_VOTER_SPIFFE_ID_BYTES
unfolding is_name
returns-then-bytes-lt-MIN_VOTER_SPIFFE_ID_BYTES c = rw (lt-leb 10 (length c.args.bytes.now) (omega arith))

pub returns-then-bytes-gt-MAX_VOTER_SPIFFE_ID_BYTES : goal.returns-then-bytes-gt-MAX_VOTER_SPIFFE_ID_BYTES
unfolding is_name
returns-then-bytes-gt-MAX_VOTER_SPIFFE_ID_BYTES c =
    let n = length c.args.bytes.now in
    rw (le-leb 10 n (omega arith), lt-leb n max_spiffe_id_bytes (omega arith))

pub returns-then-not-starts_with : goal.returns-then-not-starts_with
unfolding is_name
returns-then-not-starts_with c =
    let n = length c.args.bytes.now in
    rw (le-leb 10 n (omega arith), le-leb n max_spiffe_id_bytes (omega arith), sym (starts_as c.args.bytes.now scheme) ∙ sym c.starts_with.ensures.value ∙ not-true _ c.if-not-starts_with.true-raw)

pub returns : goal.returns
unfolding is_name
returns c =
    let n = length c.args.bytes.now in
    rw (le-leb 10 n (omega arith), le-leb n max_spiffe_id_bytes (omega arith), sym (starts_as c.args.bytes.now scheme) ∙ sym c.starts_with.ensures.value ∙ not-false _ c.if-not-starts_with.false-raw) c.all_allowed.ensures
