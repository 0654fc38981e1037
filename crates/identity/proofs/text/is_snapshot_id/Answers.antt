-- `identity::text::is_snapshot_id` meets its contract: each test is one of the definition, in its order. Assumes nothing.
use borrow.Author.Tests.{le-leb, lt-leb}
use native.Mathlib.Omega.{arith}
use lib.ListN.{length}
use Rattle.identity.specs.Text.{max_snapshot_id_bytes, is_snapshot_id}
use Rattle.identity.proofs.text.is_snapshot_id.Goals as goal

pub returns-then-bytes-lt1 : goal.returns-then-bytes-lt1
unfolding is_snapshot_id
returns-then-bytes-lt1 c = rw (lt-leb 1 (length c.args.bytes.now) (omega arith))

pub returns-then-bytes-gt-MAX_VOTER_SNAPSHOT_ID_BYTES : goal.returns-then-bytes-gt-MAX_VOTER_SNAPSHOT_ID_BYTES
unfolding is_snapshot_id
returns-then-bytes-gt-MAX_VOTER_SNAPSHOT_ID_BYTES c =
    let n = length c.args.bytes.now in
    rw (le-leb 1 n (omega arith), lt-leb n max_snapshot_id_bytes (omega arith))

pub returns : goal.returns
unfolding is_snapshot_id
returns c =
    let n = length c.args.bytes.now in
    rw (le-leb 1 n (omega arith), le-leb n max_snapshot_id_bytes (omega arith)) c.all_allowed.ensures
