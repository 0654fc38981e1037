-- `control::observe::member_index` meets its contract: the member's place is its place among those in use. Assumes nothing.
use Rattle.control.proofs.InUse.{member-in-use}
use Rattle.control.proofs.observe.member_index.Goals as goal

pub returns : goal.returns
returns c =
    let u = c.members_in_use in
    let e = member-in-use c.args.configuration.now u.result.now u.ensures.members (u.ensures.count c.requires) c.args.slot in
    cc
