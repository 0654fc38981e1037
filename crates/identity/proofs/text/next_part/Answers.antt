-- `identity::text::next_part` meets its contract: each branch is the case of `next_part` that its tests pick. Assumes nothing.
use borrow.Author.Tests.{eq-eqb, ne_eqb}
use Rattle.identity.proofs.text.next_part.Goals as goal

pub returns-then-b-eq47 : goal.returns-then-b-eq47
returns-then-b-eq47 c = rw (eq-eqb _ _ c.if-b-eq47.true)

pub returns-then-part : goal.returns-then-part
returns-then-part c = rw (ne_eqb _ _ c.if-b-eq47.false, c.if-part.true, c.is_domain_byte.ensures)

pub returns : goal.returns
returns c = rw (ne_eqb _ _ c.if-b-eq47.false, c.if-part.false, c.is_segment_byte.ensures)
