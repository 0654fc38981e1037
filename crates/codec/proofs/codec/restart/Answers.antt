-- `codec::codec::restart` meets its contract. Assumes nothing.
use Rattle.std.specs.Prelude.{ℕ, ◌≤◌, ◌≡◌, List, length}
use Rattle.std.proofs.Common.{sym, ap, ◌∙◌, length-take-le}
use Rattle.identity.specs.Answer.{Accepted}
use Rattle.records.specs.Held.{HeldVoterSlotTable}
use Rattle.records.specs.Blank.{blank_voter_slot_table}
use Rattle.records.specs.Validation.{validate}
use Rattle.records.specs.declared.records.VoterSlotTable.{VoterSlotTable}
use Rattle.records.proofs.Held.{held-voter-slot-table}
use Rattle.codec.specs.Codec.{table_bytes, decoded, restarted, restart_outcome}
use Rattle.codec.specs.CodecLaws.{restarted_same}
use Rattle.codec.specs.EntryLaws.{decoded-no, encode-within, restarted-no, restarted-on, wrote, wrote-not}
use Rattle.codec.proofs.codec.restart.Goals as goal

-- the second clause, from the first
same : (t : VoterSlotTable) (buffer : List ℕ) → HeldVoterSlotTable t → (answer : ℕ × VoterSlotTable) → answer ≡ decoded blank_voter_slot_table (restarted t buffer)
    → validate t ≡ Accepted → length (table_bytes t) ≤ length buffer → (answer.0 ≡ 0) × (answer.1 ≡ t)
unfolding decoded
same t buffer h answer p v l =
    let q = p ∙ ap (decoded blank_voter_slot_table) (restarted_same t h v buffer l) in
    (λ i. (q i).0, λ i. (q i).1)

pub slice_bounds-decode_voter_slot_table-end : goal.slice_bounds-decode_voter_slot_table-end
slice_bounds-decode_voter_slot_table-end c = encode-within c.args.table c.args.buffer.now (wrote c.args.buffer.now _ c.in-Ok.ensures)

pub slice_bounds-decode_voter_slot_table-end-in-Ok : goal.slice_bounds-decode_voter_slot_table-end-in-Ok
slice_bounds-decode_voter_slot_table-end-in-Ok c = sym (length-take-le _ _ (encode-within c.args.table c.args.buffer.now (wrote c.args.buffer.now _ c.in-Ok.ensures)))

pub returns-in-Ok-clause-outcome : goal.returns-in-Ok-clause-outcome
unfolding restart_outcome
returns-in-Ok-clause-outcome c =
    let b = c.args.buffer.now in
    let p = c.decode_voter_slot_table.ensures ∙ ap (decoded blank_voter_slot_table) (sym (restarted-on c.args.table b (wrote b _ c.in-Ok.ensures))) in
    let w = c.encode_voter_slot_table.ensures in
    λ i. (p i, (w i).1)

pub returns-in-Ok-clause-same : goal.returns-in-Ok-clause-same
returns-in-Ok-clause-same c =
    let b = c.args.buffer.now in
    let p = c.decode_voter_slot_table.ensures ∙ ap (decoded blank_voter_slot_table) (sym (restarted-on c.args.table b (wrote b _ c.in-Ok.ensures))) in
    same c.args.table b (held-voter-slot-table c.args.table _ c.well_formed.1.0) _ p

pub returns-in-Err-clause-outcome : goal.returns-in-Err-clause-outcome
unfolding restart_outcome
returns-in-Err-clause-outcome c =
    let b = c.args.buffer.now in
    let p = decoded-no blank_voter_slot_table c.no_table.ensures (restarted-no c.args.table b (wrote-not b c.in-Err.refusal _ c.in-Err.ensures)) in
    let w = c.encode_voter_slot_table.ensures in
    λ i. (p i, (w i).1)

pub returns-in-Err-clause-same : goal.returns-in-Err-clause-same
returns-in-Err-clause-same c =
    let b = c.args.buffer.now in
    let p = decoded-no blank_voter_slot_table c.no_table.ensures (restarted-no c.args.table b (wrote-not b c.in-Err.refusal _ c.in-Err.ensures)) in
    same c.args.table b (held-voter-slot-table c.args.table _ c.well_formed.1.0) _ p
