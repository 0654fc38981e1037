-- What the functions of a Begin answer and make, where Control has no name for it: what is found
-- among the nine places, the parts of the table that is made, and a Begin with its cut.
-- From `begin` of control.rs, as the code cuts it. That these come to what Control and Judgement
-- say is proved in BeginJudgeLaws.
-- Assumes nothing.
use Rattle.std.specs.Prelude.{ℕ, Bool, Option, Some, None, cond, false, not, ◌&&◌, ◌||◌, List, eqb, ltb}
use Rattle.identity.specs.Answer.{Answer}
use Rattle.records.specs.declared.records.VoterSlotLogId.{VoterSlotLogId}
use Rattle.records.specs.declared.records.VoterReplacementEvidence.{VoterReplacementEvidence}
use Rattle.records.specs.declared.records.VoterReplacementResult.{VoterReplacementResult}
use Rattle.records.specs.declared.records.VoterSlotMember.{VoterSlotMember}
use Rattle.records.specs.declared.records.VoterSlotRecord.{VoterSlotRecord}
use Rattle.records.specs.declared.records.VoterSlotTable.{VoterSlotTable}
use Rattle.records.specs.Blank.{blank_optional_log_id, blank_voter_snapshot_evidence}
use Rattle.records.specs.Equality.{eq_bytes}
use Rattle.records.specs.Records.{max_fixed_voter_slots, pending, slot_at, superseded}
use Rattle.records.specs.Successor.{slot_index}
use Rattle.records.specs.With.{evidence_with, slot_with}
use Rattle.control.specs.declared.control.VoterReplacementRequest.{VoterReplacementRequest}
use Rattle.control.specs.declared.begin.VoterBegin.{VoterBegin}
use Rattle.control.specs.Control.{begun, receipt_index, receipt_of}
use Rattle.control.specs.Judgement.{Move, carried, judge_begin}
use Rattle.control.specs.Judgement.Move.{begins, records_snapshot, records_caught_up, continues, fences, finalizes}

-- ---- the first place of which a test holds

-- a place in use, and one of the nine
abbrev pub is_place : VoterSlotTable → ℕ → Bool
is_place t k = ltb k t.count && ltb k max_fixed_voter_slots

-- what is read of the slot there, or else `none`
abbrev pub read_at : {A : Type 0} → VoterSlotTable → ℕ → (VoterSlotRecord → A) → A → A
read_at t k read none = cond (is_place t k) (read (slot_at t k)) none

-- the receipt of a request, and its digest
abbrev pub has_receipt : List ℕ → VoterSlotRecord → Bool
has_receipt id s = s.has_last_result && eq_bytes s.last_result.request_id id

abbrev pub has_digest : List ℕ → VoterSlotRecord → Bool
has_digest digest s = eq_bytes s.last_result.request_digest digest

-- whether it has that digest, if there is one
abbrev pub receipt_state : VoterSlotTable → (id digest : List ℕ) → Option Bool
receipt_state t id digest = read_at t (receipt_index t id) (λ s. Some (has_digest digest s)) None

-- the member of the slot of that number, if there is one
abbrev pub named_of : VoterSlotTable → ℕ → Option VoterSlotMember
named_of t number = read_at t (slot_index t number) (λ s. Some s.member) None

-- ---- the request against that member

-- the attested incarnation, with the attested descriptor
abbrev pub attested_member : VoterReplacementRequest → VoterSlotMember → Bool
attested_member r m =
    eqb r.attestation.expected_incarnation m.identity.incarnation && eq_bytes r.attestation.old_descriptor_digest m.descriptor_digest

-- the candidate was admitted later, with another key
abbrev pub newer_than : VoterReplacementRequest → VoterSlotMember → Bool
newer_than r m = ltb m.admission_generation r.candidate.admission_generation && not (eq_bytes r.candidate.key_digest m.key_digest)

-- ---- the parts of the table that is made, each of the parts that its function takes

-- the receipt of the slot: that of the request that is superseded, or the one that it has
abbrev pub receipt_left : VoterSlotTable → VoterSlotLogId → VoterSlotRecord → VoterReplacementResult
receipt_left t cut old = cond t.has_replacement (receipt_of t old superseded cut) old.last_result

-- `begun_slot` of Control, from the slot that was there
abbrev pub slot_from : VoterSlotTable → VoterReplacementRequest → VoterSlotLogId → VoterSlotRecord → VoterSlotRecord
slot_from t r cut old =
    slot_with r.candidate r.attestation.expected_incarnation pending (t.has_replacement || old.has_last_result) (receipt_left t cut old)

-- the evidence of a request that begins: prepare, and nothing else
unfoldable pub prepared_at : VoterSlotLogId → VoterReplacementEvidence
prepared_at cut =
    let none = blank_optional_log_id in
    evidence_with cut false blank_voter_snapshot_evidence none none none none none none

-- ---- a Begin on a valid table: the answer and the table

-- what a Begin makes; no other change comes out of one
unfoldable pub begin_made : VoterSlotTable → VoterBegin → Move → VoterSlotTable
begin_made t b begins = begun t b.request b.cut
begin_made t b records_snapshot = t
begin_made t b records_caught_up = t
begin_made t b continues = t
begin_made t b fences = t
begin_made t b finalizes = t

-- its verdict, carried out
abbrev pub begin_outcome : VoterSlotTable → VoterBegin → Answer × VoterSlotTable
begin_outcome t b = carried (begin_made t b) t (judge_begin t b.request b.cut)
