-- How many bytes each record takes, where that varies: the sizes that the writers of codec.rs come
-- to, and that `table_size` of the code computes.
-- A flag takes 1 byte, a number its width, a digest 32, a request id 16; a length or a size 2, and
-- the bytes after it. SizeLaws proves that these are the lengths of what Layout writes.
-- Assumes nothing.
use Rattle.std.specs.Prelude.{ℕ, zero, suc, ◌+◌, ◌*◌, cond, List, get_or}
use Rattle.records.specs.Records.{no_slot_record}
use Rattle.records.specs.declared.records.OptionalLogId.{OptionalLogId}
use Rattle.records.specs.declared.records.VoterSlotRecord.{VoterSlotRecord}
use Rattle.records.specs.declared.records.VoterConfiguration.{VoterConfiguration}
use Rattle.records.specs.declared.records.LostVoterAttestationV1.{LostVoterAttestationV1}
use Rattle.records.specs.declared.records.VoterReplacementEvidence.{VoterReplacementEvidence}
use Rattle.records.specs.declared.records.VoterReplacementRecord.{VoterReplacementRecord}
use Rattle.records.specs.declared.records.VoterSlotTable.{VoterSlotTable}
use Rattle.layout.specs.Parts.{early_cuts, late_cuts}
use Rattle.layout.specs.declared.parts.ThreeCuts.{ThreeCuts}

-- term and index
abbrev pub log_id_size : ℕ
log_id_size = 8 + 8

-- slot, incarnation, two digests, admission generation
abbrev pub member_size : ℕ
member_size = 2 + 8 + 32 + 32 + 8

-- id, digest, incarnation, revision, epoch, kind, terminal cut
abbrev pub result_size : ℕ
result_size = 16 + 32 + 8 + 8 + 8 + 1 + log_id_size

-- a slot without its receipt: member, retired-through, phase, flag
abbrev pub slot_head_size : ℕ
slot_head_size = member_size + 8 + 1 + 1

-- with its receipt, where it has one
abbrev pub slot_size : VoterSlotRecord → ℕ
slot_size s = cond s.has_last_result (slot_head_size + result_size) slot_head_size

-- the first n slots
unfoldable pub slots_size : List VoterSlotRecord → ℕ → ℕ
slots_size l zero = 0
slots_size l (suc n) = slots_size l n + slot_size (get_or l n no_slot_record)

-- a flag, and the cut where it is present
abbrev pub cut_size : OptionalLogId → ℕ
cut_size o = cond o.is_some (1 + log_id_size) 1

-- three of them
abbrev pub three_cuts_size : ThreeCuts → ℕ
three_cuts_size c = cut_size c.first + cut_size c.second + cut_size c.third

-- epoch, count, members
abbrev pub configuration_size : VoterConfiguration → ℕ
configuration_size c = 8 + 1 + member_size * c.count

-- version, id and two digests; slot, incarnation, two digests and generation; the lengths of both
-- names and a digest; reason, digest, four times and signature
abbrev pub claims_size : ℕ
claims_size = (2 + 16 + 32 + 32) + (2 + 8 + 32 + 32 + 8) + (2 + 2 + 32) + (1 + 32 + 8 + 8 + 8 + 8 + 64)

-- with the bytes of both names
abbrev pub attestation_size : LostVoterAttestationV1 → ℕ
attestation_size a = claims_size + a.candidate_spiffe_id.len + a.controller_spiffe_id.len

-- the six cuts after the snapshot
abbrev pub evidence_cuts : VoterReplacementEvidence → ℕ
evidence_cuts e = three_cuts_size (early_cuts e) + three_cuts_size (late_cuts e)

-- prepare and the flag of the snapshot
abbrev pub evidence_head_size : ℕ
evidence_head_size = log_id_size + 1

-- the snapshot's cut, the length of its id, its digest
abbrev pub snapshot_size : ℕ
snapshot_size = log_id_size + 2 + 32

-- with the snapshot, where it is present
unfoldable pub evidence_size : VoterReplacementEvidence → ℕ
evidence_size e =
    cond e.has_snapshot (evidence_head_size + snapshot_size + e.snapshot.snapshot_id.len + evidence_cuts e) (evidence_head_size + evidence_cuts e)

-- expected revision, the attestation's size, phase
abbrev pub replacement_head_size : ℕ
replacement_head_size = 8 + 2 + 1

-- an open request
unfoldable pub replacement_size : VoterReplacementRecord → ℕ
replacement_size r =
    replacement_head_size + attestation_size r.attestation + (configuration_size r.predecessor + configuration_size r.successor) + evidence_size r.evidence

-- magic, version, two digests, revision, epoch, count, the flag of the open request
abbrev pub table_head_size : ℕ
table_head_size = 4 + 2 + 32 + 32 + 8 + 8 + 1 + 1

-- a table, with the open request where there is one
unfoldable pub table_size : VoterSlotTable → ℕ
table_size t = table_head_size + slots_size t.slots t.count + cond t.has_replacement (replacement_size t.replacement) 0
