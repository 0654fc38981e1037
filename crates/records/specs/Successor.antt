-- The successor check: `VoterSlotTable::validate_successor_of` of validation.rs, in its order. 30;
-- the new table's number; the old one's; 7. The Rust says what is a regression; the tests here say
-- what is none.
-- Document 01: "Every changed table must pass the successor check", "7: successor check:
-- regression".
-- Assumes nothing.
use Rattle.std.specs.Prelude.{ℕ, ◌+◌, Bool, false, cond, not, ◌&&◌, ◌||◌, eqb, leb, ltb}
use Rattle.identity.specs.Conditions.{◌and◌}
use Rattle.identity.specs.Answer.{is_accepted, Answer, Accepted, IncarnationExhausted, Regression, Unrepresentable}
use Rattle.identity.specs.Identity.{max_voter_incarnation}
use Rattle.records.specs.Equality.{eq_bytes, same_voter_slot_member, same_voter_replacement_result, same_lost_voter_attestation_v1, same_voter_configuration, same_voter_slot_table}
use Rattle.records.specs.Records.{fenced, completed, all_below, first_from, slot_at}
use Rattle.records.specs.Representable.{representable}
use Rattle.records.specs.Evidence.{follows, retains, latest}
use Rattle.records.specs.Validation.{validity}
use Rattle.records.specs.declared.records.VoterReplacementResult.{VoterReplacementResult}
use Rattle.records.specs.declared.records.VoterSlotRecord.{VoterSlotRecord}
use Rattle.records.specs.declared.records.VoterReplacementRecord.{VoterReplacementRecord}
use Rattle.records.specs.declared.records.VoterSlotTable.{VoterSlotTable}

-- A slot's receipt may be replaced only by a later one.
unfoldable pub result_succeeds : VoterReplacementResult → VoterReplacementResult → Bool
result_succeeds new old =
    leb old.revision new.revision
    and leb old.incarnation new.incarnation
    and leb old.configuration_epoch new.configuration_epoch
    and (not (eqb new.revision old.revision || eqb new.incarnation old.incarnation) || same_voter_replacement_result new old)

-- A slot: its number stays; retired-through and incarnation do not fall; in one incarnation the
-- member stays and the phase does not fall; a new one has a greater generation; a receipt stays or
-- is replaced.
unfoldable pub slot_succeeds : VoterSlotRecord → VoterSlotRecord → Bool
slot_succeeds new old =
    let mine = new.member.identity.incarnation in
    let theirs = old.member.identity.incarnation in
    eqb new.member.identity.slot old.member.identity.slot
    and leb old.retired_through new.retired_through
    and leb theirs mine
    and (not (eqb mine theirs) || (same_voter_slot_member new.member old.member && leb old.phase new.phase))
    and (not (ltb theirs mine) || ltb old.member.admission_generation new.member.admission_generation)
    and (not old.has_last_result || (new.has_last_result && result_succeeds new.last_result old.last_result))

-- The same request stays open.
unfoldable pub request_succeeds : VoterReplacementRecord → VoterReplacementRecord → Bool
request_succeeds new old =
    eqb new.expected_revision old.expected_revision
    and same_lost_voter_attestation_v1 new.attestation old.attestation
    and same_voter_configuration new.predecessor old.predecessor
    and same_voter_configuration new.successor old.successor
    and leb old.phase new.phase
    and retains new.evidence old.evidence old.phase

-- The receipt of the request itself: completed once the epoch is the successor's, or superseded
-- before the fence.
unfoldable pub own_receipt : ℕ → VoterReplacementRecord → VoterReplacementResult → Bool
own_receipt epoch old receipt =
    let is_completed = eqb receipt.kind completed in
    eq_bytes receipt.request_id old.attestation.request_id
    and eq_bytes receipt.request_digest old.attestation.request_digest
    and ((is_completed && leb old.successor.epoch epoch) || (not is_completed && ltb old.phase fenced))

-- The request that was open has ended: the receipt of its slot, in a table of that epoch, is its
-- own or a later one.
unfoldable pub request_ended : ℕ → VoterReplacementRecord → VoterReplacementResult → Bool
request_ended epoch old receipt =
    ltb old.attestation.expected_incarnation receipt.incarnation
    and follows receipt.terminal (latest old.evidence) false
    and (ltb old.phase fenced || leb old.successor.epoch epoch)
    and (not (eqb (old.attestation.expected_incarnation + 1) receipt.incarnation) || own_receipt epoch old receipt)

-- The first slot of that number, or the count where there is none.
abbrev pub slot_index : VoterSlotTable → ℕ → ℕ
slot_index t slot = first_from (λ i. eqb (slot_at t i).member.identity.slot slot) t.count 0

-- what follows, or 7
abbrev pub or_regression : Bool → Answer → Answer
or_regression kept next = cond kept next Regression

-- The request that was open is open no more: its slot has the receipt. (3 as in the Rust, which
-- asks for the next incarnation here; an old table that is valid has none of 2^47 attested, so 3
-- does not come out.)
unfoldable pub ended_succeeds : VoterSlotTable → VoterReplacementRecord → Answer
ended_succeeds new old =
    let s = slot_at new (slot_index new old.attestation.slot) in
    or_regression (ltb (slot_index new old.attestation.slot) new.count)
    (cond (eqb old.attestation.expected_incarnation max_voter_incarnation) IncarnationExhausted
    (or_regression (s.has_last_result && request_ended new.configuration_epoch old s.last_result) Accepted))

-- The request that was open is open still, told by its id, or has ended.
unfoldable pub replacement_succeeds : VoterSlotTable → VoterSlotTable → Answer
replacement_succeeds new old =
    cond (not old.has_replacement) Accepted
    (cond (new.has_replacement && eq_bytes new.replacement.attestation.request_id old.replacement.attestation.request_id)
    (or_regression (request_succeeds new.replacement old.replacement) Accepted)
    (ended_succeeds new old.replacement))

-- Installation, revision, epoch and number of slots.
unfoldable pub head_succeeds : VoterSlotTable → VoterSlotTable → Bool
head_succeeds new old =
    eq_bytes new.cluster_instance old.cluster_instance
    and eq_bytes new.manifest_digest old.manifest_digest
    and leb old.revision new.revision
    and leb old.configuration_epoch new.configuration_epoch
    and eqb new.count old.count

-- The check of two tables that are valid: tables of one revision are the same table.
unfoldable pub succession : VoterSlotTable → VoterSlotTable → Answer
succession new old =
    or_regression (head_succeeds new old)
    (cond (eqb new.revision old.revision) (or_regression (same_voter_slot_table new old) Accepted)
    (or_regression (all_below (λ i. slot_succeeds (slot_at new i) (slot_at old i)) new.count) (replacement_succeeds new old)))

-- an answer that is no refusal leads on
abbrev pub first_refusal : Answer → Answer → Answer
first_refusal answer next = cond (is_accepted answer) next answer

-- `VoterSlotTable::validate_successor_of`, after 30
unfoldable pub validate_successor_of : VoterSlotTable → VoterSlotTable → Answer
validate_successor_of new old =
    cond (representable new && representable old) (first_refusal (validity new) (first_refusal (validity old) (succession new old))) Unrepresentable
