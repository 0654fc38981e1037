-- What the readers of bodies answer, as what the body asks.
-- From document 01, section "Replay program", by way of Records and Replay.
-- Assumes nothing.
use Rattle.std.specs.Prelude.{ℕ, List, Option, Some, None, Result, Ok, Err}
use Rattle.identity.specs.Answer.{number_of_refusal}
use Rattle.identity.specs.declared.answer.Refusal.{Refusal}
use Rattle.format.specs.Copy.{zeros}
use Rattle.records.specs.Blank.{blank_voter_slot_log_id, blank_voter_snapshot_evidence}
use Rattle.records.specs.declared.records.LostVoterAttestationV1.{LostVoterAttestationV1}
use Rattle.codec.specs.Codec.{decode_lost_voter_attestation}
use Rattle.control.specs.declared.begin.VoterBegin.{VoterBegin}
use Rattle.control.specs.declared.control.VoterAdvance.{VoterAdvance}
use Rattle.control.specs.declared.control.VoterReplacementStep.{VoterReplacementStep}
use Rattle.journal.specs.declared.bodies.BeginHead.{BeginHead}
use Rattle.journal.specs.declared.bodies.MarkerBody.{MarkerBody}
use Rattle.control.specs.declared.sets.VoterObservation.{VoterObservation}
use Rattle.journal.specs.Records.{BeginBody}
use Rattle.journal.specs.Replay.{Asking, advance_control, attested, begin_asked, begin_control, marker_asked}
use Rattle.journal.specs.Replay.Asked.{command, observation}
use Rattle.journal.specs.Replay.Asking.{bad, refused, asks}

-- ---- blanks

-- of an MK, which names a request for an AD too
unfoldable pub blank_marker_body : MarkerBody
blank_marker_body = record { cut = blank_voter_slot_log_id; request_id = zeros 16; request_digest = zeros 32 }

-- ---- parts of the answers

-- a step whose kind has no part
abbrev pub partless : ℕ → VoterReplacementStep
partless kind = record { kind = kind; snapshot = blank_voter_snapshot_evidence; caught_up = blank_voter_slot_log_id }

-- an Advance from what names its request, and its step
abbrev pub advance_by : MarkerBody → VoterReplacementStep → VoterAdvance
advance_by named step = record { request_id = named.request_id; request_digest = named.request_digest; step = step; cut = named.cut }

-- a Begin from its parts
abbrev pub begin_by : BeginHead → LostVoterAttestationV1 → (digest configuration : List ℕ) → VoterBegin
begin_by head attestation digest configuration =
    record {
      request = record {
        expected_revision = head.expected_revision;
        expected_configuration = head.expected_configuration;
        candidate = head.candidate;
        attestation = attestation;
        supplied_request_digest = digest;
        supplied_configuration_id = configuration;
      };
      cut = head.cut;
    }

-- what a BG of the form asks: the attestation's own reader judges
abbrev pub attested_asking : BeginBody → Asking
attested_asking b = attested (decode_lost_voter_attestation b.attestation) (begin_asked b)

-- ---- what each answer asks; none is a body that is not of its form

-- an MK
abbrev pub marker_asking : Option MarkerBody → Asking
marker_asking (Some b) = asks (marker_asked b)
marker_asking None = bad

-- an AD
abbrev pub advance_asking : Option VoterAdvance → Asking
advance_asking (Some a) = asks (command (advance_control a) a.cut)
advance_asking None = bad

-- a BG: the number of the attestation's reader, or the Begin
abbrev pub begin_asking : Option (Result VoterBegin Refusal) → Asking
begin_asking (Some (Ok b)) = asks (command (begin_control b.request) b.cut)
begin_asking (Some (Err e)) = refused (number_of_refusal e)
begin_asking None = bad

-- an OB: the ids of the sets, the counts of the sets, and the nodes
abbrev pub observation_asking : Option VoterObservation → Asking
observation_asking (Some o) = asks (observation o.sets.now o.counts.now o.nodes.now o.cut)
observation_asking None = bad
