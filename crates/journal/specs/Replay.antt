-- The replay program: document 01, section "Replay program". From the bytes of standard input to
-- the bytes of standard output: `replay`.
-- `entries`: the records that the bytes are, or the broken one that ends them; no table plays a
-- part in it. `step`: one record at the table that stands, or at none: the answer, and the table
-- afterwards. `run`: a list of records, from any table or none. `line`: what is printed of one.
-- Assumes nothing.
use Rattle.std.specs.Prelude.{ℕ, zero, suc, ◌+◌, ◌/◌, ◌%◌, cond, length, take, drop, replicate, ltb}
use mathlib.Core.List.{List, [], ◌∷◌, ◌++◌, flatten, map}
use Rattle.identity.specs.Answer.{number_of, Answer, Accepted, BadRecord}
use Rattle.identity.specs.Text.{max_snapshot_id_bytes}
use Rattle.format.specs.Res.{Res}
use Rattle.format.specs.Res.Res.{ok, no}
use Rattle.format.specs.Through.{whole}
use Rattle.records.specs.declared.records.SnapshotId.{SnapshotId}
use Rattle.records.specs.declared.records.VoterSlotLogId.{VoterSlotLogId}
use Rattle.records.specs.declared.records.VoterSnapshotEvidence.{VoterSnapshotEvidence}
use Rattle.records.specs.declared.records.LostVoterAttestationV1.{LostVoterAttestationV1}
use Rattle.records.specs.declared.records.VoterSlotTable.{VoterSlotTable}
use Rattle.codec.specs.Codec.{decode_voter_slot_table, decode_lost_voter_attestation}
use Rattle.control.specs.declared.begin.VoterBegin.{VoterBegin}
use Rattle.control.specs.declared.control.VoterAdvance.{VoterAdvance}
use Rattle.control.specs.declared.control.VoterReplacementRequest.{VoterReplacementRequest}
use Rattle.control.specs.declared.control.VoterReplacementStep.{VoterReplacementStep}
use Rattle.control.specs.declared.control.VoterSlotControl.{VoterSlotControl}
use Rattle.control.specs.Blank.{blank_voter_replacement_request, blank_voter_replacement_step, blank_request_id, blank_request_digest}
use Rattle.control.specs.Control.{begin_kind, advance_kind, marker_kind, apply_control}
use Rattle.control.specs.Observation.{observe_membership}
use Rattle.journal.specs.declared.bodies.MarkerBody.{MarkerBody}
use Rattle.journal.specs.declared.replay.Mark.{Mark}
use Rattle.journal.specs.declared.replay.Mark.TheVariants.{Tb, Mk, Ad, Bg, Ob, Unknown}
use Rattle.journal.specs.Records.{marker_body, SnapshotPart, StepBody, AdvanceBody, advance_body, BeginBody, begin_body, ObservationBody, observation_body, mark_text, mark_of, frame}

-- ---- what a record asks of the table that stands

-- a call with its values
pub data Asked : Type 0 where
  command : VoterSlotControl → VoterSlotLogId → Asked
  observation : (ids counts nodes : List ℕ) → VoterSlotLogId → Asked

-- a body not of its form; one whose attestation is refused, with the reader's number; or a call
pub data Asking : Type 0 where
  bad : Asking
  refused : ℕ → Asking
  asks : Asked → Asking

-- an MK as a command; "unused parts zero": the blanks of control
unfoldable pub marker_control : MarkerBody → VoterSlotControl
marker_control b =
    record { kind = marker_kind; request = blank_voter_replacement_request; request_id = b.request_id; request_digest = b.request_digest; step = blank_voter_replacement_step }

-- with its cut
unfoldable pub marker_asked : MarkerBody → Asked
marker_asked b = command (marker_control b) b.cut

-- "A snapshot id in AD that is over 256 bytes or not UTF-8 gives 30": its length is kept, and of
-- its bytes as many as have a place, so that the call gives 30.
unfoldable pub snapshot_id_of : List ℕ → SnapshotId
snapshot_id_of id = record { len = length id; bytes = take max_snapshot_id_bytes (id ++ replicate max_snapshot_id_bytes 0) }

-- a snapshot with that id
unfoldable pub snapshot_of : SnapshotPart → VoterSnapshotEvidence
snapshot_of s = record { cut = s.cut; snapshot_id = snapshot_id_of s.id; digest = s.digest }

-- a step with its parts
unfoldable pub step_of : StepBody → VoterReplacementStep
step_of s = record { kind = s.kind; snapshot = snapshot_of s.snapshot; caught_up = s.caught_up }

-- an Advance with its cut
unfoldable pub advance_of : AdvanceBody → VoterAdvance
advance_of b =
    record { request_id = b.named.request_id; request_digest = b.named.request_digest; step = step_of b.step; cut = b.named.cut }

-- an AD as a command
unfoldable pub advance_control : VoterAdvance → VoterSlotControl
advance_control a =
    record { kind = advance_kind; request = blank_voter_replacement_request; request_id = a.request_id; request_digest = a.request_digest; step = a.step }

-- with its cut
unfoldable pub advance_asked : AdvanceBody → Asked
advance_asked b = command (advance_control (advance_of b)) b.named.cut

-- a Begin with its cut
unfoldable pub begin_of : BeginBody → LostVoterAttestationV1 → VoterBegin
begin_of b attestation =
    record {
      request = record {
        expected_revision = b.head.expected_revision;
        expected_configuration = b.head.expected_configuration;
        candidate = b.head.candidate;
        attestation = attestation;
        supplied_request_digest = b.supplied_request_digest;
        supplied_configuration_id = b.supplied_configuration_id;
      };
      cut = b.head.cut;
    }

-- a BG as a command
unfoldable pub begin_control : VoterReplacementRequest → VoterSlotControl
begin_control r = record { kind = begin_kind; request = r; request_id = blank_request_id; request_digest = blank_request_digest; step = blank_voter_replacement_step }

-- with its cut
unfoldable pub begin_asked : BeginBody → LostVoterAttestationV1 → Asked
begin_asked b attestation = command (begin_control (begin_of b attestation).request) b.head.cut

-- document 01: "the sets of an observation stand one behind another in one slice, with their counts
-- beside it"
unfoldable pub observation_asked : ObservationBody → Asked
observation_asked b = observation (flatten b.sets) (map length b.sets) b.nodes b.cut

-- "Body not of this form .. : 33"
unfoldable pub formed : {A : Type 0} → Res A → (A → Asking) → Asking
formed (ok a n) next = next a
formed (no k) next = bad

-- "a BG whose attestation is refused, gives the reader's number, before 30"
unfoldable pub attested : Res LostVoterAttestationV1 → (LostVoterAttestationV1 → Asked) → Asking
attested (ok a n) next = asks (next a)
attested (no k) next = refused k

-- what a body asks; a TB asks nothing of a table that stands
unfoldable pub asking : Mark → List ℕ → Asking
asking Tb body = bad
asking Mk body = formed (whole marker_body body) (λ b. asks (marker_asked b))
asking Ad body = formed (whole advance_body body) (λ b. asks (advance_asked b))
asking Bg body = formed (whole begin_body body) (λ b. attested (decode_lost_voter_attestation b.attestation) (begin_asked b))
asking Ob body = formed (whole observation_body body) (λ b. asks (observation_asked b))
asking Unknown body = bad

-- ---- one record

-- the table that stands, if any
pub data Standing : Type 0 where
  absent : Standing
  stands : VoterSlotTable → Standing

-- what the input is cut into: a record, or one that ends the reading
pub data Entry : Type 0 where
  framed : Mark → List ℕ → Entry
  broken : Mark → Entry

-- 33
abbrev pub bad_record : ℕ
bad_record = number_of BadRecord

-- the call itself: 30, 31, and what else it answers
unfoldable pub answered : VoterSlotTable → Asked → Answer × VoterSlotTable
answered t (command c cut) = apply_control t c cut
answered t (observation ids counts nodes cut) = observe_membership t ids counts nodes cut

-- a record with a table: 33; the reader's number; the call
unfoldable pub called : VoterSlotTable → Asking → ℕ × Standing
called t bad = (bad_record, stands t)
called t (refused number) = (number, stands t)
called t (asks a) = (number_of (answered t a).0, stands (answered t a).1)

-- "a refused TB leaves the table that was not there still absent"
unfoldable pub opened : Res VoterSlotTable → ℕ × Standing
opened (ok t n) = (number_of Accepted, stands t)
opened (no k) = (k, absent)

-- a record with no table: "a call with no table .. : 33"
unfoldable pub opening : Mark → List ℕ → ℕ × Standing
opening Tb body = opened (decode_voter_slot_table body)
opening Mk body = (bad_record, absent)
opening Ad body = (bad_record, absent)
opening Bg body = (bad_record, absent)
opening Ob body = (bad_record, absent)
opening Unknown body = (bad_record, absent)

-- One record: the answer's number, and the table that stands afterwards. With a table "TB while a
-- table stands: 33", whatever its body.
unfoldable pub step : Standing → Entry → ℕ × Standing
step s (broken mark) = (bad_record, s)
step absent (framed mark body) = opening mark body
step (stands t) (framed mark body) = called t (asking mark body)

-- ---- the records of the input

-- "Unknown mark, mark or size cut short, or body cut short: 33 and end." What is shown then is the
-- mark, where it is a known one.
unfoldable pub first_entry : Mark → Res (Mark × List ℕ) → (ℕ → List Entry) → List Entry
first_entry shown (no k) rest = broken shown ∷ []
first_entry shown (ok p n) rest = framed p.0 p.1 ∷ rest n

-- at most so many records
unfoldable pub entries_in : ℕ → List ℕ → List Entry
entries_in zero bs = []
entries_in (suc most) [] = []
entries_in (suc most) (b ∷ bs) = first_entry (mark_of (take 2 (b ∷ bs))) (frame.dec (b ∷ bs)) (λ n. entries_in most (drop n (b ∷ bs)))

-- there are never more records than bytes
unfoldable pub entries : List ℕ → List Entry
entries bs = entries_in (length bs) bs

-- ---- a run

-- what is printed of a record, but for its number
pub record Turn : Type 0 where
  pub mark : Mark
  pub answer : ℕ
  pub afterwards : Standing

-- the mark that is printed
abbrev pub shown_mark : Entry → Mark
shown_mark (framed mark body) = mark
shown_mark (broken mark) = mark

-- one record, and what is printed of it
abbrev pub turn : Standing → Entry → Turn
turn s e = record { mark = shown_mark e; answer = (step s e).0; afterwards = (step s e).1 }

-- one record after the other, each at the table that the one before it left
unfoldable pub run : Standing → List Entry → List Turn
run s [] = []
run s (e ∷ es) = turn s e ∷ run (step s e).1 es

-- the table that stands after all of them
unfoldable pub ended : Standing → List Entry → Standing
ended s [] = s
ended s (e ∷ es) = ended (step s e).1 es

-- ---- what is printed

-- a number in decimal, of at most so many digits; 48 is the digit 0 in ASCII
unfoldable pub decimal_in : ℕ → ℕ → List ℕ
decimal_in zero n = []
decimal_in (suc most) n = let front = decimal_in most (n / 10) in cond (ltb n 10) ((48 + n) ∷ []) (front ++ ((48 + n % 10) ∷ []))

-- it never has more digits than its own value, and one
unfoldable pub decimal : ℕ → List ℕ
decimal n = decimal_in (n + 1) n

-- in ASCII
abbrev pub space : List ℕ
space = 32 ∷ []

abbrev pub newline : List ℕ
newline = 10 ∷ []

-- "revision afterwards (0 if no table)"
unfoldable pub revision_of : Standing → ℕ
revision_of absent = 0
revision_of (stands t) = t.revision

-- "Each further line holds record number, mark (`??` if unknown or itself cut short), answer,
-- revision afterwards"
unfoldable pub line_of : ℕ → Mark → ℕ → ℕ → List ℕ
line_of number mark answer revision =
    decimal number ++ space ++ mark_text mark ++ space ++ decimal answer ++ space ++ decimal revision ++ newline

-- the line of one record
abbrev pub line : ℕ → Turn → List ℕ
line number t = line_of number t.mark t.answer (revision_of t.afterwards)

-- the lines of all, numbered from there on
unfoldable pub lines : ℕ → List Turn → List ℕ
lines number [] = []
lines number (t ∷ turns) = line number t ++ lines (number + 1) turns

-- "The first line is always `replay 1`."
abbrev pub heading : List ℕ
heading = (114 ∷ 101 ∷ 112 ∷ 108 ∷ 97 ∷ 121 ∷ space) ++ (49 ∷ newline)

-- from any table or none
unfoldable pub replay_from : Standing → List ℕ → List ℕ
replay_from s input = heading ++ lines 1 (run s (entries input))

-- The replay program: what it writes to standard output, of all that it reads from standard input.
unfoldable pub replay : List ℕ → List ℕ
replay input = replay_from absent input
