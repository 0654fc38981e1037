-- The bodies of the records that a replay reads: document 01, section "Replay program", field by
-- field, and the record around a body. `uint 8` is a number of 8 bytes, `raw 32` 32 bytes as they
-- stand.
-- A format here has its writer, its reader and the laws that tie them (crate `format`). A format
-- refuses with the numbers of its parts; a body that it does not read to the last byte is "not of
-- this form", whatever the number. The body of a TB is any bytes: codec's reader judges it.
-- Assumes nothing.
use Rattle.std.specs.Prelude.{ℕ, ◌≡◌, refl, Bool, true, false, cond, List, [], ◌∷◌, length, replicate, eqb}
use Rattle.std.proofs.Common.{sym}
use Rattle.std.proofs.Math.Path.{ap}
use Rattle.std.proofs.lemmas.Bool.{false≢true}
use Rattle.identity.specs.declared.identity.ConsensusIdentity.{ConsensusIdentity}
use Rattle.identity.specs.declared.identity.VoterSlotIdentity.{VoterSlotIdentity}
use Rattle.format.specs.Combinators.{Codec, dep, check, via, always, tested}
use Rattle.format.specs.Num.{uint, raw, raw-long}
use Rattle.format.specs.List.{vec, vec-long, either}
use Rattle.records.specs.Blank.{blank_voter_slot_log_id}
use Rattle.records.specs.Equality.{eq_bytes}
use Rattle.records.specs.EqualityLaws.{eq_bytes-true}
use Rattle.records.specs.declared.records.VoterSlotLogId.{VoterSlotLogId}
use Rattle.records.specs.declared.records.VoterSlotMember.{VoterSlotMember}
use Rattle.layout.specs.Layout.{require, require-is, choice, log_id, binding}
use Rattle.layout.specs.Parts.{member_of, binding_of}
use Rattle.control.specs.Control.{record_snapshot_kind, record_caught_up_kind, finalize_kind}
use Rattle.journal.specs.declared.bodies.MarkerBody.{MarkerBody}
use Rattle.journal.specs.declared.bodies.BeginHead.{BeginHead}
use Rattle.journal.specs.declared.replay.Mark.{Mark}
use Rattle.journal.specs.declared.replay.Mark.TheVariants.{Tb, Mk, Ad, Bg, Ob, Unknown}

-- ---- bytes with their size before them, and values with their count before them

-- so many as the number says
pub sized-long : (p : ℕ × List ℕ) → (dep (uint 2) raw).Good p → ◌≡◌ {A = ℕ × List ℕ} (length p.1, p.1) p
unfolding dep
sized-long p g = ap (λ n. (n, p.1)) (raw-long p.0 p.1 g.1)

-- a 16-bit size, and so many bytes
unfoldable pub sized_bytes : Codec (List ℕ)
sized_bytes = via (dep (uint 2) raw) (λ p. p.1) (λ l. (length l, l)) sized-long

module _ {A : Type 0} (width : ℕ) (C : Codec A) (blank : A) where
  pub counted-long : (p : ℕ × List A) → (dep (uint width) (vec C blank)).Good p → ◌≡◌ {A = ℕ × List A} (length p.1, p.1) p
  unfolding dep
  counted-long p g = ap (λ n. (n, p.1)) (vec-long C blank p.0 p.1 g.1)

  -- a count of `width` bytes, and so many values
  unfoldable pub counted : Codec (List A)
  counted = via (dep (uint width) (vec C blank)) (λ p. p.1) (λ l. (length l, l)) counted-long

-- ---- MK: "cut, id (16 bytes), digest (32)"

-- all of it
unfoldable pub marker_body : Codec MarkerBody
marker_body =
    via (dep (dep log_id (λ a. raw 16)) (λ a. raw 32)) (λ p. record { cut = p.0.0; request_id = p.0.1; request_digest = p.1 })
    (λ b. ((b.cut, b.request_id), b.request_digest)) (λ a g. refl)

-- ---- AD: "the same, then step byte 0 snapshot (cut, 16-bit size, id, digest 32), 1 caught up
-- (cut), 2 continuation, 3 fence, 4 finalize"

-- The id may be any bytes of a 16-bit size: one that is too long or not UTF-8 is of the form, and
-- the call gives it 30.
pub record SnapshotPart : Type 0 where
  pub cut : VoterSlotLogId
  pub id : List ℕ
  pub digest : List ℕ

-- where a step has no snapshot
unfoldable pub no_snapshot_part : SnapshotPart
no_snapshot_part = record { cut = blank_voter_slot_log_id; id = []; digest = replicate 32 0 }

-- step byte 0: "cut, 16-bit size, id, digest 32"
unfoldable pub snapshot_part : Codec SnapshotPart
snapshot_part =
    via (dep (dep log_id (λ a. sized_bytes)) (λ a. raw 32)) (λ p. record { cut = p.0.0; id = p.0.1; digest = p.1 })
    (λ s. ((s.cut, s.id), s.digest)) (λ a g. refl)

-- a step is a kind with its parts as fields, as in a command; a part that the kind does not have
-- takes no bytes
pub record StepBody : Type 0 where
  pub kind : ℕ
  pub snapshot : SnapshotPart
  pub caught_up : VoterSlotLogId

-- a step byte above 4 is not of the form
unfoldable pub step_body : Codec StepBody
step_body =
    via
    (dep
    (dep (choice record_snapshot_kind finalize_kind) (λ kind. either (eqb kind record_snapshot_kind) snapshot_part (always no_snapshot_part)))
    (λ p. either (eqb p.0 record_caught_up_kind) log_id (always blank_voter_slot_log_id)))
    (λ p. record { kind = p.0.0; snapshot = p.0.1; caught_up = p.1 }) (λ s. ((s.kind, s.snapshot), s.caught_up)) (λ a g. refl)

-- what names the request, as in an MK, and the step
pub record AdvanceBody : Type 0 where
  pub named : MarkerBody
  pub step : StepBody

-- all of it
unfoldable pub advance_body : Codec AdvanceBody
advance_body = via (dep marker_body (λ a. step_body)) (λ p. record { named = p.0; step = p.1 }) (λ b. (b.named, b.step)) (λ a g. refl)

-- ---- BG: "cut, expected revision (64 bits), expected cluster (32), configuration id (32), epoch
-- (64 bits), candidate (slot 16 bits, incarnation 64 bits, key 32, descriptor 32, generation 64
-- bits), attestation with 16-bit size, supplied request digest (32), supplied configuration id
-- (32)"

-- the width of a slot number
abbrev pub slot_width : ℕ
slot_width = 2

-- any number is allowed here: one that is no slot, incarnation or epoch is of the form, and the
-- call gives it 30
unfoldable pub any_identity : Codec VoterSlotIdentity
any_identity = via (dep (uint slot_width) (λ a. uint 8)) (λ p. record { slot = p.0; incarnation = p.1 }) (λ i. (i.slot, i.incarnation)) (λ a g. refl)

-- "candidate (slot .., incarnation .., key 32, descriptor 32, generation 64 bits)"
unfoldable pub candidate : Codec VoterSlotMember
candidate = via (dep any_identity (λ i. binding)) (λ p. member_of p.0 p.1) (λ m. (m.identity, binding_of m)) (λ a g. refl)

-- "expected cluster (32), configuration id (32), epoch (64 bits)"
unfoldable pub expected : Codec ConsensusIdentity
expected =
    via (dep (dep (raw 32) (λ a. raw 32)) (λ a. uint 8)) (λ p. record { cluster_id = p.0.0; configuration_id = p.0.1; configuration_epoch = p.1 })
    (λ c. ((c.cluster_id, c.configuration_id), c.configuration_epoch)) (λ a g. refl)

-- what stands before the attestation
unfoldable pub begin_head : Codec BeginHead
begin_head =
    via (dep (dep (dep log_id (λ a. uint 8)) (λ a. expected)) (λ a. candidate))
    (λ p. record { cut = p.0.0.0; expected_revision = p.0.0.1; expected_configuration = p.0.1; candidate = p.1 })
    (λ h. (((h.cut, h.expected_revision), h.expected_configuration), h.candidate)) (λ a g. refl)

-- the attestation as its bytes, which its own reader judges
pub record BeginBody : Type 0 where
  pub head : BeginHead
  pub attestation : List ℕ
  pub supplied_request_digest : List ℕ
  pub supplied_configuration_id : List ℕ

-- all of it
unfoldable pub begin_body : Codec BeginBody
begin_body =
    via (dep (dep (dep begin_head (λ a. sized_bytes)) (λ a. raw 32)) (λ a. raw 32))
    (λ p. record { head = p.0.0.0; attestation = p.0.0.1; supplied_request_digest = p.0.1; supplied_configuration_id = p.1 })
    (λ b. (((b.head, b.attestation), b.supplied_request_digest), b.supplied_configuration_id)) (λ a g. refl)

-- ---- OB: "cut, set count (8 bits), each set and then the nodes as a 16-bit count and 64-bit ids"

-- "a 16-bit count and 64-bit ids"
unfoldable pub node_ids : Codec (List ℕ)
node_ids = counted 2 (uint 8) 0

-- "set count (8 bits), each set"
unfoldable pub node_sets : Codec (List (List ℕ))
node_sets = counted 1 node_ids []

-- the sets and the nodes, and the cut of both
pub record ObservationBody : Type 0 where
  pub cut : VoterSlotLogId
  pub sets : List (List ℕ)
  pub nodes : List ℕ

-- all of it
unfoldable pub observation_body : Codec ObservationBody
observation_body =
    via (dep (dep log_id (λ a. node_sets)) (λ a. node_ids)) (λ p. record { cut = p.0.0; sets = p.0.1; nodes = p.1 })
    (λ b. ((b.cut, b.sets), b.nodes)) (λ a g. refl)

-- ---- a record: "a two-byte mark, a 16-bit body size, the body"

-- the bytes of a mark, and what is printed of one that is unknown: `TB`, `MK`, `AD`, `BG`, `OB`,
-- `??`
abbrev pub mark_text : Mark → List ℕ
mark_text Tb = 84 ∷ 66 ∷ []
mark_text Mk = 77 ∷ 75 ∷ []
mark_text Ad = 65 ∷ 68 ∷ []
mark_text Bg = 66 ∷ 71 ∷ []
mark_text Ob = 79 ∷ 66 ∷ []
mark_text Unknown = 63 ∷ 63 ∷ []

-- any bytes but those five are no known mark, and so is one that is cut short
unfoldable pub mark_of : List ℕ → Mark
mark_of bs =
    cond (eq_bytes bs (mark_text Tb)) Tb
    (cond (eq_bytes bs (mark_text Mk)) Mk
    (cond (eq_bytes bs (mark_text Ad)) Ad
    (cond (eq_bytes bs (mark_text Bg)) Bg
    (cond (eq_bytes bs (mark_text Ob)) Ob Unknown))))

-- one of the five
abbrev pub is_known_mark : Mark → Bool
is_known_mark Tb = true
is_known_mark Mk = true
is_known_mark Ad = true
is_known_mark Bg = true
is_known_mark Ob = true
is_known_mark Unknown = false

mark-by : (l : List ℕ) (a b c d e : Bool) → eq_bytes l (mark_text Tb) ≡ a → eq_bytes l (mark_text Mk) ≡ b → eq_bytes l (mark_text Ad) ≡ c → eq_bytes l (mark_text Bg) ≡ d
    → eq_bytes l (mark_text Ob) ≡ e → require (is_known_mark (cond a Tb (cond b Mk (cond c Ad (cond d Bg (cond e Ob Unknown)))))) ≡ 0
    → mark_text (cond a Tb (cond b Mk (cond c Ad (cond d Bg (cond e Ob Unknown))))) ≡ l
mark-by l true b c d e p q r s t k = sym (eq_bytes-true l (mark_text Tb) p)
mark-by l false true c d e p q r s t k = sym (eq_bytes-true l (mark_text Mk) q)
mark-by l false false true d e p q r s t k = sym (eq_bytes-true l (mark_text Ad) r)
mark-by l false false false true e p q r s t k = sym (eq_bytes-true l (mark_text Bg) s)
mark-by l false false false false true p q r s t k = sym (eq_bytes-true l (mark_text Ob) t)
mark-by l false false false false false p q r s t k = absurd (false≢true (require-is false k))

pub mark-back : (l : List ℕ) → require (is_known_mark (mark_of l)) ≡ 0 → mark_text (mark_of l) ≡ l
unfolding mark_of
mark-back l k = mark-by l (eq_bytes l (mark_text Tb)) (eq_bytes l (mark_text Mk)) (eq_bytes l (mark_text Ad)) (eq_bytes l (mark_text Bg)) (eq_bytes l (mark_text Ob)) refl refl refl refl refl k

-- the mark of a record, which is one of the five
unfoldable pub known_mark : Codec Mark
known_mark =
    via (check (raw 2) (λ l. require (is_known_mark (mark_of l)))) mark_of mark_text
    (λ l g. mark-back l (tested (raw 2) (λ l. require (is_known_mark (mark_of l))) l g))

-- mark, size and body
unfoldable pub frame : Codec (Mark × List ℕ)
frame = dep known_mark (λ mark. sized_bytes)
