-- The bodies that a format holds: those whose values are of their types. So a log that is written
-- is read again as it was meant (ReplayLaws).
-- Each name here is a step of a proof; what is right is said in Records.
-- Assumes nothing.
use Rattle.std.specs.Prelude.{ℕ, zero, suc, ◌+◌, ◌*◌, ◌^◌, ◌<◌, ◌≡◌, refl, length, get_or, take}
use Rattle.std.proofs.Common.{arith, sym, ap, ap₂, ◌∙◌, length-append, take_all, take-suc, length-take-le}
use mathlib.Core.List.{List, [], ◌∷◌, ◌++◌, flatten}
use Rattle.identity.specs.declared.identity.ConsensusIdentity.{ConsensusIdentity}
use Rattle.identity.specs.declared.identity.VoterSlotIdentity.{VoterSlotIdentity}
use Rattle.format.specs.Combinators.{Codec, Bytes, dep, check, via, held, always, back-and-there}
use Rattle.format.specs.Num.{uint, raw, uint-long, raw_same}
use Rattle.format.specs.List.{vec, enc_vec, either}
use Rattle.format.specs.Res.Res.{ok}
use Rattle.format.specs.Through.{whole, whole_is}
use Rattle.layout.specs.Layout.{choice}
use Rattle.writer.specs.SizeLaws.{log_id-long, binding-long}
use Rattle.records.specs.Blank.{blank_voter_slot_log_id}
use Rattle.records.specs.Held.{AllOf, all-at, HeldBytes, HeldVoterSlotIdentity, HeldVoterSlotLogId, HeldVoterSlotMember}
use Rattle.records.specs.declared.records.VoterSlotLogId.{VoterSlotLogId}
use Rattle.records.specs.declared.records.VoterSlotMember.{VoterSlotMember}
use Rattle.codec.specs.GoodLaws.{raw-good, uint-good, choice-good, log_id-good, binding-good}
use Rattle.control.specs.Held.{HeldConsensusIdentity}
use Rattle.journal.specs.declared.bodies.BeginHead.{BeginHead}
use Rattle.journal.specs.declared.bodies.MarkerBody.{MarkerBody}
use Rattle.journal.specs.Records.{sized_bytes, counted, marker_body, SnapshotPart, no_snapshot_part, snapshot_part, StepBody, step_body, AdvanceBody, advance_body, any_identity, candidate, expected, begin_head, BeginBody, begin_body, node_ids, node_sets, ObservationBody, observation_body}
use Rattle.journal.specs.SetBodyLaws.{flatten-more}
use Rattle.journal.specs.RunHistoryLaws.{HeldBeginHead, HeldMarkerBody}

-- any bytes of a 16-bit size
pub sized-good : (l : List ℕ) → Bytes l → length l < 2 ^ 16 → sized_bytes.Good l
unfolding sized_bytes via dep raw uint held
sized-good l z h = ((h, (refl, z)), refl)

-- values, as many as the width of the count allows
pub counted-good : {A : Type 0} (width : ℕ) (C : Codec A) (blank : A) (l : List A) → length l < 256 ^ width → AllOf C.Good l → (counted width C blank).Good l
unfolding counted via dep vec uint held
counted-good width C blank l h a = ((h, (refl, λ i k. all-at C.Good blank l i k a)), refl)

-- ---- MK

pub marker-good : (b : MarkerBody) → HeldMarkerBody b → marker_body.Good b
unfolding marker_body via dep
marker-good b h = (((log_id-good b.cut h.cut, raw-good 16 b.request_id h.request_id), raw-good 32 b.request_digest h.request_digest), refl)

-- ---- AD: the five steps

abbrev pub step_with : ℕ → SnapshotPart → VoterSlotLogId → StepBody
step_with kind snapshot mark = record { kind = kind; snapshot = snapshot; caught_up = mark }

snapshot-good : (s : SnapshotPart) → HeldVoterSlotLogId s.cut → Bytes s.id → length s.id < 2 ^ 16 → HeldBytes 32 s.digest → snapshot_part.Good s
unfolding snapshot_part via dep
snapshot-good s c z h d = (((log_id-good s.cut c, sized-good s.id z h), raw-good 32 s.digest d), refl)

pub snapshot-step : (s : SnapshotPart) → HeldVoterSlotLogId s.cut → Bytes s.id → length s.id < 2 ^ 16 → HeldBytes 32 s.digest
    → step_body.Good (step_with 0 s blank_voter_slot_log_id)
unfolding step_body via dep either always
snapshot-step s c z h d = (((choice-good 0 4 0 (omega arith) refl, snapshot-good s c z h d), refl), refl)

pub caught-up-step : (mark : VoterSlotLogId) → HeldVoterSlotLogId mark → step_body.Good (step_with 1 no_snapshot_part mark)
unfolding step_body via dep either always
caught-up-step mark c = (((choice-good 0 4 1 (omega arith) refl, refl), log_id-good mark c), refl)

pub continuation-step : step_body.Good (step_with 2 no_snapshot_part blank_voter_slot_log_id)
unfolding step_body via dep either always
continuation-step = (((choice-good 0 4 2 (omega arith) refl, refl), refl), refl)

pub fence-step : step_body.Good (step_with 3 no_snapshot_part blank_voter_slot_log_id)
unfolding step_body via dep either always
fence-step = (((choice-good 0 4 3 (omega arith) refl, refl), refl), refl)

pub finalize-step : step_body.Good (step_with 4 no_snapshot_part blank_voter_slot_log_id)
unfolding step_body via dep either always
finalize-step = (((choice-good 0 4 4 (omega arith) refl, refl), refl), refl)

pub advance-good : (b : AdvanceBody) → HeldMarkerBody b.named → step_body.Good b.step → advance_body.Good b
unfolding advance_body via dep
advance-good b h g = ((marker-good b.named h, g), refl)

-- ---- BG

identity-good : (i : VoterSlotIdentity) → HeldVoterSlotIdentity i → any_identity.Good i
unfolding any_identity via dep
identity-good i h = ((uint-good 2 i.slot h.slot, uint-good 8 i.incarnation h.incarnation), refl)

candidate-good : (m : VoterSlotMember) → HeldVoterSlotMember m → candidate.Good m
unfolding candidate via dep
candidate-good m h = ((identity-good m.identity h.identity, binding-good m h), refl)

expected-good : (c : ConsensusIdentity) → HeldConsensusIdentity c → expected.Good c
unfolding expected via dep
expected-good c h = (((raw-good 32 c.cluster_id h.cluster_id, raw-good 32 c.configuration_id h.configuration_id), uint-good 8 c.configuration_epoch h.configuration_epoch), refl)

pub head-good : (h : BeginHead) → HeldBeginHead h → begin_head.Good h
unfolding begin_head via dep
head-good h g = (
  (
    ((log_id-good h.cut g.cut, uint-good 8 h.expected_revision g.expected_revision), expected-good h.expected_configuration g.expected_configuration),
    candidate-good h.candidate g.candidate,
  ),
  refl,
)

pub record HeldBeginBody (b : BeginBody) : Type 0 where
  pub head : HeldBeginHead b.head
  pub attestation : Bytes b.attestation
  pub size : length b.attestation < 2 ^ 16
  pub supplied_request_digest : HeldBytes 32 b.supplied_request_digest
  pub supplied_configuration_id : HeldBytes 32 b.supplied_configuration_id

pub begin-good : (b : BeginBody) → HeldBeginBody b → begin_body.Good b
unfolding begin_body via dep
begin-good b h = (
  (
    ((head-good b.head h.head, sized-good b.attestation h.attestation h.size), raw-good 32 b.supplied_request_digest h.supplied_request_digest),
    raw-good 32 b.supplied_configuration_id h.supplied_configuration_id,
  ),
  refl,
)

-- ---- OB

-- at most 65,535 ids of 64 bits
pub record HeldIds (l : List ℕ) : Type 0 where
  pub few : length l < 2 ^ 16
  pub each : AllOf (λ x. x < 2 ^ 64) l

all-uint : (l : List ℕ) → AllOf (λ x. x < 2 ^ 64) l → AllOf (uint 8).Good l
all-uint [] a = tt
all-uint (x ∷ l) a = (uint-good 8 x a.0, all-uint l a.1)

ids-good : (l : List ℕ) → HeldIds l → node_ids.Good l
unfolding node_ids
ids-good l h = counted-good 2 (uint 8) 0 l h.few (all-uint l h.each)

all_ids : (sets : List (List ℕ)) → AllOf HeldIds sets → AllOf node_ids.Good sets
all_ids [] a = tt
all_ids (s ∷ sets) a = (ids-good s a.0, all_ids sets a.1)

pub observation-good : (b : ObservationBody) → HeldVoterSlotLogId b.cut → length b.sets < 2 ^ 8 → AllOf HeldIds b.sets → HeldIds b.nodes → observation_body.Good b
unfolding observation_body node_sets via dep
observation-good b c n a h = (((log_id-good b.cut c, counted-good 1 node_ids [] b.sets n (all_ids b.sets a)), ids-good b.nodes h), refl)

-- ---- how many bytes a body takes

pub sized-size : (l : List ℕ) → length (sized_bytes.enc l) ≡ 2 + length l
unfolding sized_bytes via dep
sized-size l = simp (length-append, uint-long, raw_same)

pub marker-size : (b : MarkerBody) → HeldMarkerBody b → length (marker_body.enc b) ≡ 64
unfolding marker_body via dep
marker-size b h = simp (length-append, log_id-long, raw_same, h.request_id.count, h.request_digest.count)

pub advance-size : (b : AdvanceBody) → HeldMarkerBody b.named → length (advance_body.enc b) ≡ 64 + length (step_body.enc b.step)
unfolding advance_body via dep
advance-size b h = simp (length-append, marker-size b.named h)

pub snapshot-step-size : (s : SnapshotPart) → HeldBytes 32 s.digest → length (step_body.enc (step_with 0 s blank_voter_slot_log_id)) ≡ 51 + length s.id
unfolding step_body snapshot_part choice check via dep either always
snapshot-step-size s d = simp (length-append, log_id-long, uint-long, raw_same, sized-size, d.count) (omega arith)

pub caught-up-step-size : (mark : VoterSlotLogId) → length (step_body.enc (step_with 1 no_snapshot_part mark)) ≡ 17
unfolding step_body choice check via dep either always
caught-up-step-size mark = simp (length-append, log_id-long, uint-long)

-- the steps with no part
pub continuation-step-size : length (step_body.enc (step_with 2 no_snapshot_part blank_voter_slot_log_id)) ≡ 1
unfolding step_body choice check via dep either always
continuation-step-size = simp (length-append, uint-long)

pub fence-step-size : length (step_body.enc (step_with 3 no_snapshot_part blank_voter_slot_log_id)) ≡ 1
unfolding step_body choice check via dep either always
fence-step-size = simp (length-append, uint-long)

pub finalize-step-size : length (step_body.enc (step_with 4 no_snapshot_part blank_voter_slot_log_id)) ≡ 1
unfolding step_body choice check via dep either always
finalize-step-size = simp (length-append, uint-long)

candidate-size : (m : VoterSlotMember) → HeldVoterSlotMember m → length (candidate.enc m) ≡ 82
unfolding candidate any_identity via dep
candidate-size m h = simp (length-append, uint-long, binding-long m h)

expected-size : (c : ConsensusIdentity) → HeldConsensusIdentity c → length (expected.enc c) ≡ 72
unfolding expected via dep
expected-size c h = simp (length-append, uint-long, raw_same, h.cluster_id.count, h.configuration_id.count)

head-size : (h : BeginHead) → HeldBeginHead h → length (begin_head.enc h) ≡ 178
unfolding begin_head via dep
head-size h g =
    simp (length-append, log_id-long, uint-long, candidate-size h.candidate g.candidate, expected-size h.expected_configuration g.expected_configuration) (omega arith)

pub begin-size : (b : BeginBody) → HeldBeginBody b → length (begin_body.enc b) ≡ 244 + length b.attestation
unfolding begin_body via dep
begin-size b h =
    simp (
      length-append,
      raw_same,
      sized-size,
      head-size b.head h.head,
      h.supplied_request_digest.count,
      h.supplied_configuration_id.count,
    ) (omega arith)

ids-vec : (n : ℕ) (l : List ℕ) → length (enc_vec (uint 8) 0 n l) ≡ 8 * n
unfolding enc_vec
ids-vec zero l = omega arith
ids-vec (suc n) l = length-append (enc_vec (uint 8) 0 n (take n l)) ((uint 8).enc (get_or l n 0)) ∙ ap₂ ◌+◌ (ids-vec n (take n l)) (uint-long 8 (get_or l n 0)) ∙ omega arith

ids-size : (l : List ℕ) → length (node_ids.enc l) ≡ 2 + 8 * length l
unfolding node_ids counted via dep vec
ids-size l = length-append ((uint 2).enc (length l)) (enc_vec (uint 8) 0 (length l) l) ∙ ap₂ ◌+◌ (uint-long 2 (length l)) (ids-vec (length l) l)

flatten-last : (sets : List (List ℕ)) (s : List ℕ) → length (flatten (sets ++ (s ∷ []))) ≡ length (flatten sets) + length s
flatten-last sets s = ap length (flatten-more sets s) ∙ length-append (flatten sets) s

sets-vec : (n : ℕ) (l : List (List ℕ)) → length l ≡ n → length (enc_vec node_ids [] n l) ≡ 2 * n + 8 * length (flatten l)
unfolding enc_vec flatten
sets-vec zero [] e = refl
sets-vec zero (s ∷ l) e = absurd (omega arith)
sets-vec (suc n) l e =
    let last = get_or l n [] in
    let whole : take n l ++ (last ∷ []) ≡ l = sym (sym (take_all (suc n) l (omega arith)) ∙ take-suc l n [] (omega arith)) in
    let j : length (flatten l) ≡ length (flatten (take n l)) + length last = ap (λ (k : List (List ℕ)). length (flatten k)) (sym whole) ∙ flatten-last (take n l) last in
    length-append (enc_vec node_ids [] n (take n l)) (node_ids.enc last)
    ∙ ap₂ ◌+◌ (sets-vec n (take n l) (length-take-le n l (omega arith))) (ids-size last)
    ∙ omega arith

sets-size : (sets : List (List ℕ)) → length (node_sets.enc sets) ≡ 1 + (2 * length sets + 8 * length (flatten sets))
unfolding node_sets counted via dep vec
sets-size sets = length-append ((uint 1).enc (length sets)) (enc_vec node_ids [] (length sets) sets) ∙ ap₂ ◌+◌ (uint-long 1 (length sets)) (sets-vec (length sets) sets refl)

pub observation-size : (b : ObservationBody) → length (observation_body.enc b) ≡ 19 + 2 * length b.sets + 8 * (length (flatten b.sets) + length b.nodes)
unfolding observation_body via dep
observation-size b = simp (length-append, log_id-long, sets-size, ids-size) (omega arith)

-- So the ids and the nodes of a body are few: in one of at most 65,535 bytes there are fewer than
-- 8,192 of both together.
pub observation-few : (body : List ℕ) {b : ObservationBody} {n : ℕ} → Bytes body → whole observation_body body ≡ ok b n
    → 19 + 2 * length b.sets + 8 * (length (flatten b.sets) + length b.nodes) ≡ length body
observation-few body {b} z e = sym (observation-size b) ∙ ap length (back-and-there observation_body body z (whole_is observation_body body e))
