-- That a replay is a line of history: what a body carries is of its types, each record is one call
-- or none, and a table that was read is valid.
-- Each name here is a step of a proof; what is right is said in Records, Replay and RunHistory.
-- Assumes nothing.
use Rattle.std.specs.Prelude.{ℕ, zero, suc, ◌+◌, ◌^◌, ◌<◌, ◌≡◌, refl, Bool, true, false, List, [], ◌∷◌, ◌++◌, length, take, drop, replicate, eqb}
use Rattle.std.proofs.Common.{arith, add-one, sym, ◌∙◌, subst, length-append, length-take-le, take-add}
use Rattle.std.proofs.Math.Path.{ap}
use Rattle.identity.specs.Answer.{Accepted}
use Rattle.identity.specs.declared.identity.ConsensusIdentity.{ConsensusIdentity}
use Rattle.identity.specs.declared.identity.VoterSlotIdentity.{VoterSlotIdentity}
use Rattle.format.specs.Res.{Res}
use Rattle.format.specs.Res.Res.{ok, no}
use Rattle.format.specs.Combinators.{Codec, Bytes, bytes_drop, dep, via, held, always}
use Rattle.format.specs.Num.{uint, raw}
use Rattle.format.specs.List.{either}
use Rattle.format.specs.Through.{whole, whole_is}
use Rattle.records.specs.Blank.{blank_voter_slot_log_id}
use Rattle.records.specs.Held.{AllOf, Byte, HeldBytes, HeldVoterSlotIdentity, HeldSnapshotId, HeldVoterSlotLogId, HeldVoterSlotMember, HeldLostVoterAttestationV1, HeldVoterSlotTable}
use Rattle.records.specs.HeldParts.{all_append, blank-cut-held, zeros-held}
use Rattle.records.specs.Validation.{validate}
use Rattle.records.specs.declared.records.VoterSlotMember.{VoterSlotMember}
use Rattle.records.specs.declared.records.LostVoterAttestationV1.{LostVoterAttestationV1}
use Rattle.records.specs.declared.records.VoterSlotTable.{VoterSlotTable}
use Rattle.layout.specs.Layout.{log_id}
use Rattle.layout.specs.Parts.{binding_of}
use Rattle.codec.specs.Codec.{decode_voter_slot_table, decode_lost_voter_attestation}
use Rattle.codec.specs.CodecLaws.{attestation-read-held, read_held, read-valid}
use Rattle.codec.specs.ReadHeld.{bytes-held, raw-held, uint-held, choice-held, log_id-held, binding-held, bound-held}
use Rattle.control.specs.Control.{record_snapshot_kind, record_caught_up_kind, finalize_kind}
use Rattle.control.specs.Held.{HeldConsensusIdentity, HeldVoterReplacementStep}
use Rattle.control.specs.HeldLaws.{no-request, no_step}
use Rattle.control.specs.History.{after, table_at}
use Rattle.control.proofs.HistoryLaws.{history}
use Rattle.journal.specs.declared.replay.Mark.{Mark}
use Rattle.journal.specs.declared.replay.Mark.TheVariants.{Tb, Mk, Ad, Bg, Ob, Unknown}
use Rattle.journal.specs.declared.bodies.BeginHead.{BeginHead}
use Rattle.journal.specs.declared.bodies.MarkerBody.{MarkerBody}
use Rattle.journal.specs.Records.{sized_bytes, marker_body, SnapshotPart, snapshot_part, no_snapshot_part, StepBody, step_body, AdvanceBody, advance_body, any_identity, candidate, expected, begin_head, BeginBody, begin_body, ObservationBody, observation_body, frame}
use Rattle.journal.specs.Replay.{Asked, Asking, marker_control, marker_asked, snapshot_id_of, snapshot_of, step_of, advance_of, advance_control, advance_asked, begin_of, begin_control, begin_asked, observation_asked, formed, attested, asking, Standing, Entry, answered, called, opened, opening, step, first_entry, entries_in, entries, ended}
use Rattle.journal.specs.Replay.Asked.{command, observation}
use Rattle.journal.specs.Replay.Asking.{bad, refused, asks}
use Rattle.journal.specs.Replay.Standing.{absent, stands}
use Rattle.journal.specs.Replay.Entry.{framed, broken}
use Rattle.journal.specs.ReplayLaws.{ended-append}
use Rattle.journal.specs.Play.{first_ready, ready}
use Rattle.journal.specs.RunHistory.{asked_in, asked_by, asked, HeldAsked, call_of, calls, BytesEntry, PlayedHistory, ReplayedHistory}

-- ---- what the bodies carry is of its types

-- any bytes of a 16-bit size
sized-held : (l : List ℕ) → sized_bytes.Good l → (length l < 256 ^ 2) × Bytes l
unfolding sized_bytes via dep raw uint held
sized-held l g = (g.0.0, g.0.1.1)

pub record HeldMarkerBody (b : MarkerBody) : Type 0 where
  pub cut : HeldVoterSlotLogId b.cut
  pub request_id : HeldBytes 16 b.request_id
  pub request_digest : HeldBytes 32 b.request_digest

marker-held : (b : MarkerBody) → marker_body.Good b → HeldMarkerBody b
unfolding marker_body via dep
marker-held b g = record {
  cut = log_id-held b.cut g.0.0.0;
  request_id = raw-held 16 b.request_id g.0.0.1;
  request_digest = raw-held 32 b.request_digest g.0.1;
}

marker-asked : (b : MarkerBody) → HeldMarkerBody b → HeldAsked (marker_asked b)
unfolding marker_asked marker_control
marker-asked b h = (record { kind = omega arith; request = no-request; request_id = h.request_id; request_digest = h.request_digest; step = no_step }, h.cut)

-- a part that is there, or its blank
part_held : {A : Type 0} (C : Codec A) (P : A → Type 0) (blank : A) → P blank → ((a : A) → C.Good a → P a) → (b : Bool) (a : A) → (either b C (always blank)).Good a → P a
unfolding either always
part_held C P blank is each true a g = each a g
part_held C P blank is each false a g = subst P g is

all_take : {A : Type 0} (P : A → Type 0) (n : ℕ) (l : List A) → AllOf P l → AllOf P (take n l)
all_take P zero l a = tt
all_take P (suc n) [] a = tt
all_take P (suc n) (x ∷ l) a = (a.0, all_take P n l a.1)

-- the id of a snapshot, whatever its length
id-held : (id : List ℕ) → length id < 256 ^ 2 → Bytes id → HeldSnapshotId (snapshot_id_of id)
unfolding snapshot_id_of
id-held id h z = record {
  len = omega arith;
  bytes = record {
    count = length-take-le 256 (id ++ replicate 256 0) (let e = length-append id (replicate 256 0) in let f = (zeros-held 256).count in omega arith);
    each = all_take Byte 256 (id ++ replicate 256 0) (all_append Byte id (replicate 256 0) (bytes-held id z) (zeros-held 256).each);
  };
}

pub record HeldSnapshotPart (s : SnapshotPart) : Type 0 where
  pub cut : HeldVoterSlotLogId s.cut
  pub id : HeldSnapshotId (snapshot_id_of s.id)
  pub digest : HeldBytes 32 s.digest

snapshot-held : (s : SnapshotPart) → snapshot_part.Good s → HeldSnapshotPart s
unfolding snapshot_part via dep
snapshot-held s g =
    let h = sized-held s.id g.0.0.1 in
    record { cut = log_id-held s.cut g.0.0.0; id = id-held s.id h.0 h.1; digest = raw-held 32 s.digest g.0.1 }

no_part : HeldSnapshotPart no_snapshot_part
unfolding no_snapshot_part Bytes
no_part = record { cut = blank-cut-held; id = id-held [] (omega arith) (λ i. omega arith); digest = zeros-held 32 }

step-held : (s : StepBody) → step_body.Good s → HeldVoterReplacementStep (step_of s)
unfolding step_body step_of snapshot_of via dep
step-held s g =
    let h = part_held snapshot_part HeldSnapshotPart no_snapshot_part no_part snapshot-held (eqb s.kind record_snapshot_kind) s.snapshot g.0.0.1 in
    record {
      kind = choice-held record_snapshot_kind finalize_kind s.kind g.0.0.0;
      snapshot = record { cut = h.cut; snapshot_id = h.id; digest = h.digest };
      caught_up = part_held log_id HeldVoterSlotLogId blank_voter_slot_log_id blank-cut-held log_id-held (eqb s.kind record_caught_up_kind) s.caught_up g.0.1;
    }

advance-asked : (b : AdvanceBody) → advance_body.Good b → HeldAsked (advance_asked b)
unfolding advance_body advance_asked advance_of advance_control via dep
advance-asked b g =
    let h = marker-held b.named g.0.0 in (
      record { kind = omega arith; request = no-request; request_id = h.request_id; request_digest = h.request_digest; step = step-held b.step g.0.1 },
      h.cut,
    )

identity-held : (i : VoterSlotIdentity) → any_identity.Good i → HeldVoterSlotIdentity i
unfolding any_identity via dep
identity-held i g = record { slot = uint-held 2 i.slot g.0.0; incarnation = uint-held 8 i.incarnation g.0.1 }

candidate-held : (m : VoterSlotMember) → candidate.Good m → HeldVoterSlotMember m
unfolding candidate via dep
candidate-held m g = bound-held m (identity-held m.identity g.0.0) (binding-held (binding_of m) g.0.1)

expected-held : (c : ConsensusIdentity) → expected.Good c → HeldConsensusIdentity c
unfolding expected via dep
expected-held c g = record {
  cluster_id = raw-held 32 c.cluster_id g.0.0.0;
  configuration_id = raw-held 32 c.configuration_id g.0.0.1;
  configuration_epoch = uint-held 8 c.configuration_epoch g.0.1;
}

pub record HeldBeginHead (h : BeginHead) : Type 0 where
  pub cut : HeldVoterSlotLogId h.cut
  pub expected_revision : h.expected_revision < 2 ^ 64
  pub expected_configuration : HeldConsensusIdentity h.expected_configuration
  pub candidate : HeldVoterSlotMember h.candidate

begin-head-held : (h : BeginHead) → begin_head.Good h → HeldBeginHead h
unfolding begin_head via dep
begin-head-held h g = record {
  cut = log_id-held h.cut g.0.0.0.0;
  expected_revision = uint-held 8 h.expected_revision g.0.0.0.1;
  expected_configuration = expected-held h.expected_configuration g.0.0.1;
  candidate = candidate-held h.candidate g.0.1;
}

begin-asked : (b : BeginBody) → begin_body.Good b → (a : LostVoterAttestationV1) → HeldLostVoterAttestationV1 a → HeldAsked (begin_asked b a)
unfolding begin_body begin_asked begin_of begin_control via dep
begin-asked b g a h =
    let head = begin-head-held b.head g.0.0.0.0 in (
      record {
        kind = omega arith;
        request = record {
          expected_revision = head.expected_revision;
          expected_configuration = head.expected_configuration;
          candidate = head.candidate;
          attestation = h;
          supplied_request_digest = raw-held 32 b.supplied_request_digest g.0.0.1;
          supplied_configuration_id = raw-held 32 b.supplied_configuration_id g.0.1;
        };
        request_id = zeros-held 16;
        request_digest = zeros-held 32;
        step = no_step;
      },
      head.cut,
    )

begin-bytes : (b : BeginBody) → begin_body.Good b → Bytes b.attestation
unfolding begin_body via dep
begin-bytes b g = (sized-held b.attestation g.0.0.0.1).1

observation-asked : (b : ObservationBody) → observation_body.Good b → HeldAsked (observation_asked b)
unfolding observation_body observation_asked via dep
observation-asked b g = log_id-held b.cut g.0.0.0

-- ---- what a record asks for is of its types

attested-held : (b : BeginBody) → begin_body.Good b → (r : Res LostVoterAttestationV1) → decode_lost_voter_attestation b.attestation ≡ r → AllOf HeldAsked (asked_in (attested r (begin_asked b)))
unfolding attested
attested-held b g (ok a n) e = (begin-asked b g a (attestation-read-held b.attestation (begin-bytes b g) e), tt)
attested-held b g (no k) e = tt

module _ {A : Type 0} (C : Codec A) (next : A → Asking) (each : (a : A) → C.Good a → AllOf HeldAsked (asked_in (next a))) where
  formed-held : (body : List ℕ) → Bytes body → (r : Res A) → whole C body ≡ r → AllOf HeldAsked (asked_in (formed r next))
  unfolding formed
  formed-held body z (ok a n) e = each a (C.good body z (whole_is C body e))
  formed-held body z (no k) e = tt

asking-held : (mark : Mark) (body : List ℕ) → Bytes body → AllOf HeldAsked (asked_in (asking mark body))
unfolding asking
asking-held Tb body z = tt
asking-held Mk body z = formed-held marker_body (λ b. asks (marker_asked b)) (λ b g. (marker-asked b (marker-held b g), tt)) body z (whole marker_body body) refl
asking-held Ad body z = formed-held advance_body (λ b. asks (advance_asked b)) (λ b g. (advance-asked b g, tt)) body z (whole advance_body body) refl
asking-held Bg body z =
    formed-held begin_body (λ b. attested (decode_lost_voter_attestation b.attestation) (begin_asked b))
    (λ b g. attested-held b g (decode_lost_voter_attestation b.attestation) refl) body z (whole begin_body body) refl
asking-held Ob body z = formed-held observation_body (λ b. asks (observation_asked b)) (λ b g. (observation-asked b g, tt)) body z (whole observation_body body) refl
asking-held Unknown body z = tt

entry-held : (e : Entry) → BytesEntry e → AllOf HeldAsked (asked_by e)
entry-held (framed mark body) z = asking-held mark body z
entry-held (broken mark) z = tt

asked-held : (es : List Entry) → AllOf BytesEntry es → AllOf HeldAsked (asked es)
asked-held [] b = tt
asked-held (e ∷ es) b = all_append HeldAsked (asked_by e) (asked es) (entry-held e b.0) (asked-held es b.1)

-- ---- each record is one call of the line, or none

after_is : (a : Asked) (h : HeldAsked a) (t : VoterSlotTable) → (answered t a).1 ≡ after (call_of a h) t
unfolding answered
after_is (command c cut) h t = refl
after_is (observation ids counts nodes cut) h t = refl

-- one record, and then the others
module _ (es : List Entry) (i : ℕ) (then : (t : VoterSlotTable) (h : AllOf HeldAsked (asked es)) → ended (stands t) (take i es) ≡ stands (table_at t (calls (asked es) h) (length (asked (take i es))))) where
  one-call : (t : VoterSlotTable) (r : Asking) (h : AllOf HeldAsked (asked_in r ++ asked es))
      → ended (called t r).1 (take i es) ≡ stands (table_at t (calls (asked_in r ++ asked es) h) (length (asked_in r ++ asked (take i es))))
  unfolding called
  one-call t bad h = then t h
  one-call t (refused number) h = then t h
  one-call t (asks a) h =
      then (answered t a).1 h.1 ∙ ap (λ (u : VoterSlotTable). stands (table_at u (calls (asked es) h.1) (length (asked (take i es))))) (after_is a h.0 t)

  one_entry : (t : VoterSlotTable) (e : Entry) (h : AllOf HeldAsked (asked_by e ++ asked es))
      → ended (step (stands t) e).1 (take i es) ≡ stands (table_at t (calls (asked_by e ++ asked es) h) (length (asked_by e ++ asked (take i es))))
  unfolding step
  one_entry t (framed mark body) h = one-call t (asking mark body) h
  one_entry t (broken mark) h = then t h

tables-are : (es : List Entry) (i : ℕ) (t : VoterSlotTable) (h : AllOf HeldAsked (asked es))
    → ended (stands t) (take i es) ≡ stands (table_at t (calls (asked es) h) (length (asked (take i es))))
unfolding ended
tables-are es zero t h = refl
tables-are [] (suc i) t h = refl
tables-are (e ∷ es) (suc i) t h = one_entry es i (tables-are es i) t e h

-- ---- of every valid table and all records

pub played : PlayedHistory
played start h v es b = record {
  held = asked-held es b;
  tables = λ i. tables-are es i start (asked-held es b);
  line = history start h v (calls (asked es) (asked-held es b));
}

-- ---- the records of an input are bytes

frame-bytes : (p : Mark × List ℕ) → frame.Good p → Bytes p.1
unfolding frame dep
frame-bytes p g = (sized-held p.1 g.1).1

first-bytes : (bs : List ℕ) → Bytes bs → (shown : Mark) (rest : ℕ → List Entry) → ((n : ℕ) → AllOf BytesEntry (rest n)) → (r : Res (Mark × List ℕ)) → frame.dec bs ≡ r
    → AllOf BytesEntry (first_entry shown r rest)
unfolding first_entry
first-bytes bs z shown rest more (ok p n) e = (frame-bytes p (frame.good bs z e), more n)
first-bytes bs z shown rest more (no k) e = (tt, tt)

entries-bytes : (most : ℕ) (bs : List ℕ) → Bytes bs → AllOf BytesEntry (entries_in most bs)
unfolding entries_in
entries-bytes zero bs z = tt
entries-bytes (suc most) [] z = tt
entries-bytes (suc most) (b ∷ bs) z =
    first-bytes (b ∷ bs) z _ (λ n. entries_in most (drop n (b ∷ bs))) (λ n. entries-bytes most (drop n (b ∷ bs)) (bytes_drop n (b ∷ bs) z)) (frame.dec (b ∷ bs)) refl

pub input-bytes : (input : List ℕ) → Bytes input → AllOf BytesEntry (entries input)
unfolding entries
input-bytes input z = entries-bytes (length input) input z

-- and so are those that a piece of it holds
ready-first : (bs : List ℕ) → Bytes bs → (shown : Mark) (rest : ℕ → List Entry) → ((n : ℕ) → AllOf BytesEntry (rest n)) → (r : Res (Mark × List ℕ)) → frame.dec bs ≡ r → (ends : Bool)
    → AllOf BytesEntry (first_ready shown ends r rest)
unfolding first_ready
ready-first bs z shown rest more (ok p n) e ends = (frame-bytes p (frame.good bs z e), more n)
ready-first bs z shown rest more (no k) e true = (tt, tt)
ready-first bs z shown rest more (no k) e false = tt

pub ready-bytes : (most : ℕ) (last : Bool) (bs : List ℕ) → Bytes bs → AllOf BytesEntry (ready most last bs)
unfolding ready
ready-bytes zero last bs z = tt
ready-bytes (suc most) last bs z =
    ready-first bs z _ (λ n. ready most last (drop n bs)) (λ n. ready-bytes most last (drop n bs) (bytes_drop n bs z)) (frame.dec bs) refl _

all_drop : {A : Type 0} (P : A → Type 0) (n : ℕ) (l : List A) → AllOf P l → AllOf P (drop n l)
all_drop P zero l a = a
all_drop P (suc n) [] a = tt
all_drop P (suc n) (x ∷ l) a = all_drop P n l a.1

-- ---- where a record brings a table, it is valid

absent-not : {t : VoterSlotTable} → ◌≡◌ {A = Standing} absent (stands t) → ⊥
absent-not e = let z : ◌≡◌ {A = ℕ} 0 1 = cc in omega arith

stands_same : {t u : VoterSlotTable} → ◌≡◌ {A = Standing} (stands t) (stands u) → t ≡ u
stands_same e = cc

abbrev Fine : VoterSlotTable → Type 0
Fine t = HeldVoterSlotTable t × (validate t ≡ Accepted)

opened-fine : (body : List ℕ) → Bytes body → (start : VoterSlotTable) (r : Res VoterSlotTable) → decode_voter_slot_table body ≡ r → (opened r).1 ≡ stands start → Fine start
unfolding opened
opened-fine body z start (ok t n) e f = subst Fine (stands_same f) (read_held body z e, read-valid body z e)
opened-fine body z start (no k) e f = absurd (absent-not f)

opening-fine : (mark : Mark) (body : List ℕ) → Bytes body → (start : VoterSlotTable) → (opening mark body).1 ≡ stands start → Fine start
unfolding opening
opening-fine Tb body z start e = opened-fine body z start (decode_voter_slot_table body) refl e
opening-fine Mk body z start e = absurd (absent-not e)
opening-fine Ad body z start e = absurd (absent-not e)
opening-fine Bg body z start e = absurd (absent-not e)
opening-fine Ob body z start e = absurd (absent-not e)
opening-fine Unknown body z start e = absurd (absent-not e)

step-fine : (e : Entry) → BytesEntry e → (start : VoterSlotTable) → (step absent e).1 ≡ stands start → Fine start
unfolding step
step-fine (framed mark body) z start f = opening-fine mark body z start f
step-fine (broken mark) z start f = absurd (absent-not f)

brought-fine : (es : List Entry) → AllOf BytesEntry es → (s : Standing) (i : ℕ) (start : VoterSlotTable) → ended s (take i es) ≡ absent → ended s (take (suc i) es) ≡ stands start → Fine start
unfolding ended
brought-fine [] b s zero start p q = absurd (absent-not (sym p ∙ q))
brought-fine [] b s (suc i) start p q = absurd (absent-not (sym p ∙ q))
brought-fine (e ∷ es) b s zero start p q = step-fine e b.0 start (ap (λ (u : Standing). (step u e).1) (sym p) ∙ q)
brought-fine (e ∷ es) b s (suc i) start p q = brought-fine es b.1 (step s e).1 i start p q

-- ---- of every input

pub replayed : ReplayedHistory
replayed input z =
    let es = entries input in
    let b = input-bytes input z in
    record {
      from = λ i start p q.
          let f = brought-fine es b absent i start p (subst (λ (n : ℕ). ended absent (take n es) ≡ stands start) (add-one i) q) in
          played start f.0 f.1 (drop (i + 1) es) (all_drop BytesEntry (i + 1) es b);
      onwards = λ i j. ap (ended absent) (take-add i j es) ∙ ended-append absent (take i es) (take j (drop i es));
    }
