-- What reading a body leaves, part after part, and what each body asks by it; and an id in its
-- place. For the readers of bodies.
-- Assumes nothing.
use Rattle.std.specs.Prelude.{ℕ, ◌+◌, ◌-◌, ◌≤◌, ◌≡◌, refl, Bool, true, false, cond, List, ◌++◌, length, take, drop, replicate, eqb, leb, ltb, min, ◌<◌}
use Rattle.std.proofs.Common.{arith, sym, ap, ◌∙◌, eqb-true, leb-true, leb-false, le-leb, ltb-true, ltb-false, append-nil, take_at, take_all}
use Rattle.std.proofs.lemmas.List.{length-replicate, replicate-append-replicate, take-append-le}
use Rattle.std.proofs.Math.Seq.{take-append-add}
use Rattle.format.specs.Copy.{drop-replicate}
use Rattle.format.specs.Res.{Res, malformed, too_large}
use Rattle.format.specs.Res.Res.{ok, no}
use Rattle.format.specs.Combinators.{Codec, Bytes, always, check, checked-ok, checked-no, dec_map, dec_seq, dep, map-ok, map-no, mapped, via}
use Rattle.format.specs.List.{either}
use Rattle.format.specs.Num.{uint, raw, pick}
use Rattle.format.specs.Reads.{Reading, reads, then_read, made_read, reads_two, reads_three, reads_four}
use Rattle.format.specs.ReadsMore.{ended_read, reads_whole}
use Rattle.format.specs.Through.{whole}
use Rattle.records.specs.Blank.{blank_snapshot_id, blank_voter_slot_log_id, blank_voter_snapshot_evidence}
use Rattle.records.specs.declared.records.SnapshotId.{SnapshotId}
use Rattle.records.specs.declared.records.VoterSlotLogId.{VoterSlotLogId}
use Rattle.records.specs.declared.records.VoterSnapshotEvidence.{VoterSnapshotEvidence}
use Rattle.layout.specs.Layout.{sized, choice, log_id}
use Rattle.control.specs.Control.{record_snapshot_kind, record_caught_up_kind, finalize_kind}
use Rattle.control.specs.declared.control.VoterReplacementStep.{VoterReplacementStep}
use Rattle.journal.specs.declared.bodies.MarkerBody.{MarkerBody}
use Rattle.journal.specs.declared.replay.Mark.TheVariants.{Mk, Ad, Bg}
use Rattle.journal.specs.Bodies.{partless, advance_by, attested_asking}
use Rattle.journal.specs.Records.{sized_bytes, marker_body, SnapshotPart, no_snapshot_part, snapshot_part, StepBody, step_body, AdvanceBody, advance_body, BeginBody, begin_head, begin_body}
use Rattle.journal.specs.Replay.{Asking, asking, formed, marker_asked, snapshot_id_of, snapshot_of, step_of, advance_of, advance_control, advance_asked}
use Rattle.journal.specs.Replay.Asked.{command}
use Rattle.journal.specs.Replay.Asking.{bad, asks}

-- ---- a form and what is made of its value

module _ {A B : Type 0} (C : Codec A) (f : A → B) (bs : List ℕ) where
  pub map-within : {b : B} {n : ℕ} → dec_map C.dec f bs ≡ ok b n → n ≤ length bs
  map-within e = C.within bs (mapped C.dec f bs e).1

-- ---- bytes with their size before them: a size of two bytes never passes 65,535

bound-same : (bs : List ℕ) → Bytes bs → (r : Res ℕ) → (uint 2).dec bs ≡ r → (check (uint 2) (λ n. pick (leb n 65535) 0 too_large)).dec bs ≡ r
unfolding pick uint
bound-same bs z (ok n k) e =
    let h : n < 65536 = (uint 2).good bs z e in
    checked-ok (uint 2) (λ n. pick (leb n 65535) 0 too_large) bs e (rw (le-leb n 65535 (omega arith)))
bound-same bs z (no k) e = checked-no (uint 2) (λ n. pick (leb n 65535) 0 too_large) bs e

sized-any : (bs : List ℕ) → Bytes bs → sized_bytes.dec bs ≡ dec_map (sized 65535).dec (λ p. p.1) bs
unfolding sized sized_bytes via dep dec_seq dec_map
sized-any bs z = rw (bound-same bs z ((uint 2).dec bs) refl)

module _ (bs : List ℕ) (z : Bytes bs) where
  pub any-ok : {p : ℕ × List ℕ} {n : ℕ} → (sized 65535).dec bs ≡ ok p n → sized_bytes.dec bs ≡ ok p.1 n
  any-ok e = sized-any bs z ∙ map-ok (sized 65535).dec (λ p. p.1) bs e

  pub any-no : {k : ℕ} → (sized 65535).dec bs ≡ no k → sized_bytes.dec bs ≡ no k
  any-no e = sized-any bs z ∙ map-no (sized 65535).dec (λ p. p.1) bs e

-- ---- an id in its place: as many of its bytes as have one, and zeros after them

-- that is never more than either
pub at_most : (size n : ℕ) → (cond (ltb n size) n size ≤ n) × (cond (ltb n size) n size ≤ size)
at_most size n = by (ltb n size) refl
  where
    by : (t : Bool) → ltb n size ≡ t → (cond t n size ≤ n) × (cond t n size ≤ size)
    by true e = let k = ltb-true n size e in (omega arith, omega arith)
    by false e = let k = ltb-false n size e in (omega arith, omega arith)

zeros_after : (n k : ℕ) → n ≤ k → take {A = ℕ} (k - n) (replicate k 0) ≡ drop n (replicate k 0)
zeros_after n k h =
    let e : k ≡ k - n + n = omega arith in
    ap (λ m. take (k - n) (replicate m 0)) e
    ∙ ap (take (k - n)) (sym (replicate-append-replicate (k - n) n 0))
    ∙ take_at (replicate (k - n) 0) (replicate n 0) (k - n) (length-replicate (k - n) 0)
    ∙ sym (drop-replicate n k 0)

pub id_placed : (size : ℕ) (l : List ℕ) (n : ℕ) → n ≡ min (length l) size → take n l ++ drop n (replicate size 0) ≡ take size (l ++ replicate size 0)
id_placed size l n e = by (leb (length l) size) refl
  where
    by : (t : Bool) → leb (length l) size ≡ t → take n l ++ drop n (replicate size 0) ≡ take size (l ++ replicate size 0)
    by true p =
        let h = leb-true (length l) size p in
        let q : n ≡ length l = omega arith in
        let s : length l + (size - length l) ≡ size = omega arith in
        ap (λ m. take m l ++ drop m (replicate size 0)) q
        ∙ ap (λ k. k ++ drop (length l) (replicate size 0)) (take_all (length l) l (omega arith))
        ∙ ap (λ k. l ++ k) (sym (zeros_after (length l) size h))
        ∙ sym (take-append-add l (replicate size 0) (size - length l))
        ∙ ap (λ m. take m (l ++ replicate size 0)) s
    by false p =
        let h = leb-false (length l) size p in
        let q : n ≡ size = omega arith in
        let z : size - size ≡ 0 = omega arith in
        ap (λ m. take m l ++ drop m (replicate size 0)) q
        ∙ ap (λ k. take size l ++ k) (drop-replicate size size 0 ∙ ap (λ m. replicate m 0) z)
        ∙ append-nil (take size l)
        ∙ sym (take-append-le size l (replicate size 0) (omega arith))

-- ---- a snapshot, whose id is put into its place

abbrev snapshot_by : VoterSlotLogId → SnapshotId → List ℕ → VoterSnapshotEvidence
snapshot_by cut id digest = record { cut = cut; snapshot_id = id; digest = digest }

digest_read : (cut : VoterSlotLogId) (id : List ℕ) (x : Reading (List ℕ))
    → made_read snapshot_of (made_read (λ d. record { cut = cut; id = id; digest = d }) x) ≡ made_read (snapshot_by cut (snapshot_id_of id)) x
unfolding snapshot_of
digest_read cut id (Reading.read d rest) = refl
digest_read cut id (Reading.refused k) = refl

id_read : (cut : VoterSlotLogId) (x : Reading (List ℕ))
    → made_read snapshot_of (then_read x (λ id r. made_read {B = SnapshotPart} (λ d. record { cut = cut; id = id; digest = d }) (reads (raw 32) r)))
    ≡ then_read {B = VoterSnapshotEvidence} (made_read snapshot_id_of x) (λ id r. made_read (snapshot_by cut id) (reads (raw 32) r))
id_read cut (Reading.read id rest) = digest_read cut id (reads (raw 32) rest)
id_read cut (Reading.refused k) = refl

cut_read : (x : Reading VoterSlotLogId)
    → made_read snapshot_of (then_read x (λ cut r. then_read (reads sized_bytes r) (λ id s. made_read {B = SnapshotPart} (λ d. record { cut = cut; id = id; digest = d }) (reads (raw 32) s))))
    ≡ then_read x (λ cut r. then_read {B = VoterSnapshotEvidence} (made_read snapshot_id_of (reads sized_bytes r)) (λ id s. made_read (snapshot_by cut id) (reads (raw 32) s)))
cut_read (Reading.read cut rest) = id_read cut (reads sized_bytes rest)
cut_read (Reading.refused k) = refl

pub snapshot_read : (bs : List ℕ) → made_read snapshot_of (reads snapshot_part bs)
    ≡ then_read (reads log_id bs) (λ cut r. then_read {B = VoterSnapshotEvidence} (made_read snapshot_id_of (reads sized_bytes r))
    (λ id s. made_read (λ d. record { cut = cut; snapshot_id = id; digest = d }) (reads (raw 32) s)))
unfolding snapshot_part
snapshot_read bs = ap (made_read snapshot_of) (reads_three log_id (λ a. sized_bytes) (λ a. raw 32) _ _ _ bs) ∙ cut_read (reads log_id bs)

-- ---- a step, by its kind

abbrev step_parts : ℕ → VoterSnapshotEvidence → VoterSlotLogId → VoterReplacementStep
step_parts kind snapshot cut = record { kind = kind; snapshot = snapshot; caught_up = cut }

-- the part that a step without a snapshot has is the blank one
blank_part : snapshot_of no_snapshot_part ≡ blank_voter_snapshot_evidence
unfolding snapshot_of no_snapshot_part snapshot_id_of blank_voter_snapshot_evidence blank_snapshot_id
blank_part = refl

abbrev made_step : ℕ → SnapshotPart → VoterSlotLogId → StepBody
made_step kind snapshot cut = record { kind = kind; snapshot = snapshot; caught_up = cut }

-- the parts in the order of the form
abbrev in_order : ℕ → List ℕ → Reading StepBody
in_order kind r =
    then_read (reads (either (eqb kind record_snapshot_kind) snapshot_part (always no_snapshot_part)) r)
    (λ s t. made_read (made_step kind s) (reads (either (eqb kind record_caught_up_kind) log_id (always blank_voter_slot_log_id)) t))

-- the same by the kind
abbrev by_kind : ℕ → List ℕ → Reading VoterReplacementStep
by_kind kind r =
    cond (eqb kind record_snapshot_kind) (made_read (λ v. step_parts kind v blank_voter_slot_log_id) (made_read snapshot_of (reads snapshot_part r)))
    (cond (eqb kind record_caught_up_kind) (made_read (step_parts kind blank_voter_snapshot_evidence) (reads log_id r)) (Reading.read (partless kind) r))

with_snapshot : (kind : ℕ) (x : Reading SnapshotPart)
    → made_read step_of (then_read x (λ s t. made_read (made_step kind s) (reads (always blank_voter_slot_log_id) t)))
    ≡ made_read (λ v. step_parts kind v blank_voter_slot_log_id) (made_read snapshot_of x)
unfolding step_of reads always
with_snapshot kind (Reading.read s rest) = refl
with_snapshot kind (Reading.refused k) = refl

with_cut : (kind : ℕ) (x : Reading VoterSlotLogId)
    → made_read step_of (made_read (made_step kind no_snapshot_part) x) ≡ made_read (step_parts kind blank_voter_snapshot_evidence) x
unfolding step_of
with_cut kind (Reading.read c rest) = ap (λ v. Reading.read (step_parts kind v c) rest) blank_part
with_cut kind (Reading.refused k) = refl

kind_read : (kind : ℕ) (r : List ℕ) → made_read step_of (in_order kind r) ≡ by_kind kind r
unfolding either reads always step_of
kind_read kind r = by (eqb kind record_snapshot_kind) (eqb kind record_caught_up_kind) refl refl
  where
    by : (t u : Bool) → eqb kind record_snapshot_kind ≡ t → eqb kind record_caught_up_kind ≡ u
        → made_read step_of (then_read (reads (either t snapshot_part (always no_snapshot_part)) r)
        (λ s q. made_read (made_step kind s) (reads (either u log_id (always blank_voter_slot_log_id)) q)))
        ≡ cond t (made_read (λ v. step_parts kind v blank_voter_slot_log_id) (made_read snapshot_of (reads snapshot_part r)))
        (cond u (made_read (step_parts kind blank_voter_snapshot_evidence) (reads log_id r)) (Reading.read (partless kind) r))
    by true true p q = absurd (let z = eqb-true kind record_snapshot_kind p in let y = eqb-true kind record_caught_up_kind q in omega arith)
    by true false p q = with_snapshot kind (reads snapshot_part r)
    by false true p q = with_cut kind (reads log_id r)
    by false false p q = ap (λ v. Reading.read (step_parts kind v blank_voter_slot_log_id) r) blank_part

kinds_read : (x : Reading ℕ) → made_read step_of (then_read x in_order) ≡ then_read x by_kind
kinds_read (Reading.read kind rest) = kind_read kind rest
kinds_read (Reading.refused k) = refl

pub step_read : (bs : List ℕ) → made_read step_of (reads step_body bs)
    ≡ then_read (reads (choice record_snapshot_kind finalize_kind) bs)
    (λ kind r.
    cond (eqb kind record_snapshot_kind) (made_read {B = VoterReplacementStep} (λ v. record { kind = kind; snapshot = v; caught_up = blank_voter_slot_log_id }) (made_read snapshot_of (reads snapshot_part r)))
    (cond (eqb kind record_caught_up_kind) (made_read {B = VoterReplacementStep} (λ c. record { kind = kind; snapshot = blank_voter_snapshot_evidence; caught_up = c }) (reads log_id r)) (Reading.read (partless kind) r)))
unfolding step_body
step_read bs =
    ap (made_read step_of) (reads_three (choice record_snapshot_kind finalize_kind) _ _ _ _ _ bs)
    ∙ kinds_read (reads (choice record_snapshot_kind finalize_kind) bs)

-- ---- a body to its last byte

-- what a reading asks: where bytes are left over, the body is not of its form
abbrev pub ended_asking : {A : Type 0} → (A → Asking) → Reading A → Asking
ended_asking next (Reading.read a rest) = cond (eqb (length rest) 0) (next a) bad
ended_asking next (Reading.refused k) = bad

module _ {A : Type 0} (C : Codec A) (next : A → Asking) (bs : List ℕ) where
  picked : (t : Bool) (a : A) → formed (pick t (ok a (length bs)) (no malformed)) next ≡ cond t (next a) bad
  unfolding formed pick
  picked true a = refl
  picked false a = refl

  ended : (x : Reading A) → formed (ended_read (length bs) x) next ≡ ended_asking next x
  unfolding formed
  ended (Reading.read a rest) = picked (eqb (length rest) 0) a
  ended (Reading.refused k) = refl

  pub formed_read : formed (whole C bs) next ≡ ended_asking next (reads C bs)
  formed_read = ap (λ r. formed r next) (reads_whole C bs) ∙ ended (reads C bs)

-- an MK
pub marker_read : (body : List ℕ) → asking Mk body ≡ ended_asking (λ b. asks (marker_asked b)) (reads marker_body body)
unfolding asking
marker_read body = formed_read marker_body (λ b. asks (marker_asked b)) body

-- an AD
stepped : (named : MarkerBody) (x : Reading StepBody)
    → ended_asking {A = AdvanceBody} (λ b. asks (advance_asked b)) (made_read (λ s. record { named = named; step = s }) x)
    ≡ ended_asking (λ a. asks (command (advance_control a) a.cut)) (made_read (advance_by named) (made_read step_of x))
unfolding advance_asked advance_of
stepped named (Reading.read s rest) = refl
stepped named (Reading.refused k) = refl

advanced : (x : Reading MarkerBody)
    → ended_asking {A = AdvanceBody} (λ b. asks (advance_asked b)) (then_read x (λ named r. made_read (λ s. record { named = named; step = s }) (reads step_body r)))
    ≡ ended_asking (λ a. asks (command (advance_control a) a.cut)) (then_read x (λ named r. made_read (advance_by named) (made_read step_of (reads step_body r))))
advanced (Reading.read named rest) = stepped named (reads step_body rest)
advanced (Reading.refused k) = refl

pub advance_read : (body : List ℕ) → asking Ad body
    ≡ ended_asking (λ a. asks (command (advance_control a) a.cut))
    (then_read (reads marker_body body) (λ named r. made_read (advance_by named) (made_read step_of (reads step_body r))))
unfolding asking advance_body
advance_read body =
    formed_read advance_body (λ b. asks (advance_asked b)) body
    ∙ ap (ended_asking {A = AdvanceBody} (λ b. asks (advance_asked b))) (reads_two marker_body (λ a. step_body) _ _ _ body)
    ∙ advanced (reads marker_body body)

-- a BG: the attestation's own reader is asked where all the rest is of the form
pub begin_read : (body : List ℕ) → asking Bg body
    ≡ ended_asking attested_asking
    (then_read (reads begin_head body) (λ h r. then_read (reads sized_bytes r) (λ l s. then_read (reads (raw 32) s)
    (λ d t. made_read {B = BeginBody} (λ c. record { head = h; attestation = l; supplied_request_digest = d; supplied_configuration_id = c }) (reads (raw 32) t)))))
unfolding asking begin_body
begin_read body =
    formed_read begin_body attested_asking body
    ∙ ap (ended_asking attested_asking) (reads_four begin_head (λ a. sized_bytes) (λ a. raw 32) (λ a. raw 32) _ _ _ body)
