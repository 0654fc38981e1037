-- How long the bytes of each format are: as Size says, of a value that the types hold and whose
-- lengths fit their fields.
-- Each name here is a step of a proof; what is written is said in Layout, and the sizes in Size.
-- Assumes nothing.
use Rattle.std.specs.Prelude.{ℕ, zero, suc, ◌+◌, ◌*◌, ◌≤◌, ◌<◌, ◌≡◌, refl, Bool, true, false, cond, List, [], ◌∷◌, length, take, get_or}
use Rattle.std.proofs.Common.{arith, add-one, ap, ap₂, ◌∙◌, length-append, length-take-le, get_or-take}
use Rattle.format.specs.Combinators.{Codec, dep, check, via, always}
use Rattle.format.specs.Num.{uint, raw, uint-long, raw_same}
use Rattle.format.specs.List.{vec, enc_vec, padded, flag, either, opt}
use Rattle.format.specs.Through.{boxed, boxed-bytes}
use Rattle.identity.specs.declared.identity.VoterSlotIdentity.{VoterSlotIdentity}
use Rattle.records.specs.Blank.{blank_voter_slot_log_id, blank_voter_slot_member, blank_voter_slot_record}
use Rattle.records.specs.Held.{HeldArray, all-at, HeldSpiffeId, HeldSnapshotId, HeldVoterSlotMember, HeldVoterReplacementResult, HeldVoterSlotRecord, HeldVoterSnapshotEvidence, HeldVoterConfiguration, HeldLostVoterAttestationV1, HeldVoterReplacementEvidence, HeldVoterReplacementRecord, HeldVoterSlotTable}
use Rattle.records.specs.Records.{no_slot_record}
use Rattle.records.specs.declared.records.SpiffeId.{SpiffeId}
use Rattle.records.specs.declared.records.SnapshotId.{SnapshotId}
use Rattle.records.specs.declared.records.VoterSlotLogId.{VoterSlotLogId}
use Rattle.records.specs.declared.records.OptionalLogId.{OptionalLogId}
use Rattle.records.specs.declared.records.VoterSlotMember.{VoterSlotMember}
use Rattle.records.specs.declared.records.VoterReplacementResult.{VoterReplacementResult}
use Rattle.records.specs.declared.records.VoterSlotRecord.{VoterSlotRecord}
use Rattle.records.specs.declared.records.VoterSnapshotEvidence.{VoterSnapshotEvidence}
use Rattle.records.specs.declared.records.VoterConfiguration.{VoterConfiguration}
use Rattle.records.specs.declared.records.LostVoterAttestationV1.{LostVoterAttestationV1}
use Rattle.records.specs.declared.records.VoterReplacementEvidence.{VoterReplacementEvidence}
use Rattle.records.specs.declared.records.VoterReplacementRecord.{VoterReplacementRecord}
use Rattle.records.specs.declared.records.VoterSlotTable.{VoterSlotTable}
use Rattle.layout.specs.Parts.{binding_of, result_head_of, slot_member_of, claims_request_of, claims_slot_of, claims_names_of, claims_end_of, early_cuts, late_cuts, table_head_of, ReplacementFits, TableFits}
use Rattle.layout.specs.Layout.{slot_id, incarnation, epoch, slot_count, choice, identity, log_id, optional_log_id, sized, string, spiffe_id, snapshot_id, binding, member, members, configuration, result_head, replacement_result, slot_member, slot, slots, version, claims_request, claims_slot, claims_names, times, claims_end, claims, attestation, snapshot, three_cuts, evidence, change, replacement, magic_and_version, table_head, table}
use Rattle.writer.specs.Size.{slot_size, slots_size, cut_size, three_cuts_size, configuration_size, attestation_size, evidence_size, replacement_size, table_size}
use Rattle.layout.specs.declared.parts.ThreeCuts.{ThreeCuts}

-- ---- the ways to make a format

-- a flag takes one byte, and an absent value no more
pub opt-long : {A : Type 0} (C : Codec A) (blank a : A) (b : Bool) → length ((opt C blank).enc (b, a)) ≡ 1 + cond b (length (C.enc a)) 0
unfolding opt dep flag via check either always
opt-long C blank a true = length-append ((uint 1).enc 1) (C.enc a) ∙ ap (λ n. n + length (C.enc a)) (uint-long 1 1)
opt-long C blank a false = length-append ((uint 1).enc 0) [] ∙ ap (λ n. n + 0) (uint-long 1 0)

-- ---- numbers and names

-- a slot and an incarnation: 2 and 8
pub identity-long : (i : VoterSlotIdentity) → length (identity.enc i) ≡ 10
unfolding identity via dep slot_id incarnation check
identity-long i = simp (length-append, uint-long)

-- a cut: term and index, 8 each
pub log_id-long : (c : VoterSlotLogId) → length (log_id.enc c) ≡ 16
unfolding log_id via dep
log_id-long c = simp (length-append, uint-long)

-- a cut that may be absent: 1, and 16 where it is there
pub optional_log_id-long : (c : OptionalLogId) → length (optional_log_id.enc c) ≡ cut_size c
unfolding optional_log_id via
optional_log_id-long c = opt-long log_id blank_voter_slot_log_id c.cut c.is_some ∙ by c.is_some
  where
    by : (b : Bool) → 1 + cond b (length (log_id.enc c.cut)) 0 ≡ cond b 17 1
    by true = ap (λ n. 1 + n) (log_id-long c.cut)
    by false = refl

-- a text of n bytes after its length
string-long' : (bound n : ℕ) (l : List ℕ) → n ≤ length l → length ((string bound).enc (n, take n l)) ≡ 2 + n
unfolding string sized check dep
string-long' bound n l h = length-append ((uint 2).enc n) ((raw n).enc (take n l)) ∙ ap₂ ◌+◌ (uint-long 2 n) (ap length (raw_same n (take n l)) ∙ length-take-le n l h)

-- a name: two bytes of length, and so many
pub spiffe_id-long : (s : SpiffeId) → HeldSpiffeId s → s.len ≤ 2048 → length (spiffe_id.enc s) ≡ 2 + s.len
unfolding spiffe_id via
spiffe_id-long s h l = string-long' 2048 s.len s.bytes (omega (arith, h.bytes.count))

-- a snapshot id, likewise
pub snapshot_id-long : (s : SnapshotId) → HeldSnapshotId s → s.len ≤ 256 → length (snapshot_id.enc s) ≡ 2 + s.len
unfolding snapshot_id via
snapshot_id-long s h l = string-long' 256 s.len s.bytes (omega (arith, h.bytes.count))

-- ---- lists

-- within a list it does not matter what would stand past its end
pub get_d_any : {A : Type 0} (l : List A) (i : ℕ) (d e : A) → i < length l → get_or l i d ≡ get_or l i e
get_d_any [] i d e h = absurd (omega arith)
get_d_any (x ∷ l) zero d e h = refl
get_d_any (x ∷ l) (suc i) d e h = get_d_any l i d e (omega arith)

-- values of which each takes k bytes
vec_size : {A : Type 0} (C : Codec A) (blank : A) (k n : ℕ) (l : List A) → ((i : ℕ) → i < n → length (C.enc (get_or l i blank)) ≡ k)
    → length (enc_vec C blank n l) ≡ k * n
unfolding enc_vec
vec_size C blank k zero l h = omega arith
vec_size C blank k (suc n) l h =
    length-append (enc_vec C blank n (take n l)) (C.enc (get_or l n blank))
    ∙ ap₂ ◌+◌ (vec_size C blank k n (take n l) (λ i q. rw (get_or-take n l i blank q) (h i (omega arith)))) (h n (omega arith))
    ∙ omega arith

-- the first n of nine, each of which the types hold
module _ {A : Type 0} (P : A → Type 0) (l : List A) (h : HeldArray P 9 l) (n : ℕ) (k : n ≤ 9) (blank : A) where
  pub first-held : (i : ℕ) → i < n → P (get_or (take n l) i blank)
  first-held i q = rw (get_or-take n l i blank q) (all-at P blank l i (omega (arith, h.count)) h.each)

-- ---- members and configurations

-- two digests of 32, and a generation
pub binding-long : (m : VoterSlotMember) → HeldVoterSlotMember m → length (binding.enc (binding_of m)) ≡ 72
unfolding binding via dep
binding-long m h = simp (length-append, uint-long, raw_same, h.key_digest.count, h.descriptor_digest.count)

-- an identity and its binding
pub member-long : (m : VoterSlotMember) → HeldVoterSlotMember m → length (member.enc m) ≡ 82
unfolding member via dep
member-long m h = simp (length-append, identity-long, binding-long m h)

-- n members, of the nine places
pub members-long : (n : ℕ) (l : List VoterSlotMember) → n ≤ 9 → HeldArray HeldVoterSlotMember 9 l → length ((members n).enc l) ≡ 82 * n
unfolding members padded via vec
members-long n l k h =
    vec_size member blank_voter_slot_member 82 n (take n l)
    (λ i q. member-long (get_or (take n l) i blank_voter_slot_member) (first-held HeldVoterSlotMember l h n k blank_voter_slot_member i q))

-- an epoch, a count, and the members
pub configuration-long : (c : VoterConfiguration) → HeldVoterConfiguration c → c.count ≤ 9 → length (configuration.enc c) ≡ configuration_size c
unfolding configuration via dep epoch slot_count check
configuration-long c h k = simp (length-append, uint-long, members-long c.count c.members k h.members)

-- ---- slots

-- a request id of 16, a digest of 32, and two numbers
pub result_head-long : (r : VoterReplacementResult) → HeldVoterReplacementResult r → length (result_head.enc (result_head_of r)) ≡ 64
unfolding result_head via dep incarnation check
result_head-long r h = simp (length-append, uint-long, raw_same, h.request_id.count, h.request_digest.count)

-- its front, an epoch, a kind, and a cut
pub result-long : (r : VoterReplacementResult) → HeldVoterReplacementResult r → length (replacement_result.enc r) ≡ 89
unfolding replacement_result via dep epoch choice check
result-long r h = simp (length-append, uint-long, result_head-long r h, log_id-long)

-- an identity, the retired number, the binding
pub slot_member-long : (s : VoterSlotRecord) → HeldVoterSlotRecord s → length (slot_member.enc (slot_member_of s)) ≡ 90
unfolding slot_member via dep
slot_member-long s h = simp (length-append, uint-long, identity-long, binding-long s.member h.member)

-- its front and its phase, 91; a flag, and the receipt where there is one
pub slot-long : (s : VoterSlotRecord) → HeldVoterSlotRecord s → length (slot.enc s) ≡ slot_size s
unfolding slot via dep choice check
slot-long s h =
    simp (length-append, uint-long, slot_member-long s h, opt-long) (by s.has_last_result)
  where
    by : (b : Bool) → 91 + (1 + cond b (length (replacement_result.enc s.last_result)) 0) ≡ cond b 181 92
    by true = ap (λ n. 91 + (1 + n)) (result-long s.last_result h.last_result)
    by false = refl

-- the slots of a list that are in use, and of its front
pub slots-front : (l : List VoterSlotRecord) (n k : ℕ) → n ≤ k → slots_size (take k l) n ≡ slots_size l n
unfolding slots_size
slots-front l zero k h = refl
slots-front l (suc n) k h = ap₂ (λ x s. x + slot_size s) (slots-front l n k (omega arith)) (get_or-take k l n no_slot_record h)

slots-size : (n : ℕ) (l : List VoterSlotRecord) → n ≤ length l → ((i : ℕ) → i < n → HeldVoterSlotRecord (get_or l i blank_voter_slot_record))
    → length (enc_vec slot blank_voter_slot_record n l) ≡ slots_size l n
unfolding enc_vec slots_size
slots-size zero l k h = refl
slots-size (suc n) l k h =
    length-append (enc_vec slot blank_voter_slot_record n (take n l)) (slot.enc (get_or l n blank_voter_slot_record))
    ∙ ap₂ ◌+◌
    (slots-size n (take n l) (omega (arith, length-take-le n l (omega arith))) (λ i q. rw (get_or-take n l i blank_voter_slot_record q) (h i (omega arith)))
    ∙ slots-front l n n (omega arith))
    (slot-long (get_or l n blank_voter_slot_record) (h n (omega arith)) ∙ ap (λ s. slot_size s) (get_d_any l n blank_voter_slot_record no_slot_record k))

-- n slots, of the nine places
pub slots-long : (n : ℕ) (l : List VoterSlotRecord) → n ≤ 9 → HeldArray HeldVoterSlotRecord 9 l → length ((slots n).enc l) ≡ slots_size l n
unfolding slots padded via vec
slots-long n l k h =
    slots-size n (take n l) (omega (arith, length-take-le n l (omega (arith, h.count)))) (first-held HeldVoterSlotRecord l h n k blank_voter_slot_record)
    ∙ slots-front l n n (omega arith)

-- one slot more, at `i + 1` as a loop counts; and no slot takes more than 181 or less than 92
pub slots-more : (l : List VoterSlotRecord) (i : ℕ) → slots_size l (i + 1) ≡ slots_size l i + slot_size (get_or l i no_slot_record)
unfolding slots_size
slots-more l i = rw add-one

slot-bounds : (s : VoterSlotRecord) → (92 ≤ slot_size s) × (slot_size s ≤ 181)
slot-bounds s = by s.has_last_result
  where
    by : (b : Bool) → (92 ≤ cond b 181 92) × (cond b 181 92 ≤ 181)
    by true = (omega arith, omega arith)
    by false = (omega arith, omega arith)

pub slots-bounds : (l : List VoterSlotRecord) (n : ℕ) → (92 * n ≤ slots_size l n) × (slots_size l n ≤ 181 * n)
unfolding slots_size
slots-bounds l zero = (omega arith, omega arith)
slots-bounds l (suc n) =
    let h = slots-bounds l n in
    let k = slot-bounds (get_or l n no_slot_record) in
    (omega arith, omega arith)

-- ---- an attestation

version-long : (u : Unit {0}) → length (version.enc u) ≡ 2
unfolding version via check
version-long u = uint-long 2 1

module _ (a : LostVoterAttestationV1) (h : HeldLostVoterAttestationV1 a) where
  -- version, request id, request digest
  pub claims_request-long : length (claims_request.enc (claims_request_of a)) ≡ 50
  unfolding claims_request via dep
  claims_request-long = simp (length-append, version-long, raw_same, h.request_id.count, h.request_digest.count)

  -- installation, identity, two digests
  pub claims_slot-long : length (claims_slot.enc (claims_slot_of a)) ≡ 106
  unfolding claims_slot via dep
  claims_slot-long = simp (length-append, identity-long, raw_same, h.cluster_instance.count, h.old_descriptor_digest.count, h.candidate_key_digest.count)

  -- reason, policy, four times, signature
  pub claims_end-long : length (claims_end.enc (claims_end_of a)) ≡ 129
  unfolding claims_end via dep choice check times
  claims_end-long = simp (length-append, uint-long, raw_same, h.policy_digest.count, h.signature.count)

  module _ (k : a.candidate_spiffe_id.len ≤ 2048) (l : a.controller_spiffe_id.len ≤ 2048) where
    -- generation, both names, and the key that signs
    pub claims_names-long : length (claims_names.enc (claims_names_of a)) ≡ 44 + a.candidate_spiffe_id.len + a.controller_spiffe_id.len
    unfolding claims_names via dep
    claims_names-long =
        simp (length-append, uint-long, spiffe_id-long a.candidate_spiffe_id h.candidate_spiffe_id k, spiffe_id-long a.controller_spiffe_id h.controller_spiffe_id l, raw_same, h.signing_key_digest.count)
        (omega arith)

    -- all four groups: 329, and both names
    pub claims-long : length (claims.enc a) ≡ attestation_size a
    unfolding claims via dep
    claims-long = simp (length-append, claims_request-long, claims_slot-long, claims_names-long, claims_end-long) (omega arith)

    -- the test of an attestation writes nothing
    pub attestation-long : length (attestation.enc a) ≡ attestation_size a
    unfolding attestation check
    attestation-long = claims-long

-- in its box it takes two bytes more
pub boxed-sum : (a : LostVoterAttestationV1) → length ((boxed attestation 8192).enc a) ≡ 2 + length (claims.enc a)
unfolding attestation check
boxed-sum a =
    ap length (boxed-bytes attestation 8192 a) ∙ length-append ((uint 2).enc (length (claims.enc a))) (claims.enc a) ∙ ap (λ n. n + length (claims.enc a)) (uint-long 2 (length (claims.enc a)))

-- ---- an open request

-- a cut, an id, a digest
pub snapshot-long : (s : VoterSnapshotEvidence) → HeldVoterSnapshotEvidence s → s.snapshot_id.len ≤ 256 → length (snapshot.enc s) ≡ 50 + s.snapshot_id.len
unfolding snapshot via dep
snapshot-long s h k = simp (length-append, log_id-long, snapshot_id-long s.snapshot_id h.snapshot_id k, raw_same, h.digest.count) (omega arith)

-- three cuts that may be absent
pub three_cuts-long : (c : ThreeCuts) → length (three_cuts.enc c) ≡ three_cuts_size c
unfolding three_cuts via dep
three_cuts-long c = simp (length-append, optional_log_id-long)

-- the evidence from its six cuts, an open request from its parts, a table from its slots and its
-- request: as the sizes are added up
pub evidence-sum : (e : VoterReplacementEvidence) → HeldVoterReplacementEvidence e → e.snapshot.snapshot_id.len ≤ 256
    → (let cuts = length (three_cuts.enc (early_cuts e)) + length (three_cuts.enc (late_cuts e)) in
    length (evidence.enc e) ≡ cond e.has_snapshot (67 + e.snapshot.snapshot_id.len + cuts) (17 + cuts))
unfolding evidence via dep
evidence-sum e h k =
    simp (length-append, log_id-long, opt-long) (by e.has_snapshot (length (three_cuts.enc (early_cuts e))) (length (three_cuts.enc (late_cuts e))))
  where
    by : (b : Bool) (m n : ℕ) → 16 + (1 + cond b (length (snapshot.enc e.snapshot)) 0) + m + n ≡ cond b (67 + e.snapshot.snapshot_id.len + (m + n)) (17 + (m + n))
    by true m n = omega (arith, snapshot-long e.snapshot h.snapshot k)
    by false m n = omega arith

-- and so the evidence, as Size says
pub evidence-long : (e : VoterReplacementEvidence) → HeldVoterReplacementEvidence e → e.snapshot.snapshot_id.len ≤ 256 → length (evidence.enc e) ≡ evidence_size e
unfolding evidence_size
evidence-long e h k =
    evidence-sum e h k
    ∙ ap₂ (λ m n. cond e.has_snapshot (67 + e.snapshot.snapshot_id.len + (m + n)) (17 + (m + n))) (three_cuts-long (early_cuts e)) (three_cuts-long (late_cuts e))

pub replacement-sum : (r : VoterReplacementRecord)
    → length (replacement.enc r) ≡ 11 + length (claims.enc r.attestation) + (length (configuration.enc r.predecessor) + length (configuration.enc r.successor)) + length (evidence.enc r.evidence)
unfolding replacement change via dep choice check
replacement-sum r = simp (length-append, uint-long, boxed-sum) (omega arith)

-- and so an open request
pub replacement-long : (r : VoterReplacementRecord) → HeldVoterReplacementRecord r → ReplacementFits r → length (replacement.enc r) ≡ replacement_size r
unfolding replacement_size
replacement-long r h f =
    let a = claims-long r.attestation h.attestation f.candidate f.controller in
    let p = configuration-long r.predecessor h.predecessor f.predecessor in
    let s = configuration-long r.successor h.successor f.successor in
    let e = evidence-long r.evidence h.evidence f.snapshot in
    omega (arith, replacement-sum r)

-- ---- a table

-- the magic and the version
pub head-long : (u : Unit {0}) → length (magic_and_version.enc u) ≡ 6
unfolding magic_and_version via check dep
head-long u = simp (raw_same, uint-long)

-- two digests of 32, and two numbers
pub table_head-long : (t : VoterSlotTable) → HeldVoterSlotTable t → length (table_head.enc (table_head_of t)) ≡ 80
unfolding table_head via dep epoch check
table_head-long t h = simp (length-append, uint-long, raw_same, h.cluster_instance.count, h.manifest_digest.count)

pub table-sum : (t : VoterSlotTable) → HeldVoterSlotTable t
    → length (table.enc t) ≡ 88 + length ((slots t.count).enc t.slots) + cond t.has_replacement (length (replacement.enc t.replacement)) 0
unfolding table via dep slot_count check
table-sum t h = simp (length-append, head-long, table_head-long t h, uint-long, opt-long) (omega arith)

-- and so a table
pub table-long : (t : VoterSlotTable) → HeldVoterSlotTable t → TableFits t → length (table.enc t) ≡ table_size t
unfolding table_size
table-long t h f =
    table-sum t h
    ∙ ap₂ (λ m n. 88 + m + cond t.has_replacement n 0) (slots-long t.count t.slots f.count h.slots) (replacement-long t.replacement h.replacement f.replacement)

-- ---- between 180 and 8072

pub cut_most : (o : OptionalLogId) → cut_size o ≤ 17
cut_most o = by o.is_some
  where
    by : (b : Bool) → cond b 17 1 ≤ 17
    by true = omega arith
    by false = omega arith

pub cuts-most : (c : ThreeCuts) → three_cuts_size c ≤ 51
cuts-most c = omega (arith, cut_most c.first, cut_most c.second, cut_most c.third)

pub evidence-most : (e : VoterReplacementEvidence) → e.snapshot.snapshot_id.len ≤ 256 → evidence_size e ≤ 425
unfolding evidence_size
evidence-most e h = by e.has_snapshot (three_cuts_size (early_cuts e)) (three_cuts_size (late_cuts e)) (cuts-most (early_cuts e)) (cuts-most (late_cuts e))
  where
    by : (b : Bool) (m n : ℕ) → m ≤ 51 → n ≤ 51 → cond b (67 + e.snapshot.snapshot_id.len + (m + n)) (17 + (m + n)) ≤ 425
    by true m n k l = omega arith
    by false m n k l = omega arith

pub replacement-most : (r : VoterReplacementRecord) → ReplacementFits r → replacement_size r ≤ 6355
unfolding replacement_size
replacement-most r f = omega (arith, evidence-most r.evidence f.snapshot)

-- a table of at least one slot, that fits
pub table-bounds : (t : VoterSlotTable) → TableFits t → 1 ≤ t.count → (180 ≤ table_size t) × (table_size t ≤ 8072)
unfolding table_size
table-bounds t f k =
    let s = slots-bounds t.slots t.count in
    let o = by t.has_replacement in
    let c = f.count in
    (omega arith, omega arith)
  where
    by : (b : Bool) → cond b (replacement_size t.replacement) 0 ≤ 6355
    by true = replacement-most t.replacement f.replacement
    by false = omega arith

-- what the code that adds the sizes up uses: no part is too large
pub ruleset sizes = (cut_most, cuts-most, evidence-most, replacement-most, slots-more, slots-bounds)
