-- The formats hold what the types hold, the representability check passes and validity accepts:
-- `table.Good t`, format by format, leaves first.
-- Each name here is a step of a proof; what is right is said in Layout, Representable and
-- Validation.
-- Assumes nothing.
use Rattle.std.specs.Prelude.{ℕ, zero, suc, ◌+◌, ◌-◌, ◌^◌, ◌≤◌, ◌<◌, ◌≡◌, Bool, ◌&&◌, List, [], ◌∷◌, ◌++◌, length, drop, replicate, leb}
use Rattle.std.proofs.Common.{zero-le, arith, ◌∙◌, length-drop, length-take-le, get_or-take, get_or-drop, ext_get_or, lit<, le-leb}
use Rattle.std.proofs.Math.Path.{refl, sym, ap, subst}
use Rattle.std.proofs.Math.Bool.{true, false, cond}
use Rattle.std.proofs.lemmas.Bool.{false≢true, lt-leb}
use Rattle.std.proofs.Math.ListN.{take, get_or, take-append-drop}
use Rattle.std.proofs.lemmas.List.{length-replicate, get_or-replicate}
use Rattle.identity.specs.Answer.{number_of, Accepted, InvalidSlot, InvalidIncarnation}
use Rattle.identity.specs.Identity.{is_slot_id, is_voter_incarnation, is_configuration_epoch, validate_slot_id, validate_voter_incarnation}
use Rattle.identity.specs.Text.{is_utf8}
use Rattle.identity.specs.declared.identity.VoterSlotIdentity.{VoterSlotIdentity}
use Rattle.format.specs.Combinators.{Codec, Bytes, dep, check, via, held, always}
use Rattle.format.specs.Num.{uint, raw, pick, bytes_take, bytes-append, bytes-be}
use Rattle.format.specs.List.{vec, vec-long, padded, flag, flag_test, either, opt}
use Rattle.format.specs.Through.{boxed, boxed-good}
use Rattle.records.specs.Blank.{blank_voter_slot_log_id, blank_voter_slot_member, blank_voter_replacement_result, blank_voter_slot_record, blank_voter_snapshot_evidence, blank_voter_replacement_record}
use Rattle.records.specs.Equality.{same_voter_slot_log_id, same_voter_slot_member, same_voter_replacement_result, same_voter_slot_record, same_voter_snapshot_evidence, same_voter_replacement_record}
use Rattle.records.specs.EqualityLaws.{eq_bytes-true, same_voter_slot_log_id-true, same_voter_slot_member-true, same_voter_replacement_result-true, same_voter_slot_record-true, same_voter_snapshot_evidence-true, same_voter_replacement_record-true}
use Rattle.records.specs.Held.{AllOf, HeldArray, all-at, Byte, HeldBytes, HeldVoterSlotIdentity, HeldSpiffeId, HeldSnapshotId, HeldVoterSlotLogId, HeldOptionalLogId, HeldVoterSlotMember, HeldVoterReplacementResult, HeldVoterSlotRecord, HeldVoterSnapshotEvidence, HeldVoterConfiguration, HeldLostVoterAttestationV1, HeldVoterReplacementEvidence, HeldVoterReplacementRecord, HeldVoterSlotTable}
use Rattle.records.specs.Records.{all_below, no_member, no_slot_record}
use Rattle.records.specs.RecordsLaws.{all_below-at}
use Rattle.records.specs.Representable.{is_text, representable_spiffe_id, representable_snapshot_id, representable_optional_log_id, representable_member, representable_result, representable_slot_record, representable_configuration, representable_attestation, representable_evidence, representable_replacement, representable}
use Rattle.records.specs.RepresentableLaws.{representable-count}
use Rattle.records.specs.Validation.{valid_count, valid_configuration, valid_attestation, validity}
use Rattle.records.specs.ValidationLaws.{count_small}
use Rattle.records.specs.ZeroLaws.{eq_bytes-zeros}
use Rattle.records.specs.declared.records.SpiffeId.{SpiffeId}
use Rattle.records.specs.declared.records.SnapshotId.{SnapshotId}
use Rattle.records.specs.declared.records.VoterSlotLogId.{VoterSlotLogId}
use Rattle.records.specs.declared.records.OptionalLogId.{OptionalLogId}
use Rattle.records.specs.declared.records.VoterSlotMember.{VoterSlotMember}
use Rattle.records.specs.declared.records.VoterReplacementResult.{VoterReplacementResult}
use Rattle.records.specs.declared.records.VoterSlotRecord.{VoterSlotRecord}
use Rattle.records.specs.declared.records.VoterSnapshotEvidence.{VoterSnapshotEvidence}
use Rattle.records.specs.declared.records.VoterConfiguration.{VoterConfiguration}
use Rattle.records.specs.declared.records.LostVoterAttestationV1.{LostVoterAttestationV1}
use Rattle.records.specs.declared.records.VoterReplacementEvidence.{VoterReplacementEvidence}
use Rattle.records.specs.declared.records.VoterReplacementRecord.{VoterReplacementRecord}
use Rattle.records.specs.declared.records.VoterSlotTable.{VoterSlotTable}
use Rattle.layout.specs.Parts.{binding_of, result_head_of, slot_member_of, claims_request_of, claims_slot_of, claims_names_of, claims_end_of, times_of, change_of, table_head_of}
use Rattle.layout.specs.Layout.{require, slot_id, incarnation, epoch, slot_count, choice, identity, log_id, optional_log_id, sized, string, placed, spiffe_id, snapshot_id, binding, member, members, configuration, result_head, replacement_result, slot_member, slot, slots, version, claims_request, claims_slot, claims_names, times, claims_end, claims, attestation, snapshot, three_cuts, evidence, change, replacement, magic, head_test, magic_and_version, table_head, table}
use Rattle.records.specs.RepresentableParts.{text-is, member_is, result-is, slot_is, configuration-is, attestation-is, evidence-is, replacement-is, table_is}
use Rattle.records.specs.TestLaws.{and_both, says, cond-true, cond-false}
use Rattle.codec.specs.FitsLaws.{text-fits, attestation-fits, configuration-count}
use Rattle.records.specs.ValidParts.{valid-slots-hold, configuration-holds, open-holds}
use Rattle.writer.specs.SizeLaws.{attestation-long, get_d_any}

-- ---- the ways to make a format

-- bytes of an array
bytes_of : (l : List ℕ) → AllOf Byte l → Bytes l
unfolding Bytes
bytes_of [] a i = lit< tt
bytes_of (x ∷ l) a zero = a.0
bytes_of (x ∷ l) a (suc i) = bytes_of l a.1 i

-- an array of n bytes
pub raw-good : (n : ℕ) (l : List ℕ) → HeldBytes n l → (raw n).Good l
unfolding raw
raw-good n l h = (h.count, bytes_of l h.each)

-- a number that fits its bytes
pub uint-good : (k x : ℕ) → x < 256 ^ k → (uint k).Good x
unfolding uint held
uint-good k x h = h

-- a test that is passed
pub require-good : (b : Bool) → b ≡ true → require b ≡ 0
unfolding pick
require-good b h = ap (λ (c : Bool). require c) h

-- a part that is there passes its test, and one that is absent is the blank
module _ {A : Type 0} (C : Codec A) (blank a : A) (test same : Bool) (good : test ≡ true → C.Good a) (is : same ≡ true → a ≡ blank) where
  pub opt-good : (b : Bool) → cond b test same ≡ true → (opt C blank).Good (b, a)
  unfolding opt dep flag via check uint held flag_test pick either always
  opt-good true h = (((lit< tt, refl), refl), good h)
  opt-good false h = (((lit< tt, refl), refl), sym (is h))

-- all after the first n are the blank
blanks-after : {A : Type 0} (blank d : A) (l : List A) (n k : ℕ) → length l ≡ k → ((i : ℕ) → n ≤ i → i < k → get_or l i d ≡ blank) → drop n l ≡ replicate (k - n) blank
blanks-after blank d l n k e h =
    ext_get_or d (drop n l) (replicate (k - n) blank)
    (length-drop n l ∙ ap (λ m. m - n) e ∙ sym (length-replicate (k - n) blank))
    (λ i q.
    let b : i < k - n = omega (arith, length-drop n l) in
    get_or-drop n l i d ∙ h (n + i) (omega arith) (omega arith) ∙ sym (get_or-replicate (k - n) i blank d b))

-- nine places, of which the first n are in use: each in use passes its test, and each after them is
-- the blank
module _ {A : Type 0} (C : Codec A) (blank d : A) (P : A → Type 0) (test same : A → Bool) (good : (a : A) → P a → test a ≡ true → C.Good a) (is : (a : A) → same a ≡ true → a ≡ blank) where
  pub places-good : (l : List A) (n : ℕ) → n ≤ 9 → HeldArray P 9 l → all_below (λ i. cond (leb n i) (same (get_or l i d)) (test (get_or l i d))) 9 ≡ true
      → (padded (vec C blank n) n 9 blank (vec-long C blank n)).Good l
  unfolding padded via vec
  places-good l n k h a =
      let c = h.count in
      let place : (i : ℕ) → i < 9 → cond (leb n i) (same (get_or l i d)) (test (get_or l i d)) ≡ true =
      λ i q. all_below-at (λ i. cond (leb n i) (same (get_or l i d)) (test (get_or l i d))) 9 i a q in
      let used : (i : ℕ) → i < n → C.Good (get_or (take n l) i blank) =
      λ i q.
      subst C.Good (sym (get_or-take n l i blank q ∙ get_d_any l i blank d (omega arith)))
      (good (get_or l i d) (all-at P d l i (omega arith) h.each) (sym (cond-false (leb n i) (same (get_or l i d)) (test (get_or l i d)) (lt-leb n i q)) ∙ place i (omega arith))) in
      let after : (i : ℕ) → n ≤ i → i < 9 → get_or l i d ≡ blank =
      λ i q r. is (get_or l i d) (sym (cond-true (leb n i) (same (get_or l i d)) (test (get_or l i d)) (le-leb n i q)) ∙ place i r) in
      ((length-take-le n l (omega arith), used), ap (λ r. take n l ++ r) (sym (blanks-after blank d l n 9 c after)) ∙ take-append-drop n l)

-- ---- numbers and names

-- a slot number, from 1
pub slot_id-good : (x : ℕ) → x < 2 ^ 16 → is_slot_id x ≡ true → slot_id.Good x
unfolding slot_id check validate_slot_id
slot_id-good x h k = (uint-good 2 x h, ap (λ (b : Bool). number_of (cond b Accepted InvalidSlot)) k)

-- an incarnation, 1 to 2^47
pub incarnation-good : (x : ℕ) → x < 2 ^ 64 → is_voter_incarnation x ≡ true → incarnation.Good x
unfolding incarnation check validate_voter_incarnation
incarnation-good x h k = (uint-good 8 x h, ap (λ (b : Bool). number_of (cond b Accepted InvalidIncarnation)) k)

-- an epoch, from 1
pub epoch-good : (x : ℕ) → x < 2 ^ 64 → is_configuration_epoch x ≡ true → epoch.Good x
unfolding epoch check
epoch-good x h k = (uint-good 8 x h, require-good (is_configuration_epoch x) k)

-- an odd count, 1 to 9
pub count-good : (n : ℕ) → valid_count n ≡ true → slot_count.Good n
unfolding slot_count check
count-good n h = let k = count_small n h in (uint-good 1 n (omega arith), require-good (valid_count n) h)

-- one of the numbers from low to high
pub choice-good : (low high x : ℕ) → x < 2 ^ 8 → (leb low x && leb x high) ≡ true → (choice low high).Good x
unfolding choice check
choice-good low high x h k = (uint-good 1 x h, require-good (leb low x && leb x high) k)

-- one of the numbers from 0 on
up-to-good : (high x : ℕ) → x < 2 ^ 8 → leb x high ≡ true → (choice 0 high).Good x
up-to-good high x h k = choice-good 0 high x h (and_both (leb 0 x) (leb x high) (le-leb 0 x zero-le) k)

-- a slot and an incarnation
pub identity-good : (i : VoterSlotIdentity) → HeldVoterSlotIdentity i → is_slot_id i.slot ≡ true → is_voter_incarnation i.incarnation ≡ true → identity.Good i
unfolding identity via dep
identity-good i h k l = ((slot_id-good i.slot h.slot k, incarnation-good i.incarnation h.incarnation l), refl)

-- a cut, of any numbers
pub log_id-good : (c : VoterSlotLogId) → HeldVoterSlotLogId c → log_id.Good c
unfolding log_id via dep
log_id-good c h = ((uint-good 8 c.term h.term, uint-good 8 c.index h.index), refl)

-- a cut, or the blank where it is absent
pub optional_log_id-good : (c : OptionalLogId) → HeldOptionalLogId c → representable_optional_log_id c ≡ true → optional_log_id.Good c
unfolding optional_log_id via representable_optional_log_id
optional_log_id-good c h r = (
  opt-good log_id blank_voter_slot_log_id c.cut true (same_voter_slot_log_id c.cut blank_voter_slot_log_id)
      (λ e. log_id-good c.cut h.cut)
      (same_voter_slot_log_id-true c.cut blank_voter_slot_log_id)
      c.is_some r,
  refl,
)

-- a text in a place of `bound` bytes
module _ (bound n : ℕ) (l : List ℕ) (small : bound < 256 ^ 2) (h : HeldBytes bound l) (t : is_text bound n l ≡ true) where
  string-good : (string bound).Good (n, take n l)
  unfolding string sized check dep raw pick
  string-good =
      let k = text-fits bound n l t in
      let c = h.count in (
        ((uint-good 2 n (omega arith), ap (λ (b : Bool). pick {A = ℕ} b 0 5) (le-leb n bound k)), (length-take-le n l (omega arith), bytes_take n l (bytes_of l h.each))),
        require-good (is_utf8 (take n l)) (says (text-is bound n l) t).1.0,
      )

  placed-good : placed bound (n, take n l) ≡ l
  placed-good =
      let z : drop n l ≡ replicate (bound - n) 0 =
      eq_bytes-true (drop n l) (replicate (bound - n) 0)
      (eq_bytes-zeros (drop n l) (bound - n) (length-drop n l ∙ ap (λ m. m - n) h.count) ∙ (says (text-is bound n l) t).1.1) in
      ap (λ r. take n l ++ r) (sym z) ∙ take-append-drop n l

-- a name: no longer than its place, UTF-8, zeros after it
pub spiffe_id-good : (s : SpiffeId) → HeldSpiffeId s → representable_spiffe_id s ≡ true → spiffe_id.Good s
unfolding spiffe_id via
spiffe_id-good s h r = (
  string-good 2048 s.len s.bytes (lit< tt) h.bytes r,
  ap {B = SpiffeId} (λ (l : List ℕ). record { len = s.len; bytes = l }) (placed-good 2048 s.len s.bytes (lit< tt) h.bytes r),
)

-- a snapshot id, likewise
pub snapshot_id-good : (s : SnapshotId) → HeldSnapshotId s → representable_snapshot_id s ≡ true → snapshot_id.Good s
unfolding snapshot_id via
snapshot_id-good s h r = (
  string-good 256 s.len s.bytes (lit< tt) h.bytes r,
  ap {B = SnapshotId} (λ (l : List ℕ). record { len = s.len; bytes = l }) (placed-good 256 s.len s.bytes (lit< tt) h.bytes r),
)

-- ---- members and configurations

-- what follows an identity in a member, of any values
pub binding-good : (m : VoterSlotMember) → HeldVoterSlotMember m → binding.Good (binding_of m)
unfolding binding via dep
binding-good m h = (
  (
    (raw-good 32 m.key_digest h.key_digest, raw-good 32 m.descriptor_digest h.descriptor_digest),
    uint-good 8 m.admission_generation h.admission_generation,
  ),
  refl,
)

-- a member that passes its test
pub member-good : (m : VoterSlotMember) → HeldVoterSlotMember m → representable_member m ≡ true → member.Good m
unfolding member via dep
member-good m h r =
    let s = says (member_is m) r in
    ((identity-good m.identity h.identity s.0 s.1, binding-good m h), refl)

-- members in the places of a configuration, blanks after them
pub members-good : (c : VoterConfiguration) → HeldVoterConfiguration c → representable_configuration c ≡ true → (members c.count).Good c.members
unfolding members
members-good c h r =
    places-good member blank_voter_slot_member no_member HeldVoterSlotMember representable_member (λ m. same_voter_slot_member m blank_voter_slot_member)
    member-good (λ m. same_voter_slot_member-true m blank_voter_slot_member)
    c.members c.count (configuration-count c r) h.members (says (configuration-is c) r).1.1

-- a configuration that passes its test and is valid
pub configuration-good : (c : VoterConfiguration) → HeldVoterConfiguration c → representable_configuration c ≡ true → valid_configuration c ≡ true → configuration.Good c
unfolding configuration via dep
configuration-good c h r v =
    (((epoch-good c.epoch h.epoch (says (configuration-is c) r).0, count-good c.count (configuration-holds c v).odd), members-good c h r), refl)

-- ---- slots

-- a receipt's front
pub result_head-good : (r : VoterReplacementResult) → HeldVoterReplacementResult r → representable_result r ≡ true → result_head.Good (result_head_of r)
unfolding result_head via dep
result_head-good r h t = (
  (
    (
      (raw-good 16 r.request_id h.request_id, raw-good 32 r.request_digest h.request_digest),
      incarnation-good r.incarnation h.incarnation (says (result-is r) t).0,
    ),
    uint-good 8 r.revision h.revision,
  ),
  refl,
)

-- a receipt that passes its test
pub result-good : (r : VoterReplacementResult) → HeldVoterReplacementResult r → representable_result r ≡ true → replacement_result.Good r
unfolding replacement_result via dep
result-good r h t = (
  (
    (
      (result_head-good r h t, epoch-good r.configuration_epoch h.configuration_epoch (says (result-is r) t).1.0),
      up-to-good 1 r.kind h.kind (says (result-is r) t).1.1,
    ),
    log_id-good r.terminal h.terminal,
  ),
  refl,
)

-- a slot's front
pub slot_member-good : (s : VoterSlotRecord) → HeldVoterSlotRecord s → representable_member s.member ≡ true → slot_member.Good (slot_member_of s)
unfolding slot_member via dep
slot_member-good s h r =
    let k = says (member_is s.member) r in (
      (
        (identity-good s.member.identity h.member.identity k.0 k.1, uint-good 8 s.retired_through h.retired_through),
        binding-good s.member h.member,
      ),
      refl,
    )

-- a slot that passes its test
pub slot-good : (s : VoterSlotRecord) → HeldVoterSlotRecord s → representable_slot_record s ≡ true → slot.Good s
unfolding slot via dep
slot-good s h r =
    let k = says (slot_is s) r in (
      (
        (slot_member-good s h k.0, up-to-good 2 s.phase h.phase k.1.0),
        opt-good replacement_result blank_voter_replacement_result s.last_result (representable_result s.last_result) (same_voter_replacement_result s.last_result blank_voter_replacement_result)
            (result-good s.last_result h.last_result)
            (same_voter_replacement_result-true s.last_result blank_voter_replacement_result)
            s.has_last_result k.1.1,
      ),
      refl,
    )

-- slots in the places of a table, blanks after them
pub slots-good : (t : VoterSlotTable) → HeldVoterSlotTable t → representable t ≡ true → (slots t.count).Good t.slots
unfolding slots
slots-good t h r =
    places-good slot blank_voter_slot_record no_slot_record HeldVoterSlotRecord representable_slot_record (λ s. same_voter_slot_record s blank_voter_slot_record)
    slot-good (λ s. same_voter_slot_record-true s blank_voter_slot_record)
    t.slots t.count (representable-count t r) h.slots (says (table_is t) r).1.1.0

-- ---- an attestation

-- the version is 1
pub version-good : version.Good tt
unfolding version via check pick
version-good = ((uint-good 2 1 (lit< tt), refl), refl)

module _ (a : LostVoterAttestationV1) (h : HeldLostVoterAttestationV1 a) where
  -- the request of an attestation, of any values
  pub claims_request-good : claims_request.Good (claims_request_of a)
  unfolding claims_request via dep
  claims_request-good = (
    ((version-good, raw-good 16 a.request_id h.request_id), raw-good 32 a.request_digest h.request_digest),
    refl,
  )

  -- its times, of any values
  pub times-good : times.Good (times_of a)
  unfolding times via dep
  times-good = (
    (
      (
        (uint-good 8 a.observation_start_ms h.observation_start_ms, uint-good 8 a.decision_ms h.decision_ms),
        uint-good 8 a.issued_ms h.issued_ms,
      ),
      uint-good 8 a.expires_ms h.expires_ms,
    ),
    refl,
  )

  module _ (r : representable_attestation a ≡ true) where
    -- its slot and incarnation, which pass their tests
    pub claims_slot-good : claims_slot.Good (claims_slot_of a)
    unfolding claims_slot via dep
    claims_slot-good =
        let s = says (attestation-is a) r in (
          (
            (
              (
                raw-good 32 a.cluster_instance h.cluster_instance,
                identity-good (claims_slot_of a).identity (record { slot = h.slot; incarnation = h.expected_incarnation }) s.0 s.1.0,
              ),
              raw-good 32 a.old_descriptor_digest h.old_descriptor_digest,
            ),
            raw-good 32 a.candidate_key_digest h.candidate_key_digest,
          ),
          refl,
        )

    -- its names, which pass theirs
    pub claims_names-good : claims_names.Good (claims_names_of a)
    unfolding claims_names via dep
    claims_names-good =
        let s = says (attestation-is a) r in (
          (
            (
              (
                uint-good 8 a.admission_generation h.admission_generation,
                spiffe_id-good a.candidate_spiffe_id h.candidate_spiffe_id s.1.1.0,
              ),
              spiffe_id-good a.controller_spiffe_id h.controller_spiffe_id s.1.1.1.0,
            ),
            raw-good 32 a.signing_key_digest h.signing_key_digest,
          ),
          refl,
        )

    -- its reason, 1 or 2
    pub claims_end-good : claims_end.Good (claims_end_of a)
    unfolding claims_end via dep
    claims_end-good = (
      (
        (
          (choice-good 1 2 a.reason h.reason (says (attestation-is a) r).1.1.1.1, raw-good 32 a.policy_digest h.policy_digest),
          times-good,
        ),
        raw-good 64 a.signature h.signature,
      ),
      refl,
    )

    -- the four groups of one that passes its test
    pub claims-good : claims.Good a
    unfolding claims via dep
    claims-good = ((((claims_request-good, claims_slot-good), claims_names-good), claims_end-good), refl)

    -- and is valid
    pub attestation-good : valid_attestation a ≡ true → attestation.Good a
    unfolding attestation check
    attestation-good v = (claims-good, require-good (valid_attestation a) v)

-- ---- what is written of an attestation are bytes

-- every value that a format holds is written as bytes
record Written {A : Type 0} (C : Codec A) : Type 0 where
  bytes : (a : A) → C.Good a → Bytes (C.enc a)

uint-written : (k : ℕ) → Written (uint k)
unfolding uint held via raw
uint-written k = record { bytes = λ x g. bytes-be k x }

raw-written : (n : ℕ) → Written (raw n)
unfolding raw
raw-written n = record { bytes = λ l g. g.1 }

dep-written : {A B : Type 0} {C : Codec A} {D : A → Codec B} → Written C → ((a : A) → Written (D a)) → Written (dep C D)
unfolding dep
dep-written {C = C} {D = D} c d =
    record { bytes = λ p g. bytes-append (C.enc p.0) ((D p.0).enc p.1) (c.bytes p.0 g.0) ((d p.0).bytes p.1 g.1) }

check-written : {A : Type 0} {C : Codec A} (test : A → ℕ) → Written C → Written (check C test)
unfolding check
check-written test c = record { bytes = λ a g. c.bytes a g.0 }

via-written : {A B : Type 0} {C : Codec A} (f : A → B) (g : B → A) (same : (a : A) → C.Good a → g (f a) ≡ a) → Written C → Written (via C f g same)
unfolding via
via-written f g same c = record { bytes = λ b h. c.bytes (g b) h.0 }

identity-written : Written identity
unfolding identity slot_id incarnation
identity-written = via-written _ _ _ (dep-written (check-written _ (uint-written 2)) (λ a. check-written _ (uint-written 8)))

string-written : (bound : ℕ) → Written (string bound)
unfolding string sized
string-written bound = check-written _ (dep-written (check-written _ (uint-written 2)) raw-written)

spiffe_id-written : Written spiffe_id
unfolding spiffe_id
spiffe_id-written = via-written _ _ _ (string-written 2048)

claims-written : Written claims
unfolding claims claims_request claims_slot claims_names claims_end times version choice
claims-written =
    via-written _ _ _ (dep-written (dep-written (dep-written
    (via-written _ _ _ (dep-written (dep-written (via-written _ _ _ (check-written _ (uint-written 2))) (λ a. raw-written 16)) (λ a. raw-written 32)))
    (λ a. via-written _ _ _ (dep-written (dep-written (dep-written (raw-written 32) (λ a. identity-written)) (λ a. raw-written 32)) (λ a. raw-written 32))))
    (λ a. via-written _ _ _ (dep-written (dep-written (dep-written (uint-written 8) (λ a. spiffe_id-written)) (λ a. spiffe_id-written)) (λ a. raw-written 32))))
    (λ a. via-written _ _ _ (dep-written (dep-written (dep-written (check-written _ (uint-written 1)) (λ a. raw-written 32))
    (λ a. via-written _ _ _ (dep-written (dep-written (dep-written (uint-written 8) (λ a. uint-written 8)) (λ a. uint-written 8)) (λ a. uint-written 8)))) (λ a. raw-written 64))))

attestation-written : Written attestation
unfolding attestation
attestation-written = check-written _ claims-written

-- in its box: its bytes are no more than 4,425
pub box-good : (a : LostVoterAttestationV1) → HeldLostVoterAttestationV1 a → representable_attestation a ≡ true → valid_attestation a ≡ true → (boxed attestation 8192).Good a
box-good a h r v =
    let f = attestation-fits a r in
    let n = attestation-long a h f.0 f.1 in
    let g = attestation-good a h r v in
    boxed-good attestation 8192 a g (attestation-written.bytes a g) (omega arith) (omega arith)

-- ---- an open request

-- a snapshot whose id passes its test
pub snapshot-good : (s : VoterSnapshotEvidence) → HeldVoterSnapshotEvidence s → representable_snapshot_id s.snapshot_id ≡ true → snapshot.Good s
unfolding snapshot via dep
snapshot-good s h r =
    (((log_id-good s.cut h.cut, snapshot_id-good s.snapshot_id h.snapshot_id r), raw-good 32 s.digest h.digest), refl)

-- three cuts
pub three_cuts-good : (a b c : OptionalLogId) → optional_log_id.Good a → optional_log_id.Good b → optional_log_id.Good c
    → three_cuts.Good (record { first = a; second = b; third = c })
unfolding three_cuts via dep
three_cuts-good a b c f g h = (((f, g), h), refl)

-- evidence that passes its test
pub evidence-good : (e : VoterReplacementEvidence) → HeldVoterReplacementEvidence e → representable_evidence e ≡ true → evidence.Good e
unfolding evidence via dep
evidence-good e h r =
    let s = says (evidence-is e) r in
    let c = s.1 in (
      (
        (
          (
            log_id-good e.prepare h.prepare,
            opt-good snapshot blank_voter_snapshot_evidence e.snapshot (representable_snapshot_id e.snapshot.snapshot_id) (same_voter_snapshot_evidence e.snapshot blank_voter_snapshot_evidence)
                (snapshot-good e.snapshot h.snapshot)
                (same_voter_snapshot_evidence-true e.snapshot blank_voter_snapshot_evidence)
                e.has_snapshot s.0,
          ),
          three_cuts-good e.learner e.caught_up e.continuation
              (optional_log_id-good e.learner h.learner c.0)
              (optional_log_id-good e.caught_up h.caught_up c.1.0)
              (optional_log_id-good e.continuation h.continuation c.1.1.0),
        ),
        three_cuts-good e.fence e.joint e.uniform
            (optional_log_id-good e.fence h.fence c.1.1.1.0)
            (optional_log_id-good e.joint h.joint c.1.1.1.1.0)
            (optional_log_id-good e.uniform h.uniform c.1.1.1.1.1),
      ),
      refl,
    )

module _ (r : VoterReplacementRecord) (h : HeldVoterReplacementRecord r) (t : representable_replacement r ≡ true) (p : valid_configuration r.predecessor ≡ true) (s : valid_configuration r.successor ≡ true) where
  -- both configurations and the phase
  pub change-good : change.Good (change_of r)
  unfolding change via dep
  change-good =
      let k = says (replacement-is r) t in (
        (
          (configuration-good r.predecessor h.predecessor k.1.0 p, configuration-good r.successor h.successor k.1.1.0 s),
          up-to-good 6 r.phase h.phase k.1.1.1.0,
        ),
        refl,
      )

  -- an open request that passes its test and whose attestation is valid
  pub replacement-good : valid_attestation r.attestation ≡ true → replacement.Good r
  unfolding replacement via dep
  replacement-good v =
      let k = says (replacement-is r) t in (
        (
          (
            (uint-good 8 r.expected_revision h.expected_revision, box-good r.attestation h.attestation k.0 v),
            change-good,
          ),
          evidence-good r.evidence h.evidence k.1.1.1.1,
        ),
        refl,
      )

-- ---- a table

magic-bytes : Bytes magic
magic-bytes = bytes_of magic (lit< tt, (lit< tt, (lit< tt, (lit< tt, tt))))

-- the magic and the version are what they are
pub head-good : magic_and_version.Good tt
unfolding magic_and_version via check dep raw head_test pick
head-good = ((((refl, magic-bytes), uint-good 2 1 (lit< tt)), refl), refl)

-- a table's front
pub table_head-good : (t : VoterSlotTable) → HeldVoterSlotTable t → representable t ≡ true → table_head.Good (table_head_of t)
unfolding table_head via dep
table_head-good t h r = (
  (
    (
      (raw-good 32 t.cluster_instance h.cluster_instance, raw-good 32 t.manifest_digest h.manifest_digest),
      uint-good 8 t.revision h.revision,
    ),
    epoch-good t.configuration_epoch h.configuration_epoch (says (table_is t) r).0,
  ),
  refl,
)

-- A table that the types hold, that passes the representability check and is valid, is one that the
-- format holds.
pub table-good : (t : VoterSlotTable) → HeldVoterSlotTable t → representable t ≡ true → validity t ≡ Accepted → table.Good t
unfolding table via dep
table-good t h r v =
    (((((head-good, table_head-good t h r), count-good t.count (valid-slots-hold t v).odd), slots-good t h r), open-good t.has_replacement refl (says (table_is t) r).1.1.1), refl)
  where
    open-good : (b : Bool) → t.has_replacement ≡ b
        → cond b (representable_replacement t.replacement) (same_voter_replacement_record t.replacement blank_voter_replacement_record) ≡ true
        → (opt replacement blank_voter_replacement_record).Good (b, t.replacement)
    open-good true e k =
        let o = (open-holds t v e).operation in
        opt-good replacement blank_voter_replacement_record t.replacement (representable_replacement t.replacement) false
        (λ q. replacement-good t.replacement h.replacement q o.predecessor o.successor o.attestation)
        (λ q. absurd (false≢true q))
        true k
    open-good false e k =
        opt-good replacement blank_voter_replacement_record t.replacement false (same_voter_replacement_record t.replacement blank_voter_replacement_record)
        (λ q. absurd (false≢true q))
        (same_voter_replacement_record-true t.replacement blank_voter_replacement_record)
        false k
