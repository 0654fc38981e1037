-- What the formats hold passes the representability check: so what was read can be written, format
-- by format, leaves first.
-- Each name here is a step of a proof; what is right is said in Layout and Representable.
-- Assumes nothing.
use Rattle.std.specs.Prelude.{ℕ, ◌+◌, ◌-◌, ◌≤◌, ◌<◌, ◌≡◌, refl, Bool, cond, ◌&&◌, List, ◌++◌, length, take, drop, get_or, replicate, leb}
use Rattle.std.proofs.Common.{arith, sym, ◌∙◌, subst, length-append, drop_at, get_or-take, get_or-append-add, lit<, le-leb, leb-true, leb-false}
use Rattle.std.proofs.Math.Path.{ap}
use Rattle.std.proofs.Math.Bool.{true, false}
use Rattle.std.proofs.lemmas.List.{length-replicate, get_or-replicate}
use Rattle.identity.specs.Answer.{number_of, Answer, Accepted, InvalidSlot, InvalidIncarnation}
use Rattle.identity.specs.Identity.{is_slot_id, is_voter_incarnation, is_configuration_epoch, validate_slot_id, validate_voter_incarnation}
use Rattle.identity.specs.Text.{every, is_utf8}
use Rattle.identity.specs.Utf8Laws.{and_right}
use Rattle.identity.specs.declared.identity.VoterSlotIdentity.{VoterSlotIdentity}
use Rattle.format.specs.Combinators.{Codec, dep, check, via, always}
use Rattle.format.specs.Num.{pick-zero}
use Rattle.format.specs.List.{vec, vec-long, padded, either, opt}
use Rattle.format.specs.Through.{boxed-is}
use Rattle.records.specs.Blank.{blank_voter_slot_log_id, blank_voter_slot_member, blank_voter_replacement_result, blank_voter_slot_record, blank_voter_snapshot_evidence, blank_voter_replacement_record}
use Rattle.records.specs.Equality.{eq_bytes, same_voter_slot_log_id, same_voter_slot_member, same_voter_replacement_result, same_voter_slot_record, same_voter_snapshot_evidence, same_voter_replacement_record}
use Rattle.records.specs.EqualityLaws.{eq_bytes-refl, same_voter_slot_log_id-refl, same_voter_slot_member-refl, same_voter_replacement_result-refl, same_voter_slot_record-refl, same_voter_snapshot_evidence-refl, same_voter_replacement_record-refl}
use Rattle.records.specs.Records.{all_below, no_member, no_slot_record}
use Rattle.records.specs.RecordsLaws.{all_below-all}
use Rattle.records.specs.Representable.{is_zero, is_text, representable_spiffe_id, representable_snapshot_id, representable_optional_log_id, representable_member, representable_result, representable_slot_record, representable_configuration, representable_attestation, representable_evidence, representable_replacement, representable}
use Rattle.records.specs.Validation.{valid_count}
use Rattle.records.specs.ValidationLaws.{count_small}
use Rattle.records.specs.ZeroLaws.{eq_bytes-zeros}
use Rattle.records.specs.declared.records.SpiffeId.{SpiffeId}
use Rattle.records.specs.declared.records.SnapshotId.{SnapshotId}
use Rattle.records.specs.declared.records.OptionalLogId.{OptionalLogId}
use Rattle.records.specs.declared.records.VoterSlotMember.{VoterSlotMember}
use Rattle.records.specs.declared.records.VoterReplacementResult.{VoterReplacementResult}
use Rattle.records.specs.declared.records.VoterSlotRecord.{VoterSlotRecord}
use Rattle.records.specs.declared.records.VoterSnapshotEvidence.{VoterSnapshotEvidence}
use Rattle.records.specs.declared.records.VoterConfiguration.{VoterConfiguration}
use Rattle.records.specs.declared.records.LostVoterAttestationV1.{LostVoterAttestationV1}
use Rattle.records.specs.declared.records.VoterReplacementEvidence.{VoterReplacementEvidence}
use Rattle.records.specs.declared.records.VoterReplacementRecord.{VoterReplacementRecord}
use Rattle.records.specs.declared.records.VoterSlotTable.{VoterSlotTable}
use Rattle.layout.specs.Layout.{require-is, slot_id, incarnation, epoch, slot_count, choice, identity, optional_log_id, log_id, sized, string, string-long, placed, spiffe_id, snapshot_id, member, members, configuration, result_head, replacement_result, slot_member, slot, slots, claims_slot, claims_names, claims_end, claims, attestation, snapshot, three_cuts, evidence, change, replacement, table_head, table}
use Rattle.records.specs.RepresentableParts.{text-is, member_is, result-is, slot_is, configuration-is, attestation-is, evidence-is, replacement-is, table_is}
use Rattle.records.specs.TestLaws.{passes}
use Rattle.writer.specs.SizeLaws.{get_d_any}

-- ---- the ways to make a format

-- a part that is there passes its test where the format holds it, and an absent one is the blank
module _ {A : Type 0} (C : Codec A) (blank a : A) (test : Bool) (same : A → Bool) (tests : C.Good a → test ≡ true) (is : same blank ≡ true) where
  opt-tests : (b : Bool) → (opt C blank).Good (b, a) → cond b test (same a) ≡ true
  unfolding opt dep either always
  opt-tests true g = tests g.1
  opt-tests false g = ap same (sym g.1) ∙ is

-- nine places: each in use passes its test, and each after them is the blank
module _ {A : Type 0} (C : Codec A) (blank d : A) (test same : A → Bool) (tests : (a : A) → C.Good a → test a ≡ true) (is : same blank ≡ true) (l : List A) (n : ℕ) where
  module _ (g : (padded (vec C blank n) n 9 blank (vec-long C blank n)).Good l) where
    long : length (take n l) ≡ n
    unfolding padded via vec
    long = g.0.0

    used : (i : ℕ) → i < n → C.Good (get_or (take n l) i blank)
    unfolding padded via vec
    used = g.0.1

    whole : take n l ++ replicate (9 - n) blank ≡ l
    unfolding padded via
    whole = g.1

    reaches : length l ≡ n + (9 - n)
    reaches = ap length (sym whole) ∙ length-append (take n l) (replicate (9 - n) blank) ∙ (let e = long in let f = length-replicate (9 - n) blank in omega arith)

    after : (i : ℕ) → n ≤ i → i < 9 → get_or l i d ≡ blank
    after i h k =
        let m = long in
        let e : i ≡ length (take n l) + (i - n) = omega arith in
        ap (λ r. get_or r i d) (sym whole)
        ∙ ap (λ j. get_or (take n l ++ replicate (9 - n) blank) j d) e
        ∙ get_or-append-add (take n l) (replicate (9 - n) blank) (i - n) d
        ∙ get_or-replicate (9 - n) (i - n) blank d (omega arith)

    place : (i : ℕ) → i < 9 → (b : Bool) → leb n i ≡ b → cond b (same (get_or l i d)) (test (get_or l i d)) ≡ true
    place i k true e = ap same (after i (leb-true n i e) k) ∙ is
    place i k false e =
        let q : i < n = leb-false n i e in
        subst (λ a. test a ≡ true) (get_or-take n l i blank q ∙ get_d_any l i blank d (omega (arith, reaches))) (tests (get_or (take n l) i blank) (used i q))

    places-test : all_below (λ i. cond (leb n i) (same (get_or l i d)) (test (get_or l i d))) 9 ≡ true
    places-test = all_below-all (λ i. cond (leb n i) (same (get_or l i d)) (test (get_or l i d))) 9 (λ i k. place i k (leb n i) refl)

-- ---- numbers and names

-- a test of which a refusal has a number above 0 is passed where the number is 0
accepted-by : (b : Bool) (a : Answer) → 0 < number_of a → number_of (cond b Accepted a) ≡ 0 → b ≡ true
accepted-by true a h e = refl
accepted-by false a h e = absurd (omega arith)

-- a slot number that the format holds is one
slot_id-tests : (x : ℕ) → slot_id.Good x → is_slot_id x ≡ true
unfolding slot_id check validate_slot_id
slot_id-tests x g = accepted-by (is_slot_id x) InvalidSlot (lit< tt) g.1

-- likewise an incarnation
incarnation-tests : (x : ℕ) → incarnation.Good x → is_voter_incarnation x ≡ true
unfolding incarnation check validate_voter_incarnation
incarnation-tests x g = accepted-by (is_voter_incarnation x) InvalidIncarnation (lit< tt) g.1

-- an epoch
epoch-tests : (x : ℕ) → epoch.Good x → is_configuration_epoch x ≡ true
unfolding epoch check
epoch-tests x g = require-is (is_configuration_epoch x) g.1

-- a count is at most nine
count-tests : (n : ℕ) → slot_count.Good n → leb n 9 ≡ true
unfolding slot_count check
count-tests n g = le-leb n 9 (count_small n (require-is (valid_count n) g.1))

-- one of the numbers from low to high
choice-tests : (low high x : ℕ) → (choice low high).Good x → (leb low x && leb x high) ≡ true
unfolding choice check
choice-tests low high x g = require-is (leb low x && leb x high) g.1

-- one of the numbers from 0 on
up-to-tests : (high x : ℕ) → (choice 0 high).Good x → leb x high ≡ true
up-to-tests high x g = and_right (leb 0 x) (leb x high) (choice-tests 0 high x g)

-- a slot and an incarnation
identity-tests : (i : VoterSlotIdentity) → identity.Good i → (is_slot_id i.slot ≡ true) × (is_voter_incarnation i.incarnation ≡ true)
unfolding identity via dep
identity-tests i g = (slot_id-tests i.slot g.0.0, incarnation-tests i.incarnation g.0.1)

-- a cut, or the blank
optional_log_id-tests : (c : OptionalLogId) → optional_log_id.Good c → representable_optional_log_id c ≡ true
unfolding optional_log_id via representable_optional_log_id
optional_log_id-tests c g =
    opt-tests log_id blank_voter_slot_log_id c.cut true (λ k. same_voter_slot_log_id k blank_voter_slot_log_id) (λ k. refl) (same_voter_slot_log_id-refl blank_voter_slot_log_id) c.is_some g.0

-- a text in a place of `bound` bytes
zeros-tests : (k : ℕ) (a : List ℕ) → a ≡ replicate k 0 → every is_zero a ≡ true
zeros-tests k a e =
    sym (eq_bytes-zeros a k (ap length e ∙ length-replicate k 0)) ∙ ap (λ b. eq_bytes b (replicate k 0)) e ∙ eq_bytes-refl (replicate k 0)

module _ (bound n : ℕ) (l : List ℕ) (g : (string bound).Good (n, take n l)) (p : placed bound (n, take n l) ≡ l) where
  string-tests : (leb n bound ≡ true) × (is_utf8 (take n l) ≡ true)
  unfolding string sized check dep
  string-tests = (pick-zero (leb n bound) 4 g.0.0.1, require-is (is_utf8 (take n l)) g.1)

  text-tests : is_text bound n l ≡ true
  text-tests =
      let z : drop n l ≡ replicate (bound - n) 0 = ap (drop n) (sym p) ∙ drop_at (take n l) (replicate (bound - n) 0) n (string-long bound (n, take n l) g) in
      passes (text-is bound n l) (string-tests.0, (string-tests.1, zeros-tests (bound - n) (drop n l) z))

-- a name
spiffe_id-tests : (s : SpiffeId) → spiffe_id.Good s → representable_spiffe_id s ≡ true
unfolding spiffe_id via
spiffe_id-tests s g = text-tests 2048 s.len s.bytes g.0 (ap (λ (x : SpiffeId). x.bytes) g.1)

-- a snapshot id
snapshot_id-tests : (s : SnapshotId) → snapshot_id.Good s → representable_snapshot_id s ≡ true
unfolding snapshot_id via
snapshot_id-tests s g = text-tests 256 s.len s.bytes g.0 (ap (λ (x : SnapshotId). x.bytes) g.1)

-- ---- members and configurations

-- a member
member-tests : (m : VoterSlotMember) → member.Good m → representable_member m ≡ true
unfolding member via dep
member-tests m g = passes (member_is m) (identity-tests m.identity g.0.0)

-- a configuration, with blanks after its members
configuration-tests : (c : VoterConfiguration) → configuration.Good c → representable_configuration c ≡ true
unfolding configuration via dep members
configuration-tests c g =
    passes (configuration-is c) (
      epoch-tests c.epoch g.0.0.0,
      (
        count-tests c.count g.0.0.1,
        places-test member blank_voter_slot_member no_member representable_member (λ m. same_voter_slot_member m blank_voter_slot_member) member-tests
            (same_voter_slot_member-refl blank_voter_slot_member) c.members c.count g.0.1,
      ),
    )

-- ---- slots

-- a receipt
result-tests : (r : VoterReplacementResult) → replacement_result.Good r → representable_result r ≡ true
unfolding replacement_result result_head via dep
result-tests r g =
    passes (result-is r) (
      incarnation-tests r.incarnation g.0.0.0.0.0.0.1,
      (epoch-tests r.configuration_epoch g.0.0.0.1, up-to-tests 1 r.kind g.0.0.1),
    )

-- a slot
slot-tests : (s : VoterSlotRecord) → slot.Good s → representable_slot_record s ≡ true
unfolding slot slot_member via dep
slot-tests s g =
    passes (slot_is s) (
      passes (member_is s.member) (identity-tests s.member.identity g.0.0.0.0.0.0),
      (
        up-to-tests 2 s.phase g.0.0.1,
        opt-tests replacement_result blank_voter_replacement_result s.last_result (representable_result s.last_result)
            (λ r. same_voter_replacement_result r blank_voter_replacement_result) (result-tests s.last_result)
            (same_voter_replacement_result-refl blank_voter_replacement_result) s.has_last_result g.0.1,
      ),
    )

-- ---- an attestation

-- the four groups of an attestation
claims-tests : (a : LostVoterAttestationV1) → claims.Good a → representable_attestation a ≡ true
unfolding claims claims_slot claims_names claims_end via dep
claims-tests a g =
    let i = identity-tests (record { slot = a.slot; incarnation = a.expected_incarnation }) g.0.0.0.1.0.0.0.1 in
    passes (attestation-is a) (
      i.0,
      (
        i.1,
        (
          spiffe_id-tests a.candidate_spiffe_id g.0.0.1.0.0.0.1,
          (spiffe_id-tests a.controller_spiffe_id g.0.0.1.0.0.1, choice-tests 1 2 a.reason g.0.1.0.0.0.0),
        ),
      ),
    )

-- an attestation that the format holds passes its part of the test
pub attestation-tests : (a : LostVoterAttestationV1) → attestation.Good a → representable_attestation a ≡ true
unfolding attestation check
attestation-tests a g = claims-tests a g.0

-- ---- an open request

-- a snapshot
snapshot-tests : (s : VoterSnapshotEvidence) → snapshot.Good s → representable_snapshot_id s.snapshot_id ≡ true
unfolding snapshot via dep
snapshot-tests s g = snapshot_id-tests s.snapshot_id g.0.0.1

-- the evidence
evidence-tests : (e : VoterReplacementEvidence) → evidence.Good e → representable_evidence e ≡ true
unfolding evidence three_cuts via dep
evidence-tests e g =
    passes (evidence-is e) (
      opt-tests snapshot blank_voter_snapshot_evidence e.snapshot (representable_snapshot_id e.snapshot.snapshot_id)
          (λ s. same_voter_snapshot_evidence s blank_voter_snapshot_evidence) (snapshot-tests e.snapshot)
          (same_voter_snapshot_evidence-refl blank_voter_snapshot_evidence) e.has_snapshot g.0.0.0.1,
      (
        optional_log_id-tests e.learner g.0.0.1.0.0.0,
        (
          optional_log_id-tests e.caught_up g.0.0.1.0.0.1,
          (
            optional_log_id-tests e.continuation g.0.0.1.0.1,
            (
              optional_log_id-tests e.fence g.0.1.0.0.0,
              (optional_log_id-tests e.joint g.0.1.0.0.1, optional_log_id-tests e.uniform g.0.1.0.1),
            ),
          ),
        ),
      ),
    )

-- an open request
replacement-tests : (r : VoterReplacementRecord) → replacement.Good r → representable_replacement r ≡ true
unfolding replacement change via dep
replacement-tests r g =
    passes (replacement-is r) (
      attestation-tests r.attestation (boxed-is attestation 8192 r.attestation g.0.0.0.1),
      (
        configuration-tests r.predecessor g.0.0.1.0.0.0,
        (
          configuration-tests r.successor g.0.0.1.0.0.1,
          (up-to-tests 6 r.phase g.0.0.1.0.1, evidence-tests r.evidence g.0.1),
        ),
      ),
    )

-- ---- a table

-- Every table that the format holds passes the representability check.
pub table-tests : (t : VoterSlotTable) → table.Good t → representable t ≡ true
unfolding table table_head slots via dep
table-tests t g =
    passes (table_is t) (
      epoch-tests t.configuration_epoch g.0.0.0.0.1.0.1,
      (
        count-tests t.count g.0.0.0.1,
        (
          places-test slot blank_voter_slot_record no_slot_record representable_slot_record (λ s. same_voter_slot_record s blank_voter_slot_record) slot-tests
              (same_voter_slot_record-refl blank_voter_slot_record) t.slots t.count g.0.0.1,
          opt-tests replacement blank_voter_replacement_record t.replacement (representable_replacement t.replacement)
              (λ r. same_voter_replacement_record r blank_voter_replacement_record) (replacement-tests t.replacement)
              (same_voter_replacement_record-refl blank_voter_replacement_record) t.has_replacement g.0.1,
        ),
      ),
    )
