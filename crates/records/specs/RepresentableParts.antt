-- The representability check, part by part: each record's is all of the tests listed at once.
-- `says` takes it apart, `passes` puts it together (TestLaws).
-- Each name here is a step of a proof; what is right is said in Representable.
-- Assumes nothing.
use Rattle.std.specs.Prelude.{ℕ, ◌<◌, ◌≤◌, ◌≡◌, Bool, cond, ◌&&◌, map, List, ◌∷◌, [], get_or, take, drop, leb}
use Rattle.std.proofs.Math.Path.{refl}
use Rattle.std.proofs.Common.{sym, ap, ◌∙◌, arith}
use Rattle.std.proofs.Math.Bool.{true, false}
use Rattle.std.proofs.lemmas.Bool.{false≢true}
use Rattle.std.proofs.Math.ListN.{length, get_or-map, get_or-eq_default}
use Rattle.std.proofs.Math.Dec.{ltb}
use borrow.Author.Tests.{leb-true, le-leb, lt-leb, ltb-true, ltb-false}
use Rattle.identity.specs.Identity.{is_slot_id, is_voter_incarnation, is_configuration_epoch, max_voter_incarnation}
use Rattle.identity.specs.Text.{every, is_utf8}
use Rattle.identity.specs.Utf8Laws.{and_left, and_right}
use Rattle.records.specs.declared.records.VoterSlotMember.{VoterSlotMember}
use Rattle.records.specs.declared.records.VoterReplacementResult.{VoterReplacementResult}
use Rattle.records.specs.declared.records.VoterSlotRecord.{VoterSlotRecord}
use Rattle.records.specs.declared.records.VoterConfiguration.{VoterConfiguration}
use Rattle.records.specs.declared.records.LostVoterAttestationV1.{LostVoterAttestationV1}
use Rattle.records.specs.declared.records.VoterReplacementEvidence.{VoterReplacementEvidence}
use Rattle.records.specs.declared.records.VoterReplacementRecord.{VoterReplacementRecord}
use Rattle.records.specs.declared.records.VoterSlotTable.{VoterSlotTable}
use Rattle.records.specs.Blank.{blank_voter_slot_log_id, blank_optional_log_id, blank_voter_slot_member, blank_voter_replacement_result, blank_voter_slot_record, blank_voter_replacement_record}
use Rattle.records.specs.Equality.{all_true, same_voter_slot_member, same_voter_replacement_result, same_voter_replacement_record}
use Rattle.records.specs.EqualityLaws.{same_voter_slot_log_id-refl, same_voter_slot_member-refl, same_voter_slot_record-true}
use Rattle.records.specs.Records.{max_fixed_voter_slots, voting, uniform, superseded, storage_lost, time_bound_loss, all_below, slot_at, member_at, no_member, no_slot_record}
use Rattle.records.specs.RecordsLaws.{all_below-at, all_below-all}
use Rattle.records.specs.Representable.{is_zero, is_text, representable_spiffe_id, representable_optional_log_id, representable_member, representable_result, representable_slot_record, member_place, slot_place, representable_configuration, representable_attestation, representable_optional_snapshot, representable_evidence, representable_replacement, representable}
use Rattle.records.specs.RepresentableLaws.{representable-count}
use Rattle.records.specs.TestLaws.{MadeOf, says, passes, cond-true, cond-false}

-- a text: its length, UTF-8, zeros after it
pub text-is : (most len : ℕ) (bytes : List ℕ) → MadeOf (
    leb len most
    ∷ is_utf8 (take len bytes)
    ∷ every is_zero (drop len bytes)
    ∷ []) (is_text most len bytes)
unfolding is_text all_true
text-is most len bytes = record { is = refl }

-- a member: slot, incarnation
pub member_is : (m : VoterSlotMember) → MadeOf (
    is_slot_id m.identity.slot
    ∷ is_voter_incarnation m.identity.incarnation
    ∷ []) (representable_member m)
unfolding representable_member all_true
member_is m = record { is = refl }

-- a receipt: incarnation, epoch, kind
pub result-is : (r : VoterReplacementResult) → MadeOf (
    is_voter_incarnation r.incarnation
    ∷ is_configuration_epoch r.configuration_epoch
    ∷ leb r.kind superseded
    ∷ []) (representable_result r)
unfolding representable_result all_true
result-is r = record { is = refl }

-- a slot: member, phase, receipt
pub slot_is : (s : VoterSlotRecord) → MadeOf (
    representable_member s.member
    ∷ leb s.phase voting
    ∷ cond s.has_last_result (representable_result s.last_result) (same_voter_replacement_result s.last_result blank_voter_replacement_result)
    ∷ []) (representable_slot_record s)
unfolding representable_slot_record all_true
slot_is s = record { is = refl }

-- a configuration: epoch, count, places
pub configuration-is : (c : VoterConfiguration) → MadeOf (
    is_configuration_epoch c.epoch
    ∷ leb c.count max_fixed_voter_slots
    ∷ all_below (λ i. member_place (leb c.count i) (member_at c i)) max_fixed_voter_slots
    ∷ []) (representable_configuration c)
unfolding representable_configuration all_true
configuration-is c = record { is = refl }

-- an attestation: slot, incarnation, both names, reason
pub attestation-is : (a : LostVoterAttestationV1) → MadeOf (
    is_slot_id a.slot
    ∷ is_voter_incarnation a.expected_incarnation
    ∷ representable_spiffe_id a.candidate_spiffe_id
    ∷ representable_spiffe_id a.controller_spiffe_id
    ∷ (leb storage_lost a.reason && leb a.reason time_bound_loss)
    ∷ []) (representable_attestation a)
unfolding representable_attestation all_true
attestation-is a = record { is = refl }

-- the evidence: snapshot, six cuts
pub evidence-is : (e : VoterReplacementEvidence) → MadeOf (
    representable_optional_snapshot e
    ∷ representable_optional_log_id e.learner
    ∷ representable_optional_log_id e.caught_up
    ∷ representable_optional_log_id e.continuation
    ∷ representable_optional_log_id e.fence
    ∷ representable_optional_log_id e.joint
    ∷ representable_optional_log_id e.uniform
    ∷ []) (representable_evidence e)
unfolding representable_evidence all_true
evidence-is e = record { is = refl }

-- an open request: attestation, both configurations, phase, evidence
pub replacement-is : (r : VoterReplacementRecord) → MadeOf (
    representable_attestation r.attestation
    ∷ representable_configuration r.predecessor
    ∷ representable_configuration r.successor
    ∷ leb r.phase uniform
    ∷ representable_evidence r.evidence
    ∷ []) (representable_replacement r)
unfolding representable_replacement all_true
replacement-is r = record { is = refl }

-- a table: epoch, count, places, open request
pub table_is : (t : VoterSlotTable) → MadeOf (
    is_configuration_epoch t.configuration_epoch
    ∷ leb t.count max_fixed_voter_slots
    ∷ all_below (λ i. slot_place (leb t.count i) (slot_at t i)) max_fixed_voter_slots
    ∷ cond t.has_replacement (representable_replacement t.replacement) (same_voter_replacement_record t.replacement blank_voter_replacement_record)
    ∷ []) (representable t)
unfolding representable all_true
table_is t = record { is = refl }

-- ---- an open request

-- that of a table that passes the representability check
pub replacement-fits : (t : VoterSlotTable) → representable t ≡ true → t.has_replacement ≡ true → representable_replacement t.replacement ≡ true
replacement-fits t h e = sym (cond-true t.has_replacement _ _ e) ∙ (says (table_is t) h).1.1.1

pub record ReplacementHolds (r : VoterReplacementRecord) : Type 0 where
  pub attestation : representable_attestation r.attestation ≡ true
  pub predecessor : representable_configuration r.predecessor ≡ true
  pub successor : representable_configuration r.successor ≡ true
  pub phase : r.phase ≤ uniform
  pub evidence : representable_evidence r.evidence ≡ true

pub replacement-holds : (r : VoterReplacementRecord) → representable_replacement r ≡ true → ReplacementHolds r
replacement-holds r h =
    let e = says (replacement-is r) h in
    record { attestation = e.0; predecessor = e.1.0; successor = e.1.1.0; phase = leb-true _ _ e.1.1.1.0; evidence = e.1.1.1.1 }

pub replacement-joined : (r : VoterReplacementRecord) → ReplacementHolds r → representable_replacement r ≡ true
replacement-joined r h = passes (replacement-is r) (h.attestation, (h.predecessor, (h.successor, (le-leb _ _ h.phase, h.evidence))))

-- the attested incarnation is 1 or more
pub attested-some : (r : VoterReplacementRecord) → ReplacementHolds r → 1 ≤ r.attestation.expected_incarnation
attested-some r h =
    leb-true _ _ (and_left (leb 1 r.attestation.expected_incarnation) _ (says (attestation-is r.attestation) h.attestation).1.0)

-- ---- numbers of a configuration and of a member

pub epoch-fits : (c : VoterConfiguration) → representable_configuration c ≡ true → is_configuration_epoch c.epoch ≡ true
epoch-fits c h = (says (configuration-is c) h).0

pub incarnation-most : (m : VoterSlotMember) → representable_member m ≡ true → m.identity.incarnation ≤ max_voter_incarnation
incarnation-most m h = leb-true _ _ (and_right (leb 1 m.identity.incarnation) _ (says (member_is m) h).1)

-- ---- the places

-- a member in use
pub member-fits : (c : VoterConfiguration) → representable_configuration c ≡ true → (i : ℕ) → i < c.count → representable_member (member_at c i) ≡ true
member-fits c h i l =
    let k = says (configuration-is c) h in
    let n = leb-true c.count max_fixed_voter_slots k.1.0 in
    sym (cond-false (leb c.count i) _ _ (lt-leb c.count i l))
    ∙ all_below-at (λ i. member_place (leb c.count i) (member_at c i)) max_fixed_voter_slots i k.1.1 (omega arith)

module _ (t : VoterSlotTable) (h : representable t ≡ true) where
  -- the slot at a place: blank where the place is not in use
  pub place_at : (i : ℕ) → i < max_fixed_voter_slots → slot_place (leb t.count i) (slot_at t i) ≡ true
  place_at i l = all_below-at (λ i. slot_place (leb t.count i) (slot_at t i)) max_fixed_voter_slots i (says (table_is t) h).1.1.0 l

  -- a slot in use
  pub slot-fits : (i : ℕ) → i < t.count → representable_slot_record (slot_at t i) ≡ true
  slot-fits i l =
      let n = representable-count t h in
      sym (cond-false (leb t.count i) _ _ (lt-leb t.count i l)) ∙ place_at i (omega arith)

  -- its place is in the list: what is read past the end is no slot
  pub place-there : (i : ℕ) → i < t.count → i < length t.slots
  unfolding representable_slot_record representable_member
  place-there i l = go (ltb i (length t.slots)) refl
    where
      go : (b : Bool) → ltb i (length t.slots) ≡ b → i < length t.slots
      go true e = ltb-true _ _ e
      go false e =
          let z : representable_slot_record no_slot_record ≡ true = rw (get_or-eq_default t.slots no_slot_record (ltb-false i (length t.slots) e)) at (slot-fits i l) in
          absurd (false≢true z)

-- the slots' members make a configuration
pub members-fit : (t : VoterSlotTable) (epoch : ℕ) → is_configuration_epoch epoch ≡ true → leb t.count max_fixed_voter_slots ≡ true
    → all_below (λ i. slot_place (leb t.count i) (slot_at t i)) max_fixed_voter_slots ≡ true
    → representable_configuration (record { epoch = epoch; members = map (λ s. s.member) t.slots; count = t.count }) ≡ true
members-fit t epoch k n h =
    passes (configuration-is (record { epoch = epoch; members = map (λ s. s.member) t.slots; count = t.count })) (
      k,
      (
        n,
        all_below-all (λ i. member_place (leb t.count i) (get_or (map (λ s. s.member) t.slots) i no_member)) max_fixed_voter_slots (λ i l.
            ap (member_place (leb t.count i)) (get_or-map (λ s. s.member) t.slots i no_slot_record)
            ∙ member-place (leb t.count i) (slot_at t i) (all_below-at (λ i. slot_place (leb t.count i) (slot_at t i)) max_fixed_voter_slots i h l)),
      ),
    )
  where
    member-place : (b : Bool) (s : VoterSlotRecord) → slot_place b s ≡ true → member_place b s.member ≡ true
    member-place true s h =
        ap (λ (x : VoterSlotRecord). same_voter_slot_member x.member blank_voter_slot_member) (same_voter_slot_record-true s blank_voter_slot_record h)
        ∙ (unfold blank_voter_slot_record in same_voter_slot_member-refl blank_voter_slot_member)
    member-place false s h = (says (slot_is s) h).0

-- an absent cut
pub absent-fits : representable_optional_log_id blank_optional_log_id ≡ true
unfolding representable_optional_log_id blank_optional_log_id
absent-fits = same_voter_slot_log_id-refl blank_voter_slot_log_id
