-- Laws of Validation: what a test tells, the bounds of a valid count, names, a slot without a
-- receipt, and the first refusal of the slots.
-- Each name here is a step of a proof; what is right is said in Validation.
-- Assumes nothing.
use Prim.Native.Nat.{ℕ, zero, suc, ◌+◌, ◌-◌, ◌%◌, ◌<◌, ◌≤◌}
use Rattle.std.specs.Prelude.{◌≡◌, refl, Ok, Err, Bool, true, false, not, ◌&&◌, List, eqb, leb, ltb}
use Rattle.std.proofs.Common.{sym, ap, ◌∙◌, add-one, leb-true, ltb-true}
use Rattle.std.proofs.Math.Bool.{and-eq-true_iff, and-false}
use native.Mathlib.Omega.{arith}
use Rattle.std.proofs.lemmas.Bool.{not-true, not-false}
use Rattle.identity.specs.Answer.{is_accepted, Answer, Accepted, InvalidRecord}
use Rattle.records.specs.Records.{all_below, slot_at, slot_in, member_at}
use Rattle.records.specs.RecordsLaws.{all_below-all}
use Rattle.records.specs.Equality.{same_voter_slot_member}
use Rattle.records.specs.Validation.{require_of, valid_count, valid_spiffe_id, NamesHold, valid_attestation, valid_operation, distinct_results, claims_of, other_member, other_request, validate_member, validate_members, validate_operation}
use Rattle.records.specs.declared.records.LostVoterAttestationV1.{LostVoterAttestationV1}
use Rattle.records.specs.declared.records.VoterSlotMember.{VoterSlotMember}
use Rattle.records.specs.declared.records.VoterSlotRecord.{VoterSlotRecord}
use Rattle.records.specs.declared.records.VoterSlotTable.{VoterSlotTable}
use Rattle.records.specs.declared.validation.Claims.{Claims}

-- ---- `if !test(..) { .. }`: what is known of the test's definition in each arm

module _ {t definition : Bool} (met : t ≡ definition) where
  pub failed : not t ≡ true → definition ≡ false
  failed h = sym met ∙ not-true t h

  pub held : not t ≡ false → definition ≡ true
  held h = sym met ∙ not-false t h

-- ---- a count that is valid

pub count_small : (n : ℕ) → valid_count n ≡ true → n ≤ 9
count_small n h =
    let e = (and-eq-true_iff (ltb 0 n) (leb n 9 && eqb (n % 2) 1)).0 h in
    leb-true n 9 ((and-eq-true_iff (leb n 9) (eqb (n % 2) 1)).0 e.1).0

pub count-some : (n : ℕ) → valid_count n ≡ true → 0 < n
count-some n h = ltb-true 0 n ((and-eq-true_iff (ltb 0 n) (leb n 9 && eqb (n % 2) 1)).0 h).0

-- ---- an attestation whose names are valid

-- the numbers decide then
pub names-hold : (a : LostVoterAttestationV1) (t : Bool) → NamesHold a
    → t ≡ (ltb 0 a.admission_generation
    && (leb a.observation_start_ms a.decision_ms
    && (leb a.decision_ms a.issued_ms && ltb a.issued_ms a.expires_ms)))
    → t ≡ valid_attestation a
unfolding valid_attestation
names-hold a t h e = rw (h.candidate, h.controller) e

-- a name that is not valid refuses the open request
pub candidate-fails : (t : VoterSlotTable) → valid_spiffe_id t.replacement.attestation.candidate_spiffe_id ≡ false → validate_operation t ≡ InvalidRecord
unfolding validate_operation valid_operation valid_attestation
candidate-fails t h = rw h

pub controller-fails : (t : VoterSlotTable) → valid_spiffe_id t.replacement.attestation.controller_spiffe_id ≡ false → validate_operation t ≡ InvalidRecord
unfolding validate_operation valid_operation valid_attestation
controller-fails t h = rw (h, and-false (valid_spiffe_id t.replacement.attestation.candidate_spiffe_id))

-- ---- the receipts

-- a slot without a receipt is distinct from all others
pub distinct_without : (slots : List VoterSlotRecord) (i : ℕ) → (slot_in slots i).has_last_result ≡ false
    → all_below (λ j. distinct_results (slot_in slots j) (slot_in slots i)) i ≡ true
distinct_without slots i h = all_below-all (λ j. distinct_results (slot_in slots j) (slot_in slots i)) i (λ j l. rw (h, and-false (slot_in slots j).has_last_result))

-- ---- the slots one by one

-- an answer that counts as accepted is that one
pub is-accepted : (a : Answer) → is_accepted a ≡ true → a ≡ Accepted
is-accepted (Ok nothing) h = refl
is-accepted (Err e) h = absurd (let z : ◌≡◌ {A = ℕ} 0 1 = cc in omega arith)

-- two requirements in turn are one
require-and : (a b : Bool) → require_of (a && b) Accepted ≡ require_of a (require_of b Accepted)
require-and true b = refl
require-and false b = refl

-- a slot that is not being replaced
pub other-slot : (c : Claims) (s : VoterSlotRecord) (predecessor successor : VoterSlotMember) → eqb s.member.identity.slot c.slot ≡ false
    → require_of
    ((same_voter_slot_member s.member successor && eqb predecessor.identity.slot successor.identity.slot)
    && (other_member s predecessor successor && other_request c s))
    Accepted
    ≡ validate_member c s predecessor successor
unfolding validate_member
other-slot c s predecessor successor h =
    require-and
    (same_voter_slot_member s.member successor && eqb predecessor.identity.slot successor.identity.slot)
    (other_member s predecessor successor && other_request c s)
    ∙ rw h

-- the answer of one slot
abbrev pub member_answer : VoterSlotTable → ℕ → Answer
member_answer t i =
    validate_member (claims_of t.replacement) (slot_at t i) (member_at t.replacement.predecessor i) (member_at t.replacement.successor i)

module _ (t : VoterSlotTable) where
  -- the claims are those of the open request
  pub member-claims : (c : Claims) (i : ℕ) → c ≡ claims_of t.replacement
      → validate_member c (slot_at t i) (member_at t.replacement.predecessor i) (member_at t.replacement.successor i) ≡ member_answer t i
  member-claims c i h =
      ap (λ (k : Claims). validate_member k (slot_at t i) (member_at t.replacement.predecessor i) (member_at t.replacement.successor i)) h

  -- every slot below i is accepted: the answer is that of slot i
  members-more : (i : ℕ) → is_accepted (validate_members t i) ≡ true → validate_members t (i + 1) ≡ member_answer t i
  unfolding validate_members
  members-more i h = rw (add-one, h)

  -- a refusal stays the answer
  members-on : (n d : ℕ) → is_accepted (validate_members t n) ≡ false → validate_members t (n + d) ≡ validate_members t n
  unfolding validate_members
  members-on n zero h = let e : n + 0 ≡ n = omega arith in rw e
  members-on n (suc d) h =
      let e : n + suc d ≡ suc (n + d) = omega arith in
      rw (e, members-on n d h, h)

  -- one slot, after slots that are all accepted
  pub members-accepted : (i : ℕ) → validate_members t i ≡ Accepted → is_accepted (member_answer t i) ≡ true → validate_members t (i + 1) ≡ Accepted
  members-accepted i h a = members-more i (ap is_accepted h) ∙ is-accepted (member_answer t i) a

  pub members-refused : (i n : ℕ) → i < n → validate_members t i ≡ Accepted → is_accepted (member_answer t i) ≡ false → validate_members t n ≡ member_answer t i
  members-refused i n l h r =
      let m : validate_members t (i + 1) ≡ member_answer t i = members-more i (ap is_accepted h) in
      let e : n ≡ i + 1 + (n - (i + 1)) = omega arith in
      ap (validate_members t) e ∙ (members-on (i + 1) (n - (i + 1)) (ap is_accepted m ∙ r) ∙ m)
