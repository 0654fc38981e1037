-- The successor check, part by part: slots, open requests and heads that follow others,
-- `succession` of two tables, and the whole check.
-- Each name here is a step of a proof; what is right is said in Successor.
-- Assumes nothing.
use Rattle.std.specs.Prelude.{ℕ, ◌<◌, ◌≤◌, ◌≡◌, Bool, not, ◌&&◌, ◌||◌, ◌∷◌, [], leb, ltb}
use Rattle.std.proofs.Math.Path.{refl}
use Rattle.std.proofs.Common.{sym, ap, ◌∙◌, le_refl, arith}
use Rattle.std.proofs.Math.Bool.{true, false, cond, and-true}
use Rattle.std.proofs.lemmas.Bool.{false≢true}
use Rattle.std.proofs.Math.Dec.{eqb}
use borrow.Author.Tests.{eqb-true, eqb-false, eq-eqb, ne_eqb, le-leb, lt-ltb, le-ltb}
use Rattle.identity.specs.Answer.{is_accepted, Answer, Accepted, Regression, Unrepresentable}
use Rattle.identity.specs.Utf8Laws.{and_left, and_right}
use Rattle.records.specs.declared.records.VoterSlotRecord.{VoterSlotRecord}
use Rattle.records.specs.declared.records.VoterReplacementResult.{VoterReplacementResult}
use Rattle.records.specs.declared.records.VoterReplacementRecord.{VoterReplacementRecord}
use Rattle.records.specs.declared.records.VoterSlotTable.{VoterSlotTable}
use Rattle.records.specs.Equality.{all_true, eq_bytes, same_voter_slot_member, same_lost_voter_attestation_v1, same_voter_configuration, same_voter_slot_table}
use Rattle.records.specs.EqualityLaws.{same_voter_slot_member-refl, same_voter_replacement_result-refl, same_voter_slot_table-true, same_voter_slot_table-refl}
use Rattle.records.specs.Evidence.{retains}
use Rattle.records.specs.Records.{all_below, slot_at}
use Rattle.records.specs.RecordsLaws.{all_below-at, all_below-all}
use Rattle.records.specs.Representable.{representable}
use Rattle.records.specs.Successor.{result_succeeds, slot_succeeds, request_succeeds, replacement_succeeds, head_succeeds, or_regression, succession, first_refusal, validate_successor_of}
use Rattle.records.specs.TestLaws.{MadeOf, passes, and_both, then-passes, left_or, cond-true, cond-false, chosen, both-accepted, then-accepted}
use Rattle.records.specs.Validation.{require_of, validity, validate}
use Rattle.records.specs.ValidParts.{valid-parts, valid-joined}
use Rattle.records.specs.With.{slot_with, in_phase}

-- ---- the tests, one by one

-- a slot: its number, what never falls, a member that stays or is admitted later, a receipt that
-- stays or is followed
pub slot-succeeds-is : (new old : VoterSlotRecord) → MadeOf (
    eqb new.member.identity.slot old.member.identity.slot
    ∷ leb old.retired_through new.retired_through
    ∷ leb old.member.identity.incarnation new.member.identity.incarnation
    ∷ (not (eqb new.member.identity.incarnation old.member.identity.incarnation)
    || (same_voter_slot_member new.member old.member && leb old.phase new.phase))
    ∷ (not (ltb old.member.identity.incarnation new.member.identity.incarnation)
    || ltb old.member.admission_generation new.member.admission_generation)
    ∷ (not old.has_last_result || (new.has_last_result && result_succeeds new.last_result old.last_result))
    ∷ []) (slot_succeeds new old)
unfolding slot_succeeds all_true
slot-succeeds-is new old = record { is = refl }

-- a request: as it was, in a phase that is not before, with its evidence
pub request-succeeds-is : (new old : VoterReplacementRecord) → MadeOf (
    eqb new.expected_revision old.expected_revision
    ∷ same_lost_voter_attestation_v1 new.attestation old.attestation
    ∷ same_voter_configuration new.predecessor old.predecessor
    ∷ same_voter_configuration new.successor old.successor
    ∷ leb old.phase new.phase
    ∷ retains new.evidence old.evidence old.phase
    ∷ []) (request_succeeds new old)
unfolding request_succeeds all_true
request-succeeds-is new old = record { is = refl }

-- the head: installation, revision, epoch, count
pub head-succeeds-is : (new old : VoterSlotTable) → MadeOf (
    eq_bytes new.cluster_instance old.cluster_instance
    ∷ eq_bytes new.manifest_digest old.manifest_digest
    ∷ leb old.revision new.revision
    ∷ leb old.configuration_epoch new.configuration_epoch
    ∷ eqb new.count old.count
    ∷ []) (head_succeeds new old)
unfolding head_succeeds all_true
head-succeeds-is new old = record { is = refl }

-- ---- receipts and slots that follow others

-- a receipt follows itself
pub result-same : (a : VoterReplacementResult) → result_succeeds a a ≡ true
unfolding result_succeeds
result-same a =
    and_both _ _ (le-leb _ _ (le_refl a.revision))
    (and_both _ _ (le-leb _ _ (le_refl a.incarnation))
    (and_both _ _ (le-leb _ _ (le_refl a.configuration_epoch))
    (then-passes (eqb a.revision a.revision || eqb a.incarnation a.incarnation) _ (λ h. same_voter_replacement_result-refl a))))

-- and one of an earlier revision and incarnation
pub result-later : (new old : VoterReplacementResult) → old.revision < new.revision → old.incarnation < new.incarnation
    → old.configuration_epoch ≤ new.configuration_epoch → result_succeeds new old ≡ true
unfolding result_succeeds
result-later new old h k l =
    and_both _ _ (le-leb old.revision new.revision (omega arith))
    (and_both _ _ (le-leb old.incarnation new.incarnation (omega arith))
    (and_both _ _ (le-leb _ _ l)
    (left_or (not (eqb new.revision old.revision || eqb new.incarnation old.incarnation)) _
    (λ i. not (ne_eqb new.revision old.revision (λ e. omega arith) i || ne_eqb new.incarnation old.incarnation (λ e. omega arith) i)))))

-- a slot of a later incarnation
pub slot_next : (new old : VoterSlotRecord) → new.member.identity.slot ≡ old.member.identity.slot → old.retired_through ≤ new.retired_through
    → old.member.identity.incarnation < new.member.identity.incarnation → old.member.admission_generation < new.member.admission_generation
    → (old.has_last_result ≡ true → (new.has_last_result && result_succeeds new.last_result old.last_result) ≡ true)
    → slot_succeeds new old ≡ true
slot_next new old h k l m n =
    let mine = new.member.identity.incarnation in
    let theirs = old.member.identity.incarnation in
    passes (slot-succeeds-is new old) (
      eq-eqb _ _ h,
      (
        le-leb _ _ k,
        (
          le-leb theirs mine (omega arith),
          (
            left_or (not (eqb mine theirs)) _ (ap not (ne_eqb mine theirs (λ e. omega arith))),
            (then-passes (ltb theirs mine) _ (λ e. lt-ltb _ _ m), then-passes old.has_last_result _ n),
          ),
        ),
      ),
    )

-- a slot of the same incarnation, in a phase that is not before
pub slot-stays : (s : VoterSlotRecord) (phase : ℕ) (some : Bool) (result : VoterReplacementResult) → s.phase ≤ phase
    → (s.has_last_result ≡ true → (some && result_succeeds result s.last_result) ≡ true)
    → slot_succeeds (slot_with s.member s.retired_through phase some result) s ≡ true
slot-stays s phase some result l n =
    let mine = s.member.identity.incarnation in
    passes (slot-succeeds-is (slot_with s.member s.retired_through phase some result) s) (
      eq-eqb s.member.identity.slot _ refl,
      (
        le-leb _ _ (le_refl s.retired_through),
        (
          le-leb _ _ (le_refl mine),
          (
            then-passes (eqb mine mine) _ (λ h. and_both _ _ (same_voter_slot_member-refl s.member) (le-leb _ _ l)),
            (left_or (not (ltb mine mine)) _ (ap not (le-ltb mine mine (le_refl _))), then-passes s.has_last_result _ n),
          ),
        ),
      ),
    )

-- the same slot in a phase that is not before
pub slot-in-phase : (s : VoterSlotRecord) (phase : ℕ) → s.phase ≤ phase → slot_succeeds (in_phase s phase) s ≡ true
slot-in-phase s phase l = slot-stays s phase s.has_last_result s.last_result l (λ h. and_both _ _ h (result-same s.last_result))

-- a slot follows itself
pub slot_same : (s : VoterSlotRecord) → slot_succeeds s s ≡ true
slot_same s = slot-in-phase s s.phase (le_refl _)

-- ---- two tables that are valid

-- The head follows; tables of one revision are equal; of another, each slot follows the old one,
-- and so does the open request.
pub record SuccessionHolds (new old : VoterSlotTable) : Type 0 where
  pub head : head_succeeds new old ≡ true
  pub same : new.revision ≡ old.revision → new ≡ old
  pub slots : (new.revision ≡ old.revision → ⊥) → (i : ℕ) → i < new.count → slot_succeeds (slot_at new i) (slot_at old i) ≡ true
  pub replacement : (new.revision ≡ old.revision → ⊥) → replacement_succeeds new old ≡ Accepted

module _ (new old : VoterSlotTable) where
  -- the slot at a place follows the old one; the answers for one revision and for two
  follows-at : ℕ → Bool
  follows-at i = slot_succeeds (slot_at new i) (slot_at old i)

  if_same : Answer
  if_same = or_regression (same_voter_slot_table new old) Accepted

  if_later : Answer
  if_later = or_regression (all_below follows-at new.count) (replacement_succeeds new old)

  -- the check of two valid tables taken apart
  pub succession-holds : succession new old ≡ Accepted → SuccessionHolds new old
  unfolding succession follows-at if_same if_later
  succession-holds h =
      let is_same = eqb new.revision old.revision in
      let e = chosen (head_succeeds new old) (cond is_same if_same if_later) Regression refl h in
      let later : (new.revision ≡ old.revision → ⊥) → (all_below follows-at new.count ≡ true) × (replacement_succeeds new old ≡ Accepted) =
      λ d. chosen (all_below follows-at new.count) (replacement_succeeds new old) Regression refl (sym (cond-false is_same if_same if_later (ne_eqb _ _ d)) ∙ e.1) in
      record {
        head = e.0;
        same = λ r. same_voter_slot_table-true new old (chosen (same_voter_slot_table new old) Accepted Regression refl (sym (cond-true is_same if_same if_later (eq-eqb _ _ r)) ∙ e.1)).0;
        slots = λ d i l. all_below-at follows-at new.count i (later d).0 l;
        replacement = λ d. (later d).1;
      }

  -- and put together again
  pub succession-accepted : SuccessionHolds new old → succession new old ≡ Accepted
  unfolding succession follows-at if_same if_later
  succession-accepted h =
      let is_same = eqb new.revision old.revision in
      cond-true (head_succeeds new old) (cond is_same if_same if_later) Regression h.head ∙ by is_same refl
    where
      by : (t : Bool) → eqb new.revision old.revision ≡ t → cond t if_same if_later ≡ Accepted
      by true e =
          let p = h.same (eqb-true _ _ e) in
          cond-true (same_voter_slot_table new old) Accepted Regression
          (ap (λ (t : VoterSlotTable). same_voter_slot_table t old) p ∙ same_voter_slot_table-refl old)
      by false e =
          let d = eqb-false new.revision old.revision e in
          cond-true (all_below follows-at new.count) (replacement_succeeds new old) Regression (all_below-all follows-at new.count (h.slots d))
          ∙ h.replacement d

-- ---- the whole check

-- what is left of it where both tables passed the representability check and the old one is valid
pub check-is : (new old : VoterSlotTable) → representable new ≡ true → representable old ≡ true → validity old ≡ Accepted
    → validate_successor_of new old ≡ first_refusal (validity new) (succession new old)
unfolding validate_successor_of
check-is new old h k v =
    cond-true (representable new && representable old) _ Unrepresentable (and_both _ _ h k)
    ∙ ap (λ (a : Answer). first_refusal (validity new) (first_refusal a (succession new old))) v

-- A table may follow another: both are valid, and the succession is accepted.
pub record CheckHolds (new old : VoterSlotTable) : Type 0 where
  pub new-valid : validate new ≡ Accepted
  pub old-valid : validate old ≡ Accepted
  pub follows : succession new old ≡ Accepted

-- the whole check taken apart
pub check-holds : (new old : VoterSlotTable) → validate_successor_of new old ≡ Accepted → CheckHolds new old
unfolding validate_successor_of
check-holds new old h =
    let e = chosen (representable new && representable old) (first_refusal (validity new) (first_refusal (validity old) (succession new old))) Unrepresentable refl h in
    let v = both-accepted (validity new) (first_refusal (validity old) (succession new old)) e.1 in
    let w = both-accepted (validity old) (succession new old) v.1 in
    record {
      new-valid = valid-joined new (and_left (representable new) _ e.0) v.0;
      old-valid = valid-joined old (and_right (representable new) _ e.0) w.0;
      follows = w.1;
    }

-- and put together again
pub check-accepted : (new old : VoterSlotTable) → CheckHolds new old → validate_successor_of new old ≡ Accepted
check-accepted new old h =
    let v = valid-parts new h.new-valid in
    let w = valid-parts old h.old-valid in
    check-is new old v.0 w.0 w.1 ∙ then-accepted (validity new) (succession new old) v.1 h.follows

-- ---- answers as tests

-- validity and then the successor check are accepted where both tests hold
pub accepted-both : (v w : Bool) → is_accepted (first_refusal (require_of v Accepted) (or_regression w Accepted)) ≡ (v && w)
accepted-both true true = refl
accepted-both true false = refl
accepted-both false w = refl

-- the same of the second alone
pub accepted-where : (w : Bool) → is_accepted (or_regression w Accepted) ≡ w
accepted-where true = refl
accepted-where false = refl

-- of four tests of which three hold, the second decides
pub only-second : (a b c d : Bool) → a ≡ true → c ≡ true → d ≡ true → (a && (b && (c && d))) ≡ b
only-second a b c d h k l = go a c d h k l
  where
    go : (a c d : Bool) → a ≡ true → c ≡ true → d ≡ true → (a && (b && (c && d))) ≡ b
    go true true true h k l = and-true b
    go true true false h k l = absurd (false≢true l)
    go true false d h k l = absurd (false≢true k)
    go false c d h k l = absurd (false≢true h)
