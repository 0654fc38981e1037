-- The nine places passed from the last to the first, and what a Begin's functions find there
-- against Control.
-- Laws for proofs of code; what is right is said in Control and Judgement.
-- Assumes nothing.
use Prim.Native.Nat.{ℕ, zero, suc, ◌+◌, ◌-◌, ◌<◌, ◌≤◌}
use Rattle.std.proofs.Math.Path.{refl, ap}
use Rattle.std.proofs.Common.{sym, ap₂, ◌∙◌, add-one, arith, take-suc, take-suc-set, ltb-true, ltb-false, lt-ltb, le-ltb}
use Rattle.std.specs.Bool.{then_some}
use Rattle.std.specs.Option.{option_or, unwrap_or}
use Rattle.std.specs.Result.{result_and}
use Rattle.std.specs.Prelude.{◌≡◌, Bool, Option, Some, None, is_some, Ok, Err, true, false, not, ◌&&◌, ◌||◌, List, map, ◌∷◌, ◌++◌, [], eqb, leb, ltb, get_or, length, set, take}
use Rattle.std.proofs.Math.Bool.{cond}
use Rattle.std.proofs.lemmas.Bool.{false≢true}
use Rattle.std.proofs.lemmas.List.{map-append}
use Rattle.std.proofs.Math.Nat.{sub-zero}
use Rattle.std.proofs.Math.ListN.{get_or-eq_default}
use Rattle.identity.specs.Answer.{is_accepted, Answer, Accepted, InvalidLossEvidence, NoSurvivingQuorum, StaleIncarnation}
use Rattle.records.specs.declared.records.VoterSlotMember.{VoterSlotMember}
use Rattle.records.specs.declared.records.VoterSlotRecord.{VoterSlotRecord}
use Rattle.records.specs.declared.records.VoterSlotTable.{VoterSlotTable}
use Rattle.records.specs.Equality.{eq_bytes}
use Rattle.records.specs.EqualityLaws.{eq_bytes-true}
use Rattle.records.specs.Records.{first_from, max_fixed_voter_slots, no_slot_record, slot_at}
use Rattle.records.specs.RecordsLaws.{first_more, first-none, first-stop}
use Rattle.records.specs.Successor.{first_refusal}
use Rattle.records.specs.TestLaws.{first-at, is_false}
use Rattle.control.specs.declared.control.VoterReplacementRequest.{VoterReplacementRequest}
use Rattle.control.specs.Control.{candidate_check, is_current, is_expected, is_known, is_open_request, known_digest, named_index, receipt_index, stale_check}
use Rattle.control.specs.BeginJudge.{attested_member, has_digest, has_receipt, is_place, named_of, newer_than, read_at, receipt_state}

-- ---- the first place, found by passing all nine from the last to the first

first-from : (p : ℕ → Bool) (k i : ℕ) → i ≤ first_from p k i
unfolding first_from
first-from p zero i = omega arith
first-from p (suc k) i = go (p i) (first-from p k (i + 1))
  where
    go : (b : Bool) → i + 1 ≤ first_from p k (i + 1) → i ≤ cond b i (first_from p k (i + 1))
    go true h = omega arith
    go false h = omega arith

module _ (t : VoterSlotTable) (p : VoterSlotRecord → Bool) where
  -- the first place from i on
  abbrev pub place_from : ℕ → ℕ
  place_from i = first_from (λ k. p (slot_at t k)) (t.count - i) i

  not_beyond : (i : ℕ) → t.count ≤ i → is_place t (place_from i) ≡ false
  not_beyond i h =
      ap (is_place t) (first-none (λ k. p (slot_at t k)) t.count i h) ∙ ap (λ (b : Bool). b && ltb i max_fixed_voter_slots) (le-ltb i t.count h)

  module _ {A : Type 0} (read : VoterSlotRecord → A) (none : A) where
    -- before the loop
    pub place_none : none ≡ read_at t (place_from 9) read none
    place_none = sym (ap (λ (b : Bool). cond b (read (slot_at t (place_from 9))) none) (go (ltb (place_from 9) t.count)))
      where
        go : (b : Bool) → (b && ltb (place_from 9) max_fixed_voter_slots) ≡ false
        go true = le-ltb _ _ (first-from (λ k. p (slot_at t k)) (t.count - 9) 9)
        go false = refl

    -- a turn of it
    pub place-turn : (i : ℕ) → i < 9 → (rest : A) → rest ≡ read_at t (place_from (i + 1)) read none
        → cond (ltb i t.count && p (slot_at t i)) (read (slot_at t i)) rest ≡ read_at t (place_from i) read none
    place-turn i l rest h = go (ltb i t.count) (p (slot_at t i)) refl refl
      where
        at : ℕ → A
        at k = read_at t k read none

        go : (b c : Bool) → ltb i t.count ≡ b → p (slot_at t i) ≡ c → cond (b && c) (read (slot_at t i)) rest ≡ at (place_from i)
        go true true e f =
            sym (ap at (first-stop (λ k. p (slot_at t k)) t.count i (ltb-true _ _ e) f)
            ∙ ap₂ (λ (x y : Bool). cond (x && y) (read (slot_at t i)) none) e (lt-ltb i max_fixed_voter_slots l))
        go true false e f = h ∙ sym (ap at (first_more (λ k. p (slot_at t k)) t.count i (ltb-true _ _ e) f))
        go false c e f =
            let m = ltb-false _ _ e in
            h
            ∙ (ap (λ (b : Bool). cond b (read (slot_at t (place_from (i + 1)))) none) (not_beyond (i + 1) (omega arith))
            ∙ sym (ap (λ (b : Bool). cond b (read (slot_at t (place_from i))) none) (not_beyond i m)))

  -- after it
  pub place-first : place_from 0 ≡ first_from (λ k. p (slot_at t k)) t.count 0
  place-first = ap (λ (n : ℕ). first_from (λ k. p (slot_at t k)) n 0) (sub-zero t.count)

-- what a loop has found, as the code picks it
pub picked-by : {A : Type 0} (b : Bool) (x : A) (was : Option A) → option_or (then_some b x) was ≡ cond b (Some x) was
picked-by true x was = refl
picked-by false x was = refl

-- ---- a turn of such a loop, and its end, over the index that the code has

module _ (t : VoterSlotTable) (p : VoterSlotRecord → Bool) where
  module _ {A : Type 0} (read : VoterSlotRecord → A) (none : A) where
    pub read-turn : (i : ℕ) (held : Bool) (own was : A) → 0 < i → i ≤ 9 → held ≡ p (slot_at t (i - 1)) → own ≡ read (slot_at t (i - 1))
        → was ≡ read_at t (place_from t p i) read none → cond (ltb (i - 1) t.count && held) own was ≡ read_at t (place_from t p (i - 1)) read none
    read-turn i held own was l m h o q =
        let e : i ≡ i - 1 + 1 = omega arith in
        (λ j. cond (ltb (i - 1) t.count && h j) (o j) was)
        ∙ place-turn t p read none (i - 1) (omega arith) was (q ∙ ap (λ (n : ℕ). read_at t (place_from t p n) read none) e)

    pub read-end : (i : ℕ) → i ≡ 0 → read_at t (place_from t p i) read none ≡ read_at t (first_from (λ k. p (slot_at t k)) t.count 0) read none
    read-end i e = ap (λ (n : ℕ). read_at t (place_from t p n) read none) e ∙ ap (λ (n : ℕ). read_at t n read none) (place-first t p)

-- ---- the same of a place alone
--
-- No proof of code cites these, and they stand.

-- whether a place was found, as what is read there
pub by_place : (b : Bool) → cond b true false ≡ b
by_place true = refl
by_place false = refl

-- what a loop has found, as it keeps it
pub found-by : (one found : Bool) → (one || found) ≡ cond one true found
found-by true found = refl
found-by false found = refl

pub kept_by : (one own same : Bool) → ((one && own) || (not one && same)) ≡ cond one own same
kept_by true true same = refl
kept_by true false same = refl
kept_by false own same = refl

module _ (t : VoterSlotTable) (p : VoterSlotRecord → Bool) where
  pub found_turn : (i : ℕ) (held found : Bool) → 0 < i → i ≤ 9 → held ≡ p (slot_at t (i - 1)) → found ≡ is_place t (place_from t p i)
      → ((ltb (i - 1) t.count && held) || found) ≡ is_place t (place_from t p (i - 1))
  found_turn i held found l m h q =
      found-by (ltb (i - 1) t.count && held) found
      ∙ (read-turn t p (λ s. true) false i held true found l m h refl (q ∙ sym (by_place (is_place t (place_from t p i)))) ∙ by_place (is_place t (place_from t p (i - 1))))

  pub found-end : (i : ℕ) → i ≡ 0 → is_place t (place_from t p i) ≡ is_place t (first_from (λ k. p (slot_at t k)) t.count 0)
  found-end i e = ap (λ (n : ℕ). is_place t (place_from t p n)) e ∙ ap (is_place t) (place-first t p)

-- ---- a place after the nine

no_slot : (t : VoterSlotTable) → length t.slots ≡ 9 → (k : ℕ) → ltb k max_fixed_voter_slots ≡ false → slot_at t k ≡ no_slot_record
no_slot t nine k h = let l = ltb-false k max_fixed_voter_slots h in get_or-eq_default t.slots no_slot_record (omega (arith, nine))

-- the first place of which a test holds is one of the nine, where the test does not hold of no slot
pub place_in : (t : VoterSlotTable) → length t.slots ≡ 9 → (p : VoterSlotRecord → Bool) → p no_slot_record ≡ false
    → is_place t (first_from (λ k. p (slot_at t k)) t.count 0) ≡ ltb (first_from (λ k. p (slot_at t k)) t.count 0) t.count
place_in t nine p blank = go (ltb k t.count) refl (ltb k max_fixed_voter_slots) refl
  where
    k : ℕ
    k = first_from (λ i. p (slot_at t i)) t.count 0

    go : (b : Bool) → ltb k t.count ≡ b → (c : Bool) → ltb k max_fixed_voter_slots ≡ c → (b && c) ≡ b
    go true e true f = refl
    go true e false f =
        let l = ltb-true k t.count e in
        absurd (false≢true (sym blank ∙ (ap p (sym (no_slot t nine k f)) ∙ first-at (λ i. p (slot_at t i)) t.count 0 (omega arith))))
    go false e c f = refl

-- ---- the request check against the slot: 13, 16, 12

module _ (t : VoterSlotTable) (r : VoterReplacementRequest) (nine : length t.slots ≡ 9) (bytes : length r.attestation.old_descriptor_digest ≡ 32) where
  no_bytes : eq_bytes r.attestation.old_descriptor_digest [] ≡ false
  no_bytes = is_false _ (λ h. let e = ap length (eq_bytes-true r.attestation.old_descriptor_digest [] h) in omega (arith, e, bytes))

  -- the candidate's answers
  abbrev fits : VoterSlotMember → Answer
  fits m = cond (leb 3 t.count) (cond (newer_than r m) Accepted InvalidLossEvidence) NoSurvivingQuorum

  abbrev rest : VoterSlotMember → Bool
  rest m = eqb t.revision r.expected_revision && (is_expected t r && (eq_bytes r.attestation.cluster_instance t.cluster_instance && attested_member r m))

  chain-fails : (a b c d : Bool) → (a && (b && (c && (d && false)))) ≡ false
  chain-fails true true true true = refl
  chain-fails true true true false = refl
  chain-fails true true false d = refl
  chain-fails true false c d = refl
  chain-fails false b c d = refl

  rest-fails : (k : ℕ) → ltb k max_fixed_voter_slots ≡ false → rest (slot_at t k).member ≡ false
  rest-fails k h =
      ap (λ (s : VoterSlotRecord). rest s.member) (no_slot t nine k h)
      ∙ (ap (λ (b : Bool). eqb t.revision r.expected_revision && (is_expected t r && (eq_bytes r.attestation.cluster_instance t.cluster_instance
      && (eqb r.attestation.expected_incarnation 0 && b)))) no_bytes
      ∙ chain-fails (eqb t.revision r.expected_revision) (is_expected t r) (eq_bytes r.attestation.cluster_instance t.cluster_instance) (eqb r.attestation.expected_incarnation 0))

  picked : (x : Bool) (next : Answer) → cond x next StaleIncarnation ≡ first_refusal (cond x Accepted StaleIncarnation) next
  picked true next = refl
  picked false next = refl

  -- by the member of the slot
  abbrev pub slot_by : Option VoterSlotMember → Answer
  slot_by None = StaleIncarnation
  slot_by (Some m) = cond (rest m) (fits m) StaleIncarnation

  pub slot-checked : slot_by (named_of t r.attestation.slot) ≡ first_refusal (stale_check t r) (candidate_check t r)
  unfolding is_current candidate_check
  slot-checked = go (ltb k t.count) (ltb k max_fixed_voter_slots) refl refl ∙ picked (ltb k t.count && rest m) (fits m)
    where
      k : ℕ
      k = named_index t r

      m : VoterSlotMember
      m = (slot_at t k).member

      go : (b c : Bool) → ltb k t.count ≡ b → ltb k max_fixed_voter_slots ≡ c → slot_by (cond (b && c) (Some m) None) ≡ cond (b && rest m) (fits m) StaleIncarnation
      go true true e f = refl
      go true false e f = sym (ap (λ (x : Bool). cond x (fits m) StaleIncarnation) (rest-fails k f))
      go false c e f = refl

  -- by what the code found
  pub slot-missing : (x : Option VoterSlotMember) → x ≡ named_of t r.attestation.slot → ((m : VoterSlotMember) → x ≡ Some m → ⊥) → StaleIncarnation ≡ first_refusal (stale_check t r) (candidate_check t r)
  slot-missing None a n = ap slot_by a ∙ slot-checked
  slot-missing (Some m) a n = absurd (n m refl)

  pub slot-judged : (m : VoterSlotMember) (expected cluster attested newer : Bool) → Some m ≡ named_of t r.attestation.slot → expected ≡ is_expected t r
      → cluster ≡ eq_bytes r.attestation.cluster_instance t.cluster_instance → attested ≡ attested_member r m → newer ≡ newer_than r m
      → cond (eqb t.revision r.expected_revision && (expected && (cluster && attested)))
      (cond (leb 3 t.count) (cond newer Accepted InvalidLossEvidence) NoSurvivingQuorum) StaleIncarnation
      ≡ first_refusal (stale_check t r) (candidate_check t r)
  slot-judged m expected cluster attested newer a b c d e =
      (λ i. cond (eqb t.revision r.expected_revision && (b i && (c i && d i)))
      (cond (leb 3 t.count) (cond (e i) Accepted InvalidLossEvidence) NoSurvivingQuorum) StaleIncarnation)
      ∙ (ap slot_by a ∙ slot-checked)

  -- the same with a blank where none was found
  pub slot-picked : (found : Bool) (x : Option VoterSlotMember) (blank : VoterSlotMember) (expected cluster attested newer : Bool) → found ≡ is_some x → x ≡ named_of t r.attestation.slot
      → expected ≡ is_expected t r
      → cluster ≡ eq_bytes r.attestation.cluster_instance t.cluster_instance → attested ≡ attested_member r (unwrap_or x blank) → newer ≡ newer_than r (unwrap_or x blank)
      → cond (found && (eqb t.revision r.expected_revision && (expected && (cluster && attested))))
      (cond (leb 3 t.count) (cond newer Accepted InvalidLossEvidence) NoSurvivingQuorum) StaleIncarnation
      ≡ first_refusal (stale_check t r) (candidate_check t r)
  slot-picked found None blank expected cluster attested newer f a b c d e =
      ap
      (λ (y : Bool). cond (y && (eqb t.revision r.expected_revision && (expected && (cluster && attested))))
      (cond (leb 3 t.count) (cond newer Accepted InvalidLossEvidence) NoSurvivingQuorum) StaleIncarnation)
      f
      ∙ (ap slot_by a ∙ slot-checked)
  slot-picked found (Some m) blank expected cluster attested newer f a b c d e =
      ap
      (λ (y : Bool). cond (y && (eqb t.revision r.expected_revision && (expected && (cluster && attested))))
      (cond (leb 3 t.count) (cond newer Accepted InvalidLossEvidence) NoSurvivingQuorum) StaleIncarnation)
      f
      ∙ slot-judged m expected cluster attested newer a b c d e

-- ---- a request that is known

eq_bytes-cond : (o : Bool) (a b d : List ℕ) → eq_bytes (cond o a b) d ≡ cond o (eq_bytes a d) (eq_bytes b d)
eq_bytes-cond true a b d = refl
eq_bytes-cond false a b d = refl

-- what follows, by whether the digest of the known request is that of this one
abbrev pub known_by : {W : Type 0} → (again conflict fresh : W) → Option Bool → W
known_by again conflict fresh None = fresh
known_by again conflict fresh (Some true) = again
known_by again conflict fresh (Some false) = conflict

module _ {W : Type 0} (t : VoterSlotTable) (nine : length t.slots ≡ 9) (id digest : List ℕ) (again conflict fresh : W) where
  abbrev pub by : Option Bool → W
  by = known_by again conflict fresh

  pub known_picked : by (option_or (then_some (is_open_request t id) (eq_bytes t.replacement.attestation.request_digest digest)) (receipt_state t id digest))
      ≡ cond (is_known t id) (cond (eq_bytes (known_digest t id) digest) again conflict) fresh
  unfolding known_digest receipt_index
  known_picked =
      ap (λ (b : Bool). by (option_or (then_some (is_open_request t id) own) (cond b (Some same) None))) (place_in t nine (has_receipt id) refl)
      ∙ (go (is_open_request t id) (ltb k t.count) own same
      ∙ ap (λ (b : Bool). cond (is_known t id) (cond b again conflict) fresh) (sym (eq_bytes-cond (is_open_request t id) t.replacement.attestation.request_digest (slot_at t k).last_result.request_digest digest)))
    where
      k : ℕ
      k = first_from (λ i. has_receipt id (slot_at t i)) t.count 0

      own : Bool
      own = eq_bytes t.replacement.attestation.request_digest digest

      same : Bool
      same = has_digest digest (slot_at t k)

      go : (o l own same : Bool) → by (option_or (then_some o own) (cond l (Some same) None)) ≡ cond (o || l) (cond (cond o own same) again conflict) fresh
      go true l true same = refl
      go true l false same = refl
      go false true own true = refl
      go false true own false = refl
      go false false own same = refl

  -- by what the code found
  pub known-judged : (named own : Bool) (x : Option Bool) → named ≡ eq_bytes t.replacement.attestation.request_id id
      → own ≡ eq_bytes t.replacement.attestation.request_digest digest → x ≡ receipt_state t id digest
      → (y : Option Bool) → option_or (then_some (t.has_replacement && named) own) x ≡ y
      → by y ≡ cond (is_known t id) (cond (eq_bytes (known_digest t id) digest) again conflict) fresh
  unfolding is_open_request
  known-judged named own x a b c y e = sym (ap by e) ∙ ((λ i. by (option_or (then_some (t.has_replacement && a i) (b i)) (c i))) ∙ known_picked)

-- ---- answers in turn

-- as the code picks the first refusal
pub and-answers : (a b : Answer) → result_and a b ≡ first_refusal a b
and-answers (Ok nothing) b = refl
and-answers (Err e) b = refl

pub then-assoc : (a b c : Answer) → first_refusal (first_refusal a b) c ≡ first_refusal a (first_refusal b c)
then-assoc a b c = go (is_accepted a) refl
  where
    go : (x : Bool) → is_accepted a ≡ x → first_refusal (cond x b a) c ≡ cond x (first_refusal b c) a
    go true e = refl
    go false e = ap (λ (y : Bool). cond y c a) e

-- ---- the members of the slots, one more a turn
--
-- No proof of code cites this, and it stands.

pub members-more : (l : List VoterSlotMember) (s : List VoterSlotRecord) (i : ℕ) → i < length l → i < length s → take i l ≡ map (λ x. x.member) (take i s)
    → take (i + 1) (set l i (get_or s i no_slot_record).member) ≡ map (λ x. x.member) (take (i + 1) s)
members-more l s i a b h =
    let x = get_or s i no_slot_record in
    let f : VoterSlotRecord → VoterSlotMember = λ x. x.member in
    ap (λ (n : ℕ). take n (set l i x.member)) (add-one i)
    ∙ (take-suc-set l i x.member a
    ∙ (ap (λ (r : List VoterSlotMember). r ++ (x.member ∷ [])) h
    ∙ sym (ap (λ (n : ℕ). map f (take n s)) (add-one i) ∙ (ap (map f) (take-suc s i no_slot_record b) ∙ map-append f (take i s) (x ∷ [])))))
