-- Validity, part by part: what a valid table, slot or open request has, as facts (`..-holds`), and
-- that these facts make it valid (`..-valid`).
-- Each name here is a step of a proof; what is right is said in Validation.
-- Assumes nothing.
use Prim.Native.Nat.{ℕ, zero, suc, ◌+◌, ◌-◌, ◌%◌, ◌<◌, ◌≤◌}
use Rattle.std.proofs.Math.Path.{refl, sym, ap}
use Rattle.std.specs.Prelude.{◌≡◌, Bool, cond, not, ◌&&◌, ◌||◌, List, ◌∷◌, [], leb, ltb}
use Rattle.std.proofs.Common.{◌∙◌, arith}
use Rattle.std.proofs.Math.Bool.{true, false}
use Rattle.std.proofs.Math.Dec.{eqb}
use borrow.Author.Tests.{eqb-true, eqb-false, leb-true, leb-false, ltb-true, eq-eqb, ne_eqb, le-leb, lt-ltb}
use Rattle.identity.specs.Identity.{max_voter_incarnation}
use Rattle.identity.specs.Utf8Laws.{and_left, and_right}
use Rattle.identity.specs.Answer.{Answer, Unrepresentable, Accepted, IncarnationExhausted, InvalidRecord}
use Rattle.records.specs.declared.records.VoterSlotMember.{VoterSlotMember}
use Rattle.records.specs.declared.records.VoterSlotRecord.{VoterSlotRecord}
use Rattle.records.specs.declared.records.VoterConfiguration.{VoterConfiguration}
use Rattle.records.specs.declared.records.VoterReplacementRecord.{VoterReplacementRecord}
use Rattle.records.specs.declared.records.VoterSlotTable.{VoterSlotTable}
use Rattle.records.specs.declared.validation.Claims.{Claims}
use Rattle.records.specs.Equality.{all_true, eq_bytes, same_voter_slot_member}
use Rattle.records.specs.EqualityLaws.{eq_bytes-true, same_voter_slot_member-true, same_voter_slot_member-refl}
use Rattle.records.specs.Evidence.{valid_log_id, valid_evidence}
use Rattle.records.specs.Records.{pending, catching_up, voting, snapshot_installed, fenced, uniform, completed, all_below, slot_at, member_at}
use Rattle.records.specs.RecordsLaws.{all_below-at, all_below-all}
use Rattle.records.specs.Representable.{representable}
use Rattle.records.specs.Validation.{require_of, valid_count, valid_configuration, valid_attestation, is_active, valid_result, valid_slot, distinct_results, valid_slots, target_phase, valid_operation_head, is_current_epoch, valid_operation, retired_member, valid_target, other_request, other_member, validate_member, validate_members, has_target, validate_operation, validity, validate}
use Rattle.records.specs.ValidationLaws.{member_answer}
use Rattle.records.specs.With.{in_phase}
use Rattle.records.specs.TestLaws.{MadeOf, says, passes, and_both, then-says, then-passes, never-says, never-passes, cond-true, cond-false, same_bytes, chosen, chosen-not, both-accepted, then-accepted}

-- ---- a count

-- "odd count, 1 to 9"
pub count-is : (n : ℕ) → MadeOf (ltb 0 n ∷ leb n 9 ∷ eqb (n % 2) 1 ∷ []) (valid_count n)
unfolding all_true
count-is n = record { is = refl }

-- ---- a receipt, in a table of that revision and epoch

pub record ResultHolds (now era : ℕ) (active : Bool) (s : VoterSlotRecord) : Type 0 where
  pub terminal : valid_log_id s.last_result.terminal ≡ true
  pub some : 0 < s.last_result.revision
  pub revision : s.last_result.revision ≤ now
  pub epoch : s.last_result.configuration_epoch ≤ era
  pub later : 1 < s.last_result.incarnation
  pub own : s.last_result.incarnation ≤ s.member.identity.incarnation
  pub earlier : active ≡ true → s.last_result.incarnation < s.member.identity.incarnation
  pub settled : s.last_result.incarnation ≡ s.member.identity.incarnation → (eqb s.phase voting && eqb s.last_result.kind completed) ≡ true

module _ (revision epoch : ℕ) (active : Bool) (s : VoterSlotRecord) where
  -- its revision, epoch and incarnation
  abbrev numbers : Bool
  numbers =
      ltb 0 s.last_result.revision
      && (leb s.last_result.revision revision
      && (leb s.last_result.configuration_epoch epoch && (ltb 1 s.last_result.incarnation && leb s.last_result.incarnation s.member.identity.incarnation)))

  numbers-are : MadeOf (
      ltb 0 s.last_result.revision
      ∷ leb s.last_result.revision revision
      ∷ leb s.last_result.configuration_epoch epoch
      ∷ ltb 1 s.last_result.incarnation
      ∷ leb s.last_result.incarnation s.member.identity.incarnation
      ∷ []) numbers
  unfolding all_true
  numbers-are = record { is = refl }

  result-is : MadeOf (
      valid_log_id s.last_result.terminal
      ∷ numbers
      ∷ (not active || ltb s.last_result.incarnation s.member.identity.incarnation)
      ∷ (not (eqb s.last_result.incarnation s.member.identity.incarnation) || (eqb s.phase voting && eqb s.last_result.kind completed))
      ∷ []) (valid_result revision epoch active s)
  unfolding all_true valid_result
  result-is = record { is = refl }

  pub result-holds : valid_result revision epoch active s ≡ true → ResultHolds revision epoch active s
  result-holds h =
      let e = says result-is h in
      let n = says numbers-are e.1.0 in
      record {
        terminal = e.0;
        some = ltb-true _ _ n.0;
        revision = leb-true _ _ n.1.0;
        epoch = leb-true _ _ n.1.1.0;
        later = ltb-true _ _ n.1.1.1.0;
        own = leb-true _ _ n.1.1.1.1;
        earlier = λ a. ltb-true _ _ (then-says active _ e.1.1.0 a);
        settled = λ a. then-says (eqb s.last_result.incarnation s.member.identity.incarnation) _ e.1.1.1 (eq-eqb _ _ a);
      }

  pub result-valid : ResultHolds revision epoch active s → valid_result revision epoch active s ≡ true
  result-valid h =
      passes result-is (
        h.terminal,
        (
          passes numbers-are (lt-ltb _ _ h.some, (le-leb _ _ h.revision, (le-leb _ _ h.epoch, (lt-ltb _ _ h.later, le-leb _ _ h.own)))),
          (then-passes active _ (λ a. lt-ltb _ _ (h.earlier a)), then-passes (eqb s.last_result.incarnation s.member.identity.incarnation) _ (λ a. h.settled (eqb-true _ _ a))),
        ),
      )

-- ---- a slot

pub record SlotHolds (revision epoch : ℕ) (active : Bool) (s : VoterSlotRecord) : Type 0 where
  pub generation : 0 < s.member.admission_generation
  pub retired : s.retired_through + 1 ≡ s.member.identity.incarnation
  pub placed : ((active || leb s.member.identity.incarnation 1)
      || (s.has_last_result && (eqb s.last_result.incarnation s.member.identity.incarnation && eqb s.last_result.kind completed))) ≡ true
  pub receipt : s.has_last_result ≡ true → ResultHolds revision epoch active s

module _ (revision epoch : ℕ) (active : Bool) (s : VoterSlotRecord) where
  slot_is : MadeOf (
      (ltb 0 s.member.admission_generation && eqb (s.retired_through + 1) s.member.identity.incarnation)
      ∷ ((active || leb s.member.identity.incarnation 1)
      || (s.has_last_result && (eqb s.last_result.incarnation s.member.identity.incarnation && eqb s.last_result.kind completed)))
      ∷ (not s.has_last_result || valid_result revision epoch active s)
      ∷ []) (valid_slot revision epoch active s)
  unfolding all_true valid_slot
  slot_is = record { is = refl }

  pub slot-holds : valid_slot revision epoch active s ≡ true → SlotHolds revision epoch active s
  slot-holds h =
      let e = says slot_is h in
      record {
        generation = ltb-true _ _ (and_left (ltb 0 s.member.admission_generation) _ e.0);
        retired = eqb-true _ _ (and_right (ltb 0 s.member.admission_generation) _ e.0);
        placed = e.1.0;
        receipt = λ a. result-holds revision epoch active s (then-says s.has_last_result _ e.1.1 a);
      }

  pub slot-valid : SlotHolds revision epoch active s → valid_slot revision epoch active s ≡ true
  slot-valid h =
      passes slot_is (
        and_both _ _ (lt-ltb _ _ h.generation) (eq-eqb _ _ h.retired),
        (
          h.placed,
          then-passes s.has_last_result _ (λ a. result-valid revision epoch active s (h.receipt a)),
        ),
      )

-- what holds in a table holds at a later revision and epoch
pub slot-later : (revision epoch revision' epoch' : ℕ) (active : Bool) (s : VoterSlotRecord) → revision ≤ revision' → epoch ≤ epoch'
    → SlotHolds revision epoch active s → SlotHolds revision' epoch' active s
slot-later revision epoch revision' epoch' active s l m h =
    record {
      generation = h.generation;
      retired = h.retired;
      placed = h.placed;
      receipt = λ a.
          let e = h.receipt a in
          record {
            terminal = e.terminal;
            some = e.some;
            revision = omega (arith, e.revision);
            epoch = omega (arith, e.epoch);
            later = e.later;
            own = e.own;
            earlier = e.earlier;
            settled = e.settled;
          };
    }

-- a slot that is being replaced may be in any phase
pub slot-moved : (revision epoch : ℕ) (s : VoterSlotRecord) (phase : ℕ) → SlotHolds revision epoch true s → SlotHolds revision epoch true (in_phase s phase)
slot-moved revision epoch s phase h =
    record {
      generation = h.generation;
      retired = h.retired;
      placed = refl;
      receipt = λ a.
          let e = h.receipt a in
          record {
            terminal = e.terminal;
            some = e.some;
            revision = e.revision;
            epoch = e.epoch;
            later = e.later;
            own = e.own;
            earlier = e.earlier;
            settled = λ k. absurd (omega (arith, e.earlier refl, k));
          };
    }

-- ---- the slots

-- Two slots have no receipt of one request.
abbrev pub Distinct : VoterSlotRecord → VoterSlotRecord → Type 0
Distinct a b = a.has_last_result ≡ true → b.has_last_result ≡ true → a.last_result.request_id ≡ b.last_result.request_id → ⊥

distinct-holds : (a b : VoterSlotRecord) → distinct_results a b ≡ true → Distinct a b
distinct-holds a b h x y e =
    never-says (a.has_last_result && (b.has_last_result && eq_bytes a.last_result.request_id b.last_result.request_id)) h
    (and_both _ _ x (and_both _ _ y (same_bytes _ _ e)))

-- in either order
pub distinct-sym : (a b : VoterSlotRecord) → Distinct a b → Distinct b a
distinct-sym a b n x y e = n y x (sym e)

distinct-valid : (a b : VoterSlotRecord) → Distinct a b → distinct_results a b ≡ true
distinct-valid a b n =
    never-passes (a.has_last_result && (b.has_last_result && eq_bytes a.last_result.request_id b.last_result.request_id))
    (λ h.
    let k = and_right a.has_last_result _ h in
    n (and_left a.has_last_result _ h) (and_left b.has_last_result _ k) (eq_bytes-true _ _ (and_right b.has_last_result _ k)))

pub record SlotsHold (t : VoterSlotTable) : Type 0 where
  pub odd : valid_count t.count ≡ true
  pub revision : 0 < t.revision
  pub rise : (i : ℕ) → i < t.count - 1 → (slot_at t i).member.identity.slot < (slot_at t (i + 1)).member.identity.slot
  pub each : (i : ℕ) → i < t.count → SlotHolds t.revision t.configuration_epoch (is_active t (slot_at t i)) (slot_at t i)
  pub distinct : (j i : ℕ) → j < i → i < t.count → Distinct (slot_at t j) (slot_at t i)

module _ (t : VoterSlotTable) where
  rises : ℕ → Bool
  rises i = ltb (slot_at t i).member.identity.slot (slot_at t (i + 1)).member.identity.slot

  good : ℕ → Bool
  good i = valid_slot t.revision t.configuration_epoch (is_active t (slot_at t i)) (slot_at t i)

  unlike : ℕ → Bool
  unlike i = all_below (λ j. distinct_results (slot_at t j) (slot_at t i)) i

  slots-is : MadeOf (
      valid_count t.count
      ∷ ltb 0 t.revision
      ∷ all_below rises (t.count - 1)
      ∷ all_below good t.count
      ∷ all_below unlike t.count
      ∷ []) (valid_slots t)
  unfolding all_true valid_slots rises good unlike
  slots-is = record { is = refl }

  pub slots-hold : valid_slots t ≡ true → SlotsHold t
  unfolding rises good unlike
  slots-hold h =
      let e = says slots-is h in
      record {
        odd = e.0;
        revision = ltb-true _ _ e.1.0;
        rise = λ i l. ltb-true _ _ (all_below-at rises _ i e.1.1.0 l);
        each = λ i l. slot-holds _ _ _ _ (all_below-at good _ i e.1.1.1.0 l);
        distinct = λ j i l m. distinct-holds (slot_at t j) (slot_at t i) (all_below-at (λ k. distinct_results (slot_at t k) (slot_at t i)) i j (all_below-at unlike _ i e.1.1.1.1 m) l);
      }

  pub slots-valid : SlotsHold t → valid_slots t ≡ true
  unfolding rises good unlike
  slots-valid h =
      passes slots-is (
        h.odd,
        (
          lt-ltb _ _ h.revision,
          (
            all_below-all rises _ (λ i l. lt-ltb _ _ (h.rise i l)),
            (
              all_below-all good _ (λ i l. slot-valid _ _ _ _ (h.each i l)),
              all_below-all unlike _ (λ i l. all_below-all (λ j. distinct_results (slot_at t j) (slot_at t i)) i (λ j m. distinct-valid (slot_at t j) (slot_at t i) (h.distinct j i m l))),
            ),
          ),
        ),
      )

-- ---- a configuration

pub record ConfigurationHolds (c : VoterConfiguration) : Type 0 where
  pub odd : valid_count c.count ≡ true
  pub generation : (i : ℕ) → i < c.count → 0 < (member_at c i).admission_generation
  pub rise : (i : ℕ) → i < c.count - 1 → (member_at c i).identity.slot < (member_at c (i + 1)).identity.slot

module _ (c : VoterConfiguration) where
  admitted : ℕ → Bool
  admitted i = ltb 0 (member_at c i).admission_generation

  risen : ℕ → Bool
  risen i = ltb (member_at c i).identity.slot (member_at c (i + 1)).identity.slot

  configuration-is : MadeOf (
      valid_count c.count
      ∷ all_below admitted c.count
      ∷ all_below risen (c.count - 1)
      ∷ []) (valid_configuration c)
  unfolding all_true valid_configuration admitted risen
  configuration-is = record { is = refl }

  pub configuration-holds : valid_configuration c ≡ true → ConfigurationHolds c
  unfolding admitted risen
  configuration-holds h =
      let e = says configuration-is h in
      record {
        odd = e.0;
        generation = λ i l. ltb-true _ _ (all_below-at admitted _ i e.1.0 l);
        rise = λ i l. ltb-true _ _ (all_below-at risen _ i e.1.1 l);
      }

  pub configuration-valid : ConfigurationHolds c → valid_configuration c ≡ true
  unfolding admitted risen
  configuration-valid h =
      passes configuration-is (
        h.odd,
        (all_below-all admitted _ (λ i l. lt-ltb _ _ (h.generation i l)), all_below-all risen _ (λ i l. lt-ltb _ _ (h.rise i l))),
      )

-- ---- the phase of the slot being replaced

-- it is one of the three phases
pub phase-held : (phase : ℕ) → leb (target_phase phase) voting ≡ true
phase-held phase = go (leb phase snapshot_installed) (leb phase fenced)
  where
    go : (a b : Bool) → leb (cond a pending (cond b catching_up voting)) voting ≡ true
    go true b = refl
    go false true = refl
    go false false = refl

-- it does not fall where the request's phase does not
pub phase-rises : (p q : ℕ) → p ≤ q → target_phase p ≤ target_phase q
phase-rises p q l = go (leb p snapshot_installed) (leb p fenced) (leb q snapshot_installed) (leb q fenced) refl refl refl refl
  where
    go : (a b c d : Bool) → leb p snapshot_installed ≡ a → leb p fenced ≡ b → leb q snapshot_installed ≡ c → leb q fenced ≡ d
        → cond a pending (cond b catching_up voting) ≤ cond c pending (cond d catching_up voting)
    go true b c d h i j k = omega arith
    go false b true d h i j k = absurd (let m = leb-false p snapshot_installed h in let n = leb-true q snapshot_installed j in omega arith)
    go false true false true h i j k = omega arith
    go false true false false h i j k = omega arith
    go false false false true h i j k = absurd (let m = leb-false p fenced i in let n = leb-true q fenced k in omega arith)
    go false false false false h i j k = omega arith

-- ---- the open request

-- What it has in common with the table's head.
pub record HeadHolds (t : VoterSlotTable) (op : VoterReplacementRecord) : Type 0 where
  pub some : 0 < op.expected_revision
  pub earlier : op.expected_revision < t.revision
  pub cluster : eq_bytes op.attestation.cluster_instance t.cluster_instance ≡ true
  pub three : 3 ≤ t.count
  pub predecessor : op.predecessor.count ≡ t.count
  pub successor : op.successor.count ≡ t.count
  pub next : op.predecessor.epoch + 1 ≡ op.successor.epoch

-- The request itself, without the slots.
pub record OperationHolds (t : VoterSlotTable) (op : VoterReplacementRecord) : Type 0 where
  pub attestation : valid_attestation op.attestation ≡ true
  pub predecessor : valid_configuration op.predecessor ≡ true
  pub successor : valid_configuration op.successor ≡ true
  pub evidence : valid_evidence op.evidence op.phase ≡ true
  pub head : HeadHolds t op
  pub epoch : t.configuration_epoch ≡ cond (eqb op.phase uniform) op.successor.epoch op.predecessor.epoch

module _ (t : VoterSlotTable) (op : VoterReplacementRecord) where
  head-is : MadeOf (
      ltb 0 op.expected_revision
      ∷ ltb op.expected_revision t.revision
      ∷ eq_bytes op.attestation.cluster_instance t.cluster_instance
      ∷ leb 3 t.count
      ∷ eqb op.predecessor.count t.count
      ∷ eqb op.successor.count t.count
      ∷ eqb (op.predecessor.epoch + 1) op.successor.epoch
      ∷ []) (valid_operation_head t op)
  unfolding all_true valid_operation_head
  head-is = record { is = refl }

  operation-is : MadeOf (
      valid_attestation op.attestation
      ∷ valid_configuration op.predecessor
      ∷ valid_configuration op.successor
      ∷ valid_evidence op.evidence op.phase
      ∷ valid_operation_head t op
      ∷ is_current_epoch t op
      ∷ []) (valid_operation t op)
  unfolding all_true valid_operation
  operation-is = record { is = refl }

  head-holds : valid_operation_head t op ≡ true → HeadHolds t op
  head-holds h =
      let e = says head-is h in
      record {
        some = ltb-true _ _ e.0;
        earlier = ltb-true _ _ e.1.0;
        cluster = e.1.1.0;
        three = leb-true _ _ e.1.1.1.0;
        predecessor = eqb-true _ _ e.1.1.1.1.0;
        successor = eqb-true _ _ e.1.1.1.1.1.0;
        next = eqb-true _ _ e.1.1.1.1.1.1;
      }

  pub head-valid : HeadHolds t op → valid_operation_head t op ≡ true
  head-valid h =
      passes head-is (lt-ltb _ _ h.some, (lt-ltb _ _ h.earlier, (h.cluster, (le-leb _ _ h.three, (eq-eqb _ _ h.predecessor, (eq-eqb _ _ h.successor, eq-eqb _ _ h.next))))))

  pub operation-holds : valid_operation t op ≡ true → OperationHolds t op
  unfolding is_current_epoch
  operation-holds h =
      let e = says operation-is h in
      record {
        attestation = e.0;
        predecessor = e.1.0;
        successor = e.1.1.0;
        evidence = e.1.1.1.0;
        head = head-holds e.1.1.1.1.0;
        epoch = eqb-true _ _ e.1.1.1.1.1;
      }

  operation-valid : OperationHolds t op → valid_operation t op ≡ true
  unfolding is_current_epoch
  operation-valid h =
      passes operation-is (h.attestation, (h.predecessor, (h.successor, (h.evidence, (head-valid h.head, eq-eqb _ _ h.epoch)))))

-- ---- the members of the open request

-- The slot has no receipt of that request.
abbrev pub Other : List ℕ → VoterSlotRecord → Type 0
Other id s = s.has_last_result ≡ true → s.last_result.request_id ≡ id → ⊥

other-holds : (c : Claims) (s : VoterSlotRecord) → other_request c s ≡ true → Other c.request_id s
other-holds c s h a e =
    never-says (eq_bytes s.last_result.request_id c.request_id) (then-says s.has_last_result _ h a) (same_bytes _ _ e)

other-valid : (c : Claims) (s : VoterSlotRecord) → Other c.request_id s → other_request c s ≡ true
other-valid c s n =
    then-passes s.has_last_result _ (λ a. never-passes (eq_bytes s.last_result.request_id c.request_id) (λ e. n a (eq_bytes-true _ _ e)))

-- The slot being replaced, where p is the member before it.
pub record TargetHolds (c : Claims) (s : VoterSlotRecord) (p : VoterSlotMember) : Type 0 where
  pub slot : p.identity.slot ≡ s.member.identity.slot
  pub more : c.expected_incarnation ≡ max_voter_incarnation → ⊥
  pub next : c.expected_incarnation + 1 ≡ s.member.identity.incarnation
  pub earlier : p.identity.incarnation ≤ c.expected_incarnation
  pub generation : p.admission_generation < s.member.admission_generation
  pub admitted : s.member.admission_generation ≡ c.admission_generation
  pub key : eq_bytes s.member.key_digest c.candidate_key_digest ≡ true
  pub phase : s.phase ≡ target_phase c.phase
  pub retired : retired_member c s p ≡ true
  pub other : Other c.request_id s

-- A slot that is not being replaced, where p is the member before it: the same.
pub record OtherHolds (c : Claims) (s : VoterSlotRecord) (p : VoterSlotMember) : Type 0 where
  pub member : p ≡ s.member
  pub phase : s.phase ≡ voting
  pub other : Other c.request_id s

module _ (c : Claims) (s : VoterSlotRecord) (p q : VoterSlotMember) where
  -- the candidate: of the next incarnation, admitted later, with the attested key
  abbrev candidate : Bool
  candidate =
      eqb (c.expected_incarnation + 1) q.identity.incarnation
      && (leb p.identity.incarnation c.expected_incarnation
      && (ltb p.admission_generation q.admission_generation
      && (eqb q.admission_generation c.admission_generation
      && eq_bytes q.key_digest c.candidate_key_digest)))

  target_is : MadeOf (
      candidate
      ∷ eqb s.phase (target_phase c.phase)
      ∷ retired_member c s p
      ∷ []) (valid_target c s p q)
  unfolding all_true valid_target
  target_is = record { is = refl }

  candidate-is : MadeOf (
      eqb (c.expected_incarnation + 1) q.identity.incarnation
      ∷ leb p.identity.incarnation c.expected_incarnation
      ∷ ltb p.admission_generation q.admission_generation
      ∷ eqb q.admission_generation c.admission_generation
      ∷ eq_bytes q.key_digest c.candidate_key_digest
      ∷ []) candidate
  unfolding all_true
  candidate-is = record { is = refl }

  abbrev fits : Bool
  fits = same_voter_slot_member s.member q && eqb p.identity.slot q.identity.slot

  abbrev is_target : Bool
  is_target = eqb s.member.identity.slot c.slot

  abbrev if_target : Answer
  if_target = cond (eqb c.expected_incarnation max_voter_incarnation) IncarnationExhausted (require_of (valid_target c s p q && other_request c s) Accepted)

  abbrev if_other : Answer
  if_other = require_of (other_member s p q && other_request c s) Accepted

  member-parts : validate_member c s p q ≡ Accepted → (q ≡ s.member) × ((p.identity.slot ≡ s.member.identity.slot) × (cond is_target if_target if_other ≡ Accepted))
  unfolding validate_member
  member-parts h =
      let e = chosen fits (cond is_target if_target if_other) InvalidRecord refl h in
      let m : s.member ≡ q = same_voter_slot_member-true _ _ (and_left (same_voter_slot_member s.member q) _ e.0) in
      let n = eqb-true _ _ (and_right (same_voter_slot_member s.member q) _ e.0) in
      (sym m, (n ∙ ap (λ (x : VoterSlotMember). x.identity.slot) (sym m), e.1))

  -- the member before has the slot's number
  pub member-number : validate_member c s p q ≡ Accepted → p.identity.slot ≡ s.member.identity.slot
  member-number h = (member-parts h).1.0

  -- what validity says of the slot being replaced
  pub member-target : validate_member c s p q ≡ Accepted → s.member.identity.slot ≡ c.slot → TargetHolds c s p
  member-target h e =
      let f = member-parts h in
      let g = chosen-not (eqb c.expected_incarnation max_voter_incarnation) IncarnationExhausted (require_of (valid_target c s p q && other_request c s) Accepted) refl
      (sym (cond-true is_target if_target if_other (eq-eqb _ _ e)) ∙ f.1.1) in
      let k = (chosen (valid_target c s p q && other_request c s) Accepted InvalidRecord refl g.1).0 in
      let m = says target_is (and_left (valid_target c s p q) _ k) in
      let n = says candidate-is m.0 in
      let q-inc : q.identity.incarnation ≡ s.member.identity.incarnation = ap (λ (x : VoterSlotMember). x.identity.incarnation) f.0 in
      let q-gen : q.admission_generation ≡ s.member.admission_generation = ap (λ (x : VoterSlotMember). x.admission_generation) f.0 in
      record {
        slot = f.1.0;
        more = eqb-false _ _ g.0;
        next = eqb-true _ _ n.0 ∙ q-inc;
        earlier = leb-true _ _ n.1.0;
        generation = let g = ltb-true p.admission_generation q.admission_generation n.1.1.0 in omega arith;
        admitted = sym q-gen ∙ eqb-true _ _ n.1.1.1.0;
        key = ap (λ (x : VoterSlotMember). eq_bytes x.key_digest c.candidate_key_digest) (sym f.0) ∙ n.1.1.1.1;
        phase = eqb-true _ _ m.1.0;
        retired = m.1.1;
        other = other-holds c s (and_right (valid_target c s p q) _ k);
      }

  -- and of another slot
  pub member-other : validate_member c s p q ≡ Accepted → (s.member.identity.slot ≡ c.slot → ⊥) → OtherHolds c s p
  member-other h e =
      let f = member-parts h in
      let k = (chosen (other_member s p q && other_request c s) Accepted InvalidRecord refl (sym (cond-false is_target if_target if_other (ne_eqb _ _ e)) ∙ f.1.1)).0 in
      let m = and_left (other_member s p q) _ k in
      record {
        member = same_voter_slot_member-true _ _ (and_left (same_voter_slot_member p q) _ m) ∙ f.0;
        phase = eqb-true _ _ (and_right (same_voter_slot_member p q) _ m);
        other = other-holds c s (and_right (other_member s p q) _ k);
      }

-- the way back, where the successor's member is the slot's own
module _ (c : Claims) (s : VoterSlotRecord) (p : VoterSlotMember) where
  member-valid : p.identity.slot ≡ s.member.identity.slot → cond (is_target c s p s.member) (if_target c s p s.member) (if_other c s p s.member) ≡ Accepted
      → validate_member c s p s.member ≡ Accepted
  unfolding validate_member
  member-valid e h = cond-true (fits c s p s.member) _ InvalidRecord (and_both _ _ (same_voter_slot_member-refl s.member) (eq-eqb _ _ e)) ∙ h

  -- what makes the slot being replaced valid
  pub target-valid : s.member.identity.slot ≡ c.slot → TargetHolds c s p → validate_member c s p s.member ≡ Accepted
  target-valid e h =
      member-valid h.slot
      (cond-true (is_target c s p s.member) (if_target c s p s.member) (if_other c s p s.member) (eq-eqb _ _ e)
      ∙ (cond-false (eqb c.expected_incarnation max_voter_incarnation) IncarnationExhausted _ (ne_eqb _ _ h.more)
      ∙ cond-true (valid_target c s p s.member && other_request c s) Accepted InvalidRecord
      (and_both _ _
      (passes (target_is c s p s.member) (passes (candidate-is c s p s.member) (eq-eqb _ _ h.next, (le-leb _ _ h.earlier, (lt-ltb _ _ h.generation, (eq-eqb _ _ h.admitted, h.key)))), (eq-eqb _ _ h.phase, h.retired)))
      (other-valid c s h.other))))

  -- and another slot
  pub others-valid : (s.member.identity.slot ≡ c.slot → ⊥) → OtherHolds c s p → validate_member c s p s.member ≡ Accepted
  others-valid e h =
      member-valid (ap (λ (x : VoterSlotMember). x.identity.slot) h.member)
      (cond-false (is_target c s p s.member) (if_target c s p s.member) (if_other c s p s.member) (ne_eqb _ _ e)
      ∙ cond-true (other_member s p s.member && other_request c s) Accepted InvalidRecord
      (and_both _ _ (and_both _ _ (ap (λ (x : VoterSlotMember). same_voter_slot_member x s.member) h.member ∙ same_voter_slot_member-refl s.member) (eq-eqb _ _ h.phase))
      (other-valid c s h.other)))

-- ---- the table

module _ (t : VoterSlotTable) where
  -- no slot below n is refused
  members-at : (n : ℕ) → validate_members t n ≡ Accepted → (i : ℕ) → i < n → member_answer t i ≡ Accepted
  unfolding validate_members
  members-at zero h i l = absurd (omega arith)
  members-at (suc n) h i l =
      let e = both-accepted (validate_members t n) (member_answer t n) h in
      by (eqb i n) refl (λ k. members-at n e.0 i k) e.1
    where
      by : (b : Bool) → eqb i n ≡ b → (i < n → member_answer t i ≡ Accepted) → member_answer t n ≡ Accepted → member_answer t i ≡ Accepted
      by true e f g = ap (λ (k : ℕ). member_answer t k) (eqb-true i n e) ∙ g
      by false e f g = let d = eqb-false i n e in f (omega arith)

  -- and where none is refused, the members are accepted
  pub members-all : (n : ℕ) → ((i : ℕ) → i < n → member_answer t i ≡ Accepted) → validate_members t n ≡ Accepted
  unfolding validate_members
  members-all zero h = refl
  members-all (suc n) h = then-accepted (validate_members t n) (member_answer t n) (members-all n (λ i l. h i (omega arith))) (h n (omega arith))

  -- a valid table in which no request is open
  pub record IdleHolds : Type 0 where
    pub slots : SlotsHold t
    pub phase : (i : ℕ) → i < t.count → (slot_at t i).phase ≡ voting

  -- a valid table in which one is
  pub record OpenHolds : Type 0 where
    pub slots : SlotsHold t
    pub operation : OperationHolds t t.replacement
    pub member : (i : ℕ) → i < t.count → member_answer t i ≡ Accepted
    pub target : has_target t ≡ true

  -- the slots of a valid table, whether a request is open or not
  pub valid-slots-hold : validity t ≡ Accepted → SlotsHold t
  unfolding validity
  valid-slots-hold h = slots-hold t (chosen (valid_slots t) _ InvalidRecord refl h).0

  -- validity taken apart, where no request is open
  pub idle-holds : validity t ≡ Accepted → t.has_replacement ≡ false → IdleHolds
  unfolding validity
  idle-holds h e =
      let k = chosen (valid_slots t) _ InvalidRecord refl h in
      let m = sym (cond-false t.has_replacement (validate_operation t) (require_of (all_below (λ i. eqb (slot_at t i).phase voting) t.count) Accepted) e) ∙ k.1 in
      let n = (chosen (all_below (λ i. eqb (slot_at t i).phase voting) t.count) Accepted InvalidRecord refl m).0 in
      record { slots = slots-hold t k.0; phase = λ i l. eqb-true _ _ (all_below-at (λ i. eqb (slot_at t i).phase voting) _ i n l) }

  -- and where one is
  pub open-holds : validity t ≡ Accepted → t.has_replacement ≡ true → OpenHolds
  unfolding validity validate_operation
  open-holds h e =
      let k = chosen (valid_slots t) _ InvalidRecord refl h in
      let m = sym (cond-true t.has_replacement (validate_operation t) (require_of (all_below (λ i. eqb (slot_at t i).phase voting) t.count) Accepted) e) ∙ k.1 in
      let n = chosen (valid_operation t t.replacement) _ InvalidRecord refl m in
      let o = both-accepted (validate_members t t.count) (require_of (has_target t) Accepted) n.1 in
      record {
        slots = slots-hold t k.0;
        operation = operation-holds t t.replacement n.0;
        member = members-at t.count o.0;
        target = (chosen (has_target t) Accepted InvalidRecord refl o.1).0;
      }

  -- put together again, where a request is open
  pub open-valid : t.has_replacement ≡ true → OpenHolds → validity t ≡ Accepted
  unfolding validity validate_operation
  open-valid e h =
      cond-true (valid_slots t) _ InvalidRecord (slots-valid t h.slots)
      ∙ (cond-true t.has_replacement (validate_operation t) (require_of (all_below (λ i. eqb (slot_at t i).phase voting) t.count) Accepted) e
      ∙ (cond-true (valid_operation t t.replacement) _ InvalidRecord (operation-valid t t.replacement h.operation)
      ∙ then-accepted (validate_members t t.count) (require_of (has_target t) Accepted) (members-all t.count h.member)
      (cond-true (has_target t) Accepted InvalidRecord h.target)))

  -- and where none is
  pub idle-valid : t.has_replacement ≡ false → IdleHolds → validity t ≡ Accepted
  unfolding validity
  idle-valid e h =
      cond-true (valid_slots t) _ InvalidRecord (slots-valid t h.slots)
      ∙ (cond-false t.has_replacement (validate_operation t) (require_of (all_below (λ i. eqb (slot_at t i).phase voting) t.count) Accepted) e
      ∙ cond-true (all_below (λ i. eqb (slot_at t i).phase voting) t.count) Accepted InvalidRecord
      (all_below-all (λ i. eqb (slot_at t i).phase voting) _ (λ i l. eq-eqb _ _ (h.phase i l))))

-- ---- after the representability check

-- a table that is accepted has passed the representability check and is valid
pub valid-parts : (t : VoterSlotTable) → validate t ≡ Accepted → (representable t ≡ true) × (validity t ≡ Accepted)
unfolding validate
valid-parts t h = chosen (representable t) (validity t) Unrepresentable refl h

-- and such a table is accepted
pub valid-joined : (t : VoterSlotTable) → representable t ≡ true → validity t ≡ Accepted → validate t ≡ Accepted
unfolding validate
valid-joined t h k = cond-true (representable t) (validity t) Unrepresentable h ∙ k
