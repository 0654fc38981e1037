-- The claim of Quorum, proved: first of one table, then of one call, then of a line. A call keeps
-- the current configuration, and in phase Joint its successor; or it is the observation that comes
-- to Uniform, where the successor takes over. Each name here is a step of a proof; what is right is
-- said in Quorum.
-- Assumes nothing.
use Rattle.std.specs.Prelude.{Ok, ◌≡◌, Bool, ◌&&◌, ◌||◌, List, [], ◌∷◌, map, ◌⊎◌, get_or, set}
use Prim.Native.Nat.{ℕ, zero, suc, ◌+◌, ◌*◌, ◌<◌, ◌≤◌}
use Rattle.std.proofs.Math.Path.{refl, sym, ap}
use Rattle.std.proofs.Common.{◌∙◌, subst, inr}
use Rattle.std.proofs.Math.Bool.{true, false, cond, not}
use Rattle.std.proofs.lemmas.Bool.{false≢true}
use Rattle.std.proofs.Math.Logic.{inl, ⊎_elim}
use native.Mathlib.Omega.{arith}
use Rattle.std.proofs.Math.ListN.{length, get_or-map}
use Rattle.std.proofs.Math.Seq.{map-set_same}
use Rattle.std.proofs.Math.Dec.{eqb, leb, ltb}
use borrow.Author.Tests.{eqb-true, eqb-false, leb-true, leb-false, ltb-true, eq-eqb, ne_eqb, lt-ltb, le-ltb}
use Rattle.identity.specs.Utf8Laws.{and_left, and_right}
use Rattle.identity.specs.Answer.{Accepted, InvalidRecord, ReplacementInProgress, ReplacementPastFence, InvalidTransition, is_accepted, Answer}
use Rattle.identity.specs.Identity.{from_node_id}
use Rattle.identity.specs.declared.identity.VoterSlotIdentity.{VoterSlotIdentity}
use Rattle.records.specs.Equality.{eq_bytes, same_voter_slot_log_id, same_voter_slot_member, same_voter_snapshot_evidence, same_voter_slot_table}
use Rattle.records.specs.EqualityLaws.{same_voter_slot_member-true}
use Rattle.records.specs.Evidence.{valid_log_id}
use Rattle.records.specs.Held.{HeldVoterSlotLogId}
use Rattle.records.specs.Records.{prepared, snapshot_installed, learner_added, caught_up, fenced, joint, uniform, no_member, no_slot_record, slot_at, member_at}
use Rattle.records.specs.Representable.{representable_member, representable}
use Rattle.records.specs.Successor.{first_refusal, validate_successor_of}
use Rattle.records.specs.SuccessorLaws.{successor}
use Rattle.records.specs.Validation.{claims_of, target_phase, validate_member, validity, validate}
use Rattle.records.specs.ValidationLaws.{is-accepted}
use Rattle.records.specs.declared.records.VoterSlotLogId.{VoterSlotLogId}
use Rattle.records.specs.declared.records.VoterSlotMember.{VoterSlotMember}
use Rattle.records.specs.declared.records.VoterSlotRecord.{VoterSlotRecord}
use Rattle.records.specs.declared.records.VoterSnapshotEvidence.{VoterSnapshotEvidence}
use Rattle.records.specs.declared.records.VoterConfiguration.{VoterConfiguration}
use Rattle.records.specs.declared.records.VoterReplacementEvidence.{VoterReplacementEvidence}
use Rattle.records.specs.declared.records.VoterSlotTable.{VoterSlotTable}
use Rattle.records.specs.RecordsLaws.{all_below-all}
use Rattle.records.specs.TestLaws.{says, and_both, is_false, left_or, never-passes, then-says, then-passes, apart, cond-true, cond-false, by-test, chosen, chosen-not, both-accepted}
use Rattle.records.specs.ValidParts.{SlotsHold, valid-slots-hold, member-number, valid-parts}
use Rattle.records.specs.RepresentableParts.{member_is, slot_is, member-fits, slot-fits}
use Rattle.records.specs.With.{operation_with, in_phase}
use Rattle.control.specs.declared.control.VoterReplacementRequest.{VoterReplacementRequest}
use Rattle.control.specs.declared.control.VoterReplacementStep.{VoterReplacementStep}
use Rattle.control.specs.declared.control.VoterSlotControl.{VoterSlotControl}
use Rattle.control.specs.Control.Decision.{refuse, keep, change}
use Rattle.control.specs.Control.{Decision, settle, full, representable_control, advanced, current_configuration, request_check, is_known, known_digest, repeated, open_check, stale_check, candidate_check, full_check, begin_check, begun_operation, begun, begin, record_snapshot, is_catching_up, record_caught_up, record_continuation, fence, target_index, target_slot, finalized_slot, finalized, finalize, is_completed, take_step, advance_open, advance, is_open_request, marker, decide, apply_control, record_snapshot_kind, record_caught_up_kind, record_continuation_kind, fence_kind, finalize_kind, begin_kind, advance_kind}
use Rattle.control.proofs.HistoryLaws.{ValidTable, Every, restart-same, has_room, call-valid, retired-stays}
use Rattle.control.specs.History.Call.{command, observation, restart}
use Rattle.control.specs.History.{Call, with_room, after, table_at}
use Rattle.control.specs.Observation.{Sight, eq_ids, eq_sets, is_rising, all_rising, insert_id, contains, split_sets, representable_sets, member_node, member_ids_below, member_ids, see, with_target, uniform_seen, raised, keep_or, observed, observe, observe_membership}
use Rattle.control.specs.Observation.Sight.{strange, nothing_new, new_learner, new_joint, new_uniform}
use Rattle.control.specs.Quorum.{is_joint, current_ids, successor_ids, counts_in, among, is_majority, is_quorum, IsReplaced, Shared, AllLive, SharedLive, Near, QuorumsIn, Quorums}
use Rattle.control.specs.Retired.{is_below_floor, is_retired_identity, is_retired}
use Rattle.control.specs.RetiredLaws.{node-read, replaced-retired}
use Rattle.control.specs.OpenLaws.{Open, open-of-valid, other-of}
use Rattle.control.specs.SetLaws.{contains-insert}
use Rattle.control.specs.SightLaws.{Fits, fits-see}

-- ---- sets of ids

or_right : (a b : Bool) → b ≡ true → (a || b) ≡ true
or_right true b h = refl
or_right false b h = h

or_cases : (a b : Bool) → (a || b) ≡ true → (a ≡ true) ⊎ (b ≡ true)
or_cases true b h = inl refl
or_cases false b h = inr h

-- one that was not makes the set longer by one
length-insert : (x : ℕ) (l : List ℕ) → contains x l ≡ false → length (insert_id x l) ≡ length l + 1
unfolding contains insert_id
length-insert x [] n = refl
length-insert x (z ∷ l) n = by (ltb x z) (eqb x z) refl n (length-insert x l)
  where
    by : (b d : Bool) → eqb x z ≡ d → (d || contains x l) ≡ false → (contains x l ≡ false → length (insert_id x l) ≡ length l + 1)
        → length (cond b (x ∷ (z ∷ l)) (cond d (z ∷ l) (z ∷ insert_id x l))) ≡ suc (length l) + 1
    by true d e h f = omega arith
    by false true e h f = absurd (false≢true (sym h))
    by false false e h f = let k = f h in omega arith

among-insert : (x : ℕ) (l nodes : List ℕ) → contains x l ≡ false → among (insert_id x l) nodes ≡ cond (contains x nodes) 1 0 + among l nodes
unfolding contains insert_id among
among-insert x [] nodes n = refl
among-insert x (z ∷ l) nodes n = by (ltb x z) (eqb x z) refl n (among-insert x l nodes)
  where
    by : (b d : Bool) → eqb x z ≡ d → (d || contains x l) ≡ false → (contains x l ≡ false → among (insert_id x l) nodes ≡ cond (contains x nodes) 1 0 + among l nodes)
        → among (cond b (x ∷ (z ∷ l)) (cond d (z ∷ l) (z ∷ insert_id x l))) nodes ≡ cond (contains x nodes) 1 0 + (cond (contains z nodes) 1 0 + among l nodes)
    by true d e h f = refl
    by false true e h f = absurd (false≢true (sym h))
    by false false e h f = let k = f h in omega arith

-- ---- two majorities share an id

record Common (ids a b : List ℕ) : Type 0 where
  node : ℕ
  within : contains node ids ≡ true
  first : contains node a ≡ true
  second : contains node b ≡ true

-- more places than there are
pigeonhole : (ids a b : List ℕ) → length ids < among ids a + among ids b → Common ids a b
unfolding among contains
pigeonhole [] a b l = absurd (omega arith)
pigeonhole (x ∷ ids) a b l = by (contains x a) (contains x b) refl refl l (pigeonhole ids a b)
  where
    more : Common ids a b → Common (x ∷ ids) a b
    more c = record { node = c.node; within = or_right (eqb c.node x) _ c.within; first = c.first; second = c.second }

    by : (p q : Bool) → contains x a ≡ p → contains x b ≡ q → suc (length ids) < (cond p 1 0 + among ids a) + (cond q 1 0 + among ids b)
        → (length ids < among ids a + among ids b → Common ids a b) → Common (x ∷ ids) a b
    by true true e f h g = record { node = x; within = left_or (eqb x x) _ (eq-eqb x x refl); first = e; second = f }
    by true false e f h g = more (g (omega arith))
    by false true e f h g = more (g (omega arith))
    by false false e f h g = more (g (omega arith))

common : (ids a b : List ℕ) → is_majority ids a ≡ true → is_majority ids b ≡ true → Common ids a b
unfolding is_majority
common ids a b h k =
    let m = ltb-true (length ids) (2 * among ids a) h in
    let n = ltb-true (length ids) (2 * among ids b) k in
    pigeonhole ids a b (omega arith)

-- ---- the ids of a configuration

record Place (c : VoterConfiguration) (n : ℕ) (node : ℕ) : Type 0 where
  at : ℕ
  within : at < n
  is : node ≡ member_node (member_at c at)

id-place : (c : VoterConfiguration) (n node : ℕ) → contains node (member_ids_below c n) ≡ true → Place c n node
unfolding member_ids_below contains
id-place c zero node h = absurd (false≢true h)
id-place c (suc n) node h =
    ⊎_elim (λ e. record { at = n; within = omega arith; is = eqb-true _ _ e })
    (λ e. let p = id-place c n node e in record { at = p.at; within = omega arith; is = p.is })
    (or_cases (eqb node (member_node (member_at c n))) _ (sym (contains-insert node (member_node (member_at c n)) (member_ids_below c n)) ∙ h))

id-there : (c : VoterConfiguration) (n i : ℕ) → i < n → contains (member_node (member_at c i)) (member_ids_below c n) ≡ true
unfolding member_ids_below
id-there c zero i l = absurd (omega arith)
id-there c (suc n) i l = contains-insert (member_node (member_at c i)) (member_node (member_at c n)) (member_ids_below c n) ∙ by (eqb i n) refl (id-there c n i)
  where
    by : (b : Bool) → eqb i n ≡ b → (i < n → contains (member_node (member_at c i)) (member_ids_below c n) ≡ true)
        → (eqb (member_node (member_at c i)) (member_node (member_at c n)) || contains (member_node (member_at c i)) (member_ids_below c n)) ≡ true
    by true e f = left_or _ _ (eq-eqb _ _ (ap (λ (k : ℕ). member_node (member_at c k)) (eqb-true i n e)))
    by false e f = let d = eqb-false i n e in or_right (eqb (member_node (member_at c i)) (member_node (member_at c n))) _ (f (omega arith))

-- members that agree
ids-same : (c d : VoterConfiguration) (n : ℕ) → ((i : ℕ) → i < n → member_at c i ≡ member_at d i) → member_ids_below c n ≡ member_ids_below d n
unfolding member_ids_below
ids-same c d zero f = refl
ids-same c d (suc n) f = λ i. insert_id (member_node (f n (omega arith) i)) (ids-same c d n (λ k l. f k (omega arith)) i)

abbrev one : Bool → ℕ
one b = cond b 1 0

-- members that all have different ids
module _ (c : VoterConfiguration) (differ : (i j : ℕ) → i < c.count → j < c.count → (i ≡ j → ⊥) → member_node (member_at c i) ≡ member_node (member_at c j) → ⊥) where
  id-new : (n : ℕ) → n < c.count → contains (member_node (member_at c n)) (member_ids_below c n) ≡ false
  id-new n l = by (contains (member_node (member_at c n)) (member_ids_below c n)) refl
    where
      by : (b : Bool) → contains (member_node (member_at c n)) (member_ids_below c n) ≡ b → b ≡ false
      by true e = let p = id-place c n (member_node (member_at c n)) e in absurd (differ n p.at l (omega arith) (λ q. omega arith) p.is)
      by false e = refl

  ids-length : (n : ℕ) → n ≤ c.count → length (member_ids_below c n) ≡ n
  unfolding member_ids_below
  ids-length zero l = refl
  ids-length (suc n) l = let k = ids-length n (omega arith) in let m = length-insert (member_node (member_at c n)) (member_ids_below c n) (id-new n (omega arith)) in omega arith

  -- all ids are among the nodes but, it may be, that of one place
  module _ (nodes : List ℕ) (k : ℕ) (there : (i : ℕ) → i < c.count → (i ≡ k → ⊥) → contains (member_node (member_at c i)) nodes ≡ true) where
    ids-among : (n : ℕ) → n ≤ c.count → n ≤ among (member_ids_below c n) nodes + cond (ltb k n) 1 0
    unfolding member_ids_below
    ids-among zero l = omega arith
    ids-among (suc n) l =
        let m = among-insert (member_node (member_at c n)) (member_ids_below c n) nodes (id-new n (omega arith)) in
        by (eqb n k) (ltb k n) refl refl m (ids-among n (omega arith))
      where
        by : (b d : Bool) → eqb n k ≡ b → ltb k n ≡ d
            → among (insert_id (member_node (member_at c n)) (member_ids_below c n)) nodes ≡ cond (contains (member_node (member_at c n)) nodes) 1 0 + among (member_ids_below c n) nodes
            → n ≤ among (member_ids_below c n) nodes + cond d 1 0
            → suc n ≤ among (insert_id (member_node (member_at c n)) (member_ids_below c n)) nodes + cond (ltb k (suc n)) 1 0
        by true true e f m h = absurd (let p = eqb-true n k e in let q = ltb-true k n f in omega arith)
        by true false e f m h =
            let p = eqb-true n k e in
            let q : one (ltb k (suc n)) ≡ 1 = ap one (lt-ltb k (suc n) (omega arith)) in
            omega arith
        by false true e f m h =
            let p : one (contains (member_node (member_at c n)) nodes) ≡ 1 = ap one (there n (omega arith) (eqb-false n k e)) in
            let l = ltb-true k n f in
            let q : one (ltb k (suc n)) ≡ 1 = ap one (lt-ltb k (suc n) (omega arith)) in
            omega arith
        by false false e f m h =
            let p : one (contains (member_node (member_at c n)) nodes) ≡ 1 = ap one (there n (omega arith) (eqb-false n k e)) in
            omega arith

-- ---- one table

-- the node of a member that the Rust types can hold
read-node : (m : VoterSlotMember) → representable_member m ≡ true → from_node_id (member_node m) ≡ Ok m.identity
read-node m r = let w = says (member_is m) r in node-read m.identity w.0 w.1

-- two such members of one node have one slot
same-slot : (m n : VoterSlotMember) → representable_member m ≡ true → representable_member n ≡ true → member_node m ≡ member_node n → m.identity.slot ≡ n.identity.slot
same-slot m n r s e =
    let k : Ok m.identity ≡ Ok n.identity = sym (read-node m r) ∙ (ap from_node_id e ∙ read-node n s) in
    let q : m.identity ≡ n.identity = cc in
    ap (λ (x : VoterSlotIdentity). x.slot) q

-- the configuration that the slots are
abbrev slot_configuration : VoterSlotTable → VoterConfiguration
slot_configuration t = record { epoch = t.configuration_epoch; members = map (λ s. s.member) t.slots; count = t.count }

slot-member : (t : VoterSlotTable) (i : ℕ) → member_at (slot_configuration t) i ≡ (slot_at t i).member
slot-member t i = get_or-map (λ (s : VoterSlotRecord). s.member) t.slots i no_slot_record

-- a request is open and below Uniform
abbrev is_below : VoterSlotTable → Bool
is_below t = t.has_replacement && ltb t.replacement.phase uniform

below_of : (t : VoterSlotTable) → t.has_replacement ≡ true → t.replacement.phase < uniform → is_below t ≡ true
below_of t o p = and_both t.has_replacement _ o (lt-ltb t.replacement.phase uniform p)

current-below : (t : VoterSlotTable) → is_below t ≡ true → current_configuration t ≡ t.replacement.predecessor
unfolding current_configuration
current-below t h = cond-true (is_below t) t.replacement.predecessor (slot_configuration t) h

current-settled : (t : VoterSlotTable) → is_below t ≡ false → current_configuration t ≡ slot_configuration t
unfolding current_configuration
current-settled t h = cond-false (is_below t) t.replacement.predecessor (slot_configuration t) h

counts-current : (t : VoterSlotTable) (node : ℕ) → contains node (current_ids t) ≡ true → counts_in t node ≡ true
unfolding counts_in
counts-current t node h = left_or (contains node (current_ids t)) _ h

counts-successor : (t : VoterSlotTable) (node : ℕ) → is_joint t ≡ true → contains node (successor_ids t) ≡ true → counts_in t node ≡ true
unfolding counts_in
counts-successor t node j h = or_right (contains node (current_ids t)) _ (and_both (is_joint t) _ j h)

-- a configuration of the table's slots, one member for each
record OfSlots (t : VoterSlotTable) (c : VoterConfiguration) : Type 0 where
  count : c.count ≡ t.count
  slot : (i : ℕ) → i < t.count → (member_at c i).identity.slot ≡ (slot_at t i).member.identity.slot
  sound : (i : ℕ) → i < t.count → representable_member (member_at c i) ≡ true

module _ (t : VoterSlotTable) (v : validate t ≡ Accepted) where
  holds : SlotsHold t
  holds = valid-slots-hold t (valid-parts t v).1

  -- two slots of one number are one
  one-slot : (i j : ℕ) → i < t.count → j < t.count → (slot_at t i).member.identity.slot ≡ (slot_at t j).member.identity.slot → i ≡ j
  one-slot i j l m e = by (eqb i j) refl
    where
      by : (b : Bool) → eqb i j ≡ b → i ≡ j
      by true d = eqb-true i j d
      by false d = absurd (apart (λ k. (slot_at t k).member.identity.slot) t.count holds.rise i j l m (eqb-false i j d) e)

  slot-sound : (i : ℕ) → i < t.count → representable_member (slot_at t i).member ≡ true
  slot-sound i l = (says (slot_is (slot_at t i)) (slot-fits t (valid-parts t v).0 i l)).0

  -- the node that a slot has now is not retired
  own-floor : (i : ℕ) → i < t.count → is_retired_identity t (Ok (slot_at t i).member.identity) ≡ false
  unfolding is_retired_identity
  own-floor i l = ap not (all_below-all (λ j. not (is_below_floor (slot_at t i).member.identity (slot_at t j))) t.count each)
    where
      each : (j : ℕ) → j < t.count → not (is_below_floor (slot_at t i).member.identity (slot_at t j)) ≡ true
      each j m =
          never-passes (is_below_floor (slot_at t i).member.identity (slot_at t j))
          (λ h.
          let s = eqb-true _ _ (and_left _ _ h) in
          let k = leb-true (slot_at t i).member.identity.incarnation (slot_at t j).retired_through (and_right (eqb (slot_at t j).member.identity.slot (slot_at t i).member.identity.slot) _ h) in
          let e : (slot_at t j).member.identity.incarnation ≡ (slot_at t i).member.identity.incarnation = ap (λ (n : ℕ). (slot_at t n).member.identity.incarnation) (one-slot j i m l s) in
          let r = (holds.each j m).retired in
          omega arith)

  own-stays : (i : ℕ) → i < t.count → is_retired t (member_node (slot_at t i).member) ≡ false
  own-stays i l = ap (is_retired_identity t) (read-node (slot_at t i).member (slot-sound i l)) ∙ own-floor i l

  of_slots : OfSlots t (slot_configuration t)
  of_slots =
      record {
        count = refl;
        slot = λ i l. ap (λ (m : VoterSlotMember). m.identity.slot) (slot-member t i);
        sound = λ i l. ap representable_member (slot-member t i) ∙ slot-sound i l;
      }

  differ : (c : VoterConfiguration) → OfSlots t c → (i j : ℕ) → i < c.count → j < c.count → (i ≡ j → ⊥) → member_node (member_at c i) ≡ member_node (member_at c j) → ⊥
  differ c o i j l m d e =
      let n = o.count in
      let s = same-slot (member_at c i) (member_at c j) (o.sound i (omega arith)) (o.sound j (omega arith)) e in
      d (one-slot i j (omega arith) (omega arith) (sym (o.slot i (omega arith)) ∙ (s ∙ o.slot j (omega arith))))

  module _ (o : t.has_replacement ≡ true) where
    here : Open t
    here = open-of-valid t v o

    in-successor : (i : ℕ) → i < t.count → (slot_at t i).member ≡ member_at t.replacement.successor i
    unfolding validate_member
    in-successor i l =
        let p = member_at t.replacement.predecessor i in
        let q = member_at t.replacement.successor i in
        let e = (chosen (same_voter_slot_member (slot_at t i).member q && eqb p.identity.slot q.identity.slot) _ InvalidRecord refl (here.member i l)).0 in
        same_voter_slot_member-true (slot_at t i).member q (and_left _ _ e)

    numbered : (i : ℕ) → i < t.count → (member_at t.replacement.predecessor i).identity.slot ≡ (slot_at t i).member.identity.slot
    numbered i l = member-number (claims_of t.replacement) (slot_at t i) (member_at t.replacement.predecessor i) (member_at t.replacement.successor i) (here.member i l)

    -- a slot that is not being replaced
    in-predecessor : (i : ℕ) → i < t.count → (i ≡ target_index t → ⊥) → member_at t.replacement.predecessor i ≡ (slot_at t i).member
    in-predecessor i l n = (other-of t here i l n).member

    predecessor-sound : (i : ℕ) → i < t.count → representable_member (member_at t.replacement.predecessor i) ≡ true
    predecessor-sound i l = let n = here.operation.head.predecessor in member-fits t.replacement.predecessor here.parts.predecessor i (omega arith)

    of-predecessor : OfSlots t t.replacement.predecessor
    of-predecessor = record { count = here.operation.head.predecessor; slot = numbered; sound = predecessor-sound }

    of-successor : OfSlots t t.replacement.successor
    of-successor =
        record {
          count = here.operation.head.successor;
          slot = λ i l. ap (λ (m : VoterSlotMember). m.identity.slot) (sym (in-successor i l));
          sound = λ i l. ap representable_member (sym (in-successor i l)) ∙ slot-sound i l;
        }

  -- ---- the ids are as many as the members

  ids-count : (c : VoterConfiguration) → OfSlots t c → length (member_ids c) ≡ t.count
  ids-count c o = ids-length c (differ c o) c.count (omega arith) ∙ o.count

  successor-count : t.has_replacement ≡ true → length (successor_ids t) ≡ t.count
  successor-count o = ids-count t.replacement.successor (of-successor o)

  current-count : length (current_ids t) ≡ t.count
  current-count = by (is_below t) refl
    where
      by : (b : Bool) → is_below t ≡ b → length (current_ids t) ≡ t.count
      by true e =
          ap (λ (x : VoterConfiguration). length (member_ids x)) (current-below t e)
          ∙ ids-count t.replacement.predecessor (of-predecessor (and_left t.has_replacement _ e))
      by false e = ap (λ (x : VoterConfiguration). length (member_ids x)) (current-settled t e) ∙ ids-count (slot_configuration t) of_slots

  -- ---- who counts and is retired

  not_own : (node i : ℕ) → i < t.count → node ≡ member_node (slot_at t i).member → is_retired t node ≡ false
  not_own node i l e = ap (is_retired t) e ∙ own-stays i l

  -- a node of the slots
  slots-stay : (node : ℕ) → contains node (member_ids (slot_configuration t)) ≡ true → is_retired t node ≡ false
  slots-stay node h = let p = id-place (slot_configuration t) t.count node h in not_own node p.at p.within (p.is ∙ ap member_node (slot-member t p.at))

  module _ (o : t.has_replacement ≡ true) where
    successor-stays : (node : ℕ) → contains node (successor_ids t) ≡ true → is_retired t node ≡ false
    successor-stays node h =
        let p = id-place t.replacement.successor t.replacement.successor.count node h in
        let n = (here o).operation.head.successor in
        not_own node p.at (omega arith) (p.is ∙ ap member_node (sym (in-successor o p.at (omega arith))))

    -- a member of the predecessor is that of the slot being replaced, or is not retired
    predecessor-parts : t.replacement.phase < uniform → (node : ℕ) → contains node (member_ids t.replacement.predecessor) ≡ true → is_retired t node ≡ true → IsReplaced t node
    predecessor-parts b node h r =
        let p = id-place t.replacement.predecessor t.replacement.predecessor.count node h in
        let n = (here o).operation.head.predecessor in
        by (eqb p.at (target_index t)) p refl (omega arith)
      where
        by : (d : Bool) (p : Place t.replacement.predecessor t.replacement.predecessor.count node) → eqb p.at (target_index t) ≡ d → p.at < t.count → IsReplaced t node
        by true p e l =
            record {
              some = o;
              phase = b;
              slot = numbered o (target_index t) (here o).below ∙ (here o).named;
              is = p.is ∙ ap (λ (k : ℕ). member_node (member_at t.replacement.predecessor k)) (eqb-true _ _ e);
            }
        by false p e l = absurd (false≢true (sym (not_own node p.at l (p.is ∙ ap member_node (in-predecessor o p.at l (eqb-false _ _ e)))) ∙ r))

  counts-retired : (node : ℕ) → counts_in t node ≡ true → is_retired t node ≡ true → IsReplaced t node
  unfolding counts_in
  counts-retired node c r =
      ⊎_elim (current (is_below t) refl)
      (λ h. absurd (false≢true (sym (successor-stays (and_left t.has_replacement _ (and_left (is_joint t) _ h)) node (and_right (is_joint t) _ h)) ∙ r)))
      (or_cases (contains node (current_ids t)) (is_joint t && contains node (successor_ids t)) c)
    where
      current : (b : Bool) → is_below t ≡ b → contains node (current_ids t) ≡ true → IsReplaced t node
      current true e h =
          let o = and_left t.has_replacement _ e in
          predecessor-parts o (ltb-true _ _ (and_right t.has_replacement _ e)) node
          (sym (ap (λ (x : VoterConfiguration). contains node (member_ids x)) (current-below t e)) ∙ h) r
      current false e h =
          absurd (false≢true (sym (slots-stay node (sym (ap (λ (x : VoterConfiguration). contains node (member_ids x)) (current-settled t e)) ∙ h)) ∙ r))

  replaced-current : (node : ℕ) → IsReplaced t node → contains node (current_ids t) ≡ true
  replaced-current node r =
      let p = t.replacement.predecessor in
      let n = (here r.some).operation.head.predecessor in
      let l = (here r.some).below in
      ap (λ (x : VoterConfiguration). contains node (member_ids x)) (current-below t (below_of t r.some r.phase))
      ∙ (ap (λ (x : ℕ). contains x (member_ids p)) r.is ∙ id-there p p.count (target_index t) (omega arith))

  replaced-counts : (node : ℕ) → IsReplaced t node → (counts_in t node ≡ true) × (is_retired t node ≡ true)
  replaced-counts node r =
      let n = (here r.some).operation.head.predecessor in
      let l = (here r.some).below in
      (counts-current t node (replaced-current node r), ap (is_retired t) r.is ∙ replaced-retired t v r.some (target_index t) (omega arith) r.slot)

  settled-stays : is_below t ≡ false → (node : ℕ) → counts_in t node ≡ true → is_retired t node ≡ false
  settled-stays b node c =
      is_false (is_retired t node) (λ r. let k = counts-retired node c r in false≢true (sym b ∙ below_of t k.some k.phase))

  -- ---- all that count and are not retired

  module _ (nodes : List ℕ) (there : (node : ℕ) → counts_in t node ≡ true → is_retired t node ≡ false → contains node nodes ≡ true) where
    -- all of a configuration but, where there are three and more, that of one place
    most : (c : VoterConfiguration) → OfSlots t c → (k : ℕ) → (t.count ≤ k) ⊎ (3 ≤ t.count)
        → ((i : ℕ) → i < t.count → (i ≡ k → ⊥) → contains (member_node (member_at c i)) nodes ≡ true) → is_majority (member_ids c) nodes ≡ true
    unfolding is_majority
    most c o k three f =
        let n = o.count in
        let len = ids-count c o in
        let m = ids-among c (differ c o) nodes k (λ i l. f i (omega arith)) c.count (omega arith) in
        let s = ltb-true 0 t.count (and_left (ltb 0 t.count) _ holds.odd) in
        lt-ltb (length (member_ids c)) (2 * among (member_ids c) nodes) (by (ltb k c.count) refl (len ∙ sym n) m n s three)
      where
        by : (b : Bool) → ltb k c.count ≡ b → length (member_ids c) ≡ c.count → c.count ≤ among (member_ids c) nodes + cond b 1 0 → c.count ≡ t.count → 0 < t.count
            → (t.count ≤ k) ⊎ (3 ≤ t.count) → length (member_ids c) < 2 * among (member_ids c) nodes
        by true e len m n s (inl h) = absurd (let q = ltb-true k c.count e in omega arith)
        by true e len m n s (inr h) = omega arith
        by false e len m n s h = omega arith

    enough-current : (b : Bool) → is_below t ≡ b → is_majority (current_ids t) nodes ≡ true
    enough-current true e =
        let o = and_left t.has_replacement _ e in
        let p = t.replacement.predecessor in
        let n = (here o).operation.head.predecessor in
        let same : current_configuration t ≡ p = current-below t e in
        ap (λ (x : VoterConfiguration). is_majority (member_ids x) nodes) same
        ∙ most p (of-predecessor o) (target_index t) (inr (here o).operation.head.three)
        (λ i l d.
        there (member_node (member_at p i))
        (counts-current t _ (ap (λ (x : VoterConfiguration). contains (member_node (member_at p i)) (member_ids x)) same ∙ id-there p p.count i (omega arith)))
        (not_own _ i l (ap member_node (in-predecessor o i l d))))
    enough-current false e =
        let c = slot_configuration t in
        let same : current_configuration t ≡ c = current-settled t e in
        ap (λ (x : VoterConfiguration). is_majority (member_ids x) nodes) same
        ∙ most c of_slots t.count (inl (omega arith))
        (λ i l d.
        there (member_node (member_at c i)) (counts-current t _ (ap (λ (x : VoterConfiguration). contains (member_node (member_at c i)) (member_ids x)) same ∙ id-there c t.count i l))
        (slots-stay _ (id-there c t.count i l)))

    enough-successor : is_joint t ≡ true → is_majority (successor_ids t) nodes ≡ true
    enough-successor j =
        let o = and_left t.has_replacement _ j in
        let c = t.replacement.successor in
        let n = (here o).operation.head.successor in
        most c (of-successor o) t.count (inl (omega arith))
        (λ i l d. let h = id-there c c.count i (omega arith) in there (member_node (member_at c i)) (counts-successor t _ j h) (successor-stays o _ h))

    enough-nodes : is_quorum t nodes ≡ true
    unfolding is_quorum
    enough-nodes = and_both (is_majority (current_ids t) nodes) _ (enough-current (is_below t) refl) (then-passes (is_joint t) _ enough-successor)

  pub quorums-in : QuorumsIn t
  quorums-in =
      record {
        replaced = λ node. ((λ p. counts-retired node p.0 p.1), replaced-counts node);
        settled = settled-stays;
        members = current-count;
        members-next = successor-count;
        enough = enough-nodes;
      }

-- ---- what a call does to the configurations

-- the current configuration stays, and in phase Joint the one that follows it too
record Kept (t next : VoterSlotTable) : Type 0 where
  current : current_configuration next ≡ current_configuration t
  epoch : next.configuration_epoch ≡ t.configuration_epoch
  still : is_joint t ≡ true → (is_joint next ≡ true) × (successor_ids next ≡ successor_ids t)

-- the successor takes over
record Handed (t next : VoterSlotTable) : Type 0 where
  both : is_joint t ≡ true
  settled : is_below next ≡ false
  epoch : next.configuration_epoch ≡ t.configuration_epoch + 1
  ids : current_ids next ≡ successor_ids t

abbrev Moves : VoterSlotTable → VoterSlotTable → Type 0
Moves t next = Kept t next ⊎ Handed t next

not-joint : (t : VoterSlotTable) → (t.replacement.phase ≡ joint → ⊥) → {A : Type 0} → is_joint t ≡ true → A
not-joint t n j = absurd (n (eqb-true _ _ (and_right t.has_replacement _ j)))

-- before Joint
kept-below : (t next : VoterSlotTable) → t.has_replacement ≡ true → t.replacement.phase < joint → is_below next ≡ true
    → next.replacement.predecessor ≡ t.replacement.predecessor → next.configuration_epoch ≡ t.configuration_epoch → Moves t next
kept-below t next o b d e f =
    inl (record { current = current-below next d ∙ (e ∙ sym (current-below t (below_of t o (omega arith)))); epoch = f; still = not-joint t (λ p. omega arith) })

module _ (t : VoterSlotTable) where
  -- ---- the steps of an Advance

  module _ (o : t.has_replacement ≡ true) (cut : VoterSlotLogId) where
    to-phase : t.replacement.phase < joint → (phase : ℕ) → phase < uniform → (e : VoterReplacementEvidence) → Moves t (advanced t phase e)
    to-phase b phase p e = kept-below t (advanced t phase e) o b (below_of (advanced t phase e) refl p) refl refl

    snapshot-moves : (s : VoterSnapshotEvidence) → Every (Moves t) (record_snapshot t s cut)
    unfolding record_snapshot
    snapshot-moves s =
        let op = t.replacement in
        by-test (Every (Moves t)) op.evidence.has_snapshot
        (λ _. by-test (Every (Moves t)) (same_voter_snapshot_evidence op.evidence.snapshot s) (λ _. tt) (λ _. tt))
        (λ _. by-test (Every (Moves t)) (eqb op.phase prepared && (ltb s.cut.index cut.index && leb s.cut.term cut.term))
        (λ e. let p = eqb-true op.phase prepared (and_left _ _ e) in to-phase (omega arith) snapshot_installed (omega arith) _)
        (λ _. tt))

    caught-up-moves : (mark : VoterSlotLogId) → Every (Moves t) (record_caught_up t mark cut)
    unfolding record_caught_up
    caught-up-moves mark =
        let op = t.replacement in
        by-test (Every (Moves t)) (op.evidence.caught_up.is_some && same_voter_slot_log_id op.evidence.caught_up.cut mark) (λ _. tt)
        (λ _. by-test (Every (Moves t)) (is_catching_up op.phase && (eqb mark.term cut.term && ltb mark.index cut.index))
        (λ e.
        to-phase
        (⊎_elim (λ h. let p = eqb-true op.phase learner_added h in omega arith) (λ h. let p = eqb-true op.phase caught_up h in omega arith)
        (or_cases (eqb op.phase learner_added) (eqb op.phase caught_up) (and_left (is_catching_up op.phase) _ e)))
        caught_up (omega arith) _)
        (λ _. tt))

    continuation-moves : Every (Moves t) (record_continuation t cut)
    unfolding record_continuation
    continuation-moves =
        let op = t.replacement in
        by-test (Every (Moves t)) op.evidence.continuation.is_some (λ _. tt)
        (λ _. by-test (Every (Moves t)) (leb fenced op.phase) (λ _. tt)
        (λ e. let p = leb-false fenced op.phase e in to-phase (omega arith) op.phase (omega arith) _))

    fence-moves : Every (Moves t) (fence t cut)
    unfolding fence
    fence-moves =
        let op = t.replacement in
        by-test (Every (Moves t)) (leb fenced op.phase) (λ _. tt)
        (λ _. by-test (Every (Moves t)) (eqb op.phase caught_up && (op.evidence.caught_up.is_some && eqb op.evidence.caught_up.cut.term cut.term))
        (λ e. let p = eqb-true op.phase caught_up (and_left _ _ e) in to-phase (omega arith) fenced (omega arith) _)
        (λ _. tt))

    -- a slot put back with the member that it had
    same-members : (s : VoterSlotRecord) → s.member ≡ (target_slot t).member → map (λ x. x.member) (set t.slots (target_index t) s) ≡ map (λ x. x.member) t.slots
    same-members s e = map-set_same (λ (x : VoterSlotRecord). x.member) t.slots (target_index t) s no_slot_record e

    finalize-moves : Every (Moves t) (finalize t cut)
    unfolding finalize finalized_slot
    finalize-moves =
        by-test (Every (Moves t)) (eqb t.replacement.phase uniform && ltb (target_index t) t.count)
        (λ e.
        let p = eqb-true t.replacement.phase uniform (and_left _ _ e) in
        let n : is_below t ≡ false = λ i. o i && le-ltb t.replacement.phase uniform (omega arith) i in
        inl
        (record {
          current =
              current-settled (finalized t cut) refl
              ∙ ((λ i. record { epoch = t.configuration_epoch; members = same-members (finalized_slot t cut) refl i; count = t.count }) ∙ sym (current-settled t n));
          epoch = refl;
          still = not-joint t (λ q. omega arith);
        }))
        (λ _. tt)

    step-moves : (s : VoterReplacementStep) → Every (Moves t) (take_step t s cut)
    unfolding take_step
    step-moves s =
        by-test (Every (Moves t)) (eqb s.kind record_snapshot_kind) (λ _. snapshot-moves s.snapshot)
        (λ _. by-test (Every (Moves t)) (eqb s.kind record_caught_up_kind) (λ _. caught-up-moves s.caught_up)
        (λ _. by-test (Every (Moves t)) (eqb s.kind record_continuation_kind) (λ _. continuation-moves)
        (λ _. by-test (Every (Moves t)) (eqb s.kind fence_kind) (λ _. fence-moves) (λ _. finalize-moves))))

  -- ---- the commands

  module _ (cut : VoterSlotLogId) where
    advance-moves : (id digest : List ℕ) (s : VoterReplacementStep) → Every (Moves t) (advance t id digest s cut)
    unfolding advance advance_open
    advance-moves id digest s =
        let op = t.replacement in
        by-test (Every (Moves t)) (eqb t.revision full) (λ _. tt)
        (λ _. by-test (Every (Moves t)) t.has_replacement
        (λ o. by-test (Every (Moves t)) (not (eq_bytes op.attestation.request_id id)) (λ _. tt)
        (λ _. by-test (Every (Moves t)) (not (eq_bytes op.attestation.request_digest digest)) (λ _. tt)
        (λ _. by-test (Every (Moves t)) (leb cut.index op.evidence.prepare.index || ltb cut.term op.evidence.prepare.term) (λ _. tt)
        (λ _. step-moves o cut s))))
        (λ _. by-test (Every (Moves t)) (eqb s.kind finalize_kind && is_completed t id digest) (λ _. tt) (λ _. tt)))

    marker-moves : (id digest : List ℕ) → Every (Moves t) (marker t id digest)
    unfolding marker
    marker-moves id digest =
        by-test (Every (Moves t)) (is_open_request t id && eq_bytes t.replacement.attestation.request_digest digest && is_catching_up t.replacement.phase) (λ _. tt) (λ _. tt)

    -- no request is superseded from Fenced on
    not-fenced : (q : VoterReplacementRequest) → open_check t q cut ≡ Accepted → is_joint t ≡ true → ⊥
    unfolding open_check
    not-fenced q h j =
        let op = t.replacement in
        let o = and_left t.has_replacement _ j in
        let p = eqb-true op.phase joint (and_right t.has_replacement _ j) in
        let rest : Answer =
        cond (not (eqb op.attestation.slot q.attestation.slot)) ReplacementInProgress
        (cond (leb fenced op.phase) ReplacementPastFence (cond (leb cut.index op.evidence.prepare.index) InvalidTransition Accepted)) in
        let a : rest ≡ Accepted = sym (cond-false (not t.has_replacement) Accepted rest (ap not o)) ∙ h in
        let b = (chosen-not (not (eqb op.attestation.slot q.attestation.slot)) ReplacementInProgress _ refl a).1 in
        let c = leb-false fenced op.phase (chosen-not (leb fenced op.phase) ReplacementPastFence _ refl b).0 in
        omega arith

    -- a request that is begun, superseding one or none, has the current configuration as its
    -- predecessor
    begun-moves : (q : VoterReplacementRequest) → begin_check t q cut ≡ Accepted → Moves t (begun t q cut)
    unfolding begun_operation begin_check
    begun-moves q h =
        let a = (both-accepted (open_check t q cut) (first_refusal (request_check q) (first_refusal (stale_check t q) (first_refusal (candidate_check t q) (full_check t)))) h).0 in
        inl (record { current = current-below (begun t q cut) refl; epoch = refl; still = λ j. absurd (not-fenced q a j) })

    begin-moves : (q : VoterReplacementRequest) → Every (Moves t) (begin t q cut)
    unfolding begin repeated
    begin-moves q =
        by-test (Every (Moves t)) (is_known t q.attestation.request_id)
        (λ _. by-test (Every (Moves t)) (eq_bytes (known_digest t q.attestation.request_id) q.attestation.request_digest)
        (λ _. by-test (Every (Moves t)) (is_accepted (request_check q)) (λ _. tt) (λ _. tt))
        (λ _. tt))
        (λ _. by-test (Every (Moves t)) (is_accepted (begin_check t q cut)) (λ e. begun-moves q (is-accepted (begin_check t q cut) e)) (λ _. tt))

    decide-moves : (x : VoterSlotControl) → Every (Moves t) (decide t x cut)
    unfolding decide
    decide-moves x =
        by-test (Every (Moves t)) (eqb x.kind begin_kind) (λ _. begin-moves x.request)
        (λ _. by-test (Every (Moves t)) (eqb x.kind advance_kind) (λ _. advance-moves x.request_id x.request_digest x.step)
        (λ _. marker-moves x.request_id x.request_digest))

  -- ---- observations

  module _ (v : ValidTable t) (cut : VoterSlotLogId) (c : HeldVoterSlotLogId cut) where
    module _ (o : t.has_replacement ≡ true) where
      -- the slot being replaced keeps its member
      seen-members : (phase : ℕ)
          → map (λ x. x.member) (set t.slots (target_index t) (in_phase (target_slot t) phase))
          ≡ map (λ x. x.member) t.slots
      seen-members phase = same-members o cut _ refl

      nothing-moves : Moves t (raised (with_target t t.configuration_epoch t.replacement))
      nothing-moves = inl (record { current = by (ltb t.replacement.phase uniform) refl; epoch = refl; still = λ j. (and_right t.has_replacement _ j, refl) })
        where
          by : (b : Bool) → ltb t.replacement.phase uniform ≡ b → current_configuration (raised (with_target t t.configuration_epoch t.replacement)) ≡ current_configuration t
          by true e = current-below _ e ∙ sym (current-below t (and_both t.has_replacement _ o e))
          by false e =
              let n : is_below t ≡ false = λ i. o i && e i in
              current-settled _ e
              ∙ ((λ i. record { epoch = t.configuration_epoch; members = seen-members (target_phase t.replacement.phase) i; count = t.count }) ∙ sym (current-settled t n))

      phase-moves : (phase : ℕ) → phase < uniform → t.replacement.phase + 1 ≡ phase → (e : VoterReplacementEvidence)
          → Moves t (raised (with_target t t.configuration_epoch (operation_with t.replacement phase e)))
      phase-moves phase p q e =
          let next = raised (with_target t t.configuration_epoch (operation_with t.replacement phase e)) in
          kept-below t next o (omega arith) (below_of next refl p) refl refl

      uniform-moves : t.replacement.phase + 1 ≡ uniform → Moves t (raised (with_target t t.replacement.successor.epoch (uniform_seen t.replacement cut)))
      uniform-moves q =
          let next = raised (with_target t t.replacement.successor.epoch (uniform_seen t.replacement cut)) in
          let op = t.replacement in
          let n = (here t v.valid o).operation.head.successor in
          let era : t.configuration_epoch ≡ op.predecessor.epoch =
          (here t v.valid o).operation.epoch ∙ cond-false (eqb op.phase uniform) op.successor.epoch op.predecessor.epoch (ne_eqb op.phase uniform (λ e. omega arith)) in
          let following = (here t v.valid o).operation.head.next in
          inr
          (record {
            both = and_both t.has_replacement _ o (eq-eqb op.phase joint (omega arith));
            settled = refl;
            epoch = omega arith;
            ids =
                ap member_ids (current-settled next refl)
                ∙ (ids-same (slot_configuration next) t.replacement.successor t.count
                (λ i l. ap (λ (m : List VoterSlotMember). get_or m i no_member) (seen-members (target_phase uniform)) ∙ (slot-member t i ∙ in-successor t v.valid o i l))
                ∙ ap (member_ids_below t.replacement.successor) (sym n));
          })

      -- unchanged, or a table that moves so
      keep-or : (next : VoterSlotTable) → Moves t (raised next) → Every (Moves t) (keep_or t next)
      keep-or next m = by-test (Every (Moves t)) (same_voter_slot_table next t) (λ _. tt) (λ _. m)

      observed-moves : (s : Sight) → Fits t.replacement s → Every (Moves t) (observed t s cut)
      unfolding observed
      observed-moves strange f = tt
      observed-moves nothing_new f = keep-or _ nothing-moves
      observed-moves new_learner f = keep-or _ (phase-moves learner_added (omega arith) (omega arith) _)
      observed-moves new_joint f = keep-or _ (phase-moves joint (omega arith) (omega arith) _)
      observed-moves new_uniform f = keep-or _ (uniform-moves (omega arith))

    observe-moves : (sets : List (List ℕ)) (nodes : List ℕ) → Every (Moves t) (observe t sets nodes cut)
    unfolding observe
    observe-moves sets nodes =
        let current = member_ids (current_configuration t) in
        by-test (Every (Moves t)) (eqb t.revision full) (λ _. tt)
        (λ _. by-test (Every (Moves t)) t.has_replacement
        (λ o. by-test (Every (Moves t)) (ltb (target_index t) t.count)
        (λ _. observed-moves o (see t.replacement sets nodes) (fits-see t.replacement sets nodes))
        (λ _. tt))
        (λ _. by-test (Every (Moves t)) (eq_sets sets (current ∷ []) && eq_ids nodes current) (λ _. tt) (λ _. tt)))

-- ---- quorums that share a node

-- what a quorum is made of
quorum-current : (t : VoterSlotTable) (nodes : List ℕ) → is_quorum t nodes ≡ true → is_majority (current_ids t) nodes ≡ true
unfolding is_quorum
quorum-current t nodes h = and_left (is_majority (current_ids t) nodes) _ h

quorum-successor : (t : VoterSlotTable) (nodes : List ℕ) → is_joint t ≡ true → is_quorum t nodes ≡ true → is_majority (successor_ids t) nodes ≡ true
unfolding is_quorum
quorum-successor t nodes j h = then-says (is_joint t) _ (and_right (is_majority (current_ids t) nodes) _ h) j

-- where the current members are the same
meet-current : (t next : VoterSlotTable) → current_ids next ≡ current_ids t → (a b : List ℕ) → is_quorum t a ≡ true → is_quorum next b ≡ true → Shared t next a b
meet-current t next e a b h k =
    let s = common (current_ids t) a b (quorum-current t a h) (sym (ap (λ (x : List ℕ). is_majority x b) e) ∙ quorum-current next b k) in
    record {
      node = s.node;
      first = s.first;
      second = s.second;
      counts = counts-current t s.node s.within;
      counts-next = counts-current next s.node (ap (λ (x : List ℕ). contains s.node x) e ∙ s.within);
    }

-- where the members that followed are the current ones
meet-successor : (t next : VoterSlotTable) → is_joint t ≡ true → current_ids next ≡ successor_ids t → (a b : List ℕ) → is_quorum t a ≡ true → is_quorum next b ≡ true → Shared t next a b
meet-successor t next j e a b h k =
    let s = common (successor_ids t) a b (quorum-successor t a j h) (sym (ap (λ (x : List ℕ). is_majority x b) e) ∙ quorum-current next b k) in
    record {
      node = s.node;
      first = s.first;
      second = s.second;
      counts = counts-successor t s.node j s.within;
      counts-next = counts-current next s.node (ap (λ (x : List ℕ). contains s.node x) e ∙ s.within);
    }

-- ---- one call

pub record Stepped (t next : VoterSlotTable) : Type 0 where
  -- a node that counts after it counted before it, or is not retired after it
  pub counted : (node : ℕ) → counts_in next node ≡ true → is_retired next node ≡ true → counts_in t node ≡ true
  moves : Moves t next

moved : (t next : VoterSlotTable) → validate next ≡ Accepted → Moves t next → Stepped t next
moved t next v (inl e) =
    record {
      counted = λ node c r.
          counts-current t node
          (sym (ap (λ (x : VoterConfiguration). contains node (member_ids x)) e.current) ∙ replaced-current next v node (counts-retired next v node c r));
      moves = inl e;
    }
moved t next v (inr m) = record { counted = λ node c r. absurd (false≢true (sym (settled-stays next v m.settled node c) ∙ r)); moves = inr m }

stayed : (t : VoterSlotTable) → ValidTable t → Stepped t t
stayed t v = moved t t v.valid (inl (record { current = refl; epoch = refl; still = λ j. (j, refl) }))

settled : (t : VoterSlotTable) → ValidTable t → (d : Decision) → Every (Moves t) d → Stepped t (settle t d).1
unfolding settle
settled t v (refuse answer) m = stayed t v
settled t v keep m = stayed t v
settled t v (change next) m =
    by-test (λ (x : Answer × VoterSlotTable). Stepped t x.1) (is_accepted (validate_successor_of next t))
    (λ e. moved t next (successor next t (is-accepted (validate_successor_of next t) e)).new-valid m)
    (λ _. stayed t v)

pub call-stepped : (x : Call) (t : VoterSlotTable) → ValidTable t → Stepped t (after x t)
unfolding apply_control observe_membership
call-stepped (command x cut k c) t v =
    by-test (λ (y : Answer × VoterSlotTable). Stepped t y.1) (representable t && representable_control x)
    (λ _. by-test (λ (y : Answer × VoterSlotTable). Stepped t y.1) (is_accepted (validity t) && valid_log_id cut) (λ _. settled t v (decide t x cut) (decide-moves t cut x)) (λ _. stayed t v))
    (λ _. stayed t v)
call-stepped (observation ids counts nodes cut c) t v =
    by-test (λ (y : Answer × VoterSlotTable). Stepped t y.1) (representable t && representable_sets ids counts nodes)
    (λ _. by-test (λ (y : Answer × VoterSlotTable). Stepped t y.1) (all_rising (split_sets ids counts) && is_rising nodes)
    (λ _. settled t v (observe t (split_sets ids counts) nodes cut) (observe-moves t v cut c (split_sets ids counts) nodes))
    (λ _. stayed t v))
    (λ _. stayed t v)
call-stepped (restart bytes) t v =
    subst (λ (x : ℕ × VoterSlotTable). Stepped t x.1) (sym (restart-same t v (with_room t bytes) (has_room t bytes))) (stayed t v)

-- ---- several calls

-- the epoch is the same
record SameEpoch (t u : VoterSlotTable) : Type 0 where
  epoch : u.configuration_epoch ≡ t.configuration_epoch
  ids : current_ids u ≡ current_ids t
  still : is_joint t ≡ true → (is_joint u ≡ true) × (successor_ids u ≡ successor_ids t)

-- it is a later one
record LaterEpoch (t u : VoterSlotTable) : Type 0 where
  epoch : t.configuration_epoch < u.configuration_epoch
  ids : is_joint t ≡ true → u.configuration_epoch ≡ t.configuration_epoch + 1 → current_ids u ≡ successor_ids t

abbrev Passed : VoterSlotTable → VoterSlotTable → Type 0
Passed t u = SameEpoch t u ⊎ LaterEpoch t u

same-epoch : (t : VoterSlotTable) → SameEpoch t t
same-epoch t = record { epoch = refl; ids = refl; still = λ j. (j, refl) }

pass : (t u next : VoterSlotTable) → Passed t u → Moves u next → Passed t next
pass t u next (inl p) (inl k) =
    inl
    (record {
      epoch = k.epoch ∙ p.epoch;
      ids = ap member_ids k.current ∙ p.ids;
      still = λ j. let a = p.still j in let b = k.still a.0 in (b.0, b.1 ∙ a.1);
    })
pass t u next (inl p) (inr m) = inr (record { epoch = let a = m.epoch in let b = p.epoch in omega arith; ids = λ j e. m.ids ∙ (p.still j).1 })
pass t u next (inr p) (inl k) =
    inr
    (record {
      epoch = let a = k.epoch in let b = p.epoch in omega arith;
      ids = λ j e. ap member_ids k.current ∙ p.ids j (sym k.epoch ∙ e);
    })
pass t u next (inr p) (inr m) = let a = m.epoch in let b = p.epoch in inr (record { epoch = omega arith; ids = λ j e. absurd (omega arith) })

meet-passed : (t u : VoterSlotTable) → Passed t u → Near t u → (a b : List ℕ) → is_quorum t a ≡ true → is_quorum u b ≡ true → Shared t u a b
meet-passed t u (inl p) (inl n) = meet-current t u p.ids
meet-passed t u (inl p) (inr n) = let a = p.epoch in let b = n.1 in absurd (omega arith)
meet-passed t u (inr p) (inl n) = let a = p.epoch in absurd (omega arith)
meet-passed t u (inr p) (inr n) = meet-successor t u n.0 (p.ids n.0 n.1)

-- ---- a line

valid-at : (calls : List Call) (start : VoterSlotTable) → ValidTable start → (i : ℕ) → ValidTable (table_at start calls i)
valid-at calls start v zero = v
valid-at [] start v (suc i) = v
valid-at (x ∷ calls) start v (suc i) = valid-at calls (after x start) (call-valid x start v) i

stepped-at : (calls : List Call) (start : VoterSlotTable) → ValidTable start → (i : ℕ) → Stepped (table_at start calls i) (table_at start calls (suc i))
stepped-at [] start v zero = stayed start v
stepped-at [] start v (suc i) = stayed start v
stepped-at (x ∷ calls) start v zero = call-stepped x start v
stepped-at (x ∷ calls) start v (suc i) = stepped-at calls (after x start) (call-valid x start v) i

module _ (start : VoterSlotTable) (v : ValidTable start) (calls : List Call) where
  abbrev table : ℕ → VoterSlotTable
  table i = table_at start calls i

  out_at : (i j : ℕ) → i ≤ j → (node : ℕ) → is_retired (table i) node ≡ true → counts_in (table i) node ≡ false → counts_in (table j) node ≡ false
  out_at i zero l node r c = let e : i ≡ zero = omega arith in subst (λ (k : ℕ). counts_in (table k) node ≡ false) e c
  out_at i (suc j) l node r c = by (leb i j) refl (out_at i j)
    where
      by : (b : Bool) → leb i j ≡ b → (i ≤ j → (node : ℕ) → is_retired (table i) node ≡ true → counts_in (table i) node ≡ false → counts_in (table j) node ≡ false)
          → counts_in (table (suc j)) node ≡ false
      by true e f =
          is_false (counts_in (table (suc j)) node)
          (λ h. false≢true (sym (f (leb-true i j e) node r c) ∙ (stepped-at calls start v j).counted node h (retired-stays start v.held v.valid calls i (suc j) l node r)))
      by false e f = let k = leb-false i j e in let e : i ≡ suc j = omega arith in subst (λ (k : ℕ). counts_in (table k) node ≡ false) e c

  near-at : (i : ℕ) → Near (table i) (table (i + 1))
  near-at i = let e : suc i ≡ i + 1 = omega arith in subst (λ (k : ℕ). Near (table i) (table k)) e (⊎_elim (λ k. inl k.epoch) (λ m. inr (m.both, m.epoch)) (stepped-at calls start v i).moves)

  -- from a place to each later one
  passed-at : (i j : ℕ) → i ≤ j → Passed (table i) (table j)
  passed-at i zero l = let e : i ≡ zero = omega arith in subst (λ (k : ℕ). Passed (table i) (table k)) e (inl (same-epoch (table i)))
  passed-at i (suc j) l = by (leb i j) refl (passed-at i j)
    where
      by : (b : Bool) → leb i j ≡ b → (i ≤ j → Passed (table i) (table j)) → Passed (table i) (table (suc j))
      by true e f = pass (table i) (table j) (table (suc j)) (f (leb-true i j e)) (stepped-at calls start v j).moves
      by false e f =
          let k = leb-false i j e in
          let e : i ≡ suc j = omega arith in
          subst (λ (k : ℕ). Passed (table i) (table k)) e (inl (same-epoch (table i)))

  meet-at : (i j : ℕ) → i ≤ j → Near (table i) (table j) → (a b : List ℕ) → is_quorum (table i) a ≡ true → is_quorum (table j) b ≡ true → Shared (table i) (table j) a b
  meet-at i j l n = meet-passed (table i) (table j) (passed-at i j l) n

  live_at : (i j : ℕ) → i ≤ j → Near (table i) (table j) → (a b : List ℕ) → is_quorum (table i) a ≡ true → is_quorum (table j) b ≡ true → AllLive (table j) b
      → SharedLive (table i) (table j) a b
  live_at i j l n a b h k none =
      let s = meet-at i j l n a b h k in
      let later = none s.node s.second in
      record {
        shared = s;
        live = is_false (is_retired (table i) s.node) (λ r. false≢true (sym later ∙ retired-stays start v.held v.valid calls i j l s.node r));
        live-next = later;
      }

-- ---- the whole of it

pub quorums : Quorums
quorums start h v calls =
    let w : ValidTable start = record { held = h; valid = v } in
    record {
      each = λ i. quorums-in (table_at start calls i) (valid-at calls start w i).valid;
      out = out_at start w calls;
      meet = meet-at start w calls;
      near = near-at start w calls;
      meet-next = λ i. meet-at start w calls i (i + 1) (omega arith) (near-at start w calls i);
      live = live_at start w calls;
    }
