-- The table that a Begin makes, of a valid table: it is valid, and the Rust types can hold it.
-- Each name here is a step of a proof; what is right is said in Control.
-- Assumes nothing.
use Rattle.std.specs.Prelude.{ℕ, ◌+◌, ◌<◌, ◌≤◌, ◌≡◌, Bool, false, eqb}
use Rattle.std.proofs.Math.Path.{refl, sym, ap, subst}
use Rattle.std.proofs.Common.{◌∙◌, le_refl, arith}
use Rattle.std.proofs.Math.Bool.{true, not}
use Rattle.std.proofs.Math.ListN.{get_or-map}
use borrow.Author.Tests.{eqb-true, eq-eqb, ne_eqb, le-leb}
use Rattle.identity.specs.Identity.{is_configuration_epoch}
use Rattle.identity.specs.Utf8Laws.{and_left, and_right}
use Rattle.identity.specs.Answer.{Accepted}
use Rattle.records.specs.declared.records.VoterSlotLogId.{VoterSlotLogId}
use Rattle.records.specs.declared.records.VoterSlotMember.{VoterSlotMember}
use Rattle.records.specs.declared.records.VoterSlotRecord.{VoterSlotRecord}
use Rattle.records.specs.declared.records.VoterConfiguration.{VoterConfiguration}
use Rattle.records.specs.declared.records.VoterSlotTable.{VoterSlotTable}
use Rattle.records.specs.Blank.{blank_optional_log_id, blank_voter_snapshot_evidence}
use Rattle.records.specs.EqualityLaws.{same_voter_slot_log_id-refl, same_voter_snapshot_evidence-refl}
use Rattle.records.specs.Evidence.{valid_log_id, valid_stage, valid_stages, valid_continuation, valid_evidence}
use Rattle.records.specs.Records.{prepared, uniform, superseded, slot_at, member_at, no_slot_record}
use Rattle.records.specs.Representable.{representable, representable_member, representable_attestation, representable_slot_record, representable_configuration, representable_evidence}
use Rattle.records.specs.Validation.{valid_configuration, is_active, claims_of, retired_member, has_target, validate_member, validity}
use Rattle.records.specs.ValidationLaws.{member_answer}
use Rattle.records.specs.TestLaws.{says, passes, and_both, is_false, cond-true, cond-false, same_bytes, some_below, apart}
use Rattle.records.specs.ValidParts.{SlotHolds, slot-later, Distinct, SlotsHold, configuration-valid, OperationHolds, Other, TargetHolds, OtherHolds, member-target, member-other, target-valid, others-valid, IdleHolds, OpenHolds, valid-slots-hold, idle-holds, open-holds, open-valid}
use Rattle.records.specs.RepresentableParts.{member_is, result-is, slot_is, evidence-is, table_is, replacement-fits, replacement-holds, replacement-joined, attested-some, incarnation-most, slot-fits, members-fit, absent-fits}
use Rattle.records.specs.PlaceLaws.{distinct-two, at-used, places-placed, placed-fits, number-placed, placed-slots}
use Rattle.control.specs.declared.control.VoterReplacementRequest.{VoterReplacementRequest}
use Rattle.control.specs.Control.{representable_request, receipt_of, current_configuration, is_known, named_index, named_slot, begun_slot, begun_slots, begun_operation, begun}
use Rattle.control.specs.BeginCheckLaws.{Starts, fresh-open, fresh-slot, superseding_slot, idle_slot, idle_configuration, begun-cases}

-- ---- the table that a Begin makes

-- What is given: a valid table, a cut with both numbers, an id that is not known, and tests that
-- were passed.
pub record Given (t : VoterSlotTable) (r : VoterReplacementRequest) (cut : VoterSlotLogId) : Type 0 where
  pub held : representable t ≡ true
  pub valid : validity t ≡ Accepted
  pub request : representable_request r ≡ true
  pub numbered : valid_log_id cut ≡ true
  pub fresh : is_known t r.attestation.request_id ≡ false
  pub starts : Starts t r cut

module _ (t : VoterSlotTable) (r : VoterReplacementRequest) (cut : VoterSlotLogId) (g : Given t r cut) where
  pub slots : SlotsHold t
  slots = valid-slots-hold t g.valid

  -- the candidate's slot is put in its place, and no slot's number changes
  pub same_number : (begun_slot t r cut).member.identity.slot ≡ (named_slot t r).member.identity.slot
  unfolding begun_slot
  same_number = g.starts.slot ∙ sym g.starts.named

  pub number : (i : ℕ) → (slot_at (begun t r cut) i).member.identity.slot ≡ (slot_at t i).member.identity.slot
  number =
      number-placed t g.held (named_index t r) g.starts.index (begun_slot t r cut) (t.revision + 1) t.configuration_epoch true (begun_operation t r cut) same_number

  -- another slot has another number
  differs : (i : ℕ) → i < t.count → (i ≡ named_index t r → ⊥) → (slot_at t i).member.identity.slot ≡ r.attestation.slot → ⊥
  differs i l d e =
      apart (λ i. (slot_at t i).member.identity.slot) t.count slots.rise i (named_index t r) l g.starts.index d (e ∙ sym g.starts.named)

  -- and is in neither table the one that is being replaced
  inactive : (i : ℕ) → i < t.count → (i ≡ named_index t r → ⊥) → is_active t (slot_at t i) ≡ false
  inactive i l d =
      is_false (is_active t (slot_at t i)) (λ h.
      let e = and_left t.has_replacement _ h in
      let f = eqb-true _ _ (and_right t.has_replacement _ h) in
      differs i l d (sym f ∙ (g.starts.supersedes e).slot))

  inactive-now : (i : ℕ) → i < t.count → (i ≡ named_index t r → ⊥) → is_active (begun t r cut) (slot_at t i) ≡ false
  unfolding begun_operation
  inactive-now i l d = ne_eqb _ _ (λ e. differs i l d (sym e))

  -- ---- a request that was open

  module _ (e : t.has_replacement ≡ true) where
    was-open : OpenHolds t
    was-open = open-holds t g.valid e

    -- the slot, and the member before the candidate that it has
    pub was-target : TargetHolds (claims_of t.replacement) (named_slot t r) (member_at t.replacement.predecessor (named_index t r))
    was-target =
        member-target (claims_of t.replacement) (named_slot t r) (member_at t.replacement.predecessor (named_index t r))
        (member_at t.replacement.successor (named_index t r))
        (was-open.member (named_index t r) g.starts.index) (g.starts.named ∙ sym (g.starts.supersedes e).slot)

    was-other : (i : ℕ) → i < t.count → (i ≡ named_index t r → ⊥) → OtherHolds (claims_of t.replacement) (slot_at t i) (member_at t.replacement.predecessor i)
    was-other i l d =
        member-other (claims_of t.replacement) (slot_at t i) (member_at t.replacement.predecessor i) (member_at t.replacement.successor i)
        (was-open.member i l) (λ k. differs i l d (k ∙ (g.starts.supersedes e).slot))

    -- no slot has a receipt of it
    was-unused : (i : ℕ) → i < t.count → (i ≡ named_index t r → ⊥) → Other t.replacement.attestation.request_id (slot_at t i)
    was-unused i l d = (was-other i l d).other

    -- the attested incarnation is neither the first nor the one before it
    second : 1 < (named_slot t r).member.identity.incarnation
    second =
        let n = was-target.next in
        omega (arith, attested-some t.replacement (replacement-holds t.replacement (replacement-fits t g.held e)))

  was-idle : t.has_replacement ≡ false → IdleHolds t
  was-idle e = idle-holds t g.valid e

  -- ---- the candidate's slot

  superseding-slot : t.has_replacement ≡ true → SlotHolds (t.revision + 1) t.configuration_epoch true (superseding_slot t r cut)
  superseding-slot e =
      let n = g.starts.generation in
      let x = g.starts.next in
      let y = g.starts.expected in
      record {
        generation = omega arith;
        retired = x;
        placed = refl;
        receipt = λ a.
            record {
              terminal = g.numbered;
              some = omega arith;
              revision = le_refl _;
              epoch = le_refl _;
              later = second e;
              own = omega arith;
              earlier = λ b. omega arith;
              settled = λ b. absurd (omega arith);
            };
      }

  idle-slot : t.has_replacement ≡ false → SlotHolds (t.revision + 1) t.configuration_epoch true (idle_slot t r)
  idle-slot e =
      let n = g.starts.generation in
      let x = g.starts.next in
      let y = g.starts.expected in
      record {
        generation = omega arith;
        retired = x;
        placed = refl;
        receipt = λ a.
            let k = (slots.each (named_index t r) g.starts.index).receipt a in
            record {
              terminal = k.terminal;
              some = k.some;
              revision = omega (arith, k.revision);
              epoch = k.epoch;
              later = k.later;
              own = omega (arith, k.own);
              earlier = λ b. omega (arith, k.own);
              settled = λ b. absurd (omega (arith, k.own));
            };
      }

  begun-slot : SlotHolds (t.revision + 1) t.configuration_epoch true (begun_slot t r cut)
  begun-slot = begun-cases t r cut g.starts (λ s c. SlotHolds (t.revision + 1) t.configuration_epoch true s) superseding-slot idle-slot

  active-now : is_active (begun t r cut) (begun_slot t r cut) ≡ true
  unfolding begun_operation begun_slot
  active-now = eq-eqb _ _ (sym g.starts.slot)

  -- ---- the receipts

  begun-distinct : (i : ℕ) → i < t.count → (i ≡ named_index t r → ⊥) → Distinct (begun_slot t r cut) (slot_at t i)
  begun-distinct i l d =
      begun-cases t r cut g.starts (λ s c. Distinct s (slot_at t i))
      (λ e a b k. was-unused e i l d b (sym k))
      (λ e. distinct-two t slots (named_index t r) i g.starts.index l (λ k. d (sym k)))

  now-slots : SlotsHold (begun t r cut)
  now-slots =
      placed-slots t g.held (named_index t r) g.starts.index (begun_slot t r cut) (t.revision + 1) t.configuration_epoch true (begun_operation t r cut) same_number
      slots (omega arith)
      (subst (λ (b : Bool). SlotHolds (t.revision + 1) t.configuration_epoch b (begun_slot t r cut)) (sym active-now) begun-slot)
      (λ i l d. subst (λ (b : Bool). SlotHolds (t.revision + 1) t.configuration_epoch b (slot_at t i)) (inactive i l d ∙ sym (inactive-now i l d))
      (slot-later t.revision t.configuration_epoch (t.revision + 1) t.configuration_epoch (is_active t (slot_at t i)) (slot_at t i) (omega arith) (le_refl _) (slots.each i l)))
      begun-distinct

  -- ---- the request that is opened

  now-unused : Other r.attestation.request_id (begun_slot t r cut)
  now-unused =
      begun-cases t r cut g.starts (λ s c. Other r.attestation.request_id s)
      (λ e a k. fresh-open t r.attestation.request_id g.fresh e k)
      (λ e a k. fresh-slot t r.attestation.request_id g.fresh (named_index t r) g.starts.index a k)

  -- the member before the candidate
  record Before (s : VoterSlotRecord) (p : VoterSlotMember) : Type 0 where
    number : p.identity.slot ≡ r.candidate.identity.slot
    earlier : p.identity.incarnation ≤ r.attestation.expected_incarnation
    generation : p.admission_generation < r.candidate.admission_generation
    retired : retired_member (claims_of (begun_operation t r cut)) s p ≡ true

  superseding-before : t.has_replacement ≡ true → Before (superseding_slot t r cut) (member_at t.replacement.predecessor (named_index t r))
  unfolding begun_operation retired_member
  superseding-before e =
      let o = was-target e in
      let n = o.next in
      let b = o.earlier in
      let x = g.starts.expected in
      let p = member_at t.replacement.predecessor (named_index t r) in
      record {
        number = o.slot ∙ (g.starts.named ∙ sym g.starts.slot);
        earlier = omega arith;
        generation = omega (arith, o.generation, g.starts.generation);
        retired =
            cond-false (eqb p.identity.incarnation r.attestation.expected_incarnation) _ _ (ne_eqb p.identity.incarnation r.attestation.expected_incarnation (λ k. omega arith))
            ∙ and_both _ _ (eq-eqb _ _ (sym x)) (same_voter_slot_log_id-refl cut);
      }

  idle-before : t.has_replacement ≡ false → Before (idle_slot t r) (member_at (idle_configuration t) (named_index t r))
  unfolding begun_operation retired_member
  idle-before e =
      let m : member_at (idle_configuration t) (named_index t r) ≡ (named_slot t r).member = get_or-map (λ s. s.member) t.slots (named_index t r) no_slot_record in
      subst (Before (idle_slot t r)) (sym m)
      (record {
        number = g.starts.named ∙ sym g.starts.slot;
        earlier = omega (arith, g.starts.expected);
        generation = g.starts.generation;
        retired =
            cond-true (eqb (named_slot t r).member.identity.incarnation r.attestation.expected_incarnation) _ _ (eq-eqb _ _ (sym g.starts.expected))
            ∙ same_bytes _ _ (sym g.starts.descriptor);
      })

  now-before : Before (begun_slot t r cut) (member_at (current_configuration t) (named_index t r))
  now-before = begun-cases t r cut g.starts (λ s c. Before s (member_at c (named_index t r))) superseding-before idle-before

  now-target : TargetHolds (claims_of (begun_operation t r cut)) (begun_slot t r cut) (member_at (current_configuration t) (named_index t r))
  unfolding begun_operation begun_slot
  now-target =
      let b = now-before in
      let c = incarnation-most r.candidate (and_left (representable_member r.candidate) _ (and_right (is_configuration_epoch r.expected_configuration.configuration_epoch) _ g.request)) in
      let n = g.starts.next in
      record {
        slot = b.number;
        more = λ k. omega arith;
        next = n;
        earlier = b.earlier;
        generation = b.generation;
        admitted = g.starts.admitted;
        key = g.starts.key;
        phase = refl;
        retired = b.retired;
        other = now-unused;
      }

  now-other : (i : ℕ) → i < t.count → (i ≡ named_index t r → ⊥) → OtherHolds (claims_of (begun_operation t r cut)) (slot_at t i) (member_at (current_configuration t) i)
  unfolding begun_operation
  now-other i l d =
      begun-cases t r cut g.starts (λ s c. OtherHolds (claims_of (begun_operation t r cut)) (slot_at t i) (member_at c i))
      (λ e. let o = was-other e i l d in record { member = o.member; phase = o.phase; other = unused })
      (λ e. record { member = get_or-map (λ s. s.member) t.slots i no_slot_record; phase = (was-idle e).phase i l; other = unused })
    where
      unused : Other r.attestation.request_id (slot_at t i)
      unused = fresh-slot t r.attestation.request_id g.fresh i l

  -- the successor's members are those of the slots
  now-member : (i : ℕ) → member_at (begun_operation t r cut).successor i ≡ (slot_at (begun t r cut) i).member
  unfolding begun_operation
  now-member i = get_or-map (λ s. s.member) (begun_slots t r cut) i no_slot_record

  now-members : (i : ℕ) → i < t.count → member_answer (begun t r cut) i ≡ Accepted
  unfolding begun_operation
  now-members i l =
      ap (validate_member (claims_of (begun_operation t r cut)) (slot_at (begun t r cut) i) (member_at (current_configuration t) i)) (now-member i)
      ∙ at-used t g.held (named_index t r) g.starts.index (begun_slot t r cut)
      (λ i s. validate_member (claims_of (begun_operation t r cut)) s (member_at (current_configuration t) i) s.member ≡ Accepted) t.count
      (target-valid (claims_of (begun_operation t r cut)) (begun_slot t r cut) (member_at (current_configuration t) (named_index t r)) slot-now now-target)
      (λ i l d. others-valid (claims_of (begun_operation t r cut)) (slot_at t i) (member_at (current_configuration t) i) (differs i l d) (now-other i l d))
      i l
    where
      slot-now : (begun_slot t r cut).member.identity.slot ≡ r.attestation.slot
      slot-now = unfold begun_slot in g.starts.slot

  now-has-target : has_target (begun t r cut) ≡ true
  unfolding begun_operation
  now-has-target =
      some_below (λ i. not (eqb (slot_at (begun t r cut) i).member.identity.slot r.attestation.slot)) t.count (named_index t r) g.starts.index
      (ap not (eq-eqb _ _ (number (named_index t r) ∙ g.starts.named)))

  -- the configuration before it
  record Earlier (c : VoterConfiguration) : Type 0 where
    valid : valid_configuration c ≡ true
    count : c.count ≡ t.count
    epoch : t.configuration_epoch ≡ c.epoch

  superseding-earlier : t.has_replacement ≡ true → Earlier t.replacement.predecessor
  superseding-earlier e =
      let o = (was-open e).operation in
      let l = (g.starts.supersedes e).phase in
      record {
        valid = o.predecessor;
        count = o.head.predecessor;
        epoch = o.epoch ∙ cond-false (eqb t.replacement.phase uniform) _ _ (ne_eqb t.replacement.phase uniform (λ k. omega arith));
      }

  idle-earlier : t.has_replacement ≡ false → Earlier (idle_configuration t)
  idle-earlier e =
      record {
        valid = configuration-valid (idle_configuration t) (record {
          odd = slots.odd;
          generation = λ i l. omega (arith, (slots.each i l).generation, ap (λ (m : VoterSlotMember). m.admission_generation) (member i));
          rise = λ i l. omega (arith, slots.rise i l, ap (λ (m : VoterSlotMember). m.identity.slot) (member i), ap (λ (m : VoterSlotMember). m.identity.slot) (member (i + 1)));
        });
        count = refl;
        epoch = refl;
      }
    where
      member : (i : ℕ) → member_at (idle_configuration t) i ≡ (slot_at t i).member
      member i = get_or-map (λ s. s.member) t.slots i no_slot_record

  now-earlier : Earlier (current_configuration t)
  now-earlier = begun-cases t r cut g.starts (λ s c. Earlier c) superseding-earlier idle-earlier

  now-successor : valid_configuration (begun_operation t r cut).successor ≡ true
  unfolding begun_operation
  now-successor =
      configuration-valid (begun_operation t r cut).successor (record {
        odd = slots.odd;
        generation = λ i l. omega (arith, (now-slots.each i l).generation, ap (λ (m : VoterSlotMember). m.admission_generation) (now-member i));
        rise = λ i l. omega (arith, now-slots.rise i l, ap (λ (m : VoterSlotMember). m.identity.slot) (now-member i), ap (λ (m : VoterSlotMember). m.identity.slot) (now-member (i + 1)));
      })

  now-evidence : valid_evidence (begun_operation t r cut).evidence prepared ≡ true
  unfolding begun_operation valid_evidence valid_stages valid_stage valid_continuation blank_optional_log_id
  now-evidence = and_both (valid_log_id cut) _ g.numbered refl

  now-operation : OperationHolds (begun t r cut) (begun_operation t r cut)
  unfolding begun_operation
  now-operation =
      let c = now-earlier in
      record {
        attestation = g.starts.attestation;
        predecessor = c.valid;
        successor = now-successor;
        evidence = now-evidence;
        head =
            record {
              some = g.starts.revision-some;
              earlier = omega (arith, g.starts.revision);
              cluster = g.starts.cluster;
              three = g.starts.three;
              predecessor = c.count;
              successor = refl;
              next = refl;
            };
        epoch = c.epoch;
      }

  pub begun-valid : validity (begun t r cut) ≡ Accepted
  begun-valid =
      open-valid (begun t r cut) refl (record { slots = now-slots; operation = now-operation; member = now-members; target = now-has-target })

  -- ---- the Rust types can hold it

  held-candidate : representable_member r.candidate ≡ true
  held-candidate = and_left (representable_member r.candidate) _ (and_right (is_configuration_epoch r.expected_configuration.configuration_epoch) _ g.request)

  held-attestation : representable_attestation r.attestation ≡ true
  held-attestation = and_right (representable_member r.candidate) _ (and_right (is_configuration_epoch r.expected_configuration.configuration_epoch) _ g.request)

  held-slot : representable_slot_record (begun_slot t r cut) ≡ true
  held-slot =
      let old = says (slot_is (named_slot t r)) (slot-fits t g.held (named_index t r) g.starts.index) in
      begun-cases t r cut g.starts (λ s c. representable_slot_record s ≡ true)
      (λ e. passes (slot_is (superseding_slot t r cut)) (
        held-candidate,
        (
          refl,
          passes (result-is (receipt_of t (named_slot t r) superseded cut)) ((says (member_is (named_slot t r).member) old.0).1, ((says (table_is t) g.held).0, refl)),
        ),
      ))
      (λ e. passes (slot_is (idle_slot t r)) (held-candidate, (refl, old.1.1)))

  held-predecessor : representable_configuration (current_configuration t) ≡ true
  held-predecessor =
      let h = says (table_is t) g.held in
      begun-cases t r cut g.starts (λ s c. representable_configuration c ≡ true)
      (λ e. (replacement-holds t.replacement (replacement-fits t g.held e)).predecessor)
      (λ e. members-fit t t.configuration_epoch h.0 h.1.0 h.1.1.0)

  held-evidence : representable_evidence (begun_operation t r cut).evidence ≡ true
  unfolding begun_operation
  held-evidence =
      passes (evidence-is (begun_operation t r cut).evidence) (
        same_voter_snapshot_evidence-refl blank_voter_snapshot_evidence,
        (absent-fits, (absent-fits, (absent-fits, (absent-fits, (absent-fits, absent-fits))))),
      )

  pub begun-held : representable (begun t r cut) ≡ true
  unfolding begun_operation
  begun-held =
      let h = says (table_is t) g.held in
      placed-fits t g.held (named_index t r) g.starts.index (begun_slot t r cut) (t.revision + 1) t.configuration_epoch true (begun_operation t r cut) h.0 held-slot
      (replacement-joined (begun_operation t r cut)
      (record {
        attestation = held-attestation;
        predecessor = held-predecessor;
        successor =
            members-fit (begun t r cut) ((current_configuration t).epoch + 1) (le-leb 1 ((current_configuration t).epoch + 1) (omega arith)) h.1.0
            (places-placed t g.held (named_index t r) g.starts.index (begun_slot t r cut) held-slot);
        phase = omega arith;
        evidence = held-evidence;
      }))
