-- What a Begin that passed its tests knows, and what it makes by whether a request was open.
-- Each name here is a step of a proof; what is right is said in Control.
-- Assumes nothing.
use Prim.Native.Nat.{ℕ, ◌+◌, ◌<◌, ◌≤◌}
use Rattle.std.proofs.Math.Path.{refl, subst}
use Rattle.std.proofs.Common.{sym, ap, ◌∙◌, arith}
use Rattle.std.specs.Prelude.{◌≡◌, cond, ◌&&◌, ◌||◌, List, map, ◌∷◌, [], leb}
use Rattle.std.proofs.Math.Bool.{Bool, true, false, not}
use Rattle.std.proofs.lemmas.Bool.{false≢true}
use Rattle.std.proofs.Math.Dec.{eqb, ltb}
use borrow.Author.Tests.{eqb-true, eqb-false, leb-true, leb-false, ltb-true, ltb-false, lt-ltb, not-false}
use Rattle.identity.specs.Utf8Laws.{and_left}
use Rattle.identity.specs.Answer.{Accepted, ConfigurationEpochExhausted, RevisionExhausted, InvalidLossEvidence, StaleIncarnation, ReplacementInProgress, ReplacementPastFence, InvalidTransition, NoSurvivingQuorum}
use Rattle.records.specs.declared.records.VoterSlotLogId.{VoterSlotLogId}
use Rattle.records.specs.declared.records.VoterSlotRecord.{VoterSlotRecord}
use Rattle.records.specs.declared.records.VoterConfiguration.{VoterConfiguration}
use Rattle.records.specs.declared.records.VoterSlotTable.{VoterSlotTable}
use Rattle.records.specs.Equality.{all_true, eq_bytes}
use Rattle.records.specs.EqualityLaws.{eq_bytes-true}
use Rattle.records.specs.Records.{pending, fenced, uniform, superseded, first_from, slot_at}
use Rattle.records.specs.Validation.{valid_attestation}
use Rattle.records.specs.With.{slot_with}
use Rattle.records.specs.TestLaws.{MadeOf, says, cond-true, cond-false, same_bytes, chosen, chosen-not, both-accepted, first-at, first_absent}
use Rattle.records.specs.ValidParts.{Other}
use Rattle.control.specs.declared.control.VoterReplacementRequest.{VoterReplacementRequest}
use Rattle.control.specs.Control.{full, receipt_of, current_configuration, valid_request, request_check, is_open_request, receipt_index, is_known, open_check, named_index, named_slot, is_expected, is_current, stale_check, candidate_check, full_check, begin_check, begun_slot}

-- ---- what a Begin that passed its tests knows

-- the request that is open is about the same slot, and not fenced
pub record Supersedes (t : VoterSlotTable) (r : VoterReplacementRequest) (cut : VoterSlotLogId) : Type 0 where
  pub slot : t.replacement.attestation.slot ≡ r.attestation.slot
  pub phase : t.replacement.phase < fenced
  pub later : t.replacement.evidence.prepare.index < cut.index

pub record Starts (t : VoterSlotTable) (r : VoterReplacementRequest) (cut : VoterSlotLogId) : Type 0 where
  pub supersedes : t.has_replacement ≡ true → Supersedes t r cut
  -- the request
  pub attestation : valid_attestation r.attestation ≡ true
  pub revision-some : 0 < r.expected_revision
  pub slot : r.candidate.identity.slot ≡ r.attestation.slot
  pub next : r.attestation.expected_incarnation + 1 ≡ r.candidate.identity.incarnation
  pub key : eq_bytes r.candidate.key_digest r.attestation.candidate_key_digest ≡ true
  pub admitted : r.candidate.admission_generation ≡ r.attestation.admission_generation
  -- the request and the table agree
  pub index : named_index t r < t.count
  pub named : (named_slot t r).member.identity.slot ≡ r.attestation.slot
  pub revision : t.revision ≡ r.expected_revision
  pub cluster : eq_bytes r.attestation.cluster_instance t.cluster_instance ≡ true
  pub expected : r.attestation.expected_incarnation ≡ (named_slot t r).member.identity.incarnation
  pub descriptor : r.attestation.old_descriptor_digest ≡ (named_slot t r).member.descriptor_digest
  -- the candidate
  pub three : 3 ≤ t.count
  pub generation : (named_slot t r).member.admission_generation < r.candidate.admission_generation
  -- neither the epoch nor the revision is full
  pub epoch-room : (current_configuration t).epoch ≡ full → ⊥
  pub revision-room : t.revision ≡ full → ⊥

module _ (t : VoterSlotTable) (r : VoterReplacementRequest) (cut : VoterSlotLogId) where
  request-is : MadeOf (
      valid_attestation r.attestation
      ∷ ltb 0 r.expected_revision
      ∷ eq_bytes r.expected_configuration.cluster_id r.attestation.cluster_instance
      ∷ eqb r.candidate.identity.slot r.attestation.slot
      ∷ eqb (r.attestation.expected_incarnation + 1) r.candidate.identity.incarnation
      ∷ eq_bytes r.candidate.key_digest r.attestation.candidate_key_digest
      ∷ eqb r.candidate.admission_generation r.attestation.admission_generation
      ∷ []) (valid_request r)
  unfolding all_true valid_request
  request-is = record { is = refl }

  current-is : MadeOf (
      ltb (named_index t r) t.count
      ∷ eqb t.revision r.expected_revision
      ∷ is_expected t r
      ∷ eq_bytes r.attestation.cluster_instance t.cluster_instance
      ∷ eqb r.attestation.expected_incarnation (named_slot t r).member.identity.incarnation
      ∷ eq_bytes r.attestation.old_descriptor_digest (named_slot t r).member.descriptor_digest
      ∷ []) (is_current t r)
  unfolding all_true is_current
  current-is = record { is = refl }

  supersedes-of : open_check t r cut ≡ Accepted → t.has_replacement ≡ true → Supersedes t r cut
  unfolding open_check
  supersedes-of h e =
      let a = chosen-not (not (eqb t.replacement.attestation.slot r.attestation.slot)) ReplacementInProgress
      (cond (leb fenced t.replacement.phase) ReplacementPastFence (cond (leb cut.index t.replacement.evidence.prepare.index) InvalidTransition Accepted)) refl
      (sym (cond-false (not t.has_replacement) Accepted _ (ap not e)) ∙ h) in
      let b = chosen-not (leb fenced t.replacement.phase) ReplacementPastFence (cond (leb cut.index t.replacement.evidence.prepare.index) InvalidTransition Accepted) refl a.1 in
      let c = chosen-not (leb cut.index t.replacement.evidence.prepare.index) InvalidTransition Accepted refl b.1 in
      record {
        slot = eqb-true _ _ (not-false _ a.0);
        phase = leb-false _ _ b.0;
        later = leb-false _ _ c.0;
      }

  pub starts : begin_check t r cut ≡ Accepted → Starts t r cut
  unfolding begin_check request_check candidate_check full_check
  starts h =
      let a = both-accepted (open_check t r cut) _ h in
      let b = both-accepted (request_check r) _ a.1 in
      let c = both-accepted (stale_check t r) _ b.1 in
      let d = both-accepted (candidate_check t r) (full_check t) c.1 in
      let q = (chosen (valid_request r && eq_bytes r.supplied_request_digest r.attestation.request_digest) Accepted InvalidLossEvidence refl b.0).0 in
      let e = says request-is (and_left (valid_request r) _ q) in
      let f = says current-is (chosen (is_current t r) Accepted StaleIncarnation refl c.0).0 in
      let g = chosen (leb 3 t.count) _ NoSurvivingQuorum refl d.0 in
      let k = (chosen (ltb (named_slot t r).member.admission_generation r.candidate.admission_generation && not (eq_bytes r.candidate.key_digest (named_slot t r).member.key_digest)) Accepted InvalidLossEvidence refl g.1).0 in
      let m = chosen-not (eqb (current_configuration t).epoch full) ConfigurationEpochExhausted (cond (eqb t.revision full) RevisionExhausted Accepted) refl d.1 in
      let n = chosen-not (eqb t.revision full) RevisionExhausted Accepted refl m.1 in
      let l : named_index t r < t.count = ltb-true _ _ f.0 in
      record {
        supersedes = supersedes-of a.0;
        attestation = e.0;
        revision-some = ltb-true _ _ e.1.0;
        slot = eqb-true _ _ e.1.1.1.0;
        next = eqb-true _ _ e.1.1.1.1.0;
        key = e.1.1.1.1.1.0;
        admitted = eqb-true _ _ e.1.1.1.1.1.1;
        index = l;
        named = eqb-true _ _ (first-at (λ i. eqb (slot_at t i).member.identity.slot r.attestation.slot) t.count 0 (omega arith));
        revision = eqb-true _ _ f.1.0;
        cluster = f.1.1.1.0;
        expected = eqb-true _ _ f.1.1.1.1.0;
        descriptor = eq_bytes-true _ _ f.1.1.1.1.1;
        three = leb-true _ _ g.0;
        generation = ltb-true _ _ (and_left (ltb (named_slot t r).member.admission_generation r.candidate.admission_generation) _ k);
        epoch-room = eqb-false _ _ m.0;
        revision-room = eqb-false _ _ n.0;
      }

-- ---- an id that no request of the table has

or-fails : (b c : Bool) → (b || c) ≡ false → (b ≡ false) × (c ≡ false)
or-fails true c h = absurd (false≢true (sym h))
or-fails false c h = (refl, h)

and-fails : (b c : Bool) → (b && c) ≡ false → b ≡ true → c ≡ true → ⊥
and-fails true c h e k = false≢true (sym h ∙ k)
and-fails false c h e k = false≢true e

module _ (t : VoterSlotTable) (id : List ℕ) (fresh : is_known t id ≡ false) where
  pub fresh-open : t.has_replacement ≡ true → t.replacement.attestation.request_id ≡ id → ⊥
  unfolding is_open_request
  fresh-open e k =
      and-fails t.has_replacement _ (or-fails (is_open_request t id) _ fresh).0 e (same_bytes _ _ k)

  pub fresh-slot : (i : ℕ) → i < t.count → Other id (slot_at t i)
  unfolding receipt_index
  fresh-slot i l a e =
      let p : ℕ → Bool = λ i. (slot_at t i).has_last_result && eq_bytes (slot_at t i).last_result.request_id id in
      let n : t.count ≤ first_from p t.count 0 = ltb-false _ _ (or-fails (is_open_request t id) _ fresh).1 in
      and-fails (slot_at t i).has_last_result _ (first_absent p t.count 0 i (omega arith) (omega arith) (omega arith)) a (same_bytes _ _ e)

-- ---- the slot and the configuration that a Begin makes, by what was open

abbrev pub superseding_slot : VoterSlotTable → VoterReplacementRequest → VoterSlotLogId → VoterSlotRecord
superseding_slot t r cut = slot_with r.candidate r.attestation.expected_incarnation pending true (receipt_of t (named_slot t r) superseded cut)

abbrev pub idle_slot : VoterSlotTable → VoterReplacementRequest → VoterSlotRecord
idle_slot t r =
    slot_with r.candidate r.attestation.expected_incarnation pending (named_slot t r).has_last_result (named_slot t r).last_result

abbrev pub idle_configuration : VoterSlotTable → VoterConfiguration
idle_configuration t = record { epoch = t.configuration_epoch; members = map (λ s. s.member) t.slots; count = t.count }

module _ (t : VoterSlotTable) (r : VoterReplacementRequest) (cut : VoterSlotLogId) (s : Starts t r cut) where
  pub begun-cases : (P : VoterSlotRecord → VoterConfiguration → Type 0)
      → (t.has_replacement ≡ true → P (superseding_slot t r cut) t.replacement.predecessor)
      → (t.has_replacement ≡ false → P (idle_slot t r) (idle_configuration t))
      → P (begun_slot t r cut) (current_configuration t)
  unfolding begun_slot current_configuration
  begun-cases P h k = go t.has_replacement refl
    where
      go : (b : Bool) → t.has_replacement ≡ b
          → P (slot_with r.candidate r.attestation.expected_incarnation pending (b || (named_slot t r).has_last_result)
          (cond b (receipt_of t (named_slot t r) superseded cut) (named_slot t r).last_result))
          (cond (b && ltb t.replacement.phase uniform) t.replacement.predecessor (idle_configuration t))
      go true e =
          let l = (s.supersedes e).phase in
          subst (P (superseding_slot t r cut)) (sym (cond-true (ltb t.replacement.phase uniform) _ _ (lt-ltb t.replacement.phase uniform (omega arith)))) (h e)
      go false e = k e
