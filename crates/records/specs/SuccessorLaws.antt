-- Laws of validity and of the successor check, for the layers above: what a valid table has, and
-- what a table that may follow another keeps.
-- The check is reflexive on valid tables, and not transitive: a request's id may be used again once
-- its receipt was replaced by a later one, and the check of the first table, where the old request
-- is open, against the third, where the new one of that id is, compares the two. What it keeps of
-- installation, revision, epoch and slots is transitive.
-- Assumes nothing.
use Rattle.std.specs.Prelude.{ℕ, ◌+◌, ◌-◌, ◌%◌, ◌<◌, ◌≤◌, refl, ◌≡◌, Bool, true, false, eqb}
use Rattle.std.proofs.Common.{sym, subst, inl, le_refl, eqb-true, leb-true, ltb-true, eq-eqb, le-leb}
use Rattle.std.proofs.lemmas.Bool.{eqb-false}
use Rattle.identity.specs.Answer.{Accepted, Regression}
use Rattle.records.specs.declared.records.VoterSlotRecord.{VoterSlotRecord}
use Rattle.records.specs.declared.records.VoterReplacementRecord.{VoterReplacementRecord}
use Rattle.records.specs.declared.records.VoterSlotTable.{VoterSlotTable}
use Rattle.records.specs.Equality.{eq_bytes}
use Rattle.records.specs.EqualityLaws.{eq_bytes-true, eq_bytes-refl}
use Rattle.records.specs.EvidenceLaws.{Kept, retains-caught-up}
use Rattle.records.specs.Records.{max_fixed_voter_slots, slot_at}
use Rattle.records.specs.Successor.{slot_succeeds, request_succeeds, or_regression, replacement_succeeds, validate_successor_of}
use Rattle.records.specs.SuccessorParts.{slot-succeeds-is, request-succeeds-is, head-succeeds-is, SuccessionHolds, succession-holds, succession-accepted, check-holds, check-accepted}
use Rattle.records.specs.TestLaws.{says, passes, chosen}
use Rattle.records.specs.Validation.{validate}
use Rattle.records.specs.ValidParts.{count-is, valid-slots-hold, valid-parts}

-- ---- what a valid table has

-- "odd count, 1 to 9, slot numbers strictly rising"
pub record Slots (t : VoterSlotTable) : Type 0 where
  pub some : 0 < t.count
  pub few : t.count ≤ max_fixed_voter_slots
  pub odd : t.count % 2 ≡ 1
  pub rise : (i : ℕ) → i < t.count - 1 → (slot_at t i).member.identity.slot < (slot_at t (i + 1)).member.identity.slot
  pub revision : 0 < t.revision

pub valid-slots : (t : VoterSlotTable) → validate t ≡ Accepted → Slots t
valid-slots t h =
    let s = valid-slots-hold t (valid-parts t h).1 in
    let c = says (count-is t.count) s.odd in
    record {
      some = ltb-true 0 t.count c.0;
      few = leb-true t.count max_fixed_voter_slots c.1.0;
      odd = eqb-true (t.count % 2) 1 c.1.1;
      rise = s.rise;
      revision = s.revision;
    }

-- ---- what a table that may follow another keeps

-- One slot: its number, and what never falls.
pub record SlotKept (new old : VoterSlotRecord) : Type 0 where
  pub slot : new.member.identity.slot ≡ old.member.identity.slot
  pub retired : old.retired_through ≤ new.retired_through
  pub incarnation : old.member.identity.incarnation ≤ new.member.identity.incarnation

-- The request that is open in both: its phase, and its caught-up mark.
pub record RequestKept (new old : VoterReplacementRecord) : Type 0 where
  pub phase : old.phase ≤ new.phase
  pub marker : old.evidence.caught_up.is_some ≡ true → Kept new.evidence.caught_up old.evidence.caught_up

pub record Keeps (new old : VoterSlotTable) : Type 0 where
  pub cluster : new.cluster_instance ≡ old.cluster_instance
  pub manifest : new.manifest_digest ≡ old.manifest_digest
  pub revision : old.revision ≤ new.revision
  pub epoch : old.configuration_epoch ≤ new.configuration_epoch
  pub count : new.count ≡ old.count
  pub slots : (i : ℕ) → i < new.count → SlotKept (slot_at new i) (slot_at old i)
  pub request : old.has_replacement ≡ true → new.has_replacement ≡ true
      → new.replacement.attestation.request_id ≡ old.replacement.attestation.request_id → RequestKept new.replacement old.replacement

keeps-itself : (t : VoterSlotTable) → Keeps t t
keeps-itself t =
    record {
      cluster = refl;
      manifest = refl;
      revision = le_refl _;
      epoch = le_refl _;
      count = refl;
      slots = λ i l. record { slot = refl; retired = le_refl _; incarnation = le_refl _ };
      request = λ o n e. record { phase = le_refl _; marker = λ m. (m, inl refl) };
    }

slot_kept : (new old : VoterSlotRecord) → slot_succeeds new old ≡ true → SlotKept new old
slot_kept new old h =
    let e = says (slot-succeeds-is new old) h in
    record { slot = eqb-true _ _ e.0; retired = leb-true _ _ e.1.0; incarnation = leb-true _ _ e.1.1.0 }

request-kept : (new old : VoterReplacementRecord) → request_succeeds new old ≡ true → RequestKept new old
request-kept new old h =
    let e = (says (request-succeeds-is new old) h).1.1.1.1 in
    record { phase = leb-true _ _ e.0; marker = λ m. retains-caught-up new.evidence old.evidence old.phase e.1 m }

-- The replacement's part, where the same request is open in both.
same-request : (new old : VoterSlotTable) → replacement_succeeds new old ≡ Accepted → old.has_replacement ≡ true → new.has_replacement ≡ true
    → new.replacement.attestation.request_id ≡ old.replacement.attestation.request_id → request_succeeds new.replacement old.replacement ≡ true
unfolding replacement_succeeds
same-request new old h o n e =
    let i : eq_bytes new.replacement.attestation.request_id old.replacement.attestation.request_id ≡ true = rw e (eq_bytes-refl old.replacement.attestation.request_id) in
    let k : or_regression (request_succeeds new.replacement old.replacement) Accepted ≡ Accepted = rw (o, n, i) at h in
    (chosen (request_succeeds new.replacement old.replacement) Accepted Regression refl k).0

-- Tables of different revisions.
keeps-later : (new old : VoterSlotTable) → SuccessionHolds new old → (new.revision ≡ old.revision → ⊥) → Keeps new old
keeps-later new old h d =
    let e = says (head-succeeds-is new old) h.head in
    record {
      cluster = eq_bytes-true _ _ e.0;
      manifest = eq_bytes-true _ _ e.1.0;
      revision = leb-true _ _ e.1.1.0;
      epoch = leb-true _ _ e.1.1.1.0;
      count = eqb-true _ _ e.1.1.1.1;
      slots = λ i l. slot_kept (slot_at new i) (slot_at old i) (h.slots d i l);
      request = λ o n e. request-kept new.replacement old.replacement (same-request new old (h.replacement d) o n e);
    }

succession-keeps : (new old : VoterSlotTable) → SuccessionHolds new old → Keeps new old
succession-keeps new old h = by (eqb new.revision old.revision) refl
  where
    by : (t : Bool) → eqb new.revision old.revision ≡ t → Keeps new old
    by true e = subst (λ (t : VoterSlotTable). Keeps t old) (sym (h.same (eqb-true _ _ e))) (keeps-itself old)
    by false e = keeps-later new old h (eqb-false _ _ e)

-- ---- the successor check

pub record Succeeds (new old : VoterSlotTable) : Type 0 where
  pub new-valid : validate new ≡ Accepted
  pub old-valid : validate old ≡ Accepted
  pub keeps : Keeps new old

pub successor : (new old : VoterSlotTable) → validate_successor_of new old ≡ Accepted → Succeeds new old
successor new old h =
    let e = check-holds new old h in
    record { new-valid = e.new-valid; old-valid = e.old-valid; keeps = succession-keeps new old (succession-holds new old e.follows) }

-- A valid table may follow itself.
pub successor-itself : (t : VoterSlotTable) → validate t ≡ Accepted → validate_successor_of t t ≡ Accepted
successor-itself t v = check-accepted t t (record { new-valid = v; old-valid = v; follows = succession-accepted t t follows })
  where
    follows : SuccessionHolds t t
    follows =
        record {
          head =
              passes (head-succeeds-is t t) (
                eq_bytes-refl t.cluster_instance,
                (eq_bytes-refl t.manifest_digest, (le-leb _ _ (le_refl t.revision), (le-leb _ _ (le_refl t.configuration_epoch), eq-eqb t.count _ refl))),
              );
          same = λ r. refl;
          slots = λ d. absurd (d refl);
          replacement = λ d. absurd (d refl);
        }
