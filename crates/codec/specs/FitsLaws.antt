-- A table that passes the representability check has lengths and counts that fit their fields
-- (`TableFits`), an absent part too, which is blank.
-- Each name here is a step of a proof; what is right is said in Representable and Parts.
-- Assumes nothing.
use Rattle.std.specs.Prelude.{ℕ, ◌≤◌, ◌≡◌, Bool, true, false, cond, List}
use Rattle.std.proofs.Common.{zero-le, sym, subst, leb-true}
use Rattle.records.specs.Blank.{blank_spiffe_id, blank_snapshot_id, blank_voter_snapshot_evidence, blank_voter_configuration, blank_lost_voter_attestation_v1, blank_voter_replacement_evidence, blank_voter_replacement_record}
use Rattle.records.specs.Equality.{same_voter_snapshot_evidence, same_voter_replacement_record}
use Rattle.records.specs.EqualityLaws.{same_voter_snapshot_evidence-true, same_voter_replacement_record-true}
use Rattle.records.specs.Representable.{is_text, representable_snapshot_id, representable_configuration, representable_attestation, representable_evidence, representable_replacement, representable}
use Rattle.records.specs.RepresentableLaws.{representable-count}
use Rattle.records.specs.declared.records.VoterSnapshotEvidence.{VoterSnapshotEvidence}
use Rattle.records.specs.declared.records.VoterConfiguration.{VoterConfiguration}
use Rattle.records.specs.declared.records.LostVoterAttestationV1.{LostVoterAttestationV1}
use Rattle.records.specs.declared.records.VoterReplacementEvidence.{VoterReplacementEvidence}
use Rattle.records.specs.declared.records.VoterReplacementRecord.{VoterReplacementRecord}
use Rattle.records.specs.declared.records.VoterSlotTable.{VoterSlotTable}
use Rattle.layout.specs.Parts.{ReplacementFits, TableFits}
use Rattle.records.specs.RepresentableParts.{text-is, configuration-is, attestation-is, evidence-is, replacement-is, table_is}
use Rattle.records.specs.TestLaws.{says}

-- a text is no longer than its place
pub text-fits : (most len : ℕ) (bytes : List ℕ) → is_text most len bytes ≡ true → len ≤ most
text-fits most len bytes h = leb-true len most (says (text-is most len bytes) h).0

-- a part that is there passes its test, and one that is absent is the blank: what holds of both
-- holds of the part
part_by : {A : Type 0} (P : A → Type 0) (test same : A → Bool) (blank : A) → ((a : A) → test a ≡ true → P a) → ((a : A) → same a ≡ true → a ≡ blank) → P blank
    → (b : Bool) (a : A) → cond b (test a) (same a) ≡ true → P a
part_by P test same blank f e z true a h = f a h
part_by P test same blank f e z false a h = subst P (sym (e a h)) z

-- a configuration has no more than nine members
pub configuration-count : (c : VoterConfiguration) → representable_configuration c ≡ true → c.count ≤ 9
configuration-count c h = leb-true c.count 9 (says (configuration-is c) h).1.0

blank-snapshot : blank_voter_snapshot_evidence.snapshot_id.len ≤ 256
unfolding blank_voter_snapshot_evidence blank_snapshot_id
blank-snapshot = zero-le

-- a snapshot's name, of one that is there or of the blank
pub snapshot-fits : (e : VoterReplacementEvidence) → representable_evidence e ≡ true → e.snapshot.snapshot_id.len ≤ 256
snapshot-fits e h =
    part_by (λ (s : VoterSnapshotEvidence). s.snapshot_id.len ≤ 256)
    (λ s. representable_snapshot_id s.snapshot_id)
    (λ s. same_voter_snapshot_evidence s blank_voter_snapshot_evidence)
    blank_voter_snapshot_evidence
    (λ s k. text-fits 256 s.snapshot_id.len s.snapshot_id.bytes k)
    (λ s k. same_voter_snapshot_evidence-true s blank_voter_snapshot_evidence k)
    blank-snapshot
    e.has_snapshot
    e.snapshot
    (says (evidence-is e) h).0

-- both names of an attestation
pub attestation-fits : (a : LostVoterAttestationV1) → representable_attestation a ≡ true → (a.candidate_spiffe_id.len ≤ 2048) × (a.controller_spiffe_id.len ≤ 2048)
attestation-fits a h =
    let s = says (attestation-is a) h in (
      text-fits 2048 a.candidate_spiffe_id.len a.candidate_spiffe_id.bytes s.1.1.0,
      text-fits 2048 a.controller_spiffe_id.len a.controller_spiffe_id.bytes s.1.1.1.0,
    )

-- an open request that passes the test fits
pub replacement-fits : (r : VoterReplacementRecord) → representable_replacement r ≡ true → ReplacementFits r
replacement-fits r h =
    let s = says (replacement-is r) h in
    let a = attestation-fits r.attestation s.0 in
    record {
      candidate = a.0;
      controller = a.1;
      predecessor = configuration-count r.predecessor s.1.0;
      successor = configuration-count r.successor s.1.1.0;
      snapshot = snapshot-fits r.evidence s.1.1.1.1;
    }

blank-fits : ReplacementFits blank_voter_replacement_record
unfolding blank_voter_replacement_record blank_lost_voter_attestation_v1 blank_voter_configuration blank_voter_replacement_evidence blank_spiffe_id blank_voter_snapshot_evidence blank_snapshot_id
blank-fits = record { candidate = zero-le; controller = zero-le; predecessor = zero-le; successor = zero-le; snapshot = zero-le }

-- A table that passes the representability check fits.
pub table_fits : (t : VoterSlotTable) → representable t ≡ true → TableFits t
table_fits t h =
    record {
      count = representable-count t h;
      replacement =
          part_by ReplacementFits representable_replacement
          (λ r. same_voter_replacement_record r blank_voter_replacement_record)
          blank_voter_replacement_record
          replacement-fits
          (λ r k. same_voter_replacement_record-true r blank_voter_replacement_record k)
          blank-fits
          t.has_replacement
          t.replacement
          (says (table_is t) h).1.1.1;
    }
