-- The tests of Blank miss no field: one that holds is a path, and each value is the same as itself.
-- Each name here is a step of a proof; what is right is said in Blank.
-- Assumes nothing.
use Rattle.std.specs.Prelude.{refl, ◌≡◌, true}
use Rattle.std.proofs.Common.{eqb-true, eq-eqb}
use Rattle.identity.specs.declared.identity.ConsensusIdentity.{ConsensusIdentity}
use Rattle.records.specs.EqualityLaws.{eq_bytes-true, same_voter_slot_log_id-true, same_voter_slot_log_id-refl, same_voter_slot_member-true, same_voter_slot_member-refl, same_voter_snapshot_evidence-true, same_voter_snapshot_evidence-refl, same_lost_voter_attestation_v1-true, same_lost_voter_attestation_v1-refl}
use Rattle.records.specs.TestLaws.{each, passed, same_bytes}
use Rattle.control.specs.declared.control.VoterReplacementRequest.{VoterReplacementRequest}
use Rattle.control.specs.declared.control.VoterReplacementStep.{VoterReplacementStep}
use Rattle.control.specs.Blank.{same_consensus_identity, same_voter_replacement_request, same_voter_replacement_step}

pub same_consensus_identity-true : (a b : ConsensusIdentity) → same_consensus_identity a b ≡ true → a ≡ b
unfolding same_consensus_identity
same_consensus_identity-true a b h =
    let e = each _ h in
    let e0 : a.cluster_id ≡ b.cluster_id = eq_bytes-true _ _ e.0 in
    let e1 : a.configuration_id ≡ b.configuration_id = eq_bytes-true _ _ e.1.0 in
    let e2 : a.configuration_epoch ≡ b.configuration_epoch = eqb-true _ _ e.1.1 in
    λ i. record { cluster_id = e0 i; configuration_id = e1 i; configuration_epoch = e2 i }

pub same_consensus_identity-refl : (a : ConsensusIdentity) → same_consensus_identity a a ≡ true
unfolding same_consensus_identity
same_consensus_identity-refl a = passed _ (same_bytes a.cluster_id _ refl, (same_bytes a.configuration_id _ refl, eq-eqb a.configuration_epoch _ refl))

pub same_voter_replacement_request-true : (a b : VoterReplacementRequest) → same_voter_replacement_request a b ≡ true → a ≡ b
unfolding same_voter_replacement_request
same_voter_replacement_request-true a b h =
    let e = each _ h in
    let e0 : a.expected_revision ≡ b.expected_revision = eqb-true _ _ e.0 in
    let e1 : a.expected_configuration ≡ b.expected_configuration = same_consensus_identity-true _ _ e.1.0 in
    let e2 : a.candidate ≡ b.candidate = same_voter_slot_member-true _ _ e.1.1.0 in
    let e3 : a.attestation ≡ b.attestation = same_lost_voter_attestation_v1-true _ _ e.1.1.1.0 in
    let e4 : a.supplied_request_digest ≡ b.supplied_request_digest = eq_bytes-true _ _ e.1.1.1.1.0 in
    let e5 : a.supplied_configuration_id ≡ b.supplied_configuration_id = eq_bytes-true _ _ e.1.1.1.1.1 in
    λ i. record {
      expected_revision = e0 i;
      expected_configuration = e1 i;
      candidate = e2 i;
      attestation = e3 i;
      supplied_request_digest = e4 i;
      supplied_configuration_id = e5 i;
    }

pub same_voter_replacement_request-refl : (a : VoterReplacementRequest) → same_voter_replacement_request a a ≡ true
unfolding same_voter_replacement_request
same_voter_replacement_request-refl a =
    passed _ (
      eq-eqb a.expected_revision _ refl,
      (same_consensus_identity-refl _, (same_voter_slot_member-refl _, (same_lost_voter_attestation_v1-refl _, (same_bytes a.supplied_request_digest _ refl, same_bytes a.supplied_configuration_id _ refl)))),
    )

pub same_voter_replacement_step-true : (a b : VoterReplacementStep) → same_voter_replacement_step a b ≡ true → a ≡ b
unfolding same_voter_replacement_step
same_voter_replacement_step-true a b h =
    let e = each _ h in
    let e0 : a.kind ≡ b.kind = eqb-true _ _ e.0 in
    let e1 : a.snapshot ≡ b.snapshot = same_voter_snapshot_evidence-true _ _ e.1.0 in
    let e2 : a.caught_up ≡ b.caught_up = same_voter_slot_log_id-true _ _ e.1.1 in
    λ i. record { kind = e0 i; snapshot = e1 i; caught_up = e2 i }

pub same_voter_replacement_step-refl : (a : VoterReplacementStep) → same_voter_replacement_step a a ≡ true
unfolding same_voter_replacement_step
same_voter_replacement_step-refl a = passed _ (eq-eqb a.kind _ refl, (same_voter_snapshot_evidence-refl _, same_voter_slot_log_id-refl _))
