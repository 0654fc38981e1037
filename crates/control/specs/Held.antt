-- A command is of its types: each number fits, each array has its length. The code's types give
-- this; a theorem over all commands takes it as a premise, as `Held` of the records does for
-- tables. From the types of voter_slots/control.rs.
-- Assumes nothing.
use Rattle.std.specs.Prelude.{◌^◌, ◌<◌}
use Rattle.identity.specs.declared.identity.ConsensusIdentity.{ConsensusIdentity}
use Rattle.records.specs.Held.{HeldBytes, HeldVoterSlotLogId, HeldVoterSlotMember, HeldVoterSnapshotEvidence, HeldLostVoterAttestationV1}
use Rattle.control.specs.declared.control.VoterReplacementRequest.{VoterReplacementRequest}
use Rattle.control.specs.declared.control.VoterReplacementStep.{VoterReplacementStep}
use Rattle.control.specs.declared.control.VoterSlotControl.{VoterSlotControl}

-- the expected configuration of a request
pub record HeldConsensusIdentity (r : ConsensusIdentity) : Type 0 where
  pub cluster_id : HeldBytes 32 r.cluster_id
  pub configuration_id : HeldBytes 32 r.configuration_id
  pub configuration_epoch : r.configuration_epoch < 2 ^ 64

-- a request
pub record HeldVoterReplacementRequest (r : VoterReplacementRequest) : Type 0 where
  pub expected_revision : r.expected_revision < 2 ^ 64
  pub expected_configuration : HeldConsensusIdentity r.expected_configuration
  pub candidate : HeldVoterSlotMember r.candidate
  pub attestation : HeldLostVoterAttestationV1 r.attestation
  pub supplied_request_digest : HeldBytes 32 r.supplied_request_digest
  pub supplied_configuration_id : HeldBytes 32 r.supplied_configuration_id

-- a step
pub record HeldVoterReplacementStep (r : VoterReplacementStep) : Type 0 where
  pub kind : r.kind < 2 ^ 8
  pub snapshot : HeldVoterSnapshotEvidence r.snapshot
  pub caught_up : HeldVoterSlotLogId r.caught_up

-- a command
pub record HeldVoterSlotControl (r : VoterSlotControl) : Type 0 where
  pub kind : r.kind < 2 ^ 8
  pub request : HeldVoterReplacementRequest r.request
  pub request_id : HeldBytes 16 r.request_id
  pub request_digest : HeldBytes 32 r.request_digest
  pub step : HeldVoterReplacementStep r.step
