-- The blanks, and every table that a command makes, are of their types: each number fits, each
-- array has its length. (Every call keeps it: `call-valid` of HistoryLaws.)
-- Each name here is a step of a proof; what is right is said in Control.
-- Assumes nothing.
use Rattle.std.specs.Prelude.{ℕ, ◌+◌, ◌^◌, ◌<◌, true, ◌&&◌}
use Rattle.std.proofs.Math.Bool.{false}
use Rattle.std.proofs.Common.{arith}
use Rattle.std.proofs.Math.Dec.{ltb}
use Rattle.records.specs.declared.records.VoterSlotLogId.{VoterSlotLogId}
use Rattle.records.specs.declared.records.VoterSlotRecord.{VoterSlotRecord}
use Rattle.records.specs.declared.records.VoterReplacementEvidence.{VoterReplacementEvidence}
use Rattle.records.specs.declared.records.VoterSlotTable.{VoterSlotTable}
use Rattle.records.specs.Records.{uniform}
use Rattle.records.specs.Blank.{blank_voter_replacement_record}
use Rattle.records.specs.Held.{HeldArray, held-set, HeldVoterSlotLogId, HeldVoterReplacementResult, HeldVoterSlotRecord, HeldVoterConfiguration, HeldVoterReplacementEvidence, HeldVoterReplacementRecord, HeldVoterSlotTable}
use Rattle.records.specs.With.{operation_with}
use Rattle.records.specs.HeldParts.{zeros-held, blank-cut-held, blank-optional-held, blank-snapshot-held, blank-member-held, blank-attestation-held, blank-replacement-held, held-either, held-members, held-operation, held-table, held-slot}
use Rattle.control.specs.declared.control.VoterReplacementRequest.{VoterReplacementRequest}
use Rattle.control.specs.Control.{receipt_of, advanced, current_configuration, named_index, named_slot, begun_slot, begun_slots, begun_operation, begun, target_index, target_slot, finalized_slot, finalized}
use Rattle.control.specs.Blank.{blank_consensus_identity, blank_voter_replacement_request, blank_voter_replacement_step}
use Rattle.control.specs.Held.{HeldVoterReplacementRequest, HeldVoterReplacementStep}

-- ---- the blanks of a command

pub no-request : HeldVoterReplacementRequest blank_voter_replacement_request
unfolding blank_voter_replacement_request blank_consensus_identity
no-request =
    record {
      expected_revision = omega arith;
      expected_configuration = record { cluster_id = zeros-held 32; configuration_id = zeros-held 32; configuration_epoch = omega arith };
      candidate = blank-member-held;
      attestation = blank-attestation-held;
      supplied_request_digest = zeros-held 32;
      supplied_configuration_id = zeros-held 32;
    }

pub no_step : HeldVoterReplacementStep blank_voter_replacement_step
unfolding blank_voter_replacement_step
no_step = record { kind = omega arith; snapshot = blank-snapshot-held; caught_up = blank-cut-held }

-- ---- the tables

module _ (t : VoterSlotTable) (h : HeldVoterSlotTable t) where
  pub held-receipt : (s : VoterSlotRecord) → HeldVoterSlotRecord s → (kind : ℕ) → kind < 2 ^ 8 → (cut : VoterSlotLogId) → HeldVoterSlotLogId cut → t.revision + 1 < 2 ^ 64
      → HeldVoterReplacementResult (receipt_of t s kind cut)
  held-receipt s k kind p cut c r =
      record {
        request_id = h.replacement.attestation.request_id;
        request_digest = h.replacement.attestation.request_digest;
        incarnation = k.member.identity.incarnation;
        revision = r;
        configuration_epoch = h.configuration_epoch;
        kind = p;
        terminal = c;
      }

  held-current : HeldVoterConfiguration (current_configuration t)
  unfolding current_configuration
  held-current =
      held-either HeldVoterConfiguration (t.has_replacement && ltb t.replacement.phase uniform) t.replacement.predecessor _ h.replacement.predecessor
      (record { epoch = h.configuration_epoch; members = held-members t.slots h.slots; count = h.count })

  pub current-epoch : (current_configuration t).epoch < 2 ^ 64
  current-epoch = held-current.epoch

  -- ---- the tables that the commands make

  pub held-advanced : (phase : ℕ) → phase < 2 ^ 8 → (e : VoterReplacementEvidence) → HeldVoterReplacementEvidence e → t.revision + 1 < 2 ^ 64 → HeldVoterSlotTable (advanced t phase e)
  held-advanced phase p e k r =
      held-table t h (t.revision + 1) t.configuration_epoch t.slots true (operation_with t.replacement phase e) r h.configuration_epoch h.slots
      (held-operation t.replacement h.replacement phase p e k)

  module _ (cut : VoterSlotLogId) (c : HeldVoterSlotLogId cut) (r : t.revision + 1 < 2 ^ 64) where
    pub held-finalized : target_index t < 9 → HeldVoterSlotTable (finalized t cut)
    unfolding finalized_slot
    held-finalized l =
        let k = held-slot t h (target_index t) l in
        held-table t h (t.revision + 1) t.configuration_epoch _ false blank_voter_replacement_record r h.configuration_epoch
        (held-set HeldVoterSlotRecord 9 t.slots (target_index t) (finalized_slot t cut)
        (record { member = k.member; retired_through = k.retired_through; phase = k.phase; last_result = held-receipt (target_slot t) k 0 (omega arith) cut c r })
        h.slots)
        blank-replacement-held

    module _ (q : VoterReplacementRequest) (k : HeldVoterReplacementRequest q) (l : named_index t q < 9) where
      held-begun-slot : HeldVoterSlotRecord (begun_slot t q cut)
      unfolding begun_slot
      held-begun-slot =
          let o = held-slot t h (named_index t q) l in
          record {
            member = k.candidate;
            retired_through = k.attestation.expected_incarnation;
            phase = omega arith;
            last_result =
                held-either HeldVoterReplacementResult t.has_replacement _ (named_slot t q).last_result (held-receipt (named_slot t q) o 1 (omega arith) cut c r) o.last_result;
          }

      held-begun-slots : HeldArray HeldVoterSlotRecord 9 (begun_slots t q cut)
      held-begun-slots = held-set HeldVoterSlotRecord 9 t.slots (named_index t q) (begun_slot t q cut) held-begun-slot h.slots

      held-begun-operation : (current_configuration t).epoch + 1 < 2 ^ 64 → HeldVoterReplacementRecord (begun_operation t q cut)
      unfolding begun_operation
      held-begun-operation e =
          record {
            expected_revision = k.expected_revision;
            attestation = k.attestation;
            predecessor = held-current;
            successor = record { epoch = e; members = held-members (begun_slots t q cut) held-begun-slots; count = h.count };
            phase = omega arith;
            evidence =
                record {
                  prepare = c;
                  snapshot = blank-snapshot-held;
                  learner = blank-optional-held;
                  caught_up = blank-optional-held;
                  continuation = blank-optional-held;
                  fence = blank-optional-held;
                  joint = blank-optional-held;
                  uniform = blank-optional-held;
                };
          }

      pub held-begun : (current_configuration t).epoch + 1 < 2 ^ 64 → HeldVoterSlotTable (begun t q cut)
      held-begun e =
          held-table t h (t.revision + 1) t.configuration_epoch (begun_slots t q cut) true (begun_operation t q cut) r h.configuration_epoch held-begun-slots
          (held-begun-operation e)
