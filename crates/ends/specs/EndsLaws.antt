-- Both bounds of a table's size are met: `smallest` and `largest` are tables that the types hold,
-- valid, of 180 and of 8072 bytes.
-- Each other name here is a step of a proof; the tables are in Ends.
-- Assumes nothing.
use Rattle.std.specs.Prelude.{ℕ, ◌<◌, ◌≡◌, refl, ◌∷◌, length, replicate}
use Rattle.std.proofs.Common.{arith, ◌∙◌, lit<}
use Rattle.identity.specs.Text.{scheme, is_in, starts_with, is_name, is_snapshot_id, is_utf8, every}
use Rattle.identity.specs.Utf8.{fits, width_in, decoded_char, chars_from, all_chars}
use Rattle.identity.specs.Answer.{Accepted}
use Rattle.records.specs.Blank.{blank_voter_slot_identity, blank_spiffe_id, blank_snapshot_id, blank_voter_slot_log_id, blank_optional_log_id, blank_voter_slot_member, blank_voter_replacement_result, blank_voter_slot_record, blank_voter_snapshot_evidence, blank_voter_configuration, blank_lost_voter_attestation_v1, blank_voter_replacement_evidence, blank_voter_replacement_record}
use Rattle.records.specs.Equality.{all_true, eq_list, same_voter_slot_identity, same_spiffe_id, same_snapshot_id, same_voter_slot_log_id, same_optional_log_id, same_voter_slot_member, same_voter_replacement_result, same_voter_slot_record, same_voter_snapshot_evidence, same_voter_configuration, same_lost_voter_attestation_v1, same_voter_replacement_evidence, same_voter_replacement_record}
use Rattle.records.specs.Evidence.{follows, valid_stage, stage_or, valid_stages, in_order, valid_continuation, valid_evidence}
use Rattle.records.specs.Held.{AllOf, HeldArray, Byte, HeldBytes, HeldSpiffeId, HeldOptionalLogId, HeldVoterSlotMember, HeldVoterReplacementResult, HeldVoterSlotRecord, HeldVoterConfiguration, HeldLostVoterAttestationV1, HeldVoterReplacementEvidence, HeldVoterSlotTable}
use Rattle.records.specs.HeldParts.{all_replicate, held-replicate, all_append, zeros-held, blank-result-held, blank-slot-held, blank-replacement-held}
use Rattle.records.specs.Records.{all_below}
use Rattle.records.specs.Representable.{is_text, representable_optional_log_id, representable_member, representable_result, representable_slot_record, representable_configuration, representable_attestation, representable_evidence, representable_replacement, representable}
use Rattle.records.specs.Validation.{valid_configuration, valid_attestation, valid_result, valid_slot, valid_slots, valid_operation_head, is_current_epoch, valid_operation, retired_member, valid_target, validate_member, validate_members, validate_operation, validity, validate}
use Rattle.records.specs.ValidParts.{valid-parts}
use Rattle.codec.specs.Codec.{table_bytes}
use Rattle.writer.specs.Size.{slots_size, evidence_size, replacement_size, table_size}
use Rattle.codec.specs.FitsLaws.{table_fits}
use Rattle.writer.specs.SizeLaws.{table-long}
use Rattle.ends.specs.Ends.{member_of_slot, smallest, others, receipt_in, slot_with_receipt, nine_members, long_name, long_attestation, present_index, long_evidence, largest}
use Rattle.records.specs.declared.records.VoterSlotTable.{VoterSlotTable}

pub smallest-valid : validate smallest ≡ Accepted
unfolding smallest is_in starts_with is_name fits width_in decoded_char chars_from all_chars all_true same_voter_slot_identity same_spiffe_id same_snapshot_id same_voter_slot_log_id same_optional_log_id same_voter_slot_member same_voter_replacement_result same_voter_slot_record same_voter_snapshot_evidence same_voter_configuration same_lost_voter_attestation_v1 same_voter_replacement_evidence same_voter_replacement_record blank_voter_slot_identity blank_spiffe_id blank_snapshot_id blank_voter_slot_log_id blank_optional_log_id blank_voter_slot_member blank_voter_replacement_result blank_voter_slot_record blank_voter_snapshot_evidence blank_voter_configuration blank_lost_voter_attestation_v1 blank_voter_replacement_evidence blank_voter_replacement_record all_below representable_member representable_result representable_slot_record representable valid_result valid_slot valid_slots validity validate
smallest-valid = refl

pub largest-valid : validate largest ≡ Accepted
unfolding largest is_text is_in starts_with is_name is_snapshot_id is_utf8 every fits width_in decoded_char chars_from all_chars all_true same_voter_slot_identity same_voter_slot_log_id same_voter_slot_member all_below representable_optional_log_id representable_member representable_result representable_slot_record representable_configuration representable_attestation representable_evidence representable_replacement representable follows valid_stage stage_or valid_stages in_order valid_continuation valid_evidence valid_configuration valid_attestation valid_result valid_slot valid_slots valid_operation_head is_current_epoch valid_operation retired_member valid_target validate_member validate_members validate_operation validity validate
largest-valid = refl

-- ---- what the types hold

-- one byte, so many times
held_bytes : (n b : ℕ) → b < 256 → HeldBytes n (replicate n b)
held_bytes n b h = held-replicate Byte n b h

module _ (own slot : ℕ) (o : own < 10) (s : slot < 10) where
  member-held : HeldVoterSlotMember (member_of_slot own slot)
  member-held =
      record {
        identity = record { slot = omega arith; incarnation = omega arith };
        key_digest = held_bytes 32 slot (omega arith);
        descriptor_digest = held_bytes 32 slot (omega arith);
        admission_generation = omega arith;
      }

  receipt-held : HeldVoterReplacementResult (receipt_in slot)
  receipt-held =
      record {
        request_id = held_bytes 16 slot (omega arith);
        request_digest = held_bytes 32 slot (omega arith);
        incarnation = lit< tt;
        revision = lit< tt;
        configuration_epoch = lit< tt;
        kind = lit< tt;
        terminal = record { term = lit< tt; index = lit< tt };
      }

  slot_held : HeldVoterSlotRecord (slot_with_receipt own slot)
  slot_held = record { member = member-held; retired_through = omega arith; phase = lit< tt; last_result = receipt-held }

-- of slot 1 and of the others
nine-held : {A : Type 0} (P : A → Type 0) (f : ℕ → ℕ → A) (own : ℕ) → own < 10 → ((o s : ℕ) → o < 10 → s < 10 → P (f o s)) → HeldArray P 9 (f own 1 ∷ others (f 2))
nine-held P f own o h =
    let k : (s : ℕ) → s < 10 → P (f 2 s) = λ s. h 2 s (lit< tt) in
    record {
      count = refl;
      each = (h own 1 o (lit< tt), (k 2 (lit< tt), (k 3 (lit< tt), (k 4 (lit< tt), (k 5 (lit< tt), (k 6 (lit< tt), (k 7 (lit< tt), (k 8 (lit< tt), (k 9 (lit< tt), tt)))))))));
    }

configuration-held : (epoch own : ℕ) → epoch < 10 → own < 10 → HeldVoterConfiguration (nine_members epoch own)
configuration-held epoch own e o = record { epoch = omega arith; members = nine-held HeldVoterSlotMember member_of_slot own o member-held; count = lit< tt }

scheme-held : AllOf Byte scheme
scheme-held = (lit< tt, (lit< tt, (lit< tt, (lit< tt, (lit< tt, (lit< tt, (lit< tt, (lit< tt, (lit< tt, tt)))))))))

name-held : HeldSpiffeId long_name
name-held = record { len = lit< tt; bytes = record { count = refl; each = all_append Byte scheme (replicate 2039 97) scheme-held (all_replicate Byte 2039 97 (lit< tt)) } }

attestation-held : HeldLostVoterAttestationV1 long_attestation
attestation-held =
    record {
      request_id = zeros-held 16;
      request_digest = zeros-held 32;
      cluster_instance = zeros-held 32;
      slot = lit< tt;
      expected_incarnation = lit< tt;
      old_descriptor_digest = held_bytes 32 1 (lit< tt);
      candidate_key_digest = held_bytes 32 1 (lit< tt);
      admission_generation = lit< tt;
      candidate_spiffe_id = name-held;
      controller_spiffe_id = name-held;
      signing_key_digest = zeros-held 32;
      reason = lit< tt;
      policy_digest = zeros-held 32;
      observation_start_ms = lit< tt;
      decision_ms = lit< tt;
      issued_ms = lit< tt;
      expires_ms = lit< tt;
      signature = zeros-held 64;
    }

present-held : (index : ℕ) → index < 10 → HeldOptionalLogId (present_index index)
present-held index h = record { cut = record { term = lit< tt; index = omega arith } }

evidence-held : HeldVoterReplacementEvidence long_evidence
evidence-held =
    record {
      prepare = record { term = lit< tt; index = lit< tt };
      snapshot =
          record { cut = record { term = lit< tt; index = lit< tt }; snapshot_id = record { len = lit< tt; bytes = held_bytes 256 97 (lit< tt) }; digest = zeros-held 32 };
      learner = present-held 3 (lit< tt);
      caught_up = present-held 4 (lit< tt);
      continuation = present-held 5 (lit< tt);
      fence = present-held 6 (lit< tt);
      joint = present-held 7 (lit< tt);
      uniform = present-held 8 (lit< tt);
    }

-- ---- both ends

pub smallest-held : HeldVoterSlotTable smallest
unfolding smallest
smallest-held =
    record {
      cluster_instance = zeros-held 32;
      manifest_digest = zeros-held 32;
      revision = lit< tt;
      configuration_epoch = lit< tt;
      slots =
          record {
            count = refl;
            each = (
              record { member = member-held 1 1 (lit< tt) (lit< tt); retired_through = lit< tt; phase = lit< tt; last_result = blank-result-held },
              all_replicate HeldVoterSlotRecord 8 blank_voter_slot_record blank-slot-held,
            );
          };
      count = lit< tt;
      replacement = blank-replacement-held;
    }

pub largest-held : HeldVoterSlotTable largest
unfolding largest
largest-held =
    record {
      cluster_instance = zeros-held 32;
      manifest_digest = zeros-held 32;
      revision = lit< tt;
      configuration_epoch = lit< tt;
      slots = nine-held HeldVoterSlotRecord slot_with_receipt 3 (lit< tt) slot_held;
      count = lit< tt;
      replacement =
          record {
            expected_revision = lit< tt;
            attestation = attestation-held;
            predecessor = configuration-held 1 2 (lit< tt) (lit< tt);
            successor = configuration-held 2 3 (lit< tt) (lit< tt);
            phase = lit< tt;
            evidence = evidence-held;
          };
    }

-- the bytes of a valid table are as many as its size
valid-long : (t : VoterSlotTable) → HeldVoterSlotTable t → validate t ≡ Accepted → length (table_bytes t) ≡ table_size t
unfolding table_bytes
valid-long t h v = table-long t h (table_fits t (valid-parts t v).0)

smallest-size : table_size smallest ≡ 180
unfolding table_size slots_size smallest
smallest-size = refl

largest_size : table_size largest ≡ 8072
unfolding table_size slots_size replacement_size evidence_size largest
largest_size = refl

-- The least that a valid table takes.
pub smallest-long : length (table_bytes smallest) ≡ 180
smallest-long = valid-long smallest smallest-held smallest-valid ∙ smallest-size

-- The most that a valid table takes.
pub largest-long : length (table_bytes largest) ≡ 8072
largest-long = valid-long largest largest-held largest-valid ∙ largest_size
