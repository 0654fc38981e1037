-- Each field is read from its own place: the records of Order are read from the bytes that the original Rust wrote of them.
-- Assumes nothing.
use Rattle.std.specs.Prelude.{ℕ, ◌≡◌, refl, true, List, [], ◌∷◌, ◌++◌, take, drop}
use Rattle.std.proofs.Common.{arith, ap, ◌∙◌}
use Rattle.identity.specs.Answer.{number_of, Accepted}
use Rattle.identity.specs.Identity.{validate_slot_id, validate_voter_incarnation}
use Rattle.identity.specs.Text.{is_in, starts_with, is_name, is_snapshot_id, is_utf8, every}
use Rattle.identity.specs.Utf8.{fits, width_in, decoded_char, chars_from, all_chars}
use Rattle.format.specs.Res.{and_then}
use Rattle.format.specs.Res.Res.{ok, no}
use Rattle.format.specs.Combinators.{dec_seq, dec_check, dec_map, dep-ok, map-ok, gate, dep, check, via, held, always}
use Rattle.format.specs.Num.{uint, raw, dec_uint, dec_raw, val, pick}
use Rattle.format.specs.List.{dec_vec, vec, padded, flag, flag_test, opt, opt-some, either}
use Rattle.format.specs.Through.{whole, boxed, boxed-ok}
use Rattle.records.specs.Blank.{blank_voter_slot_identity, blank_voter_slot_log_id, blank_voter_slot_member, blank_voter_replacement_result, blank_voter_slot_record, blank_voter_snapshot_evidence, blank_snapshot_id, blank_voter_replacement_record}
use Rattle.records.specs.Equality.{all_true, eq_list, same_voter_slot_identity, same_voter_slot_log_id, same_voter_slot_member}
use Rattle.records.specs.Evidence.{follows, valid_stage, stage_or, valid_stages, in_order, valid_continuation, valid_evidence}
use Rattle.records.specs.Records.{all_below}
use Rattle.records.specs.Validation.{valid_configuration, valid_attestation, valid_result, valid_slot, valid_slots, valid_operation_head, is_current_epoch, valid_operation, retired_member, valid_target, validate_member, validate_members, validate_operation, validity}
use Rattle.layout.specs.Layout.{max_attestation_bytes, table, magic_and_version, head_test, table_head, epoch, slot_count, slots, slot, slot_member, identity, slot_id, incarnation, log_id, optional_log_id, sized, string, spiffe_id, snapshot_id, binding, member, members, configuration, choice, result_head, replacement_result, version, claims_request, claims_slot, claims_names, times, claims_end, claims, attestation, snapshot, three_cuts, evidence, change, replacement}
use Rattle.layout.specs.Parts.{table_of, replacement_of, table_head_of, change_of}
use Rattle.codec.specs.Codec.{decode_voter_slot_table, decode_lost_voter_attestation, bounded}
use Rattle.codec.specs.EntryLaws.{decode-judged}
use Rattle.proved_cases.specs.OrderBytes.{ordered_table_bytes, ordered_attestation_bytes}
use Rattle.proved_cases.specs.Order.{ordered_attestation, ordered_evidence, ordered_request, ordered_table}

-- The attestation is read from its bytes, each field from its place.
pub attestation-ordered : decode_lost_voter_attestation ordered_attestation_bytes ≡ ok ordered_attestation 351
unfolding ordered_attestation decode_lost_voter_attestation bounded and_then whole pick gate dec_seq dec_check dec_map dep check via held raw dec_raw uint dec_uint val identity slot_id incarnation validate_slot_id validate_voter_incarnation sized string spiffe_id choice version claims_request claims_slot claims_names times claims_end claims attestation is_utf8 is_in starts_with is_name every fits width_in decoded_char chars_from all_chars all_true valid_attestation
attestation-ordered = refl

-- ---- refusals of an attestation: its version is refused by 6, where a table's is by 4; a size over its bound is refused by 5 before the bytes are missed

pub version-two : decode_lost_voter_attestation (0 ∷ 2 ∷ drop 2 ordered_attestation_bytes) ≡ no 6
unfolding decode_lost_voter_attestation bounded and_then whole pick gate dec_seq dec_check dec_map dep check via held raw dec_raw uint dec_uint val identity slot_id incarnation validate_slot_id validate_voter_incarnation sized string spiffe_id choice version claims_request claims_slot claims_names times claims_end claims attestation
version-two = refl

-- it ends after the size of the first name, 2,049: 5
pub size-before-bytes : decode_lost_voter_attestation (take 164 ordered_attestation_bytes ++ (8 ∷ 1 ∷ [])) ≡ no 5
unfolding decode_lost_voter_attestation bounded and_then whole pick gate dec_seq dec_check dec_map dep check via held raw dec_raw uint dec_uint val identity slot_id incarnation validate_slot_id validate_voter_incarnation sized string spiffe_id choice version claims_request claims_slot claims_names times claims_end claims attestation
size-before-bytes = refl

-- and 2,048, which may be: 6, since they are missing
pub bytes-missing : decode_lost_voter_attestation (take 164 ordered_attestation_bytes ++ (8 ∷ 0 ∷ [])) ≡ no 6
unfolding decode_lost_voter_attestation bounded and_then whole pick gate dec_seq dec_check dec_map dep check via held raw dec_raw uint dec_uint val identity slot_id incarnation validate_slot_id validate_voter_incarnation sized string spiffe_id choice version claims_request claims_slot claims_names times claims_end claims attestation
bytes-missing = refl

-- ---- the table, part by part: what a box holds is not computed, and has a law

-- the bytes of the open request
abbrev request_bytes : List ℕ
request_bytes = drop 631 ordered_table_bytes

boxed-ordered : (boxed attestation max_attestation_bytes).dec (drop 8 request_bytes) ≡ ok ordered_attestation 353
unfolding dep check dec_seq dec_check and_then gate pick uint raw dec_uint dec_raw via dec_map held val decode_lost_voter_attestation bounded
boxed-ordered = boxed-ok attestation max_attestation_bytes (drop 8 request_bytes) {x = (351, ordered_attestation_bytes)} refl attestation-ordered

expected-ordered : (uint 8).dec request_bytes ≡ ok 301 8
unfolding and_then pick uint dec_uint via dec_map held val raw dec_raw
expected-ordered = refl

change-ordered : change.dec (drop 361 request_bytes) ≡ ok (change_of ordered_request) 511
unfolding and_then pick gate dec_seq dec_check dec_map dep check via held raw dec_raw uint dec_uint val identity slot_id incarnation validate_slot_id validate_voter_incarnation choice epoch slot_count binding member members configuration change padded vec dec_vec blank_voter_slot_member blank_voter_slot_identity
change-ordered = refl

evidence-ordered : evidence.dec (drop 872 request_bytes) ≡ ok ordered_evidence 173
unfolding and_then pick gate dec_seq dec_check dec_map dep check via held raw dec_raw uint dec_uint val log_id optional_log_id sized string snapshot_id snapshot three_cuts evidence opt either always flag flag_test is_utf8 every fits width_in decoded_char chars_from all_chars blank_voter_slot_log_id blank_voter_snapshot_evidence blank_snapshot_id
evidence-ordered = refl

request-ordered : replacement.dec request_bytes ≡ ok ordered_request 1045
unfolding replacement via
request-ordered =
    map-ok _ (λ p. replacement_of p.0.0.0 p.0.0.1 p.0.1 p.1) request_bytes
    (dep-ok _ _ request_bytes (dep-ok _ _ request_bytes (dep-ok (uint 8) (λ a. boxed attestation max_attestation_bytes) request_bytes expected-ordered boxed-ordered) change-ordered) evidence-ordered)

slots-ordered : (dep (dep (dep magic_and_version (λ a. table_head)) (λ a. slot_count)) (λ p. slots p.1)).dec ordered_table_bytes
    ≡ ok (((tt, table_head_of ordered_table), 3), ordered_table.slots) 630
unfolding ordered_table and_then pick gate dec_seq dec_check dec_map dep check via held raw dec_raw uint dec_uint val magic_and_version head_test table_head epoch slot_count slots slot slot_member identity slot_id incarnation validate_slot_id validate_voter_incarnation binding choice result_head replacement_result log_id opt either always flag flag_test padded vec dec_vec blank_voter_slot_identity blank_voter_slot_member blank_voter_slot_log_id blank_voter_replacement_result blank_voter_slot_record
slots-ordered = refl

flag-ordered : flag.dec (drop 630 ordered_table_bytes) ≡ ok true 1
unfolding and_then pick gate dec_check dec_map check via held uint dec_uint val flag flag_test raw dec_raw
flag-ordered = refl

fields-ordered : table.dec ordered_table_bytes ≡ ok ordered_table 1676
unfolding table via ordered_table
fields-ordered =
    map-ok _ (λ p. table_of p.0.0.0.1 p.0.0.1 p.0.1 p.1.0 p.1.1) ordered_table_bytes
    (dep-ok _ _ ordered_table_bytes slots-ordered (opt-some replacement blank_voter_replacement_record (drop 630 ordered_table_bytes) flag-ordered request-ordered))

ordered-valid : validity ordered_table ≡ Accepted
unfolding ordered_table ordered_attestation is_in starts_with is_name is_snapshot_id is_utf8 every fits width_in decoded_char chars_from all_chars all_true same_voter_slot_identity same_voter_slot_log_id same_voter_slot_member all_below follows valid_stage stage_or valid_stages in_order valid_continuation valid_evidence valid_configuration valid_attestation valid_result valid_slot valid_slots valid_operation_head is_current_epoch valid_operation retired_member valid_target validate_member validate_members validate_operation validity
ordered-valid = refl

-- The table is read from its bytes, each field from its place.
pub table-ordered : decode_voter_slot_table ordered_table_bytes ≡ ok ordered_table 1676
unfolding gate
table-ordered = decode-judged ordered_table_bytes (omega arith) fields-ordered refl ∙ ap (λ a. gate (number_of a) ordered_table 1676) ordered-valid
