-- The cases that document 01 marks P, and rows of control: one table, and the one theorem that
-- covers each row, computed from the definitions. Document 01, sections "Cases (P: proved)" and
-- "The contracts".
-- Assumes nothing.
use Rattle.std.specs.Prelude.{ℕ, zero, suc, ◌+◌, ◌-◌, ◌^◌, false, replicate}
use mathlib.Core.List.{List, [], ◌∷◌, ◌++◌, flatten}
use Rattle.identity.specs.Answer.{number_of}
use Rattle.format.specs.Res.{and_then}
use Rattle.format.specs.Combinators.{dec_seq, dec_check, dec_map, gate, dep, check, via, held, always}
use Rattle.format.specs.Num.{uint, raw, dec_uint, dec_raw, val, be, pick}
use Rattle.format.specs.List.{dec_vec, enc_vec, vec, padded, flag, flag_test, opt, either}
use Rattle.format.specs.Through.{whole}
use Rattle.identity.specs.Identity.{validate_slot_id, validate_voter_incarnation, validate_voter_slot_identity, new_voter_slot_identity, identity_of, node_id, from_node_id, number_of_number, value_of_number, number_of_identity, next_voter_incarnation}
use Rattle.identity.specs.Text.{scheme, is_in, starts_with, is_name, is_utf8, is_snapshot_id, every}
use Rattle.identity.specs.Utf8.{fits, width_in, decoded_char, chars_from, all_chars}
use Rattle.records.specs.Blank.{blank_voter_slot_identity, blank_spiffe_id, blank_snapshot_id, blank_voter_slot_log_id, blank_optional_log_id, blank_voter_slot_member, blank_voter_replacement_result, blank_voter_slot_record, blank_voter_snapshot_evidence, blank_voter_configuration, blank_lost_voter_attestation_v1, blank_voter_replacement_evidence, blank_voter_replacement_record, blank_voter_slot_table}
use Rattle.records.specs.Equality.{all_true, eq_list, same_voter_slot_identity, same_spiffe_id, same_snapshot_id, same_voter_slot_log_id, same_optional_log_id, same_voter_slot_member, same_voter_replacement_result, same_voter_slot_record, same_voter_snapshot_evidence, same_voter_configuration, same_lost_voter_attestation_v1, same_voter_replacement_evidence, same_voter_replacement_record, same_voter_slot_table}
use Rattle.records.specs.Evidence.{follows, valid_stage, stage_or, valid_stages, in_order, valid_continuation, valid_evidence, retains_cut, retains_marker, retains_cuts, retains, later_of, latest}
use Rattle.records.specs.Records.{voting, pending, all_below, first_from}
use Rattle.records.specs.Representable.{representable_member, representable_result, representable_slot_record, representable, is_text, representable_optional_log_id, representable_configuration, representable_attestation, representable_evidence, representable_replacement}
use Rattle.records.specs.Validation.{valid_result, valid_slot, valid_slots, validity, validate, valid_configuration, valid_attestation, valid_operation_head, is_current_epoch, valid_operation, retired_member, valid_target, validate_member, validate_members, validate_operation}
use Rattle.records.specs.declared.records.VoterSlotTable.{VoterSlotTable}
use Rattle.layout.specs.Layout.{table, magic_and_version, head_test, table_head, epoch, slot_count, slots, slot, slot_member, identity, slot_id, incarnation, binding, choice, replacement_result, magic, configuration, members, member, result_head, version, claims, claims_end, claims_names, claims_slot, claims_request, times, attestation, spiffe_id, snapshot_id, string, sized, log_id, optional_log_id, snapshot, evidence, three_cuts, change, replacement}
use Rattle.codec.specs.Codec.{decode_voter_slot_table, table_bytes, encode_voter_slot_table, restarted, restart_outcome, bounded, decoded, decode_lost_voter_attestation}
use Rattle.records.specs.Successor.{result_succeeds, slot_succeeds, request_succeeds, own_receipt, request_ended, ended_succeeds, replacement_succeeds, head_succeeds, succession, validate_successor_of}
use Rattle.control.specs.Control.{settle, representable_step, representable_control, current_configuration, valid_request, request_check, is_open_request, receipt_index, known_digest, repeated, open_check, is_expected, is_current, candidate_check, full_check, begin_check, begun_slot, begun_operation, begin, record_snapshot, record_caught_up, record_continuation, fence, finalized_slot, finalize, is_completed, take_step, advance_open, advance, marker, decide, apply_control}
use Rattle.control.specs.Blank.{blank_consensus_identity, blank_voter_replacement_request, blank_voter_replacement_step, same_consensus_identity, same_voter_replacement_request, same_voter_replacement_step}
use Rattle.control.specs.Observation.{is_rising, all_rising, insert_id, contains, union_ids, difference, split_sets, total, representable_sets, member_ids_below, is_obsolete, may_linger, see_predecessor, see_sets, see_from, observed, observe, observe_membership}
use Rattle.control.specs.Retired.{is_retired_identity, retired_test}
use Rattle.control.specs.Quorum.{counts_in, among, is_majority, is_quorum}
use Rattle.journal.specs.Records.{sized_bytes, counted, marker_body, no_snapshot_part, snapshot_part, step_body, advance_body, any_identity, candidate, expected, begin_head, begin_body, node_ids, node_sets, observation_body, mark_of, known_mark, frame}
use Rattle.journal.specs.Replay.{marker_control, marker_asked, snapshot_id_of, snapshot_of, step_of, advance_of, advance_control, advance_asked, begin_of, begin_control, begin_asked, observation_asked, formed, attested, asking, answered, called, opened, opening, step, first_entry, entries_in, entries, run, ended, decimal_in, decimal, revision_of, line_of, lines, replay_from, replay}
use Rattle.proved_cases.specs.Row.{Row, EveryRow, every_row}
use Rattle.proved_cases.specs.Row.Row.{is_number, is-yes, is-no}
use Rattle.proved_cases.specs.Tables.{cut, fresh_table}
use Rattle.proved_cases.specs.Calls.{around, candidate_in, attested_last}
use Rattle.proved_cases.specs.LogRows.{replay_rows}
use Rattle.proved_cases.specs.ControlRows.{whole_replacement, supersession, begin_order, advance_order, observation_order, invalid_tables, retired_rows, quorum_rows}

-- ---- what the rows of bytes speak of

-- The bytes of a table of n slots, numbers 1 to n, that is revision 1 of epoch 1, with no request
-- open: a count in bytes may be any.
abbrev pub slot_bytes : ℕ → List ℕ
slot_bytes slot = (0 ∷ slot ∷ replicate 7 0) ++ (1 ∷ replicate 79 0) ++ (1 ∷ voting ∷ 0 ∷ [])

-- so many slots from that number on
abbrev pub slots_bytes : ℕ → ℕ → List ℕ
slots_bytes slot zero = []
slots_bytes slot (suc n) = slot_bytes slot ++ slots_bytes (slot + 1) n

-- the whole table
abbrev pub bytes_of : ℕ → List ℕ
bytes_of n = magic ++ (0 ∷ 1 ∷ replicate 71 0) ++ (1 ∷ replicate 7 0) ++ (1 ∷ n ∷ slots_bytes 1 n) ++ (0 ∷ [])

-- The number that reading the bytes of a table gives.
abbrev pub read_number : List ℕ → ℕ
read_number bs = (decoded blank_voter_slot_table (decode_voter_slot_table bs)).0

-- The number that writing a table into so many bytes gives, and a restart with such a buffer.
abbrev pub write_number : VoterSlotTable → ℕ → ℕ
write_number t room = (decoded [] (encode_voter_slot_table t (replicate room 0))).0

abbrev pub restart_number : VoterSlotTable → ℕ → ℕ
restart_number t room = (restart_outcome t (replicate room 0)).0.0

-- ---- the table

-- each row a case of document 01, or a call of control or a log
abbrev pub rows : List Row
rows =
    -- slot 1, incarnation 2: node 65,537
    is_number (number_of_number (node_id (identity_of 1 2))) 0
    ∷ is_number (value_of_number (node_id (identity_of 1 2))) 65537
    -- slot 65,535, incarnation 2^47: node 2^63 − 1
    ∷ is_number (number_of_number (node_id (identity_of 65535 (2 ^ 47)))) 0
    ∷ is_number (value_of_number (node_id (identity_of 65535 (2 ^ 47)))) (2 ^ 63 - 1)
    -- node 2^63 + 1: 2; node 2^63: 1
    ∷ is_number (number_of_identity (from_node_id (2 ^ 63 + 1))) 2
    ∷ is_number (number_of_identity (from_node_id (2 ^ 63))) 1
    -- `spiffe://` no, `spiffe://a` yes
    ∷ is-no (is_name scheme)
    ∷ is-yes (is_name (scheme ++ (97 ∷ [])))
    -- U+200B may stand in a name, U+00A0 not
    ∷ is-yes (is_name (scheme ++ (97 ∷ 0xE2 ∷ 0x80 ∷ 0x8B ∷ [])))
    ∷ is-no (is_name (scheme ++ (97 ∷ 0xC2 ∷ 0xA0 ∷ [])))
    -- after (3, 10): (3, 11) follows, (2, 11) and (4, 10) don't
    ∷ is-yes (follows (cut 3 11) (cut 3 10) false)
    ∷ is-no (follows (cut 2 11) (cut 3 10) false)
    ∷ is-no (follows (cut 4 10) (cut 3 10) false)
    -- counts 1 and 9 pass, 0 and 2 do not; 10 as a value is 30
    ∷ is_number (number_of (validate (fresh_table 1))) 0
    ∷ is_number (number_of (validate (fresh_table 9))) 0
    ∷ is_number (number_of (validate (fresh_table 0))) 6
    ∷ is_number (number_of (validate (fresh_table 2))) 6
    ∷ is_number (number_of (validate (fresh_table 10))) 30
    -- `OPVI` alone: 6; with version 2: 4; `OPVX` with version 2: 6
    ∷ is_number (read_number magic) 6
    ∷ is_number (read_number (magic ++ (0 ∷ 2 ∷ []))) 4
    ∷ is_number (read_number (79 ∷ 80 ∷ 86 ∷ 88 ∷ 0 ∷ 2 ∷ [])) 6
    -- counts 0, 2, 10 in bytes: 6; counts 1, 9 pass
    ∷ is_number (read_number (bytes_of 0)) 6
    ∷ is_number (read_number (bytes_of 2)) 6
    ∷ is_number (read_number (bytes_of 10)) 6
    ∷ is_number (read_number (bytes_of 1)) 0
    ∷ is_number (read_number (bytes_of 9)) 0
    -- a table of one slot takes 180 bytes: into one less 32, which comes last, after 30 and
    -- validity's 6 and 3
    ∷ is_number (write_number (fresh_table 1) 180) 0
    ∷ is_number (write_number (fresh_table 1) 179) 32
    ∷ is_number (write_number (fresh_table 10) 0) 30
    ∷ is_number (write_number (fresh_table 2) 0) 6
    ∷ is_number (write_number (attested_last (around (candidate_in pending))) 0) 3
    -- a restart in just as many bytes is accepted
    ∷ is_number (restart_number (fresh_table 1) 180) 0
    ∷ is_number (restart_number (fresh_table 1) 179) 32
    -- commands and observations
    ∷ (whole_replacement
    ++ supersession
    ++ begin_order
    ++ advance_order
    ++ observation_order
    ++ invalid_tables
    -- the retired test and quorums
    ++ retired_rows
    ++ quorum_rows
    -- the replay program
    ++ replay_rows)

-- ---- the theorem

pub cases : EveryRow rows
unfolding validate_voter_incarnation validate_voter_slot_identity new_voter_slot_identity node_id from_node_id is_in starts_with is_name fits width_in decoded_char chars_from all_chars all_true same_voter_slot_identity same_spiffe_id same_snapshot_id same_voter_slot_log_id same_optional_log_id same_voter_slot_member same_voter_replacement_result same_voter_slot_record same_voter_snapshot_evidence same_voter_configuration same_lost_voter_attestation_v1 same_voter_replacement_evidence same_voter_replacement_record blank_voter_slot_identity blank_spiffe_id blank_snapshot_id blank_voter_slot_log_id blank_optional_log_id blank_voter_slot_member blank_voter_replacement_result blank_voter_slot_record blank_voter_snapshot_evidence blank_voter_configuration blank_lost_voter_attestation_v1 blank_voter_replacement_evidence blank_voter_replacement_record all_below representable_member representable_result representable_slot_record representable follows valid_result valid_slot valid_slots validity validate validate_slot_id decode_voter_slot_table bounded and_then whole pick gate decoded table_bytes encode_voter_slot_table restarted restart_outcome be enc_vec table magic_and_version head_test via check dep raw dec_seq dec_check dec_map dec_raw uint held dec_uint val table_head epoch slot_count slots slot slot_member identity slot_id incarnation binding choice replacement_result opt either always flag flag_test padded vec dec_vec is_utf8 is_snapshot_id every blank_voter_slot_table same_voter_slot_table first_from valid_stage stage_or valid_stages in_order valid_continuation valid_evidence retains_cut retains_marker retains_cuts retains later_of latest is_text representable_optional_log_id representable_configuration representable_attestation representable_evidence representable_replacement valid_configuration valid_attestation valid_operation_head is_current_epoch valid_operation retired_member valid_target validate_member validate_members validate_operation result_succeeds slot_succeeds request_succeeds own_receipt request_ended ended_succeeds replacement_succeeds head_succeeds succession validate_successor_of settle blank_consensus_identity blank_voter_replacement_request blank_voter_replacement_step same_consensus_identity same_voter_replacement_request same_voter_replacement_step representable_step representable_control current_configuration valid_request request_check is_open_request receipt_index known_digest repeated open_check is_expected is_current candidate_check full_check begin_check begun_slot begun_operation begin record_snapshot record_caught_up record_continuation fence finalized_slot finalize is_completed take_step advance_open advance marker decide apply_control is_rising all_rising insert_id contains union_ids difference split_sets total representable_sets member_ids_below is_obsolete may_linger see_predecessor see_sets see_from observed observe observe_membership is_retired_identity retired_test counts_in among is_majority is_quorum configuration members member result_head version claims claims_end claims_names claims_slot claims_request times attestation spiffe_id snapshot_id string sized log_id optional_log_id snapshot evidence three_cuts change replacement decode_lost_voter_attestation next_voter_incarnation sized_bytes counted marker_body no_snapshot_part snapshot_part step_body advance_body any_identity candidate expected begin_head begin_body node_ids node_sets observation_body mark_of known_mark frame marker_control marker_asked snapshot_id_of snapshot_of step_of advance_of advance_control advance_asked begin_of begin_control begin_asked observation_asked formed attested asking answered called opened opening step first_entry entries_in entries run ended decimal_in decimal revision_of line_of lines replay_from replay flatten
cases = every_row rows tt
