-- What an observation sees, and its verdict, as the code computes them: tests of the sets and the
-- nodes first, and then picks.
-- Definitions for the contracts of `observe`; what is right is said in Observation and Judgement,
-- and ObserveSightLaws and ObserveLaws say that this is the same.
-- Assumes nothing.
use Rattle.std.specs.Prelude.{Option, Some, None, is_none, Result, Ok, Err, ℕ, ◌+◌, ◌<◌, ◌≤◌, ◌≡◌, Bool, cond, false, not, true, ◌&&◌, ◌||◌, List, ◌∷◌, [], eqb, leb, ltb, length}
use Rattle.identity.specs.Conditions.{◌and◌}
use Rattle.identity.specs.Identity.{from_node_id}
use Rattle.identity.specs.Answer.{is_accepted, Answer, Accepted, InvalidTransition, NotRising, RevisionExhausted, Unrepresentable}
use Rattle.identity.specs.Text.{every}
use Rattle.identity.specs.declared.answer.Refusal.{Refusal}
use Rattle.records.specs.declared.records.VoterReplacementRecord.{VoterReplacementRecord}
use Rattle.records.specs.declared.records.VoterSlotLogId.{VoterSlotLogId}
use Rattle.records.specs.declared.records.VoterSlotTable.{VoterSlotTable}
use Rattle.records.specs.Records.{max_fixed_voter_slots, joint, learner_added, snapshot_installed, uniform}
use Rattle.records.specs.Representable.{representable}
use Rattle.records.specs.Validation.{validity}
use Rattle.control.specs.declared.observe.Observed.{Observed}
use Rattle.control.specs.declared.observe.Observed.TheVariants.{Keep, AddLearner, AddJoint, AddUniform}
use Rattle.control.specs.declared.observe.Seen.{Seen}
use Rattle.control.specs.declared.observe.Seen.TheVariants.{Strange, NothingNew, NewLearner, NewJoint, NewUniform}
use Rattle.control.specs.declared.observe.SetTests.{SetTests}
use Rattle.control.specs.Control.{current_configuration, full, target_index}
use Rattle.control.specs.Judgement.{Addition, Verdict, joint_test, learner_test, phase_fits, uniform_test}
use Rattle.control.specs.Judgement.Addition.{adds_learner, adds_joint, adds_uniform}
use Rattle.control.specs.Judgement.Verdict.{refused, kept, moves}
use Rattle.control.specs.Observation.{Sight, all_rising, contains, difference, eq_ids, eq_sets, is_held_node_id, is_obsolete, is_rising, is_subset, member_ids, representable_sets, see, see_phase, split_sets, total, union_ids}
use Rattle.control.specs.Observation.Sight.{new_joint, new_learner, new_uniform, nothing_new, strange}
use Rattle.control.specs.ObserveSets.{are_two_sets, first_of, is_one_set, least_new, no_id, same_ids}

-- ---- the code's enums, case by case

-- `Seen`
abbrev pub sight_of : Seen → Sight
sight_of Strange = strange
sight_of NothingNew = nothing_new
sight_of NewLearner = new_learner
sight_of NewJoint = new_joint
sight_of NewUniform = new_uniform

-- a refusal, or `Observed`
abbrev pub verdict_of_observed : Result Observed Refusal → Verdict Addition
verdict_of_observed (Err refusal) = refused (Err refusal)
verdict_of_observed (Ok Keep) = kept
verdict_of_observed (Ok AddLearner) = moves adds_learner
verdict_of_observed (Ok AddJoint) = moves adds_joint
verdict_of_observed (Ok AddUniform) = moves adds_uniform

-- the answer
abbrev pub answer_of_observed : Verdict Addition → Answer
answer_of_observed (refused answer) = answer
answer_of_observed kept = Accepted
answer_of_observed (moves m) = Accepted

-- ---- the sight

-- the predecessor's set of voters: whether the nodes fit it, and whether the candidate's is among
-- them
unfoldable pub seen_old : ℕ → Bool → Bool → Sight
seen_old phase fits candidate =
    cond fits
    (cond candidate
    (cond (ltb phase snapshot_installed) strange (cond (eqb phase snapshot_installed) new_learner nothing_new))
    (cond (leb learner_added phase) strange nothing_new))
    strange

-- by the tests
unfoldable pub seen_by : ℕ → SetTests → Sight
seen_by phase tests =
    cond tests.no_candidate strange
    (cond tests.is_old (seen_old phase tests.fits_old tests.has_candidate)
    (cond tests.is_joint (see_phase phase joint new_joint)
    (cond tests.is_new (see_phase phase uniform new_uniform) strange)))

-- the tests, of the ids of the members and of what is supplied; `known` and `lingers` are of the
-- first node that neither has
abbrev pub tests_of : (phase : ℕ) (old new ids counts nodes : List ℕ) (known lingers : Bool) → SetTests
tests_of phase old new ids counts nodes known lingers =
    record {
      no_candidate = eqb (least_new old new no_id) no_id;
      is_old = is_one_set ids counts old;
      fits_old = ltb phase joint && is_subset old nodes && leb (length nodes) (length ids + 1) && lingers;
      has_candidate = contains (least_new old new no_id) nodes;
      is_joint = are_two_sets ids counts old new and known and is_subset old nodes and is_subset new nodes;
      is_new = is_one_set ids counts new && same_ids nodes new;
    }

-- a node that neither has, or none, may stay
abbrev pub lingers_as : VoterReplacementRecord → Option ℕ → Bool
lingers_as op None = true
lingers_as op (Some node) = is_obsolete op (from_node_id node)

-- the whole, where `old` and `new` are the ids of the members of the predecessor and of the
-- successor
abbrev pub seen_of : VoterReplacementRecord → (old new ids counts nodes : List ℕ) → Sight
seen_of op old new ids counts nodes =
    let outside = first_of (difference nodes (union_ids old new)) in
    seen_by op.phase (tests_of op.phase old new ids counts nodes (is_none outside) (lingers_as op outside))

-- ---- what the tests of the sets ask for

-- no count that the code goes by is above nine
abbrev pub few_members : VoterSlotTable → Bool
few_members t =
    leb t.count max_fixed_voter_slots
    && (not t.has_replacement || (leb t.replacement.predecessor.count max_fixed_voter_slots && leb t.replacement.successor.count max_fixed_voter_slots))

-- what is supplied, past 30 and 31
pub record Supplied (ids counts nodes : List ℕ) : Type 0 where
  pub counted : total counts ≡ length ids
  pub held : every is_held_node_id nodes ≡ true
  pub rising : all_rising (split_sets ids counts) ≡ true
  pub nodes-rise : is_rising nodes ≡ true

-- ---- the verdict on a table that is known to be valid, and on any other

-- as `judge_sight`, without validity
unfoldable pub judge_known : VoterSlotTable → Sight → VoterSlotLogId → Verdict Addition
judge_known t strange cut = refused InvalidTransition
judge_known t nothing_new cut = cond (phase_fits t) kept (refused InvalidTransition)
judge_known t new_learner cut = cond (learner_test t.replacement.evidence cut) (moves adds_learner) (refused InvalidTransition)
judge_known t new_joint cut = cond (joint_test t.replacement.evidence cut) (moves adds_joint) (refused InvalidTransition)
judge_known t new_uniform cut = cond (uniform_test t.replacement.evidence cut) (moves adds_uniform) (refused InvalidTransition)

-- `observe_open` of Observation: the slot being replaced is there
abbrev pub judge_seen : VoterSlotTable → Sight → VoterSlotLogId → Verdict Addition
judge_seen t sight cut = cond (ltb (target_index t) t.count) (judge_known t sight cut) (refused InvalidTransition)

-- `observe_closed` of Observation
abbrev pub judge_closed : VoterSlotTable → List (List ℕ) → List ℕ → Verdict Addition
judge_closed t sets nodes =
    let current = member_ids (current_configuration t) in
    cond (eq_sets sets (current ∷ []) && eq_ids nodes current) kept (refused InvalidTransition)

-- the same by the ids of the slots' members
abbrev pub judge_members : (members ids counts nodes : List ℕ) → Verdict Addition
judge_members members ids counts nodes = cond (is_one_set ids counts members && same_ids nodes members) kept (refused InvalidTransition)

-- `observe` of Observation: the full revision first
unfoldable pub judge_sets : VoterSlotTable → List (List ℕ) → List ℕ → VoterSlotLogId → Verdict Addition
judge_sets t sets nodes cut =
    cond (eqb t.revision full) (refused RevisionExhausted)
    (cond t.has_replacement (judge_seen t (see t.replacement sets nodes) cut) (judge_closed t sets nodes))

-- 30 and 31 of what is supplied, and then the verdict. 30 too where a count that the code goes by
-- is above nine; no table that passes the representability check has one.
unfoldable pub weighed : VoterSlotTable → (ids counts nodes : List ℕ) → VoterSlotLogId → Verdict Addition
weighed t ids counts nodes cut =
    cond (few_members t && representable_sets ids counts nodes)
    (cond (all_rising (split_sets ids counts) && is_rising nodes) (judge_sets t (split_sets ids counts) nodes cut) (refused NotRising))
    (refused Unrepresentable)

-- validity, where something is new
unfoldable pub confirmed : Bool → Verdict Addition → Verdict Addition
confirmed valid (refused answer) = refused answer
confirmed valid kept = kept
confirmed valid (moves m) = cond valid (moves m) (refused InvalidTransition)

-- the verdict of the entry point: 30 of the table, and its validity where something is new
abbrev pub entry_weighed : VoterSlotTable → (ids counts nodes : List ℕ) → VoterSlotLogId → Verdict Addition
entry_weighed t ids counts nodes cut =
    cond (representable t) (confirmed (is_accepted (validity t)) (weighed t ids counts nodes cut)) (refused Unrepresentable)

-- something is made
abbrev pub is_change : Verdict Addition → Bool
is_change (refused answer) = false
is_change kept = false
is_change (moves m) = true

-- what its maker asks for: a revision that is not full, nine places, and the slot being replaced
abbrev pub Room : VoterSlotTable → Type 0
Room t = (t.revision ≡ full → ⊥) × ((t.count ≤ max_fixed_voter_slots) × (target_index t < t.count))
