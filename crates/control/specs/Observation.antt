-- Observations: `observe_membership` of control.rs with what it calls, in its order, and document
-- 01, end of section "Commands". (The target slot is looked for first here and last in the Rust;
-- both give 25.) Nothing is validated first, so it speaks of invalid tables too. A set of ids is
-- what a BTreeSet is: the ids in strictly rising order, each once, whatever the order and the
-- repeats of the members.
-- Assumes nothing.
use Rattle.identity.specs.declared.answer.Refusal.{Refusal}
use Rattle.identity.specs.declared.identity.VoterSlotIdentity.{VoterSlotIdentity}
use Rattle.std.specs.Prelude.{Result, Ok, Err, ℕ, zero, suc, ◌+◌, Bool, true, false, cond, ◌&&◌, ◌||◌, List, ◌∷◌, [], length, take, drop, set, eqb, leb, ltb}
use Rattle.identity.specs.Identity.{max_consensus_node_id, node_id, from_node_id, value_of_number}
use Rattle.identity.specs.Text.{every}
use Rattle.identity.specs.Answer.{Answer, RevisionExhausted, InvalidTransition, Unrepresentable, NotRising}
use Rattle.records.specs.declared.records.VoterSlotLogId.{VoterSlotLogId}
use Rattle.records.specs.declared.records.VoterSlotMember.{VoterSlotMember}
use Rattle.records.specs.declared.records.VoterConfiguration.{VoterConfiguration}
use Rattle.records.specs.declared.records.VoterReplacementRecord.{VoterReplacementRecord}
use Rattle.records.specs.declared.records.VoterSlotTable.{VoterSlotTable}
use Rattle.records.specs.Equality.{eq_list, same_voter_slot_table}
use Rattle.records.specs.Records.{snapshot_installed, learner_added, joint, uniform, first_from, member_at}
use Rattle.records.specs.Representable.{representable}
use Rattle.records.specs.Validation.{target_phase}
use Rattle.records.specs.With.{table_with, operation_with, in_phase, with_learner, with_joint, with_uniform}
use Rattle.control.specs.Control.{Decision, settle, full, current_configuration, target_index, target_slot}
use Rattle.control.specs.Control.Decision.{refuse, keep, change}

-- ---- sets

-- two sets have the same ids
abbrev pub eq_ids : List ℕ → List ℕ → Bool
eq_ids a b = eq_list eqb a b

-- two lists of sets, in their order
abbrev pub eq_sets : List (List ℕ) → List (List ℕ) → Bool
eq_sets a b = eq_list eq_ids a b

-- 31: "a set not strictly rising"
unfoldable pub is_rising : List ℕ → Bool
is_rising [] = true
is_rising (x ∷ []) = true
is_rising (x ∷ (y ∷ l)) = ltb x y && is_rising (y ∷ l)

-- of each set
unfoldable pub all_rising : List (List ℕ) → Bool
all_rising [] = true
all_rising (s ∷ sets) = is_rising s && all_rising sets

-- an id put into a set
unfoldable pub insert_id : ℕ → List ℕ → List ℕ
insert_id x [] = x ∷ []
insert_id x (y ∷ l) = cond (ltb x y) (x ∷ (y ∷ l)) (cond (eqb x y) (y ∷ l) (y ∷ insert_id x l))

-- an id is in a set
unfoldable pub contains : ℕ → List ℕ → Bool
contains x [] = false
contains x (y ∷ l) = eqb x y || contains x l

-- the ids of both
unfoldable pub union_ids : List ℕ → List ℕ → List ℕ
union_ids [] b = b
union_ids (x ∷ a) b = insert_id x (union_ids a b)

-- the ids of the first that the second has not
unfoldable pub difference : List ℕ → List ℕ → List ℕ
difference [] b = []
difference (x ∷ a) b = cond (contains x b) (difference a b) (x ∷ difference a b)

-- every id of the first is in the second
abbrev pub is_subset : List ℕ → List ℕ → Bool
is_subset a b = every (λ x. contains x b) a

-- ---- what the caller supplies: the sets one after another in one slice, with their counts in a
-- second one

-- "the sets of an observation" one after another "in one slice": each by its count
unfoldable pub split_sets : List ℕ → List ℕ → List (List ℕ)
split_sets ids [] = []
split_sets ids (n ∷ counts) = take n ids ∷ split_sets (drop n ids) counts

-- the sum of the counts, which does not wrap
unfoldable pub total : List ℕ → ℕ
total [] = 0
total (n ∷ counts) = n + total counts

-- an id that the Rust type can hold: 0 too, since it has a default (`is_consensus_node_id` of Identity
-- is what `ConsensusNodeId::new` takes)
abbrev pub is_held_node_id : ℕ → Bool
is_held_node_id id = leb id max_consensus_node_id

-- 30: "counts that don't add up to its length", and ids that the Rust type cannot hold
unfoldable pub representable_sets : (ids counts nodes : List ℕ) → Bool
representable_sets ids counts nodes = eqb (total counts) (length ids) && every is_held_node_id ids && every is_held_node_id nodes

-- ---- `member_ids`

-- the node of a member
abbrev pub member_node : VoterSlotMember → ℕ
member_node m = value_of_number (node_id m.identity)

-- the nodes of the members before a place, as a set
unfoldable pub member_ids_below : VoterConfiguration → ℕ → List ℕ
member_ids_below c zero = []
member_ids_below c (suc n) = insert_id (member_node (member_at c n)) (member_ids_below c n)

-- those of a configuration
abbrev pub member_ids : VoterConfiguration → List ℕ
member_ids c = member_ids_below c c.count

-- ---- what sets and nodes are to the open request

-- refused; no evidence to add; or the evidence of a phase
pub data Sight : Type 0 where
  strange : Sight
  nothing_new : Sight
  new_learner : Sight
  new_joint : Sight
  new_uniform : Sight

-- the place of the member being replaced in the predecessor, or the count
abbrev pub member_index : VoterConfiguration → ℕ → ℕ
member_index c slot = first_from (λ i. eqb (member_at c i).identity.slot slot) c.count 0

-- A node of neither configuration may be the learner of a request that was superseded: of the slot
-- being replaced, of an incarnation greater than the predecessor's and at most the attested one.
unfoldable pub is_obsolete : VoterReplacementRecord → Result VoterSlotIdentity Refusal → Bool
is_obsolete op (Err answer) = false
is_obsolete op (Ok identity) =
    let place = member_index op.predecessor op.attestation.slot in
    ltb place op.predecessor.count
    && leb op.phase snapshot_installed
    && eqb identity.slot op.attestation.slot
    && ltb (member_at op.predecessor place).identity.incarnation identity.incarnation
    && leb identity.incarnation op.attestation.expected_incarnation

-- the first of the nodes that are of neither, if any
unfoldable pub may_linger : VoterReplacementRecord → List ℕ → Bool
may_linger op [] = true
may_linger op (node ∷ rest) = is_obsolete op (from_node_id node)

-- the successor's ids that the predecessor has not
abbrev pub new_ids : VoterReplacementRecord → List ℕ
new_ids op = difference (member_ids op.successor) (member_ids op.predecessor)

-- the predecessor's set of voters, with or without the candidate's node as a learner
unfoldable pub see_predecessor : VoterReplacementRecord → ℕ → List ℕ → Sight
see_predecessor op candidate nodes =
    let old = member_ids op.predecessor in
    let both = union_ids old (member_ids op.successor) in
    cond
    (ltb op.phase joint
    && is_subset old nodes
    && leb (length nodes) (length old + 1)
    && may_linger op (difference nodes both))
    (cond (contains candidate nodes)
    (cond (ltb op.phase snapshot_installed) strange (cond (eqb op.phase snapshot_installed) new_learner nothing_new))
    (cond (leb learner_added op.phase) strange nothing_new))
    strange

-- the evidence of a phase is new in the phase before it, and is there in the phase itself
abbrev pub see_phase : ℕ → ℕ → Sight → Sight
see_phase phase at new = cond (eqb (phase + 1) at) new (cond (eqb phase at) nothing_new strange)

-- by the sets: the predecessor's; both, with the nodes of both; the successor's, with its nodes;
-- else 25
unfoldable pub see_sets : VoterReplacementRecord → ℕ → List (List ℕ) → List ℕ → Sight
see_sets op candidate sets nodes =
    let old = member_ids op.predecessor in
    let new = member_ids op.successor in
    cond (eq_sets sets (old ∷ [])) (see_predecessor op candidate nodes)
    (cond (eq_sets sets (old ∷ (new ∷ [])) && eq_ids nodes (union_ids old new)) (see_phase op.phase joint new_joint)
    (cond (eq_sets sets (new ∷ []) && eq_ids nodes new) (see_phase op.phase uniform new_uniform) strange))

-- the candidate is the least id of the successor that is not the predecessor's; 25 where there is
-- none
unfoldable pub see_from : VoterReplacementRecord → List ℕ → List (List ℕ) → List ℕ → Sight
see_from op [] sets nodes = strange
see_from op (candidate ∷ rest) sets nodes = see_sets op candidate sets nodes

-- all of it
abbrev pub see : VoterReplacementRecord → List (List ℕ) → List ℕ → Sight
see op sets nodes = see_from op (new_ids op) sets nodes

-- ---- making the next table; its revision is raised only where it differs

-- the open request and the epoch; the slot being replaced has the phase that goes with the
-- request's
abbrev pub with_target : VoterSlotTable → ℕ → VoterReplacementRecord → VoterSlotTable
with_target t epoch op =
    table_with t t.revision epoch (set t.slots (target_index t) (in_phase (target_slot t) (target_phase op.phase))) true op

-- the learner's cut, and LearnerAdded
abbrev pub learner_seen : VoterReplacementRecord → VoterSlotLogId → VoterReplacementRecord
learner_seen op cut = operation_with op learner_added (with_learner op.evidence cut)

-- the joint cut, and Joint
abbrev pub joint_seen : VoterReplacementRecord → VoterSlotLogId → VoterReplacementRecord
joint_seen op cut = operation_with op joint (with_joint op.evidence cut)

-- the uniform cut, and Uniform
abbrev pub uniform_seen : VoterReplacementRecord → VoterSlotLogId → VoterReplacementRecord
uniform_seen op cut = operation_with op uniform (with_uniform op.evidence cut)

-- the next revision
abbrev pub raised : VoterSlotTable → VoterSlotTable
raised t = table_with t (t.revision + 1) t.configuration_epoch t.slots t.has_replacement t.replacement

-- the Rust's `next == *self`: unchanged where the table made is the same
abbrev pub keep_or : VoterSlotTable → VoterSlotTable → Decision
keep_or t next = cond (same_voter_slot_table next t) keep (change (raised next))

-- what was seen, as a decision; only Uniform changes the epoch
unfoldable pub observed : VoterSlotTable → Sight → VoterSlotLogId → Decision
observed t strange cut = refuse InvalidTransition
observed t nothing_new cut = keep_or t (with_target t t.configuration_epoch t.replacement)
observed t new_learner cut = keep_or t (with_target t t.configuration_epoch (learner_seen t.replacement cut))
observed t new_joint cut = keep_or t (with_target t t.configuration_epoch (joint_seen t.replacement cut))
observed t new_uniform cut = keep_or t (with_target t t.replacement.successor.epoch (uniform_seen t.replacement cut))

-- ---- `observe_membership`

-- a request is open: its slot is there, else 25
abbrev pub observe_open : VoterSlotTable → List (List ℕ) → List ℕ → VoterSlotLogId → Decision
observe_open t sets nodes cut =
    cond (ltb (target_index t) t.count) (observed t (see t.replacement sets nodes) cut) (refuse InvalidTransition)

-- no request is open: one set, the current configuration's, and its nodes; "An idle observation may
-- carry cut 0, 0"
abbrev pub observe_closed : VoterSlotTable → List (List ℕ) → List ℕ → Decision
observe_closed t sets nodes =
    let current = member_ids (current_configuration t) in
    cond (eq_sets sets (current ∷ []) && eq_ids nodes current) keep (refuse InvalidTransition)

-- "An observation tests the full revision before its sets."
unfoldable pub observe : VoterSlotTable → List (List ℕ) → List ℕ → VoterSlotLogId → Decision
observe t sets nodes cut =
    cond (eqb t.revision full) (refuse RevisionExhausted)
    (cond t.has_replacement (observe_open t sets nodes cut) (observe_closed t sets nodes))

-- 30; 31; 24; 25; the successor check of a changed table
unfoldable pub observe_membership : VoterSlotTable → (ids counts nodes : List ℕ) → VoterSlotLogId → Answer × VoterSlotTable
observe_membership t ids counts nodes cut =
    cond (representable t && representable_sets ids counts nodes)
    (cond (all_rising (split_sets ids counts) && is_rising nodes) (settle t (observe t (split_sets ids counts) nodes cut)) (NotRising, t))
    (Unrepresentable, t)
