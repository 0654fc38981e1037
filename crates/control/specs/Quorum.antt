-- Who counts and what a quorum is, in a table; and the claim about the quorums of every line of
-- history, which `quorums` of QuorumLaws proves.
-- It answers the fear that README.md names: "If a retired voter ever counted again, two majorities
-- could confirm different sessions."
--
-- What it says, of any valid start, any calls and any number of them:
--   * A retired node counts in a table only while it is the one being replaced there, and no longer
--     from Uniform on; so at most one does (`replaced`, `settled`).
--   * A retired node that does not count, counts at no later place of the line (`out`).
--   * Two quorums of one epoch share a node that counts in both tables, however many calls lie
--     between; so do one in phase Joint and one of the next epoch (`meet`).
--     From one place to the next the epoch stays, or it is the next one and the first place is in
--     phase Joint. So quorums before and after a call always share a node (`near`, `meet-next`).
--   * The nodes that count and are not retired are a quorum by themselves: the vote of the node
--     being replaced is never needed, and may always be refused (`enough`).
--   * Where the later of two such quorums has no retired node, they share a node that is retired at
--     neither place (`live`).
-- What it does not say, since it is not so (`quorum_rows` of the table in crates/proved_cases, on
-- three slots with node 2 being replaced by 65,538):
--   * That two quorums share a node that is not retired, where votes of the node being replaced are
--     taken: in Fenced {1, 2} and {2, 3} are quorums, and node 2 is retired.
--   * That any two quorums share a node: {1, 2} in Fenced and {3, 65,538} in Uniform do not.
--     Neither is a quorum in Joint, which lies between.
--
-- It is about the configurations that the tables of one line show, and not about the engine. A
-- table follows the membership entries that were APPLIED, while an engine may count by the last one
-- APPENDED: between the two it may count by a configuration that no table shows yet. What the
-- engine does then, that its voters are otherwise those of the table, that it counts as `is_quorum`
-- does, and that it asks the retired test before it takes a vote, is the service's part.
-- `is_retired` is the retired test's yes on a valid table (`valid-yes` of RetiredLaws).
-- Assumes nothing.
use Rattle.std.specs.Prelude.{ℕ, ◌+◌, ◌*◌, ◌≤◌, ◌<◌, ◌≡◌, Bool, true, false, cond, not, ◌&&◌, ◌||◌, List, [], ◌∷◌, ◌⊎◌, ◌↔◌, length, eqb, ltb}
use Rattle.identity.specs.Answer.{Accepted}
use Rattle.records.specs.Held.{HeldVoterSlotTable}
use Rattle.records.specs.Records.{joint, uniform, member_at}
use Rattle.records.specs.Validation.{validate}
use Rattle.records.specs.declared.records.VoterSlotTable.{VoterSlotTable}
use Rattle.control.specs.Control.{current_configuration, target_index}
use Rattle.control.specs.History.{Call, table_at}
use Rattle.control.specs.Observation.{contains, member_node, member_ids}
use Rattle.control.specs.Retired.{is_retired}

-- ---- who counts

-- in phase Joint both configurations vote
abbrev pub is_joint : VoterSlotTable → Bool
is_joint t = t.has_replacement && eqb t.replacement.phase joint

-- the ids of the members of the current configuration
abbrev pub current_ids : VoterSlotTable → List ℕ
current_ids t = member_ids (current_configuration t)

-- and of the one that follows it
abbrev pub successor_ids : VoterSlotTable → List ℕ
successor_ids t = member_ids t.replacement.successor

-- a node counts: it is a member of the current configuration, or in phase Joint of the one that
-- follows
unfoldable pub counts_in : VoterSlotTable → ℕ → Bool
counts_in t node = contains node (current_ids t) || (is_joint t && contains node (successor_ids t))

-- ---- quorums

-- how many of the ids are among the nodes
unfoldable pub among : (ids nodes : List ℕ) → ℕ
among [] nodes = 0
among (id ∷ ids) nodes = cond (contains id nodes) 1 0 + among ids nodes

-- a strict majority of the ids is among the nodes
unfoldable pub is_majority : (ids nodes : List ℕ) → Bool
is_majority ids nodes = ltb (length ids) (2 * among ids nodes)

-- nodes in any order, also nodes that do not count
unfoldable pub is_quorum : VoterSlotTable → List ℕ → Bool
is_quorum t nodes = is_majority (current_ids t) nodes && (not (is_joint t) || is_majority (successor_ids t) nodes)

-- ---- the claim

-- A request is open that has not come to Uniform, and this is the predecessor's member in the slot
-- being replaced.
pub record IsReplaced (t : VoterSlotTable) (node : ℕ) : Type 0 where
  pub some : t.has_replacement ≡ true
  pub phase : t.replacement.phase < uniform
  pub slot : (member_at t.replacement.predecessor (target_index t)).identity.slot ≡ t.replacement.attestation.slot
  pub is : node ≡ member_node (member_at t.replacement.predecessor (target_index t))

-- a node of both lists that counts in both tables
pub record Shared (t next : VoterSlotTable) (a b : List ℕ) : Type 0 where
  pub node : ℕ
  pub first : contains node a ≡ true
  pub second : contains node b ≡ true
  pub counts : counts_in t node ≡ true
  pub counts-next : counts_in next node ≡ true

-- none of the nodes is retired
abbrev pub AllLive : VoterSlotTable → List ℕ → Type 0
AllLive t nodes = (node : ℕ) → contains node nodes ≡ true → is_retired t node ≡ false

-- such a node that is not retired in either
pub record SharedLive (t next : VoterSlotTable) (a b : List ℕ) : Type 0 where
  pub shared : Shared t next a b
  pub live : is_retired t shared.node ≡ false
  pub live-next : is_retired next shared.node ≡ false

-- of one epoch, or of two that follow, where the first is in phase Joint
abbrev pub Near : VoterSlotTable → VoterSlotTable → Type 0
Near t next =
    (next.configuration_epoch ≡ t.configuration_epoch) ⊎ ((is_joint t ≡ true) × (next.configuration_epoch ≡ t.configuration_epoch + 1))

-- of one table
pub record QuorumsIn (t : VoterSlotTable) : Type 0 where
  -- a node counts and is retired exactly where it is the one being replaced
  pub replaced : (node : ℕ) → ((counts_in t node ≡ true) × (is_retired t node ≡ true)) ↔ IsReplaced t node
  -- with no request open, or from Uniform on, no node that counts is retired
  pub settled : (t.has_replacement && ltb t.replacement.phase uniform) ≡ false → (node : ℕ) → counts_in t node ≡ true → is_retired t node ≡ false
  -- each member has an id of its own, so that a majority of the ids is one of the members
  pub members : length (current_ids t) ≡ t.count
  pub members-next : t.has_replacement ≡ true → length (successor_ids t) ≡ t.count
  -- all that count and are not retired are a quorum
  pub enough : (nodes : List ℕ) → ((node : ℕ) → counts_in t node ≡ true → is_retired t node ≡ false → contains node nodes ≡ true) → is_quorum t nodes ≡ true

-- of a line; i and j are any two places, where 0 is the start
pub record QuorumsOf (start : VoterSlotTable) (calls : List Call) : Type 0 where
  pub each : (i : ℕ) → QuorumsIn (table_at start calls i)
  -- a retired node that is out never counts again
  pub out : (i j : ℕ) → i ≤ j → (node : ℕ) → is_retired (table_at start calls i) node ≡ true → counts_in (table_at start calls i) node ≡ false
      → counts_in (table_at start calls j) node ≡ false
  -- the quorums of two places that are near share a node
  pub meet : (i j : ℕ) → i ≤ j → Near (table_at start calls i) (table_at start calls j) → (a b : List ℕ)
      → is_quorum (table_at start calls i) a ≡ true → is_quorum (table_at start calls j) b ≡ true → Shared (table_at start calls i) (table_at start calls j) a b
  -- the next place is near; so the quorums before and after a call share a node
  pub near : (i : ℕ) → Near (table_at start calls i) (table_at start calls (i + 1))
  pub meet-next : (i : ℕ) (a b : List ℕ) → is_quorum (table_at start calls i) a ≡ true → is_quorum (table_at start calls (i + 1)) b ≡ true
      → Shared (table_at start calls i) (table_at start calls (i + 1)) a b
  -- where the later one has no retired node, the shared one is not retired (that the earlier one
  -- has none is not needed: what is retired stays so)
  pub live : (i j : ℕ) → i ≤ j → Near (table_at start calls i) (table_at start calls j) → (a b : List ℕ)
      → is_quorum (table_at start calls i) a ≡ true → is_quorum (table_at start calls j) b ≡ true → AllLive (table_at start calls j) b
      → SharedLive (table_at start calls i) (table_at start calls j) a b

-- of every table that the types hold and that is valid, and of every list
abbrev pub Quorums : Type 0
Quorums = (start : VoterSlotTable) → HeldVoterSlotTable start → validate start ≡ Accepted → (calls : List Call) → QuorumsOf start calls
