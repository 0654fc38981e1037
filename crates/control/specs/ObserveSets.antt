-- The ids of members and the sets of an observation as the code has them: the members' ids in the
-- order of their places, and nothing sorted.
-- Definitions for the contracts of `sets`; what is right is said in Observation. From the sets of
-- `observe_membership` of control.rs, without a BTreeSet.
-- Assumes nothing.
use Rattle.std.specs.Prelude.{Option, Some, None, ℕ, zero, suc, ◌-◌, ◌^◌, Bool, cond, not, ◌&&◌, List, ◌∷◌, [], ◌++◌, map, eqb, ltb, length, take, drop, get_or}
use Rattle.identity.specs.Conditions.{◌and◌}
use Rattle.records.specs.declared.records.VoterConfiguration.{VoterConfiguration}
use Rattle.records.specs.declared.records.VoterSlotTable.{VoterSlotTable}
use Rattle.records.specs.Records.{member_at}
use Rattle.control.specs.Observation.{contains, is_subset, member_node}

-- no id: the greatest number of 64 bits
abbrev pub no_id : ℕ
no_id = 2 ^ 64 - 1

-- the first of a list, if there is one
unfoldable pub first_of : List ℕ → Option ℕ
first_of [] = None
first_of (x ∷ l) = Some x

-- the least of `least` and the ids of a list that are not old
unfoldable pub least_new : List ℕ → List ℕ → ℕ → ℕ
least_new old [] least = least
least_new old (x ∷ l) least = least_new old l (cond (ltb x least && not (contains x old)) x least)

-- the ids of a configuration's first places
unfoldable pub listed : VoterConfiguration → ℕ → List ℕ
listed c zero = []
listed c (suc n) = listed c n ++ (member_node (member_at c n) ∷ [])

-- the slots' members: the current configuration where no request is open
abbrev pub slot_members : VoterSlotTable → VoterConfiguration
slot_members t = record { epoch = t.configuration_epoch; members = map (λ s. s.member) t.slots; count = t.count }

-- the same ids, in whatever order
abbrev pub same_ids : List ℕ → List ℕ → Bool
same_ids a b = is_subset a b && is_subset b a

-- one set, of the ids of a list
abbrev pub is_one_set : (ids counts set : List ℕ) → Bool
is_one_set ids counts set = eqb (length counts) 1 && same_ids ids set

-- two sets, of the ids of two lists
abbrev pub are_two_sets : (ids counts old new : List ℕ) → Bool
are_two_sets ids counts old new =
    eqb (length counts) 2 and same_ids (take (get_or counts 0 0) ids) old and same_ids (drop (get_or counts 0 0) ids) new
