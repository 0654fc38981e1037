-- "A node being replaced is retired from the begin on, though still in the predecessor
-- configuration": of every valid table with a request open.
-- Document 01, section "Validity"; the laws are `replaced-there` and `replaced-retired`. And the
-- retired test says yes exactly where `is_retired` does, on every valid table: `test-yes`,
-- `valid-yes`; and its number tells its cases apart: `number-tells`.
-- Assumes nothing.
use Rattle.identity.specs.AnswerLaws.{number-small, number-injective}
use Rattle.std.specs.Prelude.{Result, Ok, Err, ℕ, ◌<◌, ◌≤◌, ◌↔◌, refl, ◌≡◌, Bool, false}
use Rattle.std.proofs.Common.{sym, ap, ◌∙◌, eq-eqb, le-leb}
use Rattle.std.proofs.Math.Bool.{true, not}
use native.Mathlib.Omega.{arith}
use Rattle.identity.specs.Identity.{is_slot_id, is_voter_incarnation, validate_voter_incarnation, validate_voter_slot_identity, node_id, from_node_id, value_of_number}
use Rattle.identity.proofs.IdentityLaws.{read_made}
use Rattle.identity.specs.Answer.{number_of, Answer, Accepted}
use Rattle.identity.specs.declared.answer.Refusal.{Refusal}
use Rattle.identity.specs.declared.answer.Refusal.TheVariants.{Unrepresentable}
use Rattle.identity.specs.declared.identity.VoterSlotIdentity.{VoterSlotIdentity}
use Rattle.records.specs.declared.records.VoterSlotTable.{VoterSlotTable}
use Rattle.records.specs.Records.{slot_at, member_at}
use Rattle.records.specs.Validation.{claims_of, validate}
use Rattle.records.specs.Representable.{representable}
use Rattle.records.specs.TestLaws.{says, and_both, some_below, cond-true}
use Rattle.records.specs.ValidParts.{member-number, member-target, valid-parts}
use Rattle.records.specs.RepresentableParts.{member_is, member-fits}
use Rattle.control.specs.Control.{target_index}
use Rattle.control.specs.Observation.{member_node}
use Rattle.control.specs.Retired.{is_below_floor, is_retired_identity, is_retired, retired_test, retired_number}
use Rattle.control.specs.OpenLaws.{Open, open-of-valid}

-- ---- the whole test

-- a table that is not refused
pub test-says : (t : VoterSlotTable) (node : ℕ) → representable t ≡ true → retired_test t node ≡ Ok (is_retired t node)
unfolding retired_test
test-says t node h = cond-true (representable t) (Ok (is_retired t node)) (Err Unrepresentable) h

pub test-yes : (t : VoterSlotTable) (node : ℕ) → representable t ≡ true → (retired_test t node ≡ Ok true) ↔ (is_retired t node ≡ true)
test-yes t node h = ((λ e. ap says-yes (sym (test-says t node h) ∙ e)), λ e. test-says t node h ∙ ap Ok e)
  where
    says-yes : Result Bool Refusal → Bool
    says-yes (Ok b) = b
    says-yes (Err refusal) = false

-- so of every table of a line of history
pub valid-yes : (t : VoterSlotTable) (node : ℕ) → validate t ≡ Accepted → (retired_test t node ≡ Ok true) ↔ (is_retired t node ≡ true)
valid-yes t node v = test-yes t node (valid-parts t v).0

-- ---- its number leaves one case

no_answer : (a : Answer) (n : ℕ) → 100 ≤ n → n ≡ number_of a → ⊥
no_answer a n h e = let l = number-small a in omega arith

abbrev refused-as : Answer → Result Bool Refusal
refused-as (Ok nothing) = Ok false
refused-as (Err refusal) = Err refusal

pub number-tells : (x y : Result Bool Refusal) → retired_number x ≡ retired_number y → x ≡ y
number-tells (Ok false) (Ok false) e = refl
number-tells (Ok false) (Ok true) e = absurd (omega arith)
number-tells (Ok false) (Err b) e = absurd (no_answer (Err b) 100 (omega arith) e)
number-tells (Ok true) (Ok false) e = absurd (omega arith)
number-tells (Ok true) (Ok true) e = refl
number-tells (Ok true) (Err b) e = absurd (no_answer (Err b) 101 (omega arith) e)
number-tells (Err a) (Ok false) e = absurd (no_answer (Err a) 100 (omega arith) (sym e))
number-tells (Err a) (Ok true) e = absurd (no_answer (Err a) 101 (omega arith) (sym e))
number-tells (Err a) (Err b) e = ap refused-as (number-injective (Err a) (Err b) e)

-- ---- a node id that is made is read again

is_made : (identity : VoterSlotIdentity) → is_slot_id identity.slot ≡ true → is_voter_incarnation identity.incarnation ≡ true
    → node_id identity ≡ Ok (value_of_number (node_id identity))
unfolding node_id validate_voter_slot_identity validate_voter_incarnation
is_made identity s i = rw (s, i)

pub node-read : (identity : VoterSlotIdentity) → is_slot_id identity.slot ≡ true → is_voter_incarnation identity.incarnation ≡ true
    → from_node_id (value_of_number (node_id identity)) ≡ Ok identity
node-read identity s i = read_made identity (value_of_number (node_id identity)) (is_made identity s i)

module _ (t : VoterSlotTable) (v : validate t ≡ Accepted) (is_open : t.has_replacement ≡ true) where
  o : Open t
  o = open-of-valid t v is_open

  -- the slot being replaced is there
  pub replaced-there : target_index t < t.count
  replaced-there = o.below

  -- Every member of the predecessor configuration that has the slot being replaced.
  pub replaced-retired : (i : ℕ) → i < t.replacement.predecessor.count → (member_at t.replacement.predecessor i).identity.slot ≡ t.replacement.attestation.slot
      → is_retired t (member_node (member_at t.replacement.predecessor i)) ≡ true
  unfolding is_retired_identity
  replaced-retired i l s =
      let op = t.replacement in
      let m = member_at op.predecessor i in
      let same : op.predecessor.count ≡ t.count = o.operation.head.predecessor in
      let here : i < t.count = omega arith in
      let number = member-number (claims_of op) (slot_at t i) m (member_at op.successor i) (o.member i here) in
      let k = member-target (claims_of op) (slot_at t i) m (member_at op.successor i) (o.member i here) (sym number ∙ s) in
      let floor = (o.slots.each i here).retired in
      let next = k.next in
      let after = k.earlier in
      let covered : is_below_floor m.identity (slot_at t i) ≡ true =
      and_both _ _ (eq-eqb _ _ (sym number)) (le-leb m.identity.incarnation (slot_at t i).retired_through (omega arith)) in
      let w = says (member_is m) (member-fits op.predecessor o.parts.predecessor i l) in
      rw (node-read m.identity w.0 w.1) (some_below (λ j. not (is_below_floor m.identity (slot_at t j))) t.count i here (ap not covered))
