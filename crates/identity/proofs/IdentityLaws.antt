-- Laws of slots, incarnations and node ids: what passed a check is within its bounds, node ids are
-- made and read without loss, and document 01's number and value of a result leave one result.
-- Each name here is a step of a proof or a law for the layers above; what is right is said in
-- Identity.
-- Assumes nothing.
use Rattle.std.specs.Prelude.{ℕ, ◌+◌, ◌-◌, ◌*◌, ◌/◌, ◌%◌, ◌≤◌, ◌≡◌, refl, Bool, true, false, cond, ◌&&◌, eqb, leb, Result, Ok, Err}
use Rattle.std.proofs.Common.{sym, ap, ◌∙◌, arith, leb-true, le-leb}
use Rattle.identity.specs.declared.answer.Refusal.{Refusal}
use Rattle.identity.specs.declared.answer.Refusal.TheVariants as refusal
use Rattle.identity.specs.Answer.{Answer, is_accepted, Accepted, InvalidIncarnation, InvalidSlot}
use Rattle.identity.specs.AnswerLaws.{refusal-injective, refusal-not-0}
use Rattle.identity.specs.Identity.{max_slot_id, max_voter_incarnation, max_consensus_node_id, node_id_span, is_slot_id, is_voter_incarnation, is_consensus_node_id, validate_voter_incarnation, validate_voter_slot_identity, passed_with, next_voter_incarnation, identity_of, new_voter_slot_identity, node_id, from_node_id, number_and_value, number_and_identity}
use Rattle.identity.specs.declared.identity.VoterSlotIdentity.{VoterSlotIdentity}

-- A number within two bounds.
pub record Within (low high value : ℕ) : Type 0 where
  pub above : low ≤ value
  pub below : value ≤ high

-- An identity that the Rust types can hold.
pub record Sound (identity : VoterSlotIdentity) : Type 0 where
  pub slot : Within 1 max_slot_id identity.slot
  pub incarnation : Within 1 max_voter_incarnation identity.incarnation

within_by : (low high value : ℕ) (p q : Bool) → leb low value ≡ p → leb value high ≡ q → (p && q) ≡ true → Within low high value
within_by low high value true true h k e = record { above = leb-true low value h; below = leb-true value high k }
within_by low high value true false h k e = absurd (let z : ◌≡◌ {A = ℕ} 0 1 = cc in omega arith)
within_by low high value false q h k e = absurd (let z : ◌≡◌ {A = ℕ} 0 1 = cc in omega arith)

-- What a test that passed tells.
within : (low high value : ℕ) → (leb low value && leb value high) ≡ true → Within low high value
within low high value e = within_by low high value (leb low value) (leb value high) refl refl e

accepted-by : (t : Bool) (a b : Answer) → is_accepted b ≡ false → is_accepted (cond t a b) ≡ true → (t ≡ true) × (is_accepted a ≡ true)
accepted-by true a b n e = (refl, e)
accepted-by false a b n e = absurd (let z : ◌≡◌ {A = ℕ} 0 1 = cc in omega arith)

pub incarnation-within : (value : ℕ) → is_accepted (validate_voter_incarnation value) ≡ true → Within 1 max_voter_incarnation value
unfolding validate_voter_incarnation
incarnation-within value h = within 1 max_voter_incarnation value (accepted-by (is_voter_incarnation value) Accepted InvalidIncarnation refl h).0

pub identity-sound : (identity : VoterSlotIdentity) → is_accepted (validate_voter_slot_identity identity) ≡ true → Sound identity
unfolding validate_voter_slot_identity
identity-sound identity h =
    let e = accepted-by (is_slot_id identity.slot) (validate_voter_incarnation identity.incarnation) InvalidSlot refl h in
    record { slot = within 1 max_slot_id identity.slot e.0; incarnation = incarnation-within identity.incarnation e.1 }

-- ---- node ids are made and read without loss

abbrev number_of_node : VoterSlotIdentity → ℕ
number_of_node identity = (identity.incarnation - 1) * node_id_span + identity.slot

passed : {A : Type 0} (t : Answer) (value found : A) → passed_with t value ≡ Ok found → (is_accepted t ≡ true) × (value ≡ found)
passed (Ok nothing) value found h = (refl, cc)
passed (Err e) value found h = absurd (let z : ◌≡◌ {A = ℕ} 0 1 = cc in omega arith)

passes : {A : Type 0} (t : Answer) (value : A) → is_accepted t ≡ true → passed_with t value ≡ Ok value
passes (Ok nothing) value h = refl
passes (Err e) value h = absurd (let z : ◌≡◌ {A = ℕ} 0 1 = cc in omega arith)

-- The identity that a node id was made of is the one that is read.
pub read_made : (identity : VoterSlotIdentity) (node : ℕ) → node_id identity ≡ Ok node → from_node_id node ≡ Ok identity
unfolding node_id from_node_id new_voter_slot_identity
read_made identity node h =
    let e = passed (validate_voter_slot_identity identity) (number_of_node identity) node h in
    let s = identity-sound identity e.0 in
    let n : number_of_node identity ≡ node = e.1 in
    let p : node % 65536 ≡ identity.slot = omega (arith, s.slot.below, s.incarnation.above) in
    let q : node / 65536 + 1 ≡ identity.incarnation = omega (arith, s.slot.below, s.incarnation.above) in
    let i : identity_of (node % 65536) (node / 65536 + 1) ≡ identity = λ j. record { slot = p j; incarnation = q j } in
    rw i (passes (validate_voter_slot_identity identity) identity e.0)

-- The node id that an identity was read from is the one that is made of it.
pub made-read : (node : ℕ) (identity : VoterSlotIdentity) → from_node_id node ≡ Ok identity → node_id identity ≡ Ok node
unfolding node_id from_node_id new_voter_slot_identity
made-read node identity h =
    let found = identity_of (node % 65536) (node / 65536 + 1) in
    let e = passed (validate_voter_slot_identity found) found identity h in
    let n : number_of_node found ≡ node = omega arith in
    rw (sym e.1) (passes (validate_voter_slot_identity found) (number_of_node found) e.0 ∙ ap (λ (n : ℕ). Ok n) n)

-- A node id that was made is one that `ConsensusNodeId::new` takes.
pub made_held : (identity : VoterSlotIdentity) (node : ℕ) → node_id identity ≡ Ok node → is_consensus_node_id node ≡ true
unfolding node_id
made_held identity node h =
    let e = passed (validate_voter_slot_identity identity) (number_of_node identity) node h in
    let s = identity-sound identity e.0 in
    let n : number_of_node identity ≡ node = e.1 in
    let p : 1 ≤ node = omega (arith, s.slot.above) in
    let q : node ≤ max_consensus_node_id = omega (arith, s.slot.below, s.incarnation.below) in
    rw (le-leb 1 node p, le-leb node max_consensus_node_id q)

-- ---- document 01's number and value leave one result

-- A result that its number and value tell from every other: a value that is no refusal's, or a
-- refusal, whose number is never 0.
abbrev pub TellingNumber : Result ℕ Refusal → Type 0
TellingNumber (Ok value) = 1 ≤ value
TellingNumber (Err e) = Unit {0}

abbrev pub TellingIdentity : Result VoterSlotIdentity Refusal → Type 0
TellingIdentity (Ok identity) = Sound identity
TellingIdentity (Err e) = Unit {0}

-- What document 01's number and value of a result say, made an equation of results.
pub number-told : (r d : Result ℕ Refusal) → TellingNumber d → number_and_value r ≡ number_and_value d → r ≡ d
number-told (Ok v) (Ok w) t e = λ i. Ok (e i).1
number-told (Ok v) (Err b) t e = absurd (refusal-not-0 b (λ i. (e i).0))
number-told (Err a) (Ok w) t e = absurd (let z : 0 ≡ w = λ i. (e i).1 in omega arith)
number-told (Err a) (Err b) t e = ap Err (refusal-injective a b (λ i. (e i).0))

-- The same of an identity.
pub identity-told : (r d : Result VoterSlotIdentity Refusal) → TellingIdentity d → number_and_identity r ≡ number_and_identity d → r ≡ d
identity-told (Ok v) (Ok w) t e = λ i. Ok (e i).1
identity-told (Ok v) (Err b) t e = absurd (refusal-not-0 b (λ i. (e i).0))
identity-told (Err a) (Ok w) t e =
    absurd (let z : 0 ≡ w.slot = λ i. (e i).1.slot in omega (arith, t.slot.above))
identity-told (Err a) (Err b) t e = ap Err (refusal-injective a b (λ i. (e i).0))

-- A check's answer with the value that it lets pass is such a result.
number-telling : (t : Answer) (value : ℕ) → (is_accepted t ≡ true → 1 ≤ value) → TellingNumber (passed_with t value)
number-telling (Ok nothing) value h = h refl
number-telling (Err e) value h = tt

identity-telling : (t : Answer) (identity : VoterSlotIdentity) → (is_accepted t ≡ true → Sound identity) → TellingIdentity (passed_with t identity)
identity-telling (Ok nothing) identity h = h refl
identity-telling (Err e) identity h = tt

-- So is what each of the four definitions gives: of `next_voter_incarnation`,
pub next-telling : (incarnation : ℕ) → TellingNumber (next_voter_incarnation incarnation)
unfolding next_voter_incarnation
next-telling incarnation = go (eqb incarnation max_voter_incarnation)
  where
    go : (b : Bool) → TellingNumber (cond b (Err refusal.IncarnationExhausted) (passed_with (validate_voter_incarnation incarnation) (incarnation + 1)))
    go true = tt
    go false = number-telling (validate_voter_incarnation incarnation) (incarnation + 1) (λ h. omega arith)

-- of `VoterSlotIdentity::node_id`,
pub node-telling : (identity : VoterSlotIdentity) → TellingNumber (node_id identity)
unfolding node_id
node-telling identity =
    number-telling (validate_voter_slot_identity identity) (number_of_node identity) (λ h. omega (arith, (identity-sound identity h).slot.above))

-- of `VoterSlotIdentity::new`,
pub new-telling : (slot incarnation : ℕ) → TellingIdentity (new_voter_slot_identity slot incarnation)
unfolding new_voter_slot_identity
new-telling slot incarnation =
    let identity = identity_of slot incarnation in
    identity-telling (validate_voter_slot_identity identity) identity (identity-sound identity)

-- and of `VoterSlotIdentity::from_node_id`.
pub read-telling : (node : ℕ) → TellingIdentity (from_node_id node)
unfolding from_node_id
read-telling node = new-telling (node % node_id_span) (node / node_id_span + 1)
