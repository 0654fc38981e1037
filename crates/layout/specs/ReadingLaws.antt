-- What reading the magic and a table leaves, one part after the other, and equality of bytes as the
-- library has it: what the proofs of a `Reader` cite of single forms.
-- Assumes nothing.
use Rattle.std.specs.Prelude.{ℕ, ◌-◌, ◌≡◌, refl, Bool, ◌&&◌, List, [], ◌∷◌, drop, replicate, eqb, Result, Ok, Err}
use Rattle.std.proofs.Common.{ap, ap₂, arith, sym, ◌∙◌}
use Rattle.format.specs.Res.{Res, ok-count, no_ok}
use Rattle.format.specs.Res.Res.{ok, no}
use Rattle.identity.specs.Answer.{number_of_refusal}
use Rattle.identity.specs.declared.answer.Refusal.{Refusal}
use Rattle.layout.specs.Reading.{report, outcome}
use Rattle.format.specs.Combinators.{dep, check}
use Rattle.format.specs.Num.{uint, raw}
use Rattle.format.specs.Copy.{drop-replicate, zeros}
use Rattle.format.specs.Reads.{reads, then_read, made_read, tested_read, reads_via, reads_check, reads_two, reads_pair, fused, same_then, reads_four, then_three, then_four}
use Rattle.records.specs.Equality.{eq_bytes}
use Rattle.layout.specs.Layout.{magic, head_test, magic_and_version, table_head, slot_count, slots, replacement, table_front, table, max_attestation_bytes, attestation, claims, claims_request, claims_slot, claims_names, claims_end, spiffe_id, configuration, choice, evidence, change}
use Rattle.layout.specs.Parts.{table_of, attestation_of, replacement_of, blank_voter_slot_records}
use Rattle.format.specs.List.{opt}
use Rattle.format.specs.Through.{boxed}
use Rattle.records.specs.Records.{prepared, uniform}
use Rattle.records.specs.Blank.{blank_spiffe_id, blank_lost_voter_attestation_v1, blank_voter_replacement_record, blank_voter_slot_table}
use Rattle.records.specs.declared.records.SpiffeId.{SpiffeId}
use Rattle.records.specs.declared.records.LostVoterAttestationV1.{LostVoterAttestationV1}
use Rattle.records.specs.declared.records.VoterSlotTable.{VoterSlotTable}
use Rattle.identity.specs.Text.{max_spiffe_id_bytes}
use Rattle.records.specs.declared.records.VoterReplacementRecord.{VoterReplacementRecord}
use lib.Pointwise.{pointwise}

-- equality of bytes, as the library has it
pub same_bytes : (a b : List ℕ) → pointwise eqb a b ≡ eq_bytes a b
same_bytes [] [] = refl
same_bytes [] (y ∷ b) = refl
same_bytes (x ∷ a) [] = refl
same_bytes (x ∷ a) (y ∷ b) = ap (λ t. eqb x y && t) (same_bytes a b)

-- the magic and the version: both are read, and then they are judged
pub reads_magic : (bs : List ℕ) → reads magic_and_version bs
    ≡ then_read (reads (raw 4) bs) (λ m rest. then_read (reads (uint 2) rest) (λ v r. made_read {A = List ℕ × ℕ} (λ p. tt) (tested_read {A = List ℕ × ℕ} (head_test (m, v)) (m, v) r)))
unfolding magic_and_version
reads_magic bs =
    let C = dep (raw 4) (λ a. uint 2) in
    reads_via (check C head_test) (λ p. tt) (λ u. (magic, 1)) _ bs
    ∙ ap (made_read (λ p. tt)) (reads_check C head_test bs ∙ reads_pair (raw 4) (λ a. uint 2) bs (λ p rest. tested_read (head_test p) p rest))
    ∙ fused _ (reads (raw 4) bs) _
    ∙ same_then (reads (raw 4) bs) _ _ (λ m rest. fused _ (reads (uint 2) rest) _)

-- what stands after n of so many zeros
pub rest_of_zeros : (n k : ℕ) → drop n (zeros k) ≡ replicate (k - n) 0
unfolding zeros
rest_of_zeros n k = drop-replicate n k 0

-- a table, one part after the other
pub reads_table : (bs : List ℕ) → reads table bs
    ≡ then_read (reads magic_and_version bs) (λ u r. then_read (reads table_head r) (λ h s. then_read (reads slot_count s) (λ n t. then_read (reads (slots n) t)
    (λ l w. made_read {A = Bool × VoterReplacementRecord} (λ o. table_of h n l o.0 o.1) (reads (opt replacement blank_voter_replacement_record) w)))))
unfolding table
reads_table bs =
    reads_two table_front (λ a. opt replacement blank_voter_replacement_record) _ _ _ bs
    ∙ reads_pair (dep (dep magic_and_version (λ a. table_head)) (λ a. slot_count)) (λ p. slots p.1) bs _
    ∙ reads_pair (dep magic_and_version (λ a. table_head)) (λ a. slot_count) bs _
    ∙ reads_pair magic_and_version (λ a. table_head) bs _

-- an attestation: its names one by one, the rest by its groups
pub reads_claims : (bs : List ℕ) → reads claims bs
    ≡ then_read (reads claims_request bs) (λ q r. then_read (reads claims_slot r) (λ s t. then_read (reads (uint 8) t) (λ g u. then_read (reads spiffe_id u) (λ c v. then_read (reads spiffe_id v) (λ k w. then_read (reads (raw 32) w)
    (λ d x. made_read (λ e. attestation_of q s (record { admission_generation = g; candidate_spiffe_id = c; controller_spiffe_id = k; signing_key_digest = d }) e) (reads claims_end x)))))))
unfolding claims claims_names
reads_claims bs =
    reads_four claims_request (λ a. claims_slot) (λ a. claims_names) (λ a. claims_end) _ _ _ bs
    ∙ same_then (reads claims_request bs) _ _ (λ q r. same_then (reads claims_slot r) _ _
    (λ s t. then_four (uint 8) (λ a. spiffe_id) (λ a. spiffe_id) (λ a. raw 32) _ _ _ t (λ n x. made_read (λ e. attestation_of q s n e) (reads claims_end x))))

-- an open request: both configurations and the phase one by one
pub reads_replacement : (bs : List ℕ) → reads replacement bs
    ≡ then_read (reads (uint 8) bs) (λ x r. then_read (reads (boxed attestation max_attestation_bytes) r) (λ a s. then_read (reads configuration s) (λ p t. then_read (reads configuration t)
    (λ n u. then_read (reads (choice prepared uniform) u) (λ h v. made_read (λ e. replacement_of x a (record { predecessor = p; successor = n; phase = h }) e) (reads evidence v))))))
unfolding replacement change
reads_replacement bs =
    reads_four (uint 8) (λ a. boxed attestation max_attestation_bytes) (λ a. change) (λ a. evidence) _ _ _ bs
    ∙ same_then (reads (uint 8) bs) _ _ (λ x r. same_then (reads (boxed attestation max_attestation_bytes) r) _ _
    (λ a s. then_three configuration (λ a. configuration) (λ a. choice prepared uniform) _ _ _ s (λ c v. made_read (λ e. replacement_of x a c e) (reads evidence v))))

-- ---- what an outcome tells of the reading, and the reading of its outcome
--
-- Nothing here cites these; docs named them, and they stand. An answer is a Result, whose refusal is one of
-- Refusal.

no_number : {A : Type 0} {j k : ℕ} → ◌≡◌ {A = Res A} (no j) (no k) → j ≡ k
no_number e = cc

ok-no : {A : Type 0} {a : A} {k m : ℕ} → ◌≡◌ {A = Res A} (ok a m) (no k) → ⊥
ok-no e = let z : ◌≡◌ {A = ℕ} 0 1 = cc in omega arith

module _ {A : Type 0} (blank : A) {v : A} {a : Result ℕ Refusal} where
  -- it was read up to n
  pub told : {n : ℕ} (x : Res A) → ◌≡◌ {A = Res (Unit {0}) × A} (report a, v) (outcome blank x) → a ≡ Ok n → x ≡ ok v n
  unfolding outcome
  told (ok b m) e f = ap₂ ok (sym (ap (λ p. p.1) e)) (ok-count (sym (ap (λ p. p.0) e) ∙ ap report f))
  told (no k) e f = absurd (no_ok (sym (ap (λ p. p.0) e) ∙ ap report f))

  -- it was refused
  pub told-not : {k : Refusal} (x : Res A) → ◌≡◌ {A = Res (Unit {0}) × A} (report a, v) (outcome blank x) → a ≡ Err k → x ≡ no (number_of_refusal k)
  unfolding outcome
  told-not (ok b m) e f = absurd (ok-no (sym (ap (λ p. p.0) e) ∙ ap report f))
  told-not (no k) e f = ap no (no_number (sym (ap (λ p. p.0) e) ∙ ap report f))

-- the outcome of what was read, and of what was refused
pub outcome-ok : {A : Type 0} (blank : A) {v : A} {n : ℕ} {x : Res A} → x ≡ ok v n → ◌≡◌ {A = Res (Unit {0}) × A} (ok tt n, v) (outcome blank x)
unfolding outcome
outcome-ok blank e = ap (outcome blank) (sym e)

-- a refusal is passed on: the outcome of the refused part is that of the whole
pub outcome-no : {A : Type 0} (blank : A) {k : ℕ} {x : Res A} {p : Res (Unit {0}) × A} → p ≡ outcome blank (no k) → x ≡ no k → p ≡ outcome blank x
outcome-no blank e f = e ∙ ap (outcome blank) (sym f)

-- what an answer that carries its value says of the reading
pub got : {R A : Type 0} (f : R → Res A) {r q : R} {x : Res A} → f r ≡ x → r ≡ q → x ≡ f q
got f e q = sym e ∙ ap f q

-- ---- the parts of a blank place

pub blank_bytes : (t : SpiffeId) → t ≡ blank_spiffe_id → t.bytes ≡ zeros max_spiffe_id_bytes
unfolding blank_spiffe_id zeros
blank_bytes t e = ap (λ t. t.bytes) e

pub blank_candidate : (a : LostVoterAttestationV1) → a ≡ blank_lost_voter_attestation_v1 → a.candidate_spiffe_id ≡ blank_spiffe_id
unfolding blank_lost_voter_attestation_v1
blank_candidate a e = ap (λ a. a.candidate_spiffe_id) e

pub blank_controller : (a : LostVoterAttestationV1) → a ≡ blank_lost_voter_attestation_v1 → a.controller_spiffe_id ≡ blank_spiffe_id
unfolding blank_lost_voter_attestation_v1
blank_controller a e = ap (λ a. a.controller_spiffe_id) e

pub blank_attestation : (r : VoterReplacementRecord) → r ≡ blank_voter_replacement_record → r.attestation ≡ blank_lost_voter_attestation_v1
unfolding blank_voter_replacement_record
blank_attestation r e = ap (λ r. r.attestation) e

pub blank_slots : (t : VoterSlotTable) → t ≡ blank_voter_slot_table → t.slots ≡ blank_voter_slot_records
unfolding blank_voter_slot_table blank_voter_slot_records
blank_slots t e = ap (λ t. t.slots) e

pub blank_replacement : (t : VoterSlotTable) → t ≡ blank_voter_slot_table → t.replacement ≡ blank_voter_replacement_record
unfolding blank_voter_slot_table
blank_replacement t e = ap (λ t. t.replacement) e
