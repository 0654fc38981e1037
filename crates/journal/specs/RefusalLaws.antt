-- No reading is refused by 0: where the reader of a table or of an attestation answers 0, it read
-- one (document 01: 0 is "accepted").
-- Assumes nothing.
use Prim.Native.Nat.{ℕ, zero, suc, ◌+◌}
use Rattle.std.proofs.Common.{arith, sym, ap, ◌∙◌}
use Rattle.std.specs.Prelude.{Bool, true, false, ◌≡◌, refl, List, length, take, drop, eqb, leb}
use Rattle.identity.specs.Answer.{number_of}
use Rattle.format.specs.Res.{Res, malformed, too_large, and_then}
use Rattle.format.specs.Res.Res.{ok, no}
use Rattle.format.specs.Combinators.{Codec, dep, dec_seq, check, dec_check, gate, via, dec_map, held, always}
use Rattle.format.specs.List.{vec, dec_vec, snoc, padded, flag, either, opt}
use Rattle.format.specs.Num.{pick, raw, dec_raw, uint}
use Rattle.format.specs.Through.{whole, boxed, boxed-ok, boxed-no-1, boxed-no-2}
use Rattle.records.specs.Blank.{blank_voter_slot_member, blank_voter_replacement_result, blank_voter_slot_record, blank_voter_snapshot_evidence, blank_voter_replacement_record}
use Rattle.records.specs.Validation.{validity}
use Rattle.records.specs.declared.records.VoterSlotTable.{VoterSlotTable}
use Rattle.layout.specs.Layout.{slot_id, incarnation, epoch, slot_count, choice, identity, log_id, optional_log_id, sized, string, spiffe_id, snapshot_id, binding, member, members, configuration, result_head, replacement_result, slot_member, slot, slots, version, claims_request, claims_slot, claims_names, times, claims_end, claims, max_attestation_bytes, attestation, snapshot, three_cuts, evidence, change, replacement, magic_and_version, table_head, table_front, table}
use Rattle.codec.specs.Codec.{max_table_bytes, bounded, decode_voter_slot_table, decode_lost_voter_attestation}

-- ---- results

-- a reading is no refusal
other : {A : Type 0} {a : A} {n k : ℕ} → ◌≡◌ {A = Res A} (ok a n) (no k) → ⊥
other e = let z : ◌≡◌ {A = ℕ} 0 1 = cc in omega arith

-- a refusal has one number
pub number : {A : Type 0} {j k : ℕ} → ◌≡◌ {A = Res A} (no j) (no k) → j ≡ k
number e = cc

-- neither the first nor what goes on with it is refused by 0
then_never : {A B : Type 0} (r : Res A) (f : A → ℕ → Res B) → (r ≡ no 0 → ⊥) → ((a : A) (n : ℕ) → f a n ≡ no 0 → ⊥) → and_then r f ≡ no 0 → ⊥
unfolding and_then
then_never (ok a n) f h g e = g a n e
then_never (no k) f h g e = h (ap no (number e))

gate-never : {A : Type 0} (k : ℕ) (a : A) (n : ℕ) → gate k a n ≡ no 0 → ⊥
unfolding gate
gate-never zero a n e = other e
gate-never (suc k) a n e = let z = number e in omega arith

pick-never : {A : Type 0} (t : Bool) (r : Res A) (k : ℕ) → (r ≡ no 0 → ⊥) → pick t r (no (suc k)) ≡ no 0 → ⊥
unfolding pick
pick-never true r k h e = h e
pick-never false r k h e = let z = number e in omega arith

-- ---- forms

abbrev Never : {A : Type 0} → Codec A → Type 0
Never C = (bs : List ℕ) → C.dec bs ≡ no 0 → ⊥

module _ {A B : Type 0} (C : Codec A) (D : A → Codec B) where
  dep-never : Never C → ((a : A) → Never (D a)) → Never (dep C D)
  unfolding dep dec_seq
  dep-never c d bs e =
      then_never (C.dec bs) (λ a n. and_then ((D a).dec (drop n bs)) (λ b m. ok (a, b) (n + m))) (c bs)
      (λ a n. then_never ((D a).dec (drop n bs)) (λ b m. ok (a, b) (n + m)) (d a (drop n bs)) (λ b m. other)) e

check-never : {A : Type 0} (C : Codec A) (test : A → ℕ) → Never C → Never (check C test)
unfolding check dec_check
check-never C test c bs e = then_never (C.dec bs) (λ a n. gate (test a) a n) (c bs) (λ a n. gate-never (test a) a n) e

map-never : {A B : Type 0} (c : List ℕ → Res A) (f : A → B) (bs : List ℕ) → (c bs ≡ no 0 → ⊥) → dec_map c f bs ≡ no 0 → ⊥
unfolding dec_map
map-never c f bs h e = then_never (c bs) (λ a n. ok (f a) n) h (λ a n. other) e

module _ {A B : Type 0} (C : Codec A) (f : A → B) (g : B → A) (same : (a : A) → C.Good a → g (f a) ≡ a) where
  via-never : Never C → Never (via C f g same)
  unfolding via
  via-never c bs e = map-never C.dec f bs (c bs) e

always-never : {A : Type 0} (x : A) → Never (always x)
unfolding always
always-never x bs e = other e

raw-never : (n : ℕ) → Never (raw n)
unfolding raw dec_raw
raw-never n bs e = pick-never (leb n (length bs)) (ok (take n bs) n) 5 other e

uint-never : (k : ℕ) → Never (uint k)
unfolding uint held via raw dec_raw
uint-never k bs e = map-never _ _ bs (raw-never k bs) e

either-never : {A : Type 0} (t : Bool) (C D : Codec A) → Never C → Never D → Never (either t C D)
unfolding either
either-never true C D c d = c
either-never false C D c d = d

flag-never : Never flag
unfolding flag
flag-never = via-never _ _ _ _ (check-never _ _ (uint-never 1))

opt-never : {A : Type 0} (C : Codec A) (blank : A) → Never C → Never (opt C blank)
unfolding opt
opt-never C blank c = dep-never flag (λ t. either t C (always blank)) flag-never (λ t. either-never t C (always blank) c (always-never blank))

module _ {A : Type 0} (C : Codec A) (blank : A) (c : Never C) where
  vec-by : (n : ℕ) (bs : List ℕ) → dec_vec C.dec n bs ≡ no 0 → ⊥
  unfolding dec_vec dec_seq
  vec-by zero bs e = other e
  vec-by (suc n) bs e =
      map-never (dec_seq (dec_vec C.dec n) (λ l. C.dec)) snoc bs
      (then_never (dec_vec C.dec n bs) (λ l k. and_then (C.dec (drop k bs)) (λ a m. ok (l, a) (k + m))) (vec-by n bs)
      (λ l k. then_never (C.dec (drop k bs)) (λ a m. ok (l, a) (k + m)) (c (drop k bs)) (λ a m. other))) e

  vec-never : (n : ℕ) → Never (vec C blank n)
  unfolding vec
  vec-never n = vec-by n

whole-never : {A : Type 0} (C : Codec A) → Never C → (bs : List ℕ) → whole C bs ≡ no 0 → ⊥
unfolding whole
whole-never C c bs e = then_never (C.dec bs) (λ a n. pick (eqb n (length bs)) (ok a n) (no malformed)) (c bs) (λ a n. pick-never (eqb n (length bs)) (ok a n) 5 other) e

-- a box: its size and its bytes, and then what is in them
module _ {A : Type 0} (C : Codec A) (bound : ℕ) (c : Never C) where
  abbrev box : Codec (ℕ × List ℕ)
  box = dep (check (uint 2) (λ n. pick (leb n bound) 0 too_large)) raw

  box-never : Never box
  box-never = dep-never (check (uint 2) (λ n. pick (leb n bound) 0 too_large)) raw (check-never _ _ (uint-never 2)) raw-never

  inside : (bs : List ℕ) {x : ℕ × List ℕ} {n : ℕ} (r : Res A) → box.dec bs ≡ ok x n → whole C x.1 ≡ r → (boxed C bound).dec bs ≡ no 0 → ⊥
  inside bs (ok a m) p q e = other (sym (boxed-ok C bound bs p q) ∙ e)
  inside bs {x} (no k) p q e = whole-never C c x.1 (q ∙ sym (boxed-no-2 C bound bs p q) ∙ e)

  boxed-by : (bs : List ℕ) (r : Res (ℕ × List ℕ)) → box.dec bs ≡ r → (boxed C bound).dec bs ≡ no 0 → ⊥
  boxed-by bs (ok x n) p e = inside bs (whole C x.1) p refl e
  boxed-by bs (no k) p e = box-never bs (p ∙ ap no (number (sym (boxed-no-1 C bound bs p) ∙ e)))

  boxed-never : Never (boxed C bound)
  boxed-never bs e = boxed-by bs (box.dec bs) refl e

-- ---- an attestation

slot-id-never : Never slot_id
unfolding slot_id
slot-id-never = check-never _ _ (uint-never 2)

incarnation-never : Never incarnation
unfolding incarnation
incarnation-never = check-never _ _ (uint-never 8)

identity-never : Never identity
unfolding identity
identity-never = via-never _ _ _ _ (dep-never _ _ slot-id-never (λ a. incarnation-never))

choice-never : (low high : ℕ) → Never (choice low high)
unfolding choice
choice-never low high = check-never _ _ (uint-never 1)

string-never : (bound : ℕ) → Never (string bound)
unfolding string sized
string-never bound = check-never _ _ (dep-never (check (uint 2) (λ n. pick (leb n bound) 0 too_large)) raw (check-never _ _ (uint-never 2)) raw-never)

spiffe-id-never : Never spiffe_id
unfolding spiffe_id
spiffe-id-never = via-never _ _ _ _ (string-never _)

three : {A B C : Type 0} (a : Codec A) (b : Codec B) (c : Codec C) → Never a → Never b → Never c → Never (dep (dep a (λ x. b)) (λ x. c))
three a b c p q r = dep-never _ _ (dep-never _ _ p (λ x. q)) (λ x. r)

four : {A B C D : Type 0} (a : Codec A) (b : Codec B) (c : Codec C) (d : Codec D) → Never a → Never b → Never c → Never d → Never (dep (dep (dep a (λ x. b)) (λ x. c)) (λ x. d))
four a b c d p q r s = dep-never _ _ (three a b c p q r) (λ x. s)

claims-never : Never claims
unfolding claims claims_request claims_slot claims_names claims_end times version
claims-never =
    via-never _ _ _ _
    (four _ _ _ _
    (via-never _ _ _ _ (three _ _ _ (via-never _ _ _ _ (check-never _ _ (uint-never 2))) (raw-never 16) (raw-never 32)))
    (via-never _ _ _ _ (four _ _ _ _ (raw-never 32) identity-never (raw-never 32) (raw-never 32)))
    (via-never _ _ _ _ (four _ _ _ _ (uint-never 8) spiffe-id-never spiffe-id-never (raw-never 32)))
    (via-never _ _ _ _
    (four _ _ _ _ (choice-never _ _) (raw-never 32) (via-never _ _ _ _ (four _ _ _ _ (uint-never 8) (uint-never 8) (uint-never 8) (uint-never 8))) (raw-never 64))))

attestation-never : Never attestation
unfolding attestation
attestation-never = check-never _ _ claims-never

pub attestation-refused : (bs : List ℕ) → decode_lost_voter_attestation bs ≡ no 0 → ⊥
unfolding decode_lost_voter_attestation bounded
attestation-refused bs e = pick-never (leb (length bs) max_attestation_bytes) (whole attestation bs) 4 (whole-never attestation attestation-never bs) e

-- ---- a table

log-id-never : Never log_id
unfolding log_id
log-id-never = via-never _ _ _ _ (dep-never _ _ (uint-never 8) (λ a. uint-never 8))

optional-never : Never optional_log_id
unfolding optional_log_id
optional-never = via-never _ _ _ _ (opt-never _ _ log-id-never)

epoch-never : Never epoch
unfolding epoch
epoch-never = check-never _ _ (uint-never 8)

count-never : Never slot_count
unfolding slot_count
count-never = check-never _ _ (uint-never 1)

binding-never : Never binding
unfolding binding
binding-never = via-never _ _ _ _ (three _ _ _ (raw-never 32) (raw-never 32) (uint-never 8))

member-never : Never member
unfolding member
member-never = via-never _ _ _ _ (dep-never _ _ identity-never (λ a. binding-never))

configuration-never : Never configuration
unfolding configuration members padded
configuration-never = via-never _ _ _ _ (dep-never _ _ (dep-never _ _ epoch-never (λ a. count-never)) (λ p. via-never _ _ _ _ (vec-never member blank_voter_slot_member member-never p.1)))

result-never : Never replacement_result
unfolding replacement_result result_head
result-never =
    via-never _ _ _ _
    (four _ _ _ _ (via-never _ _ _ _ (four _ _ _ _ (raw-never 16) (raw-never 32) incarnation-never (uint-never 8))) epoch-never (choice-never _ _) log-id-never)

slot-never : Never slot
unfolding slot slot_member
slot-never =
    via-never _ _ _ _
    (three _ _ _ (via-never _ _ _ _ (three _ _ _ identity-never (uint-never 8) binding-never)) (choice-never _ _) (opt-never replacement_result blank_voter_replacement_result result-never))

slots-never : (n : ℕ) → Never (slots n)
unfolding slots padded
slots-never n = via-never _ _ _ _ (vec-never slot blank_voter_slot_record slot-never n)

snapshot-never : Never snapshot
unfolding snapshot snapshot_id
snapshot-never = via-never _ _ _ _ (three _ _ _ log-id-never (via-never _ _ _ _ (string-never _)) (raw-never 32))

cuts-never : Never three_cuts
unfolding three_cuts
cuts-never = via-never _ _ _ _ (three _ _ _ optional-never optional-never optional-never)

replacement-never : Never replacement
unfolding replacement change evidence
replacement-never =
    via-never _ _ _ _
    (four _ _ _ _ (uint-never 8) (boxed-never attestation max_attestation_bytes attestation-never)
    (via-never _ _ _ _ (three _ _ _ configuration-never configuration-never (choice-never _ _)))
    (via-never _ _ _ _ (four _ _ _ _ log-id-never (opt-never snapshot blank_voter_snapshot_evidence snapshot-never) cuts-never cuts-never)))

front-never : Never table_front
unfolding magic_and_version table_head
front-never =
    dep-never _ _
    (three _ _ _ (via-never _ _ _ _ (check-never _ _ (dep-never _ _ (raw-never 4) (λ a. uint-never 2))))
    (via-never _ _ _ _ (four _ _ _ _ (raw-never 32) (raw-never 32) (uint-never 8) epoch-never)) count-never)
    (λ p. slots-never p.1)

table-never : Never table
unfolding table
table-never = via-never _ _ _ _ (dep-never _ _ front-never (λ a. opt-never replacement blank_voter_replacement_record replacement-never))

pub table-refused : (bs : List ℕ) → decode_voter_slot_table bs ≡ no 0 → ⊥
unfolding decode_voter_slot_table bounded
table-refused bs e =
    let judged : VoterSlotTable → ℕ → Res VoterSlotTable = λ t n. gate (number_of (validity t)) t n in
    pick-never (leb (length bs) max_table_bytes) (and_then (whole table bs) judged) 4
    (then_never (whole table bs) judged (whole-never table table-never bs) (λ t n. gate-never (number_of (validity t)) t n)) e
