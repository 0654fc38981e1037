-- What is asked of a table, from the answers of its judges to what the exported functions give and leave.
-- Assumes nothing.
use Rattle.std.specs.Prelude.{ℕ, ◌≤◌, ◌<◌, ◌≡◌, refl, Bool, true, false, cond, List, length, eqb, leb, Result, Err}
use Rattle.identity.specs.declared.answer.Refusal.{Refusal}
use Rattle.std.proofs.Common.{sym, ◌∙◌, arith, le-leb, ne_eqb}
use Rattle.std.proofs.Math.Path.{ap}
use Rattle.std.proofs.lemmas.Bool.{false≢true, lt-leb}
use Rattle.identity.specs.Answer.{is_accepted, number_of, number_of_refusal, Answer, BadRecord}
use Rattle.identity.specs.AnswerLaws.{accepted-is-0, number-injective}
use Rattle.format.specs.Combinators.{Bytes}
use Rattle.format.specs.Res.{Res}
use Rattle.format.specs.Res.Res.{ok, no}
use Rattle.format.specs.Through.{whole}
use Rattle.records.specs.TestLaws.{cond-false, cond-true}
use Rattle.records.specs.declared.records.LostVoterAttestationV1.{LostVoterAttestationV1}
use Rattle.records.specs.declared.records.VoterSlotTable.{VoterSlotTable}
use Rattle.codec.specs.Codec.{decode_voter_slot_table, decode_lost_voter_attestation}
use Rattle.control.specs.Judgement.{Addition, Move, Verdict}
use Rattle.control.specs.Judgement.Verdict.{kept, moves}
use Rattle.control.specs.Judgement.Verdict.{refused as refuses}
use Rattle.control.specs.ObserveSight.{answer_of_observed, verdict_of_observed}
use Rattle.control.specs.Verdicts.{answer_of, verdict_of}
use Rattle.journal.specs.declared.replay.Mark.{Mark}
use Rattle.journal.specs.declared.replay.Mark.TheVariants.{Tb, Mk, Ad, Bg, Ob, Unknown}
use Rattle.journal.specs.declared.step.Called.{Called}
use Rattle.journal.specs.declared.step.Called.TheVariants.{Command, Observation}
use Rattle.journal.specs.Records.{begin_body, marker_body, advance_body, observation_body}
use Rattle.journal.specs.RefusalLaws.{attestation-refused}
use Rattle.journal.specs.Replay.{Asked, Asking, Standing, advance_asked, answered, asking, attested, bad_record, begin_asked, called, formed, marker_asked, observation_asked, step}
use Rattle.journal.specs.Replay.Asking.{bad, refused, asks}
use Rattle.journal.specs.Replay.Standing.{absent, stands}
use Rattle.journal.specs.Step.{Judges, answer_of_called, is_changing, is_made, made_by}
use Rattle.journal.proofs.StepLaws.{step-called}
use Rattle.voter_slots.specs.Calls.{asked_of, command_of, is_formed, marked_command, most_body, observation_of, settled}
use Rattle.voter_slots.specs.declared.result.VoterSlotsResult.{VoterSlotsResult}
use Rattle.voter_slots.specs.Export.{ReadAs, leaves, said, with_table, written}
use Rattle.voter_slots.specs.ExportLaws.{read-accepted, read_as}

-- ---- what is asked, told apart

unfoldable kind_of : Asking → ℕ
kind_of bad = 0
kind_of (refused k) = 1
kind_of (asks a) = 2

unfoldable number_in : Asking → ℕ
number_in bad = 1
number_in (refused k) = k
number_in (asks a) = 1

not-bad : (k : ℕ) → bad ≡ refused k → ⊥
unfolding kind_of
not-bad k e = let n : ◌≡◌ {A = ℕ} 0 1 = ap kind_of e in omega arith

not-asks : (a : Asked) (k : ℕ) → asks a ≡ refused k → ⊥
unfolding kind_of
not-asks a k e = let n : ◌≡◌ {A = ℕ} 2 1 = ap kind_of e in omega arith

same_number : (j k : ℕ) → refused j ≡ refused k → j ≡ k
unfolding number_in
same_number j k e = ap number_in e

-- ---- no attestation is refused by 0

attested-never : (bs : List ℕ) (next : LostVoterAttestationV1 → Asked) (r : Res LostVoterAttestationV1) → decode_lost_voter_attestation bs ≡ r → attested r next ≡ refused 0 → ⊥
unfolding attested
attested-never bs next (ok a n) p e = not-asks (next a) 0 e
attested-never bs next (no k) p e = attestation-refused bs (p ∙ ap (λ (x : ℕ). no x) (same_number k 0 e))

formed-never : {A : Type 0} (r : Res A) (next : A → Asking) → ((a : A) → next a ≡ refused 0 → ⊥) → formed r next ≡ refused 0 → ⊥
unfolding formed
formed-never (ok a n) next h e = h a e
formed-never (no k) next h e = not-bad 0 e

pub never-zero : (mark : Mark) (body : List ℕ) → asking mark body ≡ refused 0 → ⊥
unfolding asking
never-zero Tb body e = not-bad 0 e
never-zero Mk body e = formed-never (whole marker_body body) (λ b. asks (marker_asked b)) (λ b. not-asks (marker_asked b) 0) e
never-zero Ad body e = formed-never (whole advance_body body) (λ b. asks (advance_asked b)) (λ b. not-asks (advance_asked b) 0) e
never-zero Bg body e =
    formed-never (whole begin_body body) (λ b. attested (decode_lost_voter_attestation b.attestation) (begin_asked b))
    (λ b. attested-never b.attestation (begin_asked b) (decode_lost_voter_attestation b.attestation) refl) e
never-zero Ob body e = formed-never (whole observation_body body) (λ b. asks (observation_asked b)) (λ b. not-asks (observation_asked b) 0) e
never-zero Unknown body e = not-bad 0 e

-- ---- a table that is refused

pub refused-is : (x : Asking) (bs out : List ℕ) (answer : Answer) → decode_voter_slot_table bs ≡ no (number_of answer)
    → leaves (number_of (cond (is_formed x) answer BadRecord)) out ≡ asked_of x bs out
unfolding asked_of with_table
refused-is bad bs out answer d = refl
refused-is (refused k) bs out answer d = ap (λ r. with_table r out (λ t. leaves k out)) (sym d)
refused-is (asks a) bs out answer d = ap (λ r. with_table r out (λ t. settled (answered t a) out)) (sym d)

-- ---- a table that was read

unfoldable table_of : VoterSlotTable → Standing → VoterSlotTable
table_of t absent = t
table_of t (stands u) = u

pub same-table : (t u : VoterSlotTable) → stands t ≡ stands u → t ≡ u
unfolding table_of
same-table t u e = ap (table_of t) e

-- a refusal of a call
settled-no : (a : Answer) (u : VoterSlotTable) (out : List ℕ) (k : ℕ) → k ≡ number_of a → (k ≡ 0 → ⊥) → settled (a, u) out ≡ leaves k out
settled-no a u out k e h =
    ap (λ b. cond b (written u out) (leaves (number_of a) out)) (accepted-is-0 a)
    ∙ ap (λ (n : ℕ). cond (eqb n 0) (written u out) (leaves n out)) (sym e) ∙ cond-false (eqb k 0) (written u out) (leaves k out) (ne_eqb k 0 h)

given_is : (x : Asking) (a : Answer) (u t : VoterSlotTable) (bs out : List ℕ) {n : ℕ} → decode_voter_slot_table bs ≡ ok t n → (x ≡ refused 0 → ⊥)
    → ◌≡◌ {A = ℕ × Standing} (called t x) (number_of a, stands u) → settled (a, u) out ≡ asked_of x bs out
unfolding called asked_of with_table
given_is bad a u t bs out d h e = let n : bad_record ≡ number_of a = λ i. (e i).0 in settled-no a u out bad_record n (λ z. omega arith)
given_is (refused k) a u t bs out d h e =
    let n : k ≡ number_of a = λ i. (e i).0 in
    settled-no a u out k n (λ z. h (ap (λ (j : ℕ). refused j) z)) ∙ ap (λ r. with_table r out (λ x. leaves k out)) (sym d)
given_is (asks q) a u t bs out d h e =
    let n : number_of (answered t q).0 ≡ number_of a = λ i. (e i).0 in
    let s : (answered t q).0 ≡ a = number-injective (answered t q).0 a n in
    let v : (answered t q).1 ≡ u = same-table (answered t q).1 u (λ i. (e i).1) in
    (λ i. settled (sym s i, sym v i) out) ∙ ap (λ r. with_table r out (λ x. settled (answered x q) out)) (sym d)

-- what was judged of the body, made
pub asked-ok : (bs : List ℕ) (t : VoterSlotTable) (mark : Mark) (body out : List ℕ) (c : Called) → Bytes bs → ReadAs bs t → Judges t mark body c
    → settled (answer_of_called c, made_by t body c) out ≡ asked_of (asking mark body) bs out
unfolding step
asked-ok bs t mark body out c z e j =
    given_is (asking mark body) (answer_of_called c) (made_by t body c) t bs out (read_as bs t e).1 (never-zero mark body)
    (step-called t (read-accepted bs t z e) mark body c j)

-- ---- what was judged, settled

change-by : (v : Verdict Move) → is_made v ≡ true → is_accepted (answer_of v) ≡ true
change-by (refuses answer) h = absurd (false≢true h)
change-by kept h = absurd (false≢true h)
change-by (moves m) h = refl

observed-by : (v : Verdict Addition) → is_made v ≡ true → is_accepted (answer_of_observed v) ≡ true
observed-by (refuses answer) h = absurd (false≢true h)
observed-by kept h = absurd (false≢true h)
observed-by (moves m) h = refl

-- a change is accepted
pub change-accepted : (c : Called) → is_changing c ≡ true → is_accepted (answer_of_called c) ≡ true
change-accepted (Command judged) h = change-by (verdict_of judged) h
change-accepted (Observation observed) h = observed-by (verdict_of_observed observed) h

-- a refusal that is passed on
pub passed-err : (x : Result VoterSlotsResult Refusal) (e : Refusal) (out : List ℕ) → x ≡ Err e → ◌≡◌ {A = VoterSlotsResult × List ℕ} (said x, out) (leaves (number_of_refusal e) out)
passed-err x e out r = ap (λ (y : Result VoterSlotsResult Refusal). (said y, out)) r

-- one that is what is settled
pub settled-err : (x : Result VoterSlotsResult Refusal) (e : Refusal) (a : Answer) (u : VoterSlotTable) (out : List ℕ) → x ≡ Err e → Err e ≡ a
    → ◌≡◌ {A = VoterSlotsResult × List ℕ} (said x, out) (settled (a, u) out)
settled-err x e a u out r h = passed-err x e out r ∙ ap (λ (b : Answer). settled (b, u) out) h

-- what is refused changes nothing
pub refused-stays : (c : Called) (e : Refusal) → Err e ≡ answer_of_called c → is_changing c ≡ false
refused-stays c e h = by (is_changing c) refl
  where
    by : (b : Bool) → is_changing c ≡ b → is_changing c ≡ false
    by true p = absurd (false≢true (ap is_accepted h ∙ change-accepted c p))
    by false p = p

pub settles : (a : Answer) (u : VoterSlotTable) (out : List ℕ) → is_accepted a ≡ true → written u out ≡ settled (a, u) out
settles a u out h = sym (cond-true (is_accepted a) (written u out) (leaves (number_of a) out) h)

pub settles-not : (a : Answer) (u : VoterSlotTable) (out : List ℕ) → is_accepted a ≡ false → leaves (number_of a) out ≡ settled (a, u) out
settles-not a u out h = sym (cond-false (is_accepted a) (written u out) (leaves (number_of a) out) h)

-- ---- marks

unfoldable code : Mark → ℕ
code Tb = 0
code Mk = 1
code Ad = 2
code Bg = 3
code Ob = 4
code Unknown = 5

no-observation : (a b c d : Bool) → cond a (cond b Mk (cond c Ad (cond d Bg Unknown))) Unknown ≡ Ob → ⊥
unfolding code
no-observation true true c d e = let n : ◌≡◌ {A = ℕ} 1 4 = ap code e in omega arith
no-observation true false true d e = let n : ◌≡◌ {A = ℕ} 2 4 = ap code e in omega arith
no-observation true false false true e = let n : ◌≡◌ {A = ℕ} 3 4 = ap code e in omega arith
no-observation true false false false e = let n : ◌≡◌ {A = ℕ} 5 4 = ap code e in omega arith
no-observation false b c d e = let n : ◌≡◌ {A = ℕ} 5 4 = ap code e in omega arith

pub command-only : (mark len : ℕ) → command_of mark len ≡ Ob → ⊥
unfolding command_of marked_command
command-only mark len e = no-observation (leb len most_body) (eqb mark 19787) (eqb mark 16708) (eqb mark 16967) e

pub observation-fits : (len : ℕ) → len ≤ most_body → observation_of len ≡ Ob
unfolding observation_of
observation-fits len h = rw (le-leb len most_body h)

pub observation-long : (len : ℕ) → most_body < len → observation_of len ≡ Unknown
unfolding observation_of
observation-long len h = rw (lt-leb len most_body h)

pub too_long : (bs body out : List ℕ) → most_body < length body → leaves bad_record out ≡ asked_of (asking (observation_of (length body)) body) bs out
unfolding asking asked_of
too_long bs body out h = ap (λ (m : Mark). asked_of (asking m body) bs out) (sym (observation-long (length body) h))

-- of the form, at a table that is refused
pub formed-refused : (x : Asking) (bs out : List ℕ) (answer : Answer) → is_formed x ≡ true → decode_voter_slot_table bs ≡ no (number_of answer)
    → leaves (number_of answer) out ≡ asked_of x bs out
formed-refused x bs out answer h d = ap (λ (b : Bool). leaves (number_of (cond b answer BadRecord)) out) (sym h) ∙ refused-is x bs out answer d
