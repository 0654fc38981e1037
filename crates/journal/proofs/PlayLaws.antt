-- Laws of a log that is played in pieces: the record at a place, one more turn of a loop over the
-- records, the whole of `play`.
-- Assumes nothing.
use Prim.Native.Nat.{ℕ, zero, suc, ◌+◌, ◌-◌, ◌/◌, ◌^◌, ◌<◌, ◌≤◌, min}
use native.Mathlib.Omega.{arith}
use Rattle.std.proofs.Math.Nat.{div-add-mod'}
use Rattle.std.specs.Prelude.{◌≡◌, Bool, ◌&&◌, ◌||◌, drop, eqb, leb, ltb, Result, Ok, Err, IfOk, is_ok}
use Rattle.std.specs.Result.{result_and, result_unwrap_or}
use Rattle.std.proofs.Math.Path.{refl, sym, ap, ap₂, subst}
use Rattle.std.proofs.Common.{◌∙◌, Fits, w8, length-take, length-append, drop-drop}
use Rattle.std.proofs.Math.Bool.{true, false, cond, not}
use Rattle.std.proofs.lemmas.Bool.{false≢true}
use mathlib.Core.List.{List, [], ◌∷◌, ◌++◌, append_assoc, append-nil}
use Rattle.std.proofs.Math.ListN.{length, get_or, take, length-drop}
use Rattle.std.proofs.Math.Seq.{get_or-drop}
use borrow.Author.Tests.{eqb-true, eqb-false, leb-true, leb-false, ltb-true, ltb-false, eq-eqb, ne_eqb, not-true}
use Rattle.identity.specs.Answer.{is_accepted, number_of, Answer, Accepted}
use Rattle.identity.specs.declared.answer.Refusal.{Refusal}
use Rattle.layout.specs.Told.{told_whole}
use Rattle.identity.specs.AnswerLaws.{number-small}
use Rattle.format.specs.Combinators.{Bytes, dep, held, via}
use Rattle.format.specs.Put.{Put, put, length-put, put-nothing, then}
use Rattle.format.specs.Res.{Res, no_ok, ok-count, ok-value}
use Rattle.format.specs.Res.Res.{ok, no}
use Rattle.format.specs.Num.{raw, uint}
use Rattle.records.specs.Validation.{validate}
use Rattle.records.specs.ValidationLaws.{is-accepted}
use Rattle.codec.specs.Codec.{decode_voter_slot_table}
use Rattle.codec.specs.CodecLaws.{read-valid}
use Rattle.identity.specs.Utf8Laws.{and_left, and_right}
use Rattle.records.specs.declared.records.VoterSlotTable.{VoterSlotTable}
use Rattle.control.specs.Control.{full}
use Rattle.journal.specs.declared.play.Journal.{Journal}
use Rattle.journal.specs.declared.play.Opened.{Opened}
use Rattle.journal.specs.declared.play.Place.{Place}
use Rattle.journal.specs.declared.record.Record.{Record}
use Rattle.journal.specs.declared.replay.Mark.{Mark}
use Rattle.journal.specs.declared.replay.Mark.TheVariants.{Unknown}
use Rattle.journal.specs.Records.{frame, is_known_mark, mark_of, sized_bytes}
use Rattle.journal.specs.Replay.{Entry, Standing, asking, called, ended, line_of, line, lines, opened, opening, revision_of, run, shown_mark, step, turn}
use Rattle.journal.specs.Replay.Entry.{framed, broken}
use Rattle.journal.specs.Replay.Standing.{absent, stands}
use Rattle.journal.specs.ReplayLaws.{decimal-long, ended-append, frame-cut, frame-got, frame-short, frame-sizeless, frame-takes, frame-unknown, head_mark, head_size, lines-append, mark-long, run-append, run_long}
use Rattle.journal.specs.Step.{Judges, ValidStanding, answer_of_called, made_by}
use Rattle.journal.proofs.StepLaws.{made-valid, step-called}
use Rattle.journal.specs.declared.step.Called.{Called}
use Rattle.journal.specs.Play.{Goes, PutTurn, Safe, cut_short, ends_in, first_ready, first_taken, is_broken, is_standing, journal_after, journal_of, longest_line, opened_to, place_after, play_of, ready, record_at, record_by, standing, standing_in, start_answer, start_of, table_in, taken, text_of, turn_text, turns_after, turns_of}

-- ---- the record at a place

-- a whole record has the mark and the size of its head
frame_is : (bs : List ℕ) {p : Mark × List ℕ} {n : ℕ} → frame.dec bs ≡ ok p n → (p.1 ≡ take (head_size bs) (drop 4 bs)) × (n ≡ 4 + head_size bs)
frame_is bs {p} {n} e = by (leb 2 (length bs)) refl (is_known_mark (head_mark bs)) refl (leb 4 (length bs)) refl (leb (4 + head_size bs) (length bs)) refl
  where
    by : (a : Bool) → leb 2 (length bs) ≡ a → (b : Bool) → is_known_mark (head_mark bs) ≡ b → (c : Bool) → leb 4 (length bs) ≡ c → (d : Bool) → leb (4 + head_size bs) (length bs) ≡ d
        → (p.1 ≡ take (head_size bs) (drop 4 bs)) × (n ≡ 4 + head_size bs)
    by false h b i c j d k = absurd (no_ok (sym (frame-short bs (leb-false 2 (length bs) h)) ∙ e))
    by true h false i c j d k = absurd (no_ok (sym (frame-unknown bs (leb-true 2 (length bs) h) i) ∙ e))
    by true h true i false j d k = absurd (no_ok (sym (frame-sizeless bs (leb-true 2 (length bs) h) i (leb-false 4 (length bs) j)) ∙ e))
    by true h true i true j false k = absurd (no_ok (sym (frame-cut bs (leb-true 4 (length bs) j) i (leb-false (4 + head_size bs) (length bs) k)) ∙ e))
    by true h true i true j true k =
        let z = sym e ∙ frame-got bs i (leb-true (4 + head_size bs) (length bs) k) in
        (ap (λ (x : Mark × List ℕ). x.1) (ok-value z), ok-count z)

-- its body has at most 65,535 bytes
frame-few : (bs : List ℕ) {p : Mark × List ℕ} {n : ℕ} → Bytes bs → frame.dec bs ≡ ok p n → length p.1 < 2 ^ 16
unfolding frame dep sized_bytes via raw uint held
frame-few bs {p} z e = (frame.good bs z e).1.0.0

-- what ends the reading is some bytes
broken-some : (last : Bool) (bs : List ℕ) → is_broken last bs ≡ true → 0 < length bs
unfolding is_broken
broken-some last [] h = absurd (by last h)
  where
    by : (b : Bool) → (b && false) ≡ true → ⊥
    by true k = false≢true k
    by false k = false≢true k
broken-some last (b ∷ bs) h = omega arith

-- a record that is broken, or none, does what one with no known mark does
unknown-step : (s : Standing) (mark : Mark) (body : List ℕ) → step s (broken mark) ≡ step s (framed Unknown body)
unfolding step opening called asking
unknown-step absent mark body = refl
unknown-step (stands t) mark body = refl

unknown-stays : (s : Standing) (body : List ℕ) → (step s (framed Unknown body)).1 ≡ s
unfolding step opening called asking
unknown-stays absent body = refl
unknown-stays (stands t) body = refl

abbrev pub body_in : List ℕ → Record → List ℕ
body_in bs r = take (r.end - r.body) (drop r.body bs)

-- where the record takes bytes
pub record Some (bs : List ℕ) (last : Bool) (at : ℕ) (r : Record) : Type 0 where
  pub entry : Entry
  pub shown : shown_mark entry ≡ r.mark
  pub steps : (s : Standing) → step s entry ≡ step s (framed r.asks (body_in bs r))
  pub ends : ends_in (entry ∷ []) ≡ r.ends
  pub ready-is : (k : ℕ) → ready (suc k) last (drop at bs) ≡ entry ∷ ready (cond r.ends 0 k) last (drop r.end bs)
  pub taken_is : (k : ℕ) → r.end + taken (cond r.ends 0 k) last (drop r.end bs) ≡ at + taken (suc k) last (drop at bs)

pub record Here (bs : List ℕ) (last : Bool) (at : ℕ) (r : Record) : Type 0 where
  pub ahead : at ≤ r.end
  pub first : r.body ≤ r.end
  pub inside : r.end ≤ length bs
  pub few : r.end - r.body ≤ 65535
  pub none : r.end ≡ at → (r.asks ≡ Unknown) × ((k : ℕ) → (ready (suc k) last (drop at bs) ≡ []) × (taken (suc k) last (drop at bs) ≡ 0))
  pub some : (r.end ≡ at → ⊥) → Some bs last at r

module _ (bs : List ℕ) (last : Bool) (at : ℕ) (h : at ≤ length bs) (z : Bytes bs) where
  rest : List ℕ
  rest = drop at bs

  rest-bytes : Bytes rest
  unfolding Bytes rest
  rest-bytes i = rw get_or-drop (z (at + i))

  module _ (b : Bool) (x : Res (Mark × List ℕ)) (f : is_broken last rest ≡ b) (e : frame.dec rest ≡ x) where
    ready_at : (k : ℕ) → ready (suc k) last rest ≡ first_ready (mark_of (take 2 rest)) b x (λ n. ready k last (drop n rest))
    unfolding ready
    ready_at k = ap₂ (λ (c : Bool) (y : Res (Mark × List ℕ)). first_ready (mark_of (take 2 rest)) c y (λ n. ready k last (drop n rest))) f e

    taken_at : (k : ℕ) → taken (suc k) last rest ≡ first_taken b (length rest) x (λ n. taken k last (drop n rest))
    unfolding taken
    taken_at k = ap₂ (λ (c : Bool) (y : Res (Mark × List ℕ)). first_taken c (length rest) y (λ n. taken k last (drop n rest))) f e

  here-by : (b : Bool) (x : Res (Mark × List ℕ)) → is_broken last rest ≡ b → frame.dec rest ≡ x → Here bs last at (record_by (mark_of (take 2 rest)) b at (length bs) x)
  unfolding record_by first_ready first_taken ends_in ready taken rest
  here-by b (ok p n) f e =
      let t = frame-takes rest e in
      let w = frame.within rest e in
      let l = length-drop at bs in
      let i = frame_is rest e in
      let few = frame-few rest rest-bytes e in
      let s : take (at + n - (at + 4)) (drop (at + 4) bs) ≡ p.1 =
      ap₂ take (let q : at + n - (at + 4) ≡ head_size rest = omega arith in q) (sym (drop-drop 4 at bs)) ∙ sym i.0 in
      let len : length p.1 ≡ head_size rest = ap length i.0 ∙ (length-take (head_size rest) (drop 4 rest) ∙ (let d = length-drop 4 rest in omega arith)) in
      record {
        ahead = omega arith;
        first = omega arith;
        inside = omega arith;
        few = omega arith;
        none = λ q. absurd (omega arith);
        some = λ _. record {
          entry = framed p.0 p.1;
          shown = refl;
          steps = λ g. ap (λ (y : List ℕ). step g (framed p.0 y)) (sym s);
          ends = refl;
          ready-is = λ k. ready_at b (ok p n) f e k ∙ ap (λ (y : List ℕ). framed p.0 p.1 ∷ ready k last y) (drop-drop n at bs);
          taken_is = λ k.
              let a = taken_at b (ok p n) f e k in
              let d = ap (λ (y : List ℕ). taken k last y) (drop-drop n at bs) in
              omega arith;
        };
      }
  here-by true (no k) f e =
      let l = length-drop at bs in
      let b = broken-some last rest f in
      record {
        ahead = omega arith;
        first = omega arith;
        inside = omega arith;
        few = omega arith;
        none = λ q. absurd (omega arith);
        some = λ _. record {
          entry = broken (mark_of (take 2 rest));
          shown = refl;
          steps = λ g. unknown-step g (mark_of (take 2 rest)) (body_in bs (cut_short (mark_of (take 2 rest)) true at (length bs)));
          ends = refl;
          ready-is = λ j. ready_at true (no k) f e j;
          taken_is = λ j. let a = taken_at true (no k) f e j in omega arith;
        };
      }
  here-by false (no k) f e =
      record {
        ahead = omega arith;
        first = omega arith;
        inside = omega arith;
        few = omega arith;
        none = λ _. (refl, λ j. (ready_at false (no k) f e j, taken_at false (no k) f e j));
        some = λ n. absurd (n refl);
      }

  pub here : Here bs last at (record_at bs at last)
  unfolding record_at rest
  here = here-by (is_broken last rest) (frame.dec rest) refl refl

-- the record that the code found
pub found : (bs : List ℕ) (last : Bool) (at : ℕ) → at ≤ length bs → ((i : ℕ) → Fits w8 (get_or bs i 0)) → (r : Record) → r ≡ record_at bs at last → Here bs last at r
unfolding Bytes
found bs last at h fits r e =
    let bytes : Bytes bs = λ i. omega (arith, fits i) in
    subst (Here bs last at) (sym e) (here bs last at h bytes)

-- ---- from one place to a later one

or-false : (b : Bool) → b ≡ (b || false)
or-false true = refl
or-false false = refl

or-both : (a b c : Bool) → ((a || b) || c) ≡ (a || (b || c))
or-both true b c = refl
or-both false b c = refl

ends-append : (es fs : List Entry) → ends_in (es ++ fs) ≡ (ends_in es || ends_in fs)
unfolding ends_in
ends-append [] fs = refl
ends-append (framed mark body ∷ es) fs = ends-append es fs
ends-append (broken mark ∷ es) fs = refl

pub goes_none : (bs : List ℕ) (last : Bool) (o : Opened) (xs : List ℕ) → o.place.written ≤ length xs → Goes bs last o xs o xs
unfolding lines run ended ends_in
goes_none bs last o xs h =
    record {
      between = [];
      ready-then = refl;
      taken_then = refl;
      text = put-nothing o.place.written xs;
      fits = h;
      long = refl;
      counted = omega arith;
      finished = or-false o.place.ended;
      stood = refl;
      kept = λ k. (k, refl);
    }

pub goes_then : {bs : List ℕ} {last : Bool} {a b c : Opened} {xs ys zs : List ℕ} → Goes bs last a xs b ys → Goes bs last b ys c zs → Goes bs last a xs c zs
goes_then {bs} {last} {a} {b} {c} {xs} {ys} {zs} g h =
    let es = g.between in
    let fs = h.between in
    let s = standing_in a in
    let n = a.place.count + 1 in
    let left = lines n (run s es) in
    let right = lines (b.place.count + 1) (run (standing_in b) fs) in
    let long : n + length (run s es) ≡ b.place.count + 1 = let k = run_long s es in let q = g.counted in omega arith in
    let same : lines n (run s (es ++ fs)) ≡ left ++ right =
    ap (lines n) (run-append s es fs)
    ∙ (lines-append n (run s es) (run (ended s es) fs)
    ∙ ap₂ (λ (k : ℕ) (x : Standing). left ++ lines k (run x fs)) long (sym g.stood)) in
    let room : a.place.written + length (left ++ right) ≤ length xs =
    let p = g.text.next in let q = h.text.next in let w = h.fits in let l = g.long in let m = length-append left right in omega arith in
    record {
      between = es ++ fs;
      ready-then = append_assoc es fs (ready c.place.turns last (drop c.place.read bs)) ∙ (ap (λ (x : List Entry). es ++ x) h.ready-then ∙ g.ready-then);
      taken_then = h.taken_then ∙ g.taken_then;
      text = subst (λ (x : List ℕ). Put x a.place.written xs zs c.place.written) (sym same) (then right g.text room h.text);
      fits = let w = h.fits in let l = g.long in omega arith;
      long = h.long ∙ g.long;
      counted = let p = g.counted in let q = h.counted in let l = length-append es fs in omega arith;
      finished =
          h.finished
          ∙ (ap (λ (x : Bool). x || ends_in fs) g.finished ∙ (or-both a.place.ended (ends_in es) (ends_in fs) ∙ ap (λ (x : Bool). a.place.ended || x) (sym (ends-append es fs))));
      stood = h.stood ∙ (ap (λ (x : Standing). ended x fs) g.stood ∙ sym (ended-append s es fs));
      kept = λ k. let p = h.kept k in let q = g.kept p.0 in (q.0, p.1 ∙ q.1);
    }

-- ---- one more turn

fewer : (b : Bool) (n : ℕ) → 0 < n → cond b 0 (n - 1) + 1 ≤ n
fewer true n h = omega arith
fewer false n h = omega arith

module _ (bs : List ℕ) (last : Bool) (o : Opened) (xs : List ℕ) (safe : Safe bs (length xs) o) (some : 0 < o.place.turns) (r : Record) (at : Here bs last o.place.read r) where
  module _ (answer : Answer) (stood : Bool) (table : VoterSlotTable)
      (steps : step (standing_in o) (framed r.asks (body_in bs r)) ≡ (number_of answer, standing stood table))
      (keeps : stood ≡ false → (o.stands ≡ false) × (table ≡ o.table))
      (revision : ℕ) (revised : revision ≡ revision_of (standing stood table)) (q : Place) (ys : List ℕ) where
    abbrev next : Opened
    next = record { place = q; stands = stood; table = table }

    more : o.place.turns ≡ suc (o.place.turns - 1)
    more = omega arith

    -- no record
    none-turn : r.end ≡ o.place.read → q ≡ place_after true o.place r q.written → Put [] o.place.written xs ys q.written → Goes bs last o xs next ys
    unfolding place_after ready taken lines run ended ends_in
    none-turn e f p =
        let n = at.none e in
        let k = n.1 (o.place.turns - 1) in
        let turns : q.turns ≡ 0 = ap (λ (x : Place). x.turns) f in
        let here : q.read ≡ o.place.read = ap (λ (x : Place). x.read) f in
        let w = safe.lines_fit in
        let v = p.next in
        record {
          between = [];
          ready-then =
              ap (λ (x : ℕ). ready x last (drop q.read bs)) turns ∙ (sym k.0 ∙ ap (λ (x : ℕ). ready x last (drop o.place.read bs)) (sym more));
          taken_then =
              let a = ap (λ (x : ℕ). taken x last (drop q.read bs)) turns in
              let b = ap (λ (x : ℕ). taken x last (drop o.place.read bs)) more in
              let c = k.1 in
              omega arith;
          text = p;
          fits = omega arith;
          long = ap length p.bytes ∙ length-put [] o.place.written xs (omega arith);
          counted = let a = ap (λ (x : Place). x.count) f in omega arith;
          finished = ap (λ (x : Place). x.ended) f ∙ or-false o.place.ended;
          stood =
              ap (λ (x : ℕ × Standing). x.1) (sym steps)
              ∙ (ap (λ (m : Mark). (step (standing_in o) (framed m (body_in bs r))).1) n.0 ∙ unknown-stays (standing_in o) (body_in bs r));
          kept = keeps;
        }

    -- a record, and its line
    some_turn : (r.end ≡ o.place.read → ⊥) → q ≡ place_after false o.place r q.written
        → Put (line_of (o.place.count + 1) r.mark (number_of answer) revision) o.place.written xs ys q.written
        → length (line_of (o.place.count + 1) r.mark (number_of answer) revision) ≤ longest_line → Goes bs last o xs next ys
    unfolding place_after lines run ended
    some_turn e f p short =
        let n = at.some e in
        let d = n.entry in
        let s = standing_in o in
        let did : step s d ≡ (number_of answer, standing stood table) = n.steps s ∙ steps in
        let turns : q.turns ≡ cond r.ends 0 (o.place.turns - 1) = ap (λ (x : Place). x.turns) f in
        let there : q.read ≡ r.end = ap (λ (x : Place). x.read) f in
        let w = safe.lines_fit in
        let v = p.next in
        let shown_line : line_of (o.place.count + 1) r.mark (number_of answer) revision ≡ line (o.place.count + 1) (turn s d) ++ [] =
        ap₂ (λ (m : Mark) (x : ℕ). line_of (o.place.count + 1) m (number_of answer) x) (sym n.shown) revised
        ∙ (ap (λ (x : ℕ × Standing). line_of (o.place.count + 1) (shown_mark d) x.0 (revision_of x.1)) (sym did)
        ∙ sym (append-nil (line (o.place.count + 1) (turn s d)))) in
        record {
          between = d ∷ [];
          ready-then =
              ap₂ (λ (x y : ℕ). d ∷ ready x last (drop y bs)) turns there
              ∙ (sym (n.ready-is (o.place.turns - 1)) ∙ ap (λ (x : ℕ). ready x last (drop o.place.read bs)) (sym more));
          taken_then =
              ap₂ (λ (x y : ℕ). y + taken x last (drop y bs)) turns there
              ∙ (n.taken_is (o.place.turns - 1) ∙ ap (λ (x : ℕ). o.place.read + taken x last (drop o.place.read bs)) (sym more));
          text = subst (λ (x : List ℕ). Put x o.place.written xs ys q.written) shown_line p;
          fits = omega arith;
          long = ap length p.bytes ∙ length-put _ o.place.written xs (omega arith);
          counted = let a = ap (λ (x : Place). x.count) f in omega arith;
          finished = ap (λ (x : Place). x.ended) f ∙ ap (λ (x : Bool). o.place.ended || x) (sym n.ends);
          stood = ap (λ (x : ℕ × Standing). x.1) (sym did);
          kept = keeps;
        }

    pub goes-turn : PutTurn o.place r answer revision xs ys q → Goes bs last o xs next ys
    goes-turn p = by (eqb r.end o.place.read) refl p.place p.text p.short
      where
        by : (b : Bool) → eqb r.end o.place.read ≡ b → q ≡ place_after b o.place r q.written
            → Put (turn_text b o.place r answer revision) o.place.written xs ys q.written → length (turn_text b o.place r answer revision) ≤ longest_line → Goes bs last o xs next ys
        by true e f t l = none-turn (eqb-true r.end o.place.read e) f t
        by false e f t l = some_turn (eqb-false r.end o.place.read e) f t l

    pub safe-turn : PutTurn o.place r answer revision xs ys q → ValidStanding (standing stood table) → Safe bs (length ys) next
    unfolding place_after
    safe-turn p valid = by (eqb r.end o.place.read) p.place p.text p.short
      where
        by : (b : Bool) → q ≡ place_after b o.place r q.written
            → Put (turn_text b o.place r answer revision) o.place.written xs ys q.written → length (turn_text b o.place r answer revision) ≤ longest_line → Safe bs (length ys) next
        by true f t l =
            let w = safe.lines_fit in
            let v = t.next in
            let g = ap length t.bytes ∙ length-put [] o.place.written xs (omega arith) in
            let a = ap (λ (x : Place). x.read) f in
            let b = ap (λ (x : Place). x.turns) f in
            let c = ap (λ (x : Place). x.count) f in
            let i = safe.within in
            let k = safe.counts-fit in
            record { within = omega arith; lines_fit = omega arith; counts-fit = omega arith; valid = λ _. valid }
        by false f t l =
            let w = safe.lines_fit in
            let v = t.next in
            let g = ap length t.bytes ∙ length-put _ o.place.written xs (omega arith) in
            let a = ap (λ (x : Place). x.read) f in
            let b = ap (λ (x : Place). x.turns) f in
            let u = fewer r.ends o.place.turns some in
            let c = ap (λ (x : Place). x.count) f in
            let i = at.inside in
            let k = safe.counts-fit in
            record { within = omega arith; lines_fit = omega arith; counts-fit = omega arith; valid = λ _. valid }

-- ---- the whole of it

module _ (j : Journal) (bs : List ℕ) (last : Bool) (xs : List ℕ) where
  abbrev start : Opened
  start = start_of (start_answer j.stands j.table) j (length xs)

  turns-some : (b : Bool) (n : ℕ) → 0 < cond b 0 n → b ≡ false
  turns-some true n h = absurd (omega arith)
  turns-some false n h = refl

  accepted-by : (b c : Bool) → (b || not c) ≡ false → c ≡ true
  accepted-by true c h = absurd (false≢true (sym h))
  accepted-by false true h = refl
  accepted-by false false h = absurd (false≢true (sym h))

  stands-valid : (b : Bool) (t : VoterSlotTable) → start_answer b t ≡ Accepted → ValidStanding (standing b t)
  unfolding standing
  stands-valid true t h = h
  stands-valid false t h = tt

  turns-few : (b : Bool) (n m : ℕ) → (cond b 0 (min n m) ≤ n) × (cond b 0 (min n m) ≤ m)
  turns-few true n m = (omega arith, omega arith)
  turns-few false n m = (omega arith, omega arith)

  pub start-safe : j.count ≤ full → Safe bs (length xs) start
  unfolding turns_of
  start-safe h =
      let answer = start_answer j.stands j.table in
      let stops = j.ended || not (is_accepted answer) in
      let f = turns-few stops (length xs / longest_line) (full - j.count) in
      let d = div-add-mod' (length xs) longest_line in
      let x = f.0 in
      let y = f.1 in
      record {
        within = omega arith;
        lines_fit = omega arith;
        counts-fit = omega arith;
        valid = λ k. stands-valid j.stands j.table (is-accepted answer (accepted-by j.ended (is_accepted answer) (turns-some stops _ k)));
      }

  standing-is : (b : Bool) (t : VoterSlotTable) → is_standing (standing b t) ≡ b
  unfolding standing
  standing-is true t = refl
  standing-is false t = refl

  table_is : (b : Bool) (t u : VoterSlotTable) → (b ≡ false → t ≡ u) → t ≡ table_in u (standing b t)
  unfolding standing
  table_is true t u h = refl
  table_is false t u h = h refl

  pub played : (to : Opened) (ys : List ℕ) → Goes bs last start xs to ys → to.place.turns ≡ 0
      → ◌≡◌ {A = (Answer × (ℕ × (ℕ × Journal))) × List ℕ}
      ((start_answer j.stands j.table, (to.place.read, (to.place.written, journal_of to))), ys) (play_of j bs last xs)
  unfolding play_of journal_after ready taken
  played to ys g e =
      let most = start.place.turns in
      let es = g.between in
      let answer = start_answer j.stands j.table in
      let all : es ≡ ready most last bs =
      sym (append-nil es) ∙ (ap (λ (n : ℕ). es ++ ready n last (drop to.place.read bs)) (sym e) ∙ g.ready-then) in
      let reads : to.place.read ≡ taken most last bs =
      let a = ap (λ (n : ℕ). taken n last (drop to.place.read bs)) e in let b = g.taken_then in omega arith in
      let writes : to.place.written ≡ length (text_of j es) = let a = g.text.next in omega arith in
      let journal : journal_of to ≡ journal_after j es =
      λ i. record {
        stands = (sym (standing-is to.stands to.table) ∙ ap is_standing g.stood) i;
        count = g.counted i;
        ended = g.finished i;
        table = (table_is to.stands to.table j.table (λ k. (g.kept k).1) ∙ ap (table_in j.table) g.stood) i;
      } in
      let bytes : ys ≡ put (text_of j es) 0 xs = g.text.bytes in
      (λ i. ((answer, (reads i, (writes i, journal i))), bytes i))
      ∙ ap (λ (l : List Entry). ((answer, (taken most last bs, (length (text_of j l), journal_after j l))), put (text_of j l) 0 xs)) all

-- ---- a record with no table

pub opened_valid : (body : List ℕ) → Bytes body → (r : Result VoterSlotTable Refusal) → told_whole r (length body) ≡ decode_voter_slot_table body
    → (opened_to r ≡ opened (decode_voter_slot_table body)) × IfOk r (λ t. validate t ≡ Accepted)
unfolding opened
opened_valid body z (Ok t) e = (ap opened e, read-valid body z (sym e))
opened_valid body z (Err x) e = (ap opened e, tt)

-- ---- a line is no longer than the longest

pub line-short : (number : ℕ) (mark : Mark) (answer : Answer) (revision : ℕ) → number < 2 ^ 64 → revision < 2 ^ 64 → length (line_of number mark (number_of answer) revision) ≤ longest_line
unfolding line_of
line-short number mark answer revision a b =
    let x = decimal-long number a in
    let y = decimal-long (number_of answer) (let s = number-small answer in omega arith) in
    let z = decimal-long revision b in
    let m = mark-long mark in
    simp length-append (omega arith)

-- ---- no more is read than there is, and no more is written than has room

taken-first : (bs : List ℕ) (last : Bool) (rest : ℕ → ℕ) → ((n : ℕ) → rest n ≤ length (drop n bs)) → (b : Bool) (r : Res (Mark × List ℕ)) → frame.dec bs ≡ r
    → first_taken b (length bs) r rest ≤ length bs
unfolding first_taken
taken-first bs last rest h b (ok p n) e = let w = frame.within bs e in let l = length-drop n bs in let k = h n in omega arith
taken-first bs last rest h true (no k) e = omega arith
taken-first bs last rest h false (no k) e = omega arith

taken-within : (most : ℕ) (last : Bool) (bs : List ℕ) → taken most last bs ≤ length bs
unfolding taken
taken-within zero last bs = omega arith
taken-within (suc most) last bs =
    taken-first bs last (λ n. taken most last (drop n bs)) (λ n. taken-within most last (drop n bs)) (is_broken last bs) (frame.dec bs) refl

put-fits : (e xs : List ℕ) → length (put e 0 xs) ≡ length xs → length e ≤ length xs
unfolding put
put-fits e xs h =
    let a = length-append e (drop (0 + length e) xs) in
    let b = length-drop (0 + length e) xs in
    omega arith

pub play-fits : (j : Journal) (bs : List ℕ) (last : Bool) (xs ys : List ℕ) (answer : Answer) (reads writes : ℕ) (k : Journal)
    → ◌≡◌ {A = (Answer × (ℕ × (ℕ × Journal))) × List ℕ} ((answer, (reads, (writes, k))), ys) (play_of j bs last xs) → length ys ≡ length xs
    → (reads ≤ length bs) × (writes ≤ length xs)
unfolding play_of
play-fits j bs last xs ys answer reads writes k e l =
    let most = turns_of (start_answer j.stands j.table) j.ended j.count (length xs) in
    let text = text_of j (ready most last bs) in
    let a : reads ≡ taken most last bs = ap (λ (x : (Answer × (ℕ × (ℕ × Journal))) × List ℕ). x.0.1.0) e in
    let b : writes ≡ length text = ap (λ (x : (Answer × (ℕ × (ℕ × Journal))) × List ℕ). x.0.1.1.0) e in
    let c : ys ≡ put text 0 xs = ap (λ (x : (Answer × (ℕ × (ℕ × Journal))) × List ℕ). x.1) e in
    let d = taken-within most last bs in
    let f = put-fits text xs (sym (ap length c) ∙ l) in
    (omega arith, omega arith)

-- ---- what the code of a turn needs

module _ (p : Place) (r : Record) (answer : Answer) (revision : ℕ) (xs : List ℕ) where
  pub put-none : r.end ≡ p.read → PutTurn p r answer revision xs xs (record { read = p.read; written = p.written; count = p.count; turns = 0; ended = p.ended })
  unfolding place_after
  put-none e =
      let b = eq-eqb r.end p.read e in
      record {
        place = ap (λ (c : Bool). place_after c p r p.written) (sym b);
        text = subst (λ (c : Bool). Put (turn_text c p r answer revision) p.written xs xs p.written) (sym b) (put-nothing p.written xs);
        short = subst (λ (c : Bool). length (turn_text c p r answer revision) ≤ longest_line) (sym b) (omega arith);
      }

  pub put_some : {ys : List ℕ} {written turns : ℕ} → (r.end ≡ p.read → ⊥) → Put (line_of (p.count + 1) r.mark (number_of answer) revision) p.written xs ys written
      → turns ≡ turns_after p.turns r.ends → p.count + 1 < 2 ^ 64 → revision < 2 ^ 64
      → PutTurn p r answer revision xs ys (record { read = r.end; written = written; count = p.count + 1; turns = turns; ended = p.ended || r.ends })
  unfolding place_after
  put_some {ys} {written} {turns} n t e f g =
      let b = ne_eqb r.end p.read n in
      record {
        place =
            (λ i. record { read = r.end; written = written; count = p.count + 1; turns = e i; ended = p.ended || r.ends })
            ∙ ap (λ (c : Bool). place_after c p r written) (sym b);
        text = subst (λ (c : Bool). Put (turn_text c p r answer revision) p.written xs ys written) (sym b) t;
        short =
            subst (λ (c : Bool). length (turn_text c p r answer revision) ≤ longest_line) (sym b) (line-short (p.count + 1) r.mark answer revision f g);
      }

-- a turn with no table: a table that a TB brings takes the place of the one before
abbrev pub Brought : VoterSlotTable → Result VoterSlotTable Refusal → Answer → Bool → VoterSlotTable → Type 0
Brought before r answer b after =
    ((number_of answer, standing b after) ≡ opened_to r)
    × (ValidStanding (standing b after) × ((b ≡ false → after ≡ before) × (cond b after.revision 0 ≡ revision_of (standing b after))))

brought-by : (before : VoterSlotTable) (r : Result VoterSlotTable Refusal) → IfOk r (λ t. validate t ≡ Accepted)
    → Brought before r (result_and r Accepted) (is_ok r) (result_unwrap_or r before)
unfolding standing revision_of
brought-by before (Ok t) v = (refl, (v, ((λ k. absurd (false≢true (sym k))), refl)))
brought-by before (Err e) v = (refl, (tt, ((λ k. refl), refl)))

pub brought : (before : VoterSlotTable) (r : Result VoterSlotTable Refusal) → IfOk r (λ t. validate t ≡ Accepted)
    → {answer : Answer} {b : Bool} {after : VoterSlotTable} → answer ≡ result_and r Accepted → b ≡ is_ok r → after ≡ result_unwrap_or r before
    → Brought before r answer b after
brought before r v {answer} {b} {after} p q s =
    subst (λ (x : Answer). Brought before r x b after) (sym p)
    (subst (λ (x : Bool). Brought before r (result_and r Accepted) x after) (sym q)
    (subst (Brought before r (result_and r Accepted) (is_ok r)) (sym s) (brought-by before r v)))

pub opens : (o : Opened) (m : Mark) (body : List ℕ) → o.stands ≡ false → step (standing_in o) (framed m body) ≡ opening m body
unfolding step standing
opens o m body h = ap (λ (b : Bool). step (standing b o.table) (framed m body)) h

-- each turn leaves fewer
pub put-less : {p q : Place} {r : Record} {answer : Answer} {revision : ℕ} {xs ys : List ℕ} → PutTurn p r answer revision xs ys q → 0 < p.turns → q.turns < p.turns
unfolding place_after
put-less {p} {q} {r} t h = by (eqb r.end p.read) (ap (λ (x : Place). x.turns) t.place)
  where
    by : (b : Bool) → q.turns ≡ (place_after b p r q.written).turns → q.turns < p.turns
    by true e = omega arith
    by false e = let f = fewer r.ends p.turns h in omega arith

-- the loop's test: some turn is left, and no table stands
pub turn-left : (n : ℕ) (b : Bool) → (ltb 0 n && not b) ≡ true → (0 < n) × (b ≡ false)
turn-left n b h = (ltb-true 0 n (and_left (ltb 0 n) (not b) h), not-true b (and_right (ltb 0 n) (not b) h))

pub turn-none : (n : ℕ) (b : Bool) → (ltb 0 n && not b) ≡ false → b ≡ false → n ≡ 0
turn-none n b h e = by (ltb 0 n) refl (ap (λ (x : Bool). ltb 0 n && not x) (sym e) ∙ h)
  where
    by : (t : Bool) → ltb 0 n ≡ t → (t && true) ≡ false → n ≡ 0
    by true f k = absurd (false≢true (sym k))
    by false f k = let g = ltb-false 0 n f in omega arith

-- a turn with a table
pub valid-at : (t : VoterSlotTable) → ValidStanding (standing true t) → validate t ≡ Accepted
unfolding standing
valid-at t h = h

abbrev pub PlayTurn : VoterSlotTable → Mark → List ℕ → Answer → VoterSlotTable → Type 0
PlayTurn t mark body answer u =
    (step (standing true t) (framed mark body) ≡ (number_of answer, standing true u)) × (ValidStanding (standing true u) × (u.revision ≡ revision_of (standing true u)))

pub play-turn : (t : VoterSlotTable) → validate t ≡ Accepted → (mark : Mark) (body : List ℕ) (called : Called) → Judges t mark body called
    → (answer : Answer) → answer ≡ answer_of_called called → (u : VoterSlotTable) → u ≡ made_by t body called → PlayTurn t mark body answer u
unfolding standing revision_of
play-turn t valid mark body called j answer a u e = (
  step-called t valid mark body called j ∙ ap₂ (λ (x : Answer) (y : VoterSlotTable). (number_of x, stands y)) (sym a) (sym e),
  (ap validate e ∙ made-valid t valid mark body called j, refl),
)

-- the lent bytes keep their number
pub put-long : {p q : Place} {r : Record} {answer : Answer} {revision : ℕ} {xs ys : List ℕ} → PutTurn p r answer revision xs ys q → p.written + longest_line ≤ length xs
    → length ys ≡ length xs
put-long {p} {q} {r} {answer} {revision} {xs} {ys} t h =
    let s = t.short in
    ap length t.text.bytes ∙ length-put _ p.written xs (omega arith)
