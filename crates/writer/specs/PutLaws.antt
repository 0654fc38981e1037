-- What the bytes of a form are, as a `Writer` writes them: what the proofs of the writers use.
-- `writing` has what nearly all of them do.
-- Assumes nothing.
use Rattle.std.specs.Prelude.{ℕ, zero, suc, ◌+◌, ◌≤◌, ◌<◌, ◌≡◌, Bool, true, false, cond, List, length, take, get_or, flat_map}
use Rattle.std.proofs.Common.{arith, add-one, sym, ◌∙◌, length-append, length-take-le, take-take, take-suc}
use Rattle.std.proofs.lemmas.List.{flat_map_more, take_all}
use Rattle.std.proofs.lemmas.List.Folds.{length-flat_map-take}
use Rattle.std.proofs.Math.Path.{refl, ap, ap₂}
use mathlib.Core.List.{[], ◌++◌, append-nil}
use Rattle.format.specs.Combinators.{Codec, dep, via, check, always}
use Rattle.format.specs.List.{vec, enc_vec, padded, flag, of_flag, either, opt}
use Rattle.format.specs.Num.{uint, raw, raw_same}
use Rattle.format.specs.Through.{boxed, boxed-bytes}
use Rattle.format.specs.Put.{writes_two, writes_three, writes_four, put, put_next, put_none, length-put}
use Rattle.records.specs.Blank.{blank_voter_slot_log_id, blank_voter_slot_member, blank_voter_slot_record, blank_voter_replacement_record}
use Rattle.layout.specs.Parts.{table_head_of}
use Rattle.writer.specs.Writes.{optional_bytes, HasRoom, Wrote}
use Rattle.writer.specs.declared.writer.Writer.{Writer}
use Rattle.records.specs.declared.records.VoterSlotTable.{VoterSlotTable}
use Rattle.records.specs.declared.records.SpiffeId.{SpiffeId}
use Rattle.records.specs.declared.records.SnapshotId.{SnapshotId}
use Rattle.records.specs.declared.records.LostVoterAttestationV1.{LostVoterAttestationV1}
use Rattle.records.specs.declared.records.VoterSlotMember.{VoterSlotMember}
use Rattle.records.specs.declared.records.VoterSlotRecord.{VoterSlotRecord}
use Rattle.records.specs.declared.records.OptionalLogId.{OptionalLogId}
use Rattle.layout.specs.Layout.{log_id, optional_log_id, slot_id, incarnation, epoch, slot_count, choice, string, sized, spiffe_id, snapshot_id, version, magic, magic_and_version, table_head, replacement, table, member, members, slot, slots, claims, attestation}

-- the test of a number writes nothing
module _ (x : ℕ) where
  pub of_slot_id : slot_id.enc x ≡ (uint 2).enc x
  unfolding slot_id check
  of_slot_id = refl

  pub of_incarnation : incarnation.enc x ≡ (uint 8).enc x
  unfolding incarnation check
  of_incarnation = refl

  pub of_epoch : epoch.enc x ≡ (uint 8).enc x
  unfolding epoch check
  of_epoch = refl

  pub of_slot_count : slot_count.enc x ≡ (uint 1).enc x
  unfolding slot_count check
  of_slot_count = refl

  pub of_choice : (low high : ℕ) → (choice low high).enc x ≡ (uint 1).enc x
  unfolding choice check
  of_choice low high = refl

-- the version is the number 1
pub of_version : (u : Unit {0}) → version.enc u ≡ (uint 2).enc 1
unfolding version via check
of_version u = refl

-- the magic stands before it
pub of_head : (u : Unit {0}) → magic_and_version.enc u ≡ (raw 4).enc magic ++ version.enc tt
unfolding magic_and_version version via dep check
of_head u = refl

-- text is written as its length and its bytes
pub of_spiffe_id : (s : SpiffeId) → spiffe_id.enc s ≡ (uint 2).enc s.len ++ take s.len s.bytes
unfolding spiffe_id string sized via dep check raw
of_spiffe_id s = refl

pub of_snapshot_id : (s : SnapshotId) → snapshot_id.enc s ≡ (uint 2).enc s.len ++ take s.len s.bytes
unfolding snapshot_id string sized via dep check raw
of_snapshot_id s = refl

-- a flag is 1 for a yes and 0 for a no
pub of_yes : (b : Bool) → flag.enc b ≡ (uint 1).enc (of_flag b)
unfolding flag via check
of_yes b = refl

-- a part that may be absent: a flag, and after a yes the bytes
module _ {A : Type 0} (f : A → List ℕ) (b : Bool) (a : A) where
  pub of_some : b ≡ true → optional_bytes f b a ≡ flag.enc b ++ f a
  unfolding optional_bytes
  of_some e = ap (λ t. flag.enc b ++ cond t (f a) []) e

  pub of_none : b ≡ false → optional_bytes f b a ≡ flag.enc b
  unfolding optional_bytes
  of_none e = ap (λ t. flag.enc b ++ cond t (f a) []) e ∙ append-nil (flag.enc b)

  -- there is room for the flag
  pub flag_first : length (flag.enc b) ≤ length (optional_bytes f b a)
  unfolding optional_bytes
  flag_first = omega (arith, length-append (flag.enc b) (cond b (f a) []))

-- and so the form has it
module _ {A : Type 0} (C : Codec A) (blank : A) where
  pub of_opt : (b : Bool) (a : A) → (opt C blank).enc (b, a) ≡ optional_bytes C.enc b a
  unfolding optional_bytes opt dep either always
  of_opt true a = refl
  of_opt false a = refl

-- an attestation in its box: its size, and its bytes
pub of_boxed : (a : LostVoterAttestationV1) → (boxed attestation 8192).enc a ≡ (uint 2).enc (length (claims.enc a)) ++ claims.enc a
unfolding attestation check
of_boxed a = boxed-bytes attestation 8192 a

-- a cut, or none
pub of_optional_log_id : (o : OptionalLogId) → optional_log_id.enc o ≡ (opt log_id blank_voter_slot_log_id).enc (o.is_some, o.cut)
unfolding optional_log_id via
of_optional_log_id o = refl

-- a turn of a loop over a list, whose bytes are written one after another: those so far and those
-- of one more, for which there is room
module _ {A : Type 0} (f : A → List ℕ) (l : List A) where
  pub all_none : flat_map f (take 0 l) ≡ []
  all_none = refl

  pub all_step : (i : ℕ) (d : A) → i < length l
      → (flat_map f (take (i + 1) l) ≡ flat_map f (take i l) ++ f (get_or l i d)) × (length (flat_map f (take i l)) + length (f (get_or l i d)) ≤ length (flat_map f l))
  all_step i d h = (
    ap (λ n. flat_map f (take n l)) (add-one i) ∙ ap (flat_map f) (take-suc l i d h)
        ∙ sym (flat_map_more f [] (take i l) (get_or l i d)),
    length-flat_map-take f l i d h,
  )

-- and the writer that has written those so far
module _ {A : Type 0} (f : A → List ℕ) (l : List A) (i : ℕ) (x : A) (v w : Writer) (room : HasRoom (flat_map f l) v) (h : i < length l) (e : x ≡ get_or l i x) (so : Wrote (flat_map f (take i l)) v w) where
  pub all_room : HasRoom (f x) w
  all_room =
      omega (arith, (all_step f l i x h).1, ap (λ y. length (f y)) e, so.1, ap length so.2, length-put (flat_map f (take i l)) v.at v.buffer.now (omega (arith, (all_step f l i x h).1)))

  pub all_more : (u : Writer) → Wrote (f x) w u → Wrote (flat_map f (take (i + 1) l)) v u
  all_more u s =
      let now : flat_map f (take (i + 1) l) ≡ flat_map f (take i l) ++ f x = (all_step f l i x h).0 ∙ ap (λ y. flat_map f (take i l) ++ f y) (sym e) in
      let long = length-append (flat_map f (take i l)) (f x) in (
        s.0 ∙ so.0,
        omega (arith, s.1, so.1, ap length now, long),
        s.2 ∙ ap₂ (put (f x)) so.1 so.2
            ∙ sym (put_next (flat_map f (take i l)) (f x) v.at v.buffer.now (omega (arith, (all_step f l i x h).1, ap (λ y. length (f y)) e, long)))
            ∙ ap (λ b. put b v.at v.buffer.now) (sym now),
      )

-- the first n of a list, in a place of nine
module _ {A : Type 0} (C : Codec A) (blank : A) where
  all_vec : (n : ℕ) (l : List A) → n ≤ length l → enc_vec C blank n l ≡ flat_map C.enc (take n l)
  unfolding enc_vec
  all_vec zero l h = refl
  all_vec (suc n) l h =
      ap (λ m. m ++ C.enc (get_or l n blank))
      (all_vec n (take n l) (omega (arith, length-take-le n l (omega arith))) ∙ ap (flat_map C.enc) (take-take n n l (omega arith)))
      ∙ flat_map_more C.enc [] (take n l) (get_or l n blank)
      ∙ ap (flat_map C.enc) (sym (take-suc l n blank h))

  vec_front : (n : ℕ) (l : List A) → length (take n l) ≡ n → enc_vec C blank n (take n l) ≡ flat_map C.enc (take n l)
  vec_front n l h = all_vec n (take n l) (omega (arith, h)) ∙ ap (flat_map C.enc) (take-take n n l (omega arith))

-- the members in use
pub of_members : (n : ℕ) (l : List VoterSlotMember) → length (take n l) ≡ n → (members n).enc l ≡ flat_map member.enc (take n l)
unfolding members padded via vec
of_members n l h = vec_front member blank_voter_slot_member n l h

-- and the slots
pub of_slots : (n : ℕ) (l : List VoterSlotRecord) → length (take n l) ≡ n → (slots n).enc l ≡ flat_map slot.enc (take n l)
unfolding slots padded via vec
of_slots n l h = vec_front slot blank_voter_slot_record n l h

pub ruleset writing =
    (writes_two, writes_three, writes_four, of_slot_id, of_incarnation, of_epoch, of_slot_count, of_choice, of_version, of_head, of_spiffe_id, of_snapshot_id, raw_same, length-take-le, put_next, length-put, length-append)

pub ruleset optional = (of_optional_log_id, of_yes, of_some, of_none, flag_first, of_opt, writing)

pub ruleset listed = (of_members, of_slots, all_none, all_step, take_all, put_none, writing)

-- a table, one part after the other
pub of_table : (t : VoterSlotTable) → table.enc t
    ≡ (((magic_and_version.enc tt ++ table_head.enc (table_head_of t)) ++ slot_count.enc t.count) ++ (slots t.count).enc t.slots) ++ (opt replacement blank_voter_replacement_record).enc (t.has_replacement, t.replacement)
unfolding table via dep
of_table t = refl

pub ruleset tabled = (of_table, of_slots, optional)
