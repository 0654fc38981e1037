-- Lines of history, for any state, any calls and any step: from `Step`, what is to be shown of a
-- single call, to `Line`, what then holds of a whole list, whatever its calls are and however many
-- (`line`).
-- Assumes nothing.
use Rattle.std.specs.Prelude.{ℕ, zero, suc, ◌+◌, ◌<◌, ◌≤◌, refl, ◌≡◌, Bool, true, false, cond, List, ◌∷◌, [], ◌⊎◌, ◌↔◌, take}
use Rattle.std.proofs.Common.{ap, sym, subst, ◌∙◌, inl, inr, ⊎_elim, arith}
use Rattle.control.specs.Line.{at, changes}

-- what the theorem speaks of: equality, the revision, a state with its revision struck out, what is
-- valid, what is retired, the open request, its phase's rank
pub record Views (S Id : Type 0) : Type 1 where
  pub same : S → S → Bool
  pub revision : S → ℕ
  pub struck : S → S
  pub Valid : S → Type 0
  pub Retired : S → ℕ → Type 0
  pub Open : S → Id → Type 0
  pub rank : S → ℕ

-- what a call that gets s and returns t owes, with a measure that reads nothing of the revision
pub record Went {S Id : Type 0} (F : Views S Id) (M : S → ℕ) (s t : S) : Type 0 where
  pub moves : (t ≡ s) ⊎ ((F.revision t ≡ F.revision s + 1) × (M s < M t))
  pub valid : F.Valid t
  pub retired : (n : ℕ) → F.Retired s n → F.Retired t n
  pub rank : (id : Id) → F.Open s id → F.Open t id → F.rank s ≤ F.rank t

-- what is to be shown of one call
pub record Step {S Call Id : Type 0} (step : Call → S → S) (F : Views S Id) (M : S → ℕ) : Type 0 where
  pub blind : (s t : S) → F.struck s ≡ F.struck t → M s ≡ M t
  pub same_true : (s t : S) → F.same s t ≡ true → s ≡ t
  pub same_refl : (s : S) → F.same s s ≡ true
  pub went : (c : Call) (s : S) → F.Valid s → Went F M s (step c s)

-- what holds of a whole line
pub record Line {S Call Id : Type 0} (step : Call → S → S) (F : Views S Id) (s : S) (cs : List Call) : Type 0 where
  pub same : (i j : ℕ) → (F.struck (at step s cs i) ≡ F.struck (at step s cs j)) ↔ (F.revision (at step s cs i) ≡ F.revision (at step s cs j))
  pub counted : (i : ℕ) → F.revision (at step s cs i) ≡ F.revision s + changes step F.same s (take i cs)
  pub valid : (i : ℕ) → F.Valid (at step s cs i)
  pub retired : (i j : ℕ) → i ≤ j → (n : ℕ) → F.Retired (at step s cs i) n → F.Retired (at step s cs j) n
  pub phases : (i j : ℕ) → i ≤ j → (id : Id) → ((k : ℕ) → i ≤ k → k ≤ j → F.Open (at step s cs k) id) → F.rank (at step s cs i) ≤ F.rank (at step s cs j)

-- of two numbers one is the lesser
either : (i j : ℕ) → (i ≤ j) ⊎ (j ≤ i)
either zero j = inl (omega arith)
either (suc i) zero = inr (omega arith)
either (suc i) (suc j) = ⊎_elim (λ h. inl (omega arith)) (λ h. inr (omega arith)) (either i j)

module _ {S Call Id : Type 0} (step : Call → S → S) (F : Views S Id) (M : S → ℕ) (one : Step step F M) where
  next-valid : (c : Call) (s : S) → F.Valid s → F.Valid (step c s)
  next-valid c s v = (one.went c s v).valid

  -- ---- a relation that each call keeps holds from each state of a line to each later one
  module _ (R : S → S → Type 0) (rfl : (s : S) → R s s) (tr : (s t u : S) → R s t → R t u → R s u) (by : (c : Call) (s : S) → F.Valid s → R s (step c s)) where
    from_start : (cs : List Call) (s : S) → F.Valid s → (j : ℕ) → R s (at step s cs j)
    from_start cs s v zero = rfl s
    from_start [] s v (suc j) = rfl s
    from_start (c ∷ cs) s v (suc j) = tr s (step c s) (at step (step c s) cs j) (by c s v) (from_start cs (step c s) (next-valid c s v) j)

    between : (cs : List Call) (s : S) → F.Valid s → (i j : ℕ) → i ≤ j → R (at step s cs i) (at step s cs j)
    between cs s v zero j h = from_start cs s v j
    between [] s v (suc i) zero h = rfl s
    between [] s v (suc i) (suc j) h = rfl s
    between (c ∷ cs) s v (suc i) zero h = absurd (omega arith)
    between (c ∷ cs) s v (suc i) (suc j) h = between cs (step c s) (next-valid c s v) i j (omega arith)

  valid-at : (cs : List Call) (s : S) → F.Valid s → (i : ℕ) → F.Valid (at step s cs i)
  valid-at cs s v zero = v
  valid-at [] s v (suc i) = v
  valid-at (c ∷ cs) s v (suc i) = valid-at cs (step c s) (next-valid c s v) i

  -- ---- two states of a line are the same, or the later is larger in revision and in measure
  abbrev Grew : S → S → Type 0
  Grew s t = (s ≡ t) ⊎ ((F.revision s < F.revision t) × (M s < M t))

  grew-tr : (s t u : S) → Grew s t → Grew t u → Grew s u
  grew-tr s t u (inl e) (inl f) = inl (e ∙ f)
  grew-tr s t u (inl e) (inr g) = inr (subst (λ (x : S). (F.revision x < F.revision u) × (M x < M u)) (sym e) g)
  grew-tr s t u (inr g) (inl f) = inr (subst (λ (x : S). (F.revision s < F.revision x) × (M s < M x)) f g)
  grew-tr s t u (inr g) (inr k) = inr (omega arith, omega arith)

  grew-one : (c : Call) (s : S) → F.Valid s → Grew s (step c s)
  grew-one c s v = ⊎_elim (λ e. inl (sym e)) (λ g. inr (omega arith, g.1)) (one.went c s v).moves

  abbrev Same : S → S → Type 0
  Same s t = (F.struck s ≡ F.struck t) ↔ (F.revision s ≡ F.revision t)

  same_of : (s t : S) → Grew s t → Same s t
  same_of s t (inl e) = ((λ _. ap F.revision e), (λ _. ap F.struck e))
  same_of s t (inr g) = ((λ e. let m : M s ≡ M t = one.blind s t e in absurd (omega arith)), (λ e. absurd (omega arith)))

  turned : (s t : S) → Same s t → Same t s
  turned s t e = ((λ h. sym (e.0 (sym h))), (λ h. sym (e.1 (sym h))))

  same_at : (cs : List Call) (s : S) → F.Valid s → (i j : ℕ) → (i ≤ j) ⊎ (j ≤ i) → Same (at step s cs i) (at step s cs j)
  same_at cs s v i j (inl h) = same_of _ _ (between Grew (λ _. inl refl) grew-tr grew-one cs s v i j h)
  same_at cs s v i j (inr h) = turned _ _ (same_of _ _ (between Grew (λ _. inl refl) grew-tr grew-one cs s v j i h))

  -- ---- the revision counts the calls that changed the state
  raised_by : (s t : S) (b : Bool) → F.same t s ≡ b → (t ≡ s) ⊎ ((F.revision t ≡ F.revision s + 1) × (M s < M t)) → F.revision t ≡ F.revision s + cond b 0 1
  raised_by s t true e (inl h) = ap F.revision h ∙ omega arith
  raised_by s t true e (inr g) = absurd (let m : M t ≡ M s = ap M (one.same_true t s e) in omega arith)
  raised_by s t false e (inl h) =
      absurd (let m : F.same s s ≡ false = subst (λ (x : S). F.same x s ≡ false) h e in let k = one.same_refl s in let z : ◌≡◌ {A = ℕ} 0 1 = cc in omega arith)
  raised_by s t false e (inr g) = g.0

  counted-at : (cs : List Call) (s : S) → F.Valid s → (i : ℕ) → F.revision (at step s cs i) ≡ F.revision s + changes step F.same s (take i cs)
  counted-at cs s v zero = omega arith
  counted-at [] s v (suc i) = omega arith
  counted-at (c ∷ cs) s v (suc i) =
      let h = counted-at cs (step c s) (next-valid c s v) i in
      let k = raised_by s (step c s) (F.same (step c s) s) refl (one.went c s v).moves in
      omega arith

  -- ---- a request's phase does not fall while it stays open
  phase-from : (cs : List Call) (s : S) → F.Valid s → (j : ℕ) (id : Id) → ((k : ℕ) → k ≤ j → F.Open (at step s cs k) id) → F.rank s ≤ F.rank (at step s cs j)
  phase-from cs s v zero id o = omega arith
  phase-from [] s v (suc j) id o = omega arith
  phase-from (c ∷ cs) s v (suc j) id o =
      let a = (one.went c s v).rank id (o zero (omega arith)) (o (suc zero) (omega arith)) in
      let b = phase-from cs (step c s) (next-valid c s v) j id (λ k h. o (suc k) (omega arith)) in
      omega arith

  phases-at : (cs : List Call) (s : S) → F.Valid s → (i j : ℕ) → i ≤ j → (id : Id) → ((k : ℕ) → i ≤ k → k ≤ j → F.Open (at step s cs k) id) → F.rank (at step s cs i) ≤ F.rank (at step s cs j)
  phases-at cs s v zero j h id o = phase-from cs s v j id (λ k l. o k (omega arith) l)
  phases-at [] s v (suc i) zero h id o = omega arith
  phases-at [] s v (suc i) (suc j) h id o = omega arith
  phases-at (c ∷ cs) s v (suc i) zero h id o = absurd (omega arith)
  phases-at (c ∷ cs) s v (suc i) (suc j) h id o = phases-at cs (step c s) (next-valid c s v) i j (omega arith) id (λ k l m. o (suc k) (omega arith) (omega arith))

  -- ---- the whole of it
  pub line : (s : S) → F.Valid s → (cs : List Call) → Line step F s cs
  line s v cs = record {
    same = λ i j. same_at cs s v i j (either i j);
    counted = counted-at cs s v;
    valid = valid-at cs s v;
    retired = λ i j h n. between (λ x y. F.Retired x n → F.Retired y n) (λ _ r. r) (λ _ _ _ f g r. g (f r)) (λ c x w. (one.went c x w).retired n) cs s v i j h;
    phases = phases-at cs s v;
  }
