-- What a `Writer` says: that there is room for some bytes, and that it wrote them.
-- Assumes nothing.
use Rattle.std.specs.Prelude.{ℕ, ◌+◌, ◌≤◌, ◌≡◌, Bool, cond, List, [], ◌++◌, length}
use Rattle.format.specs.List.{flag}
use Rattle.format.specs.Put.{put}
use Rattle.records.specs.declared.records.LostVoterAttestationV1.{LostVoterAttestationV1}
use Rattle.layout.specs.Layout.{claims}
use Rattle.writer.specs.Size.{attestation_size}
use Rattle.writer.specs.declared.writer.Writer.{Writer}

-- there is room for e
abbrev pub HasRoom : List ℕ → Writer → Type 0
HasRoom e w = w.at + length e ≤ length w.buffer.now

-- w wrote e and became v: the same buffer, the bytes of e at the place, and the place after them
abbrev pub Wrote : List ℕ → Writer → Writer → Type 0
Wrote e w v = (v.buffer.ghost_name ≡ w.buffer.ghost_name) × (v.at ≡ w.at + length e) × (v.buffer.now ≡ put e w.at w.buffer.now)

-- the bytes of a part that may be absent: a flag, and after a yes its own
unfoldable pub optional_bytes : {A : Type 0} → (A → List ℕ) → Bool → A → List ℕ
optional_bytes f b a = flag.enc b ++ cond b (f a) []

-- an attestation takes as many bytes as Size says, as any does that its type holds (`claims-long` of
-- SizeLaws): its size is written before it
abbrev pub IsSized : LostVoterAttestationV1 → Type 0
IsSized a = attestation_size a ≡ length (claims.enc a)
