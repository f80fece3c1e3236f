-- A byte of a store in which a field was written: as it was, or one of those written. Assumes nothing.
use mathlib.Core.Path.{◌≡◌, sym, ap, ◌∙◌, subst}
use mathlib.Core.Logic.{◌⊎◌, inl, inr, ⊎_elim, ◌≢◌}
use mathlib.Core.List.{List, [], ◌∷◌}
use Prim.Native.Nat.{ℕ, zero, suc, ◌+◌, ◌-◌, ◌≤◌, ◌<◌}
use native.Mathlib.Omega.{arith}
use native.Mathlib.Decide.{ℕ_discrete, dec_lt}
use lib.ListN.{length, get_or}
use Rattle.usb_store.specs.Access.{Within, byte_at, with_byte, with_bytes}
use Rattle.usb_store.proofs.Fields.{Apart, byte_other, bytes_same, byte_of_bytes}

-- the byte of field g is not among the n from field f on
abbrev pub Beside : ℕ → ℕ → ℕ → Type 0
Beside f n g = (f + n ≤ g) ⊎ (g < f)

-- fields of one place, and a byte of another place or beside them
pub spot_apart : (p f n q g : ℕ) → f + n ≤ 1152 → g < 1152 → (q ≡ p → Beside f n g) → Apart p f n q g 1
spot_apart p f n q g r l h = go (dec_lt p q) (dec_lt q p)
  where
    go : Dec (p < q) → Dec (q < p) → Apart p f n q g 1
    go (yes a) b = inl (omega arith)
    go (no a) (yes b) = inr (omega arith)
    go (no a) (no b) = ⊎_elim (λ x. inl (omega arith)) (λ x. inr (omega arith)) (h (omega arith))

module _ (s : List ℕ) (p f : ℕ) (vs : List ℕ) where
  pub byte_beside : (q g : ℕ) → f + length vs ≤ 1152 → g < 1152 → (q ≡ p → Beside f (length vs) g)
      → byte_at (with_bytes s p f vs) q g ≡ byte_at s q g
  byte_beside q g r l h = byte_other s p f vs q g (spot_apart p f (length vs) q g r l h)

  pub other_place : (q g : ℕ) → f + length vs ≤ 1152 → g < 1152 → q ≢ p → byte_at (with_bytes s p f vs) q g ≡ byte_at s q g
  other_place q g r l n = byte_beside q g r l (λ e. absurd (n e))

-- a byte other than the one written
pub byte_else : (s : List ℕ) (p f v q g : ℕ) → f < 1152 → g < 1152 → (q ≡ p → g ≢ f) → byte_at (with_byte s p f v) q g ≡ byte_at s q g
byte_else s p f v q g r l h = byte_beside s p f (v ∷ []) q g (omega arith) l (λ e. go (dec_lt g f) (h e))
  where
    go : Dec (g < f) → g ≢ f → Beside f 1 g
    go (yes a) n = inr a
    go (no a) n = inl (omega (arith, n))

pub data Cell (s t : List ℕ) (p f : ℕ) (vs : List ℕ) (q g : ℕ) : Type 0 where
  kept : byte_at t q g ≡ byte_at s q g → Cell s t p f vs q g
  written : (i : ℕ) → i < length vs → q ≡ p → g ≡ f + i → byte_at t q g ≡ get_or vs i 0 → Cell s t p f vs q g

pub cell : (s : List ℕ) (p f : ℕ) (vs : List ℕ) → Within s p f (length vs) → (q g : ℕ) → g < 1152 → Cell s (with_bytes s p f vs) p f vs q g
cell s p f vs w q g l = go (ℕ_discrete q p) (dec_lt g f) (dec_lt g (f + length vs))
  where
    new : (i : ℕ) → i < length vs → byte_at (with_bytes s p f vs) p (f + i) ≡ get_or vs i 0
    new i l = byte_of_bytes (with_bytes s p f vs) p f (length vs) i l ∙ ap (λ (l : List ℕ). get_or l i 0) (bytes_same s p f vs w)

    go : Dec (q ≡ p) → Dec (g < f) → Dec (g < f + length vs) → Cell s (with_bytes s p f vs) p f vs q g
    go (no a) b c = kept (other_place s p f vs q g w.room l a)
    go (yes a) (yes b) c = kept (byte_beside s p f vs q g w.room l (λ _. inr b))
    go (yes a) (no b) (no c) = kept (byte_beside s p f vs q g w.room l (λ _. inl (omega arith)))
    go (yes a) (no b) (yes c) =
        let i : g ≡ f + (g - f) = omega arith in
        written (g - f) (omega arith) a i
        (ap (λ (k : ℕ). byte_at (with_bytes s p f vs) k g) a ∙ ap (byte_at (with_bytes s p f vs) p) i ∙ new (g - f) (omega arith))

-- what holds of the byte written, and of the byte as it was, holds of the byte
pub one_case : (s : List ℕ) (p f v : ℕ) → Within s p f 1 → (q g : ℕ) → g < 1152 → (P : ℕ → Type 0) → (q ≡ p → g ≡ f → P v) → P (byte_at s q g)
    → P (byte_at (with_byte s p f v) q g)
one_case s p f v w q g l P new old = go (cell s p f (v ∷ []) w q g l)
  where
    go : Cell s (with_byte s p f v) p f (v ∷ []) q g → P (byte_at (with_byte s p f v) q g)
    go (kept e) = subst P (sym e) old
    go (written zero i a b e) = subst P (sym e) (new a (omega arith))
    go (written (suc k) i a b e) = absurd (omega arith)
