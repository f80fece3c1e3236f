-- Record access, once over the place and the field, and for numbers once over the width: what was written is read back, what
-- lies in another field or another place is as it was, and the store's length is kept. Assumes nothing.
use mathlib.Core.Path.{◌≡◌, sym, ap, ◌∙◌}
use mathlib.Core.Logic.{◌⊎◌, inl, inr, ⊎_elim}
use mathlib.Core.List.{List, [], ◌∷◌}
use Prim.Native.Nat.{ℕ, ◌+◌, ◌*◌, ◌-◌, ◌≤◌, ◌<◌, ◌^◌, min}
use native.Mathlib.Nat.{add_assoc, add-zero}
use native.Mathlib.Omega.{arith}
use lib.ListN.{length, get_or, drop, length-take, length-drop}
use lib.Seq.{get_or-take, get_or-drop, ext_get_or}
use Rattle.usb_types.specs.Numbers.{little_endian, from_little_endian, number_in}
use Rattle.usb_types.proofs.LittleEndian.{length_le, from_le, number_4 as in-list-4}
use Rattle.usb_store.specs.Access.{offset, Within, byte_at, bytes_at, with_byte, with_bytes, number_at, with_number}
use Rattle.usb_store.proofs.Writes.{length_write, write_same, write_other}

-- the m bytes at one field and the n bytes at another have none in common
abbrev pub Apart : ℕ → ℕ → ℕ → ℕ → ℕ → ℕ → Type 0
Apart p f m q g n = (offset p f + m ≤ offset q g) ⊎ (offset q g + n ≤ offset p f)

-- fields of two places are apart
pub places_apart : (p f m q g n : ℕ) → f + m ≤ 1152 → g + n ≤ 1152 → (p < q) ⊎ (q < p) → Apart p f m q g n
places_apart p f m q g n hf hg = ⊎_elim (λ (h : p < q). inl (omega arith)) (λ (h : q < p). inr (omega arith))

-- fields of one place that do not meet are apart
pub fields_apart : (p f m g n : ℕ) → (f + m ≤ g) ⊎ (g + n ≤ f) → Apart p f m p g n
fields_apart p f m g n = ⊎_elim (λ (h : f + m ≤ g). inl (omega arith)) (λ (h : g + n ≤ f). inr (omega arith))

-- where a field ends in the store
pub within_end : (s : List ℕ) (p f n : ℕ) → Within s p f n → offset p f + n ≤ length s
within_end s p f n w = omega arith

bytes_long : (s : List ℕ) (p f n : ℕ) → length (bytes_at s p f n) ≡ min n (length s - offset p f)
unfolding bytes_at
bytes_long s p f n = simp (length-take, length-drop)

pub bytes_most : (s : List ℕ) (p f n : ℕ) → length (bytes_at s p f n) ≤ n
bytes_most s p f n = omega (arith, bytes_long s p f n)

pub bytes_length : (s : List ℕ) (p f n : ℕ) → offset p f + n ≤ length s → length (bytes_at s p f n) ≡ n
bytes_length s p f n h = omega (arith, bytes_long s p f n)

pub bytes_elem : (s : List ℕ) (p f n k : ℕ) → k < n → get_or (bytes_at s p f n) k 0 ≡ get_or s (offset p f + k) 0
unfolding bytes_at
bytes_elem s p f n k h = get_or-take n (drop (offset p f) s) k 0 h ∙ get_or-drop (offset p f) s k 0

-- a byte of a run
pub byte_of_bytes : (s : List ℕ) (p f n k : ℕ) → k < n → byte_at s p (f + k) ≡ get_or (bytes_at s p f n) k 0
unfolding byte_at
byte_of_bytes s p f n k h = rw (← add_assoc (p * 1152) f k) (sym (bytes_elem s p f n k h))

-- ---- the store with a field written

module _ (s : List ℕ) (p f : ℕ) (vs : List ℕ) where
  pub with_length : length (with_bytes s p f vs) ≡ length s
  unfolding with_bytes
  with_length = length_write s (offset p f) vs

  -- a field of the new store is within it where it was within the old
  pub still_within : (q g n : ℕ) → Within s q g n → Within (with_bytes s p f vs) q g n
  still_within q g n v = record { whole = with_length ∙ v.whole; inside = v.inside; room = v.room }

  elem_other : (i : ℕ) → (offset p f + length vs ≤ i) ⊎ (i < offset p f) → get_or (with_bytes s p f vs) i 0 ≡ get_or s i 0
  unfolding with_bytes
  elem_other i a = write_other vs s (offset p f) i (λ k h e. ⊎_elim (λ x. omega arith) (λ x. omega arith) a)

  -- one byte of another field
  pub byte_other : (q g : ℕ) → Apart p f (length vs) q g 1 → byte_at (with_bytes s p f vs) q g ≡ byte_at s q g
  unfolding byte_at
  byte_other q g a = elem_other (offset q g) (⊎_elim (λ x. inl x) (λ x. inr (omega arith)) a)

  -- a run of bytes of another field
  pub bytes_other : (q g n : ℕ) → Apart p f (length vs) q g n → bytes_at (with_bytes s p f vs) q g n ≡ bytes_at s q g n
  bytes_other q g n a = ext_get_or 0 (bytes_at new q g n) (bytes_at s q g n) same_long elem
    where
      new : List ℕ
      new = with_bytes s p f vs

      same_long : length (bytes_at new q g n) ≡ length (bytes_at s q g n)
      same_long = bytes_long new q g n ∙ ap (λ (m : ℕ). min n (m - offset q g)) with_length ∙ sym (bytes_long s q g n)

      spot : (k : ℕ) → k < n → (offset p f + length vs ≤ offset q g + k) ⊎ (offset q g + k < offset p f)
      spot k h =
          ⊎_elim (λ (x : offset p f + length vs ≤ offset q g). inl (omega arith)) (λ (x : offset q g + n ≤ offset p f). inr (omega arith)) a

      elem : (k : ℕ) → k < length (bytes_at new q g n) → get_or (bytes_at new q g n) k 0 ≡ get_or (bytes_at s q g n) k 0
      elem k h =
          let l : k < n = omega (arith, bytes_long new q g n) in
          bytes_elem new q g n k l ∙ elem_other (offset q g + k) (spot k l) ∙ sym (bytes_elem s q g n k l)

  elem_same : (k : ℕ) → offset p f + length vs ≤ length s → k < length vs → get_or (with_bytes s p f vs) (offset p f + k) 0 ≡ get_or vs k 0
  unfolding with_bytes
  elem_same k e h = write_same s (offset p f) vs k e h

  -- the field itself
  pub bytes_same : Within s p f (length vs) → bytes_at (with_bytes s p f vs) p f (length vs) ≡ vs
  bytes_same w = ext_get_or 0 (bytes_at new p f (length vs)) vs long (λ k h. elem k (rw long at h))
    where
      new : List ℕ
      new = with_bytes s p f vs

      long : length (bytes_at new p f (length vs)) ≡ length vs
      long = bytes_length new p f (length vs) (within_end new p f (length vs) (still_within p f (length vs) w))

      elem : (k : ℕ) → k < length vs → get_or (bytes_at new p f (length vs)) k 0 ≡ get_or vs k 0
      elem k h = bytes_elem new p f (length vs) k h ∙ elem_same k (within_end s p f (length vs) w) h

-- one byte of the field
pub byte_same : (s : List ℕ) (p f v : ℕ) → Within s p f 1 → byte_at (with_byte s p f v) p f ≡ v
unfolding byte_at
byte_same s p f v w = rw (← add-zero (offset p f)) (elem_same s p f (v ∷ []) 0 (within_end s p f 1 w) (omega arith))

-- ---- numbers of n bytes

module _ (s : List ℕ) (p f : ℕ) where
  next_byte : (k : ℕ) → byte_at s p (f + k) ≡ get_or s (offset p f + k) 0
  unfolding byte_at
  next_byte k = rw (← add_assoc (p * 1152) f k)

  pub number_4 : Within s p f 4
      → number_at s p f 4 ≡ byte_at s p f + byte_at s p (f + 1) * 256 + byte_at s p (f + 2) * 65536 + byte_at s p (f + 3) * 16777216
  unfolding bytes_at number_in byte_at
  number_4 w = rw (next_byte 1, next_byte 2, next_byte 3) (in-list-4 s (offset p f) (omega arith))

pub number_same : (s : List ℕ) (p f n v : ℕ) → Within s p f n → v < 256 ^ n → number_at (with_number s p f n v) p f n ≡ v
number_same s p f n v w h =
    let long : length (little_endian n v) ≡ n = length_le n v in
    let e : bytes_at (with_number s p f n v) p f (length (little_endian n v)) ≡ little_endian n v = bytes_same s p f (little_endian n v) (rw long w) in
    ap from_little_endian (rw long at e) ∙ from_le n v h

pub number_other : (s : List ℕ) (p f : ℕ) (vs : List ℕ) (q g n : ℕ) → Apart p f (length vs) q g n
    → number_at (with_bytes s p f vs) q g n ≡ number_at s q g n
number_other s p f vs q g n a = ap from_little_endian (bytes_other s p f vs q g n a)
