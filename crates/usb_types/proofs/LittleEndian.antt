-- Little-endian numbers, once over the width: so many bytes, each below 256, and they give the number back; a number of 2 or 4 bytes by
-- its bytes.
-- Assumes nothing.
use mathlib.Core.Path.{◌≡◌, refl, ap}
use mathlib.Core.List.{List, [], ◌∷◌}
use Prim.Native.Nat.{ℕ, zero, suc, ◌+◌, ◌*◌, ◌/◌, ◌^◌, ◌≤◌, ◌<◌}
use native.Mathlib.Nat.{add-zero, pow-suc}
use native.Mathlib.Omega.{arith}
use lib.ListN.{length, get_or}
use lib.Seq.{drop-cons}
use Rattle.usb_types.specs.Numbers.{little_endian, from_little_endian, number_in}

pub length_le : (n v : ℕ) → length (little_endian n v) ≡ n
length_le zero v = refl
length_le (suc n) v = ap suc (length_le n (v / 256))

pub from_le : (n v : ℕ) → v < 256 ^ n → from_little_endian (little_endian n v) ≡ v
from_le zero v h = omega arith
from_le (suc n) v h =
    let high : v / 256 < 256 ^ n = omega (arith, pow-suc 256 n) in
    omega (arith, from_le n (v / 256) high)

pub le_below : (n v k : ℕ) → get_or (little_endian n v) k 0 < 256
le_below zero v k = omega arith
le_below (suc n) v zero = omega arith
le_below (suc n) v (suc k) = le_below n (v / 256) k

pub from_below : (bs : List ℕ) → ((k : ℕ) → get_or bs k 0 < 256) → from_little_endian bs < 256 ^ length bs
from_below [] small = omega arith
from_below (b ∷ bs) small =
    omega (arith, pow-suc 256 (length bs), small 0, from_below bs (λ k. small (suc k)))

-- ---- a number by its bytes

module _ (bytes : List ℕ) (at : ℕ) where
  number_more : (k n : ℕ) → at + k < length bytes
      → number_in bytes (at + k) (suc n) ≡ get_or bytes (at + k) 0 + 256 * number_in bytes (at + suc k) n
  unfolding number_in
  number_more k n h =
      let next : suc (at + k) ≡ at + suc k = omega arith in
      rw (drop-cons bytes (at + k) 0, next)

  number_none : (k : ℕ) → number_in bytes (at + k) 0 ≡ 0
  unfolding number_in
  number_none k = refl

  number_first : (n : ℕ) → at < length bytes → number_in bytes at (suc n) ≡ get_or bytes at 0 + 256 * number_in bytes (at + 1) n
  number_first n h = rw add-zero at (number_more 0 n (rw add-zero h))

  pub number_2 : at + 2 ≤ length bytes → number_in bytes at 2 ≡ get_or bytes at 0 + get_or bytes (at + 1) 0 * 256
  number_2 h = omega (arith, number_first 1 (omega arith), number_more 1 0 (omega arith), number_none 2)

  pub number_4 : at + 4 ≤ length bytes
      → number_in bytes at 4 ≡ get_or bytes at 0 + get_or bytes (at + 1) 0 * 256 + get_or bytes (at + 2) 0 * 65536 + get_or bytes (at + 3) 0 * 16777216
  number_4 h =
      omega (
        arith,
        number_first 3 (omega arith),
        number_more 1 2 (omega arith),
        number_more 2 1 (omega arith),
        number_more 3 0 (omega arith),
        number_none 4,
      )
