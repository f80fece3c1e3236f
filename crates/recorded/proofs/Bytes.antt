-- Numbers of bytes, over plain values. Assumes nothing.
use Rattle.std.proofs.Common.{◌≡◌, ℕ, zero, suc, ◌+◌, ◌*◌, ◌^◌, ◌≤◌, ◌<◌, List, [], ◌∷◌, ◌++◌, length, get_or, take, drop, refl, ap, ◌∙◌, arith}
use Rattle.std.specs.Int.{w32, w64, from_le_bytes, cast_signed}
use lib.ListN.{drop_of_length-le}
use lib.Seq.{drop-drop, take-add}
use native.Mathlib.Nat.{pow-suc, mul_assoc}
use Rattle.std.proofs.lemmas.List.{length-take-le}
use Rattle.std.proofs.Math.ListN.{length-drop}
use Rattle.usb_types.specs.Numbers.{from_little_endian, number_in}
use Rattle.recorded.specs.Numbers.{signed}

-- the byte at k, and what is above it
above : (bs : List ℕ) (k : ℕ) → from_little_endian (drop k bs) ≡ get_or bs k 0 + 256 * from_little_endian (drop (suc k) bs)
above [] zero = refl
above [] (suc k) = refl
above (b ∷ bs) zero = refl
above (b ∷ bs) (suc k) = above bs k

none_above : (bs : List ℕ) (k : ℕ) → length bs ≤ k → from_little_endian (drop k bs) ≡ 0
none_above bs k h = ap from_little_endian (drop_of_length-le bs h)

pub from_4 : (bs : List ℕ) → length bs ≡ 4 → from_le_bytes w32 bs ≡ from_little_endian bs
from_4 bs h = omega (arith, above bs 0, above bs 1, above bs 2, above bs 3, none_above bs 4 (omega arith))

pub from_8 : (bs : List ℕ) → length bs ≡ 8 → from_le_bytes w64 bs ≡ from_little_endian bs
from_8 bs h =
    omega (arith, above bs 0, above bs 1, above bs 2, above bs 3, above bs 4, above bs 5, above bs 6, above bs 7, none_above bs 8 (omega arith))

-- the bytes of a number in two parts
from_append : (a b : List ℕ) → from_little_endian (a ++ b) ≡ from_little_endian a + 256 ^ length a * from_little_endian b
from_append [] b = omega arith
from_append (x ∷ a) b =
    rw (from_append a b, pow-suc 256 (length a)) (omega (arith, mul_assoc 256 (256 ^ length a) (from_little_endian b)))

pub number_halves : (bytes : List ℕ) (at : ℕ) → at + 8 ≤ length bytes
    → number_in bytes at 8 ≡ number_in bytes at 4 + number_in bytes (at + 4) 4 * 4294967296
unfolding number_in
number_halves bytes at h =
    let low : List ℕ = take 4 (drop at bytes) in
    let high : List ℕ = take 4 (drop (at + 4) bytes) in
    let long : length low ≡ 4 = length-take-le 4 (drop at bytes) (rw length-drop (omega arith)) in
    let whole : take 8 (drop at bytes) ≡ low ++ high = take-add 4 4 (drop at bytes) ∙ rw drop-drop in
    let two : from_little_endian (take 8 (drop at bytes)) ≡ from_little_endian low + 256 ^ length low * from_little_endian high
    = ap from_little_endian whole ∙ from_append low high in
    omega (arith, rw long at two)

-- the bytes of a part
module _ (bytes part : List ℕ) (at n : ℕ) where
  pub number_4 : at + 4 ≤ length bytes → part ≡ take 4 (drop at bytes) → n ≡ from_le_bytes w32 part → n ≡ number_in bytes at 4
  unfolding number_in
  number_4 h p e = e ∙ from_4 part (ap length p ∙ length-take-le 4 (drop at bytes) (omega (arith, length-drop at bytes))) ∙ ap from_little_endian p

  pub number_8 : at + 8 ≤ length bytes → part ≡ take 8 (drop at bytes) → n ≡ from_le_bytes w64 part → n ≡ number_in bytes at 8
  unfolding number_in
  number_8 h p e = e ∙ from_8 part (ap length p ∙ length-take-le 8 (drop at bytes) (omega (arith, length-drop at bytes))) ∙ ap from_little_endian p

-- a number by two's complement
pub signed_word : (word : ℕ) → word < 2 ^ 32 → cast_signed w32 word ≡ signed word
unfolding signed
signed_word word h = grind arith
