-- Lists of bytes, and the requests in a log. Assumes nothing.
use mathlib.Core.List.{List, [], ◌∷◌, ◌++◌}
use Prim.Native.Nat.{ℕ, zero, suc, ◌-◌, ◌<◌}
use native.Mathlib.Omega.{arith}
use lib.ListN.{get_or, take, drop, replicate}
use Rattle.usb_types.specs.Numbers.{little_endian}
use Rattle.usb_types.proofs.LittleEndian.{le_below}
use Rattle.usb_store.specs.Access.{write, byte_at, bytes_at, offset, with_bytes}
use Rattle.usb_device.specs.Device.{new_device, repeat, blank}
use Rattle.usb_model.specs.Kept.{Bytes}

pub bytes_nil : Bytes []
bytes_nil = record { below = λ i. omega arith }

pub bytes_cons : {x : ℕ} {l : List ℕ} → x < 256 → Bytes l → Bytes (x ∷ l)
bytes_cons {x} {l} h b = record { below = go }
  where
    go : (i : ℕ) → get_or (x ∷ l) i 0 < 256
    go zero = h
    go (suc i) = b.below i

pub bytes_one : {x : ℕ} → x < 256 → Bytes (x ∷ [])
bytes_one h = bytes_cons h bytes_nil

bytes_head : {x : ℕ} {l : List ℕ} → Bytes (x ∷ l) → x < 256
bytes_head b = b.below 0

bytes_tail : {x : ℕ} {l : List ℕ} → Bytes (x ∷ l) → Bytes l
bytes_tail b = record { below = λ i. b.below (suc i) }

pub bytes_append : {l m : List ℕ} → Bytes l → Bytes m → Bytes (l ++ m)
bytes_append {l} {m} b c = go l b
  where
    go : (l : List ℕ) → Bytes l → Bytes (l ++ m)
    go [] b = c
    go (x ∷ l) b = bytes_cons (bytes_head b) (go l (bytes_tail b))

pub filled : (x : ℕ) → x < 256 → (n : ℕ) → Bytes (replicate n x)
filled x h zero = bytes_nil
filled x h (suc n) = bytes_cons h (filled x h n)

pub zeros : (n : ℕ) → Bytes (replicate n 0)
zeros n = filled 0 (omega arith) n

pub bytes_write : (s : List ℕ) (i : ℕ) (vs : List ℕ) → Bytes s → Bytes vs → Bytes (write s i vs)
bytes_write [] i vs b c = b
bytes_write (x ∷ s) (suc i) vs b c = bytes_cons (bytes_head b) (bytes_write s i vs (bytes_tail b) c)
bytes_write (x ∷ s) zero [] b c = b
bytes_write (x ∷ s) zero (v ∷ vs) b c = bytes_cons (bytes_head c) (bytes_write s zero vs (bytes_tail b) (bytes_tail c))

pub bytes_take : (n : ℕ) (l : List ℕ) → Bytes l → Bytes (take n l)
bytes_take zero l b = bytes_nil
bytes_take (suc n) [] b = b
bytes_take (suc n) (x ∷ l) b = bytes_cons (bytes_head b) (bytes_take n l (bytes_tail b))

pub bytes_drop : (n : ℕ) (l : List ℕ) → Bytes l → Bytes (drop n l)
bytes_drop zero l b = b
bytes_drop (suc n) [] b = b
bytes_drop (suc n) (x ∷ l) b = bytes_drop n l (bytes_tail b)

pub bytes_le : (n v : ℕ) → Bytes (little_endian n v)
bytes_le n v = record { below = le_below n v }

pub bytes_with : (s : List ℕ) (p f : ℕ) (vs : List ℕ) → Bytes s → Bytes vs → Bytes (with_bytes s p f vs)
unfolding with_bytes
bytes_with s p f vs b c = bytes_write s (offset p f) vs b c

pub bytes-at : (s : List ℕ) (p f n : ℕ) → Bytes s → Bytes (bytes_at s p f n)
unfolding bytes_at
bytes-at s p f n b = bytes_take n (drop (offset p f) s) (bytes_drop (offset p f) s b)

pub byte-at : (s : List ℕ) (p f : ℕ) → Bytes s → byte_at s p f < 256
unfolding byte_at
byte-at s p f b = b.below (offset p f)

bytes_repeat : (n : ℕ) {l : List ℕ} → Bytes l → Bytes (repeat n l)
bytes_repeat zero b = bytes_nil
bytes_repeat (suc n) b = bytes_append b (bytes_repeat n b)

pub bytes_blank : (n : ℕ) → Bytes (blank n)
bytes_blank n = bytes_cons (omega arith) (bytes_cons (omega arith) (zeros (n - 2)))

pub bytes_new : (place : ℕ) → place < 32 → Bytes (new_device place)
unfolding new_device
bytes_new place h =
    bytes_append (bytes_cons (omega arith) (bytes_cons (omega arith)
    (bytes_cons (omega arith) (bytes_cons (omega arith)
    (bytes_cons (omega arith) (bytes_cons (omega arith) (bytes_cons (omega arith) (bytes_cons (omega arith) (zeros 8)))))))))
    (bytes_append (bytes_cons (omega arith) (bytes_cons (omega arith)
    (bytes_cons (omega arith) (bytes_cons (omega arith)
    (bytes_cons (omega arith) (bytes_cons (omega arith) (bytes_cons (omega arith) (bytes_cons (omega arith) (zeros 10)))))))))
    (bytes_append (bytes_blank 9) (bytes_append (zeros 85)
    (bytes_append (bytes_repeat 8 (bytes_blank 9)) (bytes_append (bytes_repeat 128 (bytes_blank 7)) (zeros 56))))))
