-- Laws of `write`: the length is kept, what was written stands there, and what lies elsewhere is as it was.
-- Assumes nothing.
use mathlib.Core.Path.{◌≡◌, refl, sym, ap}
use mathlib.Core.Logic.{◌≢◌}
use mathlib.Core.List.{List, [], ◌∷◌, ◌++◌}
use Prim.Native.Nat.{ℕ, zero, suc, ◌+◌, ◌≤◌, ◌<◌}
use native.Mathlib.Nat.{suc-add, zero-add}
use native.Mathlib.Omega.{arith}
use lib.ListN.{length, get_or, take, drop, set}
use lib.Seq.{drop-drop}
use Rattle.usb_store.specs.Access.{write}

pub length_write : (s : List ℕ) (i : ℕ) (vs : List ℕ) → length (write s i vs) ≡ length s
length_write [] i vs = refl
length_write (x ∷ s) (suc i) vs = ap suc (length_write s i vs)
length_write (x ∷ s) zero [] = refl
length_write (x ∷ s) zero (v ∷ vs) = ap suc (length_write s zero vs)

pub write_nil : (s : List ℕ) (i : ℕ) → write s i [] ≡ s
write_nil [] i = refl
write_nil (x ∷ s) (suc i) = ap (λ (l : List ℕ). x ∷ l) (write_nil s i)
write_nil (x ∷ s) zero = refl

pub write_one : (s : List ℕ) (i v : ℕ) → write s i (v ∷ []) ≡ set s i v
write_one [] i v = refl
write_one (x ∷ s) (suc i) v = ap (λ (l : List ℕ). x ∷ l) (write_one s i v)
write_one (x ∷ s) zero v = ap (λ (l : List ℕ). v ∷ l) (write_nil s zero)

-- one element more
pub write_more : (s : List ℕ) (i : ℕ) (vs : List ℕ) (j : ℕ) → j < length vs
    → set (write s i (take j vs)) (i + j) (get_or vs j 0) ≡ write s i (take (suc j) vs)
write_more [] i vs j h = refl
write_more (x ∷ s) (suc i) vs j h = rw suc-add (ap (λ (l : List ℕ). x ∷ l) (write_more s i vs j h))
write_more (x ∷ s) zero [] j h = absurd (omega arith)
write_more (x ∷ s) zero (v ∷ vs) zero h = ap (λ (l : List ℕ). v ∷ l) (sym (write_nil s zero))
write_more (x ∷ s) zero (v ∷ vs) (suc j) h =
    let deeper : set (write s zero (take j vs)) (zero + j) (get_or vs j 0) ≡ write s zero (take (suc j) vs) = write_more s zero vs j (omega arith) in
    rw zero-add (ap (λ (l : List ℕ). v ∷ l) (rw zero-add at deeper))

-- two writes, the second right after the first
pub write_append : (s : List ℕ) (i : ℕ) (a b : List ℕ) → write (write s i a) (i + length a) b ≡ write s i (a ++ b)
write_append [] i a b = refl
write_append (x ∷ s) (suc i) a b = rw suc-add (ap (λ (l : List ℕ). x ∷ l) (write_append s i a b))
write_append (x ∷ s) zero [] b = refl
write_append (x ∷ s) zero (v ∷ a) b =
    let deeper : write (write s zero a) (zero + length a) b ≡ write s zero (a ++ b) = write_append s zero a b in
    rw zero-add (ap (λ (l : List ℕ). v ∷ l) (rw zero-add at deeper))

pub write_other : (vs s : List ℕ) (i j : ℕ) → ((k : ℕ) → k < length vs → j ≢ i + k) → get_or (write s i vs) j 0 ≡ get_or s j 0
write_other vs [] i j h = refl
write_other vs (x ∷ s) (suc i) zero h = refl
write_other vs (x ∷ s) (suc i) (suc j) h = write_other vs s i j (λ k l e. h k l (omega arith))
write_other [] (x ∷ s) zero j h = refl
write_other (v ∷ vs) (x ∷ s) zero zero h = absurd (h 0 (omega arith) (omega arith))
write_other (v ∷ vs) (x ∷ s) zero (suc j) h = write_other vs s zero j (λ k l e. h (suc k) (omega arith) (omega arith))

pub write_same : (s : List ℕ) (i : ℕ) (vs : List ℕ) (k : ℕ) → i + length vs ≤ length s → k < length vs
    → get_or (write s i vs) (i + k) 0 ≡ get_or vs k 0
write_same [] i [] k r h = absurd (omega arith)
write_same [] i (v ∷ vs) k r h = absurd (omega arith)
write_same (x ∷ s) (suc i) vs k r h = rw suc-add (write_same s i vs k (omega arith) h)
write_same (x ∷ s) zero [] k r h = absurd (omega arith)
write_same (x ∷ s) zero (v ∷ vs) zero r h = refl
write_same (x ∷ s) zero (v ∷ vs) (suc k) r h =
    let deeper : get_or (write s zero vs) (zero + k) 0 ≡ get_or vs k 0 = write_same s zero vs k (omega arith) (omega arith) in
    rw zero-add (rw zero-add at deeper)

-- what stands before a write, and at it
pub take_write : (s : List ℕ) (i : ℕ) (vs : List ℕ) → take i (write s i vs) ≡ take i s
take_write [] i vs = refl
take_write (x ∷ s) (suc i) vs = ap (λ (l : List ℕ). x ∷ l) (take_write s i vs)
take_write (x ∷ s) zero vs = refl

pub at_write : (s : List ℕ) (i : ℕ) (vs : List ℕ) → i + length vs ≤ length s → take (length vs) (drop i (write s i vs)) ≡ vs
at_write [] zero [] h = refl
at_write [] zero (v ∷ vs) h = absurd (omega arith)
at_write [] (suc i) vs h = absurd (omega arith)
at_write (x ∷ s) (suc i) vs h = at_write s i vs (omega arith)
at_write (x ∷ s) zero [] h = refl
at_write (x ∷ s) zero (v ∷ vs) h = ap (λ (l : List ℕ). v ∷ l) (at_write s zero vs (omega arith))

-- a part of a list that was lent, `&mut s[i..i + k]`, comes back as vs
spliced : (s : List ℕ) (i : ℕ) (vs : List ℕ) → i + length vs ≤ length s → take i s ++ (vs ++ drop (i + length vs) s) ≡ write s i vs
spliced [] zero [] h = refl
spliced [] zero (v ∷ vs) h = absurd (omega arith)
spliced [] (suc i) vs h = absurd (omega arith)
spliced (x ∷ s) (suc i) vs h = rw suc-add (ap (λ (l : List ℕ). x ∷ l) (spliced s i vs (omega arith)))
spliced (x ∷ s) zero [] h = refl
spliced (x ∷ s) zero (v ∷ vs) h =
    let deeper : take zero s ++ (vs ++ drop (zero + length vs) s) ≡ write s zero vs = spliced s zero vs (omega arith) in
    rw zero-add (ap (λ (l : List ℕ). v ∷ l) (rw zero-add at deeper))

pub part_back : (s : List ℕ) (i k : ℕ) (vs : List ℕ) → length vs ≡ k → i + k ≤ length s
    → take i s ++ (vs ++ drop k (drop i s)) ≡ write s i vs
part_back s i k vs e h = rw (drop-drop k i s, ← e) (spliced s i vs (rw e h))

-- a whole list over another as long
pub write_whole : (d s : List ℕ) → length d ≡ length s → write d 0 s ≡ s
write_whole [] [] e = refl
write_whole [] (y ∷ s) e = absurd (omega arith)
write_whole (x ∷ d) [] e = absurd (omega arith)
write_whole (x ∷ d) (y ∷ s) e = ap (λ (t : List ℕ). y ∷ t) (write_whole d s (omega arith))
