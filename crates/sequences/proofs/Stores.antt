-- The stores of a sequence, over plain values. Assumes nothing.
use Rattle.std.proofs.Common.{◌≡◌, ℕ, zero, suc, ◌-◌, ◌≤◌, ◌%◌, min, List, [], ◌∷◌, ◌++◌, length, take, drop, replicate, refl, sym, ap, ◌∙◌, arith}
use Rattle.std.proofs.lemmas.List.{take-replicate, drop-replicate, take_all}
use Rattle.std.specs.Simd.{first_chunks}
use Rattle.std.specs.List.{fold}
use borrow.Author.Tests.{eq-eqb}
use Rattle.usb_store.specs.Layout.{store_length}
use Rattle.recorded.specs.declared.head.Asked.{Asked}
use Rattle.sequences.specs.Stores.{put, edited, store_before}

-- the front of s that fits, and the zeros behind it
front : (k r n m : ℕ) (s : List ℕ) → k ≡ min (length s) n → r ≡ n - length s → n ≤ m → take k s ++ replicate r 0 ≡ take n (s ++ replicate m 0)
front k r n m [] e f h =
    let none : k ≡ 0 = omega arith in
    let all : r ≡ n = omega arith in
    rw (none, all) (sym (take-replicate {X = ℕ} n m 0 h))
front k r zero m (x ∷ s) e f h =
    let none : k ≡ 0 = omega arith in
    let none' : r ≡ 0 = omega arith in
    rw (none, none') refl
front k r (suc n) m (x ∷ s) e f h =
    let one : k ≡ suc (min (length s) n) = omega arith in
    rw one (ap (λ (l : List ℕ). x ∷ l) (front (min (length s) n) r n m s refl (omega arith) (omega arith)))

pub copied : (s : List ℕ) (n k : ℕ) → k ≡ min (length s) n → take k s ++ drop k (replicate n 0) ≡ take n (s ++ replicate n 0)
copied s n k e = rw (drop-replicate {X = ℕ} k n 0) (front k (n - k) n n s e (omega arith) (omega arith))

some_chunks : (n k : ℕ) (xs : List ℕ) → n ≤ k → take n (first_chunks 5 k xs) ≡ first_chunks 5 n xs
some_chunks zero k xs h = refl
some_chunks (suc n) zero xs h = absurd (omega arith)
some_chunks (suc n) (suc k) xs h = ap (λ (l : List (List ℕ)). take 5 xs ∷ l) (some_chunks n k (drop 5 xs) (omega arith))

-- what a loop over the first n of k chunks leaves
pub edited_all : (n k i : ℕ) (edits s s' : List ℕ) (chunks : List (List ℕ)) → chunks ≡ first_chunks 5 k edits → n ≤ k → length (take n chunks) ≤ i
    → s' ≡ fold put s (take i (take n chunks)) → s' ≡ edited n edits s
unfolding edited
edited_all n k i edits s s' chunks c h l e =
    let all : take i (take n chunks) ≡ first_chunks 5 n edits =
    take_all i (take n chunks) l ∙ ap (take n) c ∙ some_chunks n k edits h in
    e ∙ ap (fold put s) all

-- a new sequence begins with zeros
pub begins : (asked : Asked) (s s' : List ℕ) → asked.flags % 2 ≡ 1 → length s ≡ store_length → s' ≡ replicate (length s) 0 → s' ≡ store_before asked s
unfolding store_before
begins asked s s' f l e = simp (eq-eqb _ _ f) (e ∙ ap (λ (n : ℕ). replicate n 0) l)
