-- A table's rule, proved at all of its entries by one test that antt computes. Assumes nothing.
use mathlib.Core.Bool.{Bool, true, false, ◌&&◌}
use mathlib.Core.List.{List, [], ◌∷◌}
use Prim.Native.Nat.{ℕ, zero, suc, ◌<◌}
use native.Mathlib.Nat.{le_of_suc-le-suc, not-suc-le-zero}
use lib.Dec.{T}
use lib.ListN.{length, get_or}

both : (a b : Bool) → T (a && b) → T a × T b
both true b t = (tt, t)
both false b t = absurd t

module _ {A : Type 0} where
  -- the test passes at each entry and its place
  abbrev pub passes : (ℕ → A → Bool) → List A → Bool
  passes test [] = true
  passes test (x ∷ xs) = test 0 x && passes (λ k. test (suc k)) xs

  pub rule : (test : ℕ → A → Bool) (xs : List A) → T (passes test xs) → (k : ℕ) → k < length xs → (d : A) → T (test k (get_or xs k d))
  rule test [] t k h d = absurd (not-suc-le-zero h)
  rule test (x ∷ xs) t zero h d = (both (test 0 x) (passes (λ k. test (suc k)) xs) t).0
  rule test (x ∷ xs) t (suc k) h d =
      rule (λ k. test (suc k)) xs (both (test 0 x) (passes (λ k. test (suc k)) xs) t).1 k (le_of_suc-le-suc h) d
