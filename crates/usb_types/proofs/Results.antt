-- The result of a transfer by its number: a failing submit code k is −k. Assumes nothing.
use mathlib.Core.Path.{◌≡◌, ap}
use mathlib.Core.Logic.{◌≢◌}
use Prim.Native.Nat.{ℕ, ◌<◌}
use borrow.Author.Tests.{ne_eqb}
use lib.Dec.{T, eqb→eq}
use lib.IntN.{ℤ, pos, negsuc}
use lib.ListN.{get_or}
use Rattle.usb_types.specs.Numbers.{minus, same_int}
use Rattle.usb_types.specs.Answers.{answer_number}
use Rattle.usb_types.specs.Outcomes.{submit_results, result_of}
use Rattle.std.specs.Prelude.{Ok}
use Rattle.usb_types.proofs.Table.{rule}

same_eq : (a b : ℤ) → T (same_int a b) → a ≡ b
unfolding same_int
same_eq (pos m) (pos n) t = ap pos (eqb→eq m n t)
same_eq (negsuc m) (negsuc n) t = ap negsuc (eqb→eq m n t)
same_eq (pos m) (negsuc n) t = absurd t
same_eq (negsuc m) (pos n) t = absurd t

-- "0 to 9 for ResultCode 0 to −9"
pub submit_number : (k : ℕ) → k < 10 → answer_number (get_or submit_results k (Ok tt)) ≡ minus k
unfolding same_int submit_results
submit_number k h =
    same_eq (answer_number (get_or submit_results k (Ok tt))) (minus k) (rule (λ n a. same_int (answer_number a) (minus n)) submit_results tt k h (Ok tt))

-- "a submit code other than 0 is the result", whatever the error
pub result_number : (k error : ℕ) → k ≢ 0 → k < 10 → answer_number (result_of k error) ≡ minus k
unfolding result_of
result_number k error ne h = rw (ne_eqb k 0 ne) (submit_number k h)
