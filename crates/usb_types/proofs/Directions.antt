-- The direction that a request's code gives is the one that its bmRequestType says. Assumes nothing.
use mathlib.Core.Path.{◌≡◌}
use mathlib.Core.Bool.{Bool, true, false, cond}
use Prim.Native.Nat.{ℕ, ◌+◌, ◌*◌, ◌<◌}
use native.Mathlib.Omega.{arith}
use borrow.Author.Tests.{le-leb, lt-leb}
use Rattle.usb_types.specs.Requests.{direction_of, direction_bit}

bit : (b : Bool) (recipient : ℕ) → recipient < 128 → direction_bit (cond b 1 0 * 128 + recipient) ≡ cond b 1 0
unfolding direction_bit
bit true recipient h = simp (le-leb 128 (1 * 128 + recipient) (omega arith))
bit false recipient h = simp (lt-leb 128 (0 * 128 + recipient) (omega arith))

pub same_direction : (recipient request : ℕ) → recipient < 128 → direction_bit (direction_of request * 128 + recipient) ≡ direction_of request
unfolding direction_of
same_direction recipient request h = rw bit
