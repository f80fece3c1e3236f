-- The worlds that a call reaches from u, where its first n places are known to be used. A program walks if it keeps to them, done, failed
-- or halted. Assumes nothing.
use Prim.Native.Nat.{ℕ, ◌≤◌}
use native.Mathlib.Omega.{arith}
use Rattle.usb_device.specs.Device.{first_unused}
use Rattle.usb_model.specs.World.{World, M}
use Rattle.usb_model.specs.Kept.{Good, Onward}
use Rattle.usb_model.proofs.Keeps.{Any, Keeps}
use Rattle.usb_model.proofs.Onward.{onward_same, onward_join}

pub record Reach (u : World) (n : ℕ) (w : World) : Type 0 where
  pub onward : Onward u w
  pub good : Good w
  pub used : n ≤ first_unused w.store

-- Q holds of the value that the program gives
abbrev pub Walks : World → ℕ → {A : Type 0} → M A → (A → Type 0) → Type 0
Walks u n m Q = Keeps (Reach u n) m Q

-- a program of which only that it walks is told
abbrev pub Goes : World → ℕ → {A : Type 0} → M A → Type 0
Goes u n m = Walks u n m Any

pub reach_here : {n : ℕ} (w : World) → Good w → n ≤ first_unused w.store → Reach w n w
reach_here w g l = record { onward = onward_same w; good = g; used = l }

-- a world further on
pub reach_on : {u v w : World} {n : ℕ} → Reach u n v → Onward v w → Good w → Reach u n w
reach_on r o g = record { onward = onward_join r.onward o; good = g; used = omega (arith, r.used, o.first) }

-- what is reached from a later world, or with more places known, is reached
pub reach_less : {u v w : World} {n m : ℕ} → Onward u v → n ≤ m → Reach v m w → Reach u n w
reach_less o l r = record { onward = onward_join o r.onward; good = r.good; used = omega (arith, r.used) }
