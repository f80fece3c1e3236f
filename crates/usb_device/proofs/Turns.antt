-- One turn of each loop: what is left to do before it is the turn and what is left after it. Assumes nothing.
use mathlib.Core.Path.{◌≡◌}
use mathlib.Core.List.{List}
use Prim.Native.Nat.{ℕ, suc, ◌+◌, ◌*◌, ◌-◌, ◌≤◌, ◌<◌}
use native.Mathlib.Nat.{suc-mul}
use native.Mathlib.Numerals.{add-one}
use native.Mathlib.Omega.{arith}
use lib.ListN.{length, get_or, drop, set, drop_of_length-le}
use lib.Seq.{drop-cons}
use Rattle.usb_store.specs.Layout.{port_status_field}
use Rattle.usb_store.specs.Access.{with_number}
use Rattle.usb_device.specs.Ports.{with_statuses}
use Rattle.usb_device.specs.Device.{marked}

-- store_hub
pub statuses_turn : (s : List ℕ) (place : ℕ) (vs : List ℕ) (port : ℕ) → port < length vs
    → with_statuses s place port (drop port vs) ≡ with_statuses (with_number s place (port_status_field port) 4 (get_or vs port 0)) place (port + 1) (drop (port + 1) vs)
unfolding with_statuses
statuses_turn s place vs port h = rw (drop-cons vs port 0, ← add-one port)

pub statuses_end : (s : List ℕ) (place : ℕ) (vs : List ℕ) (port : ℕ) → length vs ≤ port → with_statuses s place port (drop port vs) ≡ s
unfolding with_statuses
statuses_end s place vs port h = rw (drop_of_length-le vs h)

-- mark
pub mark_turn : (bytes : List ℕ) (first step n i : ℕ) → i < n
    → marked bytes (first + i * step) step (n - i) ≡ marked (set bytes (first + i * step) 1) (first + (i + 1) * step) step (n - (i + 1))
unfolding marked
mark_turn bytes first step n i h =
    let left : n - i ≡ suc (n - (i + 1)) = omega arith in
    let next : first + i * step + step ≡ first + (i + 1) * step = rw (add-one i, suc-mul) (omega arith) in
    rw (left, ← next)

pub mark_end : (bytes : List ℕ) (at step n i : ℕ) → n ≤ i → marked bytes at step (n - i) ≡ bytes
unfolding marked
mark_end bytes at step n i h = let none : n - i ≡ 0 = omega arith in rw none
