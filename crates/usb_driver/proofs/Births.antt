-- A new child: a place is taken, and it stands above its hub. Assumes nothing.
use mathlib.Core.Path.{◌≡◌, refl, ap, subst}
use mathlib.Core.Bool.{false≢true}
use Prim.Native.Nat.{ℕ, ◌+◌, ◌≤◌, ◌<◌}
use native.Mathlib.Omega.{arith}
use Rattle.usb_store.specs.Layout.{speed_field, status_field}
use Rattle.usb_store.specs.Values.{powered_status}
use Rattle.usb_device.specs.Device.{first_unused, free_places}
use Rattle.usb_model.specs.Programs.{Ran, done, fail, halt, on, ◌>>=◌, ◌>>◌, return, end_of}
use Rattle.usb_model.specs.World.{World, M, put}
use Rattle.usb_model.specs.Usbd.{usb_allocate_device}
use Rattle.usb_model.specs.Kept.{Good}
use Rattle.usb_model.proofs.Keeps.{Any, Left, left_holds, next}
use Rattle.usb_model.proofs.Stores.{new_follows, first_new, free_new, store_good}
use Rattle.usb_model.proofs.Ways.{is_done, Allocates, bus_full, allocated, allocate_ends}
use Rattle.usb_model.proofs.Walks.{Reach, Walks, reach_here}
use Rattle.usb_model.proofs.Primitives.{puts}
use Rattle.usb_model.proofs.Functions.{small}
use Rattle.std.specs.Prelude.{Ok}
use Rattle.usb_transfer.specs.declared.bus.UsbBus.{UsbBus}
use Rattle.usb_transfer.specs.Runs.{world, Does}
use Rattle.usb_transfer.proofs.Steps.{next as then}
use Rattle.usb_child.specs.Parts.{new_child}
use Rattle.usb_driver.specs.Bus.{Bus, OnBus}
use Rattle.usb_driver.proofs.Reaches.{reached, at_place}
use Rattle.usb_driver.proofs.Goes.{resets, places}

-- a run that is done was done in both of its parts
record Parts {A B : Type 0} (m : M A) (k : A → M B) (w : World) (y : B) (v : World) : Type 0 where
  value : A
  middle : World
  first : m w ≡ done value middle
  last : k value middle ≡ done y v

parts : {A B : Type 0} (m : M A) (k : A → M B) (w : World) (y : B) (v : World) → (m >>= k) w ≡ done y v → Parts m k w y v
unfolding ◌>>=◌
parts {A} m k w y v e = go (m w) refl e
  where
    go : (r : Ran World A) → m w ≡ r → on r k ≡ done y v → Parts m k w y v
    go (done x u) f e = record { value = x; middle = u; first = f; last = e }
    go (fail c u) f e = absurd (false≢true (ap is_done e))
    go (halt h u) f e = absurd (false≢true (ap is_done e))

parts_next : {A B : Type 0} (m : M A) (k : M B) (w : World) (y : B) (v : World) → (m >> k) w ≡ done y v → Parts m (λ _. k) w y v
unfolding ◌>>=◌ ◌>>◌
parts_next m k w y v e = parts m (λ _. k) w y v e

walked_to : {u : World} {n : ℕ} {A : Type 0} {Q : A → Type 0} {m : M A} {w v : World} {x : A}
    → Walks u n m Q → Reach u n w → m w ≡ done x v → Reach u n v
walked_to {u} {n} {A} {Q} {m} {w} {v} {x} h r e = left_holds (subst (λ (s : Ran World A). Left (Reach u n) Q s) e (h.run w r))

-- a place was allocated: it is the first that was not used, and now it is
record Allocated (w : World) (place : ℕ) (v : World) : Type 0 where
  good : Good v
  is : place ≡ first_unused w.store
  inside : place < 32
  used : place + 1 ≤ first_unused v.store
  free : free_places v.store + 1 ≡ free_places w.store

abbrev value_of : {A : Type 0} → A → Ran World A → A
value_of z (done a w) = a
value_of z (fail e w) = z
value_of z (halt h w) = z

abbrev Took : World → Ran World ℕ → Type 0
Took w (done place v) = Allocated w place v
Took w (fail e v) = Unit {0}
Took w (halt h v) = Unit {0}

took : {w : World} {r : Ran World ℕ} → Good w → Allocates w r → Took w r
took g bus_full = tt
took g (allocated {p} e inside) =
    record { good = store_good _ (new_follows g p e inside) g; is = e; inside = inside; used = first_new g p e inside; free = free_new g p e inside }

allocated_at : (w : World) (place : ℕ) (v : World) → Good w → usb_allocate_device w ≡ done place v → Allocated w place v
allocated_at w place v g e = subst (Took w) e (took g (allocate_ends w))

-- the bus of a new child
pub record Born (w : World) (place : ℕ) (v : World) : Type 0 where
  pub bus : Bus place v
  pub free : free_places v.store < free_places w.store

pub born : (hub port place : ℕ) {b b₁ : UsbBus} → OnBus hub b → port < 10 → Does (new_child hub port) b b₁ (Ok place)
    → Born (world b) place (world b₁)
unfolding new_child return
born hub port place {b} {b₁} on l d =
    let w = world b in
    let v = world b₁ in
    let reset = parts_next _ _ w place v d.is in
    let here : Reach w (hub + 1) reset.middle = walked_to (resets hub port l) (at_place on) reset.first in
    let taken = parts _ _ reset.middle place v reset.last in
    let new = allocated_at reset.middle taken.value taken.middle here.good taken.first in
    let put = parts_next _ _ taken.middle place v taken.last in
    let there : Reach taken.middle (taken.value + 1) put.middle =
    walked_to (places hub port taken.value l (omega (arith, here.used, new.is)) (omega arith) new.inside)
    (reach_here taken.middle new.good new.used) put.first in
    let same : taken.value ≡ place = ap (value_of 0) put.last in
    let end : put.middle ≡ v = ap end_of put.last in
    let reached : Reach taken.middle (taken.value + 1) v = subst (Reach taken.middle (taken.value + 1)) end there in
    record {
      bus = record { fit = d.fit; good = reached.good; used = omega (arith, reached.used, same); inside = omega (arith, new.inside, same) };
      free = omega (arith, reached.onward.free, new.free, here.onward.free);
    }

-- the root hub: a place is taken, and it has its speed and its power
pub root_born : (place speed : ℕ) {b b₁ b₂ b₃ : UsbBus} → Good (world b) → speed < 256 → Does usb_allocate_device b b₁ (Ok place)
    → Does (put place speed_field speed) b₁ b₂ (Ok tt) → Does (put place status_field powered_status) b₂ b₃ (Ok tt) → Born (world b) place (world b₃)
root_born place speed {b} {b₁} {b₂} {b₃} g low d d₁ d₂ =
    let new = allocated_at (world b) place (world b₁) g d.is in
    let walk : Walks (world b₁) (place + 1) (put place speed_field speed >> put place status_field powered_status) Any =
    next (puts place speed_field speed (small speed_field (omega arith) (omega arith)) low)
    (puts place status_field powered_status (small status_field (omega arith) (omega arith)) (omega arith)) in
    let r : Reach (world b₁) (place + 1) (world b₃) = reached (walk.run (world b₁) (reach_here (world b₁) new.good new.used)) (then _ d₁ d₂) in
    record {
      bus = record { fit = d₂.fit; good = r.good; used = omega (arith, r.used); inside = new.inside };
      free = omega (arith, r.onward.free, new.free);
    }
