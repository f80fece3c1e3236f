-- Where a run leaves the bus: the world it ends in is good, and no place is freed. Assumes nothing.
use mathlib.Core.Path.{◌≡◌, refl, subst}
use mathlib.Core.Bool.{Bool}
use Prim.Native.Nat.{ℕ, zero, suc, ◌+◌, ◌-◌, ◌≤◌, ◌<◌}
use native.Mathlib.Omega.{arith}
use Rattle.std.specs.Prelude.{Result, Ok, Err}
use Rattle.usb_types.specs.Answers.{Answer}
use Rattle.usb_types.specs.declared.types.Failure.{Failure}
use Rattle.usb_types.specs.declared.types.Failure.TheVariants.{Error, Stop}
use Rattle.usb_device.specs.Device.{free_places}
use Rattle.usb_model.specs.Programs.{Ran, ran, ignore, when, each, end_of}
use Rattle.usb_model.specs.World.{World, M}
use Rattle.usb_model.specs.Hub.{hub_port_connection_changed, hub_check_connection}
use Rattle.usb_model.specs.Attach.{usb_attach_device, attach_below}
use Rattle.usb_model.proofs.Keeps.{Left, left_holds}
use Rattle.usb_model.proofs.Walks.{Reach, Walks, reach_here}
use Rattle.usb_model.proofs.Pairs.{ignores₂, whens₂}
use Rattle.usb_model.proofs.Cycle.{attach_walks, connection_changed, check_connection}
use Rattle.usb_transfer.specs.declared.bus.UsbBus.{UsbBus}
use Rattle.usb_transfer.specs.Runs.{world, Does}
use Rattle.usb_transfer.proofs.Steps.{Going}
use Rattle.usb_attach.specs.Parts.{enumerated}
use Rattle.usb_hub_attach.specs.Parts.{hub_ready}
use Rattle.usb_check.specs.declared.Due.{Due}
use Rattle.usb_check.specs.Parts.{start_check}
use Rattle.usb_driver.specs.Bus.{Bus, OnBus}
use Rattle.usb_driver.proofs.Goes.{enumerates, readies, starts}

left_ran : {A : Type 0} (r : Result A Failure) (v : World) → end_of (ran r v) ≡ v
left_ran (Ok x) v = refl
left_ran (Err (Error e)) v = refl
left_ran (Err (Stop h)) v = refl

pub reached : {u : World} {n : ℕ} {A : Type 0} {Q : A → Type 0} {m : M A} {b b₁ : UsbBus} {r : Result A Failure}
    → Left (Reach u n) Q (m (world b)) → Does m b b₁ r → Reach u n (world b₁)
reached {u} {n} {A} {Q} {m} {b} {b₁} {r} h d =
    subst (Reach u n) (left_ran r (world b₁)) (left_holds (subst (λ (r : Ran World A). Left (Reach u n) Q r) d.is h))

-- from a bus in w to the same in v
pub record After (place : ℕ) (w v : World) : Type 0 where
  pub bus : Bus place v
  pub free : free_places v.store ≤ free_places w.store

abbrev pub at_place : {place : ℕ} {w : World} → Bus place w → Reach w (place + 1) w
at_place {place} {w} b = reach_here w b.good (omega (arith, b.used))

pub after : {place : ℕ} {A : Type 0} {Q : A → Type 0} {m : M A} {b b₁ : UsbBus} {r : Result A Failure}
    → OnBus place b → Left (Reach (world b) (place + 1)) Q (m (world b)) → Does m b b₁ r → After place (world b) (world b₁)
after {place} {b = b} {b₁ = b₁} on h d =
    let r : Reach (world b) (place + 1) (world b₁) = reached h d in
    record { bus = record { fit = d.fit; good = r.good; used = omega (arith, r.used); inside = on.inside }; free = r.onward.free }

walked : {place : ℕ} {A : Type 0} {Q : A → Type 0} {m : M A} {b b₁ : UsbBus} {r : Result A Failure}
    → OnBus place b → Walks (world b) (place + 1) m Q → Does m b b₁ r → After place (world b) (world b₁)
walked {b = b} on h d = after on (h.run (world b) (at_place on)) d

-- ---- the lines that attach no device

module _ {place : ℕ} {b b₁ : UsbBus} (on : OnBus place b) where
  pub enumerated_after : {r : Answer} → Does (enumerated place) b b₁ r → After place (world b) (world b₁)
  enumerated_after d = walked on (enumerates place) d

  pub ready_after : {r : Answer} → Does (hub_ready place) b b₁ r → After place (world b) (world b₁)
  ready_after d = walked on (readies place (omega arith)) d

  pub started_after : (port : ℕ) → port < 10 → {r : Result Due Failure} → Does (start_check place port) b b₁ r → After place (world b) (world b₁)
  started_after port l d = walked on (starts place port l) d

-- ---- the functions that call each other

module _ (n : ℕ) {hub port : ℕ} {b b₁ : UsbBus} {r : Answer} (on : OnBus hub b) (l : port < 10) where
  pub changed_after : (due : Bool) → Does (when due (ignore (hub_port_connection_changed (attach_below n) hub port))) b b₁ r
      → After hub (world b) (world b₁)
  changed_after due d =
      after on ((whens₂ due (λ _. ignores₂ (connection_changed (attach_below n) (attach_below n) (λ u _. attach_walks n u) hub port (omega arith) l))
      ).run (world b) (at_place on)).walk d

  pub checked_after : Does (hub_check_connection (attach_below n) hub port) b b₁ r → After hub (world b) (world b₁)
  checked_after d =
      after on ((check_connection (attach_below n) (attach_below n) (λ u _. attach_walks n u) hub port (omega arith) l).run (world b) (at_place on)).walk d

-- a device is attached where a place was taken, so the number is not zero
pub at_fuel : (place free n : ℕ) {b b₁ : UsbBus} {r : Answer} → free < n
    → ((m : ℕ) → free ≤ m → Does (usb_attach_device (attach_below m) place) b b₁ r) → Does (attach_below n place) b b₁ r
unfolding attach_below
at_fuel place free zero h f = absurd (omega arith)
at_fuel place free (suc m) h f = f m (omega arith)

-- the ports of a hub, one after the other
abbrev pub checks_all : ℕ → ℕ → ℕ → ℕ → M (Unit {0})
checks_all n hub count port = each count port (λ port. ignore (hub_check_connection (attach_below n) hub port))

pub record PortsChecked (hub count port : ℕ) (b b₁ : UsbBus) : Type 0 where
  pub after : After hub (world b) (world b₁)
  pub goes : (n : ℕ) → free_places b.store.now ≤ n → Going (checks_all n hub count 0) b (checks_all n hub (count - port) port) b₁
