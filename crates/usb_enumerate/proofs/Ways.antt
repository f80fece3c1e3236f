-- The ways through the programs, over plain values. Assumes nothing.
use Rattle.std.specs.Prelude.{◌≡◌, ◌<◌, not, List, ℕ, Result, None, Some, Ok, Err, eqb, refl}
use Rattle.std.proofs.Common.{arith, ap, sym, eq-eqb, ne_eqb}
use Rattle.std.specs.Borrow.{Bor}
use Rattle.usb_types.specs.Answers.{Answer}
use Rattle.usb_types.specs.declared.types.Failure.{Failure}
use Rattle.usb_types.specs.declared.types.ErrorCode.TheVariants.{BusFull}
use Rattle.usb_types.specs.declared.types.Failure.TheVariants.{Error}
use Rattle.usb_store.specs.Layout.{place_count, speed_field, max_packet_size0_field}
use Rattle.usb_store.specs.Values.{high_speed}
use Rattle.usb_store.specs.Access.{byte_at, with_bytes}
use Rattle.usb_device.specs.Device.{new_device, first_unused, free_place}
use Rattle.usb_device.proofs.Free.{free_or}
use Rattle.usb_model.specs.Programs.{done, ◌>>=◌, ◌>>◌, look, change, return, throw, skip, when}
use Rattle.usb_model.specs.World.{M, put, put_bytes, with_store}
use Rattle.usb_model.specs.Usbd.{read_device_descriptor, usb_read_device_descriptor, usb_allocate_device}
use Rattle.usb_transfer.specs.declared.bus.UsbBus.{UsbBus}
use Rattle.usb_transfer.specs.Runs.{world, Ready, Lends, Does}
use Rattle.usb_transfer.proofs.Steps.{bound, bound_failed, next, next_failed, got, puts, lends_still}
use Rattle.usb_transfer.proofs.Steps.{taken_if, taken_else, done_if, done_unless}
use Rattle.usb_enumerate.specs.Parts.{first_size, Allocates}

-- the reads of the device descriptor, by the speed
module _ (place : ℕ) {speed size : ℕ} {b b₁ b₂ : UsbBus} {r : Answer}
    (e : speed ≡ byte_at b.store.now place speed_field) (f : size ≡ first_size speed)
    (d : Does (put place max_packet_size0_field size) b b₁ (Ok tt)) where
  pub read_once : speed ≡ high_speed → Does (read_device_descriptor place 18 >> skip) b₁ b₂ r → Does (usb_read_device_descriptor place) b b₂ r
  unfolding usb_read_device_descriptor first_size
  read_once h k = got _ _ _ e (next _ (rw f at d) (taken_if _ (eq-eqb _ _ h) k))

  pub read_twice : (speed ≡ high_speed → ⊥)
      → Does (read_device_descriptor place 8 >>= (λ n. when (not (eqb n 18)) (read_device_descriptor place 18 >> skip))) b₁ b₂ r
      → Does (usb_read_device_descriptor place) b b₂ r
  unfolding usb_read_device_descriptor first_size
  read_twice h k = got _ _ _ e (next _ (rw f at d) (taken_else _ (ne_eqb _ _ h) k))

-- the second read, by what came of the first
module _ {n : ℕ} {b : UsbBus} where
  pub short : {m : M (Unit {0})} {b₁ : UsbBus} {r : Answer} → (n ≡ 18 → ⊥) → Does m b b₁ r → Does (when (not (eqb n 18)) m) b b₁ r
  short h d = done_if (ap not (ne_eqb n 18 h)) d

  pub whole : (m : M (Unit {0})) → n ≡ 18 → Ready b → Does (when (not (eqb n 18)) m) b b (Ok tt)
  whole m h fit = done_unless fit m (ap not (eq-eqb n 18 h))

pub ruleset reads = (read_once, read_twice, short, whole, bound, bound_failed, next_failed)

-- the place of a new device
module _ {b : UsbBus} where
  pub allocated : {b' : UsbBus} {place : ℕ} → Some place ≡ free_place b.store.now → place < place_count
      → b'.store.now ≡ with_bytes b.store.now place 0 (new_device place) → b'.log.now ≡ b.log.now → b'.at ≡ b.at → Lends b b'
      → Allocates b b' (Ok place)
  unfolding usb_allocate_device ◌>>=◌ ◌>>◌ look when skip return put_bytes change
  allocated {b'} {place} e h s l a k =
      let first : first_unused b.store.now ≡ place = sym (free_or _ e refl) in
      let free = ne_eqb place place_count (λ (e : place ≡ place_count). omega arith) in
      let o : b'.outcomes.now ≡ b.outcomes.now = ap (λ (o : Bor (List ℕ)). o.now) k.outcomes in
      let same : with_store (with_bytes b.store.now place 0 (new_device place)) (world b) ≡ world b' = simp (s, l, a, o) in
      record { is = rw (first, free) (ap (done place) same); logged = l; at = a; fit = λ f. (puts place 0 (new_device place) f s l a k).fit; lends = k }

  pub bus_full : None ≡ free_place b.store.now → Allocates b b (Err (Error BusFull))
  unfolding usb_allocate_device ◌>>=◌ ◌>>◌ look when throw
  bus_full e =
      let first : first_unused b.store.now ≡ place_count = sym (free_or _ e refl) in
      record { is = rw first refl; logged = refl; at = refl; fit = λ f. f; lends = lends_still b }

-- what the allocation promises, of a bus that is ready
pub placed : {b b' : UsbBus} {r : Result ℕ Failure} → Ready b → Allocates b b' r → Does usb_allocate_device b b' r
placed f p = record { is = p.is; fit = p.fit f; lends = p.lends }
