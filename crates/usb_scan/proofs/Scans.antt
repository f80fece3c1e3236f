-- The ways through a scan, over plain values. Assumes nothing.
use mathlib.Core.Path.{◌≡◌, refl, sym, ap, ◌∙◌}
use lib.Dec.{eqb}
use Rattle.std.proofs.Math.Dec.{eqb-suc-suc}
use Rattle.std.specs.Option.{unwrap_or, option_eq}
use Rattle.std.proofs.lemmas.Option.{none-some}
use Prim.Native.Nat.{ℕ, zero, suc, ◌+◌, ◌-◌, ◌≤◌, ◌<◌}
use native.Mathlib.Omega.{arith}
use borrow.Author.Tests.{eq-eqb, ne_eqb}
use Rattle.std.specs.Prelude.{Option, None, Some, Ok, Err}
use Rattle.usb_types.specs.Answers.{Answer}
use Rattle.usb_types.specs.declared.types.Failure.{Failure}
use Rattle.usb_types.specs.declared.types.Failure.TheVariants.{Error, Stop}
use Rattle.usb_store.specs.Layout.{place_count, hub_field, child_field, max_children_field}
use Rattle.usb_store.specs.Access.{byte_at}
use Rattle.usb_device.specs.Device.{first_unused, free_places}
use Rattle.usb_device.proofs.Free.{first_most}
use Rattle.usb_model.specs.Programs.{◌>>=◌, each}
use Rattle.usb_model.specs.World.{World, M, get}
use Rattle.usb_model.specs.Hub.{hub_check_connection, scan_port, hub_check_for_change}
use Rattle.usb_model.specs.Attach.{attach_below}
use Rattle.usb_model.proofs.Pairs.{Alike}
use Rattle.usb_model.proofs.Cycle.{scan-port, check_for_change}
use Rattle.usb_hub.specs.Parts.{ignored, place_of}
use Rattle.usb_transfer.specs.declared.bus.UsbBus.{UsbBus}
use Rattle.usb_transfer.specs.Runs.{world, Does}
use Rattle.usb_transfer.proofs.Steps.{bound, bound_ends, got, done_if, done_unless, attempted, attempt_stopped, Going}
use Rattle.usb_driver.specs.Bus.{Bus, OnBus}
use Rattle.usb_driver.proofs.Reaches.{After, after, at_place}

module _ (attach below : ℕ → M (Unit {0})) (hub port : ℕ) {b b₁ : UsbBus} where
  -- a failed check passes over the child
  pub passes_failed : {f : Failure} {r : Answer} → Does (hub_check_connection attach hub port) b b₁ (Err f) → r ≡ ignored (Err f)
      → Does (scan_port attach below hub port) b b₁ r
  unfolding scan_port
  passes_failed {f = Error e} d x = rw x (bound _ (attempted d tt) (got _ _ _ refl (got _ _ _ refl (done_unless d.fit _ refl))))
  passes_failed {f = Stop h} d x = bound_ends _ (attempt_stopped d) x

  module _ (d : Does (hub_check_connection attach hub port) b b₁ (Ok tt)) where
    pub passes_none : byte_at b₁.store.now hub (child_field port) ≡ 0 → Does (scan_port attach below hub port) b b₁ (Ok tt)
    unfolding scan_port
    passes_none z = bound _ (attempted d tt) (got _ _ _ (sym z) (got _ _ _ refl (done_unless d.fit _ refl)))

    module _ (place : ℕ) (e : byte_at b₁.store.now hub (child_field port) ≡ place + 1) where
      pub passes_no_hub : byte_at b₁.store.now place hub_field ≡ 0 → Does (scan_port attach below hub port) b b₁ (Ok tt)
      unfolding scan_port
      passes_no_hub z =
          let k : place + 1 - 1 ≡ place = omega arith in
          bound _ (attempted d tt) (got _ _ _ (sym e) (rw k (got _ _ _ (sym z) (done_unless d.fit _ (simp (ne_eqb (place + 1) 0 (λ n. omega arith)))))))

      pub goes_below : {b₂ : UsbBus} {r : Answer} → (byte_at b₁.store.now place hub_field ≡ 0 → ⊥)
          → Does (below place) b₁ b₂ r → Does (scan_port attach below hub port) b b₂ r
      unfolding scan_port
      goes_below z m =
          let k : place + 1 - 1 ≡ place = omega arith in
          bound _ (attempted d tt) (got _ _ _ (sym e) (rw k (got _ _ _ refl (done_if (simp (ne_eqb (place + 1) 0 (λ n. omega arith), ne_eqb _ 0 z)) m))))

-- a child stands above its hub, at a used place
pub child_bus : (hub port : ℕ) {place : ℕ} {v : World}
    → Bus hub v → port < 10 → byte_at v.store hub (child_field port) ≡ place + 1 → (hub < place) × Bus place v
child_bus hub port {place} {v} b l e =
    let a = b.good.child hub port l (λ z. omega (arith, e, z)) in
    let used : place < first_unused v.store = omega (arith, a.used, e) in
    (omega (arith, a.above, e), record { fit = b.fit; good = b.good; used = used; inside = omega (arith, used, first_most v.store) })

-- the byte of a child that is there, and of none
pub child_is : {place : ℕ} (child : ℕ) → Some place ≡ place_of child → child ≡ place + 1
child_is {place} zero e = absurd (none-some place (sym e))
child_is {place} (suc p) e = let same : place ≡ p = ap (λ (o : Option ℕ). unwrap_or o 0) e in omega (arith, same)

pub no_child : (child : ℕ) → None ≡ place_of child → child ≡ 0
no_child zero e = refl
no_child (suc p) e = absurd (none-some p e)

-- is the byte that of this child?
pub is_child : (byte child : ℕ) → option_eq eqb (place_of byte) (Some child) ≡ eqb byte (child + 1)
is_child zero child = sym (ne_eqb 0 (child + 1) (λ e. omega arith))
is_child (suc place) child = let k : child + 1 ≡ suc child = omega arith in rw k (sym (eqb-suc-suc place child))

-- ---- the ports of a hub, one after the other

abbrev pub scan : ℕ → ℕ → ℕ → ℕ → M (Unit {0})
scan n m hub port = scan_port (attach_below n) (hub_check_for_change (attach_below n) m) hub port

abbrev pub scans_all : ℕ → ℕ → ℕ → ℕ → ℕ → M (Unit {0})
scans_all n m hub count port = each count port (scan n m hub)

-- places are left above the hub, so the number is not zero
pub at_places : (n hub m : ℕ) {b b₁ : UsbBus} {r : Answer} → hub < place_count → place_count ≤ hub + m
    → ((k : ℕ) → place_count ≤ hub + suc k → Does (get hub max_children_field >>= (λ count. scans_all n k hub count 0)) b b₁ r)
    → Does (hub_check_for_change (attach_below n) m hub) b b₁ r
unfolding hub_check_for_change
at_places n hub zero h l f = absurd (omega arith)
at_places n hub (suc k) h l f = f k l

pub record Scanned (hub count port : ℕ) (b b₁ : UsbBus) : Type 0 where
  pub after : After hub (world b) (world b₁)
  pub goes : (n m : ℕ) → free_places b.store.now ≤ n → place_count ≤ hub + suc m
      → Going (scans_all n m hub count 0) b (scans_all n m hub (count - port) port) b₁

scan_walks : {u : World} (free above n hub port : ℕ) → hub < n → port < 10 → Alike u n (scan free above hub port) (scan free above hub port)
scan_walks free above n hub port h l = scan-port free hub port h l (λ v place _. check_for_change free v above place)

pub scanned_after : (n m : ℕ) {hub : ℕ} (port : ℕ) {b b₁ : UsbBus} {r : Answer} → OnBus hub b → port < 10
    → Does (scan n m hub port) b b₁ r → After hub (world b) (world b₁)
scanned_after n m {hub} port {b} on l d = after on ((scan_walks n m (hub + 1) hub port (omega arith) l).run (world b) (at_place on)).walk d
