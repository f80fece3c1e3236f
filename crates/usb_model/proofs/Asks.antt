-- How many requests a function sends that attaches no device, whatever is known of the store, and what is known stays so. Assumes
-- nothing.
use mathlib.Core.Path.{◌≡◌, refl}
use mathlib.Core.Bool.{Bool, true, false}
use mathlib.Core.Logic.{inl, inr, ⊎_elim}
use mathlib.Core.List.{List, [], ◌∷◌}
use Prim.Native.Nat.{ℕ, zero, suc, ◌+◌, ◌≤◌, ◌<◌}
use native.Mathlib.Omega.{arith}
use lib.Dec.{eqb}
use lib.ListN.{length, take, length-take}
use Rattle.usb_types.specs.Numbers.{little_endian}
use Rattle.usb_types.proofs.LittleEndian.{length_le}
use Rattle.usb_types.specs.declared.request.UsbDeviceRequest.{UsbDeviceRequest}
use Rattle.usb_store.specs.Layout.{number_field, status_field, configuration_index_field, hub_field, device_descriptor_field, max_packet_size0_field, configuration_descriptor_field, interfaces_field, hub_descriptor_field, hub_status_field, port_status_field, child_field, max_children_field, error_field, last_transfer_field}
use Rattle.usb_store.specs.Access.{bytes_at, offset, with_bytes, with_byte}
use Rattle.usb_store.proofs.Writes.{write_nil}
use Rattle.usb_store.proofs.Fields.{bytes_most}
use Rattle.usb_model.specs.Programs.{change}
use Rattle.usb_model.specs.World.{World, with_store, get, get_bytes, get_number, put, put_bytes, put_number, appended, counted, log_action, log_request, micro_delay, dwc_update_host_frame_interval}
use Rattle.usb_model.specs.Features.{c_port_reset, bit}
use Rattle.usb_model.specs.Transfer.{taken, take_outcome, Buffer, into, nowhere, usb_control_message, control, read, usb_get_descriptor}
use Rattle.usb_model.specs.Walk.{record_length}
use Rattle.usb_model.specs.Usbd.{read_device_descriptor, usb_read_device_descriptor, usb_set_address, usb_set_configure, usb_configure}
use Rattle.usb_model.specs.Hub.{hub_read_descriptor, hub_get_status, hub_change_port_feature, hub_power_on, hub_port_get_status, port_status, await_reset, hub_port_reset2}
use Rattle.usb_model.proofs.Costs.{bind, next, looks, more, gives, skips, throws, stops, sees, changes, succeeds, ignores, either, whens, eachs}
use Rattle.usb_model.proofs.Record.{walk_long}
use Rattle.usb_model.proofs.Budget.{Known, place, Knows, Keeps, Wrote, Plain, plain_writes, most_writes, child_writes, hub_writes}

-- ---- the steps

-- a byte before the hub byte, a field between it and the children, and one after them
pub small : (f : ℕ) → (0 < f) × (f < 7) → Plain f 1
small f h = record { clear = record { past = h.0; room = omega arith; hub = inl (omega arith) }; ports = inl (omega arith) }

low : (f n : ℕ) → (7 < f) × (f + n ≤ 96) → Plain f n
low f n h = record { clear = record { past = omega arith; room = omega arith; hub = inr h.0 }; ports = inl h.1 }

high : (f n : ℕ) → (106 < f) × (f + n ≤ 1152) → Plain f n
high f n h = record { clear = record { past = omega arith; room = h.1; hub = inr (omega arith) }; ports = inr h.0 }

plain_less : {f m n : ℕ} → m ≤ n → Plain f n → Plain f m
plain_less h r = record {
  clear = record { past = r.clear.past; room = omega (arith, r.clear.room); hub = ⊎_elim (λ x. inl (omega arith)) (λ x. inr x) r.clear.hub };
  ports = ⊎_elim (λ x. inl (omega arith)) (λ x. inr x) r.ports;
}

nothing_written : (s : List ℕ) (p f : ℕ) → with_bytes s p f [] ≡ s
unfolding with_bytes
nothing_written s p f = write_nil s (offset p f)

-- where delivered bytes may go
data Fits : Buffer → Type 0 where
  none : Fits nowhere
  plain : {f n : ℕ} → Plain f n → Fits (into f n)

module _ {k : Known} where
  writes : (f : List ℕ → List ℕ) → ((s : List ℕ) → Knows k s → Wrote k 0 s (f s)) → Keeps k 0 (change (λ w. with_store (f w.store) w))
  writes f h = changes _ (λ w n. let r = h w.store n in record { holds = r.knows; paid = omega (arith, r.gain) })

  -- the store is left as it is
  leaves : (n : ℕ) (f : World → World) → ((w : World) → (f w).store ≡ w.store) → ((w : World) → (f w).at.requests ≤ w.at.requests + n)
      → Keeps k n (change f)
  leaves n f same sent = changes f (λ w h. rw (same w) (record { holds = h; paid = omega (arith, sent w) }))

  pub gets : (p f : ℕ) → Keeps k 0 (get p f)
  unfolding get
  gets p f = sees _

  gets_number : (p f n : ℕ) → Keeps k 0 (get_number p f n)
  unfolding get_number
  gets_number p f n = sees _

  puts_bytes : (p f n : ℕ) (vs : List ℕ) → Plain f n → length vs ≤ n → Keeps k 0 (put_bytes p f vs)
  unfolding put_bytes
  puts_bytes p f n vs r l = writes (λ s. with_bytes s p f vs) (λ s h. plain_writes h p f vs (plain_less l r))

  pub puts : (p f v : ℕ) → Plain f 1 → Keeps k 0 (put p f v)
  puts p f v r = puts_bytes p f 1 (v ∷ []) r (omega arith)

  puts_number : (p f n v : ℕ) → Plain f n → Keeps k 0 (put_number p f n v)
  puts_number p f n v r = puts_bytes p f n (little_endian n v) r (omega (arith, length_le n v))

  logs : (action : List ℕ) → Keeps k 0 (log_action action)
  unfolding log_action
  logs action = bind (sees _) λ room. next (whens _ (stops _)) (leaves 0 (appended action) (λ w. refl) (λ w. omega arith))

  requests : (action : List ℕ) → Keeps k 1 (log_request action)
  unfolding log_request
  requests action = next (logs action) (leaves 1 counted (λ w. refl) (λ w. omega arith))

  pub waits : (microseconds : ℕ) → Keeps k 0 (micro_delay microseconds)
  unfolding micro_delay
  waits microseconds = logs _

  pub frames : Keeps k 0 dwc_update_host_frame_interval
  unfolding dwc_update_host_frame_interval
  frames = logs _

  takes : (asked : ℕ) → Keeps k 0 (take_outcome asked)
  unfolding take_outcome
  takes asked = bind (sees _) λ rest. next (whens _ (stops _)) (next (whens _ (stops _)) (next (whens _ (stops _)) (
      next (leaves 0 (taken _) (λ w. refl) (λ w. omega arith)) (gives _))))

  delivers : (p : ℕ) {b : Buffer} (vs : List ℕ) → Fits b → Keeps k 0 (put_bytes p b.field (take b.room vs))
  unfolding put_bytes
  delivers p vs none = writes (λ s. with_bytes s p 0 []) (λ s h. rw (nothing_written s p 0) (record { knows = h; gain = omega arith }))
  delivers p vs (plain {f} {n} r) = puts_bytes p f n _ r (omega (arith, length-take n vs))

  -- ---- usbd.rs

  messages : (p address : ℕ) (q : UsbDeviceRequest) {b : Buffer} → Fits b → Keeps k 1 (usb_control_message p address q b)
  unfolding usb_control_message
  messages p address q fits =
      bind (gets p _) λ speed. bind (gets p _) λ size. next (requests _) (bind (takes _) λ o.
      next (puts_number p error_field 4 _ (low error_field 4 (omega arith))) (next (delivers p o.delivered fits) (
      next (puts_number p last_transfer_field 4 _ (low last_transfer_field 4 (omega arith))) (next (succeeds _) (gives _)))))

  controls : (p : ℕ) (q : UsbDeviceRequest) {b : Buffer} → Fits b → Keeps k 1 (control p q b)
  unfolding control
  controls p q fits = bind (gets p _) λ address. messages p address q fits

  reads : (p : ℕ) (q : UsbDeviceRequest) (minimum : ℕ) {b : Buffer} → Fits b → Keeps k 1 (read p q minimum b)
  unfolding read
  reads p q minimum fits = bind (controls p q fits) λ bytes. next (whens _ (throws _)) (gives bytes)

  descriptors : (p recipient type index size minimum : ℕ) {b : Buffer} → Fits b
      → Keeps k 1 (usb_get_descriptor p recipient type index size minimum b)
  unfolding usb_get_descriptor
  descriptors p recipient type index size minimum fits = reads p _ minimum fits

  device_descriptor : (p minimum : ℕ) → Keeps k 1 (read_device_descriptor p minimum)
  unfolding read_device_descriptor
  device_descriptor p minimum = bind (descriptors p _ _ _ _ _ (plain (low device_descriptor_field 18 (omega arith)))) λ bytes. gives _

  pub read-device-descriptor : (p : ℕ) → Keeps k 2 (usb_read_device_descriptor p)
  unfolding usb_read_device_descriptor
  read-device-descriptor p =
      bind (gets p _) λ speed. next (puts p _ _ (low max_packet_size0_field 1 (omega arith))) (either (eqb speed 0)
      (more 2 (next (device_descriptor p 18) skips) (omega arith))
      (bind (device_descriptor p 8) λ count. whens _ (next (device_descriptor p 18) skips)))

  pub set-address : (p address : ℕ) → Keeps k 1 (usb_set_address p address)
  unfolding usb_set_address
  set-address p address =
      bind (gets p _) λ status. next (whens _ (throws _)) (next (messages p 0 _ none) (next (waits _) (
      next (puts p _ _ (small number_field (omega arith))) (puts p _ _ (small status_field (omega arith))))))

  set_configure : (p value : ℕ) → Keeps k 1 (usb_set_configure p value)
  unfolding usb_set_configure
  set_configure p value =
      bind (gets p _) λ status. next (whens _ (throws _)) (next (controls p _ none) (
      next (puts p _ _ (small configuration_index_field (omega arith))) (puts p _ _ (small status_field (omega arith)))))

  pub configures : (p index : ℕ) → Keeps k 3 (usb_configure p index)
  unfolding usb_configure get_bytes
  configures p index =
      bind (gets p _) λ status. next (whens _ (throws _)) (
      next (descriptors p _ _ _ _ _ (plain (low configuration_descriptor_field 9 (omega arith)))) (
      bind (gets_number p _ 2) λ total. bind (descriptors p _ _ _ total total none) λ full.
      next (puts p _ _ (small configuration_index_field (omega arith))) (looks _ _ λ w n.
      let kept = bytes_at w.store p interfaces_field record_length in
      next (puts_bytes p _ record_length _ (high interfaces_field record_length (omega arith))
      (omega (arith, walk_long full kept, bytes_most w.store p interfaces_field record_length))) (
      next (succeeds _) (bind (gets p _) λ value. set_configure p value)))))

  -- ---- device/hub.rs

  pub get_status : (p : ℕ) → Keeps k 1 (hub_get_status p)
  unfolding hub_get_status
  get_status p = next (reads p _ 4 (plain (low hub_status_field 4 (omega arith)))) skips

  pub change_feature : (p feature port : ℕ) (set : Bool) → Keeps k 1 (hub_change_port_feature p feature port set)
  unfolding hub_change_port_feature
  change_feature p feature port set = next (controls p _ none) skips

  -- MaxChildren is at most 10
  pub power_on : (p : ℕ) → Keeps k 10 (hub_power_on p)
  unfolding hub_power_on get
  power_on p = bind (gets p _) λ data'. whens _ (looks _ _ λ w n. bind (gets p _) λ delay.
      next (more 10 (eachs _ 0 (λ port _. ignores (change_feature p _ port true))) (omega (arith, n.most p))) (waits _))

  pub port_get_status : (p port : ℕ) → port < 10 → Keeps k 1 (hub_port_get_status p port)
  unfolding hub_port_get_status
  port_get_status p port h = next (reads p _ 4 (plain (low (port_status_field port) 4 (omega arith)))) skips

  pub port-status : (p port : ℕ) → Keeps k 0 (port_status p port)
  unfolding port_status
  port-status p port = gets_number p _ 4

  await-reset : (n p port : ℕ) → port < 10 → Keeps k n (await_reset n p port)
  unfolding await_reset
  await-reset zero p port h = gives false
  await-reset (suc n) p port h = more (suc n)
      (next (waits _) (next (port_get_status p port h)
      (bind (port-status p port) λ status. either (bit c_port_reset status) (more n (gives true) (omega arith)) (await-reset n p port h))))
      (omega arith)

  pub reset2 : (p port : ℕ) → port < 10 → Keeps k 24 (hub_port_reset2 p port)
  unfolding hub_port_reset2
  reset2 p port h =
      next (ignores (change_feature p _ port false)) (next (change_feature p _ port true) (bind (await-reset _ p port h) λ seen.
      next (change_feature p _ port false) (next (whens _ (throws _)) (waits _))))

-- ---- the writes that are not plain

pub puts_most : {k : Known} (p v : ℕ) → p < 32 → v ≤ 10 → Keeps k 0 (put p max_children_field v)
unfolding put_bytes
puts_most p v h l = writes (λ s. with_byte s p max_children_field v) (λ s n. most_writes n p v h l)

pub puts_child : {q : ℕ} {b : Bool} (p j v : ℕ) → j < 10 → Keeps (place q b) 0 (put p (child_field j) v)
unfolding put_bytes
puts_child p j v l = writes (λ s. with_byte s p (child_field j) v) (λ s n. child_writes n p j v l)

pub read_hub_descriptor : (p : ℕ) → p < 32 → Keeps (place p false) 2 (hub_read_descriptor p)
unfolding hub_read_descriptor put_bytes
read_hub_descriptor p h =
    bind (descriptors p _ _ _ _ _ none) λ header. bind (gets p _) λ data'.
    next (whens _ (next (writes (λ s. with_byte s p hub_field 2) (λ s n. hub_writes n 2 h (omega arith)))
    (puts_bytes p hub_descriptor_field 9 _ (low hub_descriptor_field 9 (omega arith)) (omega arith)))) (
    next (descriptors p _ _ _ _ _ (plain (low hub_descriptor_field 9 (omega arith)))) skips)
