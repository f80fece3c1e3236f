-- Every function of the driver walks. Assumes nothing.
use mathlib.Core.Path.{◌≡◌, refl}
use mathlib.Core.Bool.{Bool, true, false, cond, not, ◌&&◌, ◌||◌, and-eq-true_iff}
use mathlib.Core.Logic.{inr}
use Prim.Native.Nat.{ℕ, zero, suc, ◌+◌, ◌*◌, ◌≤◌, ◌<◌}
use native.Mathlib.Omega.{arith}
use borrow.Author.Tests.{ltb-true, not-false}
use lib.Dec.{eqb, ltb}
use Rattle.usb_types.specs.Requests.{to_device, to_hub, to_port, get_status_code, set_feature_code, clear_feature_code, get_descriptor_code, set_address_code, set_configuration_code, get_configuration_code, get_interface_code, synch_frame_code, direction_of, device_request}
use Rattle.usb_store.specs.Layout.{number_field, speed_field, status_field, configuration_index_field, port_number_field, parent_field, hub_field, device_descriptor_field, max_packet_size0_field, configuration_descriptor_field, interfaces_field, hub_descriptor_field, hub_status_field, port_status_field, child_field}
use Rattle.usb_model.specs.World.{World}
use Rattle.usb_model.specs.Features.{port_enable, port_low_speed, port_high_speed, c_port_reset, bit}
use Rattle.usb_model.specs.Transfer.{Buffer, into, nowhere, usb_get_descriptor}
use Rattle.usb_model.specs.Walk.{record_length}
use Rattle.usb_model.specs.Usbd.{read_device_descriptor, usb_read_device_descriptor, usb_set_address, usb_set_configure, usb_configure}
use Rattle.usb_model.specs.Hub.{hub_read_descriptor, hub_get_status, hub_change_port_feature, hub_power_on, hub_port_get_status, port_status, await_reset, hub_port_reset2, await_enabled, reset_tries, hub_port_reset, port_of_child, hub_child_reset, speed_of}
use Rattle.usb_model.specs.Kept.{Bytes}
use Rattle.usb_model.proofs.Bytes.{bytes_blank}
use Rattle.usb_model.proofs.Stores.{plain_low, Plain}
use Rattle.usb_model.proofs.Record.{walk_long, walk_bytes}
use Rattle.usb_model.proofs.Keeps.{bind, next, gives, skips, throws, succeeds, ignores, either, whens, unless, eachs}
use Rattle.usb_model.proofs.Walks.{Walks, Goes}
use Rattle.usb_model.proofs.Primitives.{gets, gets_most, gets_number, gets_bytes, puts, puts_bytes, waits, Byte-codes, Fits, room_none, plain, messages, controls, reads}

-- the middle one of three tests
pub middle : {b : Bool} (a c : Bool) → (a && b && c) ≡ true → b ≡ true
middle {b} a c e = ((and-eq-true_iff a b).0 ((and-eq-true_iff (a && b) c).0 e).0).1

-- ---- requests and buffers of the driver

direction_most : (code : ℕ) → direction_of code ≤ 1
unfolding direction_of
direction_most code =
    go (eqb code get_status_code || eqb code get_descriptor_code || eqb code get_configuration_code || eqb code get_interface_code || eqb code synch_frame_code)
  where
    go : (b : Bool) → cond {A = ℕ} b 1 0 ≤ 1
    go true = omega arith
    go false = omega arith

-- the packet size of a first read
pub packet_small : (b : Bool) → cond {A = ℕ} b 8 64 < 256
packet_small true = omega arith
packet_small false = omega arith

pub codes : (recipient code value index size : ℕ) → recipient < 128 → code < 256
    → Byte-codes (device_request recipient code value index size)
unfolding device_request
codes recipient code value index size r c = record { type = omega (arith, direction_most code); code = c }

none : Fits nowhere
none = room_none refl

-- a buffer before the children
low : (field room : ℕ) → 0 < field → field + room ≤ 96 → Fits (into field room)
low field room h l = plain (plain_low h l)

-- a byte before the children
pub small : (f : ℕ) → 0 < f → f < 96 → Plain f 1
small f h l = plain_low h (omega arith)

module _ {u : World} {n : ℕ} where
  descriptors : (p recipient type index size minimum : ℕ) {b : Buffer} → recipient < 128 → Fits b
      → Walks u n (usb_get_descriptor p recipient type index size minimum b) Bytes
  unfolding usb_get_descriptor
  descriptors p recipient type index size minimum {b} r f =
      reads p _ b (codes recipient get_descriptor_code (type * 256 + index) 0 size r (omega arith)) f minimum

  -- ---- usbd.rs

  pub device_descriptor : (p minimum : ℕ) → Goes u n (read_device_descriptor p minimum)
  unfolding read_device_descriptor
  device_descriptor p minimum =
      bind (descriptors p to_device 1 0 18 minimum (omega arith) (low device_descriptor_field 18 (omega arith) (omega arith))) λ bytes _. gives _ tt

  pub read-device-descriptor : (p : ℕ) → Goes u n (usb_read_device_descriptor p)
  unfolding usb_read_device_descriptor
  read-device-descriptor p =
      bind (gets p speed_field) λ speed _.
      next (puts p max_packet_size0_field _ (small max_packet_size0_field (omega arith) (omega arith)) (packet_small (eqb speed 2))) (
      either (eqb speed 0)
      (next (device_descriptor p 18) skips)
      (bind (device_descriptor p 8) λ count _. whens (not (eqb count 18)) (next (device_descriptor p 18) skips)))

  pub set-address : (p address : ℕ) → address < 256 → Goes u n (usb_set_address p address)
  unfolding usb_set_address
  set-address p address h =
      bind (gets p status_field) λ status _.
      next (whens _ (throws _)) (
      next (messages p _ nowhere (codes to_device set_address_code _ 0 0 (omega arith) (omega arith)) none 0 (omega arith)) (
      next (waits _) (
      next (puts p number_field address (small number_field (omega arith) (omega arith)) h)
      (puts p status_field _ (small status_field (omega arith) (omega arith)) (omega arith)))))

  pub set_configure : (p value : ℕ) → value < 256 → Goes u n (usb_set_configure p value)
  unfolding usb_set_configure
  set_configure p value h =
      bind (gets p status_field) λ status _.
      next (whens _ (throws _)) (
      next (controls p _ nowhere (codes to_device set_configuration_code _ 0 0 (omega arith) (omega arith)) none) (
      next (puts p configuration_index_field value (small configuration_index_field (omega arith) (omega arith)) h)
      (puts p status_field _ (small status_field (omega arith) (omega arith)) (omega arith))))

  pub configures : (p index : ℕ) → index < 256 → Goes u n (usb_configure p index)
  unfolding usb_configure
  configures p index h =
      bind (gets p status_field) λ status _.
      next (whens _ (throws _)) (
      next (descriptors p to_device 2 index 9 9 (omega arith) (low configuration_descriptor_field 9 (omega arith) (omega arith))) (
      bind (gets_number p _ 2) λ total _.
      bind (descriptors p to_device 2 index total total (omega arith) none) λ full b.
      next (puts p configuration_index_field index (small configuration_index_field (omega arith) (omega arith)) h) (
      bind (gets_bytes p interfaces_field record_length) λ kept c.
      next (puts_bytes p interfaces_field record_length _ (record { past = omega arith; room = omega arith; apart = inr (omega arith) })
      (omega (arith, walk_long full kept, c.1)) (walk_bytes full kept b c.0)) (
      next (succeeds _) (
      bind (gets p _) λ value v. set_configure p value v)))))

  -- ---- device/hub.rs

  pub read_hub_descriptor : (p : ℕ) → Goes u n (hub_read_descriptor p)
  unfolding hub_read_descriptor
  read_hub_descriptor p =
      bind (descriptors p to_hub 41 0 2 2 (omega arith) none) λ header b.
      bind (gets p hub_field) λ data' _.
      next (whens _ (next (puts p hub_field _ (small hub_field (omega arith) (omega arith)) (omega arith))
      (puts_bytes p hub_descriptor_field 9 _ (plain_low (omega arith) (omega arith)) (omega arith) (bytes_blank 9)))) (
      next (descriptors p to_hub 41 0 _ _ (omega arith) (low hub_descriptor_field 9 (omega arith) (omega arith))) skips)

  pub get_status : (p : ℕ) → Goes u n (hub_get_status p)
  unfolding hub_get_status
  get_status p =
      next (reads p _ _ (codes to_hub get_status_code 0 0 4 (omega arith) (omega arith)) (low hub_status_field _ (omega arith) (omega arith)) _) skips

  pub change_feature : (p feature port : ℕ) (set : Bool) → Goes u n (hub_change_port_feature p feature port set)
  unfolding hub_change_port_feature
  change_feature p feature port set = next (controls p _ nowhere (codes to_port _ feature (port + 1) 0 (omega arith) (code set)) none) skips
    where
      code : (b : Bool) → cond {A = ℕ} b set_feature_code clear_feature_code < 256
      code true = omega arith
      code false = omega arith

  pub power_on : (p : ℕ) → Goes u n (hub_power_on p)
  unfolding hub_power_on
  power_on p =
      bind (gets p hub_field) λ data' _.
      whens _ (bind (gets p _) λ count _. bind (gets p _) λ delay _.
      next (eachs _ _ (λ port _. ignores (change_feature p _ port true))) (waits _))

  pub port_get_status : (p port : ℕ) → port < 10 → Goes u n (hub_port_get_status p port)
  unfolding hub_port_get_status
  port_get_status p port h =
      next
      (reads p _ _ (codes to_port get_status_code 0 (port + 1) 4 (omega arith) (omega arith)) (low (port_status_field port) _ (omega arith) (omega arith)) _)
      skips

  pub port-status : (p port : ℕ) → Goes u n (port_status p port)
  unfolding port_status
  port-status p port = gets_number p _ 4

  pub await-reset : (reads p port : ℕ) → port < 10 → Goes u n (await_reset reads p port)
  unfolding await_reset
  await-reset zero p port h = gives false tt
  await-reset (suc reads) p port h =
      next (waits _) (next (port_get_status p port h) (bind (port-status p port) λ status _.
      either (bit c_port_reset status) (gives true tt) (await-reset reads p port h)))

  pub reset2 : (p port : ℕ) → port < 10 → Goes u n (hub_port_reset2 p port)
  unfolding hub_port_reset2
  reset2 p port h =
      next (ignores (change_feature p _ port false)) (next (change_feature p _ port true) (
      bind (await-reset _ p port h) λ seen _.
      next (change_feature p _ port false) (next (whens _ (throws _)) (waits _))))

  pub await-enabled : (reads p port : ℕ) → port < 10 → Goes u n (await_enabled reads p port)
  unfolding await_enabled
  await-enabled zero p port h = gives false tt
  await-enabled (suc reads) p port h =
      next (waits _) (next (port_get_status p port h) (bind (port-status p port) λ status _.
      either (bit c_port_reset status || bit port_enable status) (gives _ tt) (await-enabled reads p port h)))

  pub tries : (count p port : ℕ) → port < 10 → Goes u n (reset_tries count p port)
  unfolding reset_tries
  tries zero p port h = skips
  tries (suc count) p port h =
      next (change_feature p _ port true) (bind (await-enabled _ p port h) λ seen _.
      bind (port-status p port) λ status _.
      next (whens _ (throws _)) (either (seen && bit port_enable status) skips (tries count p port h)))

  pub reset : (p port : ℕ) → port < 10 → Goes u n (hub_port_reset p port)
  unfolding hub_port_reset
  reset p port h = next (tries _ p port h) (next (ignores (change_feature p _ port false)) (ignores (change_feature p _ port false)))

  pub port-of-child : (p child : ℕ) → Walks u n (port_of_child p child) (λ port. port < 10)
  unfolding port_of_child
  port-of-child p child =
      bind (gets child parent_field) λ parent _.
      bind (gets child port_number_field) λ port _.
      bind (gets_most p) λ count most.
      bind (gets p (child_field port)) λ stands _.
      unless (not (eqb parent (p + 1) && ltb port count && eqb stands (child + 1))) _ _ λ e.
      gives port (omega (arith, most, ltb-true port count (middle (eqb parent (p + 1)) (eqb stands (child + 1)) (not-false _ e))))

  pub child-reset : (p child : ℕ) → Goes u n (hub_child_reset p child)
  unfolding hub_child_reset
  child-reset p child = bind (port-of-child p child) λ port h. reset2 p port h

pub speed_listed : (status : ℕ) → speed_of status < 3
unfolding speed_of
speed_listed status = go (bit port_low_speed status) (bit port_high_speed status)
  where
    go : (a b : Bool) → cond {A = ℕ} a 2 (cond b 0 1) < 3
    go true b = omega arith
    go false true = omega arith
    go false false = omega arith
