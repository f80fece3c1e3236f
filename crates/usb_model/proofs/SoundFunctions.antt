-- Every function of the driver that takes no place keeps a store sound. Assumes nothing.
use mathlib.Core.Bool.{Bool, true, false, not, ◌&&◌, ◌||◌}
use mathlib.Core.Logic.{inl, inr, ⊎_elim}
use mathlib.Core.List.{List, [], ◌∷◌}
use Prim.Native.Nat.{ℕ, zero, suc, ◌+◌, ◌≤◌, ◌<◌}
use native.Mathlib.Omega.{arith}
use borrow.Author.Tests.{ltb-true, not-false}
use lib.Dec.{eqb, ltb}
use Rattle.usb_store.specs.Layout.{number_field, speed_field, status_field, configuration_index_field, port_number_field, parent_field, hub_field, device_descriptor_field, max_packet_size0_field, configuration_descriptor_field, interfaces_field, hub_status_field, port_status_field, child_field}
use Rattle.usb_place.specs.Rules.{OneOf}
use Rattle.usb_model.specs.World.{put}
use Rattle.usb_model.specs.Features.{port_enable, c_port_reset, bit}
use Rattle.usb_model.specs.Transfer.{Buffer, into, nowhere, usb_get_descriptor}
use Rattle.usb_model.specs.Walk.{record_length}
use Rattle.usb_model.specs.Usbd.{read_device_descriptor, usb_read_device_descriptor, usb_set_address, usb_set_configure, usb_configure}
use Rattle.usb_model.specs.Hub.{hub_get_status, hub_change_port_feature, hub_power_on, hub_port_get_status, port_status, await_reset, hub_port_reset2, await_enabled, reset_tries, hub_port_reset, port_of_child, hub_child_reset}
use Rattle.usb_model.proofs.Functions.{middle}
use Rattle.usb_model.proofs.Keeps.{Any, Keeps, bind, next, gives, skips, throws, succeeds, ignores, either, whens, unless_to, eachs}
use Rattle.usb_model.proofs.SoundStores.{At}
use Rattle.usb_model.proofs.Record.{walk_long}
use Rattle.usb_model.proofs.SoundSteps.{Held, some_place, gets, gets_number, gets_bytes, gets_most, puts, puts_bytes, waits, Fits, messages, controls, reads}

-- ---- where delivered bytes go

pub none : {k : ℕ} → Fits k nowhere
none = record { room = omega arith; clear = inl (omega arith); may = λ c h p g v a b d. omega arith }

-- the device and the configuration descriptor
low_fits : (field size : ℕ) → 12 ≤ field → field + size ≤ 43 → Fits 0 (into field size)
low_fits field size low high = record { room = omega arith; clear = inr (omega arith); may = λ c h p g v a b d. omega arith }

-- the status of the hub, and of a port
status_fits : (field : ℕ) → 52 ≤ field → field + 4 ≤ 96 → Fits 1 (into field 4)
status_fits field low high = record { room = omega arith; clear = inr (omega arith); may = λ c h p g v a b d. omega arith }

pub port-status : {b : Bool} {s : List ℕ} (p port : ℕ) → Keeps (Held b s) (port_status p port) Any
unfolding port_status
port-status p port = gets_number p _ 4

module _ {b : Bool} {s : List ℕ} {p : ℕ} where
  pub descriptors : {k : ℕ} → At s p k → (recipient type index size minimum : ℕ) {c : Buffer} → Fits k c
      → Keeps (Held b s) (usb_get_descriptor p recipient type index size minimum c) Any
  unfolding usb_get_descriptor
  descriptors u recipient type index size minimum fits = reads u fits _ minimum

  -- ---- usbd.rs

  module _ (u : At s p 0) where
    device_descriptor : (minimum : ℕ) → Keeps (Held b s) (read_device_descriptor p minimum) Any
    unfolding read_device_descriptor
    device_descriptor minimum =
        bind (descriptors u _ _ _ _ _ (low_fits device_descriptor_field 18 (omega arith) (omega arith))) λ bytes _. gives _ tt

    pub read-device-descriptor : Keeps (Held b s) (usb_read_device_descriptor p) Any
    unfolding usb_read_device_descriptor
    read-device-descriptor =
        bind (gets p speed_field) λ speed _.
        next (puts u max_packet_size0_field _ (λ h l. omega arith) (inr (omega arith))) (
        either (eqb speed 0)
        (next (device_descriptor 18) skips)
        (bind (device_descriptor 8) λ count _. whens (not (eqb count 18)) (next (device_descriptor 18) skips)))

    -- the number is the place's own, or 0
    pub puts_own : (v : ℕ) → OneOf v (0 ∷ (p + 1) ∷ []) → Keeps (Held b s) (put p number_field v) Any
    puts_own v =
        ⊎_elim (λ e. puts u number_field v (λ h l. omega arith) (inl (omega arith)))
        (⊎_elim (λ e. puts u number_field v (λ h l. omega arith) (inl (omega arith))) (λ e. absurd e))

    pub puts_status : (v : ℕ) → v < 5 → Keeps (Held b s) (put p status_field v) Any
    puts_status v l = puts u status_field v (λ h m. omega arith) (inl (omega arith))

    puts_index : (v : ℕ) → Keeps (Held b s) (put p configuration_index_field v) Any
    puts_index v = puts u configuration_index_field v (λ h m. omega arith) (inl (omega arith))

    pub set-address : (address : ℕ) → OneOf address (0 ∷ (p + 1) ∷ []) → Keeps (Held b s) (usb_set_address p address) Any
    unfolding usb_set_address
    set-address address own =
        bind (gets p status_field) λ status _.
        next (whens _ (throws _)) (next (messages u none _ 0) (next (waits _) (next (puts_own address own) (puts_status _ (omega arith)))))

    set_configure : (value : ℕ) → Keeps (Held b s) (usb_set_configure p value) Any
    unfolding usb_set_configure
    set_configure value =
        bind (gets p status_field) λ status _.
        next (whens _ (throws _)) (next (controls u none _) (next (puts_index value) (puts_status _ (omega arith))))

    pub configures : (index : ℕ) → Keeps (Held b s) (usb_configure p index) Any
    unfolding usb_configure
    configures index =
        bind (gets p status_field) λ status _.
        next (whens _ (throws _)) (
        next (descriptors u _ _ _ _ _ (low_fits configuration_descriptor_field 9 (omega arith) (omega arith))) (
        bind (gets_number p _ 2) λ total _.
        bind (descriptors u _ _ _ _ _ none) λ full _.
        next (puts_index index) (
        bind (gets_bytes p interfaces_field record_length) λ kept most.
        let long = walk_long full kept in
        next (puts_bytes u interfaces_field _ (omega (arith, long)) (λ h i l m. omega (arith, long)) (inr (omega arith))) (
        next (succeeds _) (
        bind (gets p _) λ value _. set_configure value)))))

  -- ---- device/hub.rs

  pub change_feature : {k : ℕ} → At s p k → (feature port : ℕ) (set : Bool) → Keeps (Held b s) (hub_change_port_feature p feature port set) Any
  unfolding hub_change_port_feature
  change_feature u feature port set = next (controls u none _) skips

  pub power_on : {k : ℕ} → At s p k → Keeps (Held b s) (hub_power_on p) Any
  unfolding hub_power_on
  power_on u =
      bind (gets p hub_field) λ data' _.
      whens _ (bind (gets p _) λ count _. bind (gets p _) λ delay _.
      next (eachs _ _ (λ port _. ignores (change_feature u _ port true))) (waits _))

  module _ (u : At s p 0) where
    pub port-of-child : (child : ℕ) → Keeps (Held b s) (port_of_child p child) (λ port. port < 10)
    unfolding port_of_child
    port-of-child child =
        bind (gets child parent_field) λ parent _.
        bind (gets child port_number_field) λ port _.
        bind (gets_most u) λ count most.
        bind (gets p (child_field port)) λ stands _.
        unless_to (λ w h. h) (not (eqb parent (p + 1) && ltb port count && eqb stands (child + 1))) _ _ λ e.
        gives port (omega (arith, most, ltb-true port count (middle (eqb parent (p + 1)) (eqb stands (child + 1)) (not-false _ e))))

  module _ (u : At s p 1) where
    pub get_status : Keeps (Held b s) (hub_get_status p) Any
    unfolding hub_get_status
    get_status = next (reads u (status_fits hub_status_field (omega arith) (omega arith)) _ 4) skips

    pub port_get_status : (port : ℕ) → port < 10 → Keeps (Held b s) (hub_port_get_status p port) Any
    unfolding hub_port_get_status
    port_get_status port h = next (reads u (status_fits (port_status_field port) (omega arith) (omega arith)) _ 4) skips

    await-reset : (reads port : ℕ) → port < 10 → Keeps (Held b s) (await_reset reads p port) Any
    unfolding await_reset
    await-reset zero port h = gives false tt
    await-reset (suc reads) port h =
        next (waits _) (next (port_get_status port h) (bind (port-status p port) λ now _.
        either (bit c_port_reset now) (gives true tt) (await-reset reads port h)))

    pub reset2 : (port : ℕ) → port < 10 → Keeps (Held b s) (hub_port_reset2 p port) Any
    unfolding hub_port_reset2
    reset2 port h =
        next (ignores (change_feature u _ port false)) (next (change_feature u _ port true) (
        bind (await-reset _ port h) λ seen _.
        next (change_feature u _ port false) (next (whens _ (throws _)) (waits _))))

    await-enabled : (reads port : ℕ) → port < 10 → Keeps (Held b s) (await_enabled reads p port) Any
    unfolding await_enabled
    await-enabled zero port h = gives false tt
    await-enabled (suc reads) port h =
        next (waits _) (next (port_get_status port h) (bind (port-status p port) λ now _.
        either (bit c_port_reset now || bit port_enable now) (gives _ tt) (await-enabled reads port h)))

    tries : (count port : ℕ) → port < 10 → Keeps (Held b s) (reset_tries count p port) Any
    unfolding reset_tries
    tries zero port h = skips
    tries (suc count) port h =
        next (change_feature u _ port true) (bind (await-enabled _ port h) λ seen _.
        bind (port-status p port) λ now _.
        next (whens _ (throws _)) (either (seen && bit port_enable now) skips (tries count port h)))

    pub reset : (port : ℕ) → port < 10 → Keeps (Held b s) (hub_port_reset p port) Any
    unfolding hub_port_reset
    reset port h = next (tries 3 port h) (next (ignores (change_feature u _ port false)) (ignores (change_feature u _ port false)))

    pub child-reset : (child : ℕ) → Keeps (Held b s) (hub_child_reset p child) Any
    unfolding hub_child_reset
    child-reset child = bind (port-of-child (some_place u) child) λ port h. reset2 port h
