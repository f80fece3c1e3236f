-- Every function of the driver extends (More.antt), and every call, with more outcomes, is repeated as `Repeated` says. Assumes nothing.
use mathlib.Core.Path.{◌≡◌, refl, ap}
use mathlib.Core.Bool.{Bool, false}
use mathlib.Core.Logic.{◌≢◌}
use mathlib.Core.List.{List, []}
use Prim.Native.Nat.{ℕ, zero, suc, ◌*◌}
use native.Mathlib.Omega.{arith}
use lib.IntN.{ℤ}
use lib.ListN.{length}
use Rattle.usb_types.specs.Answers.{halt_number}
use Rattle.usb_types.specs.declared.types.Halt.TheVariants.{OutcomesSpent}
use Rattle.usb_types.specs.declared.request.UsbDeviceRequest.{UsbDeviceRequest}
use Rattle.usb_store.specs.Access.{write}
use Rattle.usb_store.proofs.Writes.{take_write, length_write}
use Rattle.usb_device.specs.Device.{first_unused}
use Rattle.usb_model.specs.Programs.{Ran, done, fail, halt, end_of}
use Rattle.usb_model.specs.World.{World, M}
use Rattle.usb_model.specs.Transfer.{Buffer, usb_control_message, control, read, usb_get_descriptor}
use Rattle.usb_model.specs.Usbd.{read_device_descriptor, usb_read_device_descriptor, usb_set_address, usb_set_configure, usb_configure, usb_allocate_device}
use Rattle.usb_model.specs.Hub.{hub_read_descriptor, hub_get_status, hub_change_port_feature, hub_power_on, hub_port_get_status, port_status, await_reset, hub_port_reset2, await_enabled, reset_tries, hub_port_reset, port_of_child, hub_child_reset, hub_port_connection_changed, hub_check_connection, hub_check_connection_device, hub_attach, scan_port, hub_check_for_change}
use Rattle.usb_model.specs.Attach.{usb_attach_device, attach_below, attach_new, usb_attach_root_hub}
use Rattle.usb_model.specs.Entry.{Lent, Verdict, accepted, refused, is_unused, no_port, root_verdict, hub_verdict, start, leaves, answered, call, root_attach, scan, port_check, child_reset, child_check, retried_reset, connection_change}
use Rattle.usb_model.specs.Repeat.{with_more, Repeated}
use Rattle.usb_model.proofs.More.{Grows, still, Repeats, same, spent, Extends, bind, looks, Steps}

-- ---- the functions

module _ {more : List ℕ} where
  messages : (p address : ℕ) (q : UsbDeviceRequest) (b : Buffer) → Extends more (usb_control_message p address q b)
  unfolding usb_control_message
  messages p address q b = search Steps depth 20

  controls : (p : ℕ) (q : UsbDeviceRequest) (b : Buffer) → Extends more (control p q b)
  unfolding control
  controls p q b = search (Steps, messages)

  reads : (p : ℕ) (q : UsbDeviceRequest) (minimum : ℕ) (b : Buffer) → Extends more (read p q minimum b)
  unfolding read
  reads p q minimum b = search (Steps, controls)

  read-device-descriptor : (p : ℕ) → Extends more (usb_read_device_descriptor p)
  unfolding usb_read_device_descriptor read_device_descriptor usb_get_descriptor
  read-device-descriptor p = search (Steps, reads) depth 20

  set-address : (p address : ℕ) → Extends more (usb_set_address p address)
  unfolding usb_set_address
  set-address p address = search (Steps, messages) depth 20

  configures : (p index : ℕ) → Extends more (usb_configure p index)
  unfolding usb_configure usb_set_configure usb_get_descriptor
  configures p index = search (Steps, reads, controls) depth 40

  allocates : Extends more usb_allocate_device
  unfolding usb_allocate_device
  allocates = bind (looks first_unused) (search Steps)

  read_hub_descriptor : (p : ℕ) → Extends more (hub_read_descriptor p)
  unfolding hub_read_descriptor usb_get_descriptor
  read_hub_descriptor p = search (Steps, reads) depth 20

  get_status : (p : ℕ) → Extends more (hub_get_status p)
  unfolding hub_get_status
  get_status p = search (Steps, reads)

  change_feature : (p feature port : ℕ) (set : Bool) → Extends more (hub_change_port_feature p feature port set)
  unfolding hub_change_port_feature
  change_feature p feature port set = search (Steps, controls)

  power_on : (p : ℕ) → Extends more (hub_power_on p)
  unfolding hub_power_on
  power_on p = search (Steps, change_feature) depth 20

  port_get_status : (p port : ℕ) → Extends more (hub_port_get_status p port)
  unfolding hub_port_get_status
  port_get_status p port = search (Steps, reads)

  port-status : (p port : ℕ) → Extends more (port_status p port)
  unfolding port_status
  port-status p port = search Steps

  await-reset : (count p port : ℕ) → Extends more (await_reset count p port)
  unfolding await_reset
  await-reset zero p port = search Steps
  await-reset (suc count) p port = let less = await-reset count p port in search (Steps, port_get_status, port-status) depth 20

  reset2 : (p port : ℕ) → Extends more (hub_port_reset2 p port)
  unfolding hub_port_reset2
  reset2 p port = search (Steps, change_feature, await-reset) depth 20

  await-enabled : (count p port : ℕ) → Extends more (await_enabled count p port)
  unfolding await_enabled
  await-enabled zero p port = search Steps
  await-enabled (suc count) p port = let less = await-enabled count p port in search (Steps, port_get_status, port-status) depth 20

  tries : (count p port : ℕ) → Extends more (reset_tries count p port)
  unfolding reset_tries
  tries zero p port = search Steps
  tries (suc count) p port = let less = tries count p port in search (Steps, change_feature, await-enabled, port-status) depth 20

  reset : (p port : ℕ) → Extends more (hub_port_reset p port)
  unfolding hub_port_reset
  reset p port = search (Steps, tries, change_feature) depth 20

  port-of-child : (p child : ℕ) → Extends more (port_of_child p child)
  unfolding port_of_child
  port-of-child p child = search Steps depth 20

  child-reset : (p child : ℕ) → Extends more (hub_child_reset p child)
  unfolding hub_child_reset
  child-reset p child = search (Steps, port-of-child, reset2)

  -- the functions that call each other, over an attach that extends
  module _ (attach : ℕ → M (Unit {0})) (attaches : (place : ℕ) → Extends more (attach place)) where
    connection_changed : (p port : ℕ) → Extends more (hub_port_connection_changed attach p port)
    unfolding hub_port_connection_changed
    connection_changed p port = search (Steps, port_get_status, port-status, change_feature, reset2, allocates) depth 40

    check_connection : (p port : ℕ) → Extends more (hub_check_connection attach p port)
    unfolding hub_check_connection
    check_connection p port = search (Steps, port_get_status, port-status, change_feature, power_on, connection_changed) depth 40

    check_device : (p child : ℕ) → Extends more (hub_check_connection_device attach p child)
    unfolding hub_check_connection_device
    check_device p child = search (Steps, port-of-child, check_connection) depth 20

    hub-attach : (p : ℕ) → Extends more (hub_attach attach p)
    unfolding hub_attach
    hub-attach p = search (Steps, read_hub_descriptor, get_status, power_on, check_connection) depth 40

    attach_device : (p : ℕ) → Extends more (usb_attach_device attach p)
    unfolding usb_attach_device
    attach_device p = search (Steps, read-device-descriptor, set-address, configures, hub-attach) depth 40

    scan-port : (below : ℕ → M (Unit {0})) → ((place : ℕ) → Extends more (below place)) → (p port : ℕ)
        → Extends more (scan_port attach below p port)
    unfolding scan_port
    scan-port below scans p port = search (Steps, check_connection) depth 20

    check_for_change : (above p : ℕ) → Extends more (hub_check_for_change attach above p)
    unfolding hub_check_for_change
    check_for_change zero p = search Steps
    check_for_change (suc above) p = let less = check_for_change above in search (Steps, scan-port) depth 20

  attach-below : (free p : ℕ) → Extends more (attach_below free p)
  unfolding attach_below
  attach-below zero p = search Steps
  attach-below (suc free) p = let less = attach-below free in search attach_device

  root_hub : (speed : ℕ) → Extends more (usb_attach_root_hub speed)
  unfolding usb_attach_root_hub
  root_hub speed = search (Steps, allocates, attach-below) depth 20

-- ---- what is left

module _ (lent : Lent) where
  -- a call that ends in v, and its repeat, which ends in v'
  goes_on : (v v' : World) {answer answer' : ℤ} → Grows (start lent) v → Grows v v'
      → (answer ≢ halt_number OutcomesSpent → leaves answer' v' ≡ leaves answer v) → Repeated lent (leaves answer v) (leaves answer' v')
  goes_on v v' g h e =
      let o = g.onward in
      let p = h.onward in
      let here : v.at.logged ≡ 16 * o.actions = omega (arith, o.logged) in
      let log' : v'.log ≡ write v.log (16 * o.actions) p.news = rw here at p.log in
      record {
        same = e;
        actions = o.actions;
        news = o.news;
        news_length = o.news_length;
        log = o.log;
        requests = omega (arith, o.requests);
        further = p.actions;
        later = p.news;
        later_length = p.news_length;
        log' = log';
        requests' = p.requests;
        room =
            omega
            (arith, h.fits (g.fits (omega arith)), p.logged, simp length_write at (ap length o.log), simp length_write at (ap length log'));
        agree = rw log' (take_write v.log (16 * o.actions) p.news);
      }

  answers : {more : List ℕ} {r r' : Ran World (Unit {0})} → Grows (start lent) (end_of r) → Repeats more r r'
      → Repeated lent (answered r) (answered r')
  answers g (same {r = done a v}) = goes_on v v g still (λ _. refl)
  answers g (same {r = fail e v}) = goes_on v v g still (λ _. refl)
  answers g (same {r = halt h v}) = goes_on v v g still (λ _. refl)
  answers g (spent {v} {r = done a v'} h) = goes_on v v' g h (λ n. absurd (n refl))
  answers g (spent {v} {r = fail e v'} h) = goes_on v v' g h (λ n. absurd (n refl))
  answers g (spent {v} {r = halt x v'} h) = goes_on v v' g h (λ n. absurd (n refl))

  -- ---- the entry points

  module _ (more : List ℕ) where
    calls : (verdict : Verdict) (m : M (Unit {0})) → Extends more m
        → Repeated lent (call lent verdict m) (call (with_more more lent) verdict m)
    unfolding call
    calls accepted m h = answers (h.grows (start lent)) (h.repeats (start lent))
    calls (refused r) m h =
        let unchanged : World = record { store = lent.new; log = lent.log; outcomes = []; at = record { logged = 0; taken = 0; requests = 0 } } in
        goes_on unchanged unchanged still still (λ _. refl)

    pub root_attach_repeated : (speed : ℕ) → Repeated lent (root_attach speed lent) (root_attach speed (with_more more lent))
    unfolding root_attach root_verdict
    root_attach_repeated speed = calls (root_verdict lent speed) _ (root_hub speed)

    pub scan_repeated : (hub : ℕ) → Repeated lent (scan hub lent) (scan hub (with_more more lent))
    unfolding scan hub_verdict
    scan_repeated hub = calls (hub_verdict lent hub false) _ (check_for_change attach_new (attach-below 32) 32 hub)

    pub port_check_repeated : (hub port : ℕ) → Repeated lent (port_check hub port lent) (port_check hub port (with_more more lent))
    unfolding port_check hub_verdict
    port_check_repeated hub port = calls (hub_verdict lent hub (no_port port)) _ (check_connection attach_new (attach-below 32) hub port)

    pub child_reset_repeated : (hub child : ℕ) → Repeated lent (child_reset hub child lent) (child_reset hub child (with_more more lent))
    unfolding child_reset hub_verdict
    child_reset_repeated hub child = calls (hub_verdict lent hub (is_unused lent child)) _ (child-reset hub child)

    pub child_check_repeated : (hub child : ℕ) → Repeated lent (child_check hub child lent) (child_check hub child (with_more more lent))
    unfolding child_check hub_verdict
    child_check_repeated hub child =
        calls (hub_verdict lent hub (is_unused lent child)) _ (check_device attach_new (attach-below 32) hub child)

    pub retried_reset_repeated : (hub port : ℕ) → Repeated lent (retried_reset hub port lent) (retried_reset hub port (with_more more lent))
    unfolding retried_reset hub_verdict
    retried_reset_repeated hub port = calls (hub_verdict lent hub (no_port port)) _ (reset hub port)

    pub connection_change_repeated : (hub port : ℕ)
        → Repeated lent (connection_change hub port lent) (connection_change hub port (with_more more lent))
    unfolding connection_change hub_verdict
    connection_change_repeated hub port =
        calls (hub_verdict lent hub (no_port port)) _ (connection_changed attach_new (attach-below 32) hub port)
