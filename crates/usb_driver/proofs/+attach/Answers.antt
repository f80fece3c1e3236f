-- Attach, hub attach, port check and connection change, which call each other: each answer follows its definition line by line.
-- Assumes nothing.
use Rattle.std.proofs.Common.{◌∙◌, ◌<◌, arith, le_refl, sym}
use Rattle.usb_transfer.proofs.Regroups.{does_as}
use Rattle.usb_transfer.proofs.Steps.{bound, bound_failed, next, next_failed, got, done_if, done_unless, ends_with}
use Rattle.usb_transfer.proofs.Steps.{each_starts, each_last, each_failed, each_goes}
use Rattle.usb_hub.proofs.Parts.{ignores}
use Rattle.usb_driver.proofs.Births.{born}
use Rattle.usb_driver.proofs.Lines.{attaches, hub_attaches, checks, changes}
use Rattle.usb_driver.proofs.Reaches.{at_fuel, changed_after, checked_after, enumerated_after, ready_after, started_after}
use Rattle.usb_driver.proofs.+attach.Goals as goal

-- ---- change_if

pub hub::change_if-returns-then-due : goal.hub::change_if-returns-then-due
hub::change_if-returns-then-due t c n h = done_if c.if-due.true (ignores c.ignore.ensures (c.hub_port_connection_changed.ensures n h))

pub hub::change_if-returns : goal.hub::change_if-returns
hub::change_if-returns t c n h = done_unless c.requires.fit _ c.if-due.false

-- ---- hub_attach

pub hub::hub_attach-returns-in_err-ready_hub : goal.hub::hub_attach-returns-in_err-ready_hub
hub::hub_attach-returns-in_err-ready_hub t c n h = does_as (hub_attaches _ _) (next_failed _ c.in_err-ready_hub.ensures c.from_residual.ensures)

pub hub::hub_attach-loop-port-init : goal.hub::hub_attach-loop-port-init
hub::hub_attach-loop-port-init t c =
    let bus = (ready_after c.requires c.in_ok-ready_hub.ensures).bus in
    record { after = record { bus = bus; free = le_refl _ }; goes = λ n h. each_starts _ _ bus.fit }

pub hub::hub_attach-invariant_of-hub_check_connection : goal.hub::hub_attach-invariant_of-hub_check_connection
hub::hub_attach-invariant_of-hub_check_connection t c =
    let ready = ready_after c.requires c.in_ok-ready_hub.ensures in
    let low : c.loop-port.port < 10 = omega (arith, c.from-count.ensures, c.byte_at.ensures, ready.bus.good.most c.args.hub) in
    record { of_hub = c.requires.inside; in_range = low }

pub hub::hub_attach-hub_check_connection-requires : goal.hub::hub_attach-hub_check_connection-requires
hub::hub_attach-hub_check_connection-requires t c =
    let ready = ready_after c.requires c.in_ok-ready_hub.ensures in
    let after = c.loop-port.invariant.after in
    (omega (arith, c.decreases, ready.free, after.free), after.bus)

pub hub::hub_attach-returns-in_err-ignore : goal.hub::hub_attach-returns-in_err-ignore
hub::hub_attach-returns-in_err-ignore t c n h =
    let ready = ready_after c.requires c.in_ok-ready_hub.ensures in
    let inv = c.loop-port.invariant in
    let checked = c.hub_check_connection.ensures n (omega (arith, ready.free, inv.after.free)) in
    does_as (hub_attaches _ _) (next _ c.in_ok-ready_hub.ensures (got _ _ _ (c.from-count.ensures ∙ c.byte_at.ensures)
    (ends_with (inv.goes n (omega (arith, ready.free)))
    (each_failed _ _ _ c.loop-port-test.true (ignores c.in_err-ignore.ensures checked) c.from_residual-in_err-ignore.ensures))))

pub hub::hub_attach-loop-port-preserved : goal.hub::hub_attach-loop-port-preserved
hub::hub_attach-loop-port-preserved t c =
    let check = c.hub_check_connection in
    let inv = c.loop-port.invariant in
    let ready = ready_after c.requires c.in_ok-ready_hub.ensures in
    let low : c.loop-port.port < 10 = omega (arith, c.from-count.ensures, c.byte_at.ensures, ready.bus.good.most c.args.hub) in
    let k = checked_after _ inv.after.bus low (check.ensures _ (le_refl _)) in
    record {
      after = record { bus = k.bus; free = omega (arith, k.free, inv.after.free) };
      goes = λ n h.
          each_goes _ _ _ c.loop-port-test.true (inv.goes n h) (ignores c.in_ok-ignore.ensures (check.ensures n (omega (arith, inv.after.free))));
    }

pub hub::hub_attach-returns : goal.hub::hub_attach-returns
hub::hub_attach-returns t c n h =
    let ready = ready_after c.requires c.in_ok-ready_hub.ensures in
    let inv = c.loop-port.invariant in
    does_as (hub_attaches _ _) (next _ c.in_ok-ready_hub.ensures (got _ _ _ (c.from-count.ensures ∙ c.byte_at.ensures)
    (ends_with (inv.goes n (omega (arith, ready.free))) (each_last _ _ _ c.loop-port-test.false inv.after.bus.fit))))

-- ---- hub_check_connection

pub hub::hub_check_connection-returns-in_err-due : goal.hub::hub_check_connection-returns-in_err-due
hub::hub_check_connection-returns-in_err-due t c n h = does_as (checks _ _ _) (bound_failed _ c.in_err-due.ensures c.from_residual.ensures)

pub hub::hub_check_connection-change_if-requires : goal.hub::hub_check_connection-change_if-requires
hub::hub_check_connection-change_if-requires t c =
    let started = started_after c.requires _ c.args.at.in_range c.in_ok-due.ensures in
    (omega (arith, c.decreases, started.free), started.bus)

pub hub::hub_check_connection-returns-in_err-change_if : goal.hub::hub_check_connection-returns-in_err-change_if
hub::hub_check_connection-returns-in_err-change_if t c n h =
    let started = started_after c.requires _ c.args.at.in_range c.in_ok-due.ensures in
    let change = c.in_err-change_if.ensures n (omega (arith, started.free)) in
    does_as (checks _ _ _) (bound _ c.in_ok-due.ensures (next_failed _ change c.from_residual-in_err-change_if.ensures))

pub hub::hub_check_connection-change_if-requires-2 : goal.hub::hub_check_connection-change_if-requires-2
hub::hub_check_connection-change_if-requires-2 t c =
    let started = started_after c.requires _ c.args.at.in_range c.in_ok-due.ensures in
    let changed = changed_after _ started.bus c.args.at.in_range _ (c.change_if.ensures _ (le_refl _)) in
    (omega (arith, c.decreases, started.free, changed.free), changed.bus)

pub hub::hub_check_connection-returns-in_err-change_if-2 : goal.hub::hub_check_connection-returns-in_err-change_if-2
hub::hub_check_connection-returns-in_err-change_if-2 t c n h =
    let started = started_after c.requires _ c.args.at.in_range c.in_ok-due.ensures in
    let changed = changed_after _ started.bus c.args.at.in_range _ (c.change_if.ensures _ (le_refl _)) in
    let change = c.in_ok-change_if.ensures n (omega (arith, started.free)) in
    let again = c.in_err-change_if-2.ensures n (omega (arith, started.free, changed.free)) in
    does_as (checks _ _ _) (bound _ c.in_ok-due.ensures (next _ change (next_failed _ again c.from_residual-in_err-change_if-2.ensures)))

pub hub::hub_check_connection-returns : goal.hub::hub_check_connection-returns
hub::hub_check_connection-returns t c n h =
    let started = started_after c.requires _ c.args.at.in_range c.in_ok-due.ensures in
    let changed = changed_after _ started.bus c.args.at.in_range _ (c.change_if.ensures _ (le_refl _)) in
    let change = c.in_ok-change_if.ensures n (omega (arith, started.free)) in
    let again = c.in_ok-change_if-2.ensures n (omega (arith, started.free, changed.free)) in
    does_as (checks _ _ _) (bound _ c.in_ok-due.ensures (next _ change (next _ again c.end_check.ensures)))

-- ---- hub_port_connection_changed

pub hub::hub_port_connection_changed-returns-in_err-place : goal.hub::hub_port_connection_changed-returns-in_err-place
hub::hub_port_connection_changed-returns-in_err-place t c n h = does_as (changes _ _ _) (bound_failed _ c.in_err-place.ensures.gives c.from_residual.ensures)

pub hub::hub_port_connection_changed-usb_attach_device-requires : goal.hub::hub_port_connection_changed-usb_attach_device-requires
hub::hub_port_connection_changed-usb_attach_device-requires t c =
    let child = born _ _ _ c.requires c.args.at.in_range c.in_ok-place.ensures.gives in
    (omega (arith, c.decreases, child.free), child.bus)

pub hub::hub_port_connection_changed-returns : goal.hub::hub_port_connection_changed-returns
hub::hub_port_connection_changed-returns t c n h =
    let child = born _ _ _ c.requires c.args.at.in_range c.in_ok-place.ensures.gives in
    does_as (changes _ _ _) (bound _ c.in_ok-place.ensures.gives (c.usb_attach_device.ensures n (omega (arith, child.free))))

-- ---- usb_attach_device

pub usbd::usb_attach_device-returns-in_err-enumerate : goal.usbd::usb_attach_device-returns-in_err-enumerate
usbd::usb_attach_device-returns-in_err-enumerate t c n h =
    at_fuel _ _ n h (λ m g. does_as (attaches _ _) (next_failed _ c.in_err-enumerate.ensures c.from_residual.ensures))

pub usbd::usb_attach_device-hub_attach-requires : goal.usbd::usb_attach_device-hub_attach-requires
usbd::usb_attach_device-hub_attach-requires t c =
    let enumerated = enumerated_after c.requires c.in_ok-enumerate.ensures in
    (omega (arith, c.decreases, enumerated.free), enumerated.bus)

pub usbd::usb_attach_device-returns-then-is_hub_class : goal.usbd::usb_attach_device-returns-then-is_hub_class
usbd::usb_attach_device-returns-then-is_hub_class t c n h =
    let enumerated = enumerated_after c.requires c.in_ok-enumerate.ensures in
    let hub = sym c.is_hub_class.ensures ∙ c.if-is_hub_class.true in
    at_fuel _ _ n h (λ m g. does_as (attaches _ _) (next _ c.in_ok-enumerate.ensures (got _ _ _ c.byte_at.ensures
    (done_if hub (c.hub_attach.ensures m (omega (arith, enumerated.free)))))))

pub usbd::usb_attach_device-returns : goal.usbd::usb_attach_device-returns
usbd::usb_attach_device-returns t c n h =
    let enumerated = c.in_ok-enumerate.ensures in
    at_fuel _ _ n h (λ m g. does_as (attaches _ _) (next _ enumerated (got _ _ _ c.byte_at.ensures
    (done_unless enumerated.fit _ (sym c.is_hub_class.ensures ∙ c.if-is_hub_class.false)))))
