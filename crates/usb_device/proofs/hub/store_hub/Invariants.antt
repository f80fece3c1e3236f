-- `usb_device::hub::store_hub` meets its contract. The loop's invariant: storing the statuses that are left gives what storing
-- all of them gives. Assumes nothing.
use mathlib.Core.Path.{◌≡◌}
use lib.ListN.{drop}
use Rattle.usb_device.specs.Ports.{with_statuses}
use Rattle.usb_device.proofs.hub.store_hub.Given as goal

abbrev pub invariant-loop-port : goal.invariant-loop-port
invariant-loop-port l =
    with_statuses l.store l.place l.port (drop l.port l.fn.hub.port_status) ≡ with_statuses l.initial.store l.place 0 l.fn.hub.port_status
