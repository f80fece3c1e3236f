-- The measures: eight for each free place, and a stage; a place is taken on the way from a connection change to an attach. The loop of
-- `hub_attach`: the ports that are left, run from here, are all ports run from where the loop began. Assumes nothing.
use Rattle.std.proofs.Common.{◌+◌, ◌*◌}
use Rattle.usb_device.specs.Device.{free_places}
use Rattle.usb_driver.proofs.Reaches.{PortsChecked}
use Rattle.usb_driver.proofs.+attach.Given as goal

abbrev pub decreases-hub::change_if : goal.decreases-hub::change_if
decreases-hub::change_if l = 8 * free_places l.bus.now.store.now + 1

abbrev pub decreases-hub::hub_attach : goal.decreases-hub::hub_attach
decreases-hub::hub_attach l = 8 * free_places l.bus.now.store.now + 3

abbrev pub decreases-hub::hub_check_connection : goal.decreases-hub::hub_check_connection
decreases-hub::hub_check_connection l = 8 * free_places l.bus.now.store.now + 2

abbrev pub decreases-hub::hub_port_connection_changed : goal.decreases-hub::hub_port_connection_changed
decreases-hub::hub_port_connection_changed l = 8 * free_places l.bus.now.store.now

abbrev pub decreases-usbd::usb_attach_device : goal.decreases-usbd::usb_attach_device
decreases-usbd::usb_attach_device l = 8 * free_places l.bus.now.store.now + 4

abbrev pub invariant-hub::hub_attach-loop-port : goal.invariant-hub::hub_attach-loop-port
invariant-hub::hub_attach-loop-port l = PortsChecked l.hub l.count l.port l.initial.bus l.bus
