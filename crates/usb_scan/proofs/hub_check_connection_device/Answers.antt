-- `hub_check_connection_device` meets its contract. Assumes nothing.
use Rattle.usb_model.specs.Hub.{hub_check_connection_device}
use Rattle.usb_transfer.proofs.Steps.{bound, bound_failed}
use Rattle.usb_child_reset.proofs.Children.{finds}
use Rattle.usb_scan.specs.Parts.{check_child}
use Rattle.usb_scan.proofs.hub_check_connection_device.Goals as goal

pub returns-in_err-port : goal.returns-in_err-port
unfolding hub_check_connection_device
returns-in_err-port c n h = bound_failed _ (finds (rw c.stored.ensures at c.port_of_child.ensures) c.requires.0.fit c.in_err-port.ensures.value) c.from_residual.ensures

pub returns : goal.returns
unfolding hub_check_connection_device check_child
returns c n h = bound _ (finds (rw c.stored.ensures at c.port_of_child.ensures) c.requires.0.fit c.in_ok-port.ensures.value) (c.check_child.ensures n h)
