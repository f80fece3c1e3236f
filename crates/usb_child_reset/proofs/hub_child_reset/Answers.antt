-- `hub_child_reset` meets its contract. Assumes nothing.
use Rattle.usb_model.specs.Hub.{hub_child_reset}
use Rattle.usb_transfer.proofs.Steps.{bound, bound_failed}
use Rattle.usb_child_reset.proofs.Children.{finds}
use Rattle.usb_child_reset.proofs.hub_child_reset.Goals as goal

pub returns-in_err-port : goal.returns-in_err-port
unfolding hub_child_reset
returns-in_err-port c = bound_failed _ (finds (rw c.stored.ensures at c.port_of_child.ensures) c.requires.0 c.in_err-port.ensures.value) c.from_residual.ensures

pub returns : goal.returns
unfolding hub_child_reset
returns c = bound _ (finds (rw c.stored.ensures at c.port_of_child.ensures) c.requires.0 c.in_ok-port.ensures.value) c.hub_port_reset2.ensures
