-- `delayed_status` meets its contract. Assumes nothing.
use Rattle.usb_transfer.proofs.Steps.{logged, next, next_failed}
use Rattle.usb_port.specs.Parts.{delayed_status}
use Rattle.usb_port.proofs.delayed_status.Goals as goal

pub returns-in_err-micro_delay : goal.returns-in_err-micro_delay
unfolding delayed_status
returns-in_err-micro_delay c = next_failed _ (logged c.requires c.in_err-micro_delay.ensures) c.from_residual.ensures

pub returns : goal.returns
unfolding delayed_status
returns c = next _ (logged c.requires c.in_ok-micro_delay.ensures) c.hub_port_get_status.ensures
