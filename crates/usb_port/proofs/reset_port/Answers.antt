-- `reset_port` meets its contract. Assumes nothing.
use Rattle.usb_transfer.proofs.Steps.{next, next_failed}
use Rattle.usb_hub.proofs.Parts.{ignores}
use Rattle.usb_port.specs.Parts.{reset_port}
use Rattle.usb_port.proofs.reset_port.Goals as goal

pub returns-in_err-ignore : goal.returns-in_err-ignore
unfolding reset_port
returns-in_err-ignore c = next_failed _ (ignores c.in_err-ignore.ensures c.hub_change_port_feature.ensures) c.from_residual.ensures

pub returns : goal.returns
unfolding reset_port
returns c = next _ (ignores c.in_ok-ignore.ensures c.hub_change_port_feature.ensures) c.hub_change_port_feature-2.ensures
