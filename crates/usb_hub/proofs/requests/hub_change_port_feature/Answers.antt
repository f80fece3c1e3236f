-- `hub_change_port_feature` meets its contract. Assumes nothing.
use Rattle.usb_model.specs.Hub.{hub_change_port_feature}
use Rattle.usb_transfer.proofs.Steps.{next_failed, dropped}
use Rattle.usb_hub.proofs.requests.hub_change_port_feature.Goals as goal

pub returns-in_err-control : goal.returns-in_err-control
unfolding hub_change_port_feature
returns-in_err-control c = next_failed _ (rw c.feature_request-request.ensures at c.in_err-control.ensures) c.from_residual.ensures

pub returns : goal.returns
unfolding hub_change_port_feature
returns c = dropped (rw c.feature_request-request.ensures at c.in_ok-control.ensures)
