-- `hub_get_status` meets its contract. Assumes nothing.
use Rattle.usb_model.specs.Hub.{hub_get_status}
use Rattle.usb_transfer.proofs.Steps.{next_failed, dropped}
use Rattle.usb_hub.proofs.requests.hub_get_status.Goals as goal

pub returns-in_err-read : goal.returns-in_err-read
unfolding hub_get_status
returns-in_err-read c = next_failed _ (rw c.device_request-request.ensures at c.in_err-read.ensures.gives) c.from_residual.ensures

pub returns : goal.returns
unfolding hub_get_status
returns c = dropped (rw c.device_request-request.ensures at c.in_ok-read.ensures.gives)
