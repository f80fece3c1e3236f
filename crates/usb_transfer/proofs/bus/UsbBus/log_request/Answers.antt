-- `UsbBus::log_request` meets its contract. Assumes nothing.
use Rattle.std.proofs.Common.{rules, refl}
use Rattle.usb_transfer.proofs.Logged.{request_logged, request_unlogged}
use Rattle.usb_transfer.proofs.bus.UsbBus.log_request.Goals as goal

pub returns-in_err-log_action : goal.returns-in_err-log_action
returns-in_err-log_action c = request_unlogged _ c.in_err-log_action.ensures c.from_residual.ensures

pub returns : goal.returns
returns c = request_logged _ c.requires c.in_ok-log_action.ensures refl (search rules)
