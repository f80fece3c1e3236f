-- `usb_control_message` meets its contract. Assumes nothing.
use Rattle.std.proofs.Common.{refl}
use Rattle.usb_model.specs.Transfer.{usb_control_message}
use Rattle.usb_message.proofs.Messages.{regrouped}
use Rattle.usb_transfer.proofs.Steps.{next, next_ends, got, exit_bytes}
use Rattle.usb_message.proofs.usb_control_message.Goals as goal

pub returns-in_err-send_request : goal.returns-in_err-send_request
unfolding usb_control_message
returns-in_err-send_request c =
    got _ _ _ refl (got _ _ _ refl (next_ends _ c.in_err-send_request.ensures (exit_bytes _ c.from_residual.ensures)))

pub returns : goal.returns
unfolding usb_control_message
returns c = got _ _ _ refl (got _ _ _ refl (next _ c.in_ok-send_request.ensures (regrouped _ _ _ c.hcd_submit_control_message.ensures)))
