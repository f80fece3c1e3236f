-- `hcd_submit_control_message` meets its contract. Assumes nothing.
use Rattle.usb_transfer.proofs.Steps.{bound_ends, exit_bytes}
use Rattle.usb_message.specs.Parts.{receiving}
use Rattle.usb_message.proofs.Messages.{untaken, received, refused}
use Rattle.usb_message.proofs.hcd_submit_control_message.Goals as goal

pub returns-in_err-header : goal.returns-in_err-header
unfolding receiving
returns-in_err-header c = bound_ends _ (untaken _ c.requires.0 c.in_err-header.ensures) (exit_bytes _ c.from_residual.ensures)

pub returns-in_err-result_of : goal.returns-in_err-result_of
returns-in_err-result_of c =
    refused _ _ c.requires.0 c.in_ok-header.ensures (rw c.from.ensures at c.min-n.ensures) _ _ c.keep.ensures c.in_err-result_of.ensures
    (exit_bytes _ c.from_residual-in_err-result_of.ensures)

pub returns : goal.returns
returns c = received _ _ c.requires.0 c.in_ok-header.ensures (rw c.from.ensures at c.min-n.ensures) _ _ c.keep.ensures c.in_ok-result_of.ensures
