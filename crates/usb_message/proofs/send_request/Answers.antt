-- `send_request` meets its contract. Assumes nothing.
use Rattle.usb_transfer.proofs.Steps.{logged}
use Rattle.usb_message.proofs.send_request.Goals as goal

pub returns : goal.returns
returns c =
    logged c.requires.0
    (rw (c.request_action.ensures, c.byte_at-speed.ensures, c.size_from_number-max_size.ensures, c.byte_at.ensures) at c.log_request.ensures)
