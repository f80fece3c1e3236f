-- `usb_get_descriptor` meets its contract. Assumes nothing.
use Rattle.usb_model.specs.Transfer.{usb_get_descriptor}
use Rattle.usb_message.proofs.Messages.{value_is}
use Rattle.usb_message.proofs.usb_get_descriptor.Goals as goal

pub returns-clause-gives : goal.returns-clause-gives
unfolding usb_get_descriptor
returns-clause-gives c =
    rw (c.device_request-request.ensures, c.from_le_bytes-value.ensures, value_is c.args.kind c.args.index) at c.read.ensures.gives
