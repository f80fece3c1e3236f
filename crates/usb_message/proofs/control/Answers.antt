-- `control` meets its contract. Assumes nothing.
use Rattle.usb_model.specs.Transfer.{control}
use Rattle.usb_transfer.proofs.Steps.{got}
use Rattle.usb_message.proofs.control.Goals as goal

pub returns : goal.returns
unfolding control
returns c = got _ _ _ c.byte_at-address.ensures c.usb_control_message.ensures
