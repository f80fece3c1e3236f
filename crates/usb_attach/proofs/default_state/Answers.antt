-- `usb_attach::default_state` meets its contract. Assumes nothing.
use Rattle.usb_transfer.proofs.Steps.{next}
use Rattle.usb_attach.specs.Parts.{default_state}
use Rattle.usb_attach.proofs.default_state.Goals as goal

pub returns : goal.returns
unfolding default_state
returns c = next _ c.set_byte.ensures (next _ c.in_ok-usb_read_device_descriptor.ensures c.set_byte-2.ensures)
