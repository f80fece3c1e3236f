-- `usb_enumerate::read_device_descriptor` meets its contract. Assumes nothing.
use Rattle.usb_model.specs.Usbd.{read_device_descriptor}
use Rattle.usb_transfer.proofs.Steps.{bound, returned}
use Rattle.usb_enumerate.proofs.read_device_descriptor.Goals as goal

pub returns : goal.returns
unfolding read_device_descriptor
returns c = bound _ c.in_ok-bytes.ensures.gives (returned c.in_ok-bytes.ensures.gives.fit _)
