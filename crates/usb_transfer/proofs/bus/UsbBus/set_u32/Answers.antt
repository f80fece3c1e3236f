-- `UsbBus::set_u32` meets its contract. Assumes nothing.
use Rattle.std.proofs.Common.{rules, refl}
use Rattle.usb_transfer.proofs.Steps.{puts}
use Rattle.usb_transfer.proofs.bus.UsbBus.set_u32.Goals as goal

pub returns : goal.returns
returns c = puts _ _ _ c.requires.0 c.set_u32.ensures refl refl (search rules)
