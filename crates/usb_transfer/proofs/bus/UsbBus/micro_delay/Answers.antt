-- `UsbBus::micro_delay` meets its contract. Assumes nothing.
use Rattle.usb_model.specs.World.{micro_delay}
use Rattle.usb_transfer.proofs.bus.UsbBus.micro_delay.Goals as goal

pub returns : goal.returns
unfolding micro_delay
returns c = rw c.wait_action.ensures at c.log_action.ensures
