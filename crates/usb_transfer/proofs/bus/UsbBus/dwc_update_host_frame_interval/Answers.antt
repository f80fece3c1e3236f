-- `UsbBus::dwc_update_host_frame_interval` meets its contract. Assumes nothing.
use Rattle.usb_model.specs.World.{dwc_update_host_frame_interval}
use Rattle.usb_transfer.proofs.bus.UsbBus.dwc_update_host_frame_interval.Goals as goal

pub returns : goal.returns
unfolding dwc_update_host_frame_interval
returns c = rw c.frame_interval_action.ensures at c.log_action.ensures
