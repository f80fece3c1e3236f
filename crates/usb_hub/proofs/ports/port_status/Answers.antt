-- `port_status` meets its contract. Assumes nothing.
use Rattle.std.proofs.Common.{◌∙◌}
use Rattle.usb_device.proofs.HubRecord.{status_at}
use Rattle.usb_hub.proofs.ports.port_status.Goals as goal

pub returns : goal.returns
returns c = c.status_of.ensures ∙ rw c.load_hub.ensures (status_at _ _ _ c.args.at.in_range)
