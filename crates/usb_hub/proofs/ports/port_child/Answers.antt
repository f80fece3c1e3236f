-- `port_child` meets its contract. Assumes nothing.
use Rattle.std.proofs.Common.{◌∙◌, ap}
use Rattle.usb_device.proofs.HubRecord.{child_at}
use Rattle.usb_hub.specs.Parts.{place_of}
use Rattle.usb_hub.proofs.ports.port_child.Goals as goal

pub returns : goal.returns
returns c = c.child_of.ensures ∙ rw c.load_hub.ensures (ap place_of (child_at _ _ _ c.args.at.in_range))
