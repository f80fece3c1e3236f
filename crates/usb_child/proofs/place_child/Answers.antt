-- `usb_child::place_child` meets its contract. Assumes nothing.
use Rattle.usb_transfer.proofs.Steps.{next}
use Rattle.usb_child.specs.Parts.{place_child}
use Rattle.usb_child.proofs.place_child.Goals as goal

pub returns : goal.returns
unfolding place_child
returns c = next _ c.set_byte.ensures (next _ c.in_ok-hub_port_get_status.ensures c.set_port.ensures)
