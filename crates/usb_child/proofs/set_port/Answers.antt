-- `usb_child::set_port` meets its contract. Assumes nothing.
use Rattle.usb_model.specs.Hub.{port_status}
use Rattle.usb_transfer.proofs.Steps.{next, got_number}
use Rattle.usb_child.proofs.set_port.Goals as goal

pub returns : goal.returns
unfolding port_status
returns c =
    let speed = rw (c.from-speed.ensures, c.speed_of.ensures) at c.set_byte.ensures in
    got_number _ _ _ _ (rw c.stored.ensures at c.port_status.ensures) (next _ speed (next _ c.set_byte-2.ensures c.set_byte-3.ensures))
