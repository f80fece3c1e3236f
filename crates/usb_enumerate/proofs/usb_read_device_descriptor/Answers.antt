-- `usb_enumerate::usb_read_device_descriptor` meets its contract. Assumes nothing.
use Rattle.usb_transfer.proofs.Steps.{bound, dropped}
use Rattle.usb_enumerate.proofs.Ways.{read_once, read_twice, short, whole}
use Rattle.usb_enumerate.proofs.usb_read_device_descriptor.Goals as goal

pub returns-in_ok-read_device_descriptor-2 : goal.returns-in_ok-read_device_descriptor-2
returns-in_ok-read_device_descriptor-2 c =
    read_twice _ c.byte_at-speed.ensures c.first_size.ensures c.set_byte.ensures c.if-speed.true
    (bound _ c.in_ok-read_device_descriptor.ensures (short c.if-branch-ne18.true (dropped c.in_ok-read_device_descriptor-2.ensures)))

pub returns-else-branch-ne18 : goal.returns-else-branch-ne18
returns-else-branch-ne18 c =
    let first = c.in_ok-read_device_descriptor.ensures in
    read_twice _ c.byte_at-speed.ensures c.first_size.ensures c.set_byte.ensures c.if-speed.true
    (bound _ first (whole _ c.if-branch-ne18.false first.fit))

pub returns : goal.returns
returns c =
    read_once _ c.byte_at-speed.ensures c.first_size.ensures c.set_byte.ensures c.if-speed.false
    (dropped c.in_ok-read_device_descriptor-3.ensures)
