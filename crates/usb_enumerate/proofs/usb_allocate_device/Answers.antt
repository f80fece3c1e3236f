-- `usb_enumerate::usb_allocate_device` meets its contract. Assumes nothing.
use Rattle.std.proofs.Common.{rules, refl}
use Rattle.usb_enumerate.proofs.Ways.{allocated, bus_full}
use Rattle.usb_enumerate.proofs.usb_allocate_device.Goals as goal

pub returns-in_default-clause-gives : goal.returns-in_default-clause-gives
returns-in_default-clause-gives c = bus_full c.in_default.ensures.place

pub returns-clause-gives : goal.returns-clause-gives
returns-clause-gives c =
    let free = c.in-Some.ensures in
    allocated free.place free.within c.put_new_device.ensures refl refl (search rules)
