-- `usb_attach_root_hub` meets its contract. Assumes nothing.
use Rattle.std.proofs.Common.{arith}
use Rattle.usb_device.proofs.Free.{free_most}
use Rattle.usb_model.specs.Attach.{usb_attach_root_hub}
use Rattle.usb_enumerate.proofs.Ways.{placed}
use Rattle.usb_transfer.proofs.Steps.{bound, bound_failed, next}
use Rattle.usb_driver.proofs.Births.{root_born}
use Rattle.usb_driver.proofs.usbd.usb_attach_root_hub.Goals as goal

pub returns-in_err-place : goal.returns-in_err-place
unfolding usb_attach_root_hub
returns-in_err-place c = bound_failed _ (placed c.requires.0 c.in_err-place.ensures.gives) c.from_residual.ensures

pub usb_attach_device-requires : goal.usb_attach_device-requires
usb_attach_device-requires c =
    (root_born _ c.args.speed c.requires.1 (omega (arith, c.ranges.speed)) (placed c.requires.0 c.in_ok-place.ensures.gives) c.set_byte.ensures c.set_byte-2.ensures).bus

pub returns : goal.returns
unfolding usb_attach_root_hub
returns c =
    let new = root_born _ c.args.speed c.requires.1 (omega (arith, c.ranges.speed)) (placed c.requires.0 c.in_ok-place.ensures.gives) c.set_byte.ensures c.set_byte-2.ensures in
    let attached = c.usb_attach_device.ensures 32 (omega (arith, new.free, free_most c.args.bus.now.store.now)) in
    bound _ (placed c.requires.0 c.in_ok-place.ensures.gives) (next _ c.set_byte.ensures (next _ c.set_byte-2.ensures attached))
