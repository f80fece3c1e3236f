-- `usb_device::device::mark` meets its contract. The loop's invariant: the marks that are left, set from here, give what all
-- of them give from the start. Assumes nothing.
use mathlib.Core.Path.{◌≡◌}
use Prim.Native.Nat.{◌+◌, ◌*◌, ◌-◌}
use Rattle.usb_device.specs.Device.{marked}
use Rattle.usb_device.proofs.device.mark.Given as goal

abbrev pub invariant-loop-i : goal.invariant-loop-i
invariant-loop-i l = marked l.bytes (l.first + l.i * l.step) l.step (l.n - l.i) ≡ marked l.initial.bytes l.first l.step l.n
