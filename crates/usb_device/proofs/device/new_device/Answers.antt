-- `usb_device::device::new_device` meets its contract. Assumes nothing.
use mathlib.Core.Path.{ap, ◌∙◌}
use Prim.Native.Nat.{ℕ}
use lib.ListN.{replicate}
use Rattle.usb_device.proofs.NewDevice.{built}
use Rattle.usb_device.proofs.device.new_device.Goals as goal

pub returns : goal.returns
returns c = built c.args.place (c.fill.ensures.after (λ y e. e) ∙ ap (λ (n : ℕ). replicate n 0) c.requires.0)
    c.mark.ensures c.mark-2.ensures
