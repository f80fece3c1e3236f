-- `usb_sound::copy_store` meets its contract: the places from the first unused one on are zero. Assumes nothing.
use native.Mathlib.Omega.{arith}
use Prim.Native.Nat.{◌*◌}
use Rattle.usb_device.proofs.Free.{free_or, first_most}
use Rattle.usb_sound.proofs.Copies.{copied}
use Rattle.usb_sound.proofs.Decides.{zeros_past}
use Rattle.usb_sound.proofs.copy_store.Goals as goal

pub returns : goal.returns
returns c =
    let first = free_or _ c.first_unused.ensures.place c.unwrap_or-used.ensures in
    copied c.args.new.now c.args.old.now (c.unwrap_or-used.result * 1152) c.requires.0
    (omega (arith, first, first_most c.args.old.now, c.requires.1.whole)) (rw first (zeros_past _ c.requires.1))
    c.memory_copy.ensures (c.fill.ensures.after (λ y e. e))
