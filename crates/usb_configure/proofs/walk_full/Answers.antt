-- `walk_full` meets its contract. Assumes nothing.
use Rattle.std.proofs.Common.{refl, Ok, Err}
use Rattle.usb_transfer.proofs.Steps.{exit}
use Rattle.usb_configure.proofs.Ways.{walked}
use Rattle.usb_configure.proofs.walk_full.Goals as goal

pub returns-in_err-walk : goal.returns-in_err-walk
returns-in_err-walk c =
    walked _ _ _ _ (Err _) c.set_byte.ensures c.requires.1 c.walk.auto.record c.in_err-walk.ensures refl refl refl
    (refl, refl, refl) (exit _ c.from_residual.ensures)

pub returns : goal.returns
returns c =
    walked _ _ _ _ (Ok tt) c.set_byte.ensures c.requires.1 c.walk.auto.record c.in_ok-walk.ensures refl refl refl
    (refl, refl, refl) refl
