-- `usb_child::new_child` meets its contract. Assumes nothing.
use Rattle.usb_enumerate.proofs.Ways.{placed}
use Rattle.usb_transfer.proofs.Steps.{bound, next, returned}
use Rattle.usb_child.specs.Parts.{new_child}
use Rattle.usb_child.proofs.new_child.Goals as goal

pub returns-clause-gives : goal.returns-clause-gives
unfolding new_child
returns-clause-gives c =
    let reset = c.in_ok-reset_changed.ensures in
    let last = c.in_ok-place_child.ensures in
    next _ reset (bound _ (placed reset.fit c.in_ok-place.ensures.gives) (next _ last (returned last.fit _)))
