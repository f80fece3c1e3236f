-- `usb_child::reset_changed` meets its contract. Assumes nothing.
use Rattle.std.proofs.Common.{◌∙◌, sym, refl}
use Rattle.usb_model.specs.Hub.{port_status}
use Rattle.usb_transfer.proofs.Steps.{logged, next, got, got_number, unless, thrown}
use Rattle.usb_child.specs.Parts.{reset_changed}
use Rattle.usb_child.proofs.reset_changed.Goals as goal

pub returns-then-no_new_device : goal.returns-then-no_new_device
unfolding reset_changed port_status
returns-then-no_new_device c =
    let started = c.in_ok-start_change.ensures in
    next _ started (got_number _ _ _ _ refl (got _ _ _ refl
    (thrown started.fit _ _ (sym c.no_new_device.ensures ∙ c.if-no_new_device.true))))

pub returns : goal.returns
unfolding reset_changed port_status
returns c =
    next _ c.in_ok-start_change.ensures (got_number _ _ _ _ refl (got _ _ _ refl
    (unless _ _ (sym c.no_new_device.ensures ∙ c.if-no_new_device.false)
    (next _ (logged c.in_ok-start_change.ensures.fit c.in_ok-micro_delay.ensures) c.hub_port_reset2.ensures))))
