-- `hub_read_descriptor` meets its contract. Assumes nothing.
use Rattle.usb_model.specs.Hub.{hub_read_descriptor}
use Rattle.usb_transfer.proofs.Steps.{bound, next, next_failed, dropped}
use Rattle.usb_hub_descriptor.proofs.Blanks.{regrouped}
use Rattle.usb_hub_descriptor.proofs.hub_read_descriptor.Goals as goal

pub returns-in_err-usb_get_descriptor : goal.returns-in_err-usb_get_descriptor
unfolding hub_read_descriptor
returns-in_err-usb_get_descriptor c =
    let rest = rw c.from-size.ensures at c.in_err-usb_get_descriptor.ensures.gives in
    bound _ c.in_ok-header.ensures.gives
    (regrouped _ _ (next _ c.put_blank.ensures (next_failed _ rest c.from_residual-in_err-usb_get_descriptor.ensures)))

pub returns : goal.returns
unfolding hub_read_descriptor
returns c =
    let rest = rw c.from-size.ensures at c.in_ok-usb_get_descriptor.ensures.gives in
    bound _ c.in_ok-header.ensures.gives (regrouped _ _ (next _ c.put_blank.ensures (dropped rest)))
