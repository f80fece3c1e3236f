-- `usb_attach::set_number` meets its contract. Assumes nothing.
use Rattle.std.proofs.Common.{refl}
use Rattle.usb_transfer.proofs.Steps.{bound, bound_failed, next, succeeded}
use Rattle.usb_attach.specs.Parts.{addressed}
use Rattle.usb_attach.proofs.Stops.{kept, stopped}
use Rattle.usb_attach.proofs.set_number.Goals as goal

pub returns-in_err-ignore : goal.returns-in_err-ignore
unfolding addressed
returns-in_err-ignore c =
    bound_failed _ (stopped _ c.in_err-ignore.ensures c.usb_set_address-answer.ensures) c.from_residual.ensures

pub returns : goal.returns
unfolding addressed
returns c =
    let set = c.set_byte.ensures in
    bound _ (kept c.in_ok-ignore.ensures c.usb_set_address-answer.ensures) (next _ set (succeeded set.fit _ refl))
