-- `usb_enumerate::usb_set_address` meets its contract. Assumes nothing.
use Rattle.std.proofs.Common.{ap, eq-eqb, ne_eqb}
use mathlib.Core.Bool.{not}
use Rattle.usb_model.specs.Usbd.{usb_set_address}
use Rattle.usb_transfer.proofs.Steps.{logged, next, got, unless, thrown}
use Rattle.usb_enumerate.proofs.usb_set_address.Goals as goal

pub returns-then-byte_at : goal.returns-then-byte_at
unfolding usb_set_address
returns-then-byte_at c =
    got _ _ _ c.byte_at.ensures (thrown c.requires.0 _ _ (ap not (ne_eqb _ _ c.if-byte_at.true)))

pub returns : goal.returns
unfolding usb_set_address
returns c =
    let sent = rw (c.device_request-request.ensures, c.from.ensures) at c.in_ok-usb_control_message.ensures in
    got _ _ _ c.byte_at.ensures
    (unless _ _ (ap not (eq-eqb _ _ c.if-byte_at.false))
    (next _ sent (next _ (logged sent.fit c.in_ok-micro_delay.ensures) (next _ c.set_byte.ensures c.set_byte-2.ensures))))
