-- `usb_set_configure` meets its contract. Assumes nothing.
use Rattle.std.proofs.Common.{ap, not, eq-eqb, ne_eqb}
use Rattle.usb_model.specs.Usbd.{usb_set_configure}
use Rattle.usb_transfer.proofs.Steps.{next, got, unless, thrown}
use Rattle.usb_configure.proofs.usb_set_configure.Goals as goal

pub returns-then-byte_at : goal.returns-then-byte_at
unfolding usb_set_configure
returns-then-byte_at c =
    got _ _ _ c.byte_at.ensures (thrown c.requires.0 _ _ (ap not (ne_eqb _ _ c.if-byte_at.true)))

pub returns : goal.returns
unfolding usb_set_configure
returns c =
    let sent = rw (c.device_request-request.ensures, c.from.ensures) at c.in_ok-control.ensures in
    got _ _ _ c.byte_at.ensures
    (unless _ _ (ap not (eq-eqb _ _ c.if-byte_at.false))
    (next _ sent (next _ c.set_byte.ensures c.set_byte-2.ensures)))
