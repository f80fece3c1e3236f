-- `usb_configure` meets its contract. Assumes nothing.
use Rattle.std.proofs.Common.{ap, not, eq-eqb, ne_eqb}
use Rattle.usb_model.specs.Usbd.{usb_configure}
use Rattle.usb_transfer.proofs.Steps.{bound, next, next_failed, got, got_number, unless, thrown}
use Rattle.usb_configure.proofs.Ways.{regrouped}
use Rattle.usb_configure.proofs.usb_configure.Goals as goal

pub returns-then-byte_at : goal.returns-then-byte_at
unfolding usb_configure
returns-then-byte_at c =
    got _ _ _ c.byte_at.ensures (thrown c.requires.0 _ _ (ap not (ne_eqb _ _ c.if-byte_at.true)))

pub returns-in_err-walk_full : goal.returns-in_err-walk_full
unfolding usb_configure
returns-in_err-walk_full c =
    got _ _ _ c.byte_at.ensures
    (unless _ _ (ap not (eq-eqb _ _ c.if-byte_at.false))
    (next _ c.in_ok-read_configuration.ensures
    (got_number _ _ _ _ c.u16_at-total.ensures
    (bound _ c.in_ok-full.ensures
    (regrouped _ _ _ _ (next_failed _ c.in_err-walk_full.ensures c.from_residual-in_err-walk_full.ensures))))))

pub returns : goal.returns
unfolding usb_configure
returns c =
    got _ _ _ c.byte_at.ensures
    (unless _ _ (ap not (eq-eqb _ _ c.if-byte_at.false))
    (next _ c.in_ok-read_configuration.ensures
    (got_number _ _ _ _ c.u16_at-total.ensures
    (bound _ c.in_ok-full.ensures
    (regrouped _ _ _ _ (next _ c.in_ok-walk_full.ensures (got _ _ _ c.byte_at-value.ensures c.usb_set_configure.ensures)))))))
