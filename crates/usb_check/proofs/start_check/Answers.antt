-- `start_check` meets its contract. Assumes nothing.
use Rattle.std.specs.Prelude.{◌≡◌, ℕ, zero, suc, refl}
use Rattle.usb_model.specs.Hub.{port_status}
use Rattle.usb_transfer.proofs.Steps.{next, got, got_number, returned}
use Rattle.usb_hub.specs.Parts.{place_of}
use Rattle.usb_check.specs.Parts.{child_byte, start_check}
use Rattle.usb_check.proofs.start_check.Goals as goal

byte_back : (n : ℕ) → child_byte (place_of n) ≡ n
byte_back zero = refl
byte_back (suc n) = refl

pub returns : goal.returns
unfolding start_check port_status
returns c =
    let cleared = c.in_ok-clear_changes.ensures in
    let dropped = rw (c.port_child.ensures, c.stored-3.ensures, byte_back _) at c.dropped-dropped.ensures in
    got_number _ _ _ _ (rw c.stored.ensures at c.port_status-before.ensures) (next _ c.in_ok-hub_port_get_status.ensures
    (got_number _ _ _ _ (rw c.stored-2.ensures at c.port_status-status.ensures) (got _ _ _ c.byte_at.ensures (next _ cleared
    (got _ _ _ refl (rw (dropped, c.changed-changed.ensures) (returned cleared.fit _)))))))
