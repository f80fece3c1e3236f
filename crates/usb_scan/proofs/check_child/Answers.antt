-- `check_child` meets its contract. Assumes nothing.
use Rattle.std.proofs.Common.{refl, sym}
use Rattle.usb_transfer.proofs.Steps.{next, next_failed, got, done_if, done_unless, failed}
use Rattle.usb_scan.specs.Parts.{check_child}
use Rattle.usb_scan.proofs.Scans.{is_child}
use Rattle.usb_scan.proofs.check_child.Goals as goal

pub returns-in_err-hub_check_connection : goal.returns-in_err-hub_check_connection
unfolding check_child
returns-in_err-hub_check_connection c n h = next_failed _ (c.in_err-hub_check_connection.ensures n h) c.from_residual.ensures

pub returns-then-ne : goal.returns-then-ne
unfolding check_child
returns-then-ne c n h =
    let check = c.in_ok-hub_check_connection.ensures n h in
    next _ check (got _ _ _ refl (done_if (sym (rw (c.port_child.ensures, c.stored.ensures, is_child) at c.if-ne.ensures)) (failed check.fit _)))

pub returns : goal.returns
unfolding check_child
returns c n h =
    let check = c.in_ok-hub_check_connection.ensures n h in
    next _ check (got _ _ _ refl (done_unless check.fit _ (sym (rw (c.port_child.ensures, c.stored.ensures, is_child) at c.if-ne.ensures))))
