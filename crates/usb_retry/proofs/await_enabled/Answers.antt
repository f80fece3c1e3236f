-- `await_enabled` meets its contract. Assumes nothing.
use Rattle.std.proofs.Common.{sym, ◌∙◌}
use Rattle.usb_retry.proofs.Polls.{enabled_goes}
use Rattle.usb_retry.proofs.await_enabled.Goals as goal

pub loop-read-preserved : goal.loop-read-preserved
loop-read-preserved c =
    enabled_goes _ _ _ _ c.loop-read-test.true c.in_ok-delayed_status.ensures (rw c.stored.ensures at c.port_status.ensures)
    (sym c.reset_or_enabled.ensures ∙ c.if-reset_or_enabled.false) c.loop-read.invariant
