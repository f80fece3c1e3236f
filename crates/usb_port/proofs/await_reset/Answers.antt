-- `await_reset` meets its contract. Assumes nothing.
use Rattle.std.proofs.Common.{sym, ◌∙◌}
use Rattle.usb_model.specs.Features.{bit}
use Rattle.usb_transfer.proofs.Steps.{ends_with}
use Rattle.usb_port.proofs.Awaits.{reset_failed, reset_seen, reset_goes, reset_none}
use Rattle.usb_port.proofs.await_reset.Goals as goal

pub returns-in_err-delayed_status : goal.returns-in_err-delayed_status
returns-in_err-delayed_status c =
    ends_with c.loop-read.invariant (reset_failed _ _ _ _ c.loop-read-test.true c.in_err-delayed_status.ensures c.from_residual.ensures)

pub returns-then-has : goal.returns-then-has
unfolding bit
returns-then-has c =
    ends_with c.loop-read.invariant (reset_seen _ _ _ _ c.loop-read-test.true c.in_ok-delayed_status.ensures (rw c.stored.ensures at c.port_status.ensures)
    (sym c.has.ensures ∙ c.if-has.true))

pub loop-read-preserved : goal.loop-read-preserved
unfolding bit
loop-read-preserved c =
    reset_goes _ _ _ _ c.loop-read-test.true c.in_ok-delayed_status.ensures (rw c.stored.ensures at c.port_status.ensures) (sym c.has.ensures ∙ c.if-has.false)
    c.loop-read.invariant

pub returns : goal.returns
returns c = ends_with c.loop-read.invariant (reset_none _ _ _ _ c.loop-read-test.false c.loop-read.invariant.fit)
