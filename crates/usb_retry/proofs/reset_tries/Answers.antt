-- `reset_tries` meets its contract. Assumes nothing.
use Rattle.std.proofs.Common.{arith}
use Rattle.usb_retry.proofs.Tries.{tries_goes}
use Rattle.usb_retry.proofs.reset_tries.Goals as goal

pub loop-tried-preserved : goal.loop-tried-preserved
loop-tried-preserved c =
    tries_goes _ _ _ _ (omega (arith, c.loop-tried-test.true)) c.in_ok-try_reset.ensures c.if-branch.false c.loop-tried.invariant
