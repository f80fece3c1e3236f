-- `read` meets its contract. Assumes nothing.
use Rattle.std.proofs.Common.{lt-ltb, le-ltb}
use Rattle.usb_model.specs.Transfer.{read}
use Rattle.usb_transfer.proofs.Steps.{bound, bound_ends, exit_bytes, thrown, unless, returned}
use Rattle.usb_message.proofs.read.Goals as goal

pub returns-in_err-bytes-clause-gives : goal.returns-in_err-bytes-clause-gives
unfolding read
returns-in_err-bytes-clause-gives c = bound_ends _ c.in_err-bytes.ensures (exit_bytes _ c.from_residual.ensures)

pub returns-then-bytes-from-clause-gives : goal.returns-then-bytes-from-clause-gives
unfolding read
returns-then-bytes-from-clause-gives c =
    bound _ c.in_ok-bytes.ensures (thrown c.in_ok-bytes.ensures.fit _ _ (lt-ltb _ _ (rw c.from.ensures at c.if-bytes-from.true)))

pub returns-clause-gives : goal.returns-clause-gives
unfolding read
returns-clause-gives c =
    bound _ c.in_ok-bytes.ensures (unless _ _ (le-ltb _ _ (rw c.from.ensures at c.if-bytes-from.false)) (returned c.in_ok-bytes.ensures.fit _))
