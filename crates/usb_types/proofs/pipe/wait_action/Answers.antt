-- `wait_action` meets its contract. Assumes nothing.
use Rattle.std.proofs.Common.{rules}
use Rattle.usb_types.proofs.pipe.wait_action.Goals as goal

pub returns : goal.returns
returns c = rw c.to_le_bytes.ensures (search rules)
