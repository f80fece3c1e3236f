-- `describe_hub` meets its contract. Assumes nothing.
use Rattle.usb_transfer.proofs.Steps.{next, got}
use Rattle.usb_hub_attach.specs.Parts.{hub_described}
use Rattle.usb_hub_attach.proofs.describe_hub.Goals as goal

pub returns : goal.returns
unfolding hub_described
returns c =
    let ports = rw c.ports_of.ensures at c.set_byte-3.ensures in
    next _ c.set_byte.ensures
    (next _ c.set_byte-2.ensures (next _ c.in_ok-hub_read_descriptor.ensures (got _ _ _ c.byte_at-count.ensures ports)))
