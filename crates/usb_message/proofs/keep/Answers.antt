-- `keep` meets its contract. Assumes nothing.
use Rattle.usb_transfer.proofs.Steps.{next}
use Rattle.usb_message.specs.Parts.{keeping}
use Rattle.usb_message.proofs.Messages.{fitting}
use Rattle.usb_message.proofs.keep.Goals as goal

pub returns : goal.returns
unfolding keeping
returns c =
    let error = rw c.error_word.ensures at c.set_u32.ensures in
    let bytes = rw (fitting _ _ _ c.min-n.ensures) at c.set_bytes.ensures in
    next _ error (next _ bytes c.set_u32-2.ensures)
