-- `put_blank` meets its contract. Assumes nothing.
use Rattle.std.proofs.Common.{eq-eqb, ne_eqb}
use Rattle.usb_transfer.proofs.Steps.{next, got, done_if, done_unless}
use Rattle.usb_hub_descriptor.specs.Parts.{put_blank}
use Rattle.usb_hub_descriptor.proofs.put_blank.Goals as goal

pub returns-then-byte_at : goal.returns-then-byte_at
unfolding put_blank
returns-then-byte_at c =
    got _ _ _ c.byte_at.ensures (done_if (eq-eqb _ _ c.if-byte_at.true) (next _ c.set_byte.ensures c.set_bytes.ensures))

pub returns-else-byte_at : goal.returns-else-byte_at
unfolding put_blank
returns-else-byte_at c =
    got _ _ _ c.byte_at.ensures (done_unless c.requires.0 _ (ne_eqb _ _ c.if-byte_at.false))
