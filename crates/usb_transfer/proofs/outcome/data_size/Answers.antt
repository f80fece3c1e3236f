-- `data_size` meets its contract. Assumes nothing.
use Rattle.std.proofs.Common.{rules, sym, ◌∙◌}
use Rattle.usb_transfer.proofs.Outcomes.{size_is}
use Rattle.usb_transfer.proofs.outcome.data_size.Goals as goal

pub returns : goal.returns
returns c = (c.from.ensures ∙ c.from_le_bytes.ensures ∙ sym (size_is _ c.requires), search rules)
