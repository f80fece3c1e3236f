-- `over_current` meets its contract. Assumes nothing.
use Rattle.std.proofs.Common.{sym, ◌∙◌}
use Rattle.usb_model.specs.Features.{bit}
use Rattle.usb_transfer.proofs.Steps.{next, done_if}
use Rattle.usb_hub.proofs.Parts.{ignores}
use Rattle.usb_check.specs.Parts.{over_current}
use Rattle.usb_check.proofs.over_current.Goals as goal

pub returns-then-has : goal.returns-then-has
unfolding over_current bit
returns-then-has c =
    let clear = ignores c.in_ok-ignore.ensures c.hub_change_port_feature.ensures in
    done_if (sym c.has.ensures ∙ c.if-has.true) (next _ clear (ignores c.ignore-then-has.ensures c.hub_power_on.ensures))
