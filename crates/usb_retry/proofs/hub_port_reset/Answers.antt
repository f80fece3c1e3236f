-- `hub_port_reset` meets its contract. Assumes nothing.
use Rattle.usb_model.specs.Hub.{hub_port_reset}
use Rattle.usb_transfer.proofs.Steps.{next}
use Rattle.usb_hub.proofs.Parts.{ignores}
use Rattle.usb_retry.proofs.hub_port_reset.Goals as goal

pub returns : goal.returns
unfolding hub_port_reset
returns c =
    let first = ignores c.in_ok-ignore.ensures c.hub_change_port_feature.ensures in
    next _ c.in_ok-reset_tries.ensures (next _ first (ignores c.ignore-2.ensures c.hub_change_port_feature-2.ensures))
