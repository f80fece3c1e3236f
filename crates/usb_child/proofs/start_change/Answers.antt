-- `usb_child::start_change` meets its contract. Assumes nothing.
use Rattle.usb_transfer.proofs.Steps.{logged, next, next_failed}
use Rattle.usb_child.specs.Parts.{start_change}
use Rattle.usb_child.proofs.start_change.Goals as goal

pub returns-in_err-hub_change_port_feature : goal.returns-in_err-hub_change_port_feature
unfolding start_change
returns-in_err-hub_change_port_feature c =
    next _ (logged c.requires c.in_ok-dwc_update_host_frame_interval.ensures) (next _ c.in_ok-hub_port_get_status.ensures
    (next_failed _ c.in_err-hub_change_port_feature.ensures c.from_residual-in_err-hub_change_port_feature.ensures))

pub returns : goal.returns
unfolding start_change
returns c =
    next _ (logged c.requires c.in_ok-dwc_update_host_frame_interval.ensures) (next _ c.in_ok-hub_port_get_status.ensures
    (next _ c.in_ok-hub_change_port_feature.ensures c.hub_port_get_status-2.ensures))
