-- `hub_port_reset2` meets its contract. Assumes nothing.
use Rattle.std.proofs.Common.{ap}
use Rattle.std.specs.Prelude.{not}
use Rattle.usb_model.specs.Hub.{hub_port_reset2}
use Rattle.usb_transfer.proofs.Steps.{logged, bound, bound_failed, next, next_failed, unless, thrown}
use Rattle.usb_transfer.proofs.Regroups.{grouped}
use Rattle.usb_port.specs.Parts.{reset_port}
use Rattle.usb_port.proofs.hub_port_reset2.Goals as goal

pub returns-in_err-reset_port : goal.returns-in_err-reset_port
unfolding hub_port_reset2 reset_port
returns-in_err-reset_port c = grouped _ _ _ (next_failed _ c.in_err-reset_port.ensures c.from_residual.ensures)

pub returns-in_err-seen : goal.returns-in_err-seen
unfolding hub_port_reset2 reset_port
returns-in_err-seen c = grouped _ _ _ (next _ c.in_ok-reset_port.ensures (bound_failed _ c.in_err-seen.ensures c.from_residual-in_err-seen.ensures))

pub returns-in_err-hub_change_port_feature : goal.returns-in_err-hub_change_port_feature
unfolding hub_port_reset2 reset_port
returns-in_err-hub_change_port_feature c =
    grouped _ _ _ (next _ c.in_ok-reset_port.ensures (bound _ c.in_ok-seen.ensures
    (next_failed _ c.in_err-hub_change_port_feature.ensures c.from_residual-in_err-hub_change_port_feature.ensures)))

pub returns-then-not-seen : goal.returns-then-not-seen
unfolding hub_port_reset2 reset_port
returns-then-not-seen c =
    let clear = c.in_ok-hub_change_port_feature.ensures in
    grouped _ _ _ (next _ c.in_ok-reset_port.ensures (bound _ c.in_ok-seen.ensures (next _ clear (thrown clear.fit _ _ (ap not c.if-not-seen.true)))))

pub returns : goal.returns
unfolding hub_port_reset2 reset_port
returns c =
    let clear = c.in_ok-hub_change_port_feature.ensures in
    grouped _ _ _ (next _ c.in_ok-reset_port.ensures (bound _ c.in_ok-seen.ensures (next _ clear
    (unless _ _ (ap not c.if-not-seen.false) (logged clear.fit c.micro_delay.ensures)))))
