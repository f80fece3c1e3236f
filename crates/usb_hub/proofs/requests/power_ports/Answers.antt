-- `power_ports` meets its contract. Assumes nothing.
use Rattle.usb_transfer.proofs.Steps.{ends_with, each_starts, each_last, each_failed, each_goes}
use Rattle.usb_hub.specs.Parts.{power_ports}
use Rattle.usb_hub.proofs.Parts.{ignores}
use Rattle.usb_hub.proofs.requests.power_ports.Goals as goal

pub loop-port-init : goal.loop-port-init
unfolding power_ports
loop-port-init c = each_starts _ _ c.requires.0

pub returns-in_err-ignore : goal.returns-in_err-ignore
returns-in_err-ignore c =
    ends_with c.loop-port.invariant (each_failed _ _ _ c.loop-port-test.true
    (ignores c.in_err-ignore.ensures c.hub_change_port_feature.ensures) c.from_residual.ensures)

pub loop-port-preserved : goal.loop-port-preserved
loop-port-preserved c =
    each_goes _ _ _ c.loop-port-test.true c.loop-port.invariant (ignores c.in_ok-ignore.ensures c.hub_change_port_feature.ensures)

pub returns : goal.returns
returns c = ends_with c.loop-port.invariant (each_last _ _ _ c.loop-port-test.false c.loop-port.invariant.fit)
