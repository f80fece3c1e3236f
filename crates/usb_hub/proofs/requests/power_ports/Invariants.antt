-- The loop of `power_ports`: what is left to run is the whole. Assumes nothing.
use Rattle.std.proofs.Common.{◌-◌}
use Rattle.usb_model.specs.Programs.{ignore, each}
use Rattle.usb_model.specs.Features.{port_power}
use Rattle.usb_model.specs.Hub.{set_port_feature}
use Rattle.usb_transfer.proofs.Steps.{Going}
use Rattle.usb_hub.specs.Parts.{power_ports}
use Rattle.usb_hub.proofs.requests.power_ports.Given as goal

abbrev pub invariant-loop-port : goal.invariant-loop-port
invariant-loop-port l =
    Going (power_ports l.hub l.count) l.initial.bus (each (l.count - l.port) l.port (λ port. ignore (set_port_feature l.hub port_power port))) l.bus
