-- The loop of `await_reset`: what is left to run is the whole. Assumes nothing.
use Rattle.std.proofs.Common.{◌-◌}
use Rattle.usb_model.specs.Hub.{await_reset}
use Rattle.usb_transfer.proofs.Steps.{Going}
use Rattle.usb_port.proofs.await_reset.Given as goal

abbrev pub invariant-loop-read : goal.invariant-loop-read
invariant-loop-read l = Going (await_reset 21 l.at.hub l.at.port) l.initial.bus (await_reset (21 - l._read) l.at.hub l.at.port) l.bus
