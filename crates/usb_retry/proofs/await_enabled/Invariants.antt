-- The loop of `await_enabled`: what is left to run is the whole. Assumes nothing.
use Rattle.std.proofs.Common.{◌-◌}
use Rattle.usb_model.specs.Hub.{await_enabled}
use Rattle.usb_transfer.proofs.Steps.{Going}
use Rattle.usb_retry.proofs.await_enabled.Given as goal

abbrev pub invariant-loop-read : goal.invariant-loop-read
invariant-loop-read l = Going (await_enabled 10 l.at.hub l.at.port) l.initial.bus (await_enabled (10 - l.read) l.at.hub l.at.port) l.bus
