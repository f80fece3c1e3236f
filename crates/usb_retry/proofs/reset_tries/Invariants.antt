-- The loop of `reset_tries`: what is left to run is the whole. Assumes nothing.
use Rattle.std.proofs.Common.{◌-◌}
use Rattle.usb_model.specs.Hub.{reset_tries}
use Rattle.usb_transfer.proofs.Steps.{Going}
use Rattle.usb_retry.proofs.reset_tries.Given as goal

abbrev pub invariant-loop-tried : goal.invariant-loop-tried
invariant-loop-tried l = Going (reset_tries 3 l.at.hub l.at.port) l.initial.bus (reset_tries (3 - l._tried) l.at.hub l.at.port) l.bus
