-- The loop of `walk`: what is left to walk from here gives what the whole walk gives. Assumes nothing.
use Prim.Native.Nat.{◌-◌}
use lib.ListN.{length}
use Rattle.usb_walk.proofs.Turns.{Walking}
use Rattle.usb_walk.proofs.walk.Given as goal

abbrev pub invariant-loop-offset : goal.invariant-loop-offset
invariant-loop-offset l = Walking l.descriptors l.initial.record l.record l.offset l.last

abbrev pub decreases-loop-offset : goal.decreases-loop-offset
decreases-loop-offset l = length l.descriptors - l.offset
