-- `usb_place::zero_quarters` meets its contract. The loop's invariant: what was or-ed so far and the turns that are left decide
-- whether the four parts are zero. Assumes nothing.
use mathlib.Core.Path.{◌≡◌}
use mathlib.Core.Bool.{◌&&◌}
use Prim.Native.Nat.{◌-◌}
use lib.Dec.{eqb}
use Rattle.usb_place.specs.Test.{every}
use Rattle.usb_place.proofs.Steps.{zero_parts}
use Rattle.usb_place.proofs.zero_quarters.Given as goal

abbrev pub invariant-loop-i : goal.invariant-loop-i
invariant-loop-i l = every (zero_parts l.s l.quarter) 0 l.quarter ≡ (eqb l.all 0 && every (zero_parts l.s l.quarter) l.i (l.quarter - l.i))
