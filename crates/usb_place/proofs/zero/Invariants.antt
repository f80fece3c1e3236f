-- `usb_place::zero` meets its contract. The loop's invariant: what was or-ed so far and the bytes that are left are zero exactly where all are.
-- Assumes nothing.
use mathlib.Core.Path.{◌≡◌}
use mathlib.Core.Bool.{◌&&◌}
use lib.Dec.{eqb}
use lib.ListN.{drop}
use Rattle.usb_place.specs.Test.{zeros}
use Rattle.usb_place.proofs.zero.Given as goal

abbrev pub invariant-loop-b : goal.invariant-loop-b
invariant-loop-b l = zeros l.s ≡ (eqb l.all 0 && zeros (drop l.b-index l.s))
