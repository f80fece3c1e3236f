-- `usb_store::memory_copy` meets its contract. The loop's invariant: the first j bytes are written. Assumes nothing.
use mathlib.Core.Path.{◌≡◌}
use lib.ListN.{take}
use Rattle.usb_store.specs.Access.{write}
use Rattle.usb_store.proofs.memory_copy.Given as goal

abbrev pub invariant-loop-j : goal.invariant-loop-j
invariant-loop-j l = l.dst ≡ write l.initial.dst l.start (take l.j l.src)
