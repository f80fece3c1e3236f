-- `usb_sound::children::Used::mark_hubs` meets its contract. The loop's invariant: marking the places that are left ends as marking all does.
-- Assumes nothing.
use mathlib.Core.Path.{◌≡◌}
use Prim.Native.Nat.{◌-◌}
use Rattle.usb_sound.specs.Test.{mark_hubs}
use Rattle.usb_sound.proofs.children.Used.mark_hubs.Given as goal

abbrev pub invariant-loop-h : goal.invariant-loop-h
invariant-loop-h l = mark_hubs l.self.store.now l.self.n 0 l.self.n l.initial.seen ≡ mark_hubs l.self.store.now l.self.n l.h (l.self.n - l.h) l.seen
