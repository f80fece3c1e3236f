-- `usb_sound::children::Used::mark_ports` meets its contract. The loop's invariant: marking the ports that are left ends as marking all does.
-- Assumes nothing.
use mathlib.Core.Path.{◌≡◌}
use Prim.Native.Nat.{◌-◌}
use Rattle.usb_store.specs.Layout.{ports_per_hub}
use Rattle.usb_sound.specs.Test.{mark_ports}
use Rattle.usb_sound.proofs.children.Used.mark_ports.Given as goal

abbrev pub invariant-loop-q : goal.invariant-loop-q
invariant-loop-q l = mark_ports l.self.store.now l.self.n l.h 0 ports_per_hub l.initial.seen ≡ mark_ports l.self.store.now l.self.n l.h l.q (ports_per_hub - l.q) l.seen
