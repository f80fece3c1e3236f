-- `usb_sound::children::Used::mark_hubs` meets its contract. The loop's invariant: marking the places that are left ends as marking all does.
-- Assumes nothing.
use mathlib.Core.Path.{refl, sym, ◌∙◌}
use Rattle.usb_sound.proofs.Steps.{hubs_pass, hubs_turn, hubs_end}
use Rattle.usb_sound.proofs.children.Used.mark_hubs.Goals as goal
use Rattle.usb_sound.proofs.children.Used.mark_hubs.Goals.{else-byte_at-ne0-via-then-byte_at-ne0+else-not-mark_ports, else-byte_at-ne0-via-else-byte_at-ne0}

pub returns-then-not-mark_ports : goal.returns-then-not-mark_ports
returns-then-not-mark_ports c = sym
    (c.loop-h.invariant
    ∙ hubs_turn _ _ _ _ _ c.loop-h-test.true c.byte_at.ensures _ _ _ c.if-byte_at-ne0.true
    c.mark_ports.ensures c.if-not-mark_ports.true refl)

pub loop-h-preserved : goal.loop-h-preserved
loop-h-preserved c = c.loop-h.invariant
    ∙ elim c.else-byte_at-ne0.branch [
      | else-byte_at-ne0-via-then-byte_at-ne0+else-not-mark_ports w ↦
          hubs_turn _ _ _ _ _ c.loop-h-test.true c.byte_at.ensures _ _ _ w.if-byte_at-ne0.true w.mark_ports.ensures w.if-not-mark_ports.false w.seen-is
      | else-byte_at-ne0-via-else-byte_at-ne0 w ↦ hubs_pass _ _ _ _ _ c.loop-h-test.true c.byte_at.ensures _ w.if-byte_at-ne0.false w.seen-is
    ]

pub returns : goal.returns
returns c = sym (c.loop-h.invariant ∙ hubs_end _ _ _ _ c.loop-h-test.false)
