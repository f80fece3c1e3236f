-- `usb_sound::children::Used::mark_ports` meets its contract. The loop's invariant: marking the ports that are left ends as marking all does.
-- Assumes nothing.
use mathlib.Core.Path.{sym, ◌∙◌}
use Rattle.usb_sound.proofs.Steps.{ports_turn, ports_end}
use Rattle.usb_sound.proofs.children.Used.mark_ports.Goals as goal

pub returns-then-not-mark_child : goal.returns-then-not-mark_child
returns-then-not-mark_child c = sym
    (c.loop-q.invariant
    ∙ ports_turn _ _ _ _ _ _ _ _ c.loop-q-test.true c.count_at-c.ensures c.mark_child.ensures c.if-not-mark_child.true)

pub loop-q-preserved : goal.loop-q-preserved
loop-q-preserved c = c.loop-q.invariant
    ∙ ports_turn _ _ _ _ _ _ _ _ c.loop-q-test.true c.count_at-c.ensures c.mark_child.ensures c.if-not-mark_child.false

pub returns : goal.returns
returns c = sym (c.loop-q.invariant ∙ ports_end _ _ _ _ _ c.loop-q-test.false)
