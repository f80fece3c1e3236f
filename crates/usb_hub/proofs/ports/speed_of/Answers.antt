-- `usb_hub::ports::speed_of` meets its contract. Assumes nothing.
use mathlib.Core.Path.{sym, ◌∙◌}
use Rattle.usb_model.specs.Features.{bit}
use Rattle.usb_model.specs.Hub.{speed_of}
use Rattle.usb_hub.proofs.ports.speed_of.Goals as goal

pub returns-then-has : goal.returns-then-has
unfolding speed_of bit
returns-then-has c = simp (sym c.has.ensures ∙ c.if-has.true)

pub returns-then-has-2 : goal.returns-then-has-2
unfolding speed_of bit
returns-then-has-2 c = simp (sym c.has.ensures ∙ c.if-has.false, sym c.has-2.ensures ∙ c.if-has-2.true)

pub returns : goal.returns
unfolding speed_of bit
returns c = simp (sym c.has.ensures ∙ c.if-has.false, sym c.has-2.ensures ∙ c.if-has-2.false)
