-- `hub_power_on` meets its contract. Assumes nothing.
use Rattle.std.proofs.Common.{◌∙◌, eq-eqb, ne_eqb}
use Rattle.usb_model.specs.Hub.{hub_power_on}
use Rattle.usb_transfer.proofs.Steps.{logged, next, next_failed, got, done_if, done_unless}
use Rattle.usb_hub.specs.Parts.{power_ports}
use Rattle.usb_hub.proofs.requests.hub_power_on.Goals as goal

pub returns-then-byte_at : goal.returns-then-byte_at
unfolding hub_power_on
returns-then-byte_at c =
    got _ _ _ c.byte_at.ensures (done_unless c.requires.0 _ (ne_eqb _ _ c.if-byte_at.true))

pub returns-in_err-power_ports : goal.returns-in_err-power_ports
unfolding hub_power_on power_ports
returns-in_err-power_ports c =
    got _ _ _ c.byte_at.ensures (done_if (eq-eqb _ _ c.if-byte_at.false)
    (got _ _ _ (c.from-count.ensures ∙ c.byte_at-2.ensures) (got _ _ _ c.byte_at-3.ensures (next_failed _ c.in_err-power_ports.ensures c.from_residual.ensures))))

pub returns : goal.returns
unfolding hub_power_on power_ports
returns c =
    let delay = logged c.in_ok-power_ports.ensures.fit (rw c.power_delay-delay.ensures at c.micro_delay.ensures) in
    got _ _ _ c.byte_at.ensures (done_if (eq-eqb _ _ c.if-byte_at.false)
    (got _ _ _ (c.from-count.ensures ∙ c.byte_at-2.ensures) (got _ _ _ c.byte_at-3.ensures (next _ c.in_ok-power_ports.ensures delay))))
