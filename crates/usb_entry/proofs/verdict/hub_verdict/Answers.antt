-- `hub_verdict` meets its contract. Assumes nothing.
use Rattle.std.proofs.Common.{sym, ◌∙◌}
use Rattle.usb_model.specs.Entry.{hub_verdict}
use Rattle.usb_entry.proofs.verdict.hub_verdict.Goals as goal

pub returns-then-no_hub : goal.returns-then-no_hub
unfolding hub_verdict
returns-then-no_hub c new outcomes log e =
    simp (
      sym (c.wrong_length.ensures new outcomes log e) ∙ c.if-wrong_length.false,
      sym c.sound.ensures.0 ∙ c.if-not-sound.false,
      sym (c.no_hub.ensures new outcomes log) ∙ c.if-no_hub.true,
    )

pub returns : goal.returns
unfolding hub_verdict
returns c new outcomes log e =
    simp (
      sym (c.wrong_length.ensures new outcomes log e) ∙ c.if-wrong_length.false,
      sym c.sound.ensures.0 ∙ c.if-not-sound.false,
      sym (c.no_hub.ensures new outcomes log) ∙ c.if-no_hub.false,
    )
