-- `child_verdict` meets its contract. Assumes nothing.
use Rattle.std.specs.Prelude.{[], replicate}
use Rattle.std.proofs.Common.{sym, ◌∙◌}
use Rattle.std.proofs.lemmas.List.{length-replicate}
use Rattle.usb_model.proofs.Accepted.{hub_accepted}
use Rattle.usb_entry.proofs.Verdicts.{refused_before, tested}
use Rattle.usb_entry.proofs.verdict.child_verdict.Goals as goal

pub returns-in_err-hub_verdict : goal.returns-in_err-hub_verdict
returns-in_err-hub_verdict c new outcomes log e = refused_before _ _ _ _ (c.in_err-hub_verdict.ensures new outcomes log e) c.from_residual.ensures

-- an accepted store is whole, whatever else is lent
pub is_unused-requires : goal.is_unused-requires
is_unused-requires c =
    let e = c.in_ok-hub_verdict.ensures (replicate c.args.new_len 0) [] [] (length-replicate _ _) in
    (hub_accepted _ _ _ (sym e)).is_sound.whole

pub returns-then-is_unused : goal.returns-then-is_unused
returns-then-is_unused c new outcomes log e =
    tested _ _ _ (c.in_ok-hub_verdict.ensures new outcomes log e) _ (sym (c.is_unused.ensures new outcomes log) ∙ c.if-is_unused.true)

pub returns : goal.returns
returns c new outcomes log e =
    tested _ _ _ (c.in_ok-hub_verdict.ensures new outcomes log e) _ (sym (c.is_unused.ensures new outcomes log) ∙ c.if-is_unused.false)
