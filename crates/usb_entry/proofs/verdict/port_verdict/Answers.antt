-- `port_verdict` meets its contract. Assumes nothing.
use Rattle.usb_entry.proofs.Verdicts.{refused_before}
use Rattle.usb_entry.proofs.verdict.port_verdict.Goals as goal

pub returns-in_err-hub_verdict : goal.returns-in_err-hub_verdict
returns-in_err-hub_verdict c new outcomes log e = refused_before _ _ _ _ (c.in_err-hub_verdict.ensures new outcomes log e) c.from_residual.ensures
