-- The table is the list of the definition. Assumes nothing.
use Rattle.std.proofs.Common.{ne_eqb}
use Rattle.usb_types.specs.Outcomes.{result_of, submit_results}
use Rattle.usb_types.proofs.types.result_of.Goals as goal

pub returns-else-submit-eq0 : goal.returns-else-submit-eq0
unfolding result_of submit_results
returns-else-submit-eq0 c = simp (c.from-code.ensures, ne_eqb _ _ c.if-submit-eq0.false)
