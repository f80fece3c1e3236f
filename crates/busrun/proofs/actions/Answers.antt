use Rattle.busrun.proofs.Logs.{in_log}
use Rattle.busrun.proofs.actions.Goals as goal

pub returns : goal.returns
returns c = in_log _ _ _ c.requires c.as_chunks.ensures.front c.as_chunks.ensures.front_len c.leading.ensures
