use Rattle.busrun.proofs.Logs.{log_left, written}
use Rattle.busrun.proofs.attach.Goals as goal

pub returns-clause-log_after : goal.returns-clause-log_after
returns-clause-log_after c = log_left _ _ _ _ _ c.requires c.lidrumak_root_attach.ensures

pub returns-clause-bytes : goal.returns-clause-bytes
returns-clause-bytes c = written _ _ _ (log_left _ _ _ _ _ c.requires c.lidrumak_root_attach.ensures) c.actions.ensures.0
