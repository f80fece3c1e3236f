use Rattle.replays.proofs.Agreement.{replays_by}
use Rattle.replays.proofs.Buffers.{part, new_fits, log_fits}
use Rattle.replays.proofs.replay.Goals as goal

pub returns : goal.returns
returns c =
    replays_by _ _ _ _ _ _ _ _ _ _ _ _ _ _ c.begin.ensures c.old_store.ensures (part _ 40000 (new_fits _ c.requires.fit))
    (part _ 65536 (log_fits _ c.requires.fit)) c.run-reply.ensures c.carry.ensures c.agrees.ensures
