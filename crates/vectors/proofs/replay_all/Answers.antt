use Rattle.std.proofs.Common.{refl, ◌∙◌}
use Rattle.vectors.specs.Counts.{none, another}
use Rattle.vectors.proofs.replay_all.Goals as goal

pub loop-n-init : goal.loop-n-init
loop-n-init g c = record { store = refl; counts = none }

pub loop-n-preserved : goal.loop-n-preserved
loop-n-preserved g c = record {
  store = c.next_record.auto.store ∙ c.loop-n.invariant.store;
  counts = another c.in-Some.replayed c.loop-n.invariant.counts (rw c.in-Some.is at c.in_ok-replayed.ensures.read) c.add.ensures;
}
