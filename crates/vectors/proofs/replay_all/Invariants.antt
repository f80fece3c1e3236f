-- All records so far are counted.
use Rattle.std.proofs.Common.{◌≡◌, length}
use Rattle.vectors.specs.Counts.{Counted}
use Rattle.vectors.proofs.replay_all.Given as goal

abbrev pub invariant-loop-n : goal.invariant-loop-n
invariant-loop-n g l = record {
  store : length l.store ≡ 36864;
  counts : Counted l.kind l.initial.tally l.n l.tally;
}
