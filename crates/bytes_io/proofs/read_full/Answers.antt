use Rattle.std.proofs.Common.{rules}
use Rattle.bytes_io.proofs.Known.{consumes_more, taken_more}
use Rattle.bytes_io.proofs.read_full.Goals as goal

pub loop-at-preserved : goal.loop-at-preserved
loop-at-preserved g c = record {
  within = search rules;
  bytes =
      consumes_more _ _ _ _ _ _ c.loop-at.invariant.bytes c.in_ok-n.ensures.bytes.0
      (taken_more _ _ _ _ _ c.loop-at.invariant.within c.in_ok-n.ensures.bound.0);
}
