use Rattle.std.proofs.Common.{arith}
use Rattle.sequences.proofs.Stores.{edited_all}
use Rattle.sequences.proofs.store.edit.Goals as goal

pub returns : goal.returns
returns c = edited_all _ _ _ _ _ _ _ c.as_chunks.ensures.front (omega arith) c.loop-chunk-test.false c.loop-chunk.invariant.so_far
