-- A line for each number so far is written.
use Rattle.std.proofs.Common.{take}
use Rattle.std.specs.Io.KnownBytes.{Appends}
use Rattle.vectors.specs.Lines.{differing}
use Rattle.vectors.proofs.write_differing.Given as goal

abbrev pub invariant-loop-number : goal.invariant-loop-number
invariant-loop-number g l = record {
  written : Appends (g.W.Write.contents l.fn.out) (g.W.Write.contents l.out) (differing l.kind (take l.number-index l.numbers));
}
