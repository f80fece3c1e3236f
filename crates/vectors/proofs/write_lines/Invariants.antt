-- A line for each entry point so far is written.
use Rattle.std.proofs.Common.{take}
use Rattle.std.specs.List.{flat_map}
use Rattle.std.specs.Io.KnownBytes.{Appends}
use Rattle.vectors.specs.Lines.{count_line}
use Rattle.vectors.proofs.write_lines.Given as goal

abbrev pub invariant-loop-entry : goal.invariant-loop-entry
invariant-loop-entry g l = record {
  written : Appends (g.W.Write.contents l.fn.out) (g.W.Write.contents l.out) (flat_map (count_line l.tally) (take l.entry-index l.entries));
}
