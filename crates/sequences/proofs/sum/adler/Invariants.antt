-- The sum of the bytes that are left, from a and b on, is the whole.
use Rattle.std.proofs.Common.{◌≡◌, ◌<◌, drop}
use Rattle.sequences.specs.Sums.{adler_from}
use Rattle.sequences.proofs.sum.adler.Given as goal

abbrev pub invariant-loop-byte : goal.invariant-loop-byte
invariant-loop-byte l = record {
  a : l.a < 65521;
  b : l.b < 65521;
  rest : adler_from l.a l.b (drop l.byte-index l.bytes) ≡ adler_from 1 0 l.bytes;
}
