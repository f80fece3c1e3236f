-- Document 01, "Prove the M lines together as one computed table": both sides of specs/Bench.antt compute to the same rows. Assumes nothing.
use mathlib.Core.Path.{◌≡◌, refl}
use Rattle.usb_model.specs.Bench.{walk_lines, first_request, hub_lines, reset_lines, bench_lines, table, expected, all_rows}
use Rattle.usb_model.proofs.Definitions.{definitions}

lines : all_rows (λ line. line.computed) ≡ all_rows (λ line. line.due)
unfolding definitions walk_lines first_request hub_lines reset_lines bench_lines
lines = refl

pub bench : table ≡ expected
unfolding table expected
bench = lines
