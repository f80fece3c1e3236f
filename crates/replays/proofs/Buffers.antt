-- Parts of buffers, over plain values. Assumes nothing.
use Rattle.std.proofs.Common.{◌≡◌, ℕ, true, ◌≤◌, take, arith}
use Rattle.std.proofs.lemmas.List.{take-replicate}
use Rattle.recorded.specs.declared.head.Asked.{Asked}
use Rattle.recorded.specs.declared.head.RecordedWalk.{RecordedWalk}
use Rattle.recorded.specs.Heads.{fits, walk_fits}
use Rattle.replays.specs.Replays.{filled}

pub part : (n m : ℕ) → n ≤ m → take n (filled m) ≡ filled n
part n m h = take-replicate {X = ℕ} n m 238 h

pub new_fits : (asked : Asked) → fits asked ≡ true → asked.new_len ≤ 40000
unfolding fits
new_fits asked h = grind arith

pub log_fits : (asked : Asked) → fits asked ≡ true → asked.log_len ≤ 65536
unfolding fits
log_fits asked h = grind arith

pub record_fits : (walk : RecordedWalk) → walk_fits walk ≡ true → walk.record_len ≤ 969
unfolding walk_fits
record_fits walk h = grind arith
