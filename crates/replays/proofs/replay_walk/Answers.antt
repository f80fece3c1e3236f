use Rattle.std.proofs.Common.{◌≡◌, arith, rules}
use Rattle.std.specs.Int.{w32, cast_signed, cast_unsigned}
use Rattle.std.proofs.lemmas.Grind.{common_steps}
use Rattle.replays.specs.Replays.{walk_agrees}
use Rattle.replays.proofs.Agreement.{same_bits, walked_by}
use Rattle.replays.proofs.Buffers.{part, record_fits}
use Rattle.replays.proofs.replay_walk.Goals as goal

pub returns-then-lidrumak_configuration_walk-recorded : goal.returns-then-lidrumak_configuration_walk-recorded
unfolding walk_agrees
returns-then-lidrumak_configuration_walk-recorded c =
    let x : cast_signed w32 (cast_unsigned w32 c.lidrumak_configuration_walk.result) ≡ c.lidrumak_configuration_walk.result = search rules in
    let y : cast_signed w32 (cast_unsigned w32 c.args.recorded.answer) ≡ c.args.recorded.answer = search rules in
    let is = walked_by c.args.recorded c.args.descriptors.now _ _ _ (part _ 969 (record_fits _ c.requires)) c.lidrumak_configuration_walk.ensures in
    rw (← is) (grind (arith, common_steps, same_bits _ _ x y))

pub returns-else-lidrumak_configuration_walk-recorded : goal.returns-else-lidrumak_configuration_walk-recorded
unfolding walk_agrees
returns-else-lidrumak_configuration_walk-recorded c =
    let x : cast_signed w32 (cast_unsigned w32 c.lidrumak_configuration_walk.result) ≡ c.lidrumak_configuration_walk.result = search rules in
    let y : cast_signed w32 (cast_unsigned w32 c.args.recorded.answer) ≡ c.args.recorded.answer = search rules in
    let is = walked_by c.args.recorded c.args.descriptors.now _ _ _ (part _ 969 (record_fits _ c.requires)) c.lidrumak_configuration_walk.ensures in
    rw (← is) (grind (arith, common_steps, same_bits _ _ x y))
