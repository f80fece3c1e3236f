use Rattle.std.proofs.Common.{◌≡◌, arith, rules}
use Rattle.std.specs.Int.{w32, cast_signed, cast_unsigned}
use Rattle.std.proofs.lemmas.Grind.{common_steps}
use Rattle.replays.specs.Replays.{agrees}
use Rattle.replays.proofs.Agreement.{same_bits}
use Rattle.replays.proofs.agrees.Goals as goal

pub returns-then-adler-recorded : goal.returns-then-adler-recorded
unfolding agrees
returns-then-adler-recorded c =
    let x : cast_signed w32 (cast_unsigned w32 c.args.reply.answer) ≡ c.args.reply.answer = search rules in
    let y : cast_signed w32 (cast_unsigned w32 c.args.recorded.answer) ≡ c.args.recorded.answer = search rules in
    grind (arith, common_steps, same_bits _ _ x y)

pub returns-else-adler-recorded : goal.returns-else-adler-recorded
unfolding agrees
returns-else-adler-recorded c =
    let x : cast_signed w32 (cast_unsigned w32 c.args.reply.answer) ≡ c.args.reply.answer = search rules in
    let y : cast_signed w32 (cast_unsigned w32 c.args.recorded.answer) ≡ c.args.recorded.answer = search rules in
    grind (arith, common_steps, same_bits _ _ x y)
