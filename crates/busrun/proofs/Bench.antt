-- Document 01's bench table, the line "M no outcomes: .. `busrun` writes `01 00 01 00 03 00 00 00 80 06 00 01 00 00 12 00`". Assumes nothing.
use mathlib.Core.Path.{◌≡◌, refl}
use mathlib.Core.List.{[], ◌∷◌}
use Rattle.usb_model.proofs.Definitions.{definitions}
use Rattle.busrun.specs.Run.{actions_in, logged, attached, busrun}

pub no_outcomes : busrun []
    ≡ 0x01 ∷ 0x00 ∷ 0x01 ∷ 0x00 ∷ 0x03 ∷ 0x00 ∷ 0x00 ∷ 0x00 ∷ 0x80 ∷ 0x06 ∷ 0x00 ∷ 0x01 ∷ 0x00 ∷ 0x00 ∷ 0x12 ∷ 0x00 ∷ []
unfolding definitions actions_in logged attached busrun
no_outcomes = refl
