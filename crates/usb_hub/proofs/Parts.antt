-- A result that is not looked at. Assumes nothing.
use Rattle.std.specs.Prelude.{◌≡◌, Ok, Err, refl}
use Rattle.std.proofs.Common.{ap, ◌∙◌}
use Rattle.usb_types.specs.Answers.{Answer}
use Rattle.usb_types.specs.declared.types.Failure.TheVariants.{Error, Stop}
use Rattle.usb_model.specs.Programs.{on, ◌>>◌, skip, caught, attempt, ignore, ran}
use Rattle.usb_model.specs.World.{M}
use Rattle.usb_transfer.specs.declared.bus.UsbBus.{UsbBus}
use Rattle.usb_transfer.specs.Runs.{world, Does}
use Rattle.usb_transfer.proofs.Steps as Steps
use Rattle.usb_hub.specs.Parts.{ignored}

ignored_is : (a : Answer) (b : UsbBus) → on (caught (ran a (world b))) (λ _. skip) ≡ ran (ignored a) (world b)
unfolding skip
ignored_is (Ok _) b = refl
ignored_is (Err (Error e)) b = refl
ignored_is (Err (Stop h)) b = refl

-- where the code holds what is kept of the answer
pub ignores : {m : M (Unit {0})} {b b₁ : UsbBus} {a r : Answer} → r ≡ ignored a → Does m b b₁ a → Does (ignore m) b b₁ r
unfolding ignore attempt ◌>>◌
ignores {b₁ = b₁} {a = a} e d = rw e (record { is = ap (λ r. on (caught r) (λ _. skip)) d.is ∙ ignored_is a b₁; fit = d.fit; lends = d.lends })

-- those of usb_transfer, where results are not looked at
pub ruleset steps = (Steps.steps, ignores)
