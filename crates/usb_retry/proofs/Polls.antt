-- The status reads of a try of `hub_port_reset`: a turn of the loop, over plain values. Assumes nothing.
use Rattle.std.specs.Prelude.{◌≡◌, Bool, true, false, not, cond, ℕ, suc, ◌+◌, ◌-◌, ◌<◌, ◌≤◌, eqb, Result, Ok, Err, IsErr, IsErrAnd}
use Rattle.std.proofs.Common.{arith}
use Rattle.usb_types.specs.declared.types.Failure.{Failure}
use Rattle.usb_model.specs.Programs.{return}
use Rattle.usb_model.specs.World.{M}
use Rattle.usb_model.specs.Hub.{await_enabled}
use Rattle.usb_transfer.specs.declared.bus.UsbBus.{UsbBus}
use Rattle.usb_transfer.specs.Runs.{Ready, Does}
use Rattle.usb_transfer.proofs.Steps as Steps
use Rattle.usb_transfer.proofs.Steps.{returned, Going}
use Rattle.usb_transfer.proofs.Regroups.{Same, same}
use Rattle.usb_port.specs.Parts.{delayed_status}
use Rattle.usb_port.proofs.Awaits.{status_in, reading, await_failed, await_seen, await_goes, one_more}
use Rattle.usb_retry.specs.Parts.{reset_or_enabled}

-- one seen in the last read counts as not seen
abbrev seen : ℕ → Bool
seen n = not (eqb n 0)

enabled_turn : (hub port n : ℕ)
    → Same (reading hub port 20000 (λ status. cond (reset_or_enabled status) (return (seen n)) (await_enabled n hub port))) (await_enabled (suc n) hub port)
unfolding await_enabled reset_or_enabled
enabled_turn hub port n = same _

last_is : (n i : ℕ) → i < n → not (eqb (i + 1) n) ≡ seen (n - (i + 1))
last_is n i l = grind arith

module _ (hub port n i : ℕ) (l : i < n) {b b₁ : UsbBus} where
  pub enabled_failed : {f : Failure} {r : Result Bool Failure} → Does (delayed_status hub port 20000) b b₁ (Err f)
      → IsErr r × IsErrAnd r (λ g. g ≡ f) → Does (await_enabled (n - i) hub port) b b₁ r
  enabled_failed = await_failed hub port 20000 (λ left. await_enabled left hub port) reset_or_enabled seen (enabled_turn hub port) _ _ (one_more n i l)

  module _ (d : Does (delayed_status hub port 20000) b b₁ (Ok tt)) {status : ℕ} (s : status ≡ status_in b₁ hub port) where
    pub enabled_seen : reset_or_enabled status ≡ true → Does (await_enabled (n - i) hub port) b b₁ (Ok (not (eqb (i + 1) n)))
    enabled_seen t =
        rw (last_is n i l)
        (await_seen hub port 20000 (λ left. await_enabled left hub port) reset_or_enabled seen (enabled_turn hub port) _ _ (one_more n i l) d s t)

    pub enabled_goes : {m : M Bool} {b₀ : UsbBus} → reset_or_enabled status ≡ false
        → Going m b₀ (await_enabled (n - i) hub port) b → Going m b₀ (await_enabled (n - (i + 1)) hub port) b₁
    enabled_goes = await_goes hub port 20000 (λ left. await_enabled left hub port) reset_or_enabled seen (enabled_turn hub port) _ _ (one_more n i l) d s

pub enabled_none : (hub port n i : ℕ) {b : UsbBus} → n ≤ i → Ready b → Does (await_enabled (n - i) hub port) b b (Ok false)
unfolding await_enabled
enabled_none hub port n i l f = let none : n - i ≡ 0 = omega arith in rw none (returned f false)

pub ruleset turns = (Steps.going, Steps.ends_with, enabled_failed, enabled_seen, enabled_none)
