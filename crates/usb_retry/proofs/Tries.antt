-- The tries of `hub_port_reset`: a turn of the loop, over plain values. Assumes nothing.
use Rattle.std.specs.Prelude.{◌≡◌, Bool, true, false, cond, ℕ, suc, ◌+◌, ◌-◌, ◌<◌, ◌≤◌, Ok, Err, IsErr, IsErrAnd}
use Rattle.std.proofs.Common.{arith, ap, sym, ◌∙◌}
use Rattle.usb_types.specs.Answers.{Answer}
use Rattle.usb_types.specs.declared.types.Failure.{Failure}
use Rattle.usb_model.specs.Programs.{Ran, on, ◌>>=◌, skip}
use Rattle.usb_model.specs.World.{World, M}
use Rattle.usb_model.specs.Hub.{reset_tries}
use Rattle.usb_transfer.specs.declared.bus.UsbBus.{UsbBus}
use Rattle.usb_transfer.specs.Runs.{world, Ready, Does}
use Rattle.usb_transfer.proofs.Regroups.{Same, does_as, bind_bind, next_bind, given}
use Rattle.usb_transfer.proofs.Steps as Steps
use Rattle.usb_transfer.proofs.Steps.{bound, bound_failed, taken_if, skipped, Going, goes_to}
use Rattle.usb_port.proofs.Awaits.{one_more}
use Rattle.usb_retry.specs.Parts.{is_lost, try_reset}

-- the next tries, where the port was not seen enabled
abbrev rest : ℕ → ℕ → ℕ → Bool → M (Unit {0})
rest n hub port enabled = cond enabled skip (reset_tries n hub port)

tries_turn : (hub port n : ℕ) → Same (try_reset hub port >>= rest n hub port) (reset_tries (suc n) hub port)
unfolding reset_tries try_reset is_lost
tries_turn hub port n = next_bind _ _ _ (bind_bind _ _ _ (λ seen. bind_bind _ _ _ (λ status. next_bind _ _ _ (given _ _))))

turned : (hub port n i : ℕ) → i < n → Same (try_reset hub port >>= rest (n - (i + 1)) hub port) (reset_tries (n - i) hub port)
turned hub port n i l = rw (one_more n i l) (tries_turn hub port (n - (i + 1)))

module _ (hub port n i : ℕ) (l : i < n) {b b₁ : UsbBus} where
  pub tries_failed : {f : Failure} {r : Answer} → Does (try_reset hub port) b b₁ (Err f)
      → IsErr r × IsErrAnd r (λ g. g ≡ f) → Does (reset_tries (n - i) hub port) b b₁ r
  tries_failed d x = does_as (turned hub port n i l) (bound_failed _ d x)

  module _ {enabled : Bool} (d : Does (try_reset hub port) b b₁ (Ok enabled)) where
    pub tries_done : enabled ≡ true → Does (reset_tries (n - i) hub port) b b₁ (Ok tt)
    tries_done e = does_as (turned hub port n i l) (bound _ d (taken_if _ e (skipped d.fit)))

    pub tries_goes : {m : M (Unit {0})} {b₀ : UsbBus} → enabled ≡ false
        → Going m b₀ (reset_tries (n - i) hub port) b → Going m b₀ (reset_tries (n - (i + 1)) hub port) b₁
    unfolding ◌>>=◌
    tries_goes e g =
        let next = ap (λ (r : Ran World Bool). on r (rest (n - (i + 1)) hub port)) d.is in
        let last = ap (λ (t : Bool). rest (n - (i + 1)) hub port t (world b₁)) e in
        goes_to g (reset_tries (n - (i + 1)) hub port) (sym ((turned hub port n i l).is (world b)) ∙ next ∙ last) d.fit d.lends

pub tries_none : (hub port n i : ℕ) {b : UsbBus} → n ≤ i → Ready b → Does (reset_tries (n - i) hub port) b b (Ok tt)
unfolding reset_tries
tries_none hub port n i l f = let none : n - i ≡ 0 = omega arith in rw none (skipped f)

pub ruleset turns = (Steps.going, Steps.ends_with, tries_failed, tries_done, tries_none)
