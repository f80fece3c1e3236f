-- The endpoint of a hub: the three tests of its attach, over plain values. Assumes nothing.
use Rattle.std.specs.Prelude.{◌≡◌, ℕ, ◌%◌, Bool, true, false, not, ◌&&◌, eqb, ltb, Err, refl}
use Rattle.std.proofs.Common.{ap, sym, ◌∙◌}
use mathlib.Core.Bool.{false≢true, true≢false}
use Rattle.usb_types.specs.Answers.{Answer}
use Rattle.usb_types.specs.declared.types.ErrorCode.TheVariants.{Incompatible}
use Rattle.usb_types.specs.declared.types.Failure.TheVariants.{Error}
use Rattle.usb_store.specs.Layout.{endpoint_count_field, endpoint_address_field, endpoint_attributes_field}
use Rattle.usb_store.specs.Access.{byte_at}
use Rattle.usb_model.specs.Programs.{◌>>◌}
use Rattle.usb_transfer.specs.declared.bus.UsbBus.{UsbBus}
use Rattle.usb_transfer.specs.Runs.{Ready, Does}
use Rattle.usb_transfer.proofs.Steps.{next, next_failed, got, unless, thrown}
use Rattle.usb_hub_attach.specs.Parts.{hub_endpoint, hub_described, hub_powered, hub_ready}

all_hold : (x y z : Bool) → (x && not y && z) ≡ true → (x ≡ true) × (y ≡ false) × (z ≡ true)
all_hold false y z e = absurd (false≢true e)
all_hold true true z e = absurd (false≢true e)
all_hold true false false e = absurd (false≢true e)
all_hold true false true e = (refl, refl, refl)

module _ (hub : ℕ) {b : UsbBus} {t : Bool} (is : t ≡ hub_endpoint b.store.now hub) where
  -- all three tests hold: the rest runs
  pub fits : {b' : UsbBus} {r : Answer} → t ≡ true → Does (hub_described hub >> hub_powered hub) b b' r → Does (hub_ready hub) b b' r
  unfolding hub_endpoint hub_ready
  fits e r =
      let byte = byte_at b.store.now hub in
      let hold = all_hold (eqb (byte endpoint_count_field) 1) (ltb (byte endpoint_address_field) 128) (eqb (byte endpoint_attributes_field % 4) 3) (sym is ∙ e) in
      got _ _ _ refl (unless _ _ (ap not hold.0) (got _ _ _ refl (unless _ _ hold.1 (got _ _ _ refl (unless _ _ (ap not hold.2) r)))))

  -- the first test that does not hold ends the run
  pub unfit : t ≡ false → Ready b → Does (hub_ready hub) b b (Err (Error Incompatible))
  unfolding hub_endpoint hub_ready
  unfit e f = go _ _ _ refl refl refl (sym is ∙ e)
    where
      go : (x y z : Bool) → eqb (byte_at b.store.now hub endpoint_count_field) 1 ≡ x → ltb (byte_at b.store.now hub endpoint_address_field) 128 ≡ y
          → eqb (byte_at b.store.now hub endpoint_attributes_field % 4) 3 ≡ z → (x && not y && z) ≡ false → Does (hub_ready hub) b b (Err (Error Incompatible))
      go false y z p q s t = got _ _ _ refl (thrown f _ _ (ap not p))
      go true true z p q s t = got _ _ _ refl (unless _ _ (ap not p) (got _ _ _ refl (thrown f _ _ q)))
      go true false false p q s t = got _ _ _ refl (unless _ _ (ap not p) (got _ _ _ refl (unless _ _ q (got _ _ _ refl (thrown f _ _ (ap not s))))))
      go true false true p q s t = absurd (true≢false t)

pub ruleset ways = (next, next_failed, fits, unfit)
