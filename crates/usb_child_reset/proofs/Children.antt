-- The port of a child, over plain values. Assumes nothing.
use Rattle.std.specs.Prelude.{◌≡◌, Bool, true, false, ◌&&◌, List, ℕ, ◌+◌, ◌<◌, ◌≤◌, eqb, ltb, Option, None, Some, Result, Ok, Err, refl}
use Rattle.std.specs.Bool.{then_some}
use Rattle.std.specs.Option.{ok_or}
use Rattle.std.proofs.Common.{rules, sym}
use Rattle.usb_types.specs.declared.types.ErrorCode.{ErrorCode}
use Rattle.usb_types.specs.declared.types.ErrorCode.TheVariants.{Argument}
use Rattle.usb_types.specs.declared.types.Failure.{Failure}
use Rattle.usb_types.specs.declared.types.Failure.TheVariants.{Error}
use Rattle.usb_store.specs.Layout.{port_number_field, parent_field, child_field, max_children_field, ports_per_hub}
use Rattle.usb_store.specs.Access.{byte_at}
use Rattle.usb_model.specs.Programs.{◌>>=◌, ◌>>◌, return, skip, throw, look, when}
use Rattle.usb_model.specs.World.{get}
use Rattle.usb_model.specs.Hub.{port_of_child}
use Rattle.usb_transfer.specs.declared.bus.UsbBus.{UsbBus}
use Rattle.usb_transfer.specs.Runs.{world, Ready, Does}
use Rattle.usb_transfer.proofs.Steps.{lends_still}
use Rattle.usb_child_reset.specs.Finds.{found, Finds}

module _ (hub child : ℕ) (s : List ℕ) where
  abbrev number : ℕ
  number = byte_at s child port_number_field

  -- what `port_of_child` tests
  abbrev pub stands : Bool
  stands = eqb (byte_at s child parent_field) (hub + 1) && ltb number (byte_at s hub max_children_field) && eqb (byte_at s hub (child_field number)) (child + 1)

  nowhere : stands ≡ false → Finds hub child s None
  unfolding port_of_child get look ◌>>=◌ ◌>>◌ when skip throw return
  nowhere e = record { is = λ w same. rw (same, e) refl; port = tt }

  there : stands ≡ true → {port : ℕ} → port ≡ number → port < ports_per_hub → Finds hub child s (Some port)
  unfolding port_of_child get look ◌>>=◌ ◌>>◌ when skip throw return
  there e p l = record { is = λ w same. rw (same, e, p) refl; port = l }

  in_ten : stands ≡ true → byte_at s hub max_children_field ≤ ports_per_hub → number < ports_per_hub
  in_ten e most = search rules

  pub finds_if : {t : Bool} {port : ℕ} → t ≡ stands → port ≡ number → byte_at s hub max_children_field ≤ ports_per_hub
      → Finds hub child s (then_some t port)
  finds_if {t = true} e p most = there (sym e) p (rw p (in_ten (sym e) most))
  finds_if {t = false} e p most = nowhere (sym e)

-- ---- `ok_or(ErrorCode::Argument)?`

abbrev raised : Result ℕ ErrorCode → Result ℕ Failure
raised (Ok port) = Ok port
raised (Err error) = Err (Error error)

found_is : (r : Option ℕ) → found r ≡ raised (ok_or r Argument)
found_is None = refl
found_is (Some port) = refl

pub finds : {hub child : ℕ} {b : UsbBus} {r : Option ℕ} {x : Result ℕ ErrorCode} → Finds hub child b.store.now r → Ready b
    → x ≡ ok_or r Argument → Does (port_of_child hub child) b b (raised x)
finds {b = b} {r = r} p f e = rw (e, ← found_is r) (record { is = p.is (world b) refl; fit = f; lends = lends_still b })
