-- The lines of attach, hub attach, port check and connection change that attach no device walk. Assumes nothing.
use Prim.Native.Nat.{ℕ, ◌<◌}
use native.Mathlib.Omega.{arith}
use Rattle.usb_store.specs.Layout.{number_field, speed_field, status_field, port_number_field, parent_field, hub_field, child_field}
use Rattle.usb_model.specs.World.{World}
use Rattle.usb_model.proofs.Keeps.{bind, next, gives, throws, succeeds, attempts, ignores, whens}
use Rattle.usb_model.proofs.Walks.{Goes}
use Rattle.usb_model.proofs.Primitives.{gets, puts, puts_most, puts_child, waits, frames}
use Rattle.usb_model.proofs.Functions.{small, read-device-descriptor, set-address, configures, read_hub_descriptor, get_status}
use Rattle.usb_model.proofs.Functions.{change_feature, power_on, port_get_status, port-status, reset2, speed_listed}
use Rattle.usb_attach.specs.Parts.{default_state, addressed, described, enumerated}
use Rattle.usb_hub_attach.specs.Parts.{hub_described, hub_powered, hub_ready}
use Rattle.usb_child.specs.Parts.{start_change, reset_changed, place_child}
use Rattle.usb_check.specs.Parts.{clear_if, over_current, clear_changes, start_check}

module _ {u : World} {n : ℕ} where
  pub enumerates : (place : ℕ) → Goes u n (enumerated place)
  unfolding enumerated default_state addressed described
  enumerates place =
      bind (gets place number_field) λ address a.
      next (next (puts place number_field _ (small number_field (omega arith) (omega arith)) (omega arith))
      (next (read-device-descriptor place) (puts place status_field _ (small status_field (omega arith) (omega arith)) (omega arith)))) (
      next (bind (attempts (set-address place address a)) λ result _.
      next (puts place number_field address (small number_field (omega arith) (omega arith)) a) (succeeds result)) (
      next (read-device-descriptor place) (configures place 0 (omega arith))))

  pub readies : (hub : ℕ) → hub < n → Goes u n (hub_ready hub)
  unfolding hub_ready hub_described hub_powered
  readies hub h =
      bind (gets hub _) λ count _. next (whens _ (throws _)) (
      bind (gets hub _) λ address _. next (whens _ (throws _)) (
      bind (gets hub _) λ attributes _. next (whens _ (throws _)) (
      next (next (puts hub hub_field _ (small hub_field (omega arith) (omega arith)) (omega arith)) (next (puts_most hub _ h (omega arith)) (
      next (read_hub_descriptor hub) (bind (gets hub _) λ ports _. puts_most hub _ h (omega arith)))))
      (next (get_status hub) (next (power_on hub) (get_status hub))))))

  pub starts : (hub port : ℕ) → port < 10 → Goes u n (start_check hub port)
  unfolding start_check clear_changes over_current clear_if
  starts hub port l =
      bind (port-status hub port) λ before _.
      next (port_get_status hub port l) (
      bind (port-status hub port) λ status _.
      bind (gets hub number_field) λ number _.
      next (next (whens _ (next (ignores (change_feature hub _ port _)) (ignores (power_on hub)))) (ignores (whens _ (change_feature hub _ port _)))) (
      bind (gets hub (child_field port)) λ child _. gives _ tt))

  pub resets : (hub port : ℕ) → port < 10 → Goes u n (reset_changed hub port)
  unfolding reset_changed start_change
  resets hub port l =
      next (next frames (next (port_get_status hub port l) (next (change_feature hub _ port _) (port_get_status hub port l)))) (
      bind (port-status hub port) λ status _.
      bind (gets hub (child_field port)) λ child _.
      next (whens _ (throws _)) (next (waits _) (reset2 hub port l)))

  pub places : (hub port place : ℕ) → port < 10 → hub < place → place < n → place < 32 → Goes u n (place_child hub port place)
  unfolding place_child
  places hub port place l above inside low =
      next (puts_child hub port _ l (omega arith) (omega arith)) (
      next (port_get_status hub port l) (
      bind (port-status hub port) λ after _.
      next (puts place speed_field _ (small speed_field (omega arith) (omega arith)) (omega (arith, speed_listed after))) (
      next (puts place parent_field _ (small parent_field (omega arith) (omega arith)) (omega arith))
      (puts place port_number_field _ (small port_number_field (omega arith) (omega arith)) (omega arith)))))
