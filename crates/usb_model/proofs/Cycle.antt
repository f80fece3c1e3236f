-- Attach, hub attach, port check and connection change, which call each other, and scan: they walk, and any number that bounds what
-- falls gives the same run. For the attach the free places fall, for a scan the places above. Assumes nothing.
use mathlib.Core.Bool.{not, ◌&&◌}
use Prim.Native.Nat.{ℕ, zero, suc, ◌+◌, ◌-◌, ◌≤◌, ◌<◌}
use native.Mathlib.Omega.{arith}
use borrow.Author.Tests.{not-true}
use lib.Dec.{eqb}
use Rattle.usb_store.specs.Layout.{place_count, number_field, speed_field, status_field, port_number_field, parent_field, hub_field, child_field}
use Rattle.usb_device.specs.Device.{free_places}
use Rattle.usb_device.proofs.Free.{first_most}
use Rattle.usb_model.specs.World.{World, M}
use Rattle.usb_model.specs.Hub.{hub_port_connection_changed, hub_check_connection, hub_check_connection_device, hub_attach, is_ok, scan_port, hub_check_for_change}
use Rattle.usb_model.specs.Attach.{usb_attach_device, attach_below, attach_new, usb_attach_root_hub}
use Rattle.usb_model.proofs.Keeps.{bind, next, throws, succeeds, attempts, ignores, whens, skips}
use Rattle.usb_model.proofs.Primitives.{gets, gets_most, puts, puts_most, puts_child, waits, frames}
use Rattle.usb_model.proofs.Functions.{middle, small, read-device-descriptor, set-address, configures, read_hub_descriptor, get_status, change_feature, power_on, port_get_status, port-status, reset2, port-of-child, speed_listed}
use Rattle.usb_model.proofs.Pairs.{Alike, known, one, bind₂, next₂, bind₁, next₁, attempts₂, ignores₂, whens₂, eachs₂, child₂, allocate₂}

module _ {u : World} (attach attach' : ℕ → M (Unit {0}))
    (attaches : (v : World) → free_places v.store < free_places u.store → (place : ℕ) → place < 32
    → Alike v (place + 1) (attach place) (attach' place)) {n : ℕ} where
  pub connection_changed : (hub port : ℕ) → hub < n → port < 10
      → Alike u n (hub_port_connection_changed attach hub port) (hub_port_connection_changed attach' hub port)
  unfolding hub_port_connection_changed
  connection_changed hub port h l =
      next₁ frames (next₁ (port_get_status hub port l) (next₁ (change_feature hub _ port _) (next₁ (port_get_status hub port l) (
      bind₁ (port-status hub port) λ status _.
      bind₁ (gets hub (child_field port)) λ child _.
      next₁ (whens _ (throws _)) (next₁ (waits _) (next₁ (reset2 hub port l) (
      allocate₂ λ v place less m inside.
      next₁ (puts_child hub port _ l (omega arith) (omega arith)) (
      next₁ (port_get_status hub port l) (
      bind₁ (port-status hub port) λ after _.
      next₁ (puts place speed_field _ (small speed_field (omega arith) (omega arith)) (omega (arith, speed_listed after))) (
      next₁ (puts place parent_field _ (small parent_field (omega arith) (omega arith)) (omega arith)) (
      next₁ (puts place port_number_field _ (small port_number_field (omega arith) (omega arith)) (omega arith)) (
      attaches v less place inside))))))))))))

  pub check_connection : (hub port : ℕ) → hub < n → port < 10
      → Alike u n (hub_check_connection attach hub port) (hub_check_connection attach' hub port)
  unfolding hub_check_connection
  check_connection hub port h l =
      bind₁ (port-status hub port) λ before _.
      next₁ (port_get_status hub port l) (
      bind₁ (port-status hub port) λ status _.
      bind₁ (gets hub number_field) λ number _.
      next₁ (whens _ (next (ignores (change_feature hub _ port _)) (ignores (power_on hub)))) (
      next₂ (whens₂ _ λ _. next₁ (ignores (change_feature hub _ port _))
      (bind₁ (gets hub (child_field port)) λ child _. whens₂ _ λ _. ignores₂ (connection_changed hub port h l))) (
      next₂ (whens₂ _ λ _. ignores₂ (connection_changed hub port h l)) (
      next₁ (whens _ (change_feature hub _ port _)) (one (whens _ (change_feature hub _ port _)))))))

  pub check_device : (hub child : ℕ) → hub < n
      → Alike u n (hub_check_connection_device attach hub child) (hub_check_connection_device attach' hub child)
  unfolding hub_check_connection_device
  check_device hub child h =
      bind₁ (port-of-child hub child) λ port l.
      next₂ (check_connection hub port h l) (one (bind (gets hub (child_field port)) λ stands _. whens _ (throws _)))

  pub hub-attach : (hub : ℕ) → hub < n → Alike u n (hub_attach attach hub) (hub_attach attach' hub)
  unfolding hub_attach
  hub-attach hub h =
      bind₁ (gets hub _) λ count _. next₁ (whens _ (throws _)) (
      bind₁ (gets hub _) λ address _. next₁ (whens _ (throws _)) (
      bind₁ (gets hub _) λ attributes _. next₁ (whens _ (throws _)) (
      next₁ (puts hub hub_field _ (small hub_field (omega arith) (omega arith)) (omega arith)) (
      next₁ (puts_most hub _ h (omega arith)) (
      next₁ (read_hub_descriptor hub) (
      bind₁ (gets hub _) λ ports _.
      next₁ (puts_most hub _ h (omega arith)) (
      next₁ (get_status hub) (next₁ (power_on hub) (next₁ (get_status hub) (
      bind₁ (gets_most hub) λ children most.
      eachs₂ children 0 (λ port l. ignores₂ (check_connection hub port h (omega (arith, most))))))))))))))

  pub attach_device : (place : ℕ) → place < n → Alike u n (usb_attach_device attach place) (usb_attach_device attach' place)
  unfolding usb_attach_device
  attach_device place h =
      bind₁ (gets place number_field) λ address a.
      next₁ (puts place number_field _ (small number_field (omega arith) (omega arith)) (omega arith)) (
      next₁ (read-device-descriptor place) (
      next₁ (puts place status_field _ (small status_field (omega arith) (omega arith)) (omega arith)) (
      bind₁ (attempts (set-address place address a)) λ result _.
      next₁ (puts place number_field address (small number_field (omega arith) (omega arith)) a) (
      next₁ (succeeds result) (next₁ (read-device-descriptor place) (next₁ (configures place 0 (omega arith)) (
      bind₁ (gets place _) λ class _. whens₂ _ λ _. hub-attach place h)))))))

-- the attach with one number
pub attach_walks : (free : ℕ) (u : World) (place : ℕ) → place < 32 → Alike u (place + 1) (attach_below free place) (attach_below free place)
unfolding attach_below
attach_walks zero u place h = one skips
attach_walks (suc free) u place h = attach_device (attach_below free) (attach_below free) (λ v _. attach_walks free v) place (omega arith)

-- fuel of the attach: with fewer than k free places, any two numbers from k on give the same run
pub attach_fuel : (k a b : ℕ) (u : World) → free_places u.store < k → (place : ℕ) → k ≤ a → k ≤ b → place < 32
    → Alike u (place + 1) (attach_below a place) (attach_below b place)
unfolding attach_below
attach_fuel zero a b u f place x y h = absurd (omega arith)
attach_fuel (suc k) zero b u f place x y h = absurd (omega arith)
attach_fuel (suc k) (suc a) zero u f place x y h = absurd (omega arith)
attach_fuel (suc k) (suc a) (suc b) u f place x y h =
    attach_device (attach_below a) (attach_below b) (λ v less p l. attach_fuel k a b v (omega arith) p (omega arith) (omega arith) l) place (omega arith)

-- so the number of the entry points is enough: no larger one gives another run
pub attach_enough : (b : ℕ) → place_count ≤ b → (u : World) → free_places u.store < place_count → (place : ℕ) → place < place_count
    → Alike u (place + 1) (attach_new place) (attach_below b place)
attach_enough b l u f place h = attach_fuel place_count _ b u f place (omega arith) l h

pub root_hub : (u : World) (speed : ℕ) → speed < 256 → Alike u 0 (usb_attach_root_hub speed) (usb_attach_root_hub speed)
unfolding usb_attach_root_hub
root_hub u speed h = allocate₂ λ v place less l inside.
    next₁ (puts place speed_field speed (small speed_field (omega arith) (omega arith)) h) (
    next₁ (puts place status_field _ (small status_field (omega arith) (omega arith)) (omega arith)) (attach_walks 32 v place inside))

-- ---- scan

module _ (free : ℕ) where
  pub scan-port : {u : World} {below below' : ℕ → M (Unit {0})} {n : ℕ} (hub port : ℕ) → hub < n → port < 10
      → ((v : World) (place : ℕ) → hub < place → Alike v (place + 1) (below place) (below' place))
      → Alike u n (scan_port (attach_below free) below hub port) (scan_port (attach_below free) below' hub port)
  unfolding scan_port
  scan-port hub port h l scans =
      bind₂ (attempts₂ (check_connection (attach_below free) (attach_below free) (λ v _. attach_walks free v) hub port h l)) λ result _.
      child₂ hub port l λ child m x stands.
      bind₁ (gets (child - 1) hub_field) λ data' _.
      whens₂ (is_ok result && not (eqb child 0) && not (eqb data' 0)) λ e.
      let there = stands (not-true _ (middle (is_ok result) (not (eqb data' 0)) e)) in
      known (omega (arith, there.1)) (λ v. scans v (child - 1) (omega (arith, there.0)))

  pub check_for_change : (u : World) (above hub : ℕ)
      → Alike u (hub + 1) (hub_check_for_change (attach_below free) above hub) (hub_check_for_change (attach_below free) above hub)
  unfolding hub_check_for_change
  check_for_change u zero hub = one skips
  check_for_change u (suc above) hub =
      bind₁ (gets_most hub) λ count most.
      eachs₂ count 0 (λ port l. scan-port hub port (omega arith) (omega (arith, most)) (λ v place _. check_for_change v above place))

  -- fuel of a scan: any two numbers that bound the places above the hub give the same run
  pub scan_fuel : (u : World) (a b hub : ℕ) → 32 ≤ hub + a → 32 ≤ hub + b
      → Alike u (hub + 1) (hub_check_for_change (attach_below free) a hub) (hub_check_for_change (attach_below free) b hub)
  unfolding hub_check_for_change
  scan_fuel u zero b hub x y = record { run = λ w r. absurd (omega (arith, r.used, first_most w.store)) }
  scan_fuel u (suc a) zero hub x y = record { run = λ w r. absurd (omega (arith, r.used, first_most w.store)) }
  scan_fuel u (suc a) (suc b) hub x y =
      bind₁ (gets_most hub) λ count most.
      eachs₂ count 0 (λ port l. scan-port hub port (omega arith) (omega (arith, most)) (λ v place m. scan_fuel v a b place (omega arith) (omega arith)))

-- so the number of a scan is enough
pub scan_enough : (u : World) (b hub : ℕ) → place_count ≤ hub + b
    → Alike u (hub + 1) (hub_check_for_change attach_new place_count hub) (hub_check_for_change attach_new b hub)
scan_enough u b hub l = scan_fuel place_count u place_count b hub (omega arith) l
