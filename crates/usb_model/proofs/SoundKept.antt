-- A sound store stays sound. Inside a run: whatever world a function leaves has a sound store, in which used places are still used and hubs
-- still hubs. Of the entry points: every accepted call leaves a sound store, done, failed or halted. Assumes nothing.
use mathlib.Core.Path.{◌≡◌}
use mathlib.Core.Bool.{Bool, false}
use mathlib.Core.Logic.{inl, ◌≢◌}
use mathlib.Core.List.{List}
use Prim.Native.Nat.{ℕ, ◌<◌}
use native.Mathlib.Omega.{arith}
use Rattle.usb_store.specs.Layout.{used_field, speed_field, hub_field}
use Rattle.usb_store.specs.Access.{byte_at}
use Rattle.usb_sound.specs.Sound.{Sound}
use Rattle.usb_sound.proofs.Hubs.{hub_used}
use Rattle.usb_model.specs.Programs.{end_of}
use Rattle.usb_model.specs.World.{World, M}
use Rattle.usb_model.specs.Hub.{hub_port_reset, hub_child_reset, hub_port_connection_changed, hub_check_connection, hub_check_connection_device, hub_check_for_change}
use Rattle.usb_model.specs.Attach.{attach_below, usb_attach_root_hub}
use Rattle.usb_model.specs.Entry.{Lent, Verdict, accepted, refused, is_unused, no_port, root_verdict, hub_verdict, start, call, root_attach, scan, port_check, child_reset, child_check, retried_reset, connection_change}
use Rattle.usb_model.proofs.Accepted.{port_inside, root_accepted, hub_accepted}
use Rattle.usb_model.proofs.Keeps.{Any, left_holds, Safe, Keeps, next_to}
use Rattle.usb_model.proofs.SoundStores.{At}
use Rattle.usb_model.proofs.SoundPlaces.{root_sound, root_since, root_fresh}
use Rattle.usb_model.proofs.SoundSteps.{Held, since_join, puts}
use Rattle.usb_model.proofs.SoundFunctions.{puts_status, child-reset, reset}
use Rattle.usb_model.proofs.SoundCycle.{here, grown, moved, allocates, attaches, connection_changed, check_connection, check_device, check_for_change}

-- ---- inside a run

-- the world that m leaves from w has a sound store, later than that of w
abbrev pub Stays : M (Unit {0}) → World → Type 0
Stays m w = Held false w.store (end_of (m w))

stays : {m : M (Unit {0})} (w : World) → Sound w.store → Keeps (Held false w.store) m Any → Stays m w
stays w r h = left_holds (h.run w (here w r))

-- a hub is used
pub hub_place : {s : List ℕ} {hub : ℕ} → Sound s → hub < 32 → byte_at s hub hub_field ≢ 0 → At s hub 1
hub_place {s} {hub} r inside n = record { inside = inside; used = omega (arith, hub_used s r hub inside n); hub = omega (arith, n) }

module _ (w : World) (r : Sound w.store) {hub : ℕ} (u : At w.store hub 1) where
  pub reset_stays : (port : ℕ) → port < 10 → Stays (hub_port_reset hub port) w
  reset_stays port l = stays w r (reset u port l)

  pub child_reset_stays : (child : ℕ) → Stays (hub_child_reset hub child) w
  child_reset_stays child = stays w r (child-reset u child)

  module _ (free : ℕ) where
    pub connection_changed_stays : (port : ℕ) → port < 10 → Stays (hub_port_connection_changed (attach_below free) hub port) w
    connection_changed_stays port l = stays w r (connection_changed (attach_below free) (attaches free) u port l)

    pub check_connection_stays : (port : ℕ) → port < 10 → Stays (hub_check_connection (attach_below free) hub port) w
    check_connection_stays port l = stays w r (check_connection (attach_below free) (attaches free) u port l)

    pub check_device_stays : (child : ℕ) → Stays (hub_check_connection_device (attach_below free) hub child) w
    check_device_stays child = stays w r (check_device (attach_below free) (attaches free) u child)

    pub check_for_change_stays : (above : ℕ) → Stays (hub_check_for_change (attach_below free) above hub) w
    check_for_change_stays above = stays w r (check_for_change free above u)

-- no place is used
record Empty (s : List ℕ) (w : World) : Type 0 where
  held : Held false s w
  none : byte_at w.store 0 used_field ≡ 0

root_hub : {s : List ℕ} (speed : ℕ) → speed < 3 → Safe (Empty s) (Held false s) (usb_attach_root_hub speed) Any
unfolding usb_attach_root_hub
root_hub speed l = allocates (λ w e. e.held) _ λ w e p first inside.
    let r = e.held.sound in
    let fresh = root_fresh r first inside e.none in
    moved (since_join e.held.since (root_since r first inside e.none))
    ((next_to grown (puts fresh.place speed_field speed (λ h m. omega arith) (inl (omega arith)))
    (next_to grown (puts_status fresh.place _ (omega arith)) (attaches 32 p _ fresh))
    ).run _ (here _ (root_sound r first inside e.none)))

pub root_hub_stays : (w : World) → Sound w.store → byte_at w.store 0 used_field ≡ 0 → (speed : ℕ) → speed < 3
    → Stays (usb_attach_root_hub speed) w
root_hub_stays w r none speed l = left_holds ((root_hub speed l).run w (record { held = here w r; none = none }))

-- ---- the entry points

module _ (lent : Lent) where
  called_sound : (v : Verdict) (m : M (Unit {0})) → v ≡ accepted → Stays m (start lent) → Sound (call lent v m).new
  unfolding call
  called_sound accepted m e h = h.sound
  called_sound (refused r) m e h = let z : ◌≡◌ {A = ℕ} 0 1 = cc in absurd (omega arith)

  -- a call that names a hub
  hub_called : (hub : ℕ) (bad : Bool) (m : M (Unit {0})) → hub_verdict lent hub bad ≡ accepted
      → (Sound lent.old → At lent.old hub 1 → bad ≡ false → Stays m (start lent))
      → Sound (call lent (hub_verdict lent hub bad) m).new
  hub_called hub bad m e h =
      let x = hub_accepted lent hub bad e in
      called_sound _ m e (h x.is_sound (hub_place x.is_sound x.inside x.is-hub) x.good)

  pub root_attach_sound : (speed : ℕ) → root_verdict lent speed ≡ accepted → Sound (root_attach speed lent).new
  unfolding root_attach
  root_attach_sound speed e =
      let x = root_accepted lent speed e in
      called_sound _ (usb_attach_root_hub speed) e (root_hub_stays (start lent) x.is_sound x.unused speed x.low)

  pub scan_sound : (hub : ℕ) → hub_verdict lent hub false ≡ accepted → Sound (scan hub lent).new
  unfolding scan
  scan_sound hub e = hub_called hub false _ e λ r u _. check_for_change_stays (start lent) r u 32 32

  pub port_check_sound : (hub port : ℕ) → hub_verdict lent hub (no_port port) ≡ accepted → Sound (port_check hub port lent).new
  unfolding port_check
  port_check_sound hub port e =
      hub_called hub (no_port port) _ e λ r u g. check_connection_stays (start lent) r u 32 port (port_inside port g)

  pub connection_change_sound : (hub port : ℕ) → hub_verdict lent hub (no_port port) ≡ accepted → Sound (connection_change hub port lent).new
  unfolding connection_change
  connection_change_sound hub port e =
      hub_called hub (no_port port) _ e λ r u g. connection_changed_stays (start lent) r u 32 port (port_inside port g)

  pub retried_reset_sound : (hub port : ℕ) → hub_verdict lent hub (no_port port) ≡ accepted → Sound (retried_reset hub port lent).new
  unfolding retried_reset
  retried_reset_sound hub port e =
      hub_called hub (no_port port) _ e λ r u g. reset_stays (start lent) r u port (port_inside port g)

  pub child_check_sound : (hub child : ℕ) → hub_verdict lent hub (is_unused lent child) ≡ accepted → Sound (child_check hub child lent).new
  unfolding child_check
  child_check_sound hub child e = hub_called hub (is_unused lent child) _ e λ r u _. check_device_stays (start lent) r u 32 child

  pub child_reset_sound : (hub child : ℕ) → hub_verdict lent hub (is_unused lent child) ≡ accepted → Sound (child_reset hub child lent).new
  unfolding child_reset
  child_reset_sound hub child e = hub_called hub (is_unused lent child) _ e λ r u _. child_reset_stays (start lent) r u child
