-- Attach, hub attach, port check and connection change, which call each other, and scan keep a store sound. Assumes nothing.
use mathlib.Core.Path.{◌≡◌, refl, sym, ap, ◌∙◌}
use mathlib.Core.Bool.{Bool, true, false, cond, not, ◌&&◌, ◌||◌, false≢true, and-eq-true_iff}
use mathlib.Core.Logic.{inl, inr, ◌≢◌}
use mathlib.Core.List.{List}
use Prim.Native.Nat.{ℕ, zero, suc, ◌+◌, ◌-◌, ◌≤◌, ◌<◌, min}
use native.Mathlib.Omega.{arith}
use borrow.Author.Tests.{eqb-true, eqb-false, not-true, not-false}
use lib.Dec.{eqb}
use Rattle.usb_store.specs.Layout.{number_field, used_field, speed_field, port_number_field, parent_field, hub_field, hub_descriptor_field, child_field, max_children_field}
use Rattle.usb_store.specs.Access.{byte_at, with_byte, with_bytes}
use Rattle.usb_store.proofs.Fields.{byte_same}
use Rattle.usb_device.specs.Device.{new_device, first_unused, blank}
use Rattle.usb_sound.specs.Sound.{IsChild, Sound}
use Rattle.usb_sound.proofs.Hubs.{child_below}
use Rattle.usb_model.specs.Programs.{Ran, on, ◌>>=◌, ◌>>◌, skip, look, change, when}
use Rattle.usb_model.specs.World.{World, M, with_store, get, put, put_bytes}
use Rattle.usb_model.specs.Features.{port_connection, port_enable, bit}
use Rattle.usb_model.specs.Transfer.{into}
use Rattle.usb_model.specs.Usbd.{usb_allocate_device}
use Rattle.usb_model.specs.Hub.{hub_read_descriptor, hub_port_connection_changed, hub_check_connection, hub_check_connection_device, hub_attach, is_ok, scan_port, hub_check_for_change}
use Rattle.usb_model.specs.Attach.{usb_attach_device, attach_below}
use Rattle.usb_model.proofs.Accepted.{neither}
use Rattle.usb_model.proofs.Functions.{speed_listed}
use Rattle.usb_model.proofs.Ways.{Allocates, bus_full, allocated, allocate_ends}
use Rattle.usb_model.proofs.Functions.{middle}
use Rattle.usb_model.proofs.Keeps.{Any, Left, is_failed, left_weaker, Safe, Keeps, bind_to, next_to, skips_to, whens_to, unless_to, bind, next, skips, throws, succeeds, attempts, ignores, whens, eachs}
use Rattle.usb_model.proofs.SoundStores.{Since, At, later, edit_since, edit_sound, hub_edit, parent_edit}
use Rattle.usb_model.proofs.SoundPlaces.{Fresh, child_sound, child_since, child_fresh, child_stands}
use Rattle.usb_model.proofs.SoundSteps.{Held, since_join, since_same, held_edit, some_place, gets, gets_own, gets_most, puts, puts_bytes, waits, frames, Fits}
use Rattle.usb_model.proofs.SoundFunctions.{none, descriptors, read-device-descriptor, puts_own, puts_status, set-address, configures, change_feature, power_on, port-status, port-of-child, get_status, port_get_status, reset2}

-- ---- programs that take places: from a store since t with its hub bytes and children, to one since t with more of them

abbrev pub Grows : List ℕ → {A : Type 0} → M A → (A → Type 0) → Type 0
Grows t m Q = Safe (Held true t) (Held false t) m Q

since_grown : {b : Bool} {s t : List ℕ} → Since b s t → Since false s t
since_grown o = record { used = o.used; hub = o.hub; hub_same = λ e. absurd (false≢true e); child_same = λ e. absurd (false≢true e) }

pub grown : {t : List ℕ} (w : World) → Held true t w → Held false t w
grown w h = record { sound = h.sound; since = since_grown h.since }

-- from a store further on
pub moved : {A : Type 0} {Q : A → Type 0} {s t : List ℕ} {r : Ran World A} → Since false s t → Left (Held false t) Q r
    → Left (Held false s) Q r
moved o = left_weaker (λ w h. record { sound = h.sound; since = since_join o h.since })

pub here : {b : Bool} (w : World) → Sound w.store → Held b w.store w
here w r = record { sound = r; since = since_same }

-- a byte is read, and what follows is told of the store as it is there
reads_at : {A : Type 0} {Q : A → Type 0} {b c : Bool} {s : List ℕ} (p f : ℕ) {k : ℕ → M A}
    → ((t : List ℕ) → Sound t → Since b s t → (v : ℕ) → byte_at t p f ≡ v → Safe (Held c t) (Held false t) (k v) Q)
    → Safe (Held b s) (Held false s) (get p f >>= k) Q
unfolding get look ◌>>=◌
reads_at p f h = record { run = λ w i. moved (since_grown i.since) ((h w.store i.sound i.since _ refl).run w (here w i.sound)) }

-- ---- the hub byte

-- it was written, and m follows
hub_written : {A : Type 0} {Q : A → Type 0} {m : M A} {b : Bool} {s : List ℕ} {w : World} {p : ℕ} → Held b s w → At w.store p 0 → (v : ℕ)
    → byte_at w.store p hub_field ≤ v → v < 3
    → ((t : List ℕ) → At t p v → Keeps (Held false t) m Q) → Left (Held false s) Q (m (with_store (with_byte w.store p hub_field v) w))
hub_written {w} {p} i u v grows most h =
    let d = hub_edit i.sound u v grows most in
    let now = byte_same w.store p hub_field v (record { whole = i.sound.whole; inside = u.inside; room = omega arith }) in
    moved (since_join (since_grown i.since) (edit_since i.sound d))
    ((h _ (record { inside = u.inside; used = omega (arith, u.used, d.used p); hub = omega (arith, now) })).run _ (here _ (edit_sound i.sound d)))

module _ {A : Type 0} {Q : A → Type 0} {k : M A} where
  -- a new device becomes a hub
  becomes_hub : {t : List ℕ} {p : ℕ} → Fresh t p → ((u : List ℕ) → At u p 1 → Keeps (Held false u) k Q) → Grows t (put p hub_field 1 >> k) Q
  unfolding put_bytes change ◌>>◌
  becomes_hub {p} f h = record {
    run = λ w i.
        let a = later i.since f.place in
        hub_written i a 1 (omega (arith, f.hub, i.since.hub_same refl p a.inside)) (omega arith) h;
  }

  -- a hub has a descriptor from here on
  describes : {s : List ℕ} {p : ℕ} → At s p 1 → ((t : List ℕ) → At t p 2 → Keeps (Held false t) k Q)
      → Keeps (Held false s) (get p hub_field >>= (λ d. when (eqb d 1) (put p hub_field 2 >> put_bytes p hub_descriptor_field (blank 9)) >> k)) Q
  unfolding get look ◌>>=◌ ◌>>◌ when put_bytes change skip
  describes {s} {p} u h = record { run = λ w i. go w i (later i.since u) (eqb (byte_at w.store p hub_field) 1) refl }
    where
      go : (w : World) → Held false s w → At w.store p 1 → (b : Bool) → eqb (byte_at w.store p hub_field) 1 ≡ b
          → Left (Held false s) Q (on (cond b (put p hub_field 2 >> put_bytes p hub_descriptor_field (blank 9)) skip w) (λ _. k))
      go w i a true e =
          hub_written i (some_place a) 2 (omega (arith, eqb-true (byte_at w.store p hub_field) 1 e)) (omega arith) λ t v.
          next (puts_bytes v hub_descriptor_field (blank 9) (omega arith) (λ h j l m. omega arith) (inr (omega arith))) (h t v)
      go w i a false e =
          let two : 2 ≤ byte_at w.store p hub_field = omega (arith, a.hub, eqb-false (byte_at w.store p hub_field) 1 e) in
          moved i.since ((h w.store (record { inside = a.inside; used = a.used; hub = two })).run w (here w i.sound))

descriptor_fits : Fits 2 (into hub_descriptor_field 9)
descriptor_fits = record { room = omega arith; clear = inr (omega arith); may = λ c h p g v a b d. omega arith }

pub read_hub_descriptor : {s : List ℕ} {p : ℕ} → At s p 1 → Keeps (Held false s) (hub_read_descriptor p) Any
unfolding hub_read_descriptor
read_hub_descriptor u =
    bind (descriptors u _ _ _ _ _ none) λ header _. describes u λ t v. next (descriptors v _ _ _ _ _ descriptor_fits) skips

-- ---- a place is taken

-- the first unused place, if there is one
pub allocates : {P P' : World → Type 0} {A : Type 0} {Q : A → Type 0} → ((w : World) → P w → P' w) → (k : ℕ → M A)
    → ((w : World) → P w → (p : ℕ) → p ≡ first_unused w.store → p < 32 → Left P' Q (k p (with_store (with_bytes w.store p 0 (new_device p)) w)))
    → Safe P P' (usb_allocate_device >>= k) Q
unfolding ◌>>=◌
allocates {P} {P'} {Q} weaker k h = record { run = λ w i. go w i (allocate_ends w) }
  where
    go : (w : World) → P w → {r : Ran World ℕ} → Allocates w r → Left P' Q (on r k)
    go w i bus_full = is_failed (weaker w i)
    go w i (allocated {p} e inside) = h w i p e inside

-- for a child at a port that has none: the place and the hub's byte are written as one step
allocates_child : {A : Type 0} {Q : A → Type 0} {k : ℕ → M A} {t : List ℕ} {hub port : ℕ} → At t hub 1 → port < 10
    → byte_at t hub (child_field port) ≡ 0
    → ((place : ℕ) (u : List ℕ) → Fresh u place → At u hub 1 → IsChild u hub port place → Grows u (k place) Q)
    → Grows t (usb_allocate_device >>= (λ place. put hub (child_field port) (place + 1) >> k place)) Q
unfolding put_bytes change ◌>>◌
allocates_child {t} {hub} {port} u l vacant h = allocates grown _ λ w i p e inside.
    let a = later i.since u in
    let free = i.since.child_same refl hub port l ∙ vacant in
    let o = child_since i.sound e inside a port l free in
    moved (since_join (since_grown i.since) o)
    ((h p _ (child_fresh i.sound e inside a port l free) (later o a) (child_stands i.sound e inside a port l free)).run _
    (here _ (child_sound i.sound e inside a port l free)))

-- the parent and the port are written as one step
parents : {A : Type 0} {Q : A → Type 0} {k : M A} {t : List ℕ} {p hub port : ℕ} → At t p 0 → hub < 32 → port < 10 → IsChild t hub port p
    → Grows t k Q
    → Grows t (put p parent_field (hub + 1) >> (put p port_number_field port >> k)) Q
unfolding put_bytes change ◌>>◌
parents {hub} {port} u inside l child h = record {
  run = λ w i. h.run _ (held_edit i (parent_edit i.sound (later i.since u) hub port inside l (i.since.child_same refl hub port l ∙ child)));
}

-- ---- the functions that call each other

-- what the test of a connection change says of the port's child
no-child : (gone : Bool) (child : ℕ) → (gone || not (eqb child 0)) ≡ false → child ≡ 0
no-child gone child e = eqb-true child 0 (not-false _ (neither gone (not (eqb child 0)) e).1)

module _ (attach : ℕ → M (Unit {0})) (attaches : (place : ℕ) (t : List ℕ) → Fresh t place → Grows t (attach place) Any) where
  module _ {s : List ℕ} {hub : ℕ} (u : At s hub 1) where
    pub connection_changed : (port : ℕ) → port < 10 → Keeps (Held false s) (hub_port_connection_changed attach hub port) Any
    unfolding hub_port_connection_changed
    connection_changed port l =
        next frames (next (port_get_status u port l) (next (change_feature u _ port _) (next (port_get_status u port l) (
        bind (port-status hub port) λ status _.
        reads_at hub (child_field port) λ t r o child e.
        let gone = not (bit port_connection status) && not (bit port_enable status) in
        let a = later o u in
        unless_to grown (gone || not (eqb child 0)) _ _ λ passed.
        next_to grown (waits _) (next_to grown (reset2 a port l) (
        allocates_child a l (e ∙ no-child gone child passed) λ place v fresh h stands.
        next_to grown (port_get_status h port l) (
        bind_to grown (port-status hub port) λ after _.
        next_to grown (puts fresh.place speed_field _ (λ i m. omega (arith, speed_listed after)) (inl (omega arith))) (
        parents fresh.place h.inside l stands (attaches place v fresh)))))))))

    pub check_connection : (port : ℕ) → port < 10 → Keeps (Held false s) (hub_check_connection attach hub port) Any
    unfolding hub_check_connection
    check_connection port l =
        bind (port-status hub port) λ before _.
        next (port_get_status u port l) (
        bind (port-status hub port) λ status _.
        bind (gets hub number_field) λ number _.
        next (whens _ (next (ignores (change_feature u _ port _)) (ignores (power_on u)))) (
        next (whens _ (next (ignores (change_feature u _ port _)) (bind (gets hub (child_field port)) λ child _. whens _ (ignores (connection_changed port l))))) (
        next (whens _ (ignores (connection_changed port l))) (
        next (whens _ (change_feature u _ port _)) (whens _ (change_feature u _ port _))))))

    pub check_device : (child : ℕ) → Keeps (Held false s) (hub_check_connection_device attach hub child) Any
    unfolding hub_check_connection_device
    check_device child =
        bind (port-of-child (some_place u) child) λ port l.
        next (check_connection port l) (bind (gets hub (child_field port)) λ stands _. whens _ (throws _))

    puts_most : (v : ℕ) → v ≤ 10 → Keeps (Held false s) (put hub max_children_field v) Any
    puts_most v l = puts u max_children_field v (λ h m. omega arith) (inr (omega arith))

  pub hub-attach : {t : List ℕ} {hub : ℕ} → Fresh t hub → Grows t (hub_attach attach hub) Any
  unfolding hub_attach
  hub-attach {hub} fresh =
      bind_to grown (gets hub _) λ count _. next_to grown (whens _ (throws _)) (
      bind_to grown (gets hub _) λ address _. next_to grown (whens _ (throws _)) (
      bind_to grown (gets hub _) λ attributes _. next_to grown (whens _ (throws _)) (
      becomes_hub fresh λ v u.
      next (puts_most u 1 (omega arith)) (next (read_hub_descriptor u) (
      bind (gets hub _) λ ports _.
      next (puts_most u (min ports 10) (omega arith)) (next (get_status u) (next (power_on u) (next (get_status u) (
      bind (gets_most u) λ children most.
      eachs children 0 (λ port l. ignores (check_connection u port (omega (arith, most)))))))))))))

  pub attach_device : {t : List ℕ} {place : ℕ} → Fresh t place → Grows t (usb_attach_device attach place) Any
  unfolding usb_attach_device
  attach_device {place} fresh =
      let u = fresh.place in
      bind_to grown (gets_own u) λ address own.
      next_to grown (puts_own u 0 (inl refl)) (
      next_to grown (read-device-descriptor u) (
      next_to grown (puts_status u _ (omega arith)) (
      bind_to grown (attempts (set-address u address own)) λ result _.
      next_to grown (puts_own u address own) (
      next_to grown (succeeds result) (next_to grown (read-device-descriptor u) (next_to grown (configures u 0) (
      bind_to grown (gets place _) λ class _. whens_to grown _ λ _. hub-attach fresh)))))))

pub attaches : (free place : ℕ) (t : List ℕ) → Fresh t place → Grows t (attach_below free place) Any
unfolding attach_below
attaches zero place t fresh = skips_to grown
attaches (suc free) place t fresh = attach_device (attach_below free) (attaches free) fresh

-- ---- scan

child_at : {s : List ℕ} {hub port child : ℕ} → Sound s → hub < 32 → port < 10 → byte_at s hub (child_field port) ≡ child → child ≢ 0
    → At s (child - 1) 0
child_at {s} {hub} {port} {child} r inside l e n =
    let b = child_below s r hub port inside l (λ z. n (sym e ∙ z)) in
    let i : byte_at s hub (child_field port) - 1 ≡ child - 1 = ap (λ (v : ℕ). v - 1) e in
    record { inside = omega (arith, b.inside, i); used = omega (arith, b.used, ap (λ (v : ℕ). byte_at s v used_field) i); hub = omega arith }

module _ (free : ℕ) where
  scan-port : {below : ℕ → M (Unit {0})} {s : List ℕ} {hub : ℕ} (port : ℕ) → At s hub 1 → port < 10
      → ((place : ℕ) (t : List ℕ) → At t place 1 → Keeps (Held false t) (below place) Any)
      → Keeps (Held false s) (scan_port (attach_below free) below hub port) Any
  unfolding scan_port
  scan-port {hub} port u l scans =
      bind (attempts (check_connection (attach_below free) (attaches free) u port l)) λ result _.
      reads_at {c = false} hub (child_field port) λ t r o child c.
      reads_at (child - 1) hub_field λ v q p data' d.
      whens_to (λ w h. h) (is_ok result && not (eqb child 0) && not (eqb data' 0)) λ e.
      let some = eqb-false child 0 (not-true _ (middle (is_ok result) (not (eqb data' 0)) e)) in
      let hubs = eqb-false data' 0 (not-true _ ((and-eq-true_iff (is_ok result && not (eqb child 0)) _).0 e).1) in
      let a = later p (child_at r u.inside l c some) in
      scans (child - 1) v (record { inside = a.inside; used = a.used; hub = omega (arith, d, hubs) })

  pub check_for_change : (above : ℕ) {s : List ℕ} {hub : ℕ} → At s hub 1
      → Keeps (Held false s) (hub_check_for_change (attach_below free) above hub) Any
  unfolding hub_check_for_change
  check_for_change zero u = skips
  check_for_change (suc above) u =
      bind (gets_most u) λ count most.
      eachs count 0 (λ port l. scan-port port u (omega (arith, most)) (λ place t v. check_for_change above v))
