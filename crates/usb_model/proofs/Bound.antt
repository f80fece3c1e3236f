-- Each root attach, done, failed, stopped or refused, sends at most 8 requests for each device and 444 for each hub of the store left.
-- Assumes nothing.
use mathlib.Core.Path.{◌≡◌, refl, sym, ap, ◌∙◌}
use mathlib.Core.Bool.{Bool, true, false, cond, not, ◌&&◌, ◌||◌, false≢true, and-eq-true_iff}
use mathlib.Core.Logic.{◌≢◌}
use mathlib.Core.List.{List}
use Prim.Native.Nat.{ℕ, zero, suc, ◌+◌, ◌≤◌, ◌<◌, min}
use native.Mathlib.Omega.{arith}
use borrow.Author.Tests.{not-true, not-false}
use lib.Dec.{eqb}
use Rattle.usb_store.specs.Layout.{number_field, speed_field, status_field, port_number_field, parent_field, hub_field, used_field, child_field}
use Rattle.usb_store.specs.Access.{byte_at, with_byte}
use Rattle.usb_device.proofs.Free.{first-unused}
use Rattle.usb_sound.specs.Sound.{Sound}
use Rattle.usb_model.specs.Programs.{Ran, on, ◌>>=◌, ◌>>◌, change, end_of}
use Rattle.usb_model.specs.World.{put_bytes, World, M, with_store, get, put}
use Rattle.usb_model.specs.Features.{port_connection, port_enable, bit}
use Rattle.usb_model.specs.Usbd.{usb_allocate_device}
use Rattle.usb_model.specs.Hub.{hub_port_connection_changed, hub_check_connection, hub_attach}
use Rattle.usb_model.specs.Attach.{usb_attach_device, attach_below, usb_attach_root_hub}
use Rattle.usb_model.specs.Entry.{Lent, Verdict, accepted, refused, root_verdict, start, call, root_attach}
use Rattle.usb_model.specs.Kept.{LentBytes}
use Rattle.usb_model.specs.Count.{most_requests, store_left}
use Rattle.usb_model.proofs.Ways.{Allocates, bus_full, allocated, allocate_ends}
use Rattle.usb_model.proofs.Costs.{after, Ended, Costs, bind, next, next', looks, more, skips, throws, succeeds, attempts, ignores, whens, whens_true, unless, eachs}
use Rattle.usb_model.proofs.Budget.{budget, Known, nothing, place, port, Knows, forget, frame, Keeps, Sends, hub_writes, new_writes}
use Rattle.usb_model.proofs.Accepted.{neither, root_accepted}
use Rattle.usb_model.proofs.Entries.{start_good}
use Rattle.usb_model.proofs.Asks.{small, gets, puts, puts_most, puts_child, waits, frames, read-device-descriptor, set-address, configures, read_hub_descriptor, get_status, change_feature, power_on, port_get_status, port-status, reset2}

-- ---- what adds to the budget

-- an allocation pays for 8 requests
allocates : {k : Known} {B : Type 0} {f : ℕ → M B} (n : ℕ) → ((p : ℕ) → p < 32 → Sends (place p true) (8 + n) (f p))
    → Sends k n (usb_allocate_device >>= f)
unfolding ◌>>=◌
allocates {k} {B} {f} n h = record { run = λ w x. go w x (allocate_ends w) }
  where
    go : (w : World) → Knows k w.store → {r : Ran World ℕ} → Allocates w r
        → Ended (after (frame k nothing (λ s x. forget x))) n w (end_of (on r f))
    go w x bus_full = record { holds = forget x; paid = omega arith }
    go w x (allocated {p} e inside) =
        let r = new_writes x p inside (ap (λ (q : ℕ). byte_at w.store q used_field) e ∙ first-unused w.store (omega arith)) in
        let d = (h p inside).run _ r.knows in
        record { holds = d.holds; paid = omega (arith, d.paid, r.gain) }

-- a new hub for 444
becomes_hub : {B : Type 0} {f : M B} (n p v : ℕ) → p < 32 → v ≢ 0 → Sends (place p false) (444 + n) f
    → Sends (place p true) n (put p hub_field v >> f)
unfolding put_bytes change ◌>>◌
becomes_hub n p v inside d h = record {
  run = λ w x.
      let r = hub_writes x v inside d in
      let e = h.run (with_store (with_byte w.store p hub_field v) w) r.knows in
      record { holds = e.holds; paid = omega (arith, e.paid, r.gain) };
}

-- ---- the functions that call each other, with an attach that costs 8 at a new place

-- a port at which a change goes on has no child
vacant : (a b : Bool) → (a || not b) ≡ false → b ≡ true
vacant a b e = not-false b (neither a (not b) e).1

-- more asked for after, where it follows from nothing
anyhow : {k l : Known} {n : ℕ} {A : Type 0} {m : M A} (keep : (s : List ℕ) → Knows k s → Knows l s)
    → ((s : List ℕ) → Knows nothing s → Knows l s) → Sends k n m → Costs (frame k l keep) n m
anyhow keep f h = record { run = λ w x. let e = h.run w x in record { holds = f _ e.holds; paid = e.paid } }

-- more known before than is needed
from_nothing : {k : Known} {n : ℕ} {A : Type 0} {m : M A} → Keeps nothing n m → Sends k n m
from_nothing h = record { run = λ w x. h.run w (forget x) }

module _ (attach : ℕ → M (Unit {0})) (attaches : (p : ℕ) → p < 32 → Sends (place p true) 8 (attach p)) where
  -- 28 requests; 3 where the port has a child, and then what is known stays so
  connection_changed : (hub q : ℕ) (b : Bool) {k : Known} (keep : (s : List ℕ) → Knows (port hub q b) s → Knows k s)
      → (b ≡ true → (s : List ℕ) → Knows nothing s → Knows k s) → q < 10
      → Costs (frame (port hub q b) k keep) (3 + cond b 25 0) (hub_port_connection_changed attach hub q)
  unfolding hub_port_connection_changed get
  connection_changed hub q b keep lose l = more _ (
      next frames (next (port_get_status hub q l) (next (change_feature hub _ q _) (next (port_get_status hub q l) (
      bind (port-status hub q) λ status. looks _ _ λ w x. unless _ _ _ λ e.
      let none : b ≡ true = sym x.facts.1 ∙ vacant (not (bit port_connection status) && not (bit port_enable status)) _ e in
      more (cond b 25 0) (anyhow keep (lose none) (
      next (waits _) (next (reset2 hub q l) (
      allocates 1 λ p inside.
      next (puts_child hub q (p + 1) l) (next (port_get_status hub q l) (
      bind (port-status hub q) λ now.
      next (puts p _ _ (small speed_field (omega arith))) (next (puts p _ _ (small parent_field (omega arith))) (
      next (puts p _ _ (small port_number_field (omega arith))) (attaches p inside))))))))) (omega (arith, ap (λ c. cond {A = ℕ} c 25 0) none))))))) (omega arith)

  either_way : (b : Bool) → cond b 0 3 + cond b 25 0 ≤ 25
  either_way true = omega arith
  either_way false = omega arith

  -- 43 requests: a change at a port with a child costs 3, so that two of them cost less than one at a port without
  check_known : (hub q : ℕ) (b : Bool) → q < 10 → Sends (port hub q b) 43 (hub_check_connection attach hub q)
  unfolding hub_check_connection get
  check_known hub q b l = more 43 (
      bind (port-status hub q) λ before. next (port_get_status hub q l) (bind (port-status hub q) λ status. bind (gets hub number_field) λ number.
      next (whens _ (next (ignores (change_feature hub _ q _)) (ignores (power_on hub)))) (
      next (whens _ (next (ignores (change_feature hub _ q _)) (looks _ _ λ w x. whens_true _ λ e.
      let some : b ≡ false = sym x.facts.1 ∙ not-true _ ((and-eq-true_iff (not (bit port_enable status) && bit port_connection status) _).0 e).1 in
      more (cond b 0 3) (ignores (connection_changed hub q b (λ s y. y) (λ z. absurd (false≢true (sym some ∙ z))) l))
      (omega (arith, ap (λ c. cond {A = ℕ} c 25 0) some, ap (λ c. cond {A = ℕ} c 0 3) some))))) (
      next' (whens _ (ignores (connection_changed hub q b (λ s y. forget y) (λ z s y. y) l))) (
      next (whens _ (change_feature hub _ q _)) (whens _ (change_feature hub _ q _))))))) (omega (arith, either_way b))

  check_connection : (hub q : ℕ) → q < 10 → Keeps nothing 43 (hub_check_connection attach hub q)
  check_connection hub q l = record {
    run = λ w x. (check_known hub q (eqb (byte_at w.store hub (child_field q)) 0) l).run w (record { whole = x.whole; most = x.most; facts = (l, refl) });
  }

  -- a new hub pays for what it sends: 2 reads of its descriptor, 2 of its status, 10 requests for power, and 43 for each of 10 ports
  hub-attach : (p : ℕ) → p < 32 → Sends (place p true) 0 (hub_attach attach p)
  unfolding hub_attach get
  hub-attach p h =
      bind (gets p _) λ count. next (whens _ (throws _)) (
      bind (gets p _) λ address. next (whens _ (throws _)) (
      bind (gets p _) λ attributes. next (whens _ (throws _)) (
      becomes_hub 0 p 1 h (omega arith) (
      next (puts_most p 1 h (omega arith)) (next (read_hub_descriptor p h) (
      bind (gets p _) λ ports.
      next (puts_most p (min ports 10) h (omega arith)) (next (get_status p) (next (power_on p) (next (get_status p) (looks _ _ λ w x.
      more 430 (from_nothing (eachs _ 0 (λ q l. ignores (check_connection p q (omega (arith, x.most p)))))) (omega (arith, x.most p))))))))))))

  attach_device : (p : ℕ) → p < 32 → Sends (place p true) 8 (usb_attach_device attach p)
  unfolding usb_attach_device
  attach_device p h =
      bind (gets p _) λ address.
      next (puts p _ _ (small number_field (omega arith))) (next (read-device-descriptor p) (
      next (puts p _ _ (small status_field (omega arith))) (bind (attempts (set-address p address)) λ result.
      next (puts p _ _ (small number_field (omega arith))) (next (succeeds result) (
      next (read-device-descriptor p) (next (configures p 0) (bind (gets p _) λ class. whens _ (hub-attach p h))))))))

attach-new : (free p : ℕ) → p < 32 → Sends (place p true) 8 (attach_below free p)
unfolding attach_below
attach-new zero p h = more 8 skips (omega arith)
attach-new (suc free) p h = attach_device (attach_below free) (attach-new free) p h

root_hub : (speed : ℕ) → Sends nothing 0 (usb_attach_root_hub speed)
unfolding usb_attach_root_hub
root_hub speed = allocates 0 λ p h.
    next (puts p _ _ (small speed_field (omega arith))) (next (puts p _ _ (small status_field (omega arith))) (attach-new 32 p h))

-- ---- the entry point

module _ (lent : Lent) (bytes : LentBytes lent) (speed : ℕ) where
  sent : (v : Verdict) (s : List ℕ) → (v ≡ accepted → Sound lent.old × (s ≡ (call lent v (usb_attach_root_hub speed)).new))
      → (call lent v (usb_attach_root_hub speed)).requests ≤ most_requests s
  unfolding call budget
  sent accepted s h =
      let g = start_good lent bytes (h refl).0 in
      let e = (root_hub speed).run (start lent) (record { whole = g.whole; most = g.most; facts = tt }) in
      rw (h refl).1 (omega (arith, e.paid))
  sent (refused r) s h = omega arith

  -- refused or not, by the store that the call leaves
  pub root_attach_requests : (root_attach speed lent).requests ≤ most_requests (store_left (root_verdict lent speed) lent (root_attach speed lent))
  unfolding root_attach
  root_attach_requests =
      sent (root_verdict lent speed) _ (λ e. ((root_accepted lent speed e).is_sound, ap (λ v. store_left v lent (root_attach speed lent)) e))
