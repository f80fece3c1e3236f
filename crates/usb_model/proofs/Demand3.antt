-- Demand 3, proved. Assumes nothing.
use mathlib.Core.Path.{◌≡◌, refl, sym, ap, ◌∙◌, subst}
use mathlib.Core.Bool.{false}
use mathlib.Core.Logic.{◌≢◌}
use mathlib.Core.List.{List, []}
use Prim.Native.Nat.{ℕ, ◌+◌, ◌*◌, ◌≤◌, ◌<◌}
use native.Mathlib.Omega.{arith}
use lib.ListN.{replicate}
use Rattle.usb_store.specs.Layout.{store_length, status_field, hub_field}
use Rattle.usb_store.specs.Access.{byte_at, offset}
use Rattle.usb_device.specs.Device.{first_unused}
use Rattle.usb_sound.specs.Sound.{Sound}
use Rattle.usb_sound.proofs.Decides.{empty_sound}
use Rattle.usb_place.proofs.Tests.{replicate_zero}
use Rattle.usb_model.specs.Programs.{Ran, end_of}
use Rattle.usb_model.specs.World.{World}
use Rattle.usb_model.specs.Attach.{attach_new}
use Rattle.usb_model.specs.Entry.{Lent, accepted, no_port, start, call, root_attach, scan, port_check}
use Rattle.usb_model.specs.Kept.{LentBytes}
use Rattle.usb_model.specs.History.{Event, Reading, read_log, joined, configures, count}
use Rattle.usb_model.specs.Demand3.{Call, attaches, scans, checks, verdict, program, entry, Ended, finished, failed, Reached, empty, refusal, ran, ShownConfigured, Stands, Demand3}
use Rattle.usb_model.proofs.Walks.{Reach, reach_here}
use Rattle.usb_model.proofs.Cycle.{attach_walks, check_connection, root_hub, check_for_change}
use Rattle.usb_model.proofs.Accepted.{port_inside, root_accepted, hub_accepted}
use Rattle.usb_model.proofs.Entries.{start_good}
use Rattle.usb_model.proofs.Bound.{root_attach_requests}
use Rattle.usb_model.proofs.Keeps.{Any, Left, left_holds}
use Rattle.usb_model.proofs.SoundKept.{Stays, hub_place, check_connection_stays, check_for_change_stays, root_hub_stays}
use Rattle.usb_model.proofs.Reading.{Reads}
use Rattle.usb_model.proofs.Triples.{State, store, Leads, fine, bad, gone}
use Rattle.usb_model.proofs.Invariant.{expected, PlaceInv}
use Rattle.usb_model.proofs.Middle.{Fine}
use Rattle.usb_model.proofs.Claims.{check_does}
use Rattle.usb_model.proofs.Attaches.{attach_below_does, scan_does, root_does}

-- what holds of a store and its history after a list of calls
record Kept (s : List ℕ) (h : List Event) : Type 0 where
  sound : Sound s
  place : (p : ℕ) → p < 32 → PlaceInv s h p
  belongs : (n : ℕ) → 0 < count (configures n) h → (p : ℕ) × (n ≡ p + 1) × ShownConfigured s p

-- ---- the empty store

empty_byte : (p f : ℕ) → byte_at (replicate store_length 0) p f ≡ 0
unfolding byte_at
empty_byte p f = replicate_zero store_length (offset p f)

empty_kept : Kept (replicate store_length 0) []
unfolding count
empty_kept = record {
  sound = empty_sound;
  place = λ p l. record {
    fresh = λ _. empty_byte p status_field;
    plain = λ n. absurd (n (empty_byte p hub_field));
    once = ap expected (sym (empty_byte p status_field));
    numbered = λ n. absurd (n (empty_byte p hub_field));
    story = λ e. absurd (omega (arith, e, empty_byte p status_field));
  };
  belongs = λ n l. absurd (omega arith);
}

-- ---- the start and the end of a call

reads_start : (lent : Lent) (h : List Event) → Reads h (start lent) h
unfolding read_log
reads_start lent h = record { actions = 0; logged = refl; is = refl }

abbrev first_state : (lent : Lent) → LentBytes lent → Sound lent.old → (h : List Event) → State h
first_state lent bytes r h = record { world = start lent; past = h; good = start_good lent bytes r; reads = reads_start lent h }

-- the state in which a run ended
record EndState (h : List Event) (H : ℕ → Type 0) (w : World) : Type 0 where
  state : State h
  is : state.world ≡ w
  is_fine : Fine H state

leads_ended : {h : List Event} {H : ℕ → Type 0} {r : Ran World (Unit {0})} {w : World} → Leads {h₀ = h} (λ _. Fine H) (Fine H) r → Ended r w
    → EndState h H w
leads_ended (fine s f) finished = record { state = s; is = refl; is_fine = f }
leads_ended (bad s f) failed = record { state = s; is = refl; is_fine = f }
leads_ended gone e = elim e [ ]

left_ended : {r : Ran World (Unit {0})} {w : World} → Ended r w → end_of r ≡ w
left_ended finished = refl
left_ended failed = refl

-- the history that a call joins is the one of the state in which it ended
joined_is : {h : List Event} {H : ℕ → Type 0} {w : World} (outcomes : List ℕ) (e : EndState h H w) → w.outcomes ≡ outcomes → (n : ℕ)
    → w.at.logged ≡ 16 * n → joined n w.log outcomes h ≡ e.state.past
unfolding joined
joined_is {h} {H} {w} outcomes e o n l =
    let r = subst (λ (v : World). Reads h v e.state.past) e.is e.state.reads in
    let same : n ≡ r.actions = omega (arith, l, r.logged) in
    rw (← o, same) (ap (λ (x : Reading). x.past) r.is)

-- what a call does, from the first world on
pub call_walks : (lent : Lent) → LentBytes lent → (c : Call) → verdict c lent ≡ accepted
    → (m : ℕ) × Left (Reach (start lent) m) Any (program c (start lent))
call_walks lent bytes (attaches speed) v =
    let x = root_accepted lent speed v in
    let here = reach_here {n = 0} (start lent) (start_good lent bytes x.is_sound) (omega arith) in
    (0, ((root_hub (start lent) speed (omega (arith, x.low))).run (start lent) here).walk)
call_walks lent bytes (scans hub) v =
    let x = hub_accepted lent hub false v in
    let here = reach_here (start lent) (start_good lent bytes x.is_sound) x.first in
    (hub + 1, ((check_for_change 32 (start lent) 32 hub).run (start lent) here).walk)
call_walks lent bytes (checks hub port) v =
    let x = hub_accepted lent hub (no_port port) v in
    let here = reach_here (start lent) (start_good lent bytes x.is_sound) x.first in
    let low = port_inside port x.good in
    let walks = check_connection attach_new attach_new (λ v _. attach_walks 32 v) {n = hub + 1} hub port (omega arith) low in
    (hub + 1, (walks.run (start lent) here).walk)

module _ (lent : Lent) (bytes : LentBytes lent) {h : List Event} (k : Kept lent.old h) {w : World}
    (c : Call) (v : verdict c lent ≡ accepted) (ends : Ended (program c (start lent)) w) where
  -- a run that is claimed, walks and stays sound
  kept_ran : {H : ℕ → Type 0} → Leads {h₀ = h} (λ _. Fine H) (Fine H) (program c (start lent)) → Stays (program c) (start lent)
      → (n : ℕ) → w.at.logged ≡ 16 * n
      → Kept w.store (joined n w.log lent.outcomes h)
  kept_ran {H} x z n l =
      let e = leads_ended x ends in
      let y = call_walks lent bytes c v in
      let o = (subst (Reach (start lent) y.0) (left_ended ends) (left_holds y.1)).onward in
      let i = e.is_fine.inv in
      let past : e.state.past ≡ joined n w.log lent.outcomes h = sym (joined_is lent.outcomes e o.outcomes n l) in
      let same : store e.state ≡ w.store = ap (λ (v : World). v.store) e.is in
      record {
        sound = subst (λ (v : World). Sound v.store) (left_ended ends) z.sound;
        place = λ p m. subst (λ (q : List Event). PlaceInv w.store q p) past
            (subst (λ (v : List ℕ). PlaceInv v e.state.past p) same (i.place p m (λ b. b)));
        belongs = λ a m.
            let b = i.belongs a (λ q f t. t) (subst (λ (q : List Event). 0 < count (configures a) q) (sym past) m) in
            (b.0, b.1, subst (λ (v : List ℕ). ShownConfigured v b.0) same b.2);
      }

-- ---- a list of calls

-- the hub that a call names is known
hub_fine : (lent : Lent) (bytes : LentBytes lent) (r : Sound lent.old) {h : List Event} → Kept lent.old h → (hub : ℕ)
    → byte_at lent.old hub hub_field ≢ 0 → hub + 1 ≤ first_unused lent.old → Fine (λ q. q ≡ hub) (first_state lent bytes r h)
hub_fine lent bytes r k hub n l = record {
  inv = record { place = λ p m _. k.place p m; belongs = λ a _ m. k.belongs a m };
  known = record {
    hubs = λ q e z. n (ap (λ (p : ℕ). byte_at lent.old p hub_field) (sym e) ∙ z);
    first = λ q e. omega (arith, e, l);
  };
}

kept_call : (lent : Lent) (bytes : LentBytes lent) {h : List Event} → Kept lent.old h → {w : World} (c : Call)
    → verdict c lent ≡ accepted → Ended (program c (start lent)) w → (n : ℕ) → w.at.logged ≡ 16 * n
    → Kept w.store (joined n w.log lent.outcomes h)
kept_call lent bytes {h} k (attaches speed) v e n l =
    let x = root_accepted lent speed v in
    let s = first_state lent bytes x.is_sound h in
    kept_ran lent bytes k (attaches speed) v e
    ((root_does speed (omega (arith, x.low))).run s (record {
      inv = record { place = λ p m _. k.place p m; belongs = λ a _ m. k.belongs a m };
      unused = x.unused;
    }))
    (root_hub_stays (start lent) x.is_sound x.unused speed x.low) n l
kept_call lent bytes {h} k (scans hub) v e n l =
    let x = hub_accepted lent hub false v in
    let s = first_state lent bytes x.is_sound h in
    kept_ran lent bytes k (scans hub) v e
    ((scan_does 32 32 hub (λ q. q ≡ hub) refl x.inside).run s (hub_fine lent bytes x.is_sound k hub x.is-hub x.first))
    (check_for_change_stays (start lent) x.is_sound (hub_place x.is_sound x.inside x.is-hub) 32 32) n l
kept_call lent bytes {h} k (checks hub port) v e n l =
    let x = hub_accepted lent hub (no_port port) v in
    let s = first_state lent bytes x.is_sound h in
    let low = port_inside port x.good in
    kept_ran lent bytes k (checks hub port) v e
    ((check_does (λ q. q ≡ hub) hub port refl x.inside low attach_new (attach_below_does 32)).run s
    (hub_fine lent bytes x.is_sound k hub x.is-hub x.first))
    (check_connection_stays (start lent) x.is_sound (hub_place x.is_sound x.inside x.is-hub) 32 port low) n l

kept : {s : List ℕ} {h : List Event} → Reached s h → Kept s h
kept empty = empty_kept
kept (refusal r c lent e n) = kept r
kept (ran {s} {h} r c lent e b v end n l) = kept_call lent b (subst (λ (t : List ℕ). Kept t h) (sym e) (kept r)) c v end n l

-- ---- the claim

-- the hub and port of a device are one, in a sound store
single : {s : List ℕ} → Sound s → (hub port hub' port' place : ℕ) → Stands s hub port place → Stands s hub' port' place
    → (hub ≡ hub') × (port ≡ port')
single {s} r hub port hub' port' place x y =
    let u = r.children hub port place x.device.0 x.low x.child in
    let n : place ≢ 0 = λ e. r.root hub port x.device.0 x.low (x.child ∙ ap (λ (k : ℕ). k + 1) e) in
    let c = r.child place (omega (arith, n)) u in
    let a = c.once hub port x.device.0 x.low x.child in
    let b = c.once hub' port' y.device.0 y.low y.child in
    (a.0 ∙ sym b.0, a.1 ∙ sym b.1)

pub demand3 : Demand3
unfolding root_attach
demand3 s h r =
    let k = kept r in (
      record {
        sound = k.sound;
        story = λ p c. (k.place p c.device.0).story c.status;
        single = single k.sound;
        belongs = k.belongs;
      },
      λ speed lent e b. root_attach_requests lent b speed,
    )

-- ---- what the list's calls leave is what the entry points leave

pub attaches_is : (speed : ℕ) (lent : Lent) → entry (attaches speed) lent ≡ root_attach speed lent
unfolding root_attach
attaches_is speed lent = refl

pub scans_is : (hub : ℕ) (lent : Lent) → entry (scans hub) lent ≡ scan hub lent
unfolding scan
scans_is hub lent = refl

pub checks_is : (hub port : ℕ) (lent : Lent) → entry (checks hub port) lent ≡ port_check hub port lent
unfolding port_check
checks_is hub port lent = refl

-- where a call that is accepted ends in the world w, it leaves the store and the log of w, and reports its count
pub leaves_ended : (c : Call) (lent : Lent) {w : World} → verdict c lent ≡ accepted → Ended (program c (start lent)) w
    → ((entry c lent).new ≡ w.store) × ((entry c lent).log ≡ w.log) × ((entry c lent).requests ≡ w.at.requests)
unfolding call
leaves_ended c lent {w} v e = rw (v, left_ended e) (refl, refl, refl)
