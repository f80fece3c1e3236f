-- A place in the middle of its attach, and what each step of the attach does to it. Assumes nothing.
use mathlib.Core.Path.{◌≡◌, sym, ap, ◌∙◌, subst}
use mathlib.Core.Bool.{Bool, true, false}
use mathlib.Core.Logic.{◌⊎◌, inl, inr, ◌≢◌}
use mathlib.Core.List.{List, ◌∷◌}
use Prim.Native.Nat.{ℕ, suc, ◌+◌, ◌≤◌, ◌<◌}
use native.Mathlib.Omega.{arith}
use lib.ListN.{length}
use Rattle.usb_store.specs.Layout.{used_field, number_field, status_field, hub_field, configuration_value_field, child_field}
use Rattle.usb_store.specs.Access.{byte_at, with_bytes}
use Rattle.usb_store.specs.Values.{configured_status}
use Rattle.usb_device.specs.Device.{first_unused}
use Rattle.usb_store.proofs.Cells.{byte_beside}
use Rattle.usb_model.specs.History.{Event, sets_address, configures, count}
use Rattle.usb_model.specs.Demand3.{Stands}
use Rattle.usb_model.proofs.Stores.{Follows, first_kept}
use Rattle.usb_model.proofs.Triples.{State, store, stored}
use Rattle.usb_model.proofs.Quiet.{Key, used, number, status, hub, key_low, Keys, Adds, none, adds_one, Quiet}
use Rattle.usb_model.proofs.Quiet as Quiet
use Rattle.usb_model.proofs.Parts.{calm_of_still, Calm, Still}
use Rattle.usb_model.proofs.Invariant.{expected, But, Inv, count_adds, Held, other, its_use, its_child, Aside, calm_held, stands_kept, but_kept, Only, back}

-- where a place that is being attached comes from: it is the root hub, or it stands at a port of which R holds
pub data Origin (s : List ℕ) (x : ℕ) (R : ℕ → ℕ → List Event → Type 0) (h : List Event) : Type 0 where
  is_root : x ≡ 0 → Origin s x R h
  is_child : {hub port : ℕ} → Stands s hub port x → R hub port h → Origin s x R h

pub origin_map : {s s' : List ℕ} {x : ℕ} {R R' : ℕ → ℕ → List Event → Type 0} {h h' : List Event}
    → ((hub port : ℕ) → Stands s hub port x → Stands s' hub port x) → ((hub port : ℕ) → R hub port h → R' hub port h') → Origin s x R h
    → Origin s' x R' h'
origin_map f g (is_root e) = is_root e
origin_map f g (is_child {hub} {port} t r) = is_child (f hub port t) (g hub port r)

-- the keys, but for the configuration value of x
pub data Spared (x q g : ℕ) : Type 0 where
  spared : Key g → (q ≡ x → g ≢ configuration_value_field) → Spared x q g

held_spared : {x q g : ℕ} → Held (Only x) q g → Spared x q g
held_spared (other n k) = spared k (λ e. absurd (n e))
held_spared its_use = spared used (λ _. omega arith)
held_spared (its_child j l) = spared (Quiet.child j l) (λ _. omega arith)

pub spared_key : {x q g : ℕ} → Spared x q g → Key g
spared_key (spared k n) = k

abbrev pub Stable : (ℕ → ℕ → List Event → Type 0) → Type 0
Stable R = (hub port : ℕ) (h h' : List Event) → Adds Still h h' → R hub port h → R hub port h'

-- where no place is freed, the first unused one comes no earlier
pub use_kept : (s t : List ℕ) → ((q : ℕ) → byte_at t q used_field ≡ byte_at s q used_field) → first_unused s ≤ first_unused t
use_kept s t e = first_kept s t (λ q n z. n (sym (e q) ∙ z))

module _ {h₀ : List Event} where
  -- places that are known to be hubs; the places up to them are used
  pub record Hubs (H : ℕ → Type 0) (s : State h₀) : Type 0 where
    pub hubs : (q : ℕ) → H q → byte_at (store s) q hub_field ≢ 0
    pub first : (q : ℕ) → H q → q < first_unused (store s)

  -- the place x: its status and number, how often its address was acknowledged, and a SetConfiguration to it
  pub record Mid (H : ℕ → Type 0) (x : ℕ) (R : ℕ → ℕ → List Event → Type 0) (st n c d : ℕ) (s : State h₀) : Type 0 where
    pub but : But (Only x) s
    pub used : byte_at (store s) x used_field ≡ 1
    pub status : byte_at (store s) x status_field ≡ st
    pub no-hub : byte_at (store s) x hub_field ≡ 0
    pub number : byte_at (store s) x number_field ≡ n
    pub addressings : count (sets_address (x + 1)) s.past ≡ c
    pub configurings : count (configures (x + 1)) s.past ≡ d
    pub origin : Origin (store s) x R s.past
    pub known : Hubs H s
    pub first : x + 1 ≤ first_unused (store s)

  -- the invariant, with the hubs that are known
  pub record Fine (H : ℕ → Type 0) (s : State h₀) : Type 0 where
    pub inv : Inv s
    pub known : Hubs H s

  pub hubs_kept : {H : ℕ → Type 0} {s t : State h₀} → ((q : ℕ) → H q → byte_at (store t) q hub_field ≡ byte_at (store s) q hub_field)
      → first_unused (store s) ≤ first_unused (store t) → Hubs H s → Hubs H t
  hubs_kept e f k = record { hubs = λ q h z. k.hubs q h (sym (e q h) ∙ z); first = λ q h. omega (arith, f, k.first q h) }

  pub fine_calm : {H : ℕ → Type 0} {s t : State h₀} → Quiet Keys Calm s t → Fine H s → Fine H t
  fine_calm {H} {s} {t} r f = record {
    inv = but_kept (calm_held r) f.inv;
    known = hubs_kept (λ q _. r.keep q hub_field hub) (use_kept (store s) (store t) (λ q. r.keep q used_field Quiet.used)) f.known;
  }

  module _ {H : ℕ → Type 0} (x : ℕ) where
    -- a step that keeps every key and adds still events
    pub mid_still : {R : ℕ → ℕ → List Event → Type 0} {st n c d : ℕ} {s t : State h₀} → Stable R → Quiet Keys Still s t
        → Mid H x R st n c d s → Mid H x R st n c d t
    mid_still {R} {s} {t} k r m =
        let calm = calm_of_still r in
        let held : Quiet (Held (Only x)) (Aside (Only x)) s t = calm_held calm in
        record {
          but = but_kept held m.but;
          used = r.keep x used_field Quiet.used ∙ m.used;
          status = r.keep x status_field Quiet.status ∙ m.status;
          no-hub = r.keep x hub_field hub ∙ m.no-hub;
          number = r.keep x number_field Quiet.number ∙ m.number;
          addressings = count_adds (sets_address (x + 1)) (λ e c. c.calm.address (x + 1)) r.past ∙ m.addressings;
          configurings = count_adds (configures (x + 1)) (λ e c. c.calm.configuration (x + 1)) r.past ∙ m.configurings;
          origin = origin_map (λ h j. stands_kept held) (λ h j. k h j s.past t.past r.past) m.origin;
          known = hubs_kept (λ q _. r.keep q hub_field hub) (use_kept (store s) (store t) (λ q. r.keep q used_field Quiet.used)) m.known;
          first = omega (arith, m.first, use_kept (store s) (store t) (λ q. r.keep q used_field Quiet.used));
        }

    -- a write to the place itself, with what it leaves of its bytes
    pub mid_write : {R : ℕ → ℕ → List Event → Type 0} {st n c d : ℕ} (st' n' : ℕ) {s : State h₀} (f : ℕ) (vs : List ℕ)
        (w : Follows (store s) (with_bytes (store s) x f vs))
        → 0 < f → f + length vs ≤ 96 → (f + length vs ≤ hub_field) ⊎ (hub_field < f)
        → byte_at (with_bytes (store s) x f vs) x status_field ≡ st' → byte_at (with_bytes (store s) x f vs) x number_field ≡ n'
        → Mid H x R st n c d s → Mid H x R st' n' c d (stored s (with_bytes (store s) x f vs) w)
    mid_write {R} {st} {n} {c} {d} st' n' {s} f vs w past low apart new-status new-number m =
        record {
          but = but_kept held m.but;
          used = held.keep x used_field its_use ∙ m.used;
          status = new-status;
          no-hub = at_hub x ∙ m.no-hub;
          number = new-number;
          addressings = m.addressings;
          configurings = m.configurings;
          origin = origin_map (λ h j. stands_kept held) (λ h j r. r) m.origin;
          known = hubs_kept (λ q _. at_hub q) w.first m.known;
          first = omega (arith, m.first, w.first);
        }
      where
        keep : (q g : ℕ) → Held (Only x) q g → byte_at (with_bytes (store s) x f vs) q g ≡ byte_at (store s) q g
        keep q g (other n k) = byte_beside (store s) x f vs q g (omega arith) (key_low k) (λ e. absurd (n e))
        keep q g its_use = byte_beside (store s) x f vs q used_field (omega arith) (omega arith) (λ _. inr past)
        keep q g (its_child j l) = byte_beside (store s) x f vs q (child_field j) (omega arith) (omega arith) (λ _. inl (omega arith))

        at_hub : (q : ℕ) → byte_at (with_bytes (store s) x f vs) q hub_field ≡ byte_at (store s) q hub_field
        at_hub q = byte_beside (store s) x f vs q hub_field (omega arith) (omega arith) (λ _. apart)

        held : Quiet (Held (Only x)) (Aside (Only x)) s (stored s (with_bytes (store s) x f vs) w)
        held = record { keep = keep; past = none }

    -- one event that concerns no other place
    pub mid_event : {R R' : ℕ → ℕ → List Event → Type 0} {st n c d c' d' : ℕ} {s t : State h₀} (e : Event) → Aside (Only x) e
        → ((q g : ℕ) → Spared x q g → byte_at (store t) q g ≡ byte_at (store s) q g) → t.past ≡ e ∷ s.past
        → count (sets_address (x + 1)) (e ∷ s.past) ≡ c' → count (configures (x + 1)) (e ∷ s.past) ≡ d'
        → ((h j : ℕ) → R h j s.past → R' h j (e ∷ s.past))
        → Mid H x R st n c d s → Mid H x R' st n c' d' t
    mid_event {R} {R'} {s = s} {t = t} e a keep past y z k m =
        let held : Quiet (Held (Only x)) (Aside (Only x)) s t = record { keep = λ q g l. keep q g (held_spared l); past = adds_one a past } in
        record {
          but = but_kept held m.but;
          used = keep x used_field (spared Quiet.used (λ _. omega arith)) ∙ m.used;
          status = keep x status_field (spared Quiet.status (λ _. omega arith)) ∙ m.status;
          no-hub = keep x hub_field (spared hub (λ _. omega arith)) ∙ m.no-hub;
          number = keep x number_field (spared Quiet.number (λ _. omega arith)) ∙ m.number;
          addressings = ap (count (sets_address (x + 1))) past ∙ y;
          configurings = ap (count (configures (x + 1))) past ∙ z;
          origin = origin_map (λ h j. stands_kept held) (λ h j r. subst (R' h j) (sym past) (k h j r)) m.origin;
          known =
              hubs_kept (λ q _. keep q hub_field (spared hub (λ _. omega arith)))
              (use_kept (store s) (store t) (λ q. keep q used_field (spared Quiet.used (λ _. omega arith)))) m.known;
          first = omega (arith, m.first, use_kept (store s) (store t) (λ q. keep q used_field (spared Quiet.used (λ _. omega arith))));
        }

    -- a place that is not configured is in order again
    pub mid_fine : {R : ℕ → ℕ → List Event → Type 0} {st n c : ℕ} {s : State h₀} → st ≢ configured_status → c ≡ expected st → Mid H x R st n c 0 s
        → Fine H s
    mid_fine {s = s} a e m = record {
      inv = back x m.but (record {
        fresh = λ z. absurd (omega (arith, z, m.used));
        plain = λ _. m.used;
        once = m.addressings ∙ e ∙ ap expected (sym m.status);
        numbered = λ z. absurd (z m.no-hub);
        story = λ z. absurd (a (sym m.status ∙ z));
      }) (λ l. absurd (omega (arith, m.configurings)));
      known = m.known;
    }

-- ---- counts

pub count_hit : (f : Event → Bool) (e : Event) (h : List Event) → f e ≡ true → count f (e ∷ h) ≡ suc (count f h)
unfolding count
count_hit f e h x = rw x (omega arith)

pub count_miss : (f : Event → Bool) (e : Event) (h : List Event) → f e ≡ false → count f (e ∷ h) ≡ count f h
unfolding count
count_miss f e h x = rw x (omega arith)
