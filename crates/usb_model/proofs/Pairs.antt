-- `Pairs u n m m' Q`: from every world that u reaches with its first n places used, m and m' do the same, and they walk. This carries the
-- functions that call each other: one of them run with two attaches that do the same does the same. Assumes nothing.
use mathlib.Core.Path.{◌≡◌, refl, ap, subst}
use mathlib.Core.Bool.{Bool, true, false}
use Prim.Native.Nat.{ℕ, zero, suc, ◌+◌, ◌≤◌, ◌<◌}
use native.Mathlib.Omega.{arith}
use borrow.Author.Tests.{eqb-false}
use lib.Dec.{eqb}
use Rattle.usb_store.specs.Layout.{child_field}
use Rattle.usb_store.specs.Access.{byte_at}
use Rattle.usb_device.specs.Device.{first_unused, free_places}
use Rattle.usb_model.specs.Programs.{Ran, on, ◌>>=◌, ◌>>◌, look, caught, attempt, ignore, when, each}
use Rattle.usb_model.specs.World.{World, M, get}
use Rattle.usb_model.specs.Usbd.{usb_allocate_device}
use Rattle.usb_model.specs.Kept.{Above}
use Rattle.usb_model.proofs.Ways.{Allocates, bus_full, allocated, allocate_ends}
use Rattle.usb_model.proofs.Keeps.{Any, Left, is-done, is_failed, is_halted, left_weaker, caught_left, skips}
use Rattle.usb_model.proofs.Stores.{new_follows, first_new, free_new, store_onward, store_good}
use Rattle.usb_model.proofs.Onward.{onward_same, onward_join}
use Rattle.usb_model.proofs.Walks.{Reach, Walks, reach_here, reach_less}

-- how two programs that do the same end
pub record Same {A : Type 0} (P : World → Type 0) (Q : A → Type 0) (r r' : Ran World A) : Type 0 where
  pub equal : r ≡ r'
  pub walk : Left P Q r

pub record Pairs (u : World) (n : ℕ) {A : Type 0} (m m' : M A) (Q : A → Type 0) : Type 0 where
  pub run : (w : World) → Reach u n w → Same (Reach u n) Q (m w) (m' w)

abbrev pub Alike : World → ℕ → {A : Type 0} → M A → M A → Type 0
Alike u n m m' = Pairs u n m m' Any

weaker : {A : Type 0} {P P' : World → Type 0} {Q : A → Type 0} {r r' : Ran World A} → ((w : World) → P w → P' w) → Same P Q r r'
    → Same P' Q r r'
weaker f s = record { equal = s.equal; walk = left_weaker f s.walk }

module _ {u : World} {n : ℕ} where
  -- one program
  pub one : {A : Type 0} {Q : A → Type 0} {m : M A} → Walks u n m Q → Pairs u n m m Q
  one h = record { run = λ w x. record { equal = refl; walk = h.run w x } }

  same_on : {A B : Type 0} {Q : A → Type 0} {Q' : B → Type 0} {r : Ran World A} {f f' : A → M B} → Left (Reach u n) Q r
      → ((a : A) → Q a → Pairs u n (f a) (f' a) Q') → Same (Reach u n) Q' (on r f) (on r f')
  same_on (is-done {a} {s} x q) h = (h a q).run s x
  same_on (is_failed x) h = record { equal = refl; walk = is_failed x }
  same_on (is_halted x) h = record { equal = refl; walk = is_halted x }

  then_same : {A B : Type 0} {Q : A → Type 0} {Q' : B → Type 0} {r r' : Ran World A} {f f' : A → M B} → Same (Reach u n) Q r r'
      → ((a : A) → Q a → Pairs u n (f a) (f' a) Q') → Same (Reach u n) Q' (on r f) (on r' f')
  then_same {Q'} {r} {f} {f'} s h = subst (λ x. Same (Reach u n) Q' (on r f) (on x f')) s.equal (same_on s.walk h)

  pub bind₂ : {A B : Type 0} {Q : A → Type 0} {Q' : B → Type 0} {m m' : M A} {f f' : A → M B} → Pairs u n m m' Q
      → ((a : A) → Q a → Pairs u n (f a) (f' a) Q') → Pairs u n (m >>= f) (m' >>= f') Q'
  unfolding ◌>>=◌
  bind₂ p h = record { run = λ w x. then_same (p.run w x) h }

  pub next₂ : {A B : Type 0} {Q : A → Type 0} {Q' : B → Type 0} {m m' : M A} {f f' : M B} → Pairs u n m m' Q → Pairs u n f f' Q'
      → Pairs u n (m >> f) (m' >> f') Q'
  unfolding ◌>>◌
  next₂ p h = record { run = λ w x. then_same (p.run w x) (λ _ _. h) }

  -- first a program that does not attach
  pub bind₁ : {A B : Type 0} {Q : A → Type 0} {Q' : B → Type 0} {m : M A} {f f' : A → M B} → Walks u n m Q
      → ((a : A) → Q a → Pairs u n (f a) (f' a) Q') → Pairs u n (m >>= f) (m >>= f') Q'
  bind₁ h f = bind₂ (one h) f

  pub next₁ : {A B : Type 0} {Q : A → Type 0} {Q' : B → Type 0} {m : M A} {f f' : M B} → Walks u n m Q → Pairs u n f f' Q'
      → Pairs u n (m >> f) (m >> f') Q'
  next₁ h f = next₂ (one h) f

  pub attempts₂ : {m m' : M (Unit {0})} → Alike u n m m' → Alike u n (attempt m) (attempt m')
  unfolding attempt
  attempts₂ p = record { run = λ w x. record { equal = ap caught (p.run w x).equal; walk = caught_left (p.run w x).walk } }

  pub ignores₂ : {m m' : M (Unit {0})} → Alike u n m m' → Alike u n (ignore m) (ignore m')
  unfolding ignore
  ignores₂ p = next₂ (attempts₂ p) (one skips)

  pub whens₂ : (b : Bool) {m m' : M (Unit {0})} → (b ≡ true → Alike u n m m') → Alike u n (when b m) (when b m')
  unfolding when
  whens₂ true p = p refl
  whens₂ false p = one skips

  pub eachs₂ : (count from : ℕ) {body body' : ℕ → M (Unit {0})} → ((i : ℕ) → i < from + count → Alike u n (body i) (body' i))
      → Alike u n (each count from body) (each count from body')
  unfolding each
  eachs₂ zero from h = one skips
  eachs₂ (suc count) from h = next₂ (h from (omega arith)) (eachs₂ count (from + 1) (λ i l. h i (omega arith)))

  -- the child at a port, if there is one: it stands above its hub, and the places up to it are known to be used
  pub child₂ : {B : Type 0} {Q : B → Type 0} {f f' : ℕ → M B} (hub port : ℕ) → port < 10
      → ((child m : ℕ) → n ≤ m → (eqb child 0 ≡ false → (hub + 1 < child) × (child ≤ m)) → Pairs u m (f child) (f' child) Q)
      → Pairs u n (get hub (child_field port) >>= f) (get hub (child_field port) >>= f') Q
  unfolding get look ◌>>=◌
  child₂ hub port h f = record {
    run = λ w x.
        let stands : eqb (byte_at w.store hub (child_field port)) 0 ≡ false → Above w.store hub port =
        λ e. x.good.child hub port h (eqb-false (byte_at w.store hub (child_field port)) 0 e) in
        weaker (λ v. reach_less (onward_same u) x.used)
        ((f (byte_at w.store hub (child_field port)) (first_unused w.store) x.used (λ e. ((stands e).above, (stands e).used))).run w
        (record { onward = x.onward; good = x.good; used = omega arith }));
  }

  -- a place is allocated: from then on it is known to be used, and one place less is free
  pub allocate₂ : {B : Type 0} {Q : B → Type 0} {f f' : ℕ → M B}
      → ((v : World) (place : ℕ) → free_places v.store < free_places u.store → n ≤ place → place < 32 → Pairs v (place + 1) (f place) (f' place) Q)
      → Pairs u n (usb_allocate_device >>= f) (usb_allocate_device >>= f') Q
  unfolding ◌>>=◌
  allocate₂ {B} {Q} {f} {f'} h = record { run = λ w x. go w x (allocate_ends w) }
    where
      go : (w : World) → Reach u n w → {r : Ran World ℕ} → Allocates w r → Same (Reach u n) Q (on r f) (on r f')
      go w x bus_full = record { equal = refl; walk = is_failed x }
      go w x (allocated {p} e inside) =
          let s = new_follows x.good p e inside in
          let o = store_onward _ s in
          weaker (λ v. reach_less (onward_join x.onward o) (omega (arith, e, x.used)))
          ((h _ p (omega (arith, free_new x.good p e inside, x.onward.free)) (omega (arith, e, x.used)) inside).run _
          (reach_here _ (store_good _ s x.good) (first_new x.good p e inside)))

-- where more is known, of a program that does so from every world
pub known : {u : World} {n m : ℕ} {A : Type 0} {Q : A → Type 0} {p p' : M A} → n ≤ m → ((v : World) → Pairs v n p p' Q) → Pairs u m p p' Q
known {u} {n} {m} h p = record {
  run = λ w x. weaker
      (λ v y. record { onward = onward_join x.onward y.onward; good = y.good; used = omega (arith, x.used, y.onward.first) })
      ((p w).run w (reach_here w x.good (omega (arith, x.used))));
}
