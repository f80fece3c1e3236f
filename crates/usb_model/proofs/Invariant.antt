-- What holds between store and history at every place, but for places that are being attached; and that it is kept. Assumes nothing.
use mathlib.Core.Path.{◌≡◌, refl, sym, ap, ◌∙◌, subst}
use mathlib.Core.Bool.{Bool, false}
use mathlib.Core.Logic.{◌≢◌}
use mathlib.Core.List.{List}
use Prim.Native.Nat.{ℕ, zero, suc, ◌+◌, ◌<◌}
use native.Mathlib.Omega.{arith}
use native.Mathlib.Decide.{ℕ_discrete}
use Rattle.usb_store.specs.Layout.{used_field, number_field, status_field, hub_field, configuration_value_field, child_field}
use Rattle.usb_store.specs.Access.{byte_at}
use Rattle.usb_store.specs.Values.{configured_status}
use Rattle.usb_sound.specs.Sound.{IsUsed}
use Rattle.usb_model.specs.History.{Event, sets_address, configures, count}
use Rattle.usb_model.specs.Demand3.{Once, ago, NoResetSince, EndedWell, ShownConfigured, Stands, Addressed, ConfiguredWith, Anything, Story, root, child}
use Rattle.usb_model.proofs.Triples.{State, store}
use Rattle.usb_model.proofs.Quiet.{Key, used, number, status, hub, value, Keys, Adds, none, more, Quiet}
use Rattle.usb_model.proofs.Quiet as Quiet
use Rattle.usb_model.proofs.Parts.{Calm}

-- how often the address of a place was acknowledged, by its status: not before Addressed
abbrev pub expected : ℕ → ℕ
expected zero = 0
expected (suc zero) = 0
expected (suc (suc zero)) = 0
expected (suc (suc (suc n))) = 1

pub record PlaceInv (s : List ℕ) (h : List Event) (p : ℕ) : Type 0 where
  pub fresh : byte_at s p used_field ≡ 0 → byte_at s p status_field ≡ 0
  pub plain : byte_at s p hub_field ≢ 0 → byte_at s p used_field ≡ 1
  pub once : count (sets_address (p + 1)) h ≡ expected (byte_at s p status_field)
  pub numbered : byte_at s p hub_field ≢ 0 → byte_at s p number_field ≡ p + 1
  pub story : byte_at s p status_field ≡ configured_status → Story s p h

-- n is not the address of a place of X
abbrev pub NotOf : (ℕ → Type 0) → ℕ → Type 0
NotOf X n = (q : ℕ) → n ≡ q + 1 → X q → ⊥

-- the invariant but for the places of X
pub record But {h₀ : List Event} (X : ℕ → Type 0) (s : State h₀) : Type 0 where
  pub place : (p : ℕ) → p < 32 → (X p → ⊥) → PlaceInv (store s) s.past p
  pub belongs : (n : ℕ) → NotOf X n → 0 < count (configures n) s.past → (p : ℕ) × (n ≡ p + 1) × ShownConfigured (store s) p

abbrev pub NoPlace : ℕ → Type 0
NoPlace q = ⊥

abbrev pub Inv : {h₀ : List Event} → State h₀ → Type 0
Inv s = But NoPlace s

-- ---- what a longer history keeps

pub once_adds : {E : Event → Type 0} {P : List Event → Type 0} {h h' : List Event} → Adds E h h' → Once P h → Once P h'
once_adds none o = o
once_adds (more e a) o = ago (once_adds a o)

pub count_adds : {E : Event → Type 0} (f : Event → Bool) {h h' : List Event} → ((e : Event) → E e → f e ≡ false) → Adds E h h'
    → count f h' ≡ count f h
unfolding count
count_adds f k none = refl
count_adds f k (more {e} {h'} v a) = rw (k e v) (omega (arith, count_adds f k a))

-- ---- a place whose own bytes stay

pub data Own : ℕ → Type 0 where
  own_used : Own used_field
  own_number : Own number_field
  own_status : Own status_field
  own_hub : Own hub_field
  own_value : Own configuration_value_field

pub own_key : {g : ℕ} → Own g → Key g
own_key own_used = used
own_key own_number = number
own_key own_status = status
own_key own_hub = hub
own_key own_value = value

pub own_low : {g : ℕ} → Own g → g < 43
own_low own_used = omega arith
own_low own_number = omega arith
own_low own_status = omega arith
own_low own_hub = omega arith
own_low own_value = omega arith

module _ {s t : List ℕ} {h h' : List Event} (q : ℕ) (stands : (k j : ℕ) → Stands s k j q → Stands t k j q)
    (counted : count (sets_address (q + 1)) h' ≡ count (sets_address (q + 1)) h) (longer : (P : List Event → Type 0) → Once P h → Once P h') where
  -- its story stays where its value does and it still stands at its port, and the history only grew, with no SetAddress to it
  pub story_map : byte_at t q configuration_value_field ≡ byte_at s q configuration_value_field → Story s q h → Story t q h'
  story_map v (root e o) = root e (subst (λ (b : ℕ). Once (ConfiguredWith q b Anything) h') (sym v) (longer _ o))
  story_map v (child {hub} {port} x o c) =
      child (stands hub port x)
      (subst (λ (b : ℕ). Once (ConfiguredWith q b (Once (Addressed q (NoResetSince (EndedWell (hub + 1) port))))) h') (sym v) (longer _ o))
      (counted ∙ c)

  -- so does its invariant where its own bytes do
  pub place_map : ((g : ℕ) → Own g → byte_at t q g ≡ byte_at s q g) → PlaceInv s h q → PlaceInv t h' q
  place_map same i =
      let u = same used_field own_used in
      let st = same status_field own_status in
      let hb = same hub_field own_hub in
      record {
        fresh = λ e. st ∙ i.fresh (sym u ∙ e);
        plain = λ d. u ∙ i.plain (λ z. d (hb ∙ z));
        once = counted ∙ i.once ∙ ap expected (sym st);
        numbered = λ d. same number_field own_number ∙ i.numbered (λ z. d (hb ∙ z));
        story = λ e. story_map (same configuration_value_field own_value) (i.story (sym st ∙ e));
      }

-- ---- steps that leave the places of X aside

-- the bytes that the other places depend on
pub data Held (X : ℕ → Type 0) : ℕ → ℕ → Type 0 where
  other : {q g : ℕ} → (X q → ⊥) → Key g → Held X q g
  its_use : {q : ℕ} → Held X q used_field
  its_child : {q : ℕ} (j : ℕ) → j < 10 → Held X q (child_field j)

-- an event that sets or configures no address of another place
pub record Aside (X : ℕ → Type 0) (e : Event) : Type 0 where
  pub address : (n : ℕ) → NotOf X n → sets_address n e ≡ false
  pub configuration : (n : ℕ) → NotOf X n → configures n e ≡ false

pub held_key : {X : ℕ → Type 0} {q g : ℕ} → Held X q g → Key g
held_key (other n k) = k
held_key its_use = used
held_key (its_child j l) = Quiet.child j l

pub calm_aside : {X : ℕ → Type 0} {e : Event} → Calm e → Aside X e
calm_aside c = record { address = λ n _. c.address n; configuration = λ n _. c.configuration n }

pub calm_held : {h₀ : List Event} {X : ℕ → Type 0} {s t : State h₀} → Quiet Keys Calm s t → Quiet (Held X) (Aside X) s t
calm_held r = record { keep = λ q g k. r.keep q g (held_key k); past = Quiet.adds_map (λ e c. calm_aside c) r.past }

module _ {h₀ : List Event} {X : ℕ → Type 0} {s t : State h₀} (r : Quiet (Held X) (Aside X) s t) where
  device_kept : {q : ℕ} → IsUsed (store s) q → IsUsed (store t) q
  device_kept {q} d = (d.0, r.keep q used_field its_use ∙ d.1)

  pub stands_kept : {h j q : ℕ} → Stands (store s) h j q → Stands (store t) h j q
  stands_kept {h} {j} x = record { device = device_kept x.device; low = x.low; child = r.keep h (child_field j) (its_child j x.low) ∙ x.child }

  count_kept : (n : ℕ) → NotOf X n → count (sets_address n) t.past ≡ count (sets_address n) s.past
  count_kept n d = count_adds (sets_address n) (λ e c. c.address n d) r.past

  -- n is the address of a place that is not aside
  not_of : {q : ℕ} → (X q → ⊥) → NotOf X (q + 1)
  not_of {q} n p e x = n (subst X (let f : p ≡ q = omega arith in f) x)

  pub place_kept : {q : ℕ} → (X q → ⊥) → PlaceInv (store s) s.past q → PlaceInv (store t) t.past q
  place_kept {q} n i =
      place_map q (λ h j. stands_kept) (count_kept (q + 1) (not_of n)) (λ P. once_adds r.past) (λ g o. r.keep q g (other n (own_key o)))
      i

  pub but_kept : But X s → But X t
  but_kept i = record {
    place = λ p l n. place_kept n (i.place p l n);
    belongs = λ n d l.
        let same : count (configures n) t.past ≡ count (configures n) s.past = count_adds (configures n) (λ e c. c.configuration n d) r.past in
        let b = i.belongs n d (subst (λ (k : ℕ). 0 < k) same l) in
        let out : X b.0 → ⊥ = λ x. d b.0 b.1 x in
        (b.0, b.1, record { device = device_kept b.2.device; status = r.keep b.0 status_field (other out status) ∙ b.2.status });
  }

-- ---- one place is taken aside, and comes back

abbrev pub Only : ℕ → ℕ → Type 0
Only x q = q ≡ x

pub aside : {h₀ : List Event} {s : State h₀} (x : ℕ) → Inv s → But (Only x) s
aside x i = record { place = λ p l n. i.place p l (λ z. z); belongs = λ n d l. i.belongs n (λ q e z. z) l }

pub back : {h₀ : List Event} {s : State h₀} (x : ℕ) → But (Only x) s → PlaceInv (store s) s.past x
    → (0 < count (configures (x + 1)) s.past → ShownConfigured (store s) x) → Inv s
back {h₀} {s} x i p b = record { place = λ q l _. at_place q l (ℕ_discrete q x); belongs = λ n _ l. at_address n l (ℕ_discrete n (x + 1)) }
  where
    at_place : (q : ℕ) → q < 32 → Dec (q ≡ x) → PlaceInv (store s) s.past q
    at_place q l (yes e) = subst (PlaceInv (store s) s.past) (sym e) p
    at_place q l (no d) = i.place q l d

    at_address : (n : ℕ) → 0 < count (configures n) s.past → Dec (n ≡ x + 1) → (q : ℕ) × (n ≡ q + 1) × ShownConfigured (store s) q
    at_address n l (yes e) = (x, e, b (subst (λ (k : ℕ). 0 < count (configures k) s.past) e l))
    at_address n l (no d) = i.belongs n (λ q e z. d (e ∙ ap (λ (k : ℕ). k + 1) z)) l
