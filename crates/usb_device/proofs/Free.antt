-- The places that are not used: which is the first, and how many there are. Assumes nothing.
use mathlib.Core.Path.{◌≡◌, refl, ap, ◌∙◌}
use mathlib.Core.Bool.{Bool, true, false, cond, not}
use mathlib.Core.Logic.{inr, ◌≢◌}
use mathlib.Core.List.{List}
use Prim.Native.Nat.{ℕ, zero, suc, ◌+◌, ◌≤◌, ◌<◌}
use native.Mathlib.Nat.{zero-add}
use native.Mathlib.Omega.{arith}
use native.Mathlib.Decide.{ℕ_discrete, dec_lt}
use borrow.Author.Tests.{eqb-true, eqb-false, lt-ltb}
use lib.Dec.{eqb, ltb}
use Rattle.std.specs.Prelude.{Option, Some, None, MatchOption}
use Rattle.std.specs.Option.{unwrap_or}
use lib.ListN.{length, get_or}
use Rattle.usb_store.specs.Layout.{used_field}
use Rattle.usb_store.specs.Access.{byte_at, with_bytes}
use Rattle.usb_store.proofs.Fields.{bytes_same, byte_of_bytes}
use Rattle.usb_store.proofs.Cells.{byte_beside, other_place}
use Rattle.usb_device.specs.Device.{free_place, places_below, new_device, first_unused, first_unused_from, free_places}
use Rattle.usb_device.proofs.NewDevice.{length_new}

-- ---- the first

first_from : (s : List ℕ) (n p : ℕ) → first_unused_from s n p < p + n → byte_at s (first_unused_from s n p) used_field ≡ 0
unfolding first_unused_from
first_from s zero p h = absurd (omega arith)
first_from s (suc n) p h = go (first_from s n (p + 1)) (eqb (byte_at s p used_field) 0) refl h
  where
    go : (first_unused_from s n (p + 1) < p + 1 + n → byte_at s (first_unused_from s n (p + 1)) used_field ≡ 0) → (b : Bool)
        → eqb (byte_at s p used_field) 0 ≡ b → cond b p (first_unused_from s n (p + 1)) < p + suc n
        → byte_at s (cond b p (first_unused_from s n (p + 1))) used_field ≡ 0
    go rest true e l = eqb-true (byte_at s p used_field) 0 e
    go rest false e l = rest (omega arith)

within : (s : List ℕ) (n p : ℕ) → first_unused_from s n p ≤ p + n
unfolding first_unused_from
within s zero p = omega arith
within s (suc n) p = go (within s n (p + 1)) (eqb (byte_at s p used_field) 0)
  where
    go : first_unused_from s n (p + 1) ≤ p + 1 + n → (b : Bool) → cond b p (first_unused_from s n (p + 1)) ≤ p + suc n
    go rest true = omega arith
    go rest false = omega arith

before : (s : List ℕ) (n p q : ℕ) → p ≤ q → q < first_unused_from s n p → byte_at s q used_field ≢ 0
unfolding first_unused_from
before s zero p q h l = absurd (omega arith)
before s (suc n) p q h l = go (before s n (p + 1) q) (eqb (byte_at s p used_field) 0) refl (ℕ_discrete p q) l
  where
    go : (p + 1 ≤ q → q < first_unused_from s n (p + 1) → byte_at s q used_field ≢ 0) → (b : Bool) → eqb (byte_at s p used_field) 0 ≡ b → Dec (p ≡ q)
        → q < cond b p (first_unused_from s n (p + 1)) → byte_at s q used_field ≢ 0
    go rest true e d m = absurd (omega arith)
    go rest false e (yes same) m = λ z. eqb-false (byte_at s p used_field) 0 e (ap (λ (k : ℕ). byte_at s k used_field) same ∙ z)
    go rest false e (no other) m = rest (omega arith) m

pub first_most : (s : List ℕ) → first_unused s ≤ 32
first_most s = within s 32 0

-- the places before the first unused one are not unused
pub first_before : (s : List ℕ) (p : ℕ) → p < first_unused s → byte_at s p used_field ≢ 0
first_before s p h = before s 32 0 p (omega arith) h

-- the first unused place is unused
pub first-unused : (s : List ℕ) → first_unused s < 32 → byte_at s (first_unused s) used_field ≡ 0
first-unused s h = first_from s 32 0 (omega arith)

-- where the first n places are used, the first unused one comes after them
pub first_least : (s : List ℕ) (n : ℕ) → n ≤ 32 → ((p : ℕ) → p < n → byte_at s p used_field ≢ 0) → n ≤ first_unused s
first_least s n h used = go (dec_lt (first_unused s) n)
  where
    go : Dec (first_unused s < n) → n ≤ first_unused s
    go (yes l) = absurd (used (first_unused s) l (first-unused s (omega arith)))
    go (no l) = omega arith

-- a search that tells an unused place with none before it, or that no place is unused, tells the first
pub first_told : (s : List ℕ) (r : Option ℕ)
    → MatchOption r ((k : ℕ) → 0 ≤ k → k < 32 → byte_at s k used_field ≢ 0)
    (λ i. (0 ≤ i) × (i < 32) × (byte_at s i used_field ≡ 0) × ((k : ℕ) → 0 ≤ k → k < i → byte_at s k used_field ≢ 0)) → r ≡ free_place s
first_told s None none =
    let full : first_unused s ≡ 32 = omega (arith, first_most s, first_least s 32 (omega arith) (λ p h. none p (omega arith) h)) in
    rw full refl
first_told s (Some i) (_, inside, unused, rest) =
    let least : i ≤ first_unused s = first_least s i (omega arith) (λ p h. rest p (omega arith) h) in
    let same : first_unused s ≡ i = go (dec_lt i (first_unused s)) least in
    rw (same, test inside) refl
  where
    go : Dec (i < first_unused s) → i ≤ first_unused s → first_unused s ≡ i
    go (yes l) h = absurd (first_before s i l unused)
    go (no l) h = omega arith

    test : i < 32 → ltb i 32 ≡ true
    test h = lt-ltb i 32 h

-- the place, or 32 where there is none
pub free_or : (s : List ℕ) {r : Option ℕ} {n : ℕ} → r ≡ free_place s → n ≡ unwrap_or r 32 → n ≡ first_unused s
free_or s {r} {n} e f = f ∙ ap (λ (o : Option ℕ). unwrap_or o 32) e ∙ go (dec_lt (first_unused s) 32)
  where
    go : Dec (first_unused s < 32) → unwrap_or (free_place s) 32 ≡ first_unused s
    go (yes l) = rw (lt-ltb (first_unused s) 32 l) refl
    go (no l) =
        let full : first_unused s ≡ 32 = omega (arith, first_most s) in
        rw full refl

-- ---- how many

-- one place's part in the count
one_most : (b : Bool) → cond {A = ℕ} b 1 0 ≤ 1
one_most true = omega arith
one_most false = omega arith

below_most : (test : ℕ → Bool) (n : ℕ) → places_below test n ≤ n
unfolding places_below
below_most test zero = omega arith
below_most test (suc n) = omega (arith, below_most test n, one_most (test n))

pub free_most : (s : List ℕ) → free_places s ≤ 32
free_most s = below_most (λ place. eqb (byte_at s place used_field) 0) 32

-- a place passes a test or its contrary
pub count_not : (test : ℕ → Bool) (n : ℕ) → places_below test n + places_below (λ p. not (test p)) n ≡ n
unfolding places_below
count_not test zero = refl
count_not test (suc n) = omega (arith, count_not test n, one (test n))
  where
    one : (b : Bool) → cond {A = ℕ} b 1 0 + cond (not b) 1 0 ≡ 1
    one true = refl
    one false = refl

module _ (f g : ℕ → Bool) where
  -- tests that agree count the same
  pub count_agree : (n : ℕ) → ((p : ℕ) → p < n → g p ≡ f p) → places_below g n ≡ places_below f n
  unfolding places_below
  count_agree zero same = refl
  count_agree (suc n) same = rw (same n (omega arith), count_agree n (λ p h. same p (omega arith)))

  -- and where they agree but for one place, its part makes the difference
  pub count_one : (p n : ℕ) → p < n → ((q : ℕ) → q < n → q ≢ p → g q ≡ f q)
      → places_below g n + cond (f p) 1 0 ≡ places_below f n + cond (g p) 1 0
  unfolding places_below
  count_one p zero h same = absurd (omega arith)
  count_one p (suc n) h same = go (ℕ_discrete n p) (λ l. count_one p n l (λ q k d. same q (omega arith) d))
    where
      go : Dec (n ≡ p) → (p < n → places_below g n + cond (f p) 1 0 ≡ places_below f n + cond (g p) 1 0)
          → cond (g n) 1 0 + places_below g n + cond (f p) 1 0 ≡ cond (f n) 1 0 + places_below f n + cond (g p) 1 0
      go (yes e) less =
          let rest = count_agree n (λ q l. same q (omega arith) (λ z. omega arith)) in
          rw e (omega (arith, rw e at rest))
      go (no ne) less = rw (same n (omega arith) ne) (omega (arith, less (omega arith)))

-- a write past the first byte of a place frees no place and takes none
pub free_field : (s : List ℕ) (p f : ℕ) (vs : List ℕ) → 0 < f → f + length vs ≤ 1152 → free_places (with_bytes s p f vs) ≡ free_places s
free_field s p f vs above room =
    count_agree _ _ 32 (λ q h. ap (λ (v : ℕ). eqb v 0) (byte_beside s p f vs q used_field room (omega arith) (λ _. inr above)))

-- a byte of a new device
pub new_byte : (s : List ℕ) (p f : ℕ) → length s ≡ 36864 → p < 32 → f < 1152
    → byte_at (with_bytes s p 0 (new_device p)) p f ≡ get_or (new_device p) f 0
unfolding new_device
new_byte s p f whole inside h =
    rw zero-add at (byte_of_bytes (with_bytes s p 0 (new_device p)) p 0 1152 f h)
    ∙ ap (λ (l : List ℕ). get_or l f 0) (bytes_same s p 0 (new_device p) (record { whole = whole; inside = inside; room = omega (arith, length_new p) }))

-- and of every other place
pub new_elsewhere : (s : List ℕ) (p q f : ℕ) → f < 1152 → q ≢ p → byte_at (with_bytes s p 0 (new_device p)) q f ≡ byte_at s q f
new_elsewhere s p q f l n = other_place s p 0 (new_device p) q f (omega (arith, length_new p)) l n

-- the place of a new device is used
pub new_used : (s : List ℕ) (p : ℕ) → length s ≡ 36864 → p < 32 → byte_at (with_bytes s p 0 (new_device p)) p used_field ≡ 1
unfolding new_device
new_used s p whole inside = new_byte s p used_field whole inside (omega arith)

-- a new device at an unused place takes it
pub free_taken : (s : List ℕ) (p : ℕ) → length s ≡ 36864 → p < 32 → byte_at s p used_field ≡ 0
    → free_places (with_bytes s p 0 (new_device p)) + 1 ≡ free_places s
free_taken s p whole inside was =
    let one = count_one (λ q. eqb (byte_at s q used_field) 0) (λ q. eqb (byte_at (with_bytes s p 0 (new_device p)) q used_field) 0) p 32 inside
    (λ q h ne. ap (λ (v : ℕ). eqb v 0) (new_elsewhere s p q used_field (omega arith) ne)) in
    omega (arith, rw (was, new_used s p whole inside) at one)
