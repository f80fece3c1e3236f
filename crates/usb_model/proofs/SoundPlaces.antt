-- A sound store in which a place is taken, for the root hub or for a child. Assumes nothing.
use mathlib.Core.Path.{◌≡◌, refl, sym, ap, ◌∙◌, subst}
use mathlib.Core.Bool.{false, false≢true}
use mathlib.Core.Logic.{◌⊎◌, inl, inr, ⊎_elim, ◌≢◌}
use mathlib.Core.List.{List, [], ◌∷◌}
use Prim.Native.Nat.{ℕ, ◌+◌, ◌-◌, ◌≤◌, ◌<◌}
use native.Mathlib.Omega.{arith}
use native.Mathlib.Decide.{ℕ_discrete, dec_lt}
use lib.ListN.{length, get_or}
use Rattle.usb_store.specs.Layout.{used_field, port_number_field, parent_field, hub_field, error_field, child_field}
use Rattle.usb_store.specs.Access.{Within, byte_at, number_at, with_bytes, with_byte}
use Rattle.usb_store.proofs.Fields.{with_length, byte_same}
use Rattle.usb_store.proofs.Cells.{byte_else}
use Rattle.usb_device.specs.Device.{new_device, first_unused}
use Rattle.usb_device.proofs.Free.{first-unused, new_byte, new_elsewhere}
use Rattle.usb_device.proofs.NewDevice.{new_bytes, new_error, new_zero}
use Rattle.usb_place.specs.Rules.{OneOf, errors}
use Rattle.usb_sound.specs.Sound.{IsUsed, IsChild, ChildOnce, Sound}
use Rattle.usb_sound.proofs.Hubs.{before_used}
use Rattle.usb_model.proofs.SoundStores.{Rule, Cells, hub_grows, edited, error_same, Since, At, is_used}

-- ---- a new device

new_rule : (p g : ℕ) → (43 ≤ g → 128 ≤ g) → g < 1096 → Rule 0 p g (get_or (new_device p) g 0)
new_rule p g a b = record {
  number = λ e _. is e ∙ (new_bytes p).number;
  speed = λ e. omega (arith, is e, (new_bytes p).speed);
  status = λ e. omega (arith, is e, (new_bytes p).status);
  hub = λ e. omega (arith, is e, (new_bytes p).hub);
  data' = λ c d. absurd (omega (arith, a c));
  descriptor = λ c d. absurd (omega (arith, a c));
  most = λ e. absurd (omega (arith, a (omega arith)));
  gap = λ c. a (omega arith);
  tail = b;
}
  where
    is : {k : ℕ} → g ≡ k → get_or (new_device p) g 0 ≡ get_or (new_device p) k 0
    is e = ap (λ (k : ℕ). get_or (new_device p) k 0) e

new_cell : (p g : ℕ) → g < 1152 → (get_or (new_device p) g 0 ≡ 0) ⊎ Rule 0 p g (get_or (new_device p) g 0)
new_cell p g l = go (dec_lt g 43) (dec_lt g 128) (dec_lt g 1096)
  where
    go : Dec (g < 43) → Dec (g < 128) → Dec (g < 1096) → (get_or (new_device p) g 0 ≡ 0) ⊎ Rule 0 p g (get_or (new_device p) g 0)
    go (yes a) b c = inr (new_rule p g (λ x. absurd (omega arith)) (omega arith))
    go (no a) (yes b) c = inl (new_zero p g l (inl (omega arith)))
    go (no a) (no b) (yes c) = inr (new_rule p g (λ x. omega arith) c)
    go (no a) (no b) (no c) = inl (new_zero p g l (inr (omega arith)))

-- ---- a place is taken

-- a place that is used, and no hub yet
pub record Fresh (s : List ℕ) (p : ℕ) : Type 0 where
  pub place : At s p 0
  pub hub : byte_at s p hub_field ≡ 0

-- the place p of t holds a new device, and stands as a child at the ports N, which had none; the rest is as in s
record Taken (N : ℕ → ℕ → Type 0) (s t : List ℕ) (p : ℕ) : Type 0 where
  size : length t ≡ length s
  new : (g : ℕ) → g < 1152 → byte_at t p g ≡ get_or (new_device p) g 0
  other : (q g : ℕ) → q ≢ p → g < 1152 → (96 ≤ g → 106 ≤ g) → byte_at t q g ≡ byte_at s q g
  child : (q i : ℕ) → q ≢ p → i < 10
      → (byte_at t q (child_field i) ≡ byte_at s q (child_field i)) ⊎ (N q i × (0 < byte_at s q hub_field) × (byte_at s q (child_field i) ≡ 0) × (byte_at t q (child_field i) ≡ p + 1))

module _ {N : ℕ → ℕ → Type 0} {s t : List ℕ} (r : Sound s) {p : ℕ} (inside : p < 32) (free : byte_at s p used_field ≡ 0) (k : Taken N s t p) where
  zero : (g : ℕ) → g < 1152 → byte_at s p g ≡ 0
  zero g l = r.unused p inside free g l

  plain : (q g : ℕ) → q ≢ p → g < 96 → byte_at t q g ≡ byte_at s q g
  plain q g n l = k.other q g n (omega arith) (λ c. absurd (omega arith))

  -- a byte of another place
  apart : (q g : ℕ) → q ≢ p → g < 1152 → (byte_at t q g ≡ byte_at s q g) ⊎ ((0 < byte_at s q hub_field) × (96 ≤ g) × (g < 106))
  apart q g n l = go (dec_lt g 96) (dec_lt g 106)
    where
      go : Dec (g < 96) → Dec (g < 106) → (byte_at t q g ≡ byte_at s q g) ⊎ ((0 < byte_at s q hub_field) × (96 ≤ g) × (g < 106))
      go (yes a) b = inl (plain q g n a)
      go (no a) (yes b) =
          let i : 96 + (g - 96) ≡ g = omega arith in
          ⊎_elim (λ e. inl (rw i at e)) (λ e. inr (e.1, omega arith, b)) (k.child q (g - 96) n (omega arith))
      go (no a) (no b) = inl (k.other q g n l (λ c. omega arith))

  taken_cells : Cells s t
  taken_cells = record { size = k.size; at = λ q g l m. go q g m (ℕ_discrete q p) }
    where
      go : (q g : ℕ) → g < 1152 → Dec (q ≡ p) → (byte_at t q g ≡ byte_at s q g) ⊎ Rule (byte_at s q hub_field) q g (byte_at t q g)
      go q g m (yes e) =
          rw e (⊎_elim (λ z. inl (k.new g m ∙ z ∙ sym (zero g m))) (λ z. inr (rw (k.new g m, zero hub_field (omega arith)) z)) (new_cell p g m))
      go q g m (no n) = ⊎_elim (λ e. inl e) (λ e. inr (omega arith)) (apart q g n m)

  errors_same : (q : ℕ) → q < 32 → OneOf (number_at t q error_field 4) errors
  errors_same q l = error_same t r k.size q l (λ i m. go i m (ℕ_discrete q p))
    where
      go : (i : ℕ) → i < 4 → Dec (q ≡ p) → byte_at t q (8 + i) ≡ byte_at s q (8 + i)
      go i m (yes e) = rw e (k.new (8 + i) (omega arith) ∙ new_error p i m ∙ sym (zero (8 + i) (omega arith)))
      go i m (no n) = plain q (8 + i) n (omega arith)

  -- ---- which places are used, and where they stand

  not_here : (q : ℕ) → IsUsed s q → q ≢ p
  not_here q u e = omega (arith, free, u.1, ap (λ (i : ℕ). byte_at s i used_field) e)

  was_used : (q : ℕ) → q ≢ p → IsUsed t q → IsUsed s q
  was_used q n u = (u.0, sym (plain q used_field n (omega arith)) ∙ u.1)

  still_used : (q : ℕ) → IsUsed s q → IsUsed t q
  still_used q u = (u.0, plain q used_field (not_here q u) (omega arith) ∙ u.1)

  here_used : IsUsed t p
  here_used = (inside, k.new used_field (omega arith) ∙ (new_bytes p).used)

  -- a child of t was one, or is the place taken
  was_child : (h i c : ℕ) → i < 10 → IsChild t h i c → (IsChild s h i c) ⊎ (N h i × (c ≡ p))
  was_child h i c l e = go (ℕ_discrete h p)
    where
      go : Dec (h ≡ p) → (IsChild s h i c) ⊎ (N h i × (c ≡ p))
      go (yes a) =
          absurd
          (omega (arith, e, ap (λ (x : ℕ). byte_at t x (child_field i)) a, k.new (child_field i) (omega arith), new_zero p (child_field i) (omega arith) (inl (omega arith))))
      go (no n) = ⊎_elim (λ x. inl (sym x ∙ e)) (λ x. inr (x.0, omega (arith, e, x.3))) (k.child h i n l)

  -- what stood before stands there still
  stood : (q : ℕ) → q ≢ p → IsUsed s q → ChildOnce s q → ChildOnce t q
  stood q n u c = record {
    hub = c.hub;
    port = c.port;
    smaller = c.smaller;
    within = c.within;
    is-hub = λ z. c.is-hub (sym (plain c.hub hub_field there (omega arith)) ∙ z);
    stands = ⊎_elim (λ e. e ∙ c.stands) (λ e. absurd (omega (arith, e.2, c.stands))) (k.child c.hub c.port there c.within);
    once = λ h i a l e. ⊎_elim (c.once h i a l) (λ x. absurd (n x.1)) (was_child h i q l e);
    parent =
        ⊎_elim (λ e. inl (plain q parent_field n (omega arith) ∙ e))
        (λ e. inr (plain q parent_field n (omega arith) ∙ e.0, plain q port_number_field n (omega arith) ∙ e.1)) c.parent;
  }
    where
      there : c.hub ≢ p
      there = not_here c.hub (r.packed c.hub q c.smaller u)

  -- what holds of the new device's byte, and of the byte as it was, holds of the byte
  by_place : (q g : ℕ) → g < 96 → (P : ℕ → Type 0) → (q ≡ p → P (get_or (new_device p) g 0)) → P (byte_at s q g) → P (byte_at t q g)
  by_place q g l P new old = go (ℕ_discrete q p)
    where
      go : Dec (q ≡ p) → P (byte_at t q g)
      go (yes e) = subst P (sym (ap (λ (i : ℕ). byte_at t i g) e ∙ k.new g (omega arith))) (new e)
      go (no n) = subst P (sym (plain q g n l)) old

  taken_since : Since false s t
  taken_since = record {
    used = λ q l. by_place q used_field (omega arith) (λ b. byte_at s q used_field ≤ b) (λ e. omega (arith, free, ap (λ (i : ℕ). byte_at s i used_field) e)) (omega arith);
    hub = hub_grows r taken_cells;
    hub_same = λ e. absurd (false≢true e);
    child_same = λ e. absurd (false≢true e);
  }

  taken_fresh : Fresh t p
  taken_fresh = record {
    place = record { inside = inside; used = omega (arith, here_used.1); hub = omega arith };
    hub = k.new hub_field (omega arith) ∙ (new_bytes p).hub;
  }

  -- so it is sound, if the places before it are used, and it is the first or stands as a child
  taken_sound : ((q : ℕ) → q < p → IsUsed s q) → ((h i : ℕ) → N h i → p ≢ 0) → (p ≢ 0 → ChildOnce t p) → Sound t
  taken_sound before below stands = edited r taken_cells errors_same (record {
    used = λ q l. by_place q used_field (omega arith) (λ b. OneOf b (0 ∷ 1 ∷ [])) (λ _. inr (inl (new_bytes p).used)) (r.used q l);
    unused = λ q l e g m. unused q l (λ a. omega (arith, e, here_used.1, ap (λ (i : ℕ). byte_at t i used_field) a)) e g m;
    children = λ h i c a l e. ⊎_elim (λ x. still_used c (r.children h i c a l x)) (λ x. subst (IsUsed t) (sym x.1) here_used) (was_child h i c l e);
    root = λ h i a l e. ⊎_elim (r.root h i a l) (λ x. below h i x.0 (sym x.1)) (was_child h i 0 l e);
    child = λ q l u. child q l u (ℕ_discrete q p);
    packed = λ a b l u. still_used a (packed a b l u (ℕ_discrete b p));
    root_parent = by_place 0 parent_field (omega arith) (λ b. b ≡ 0) (λ _. (new_bytes p).parent) r.root_parent;
  })
    where
      unused : (q : ℕ) → q < 32 → q ≢ p → byte_at t q used_field ≡ 0 → (g : ℕ) → g < 1152 → byte_at t q g ≡ 0
      unused q l n e g m =
          let z = r.unused q l (sym (plain q used_field n (omega arith)) ∙ e) in
          ⊎_elim (λ x. x ∙ z g m) (λ x. absurd (omega (arith, x.0, z hub_field (omega arith)))) (apart q g n m)

      child : (q : ℕ) → 0 < q → IsUsed t q → Dec (q ≡ p) → ChildOnce t q
      child q l u (yes e) = rw e (stands (omega (arith, e)))
      child q l u (no n) = stood q n (was_used q n u) (r.child q l (was_used q n u))

      packed : (a b : ℕ) → a < b → IsUsed t b → Dec (b ≡ p) → IsUsed s a
      packed a b l u (yes e) = before a (omega (arith, e))
      packed a b l u (no n) = r.packed a b l (was_used b n u)

-- ---- the first unused place

module _ {s : List ℕ} (r : Sound s) {p : ℕ} (first : p ≡ first_unused s) (inside : p < 32) where
  free : byte_at s p used_field ≡ 0
  free = ap (λ (k : ℕ). byte_at s k used_field) first ∙ first-unused s (omega (arith, first))

  before : (q : ℕ) → q < p → IsUsed s q
  before q l = before_used s r q (omega (arith, first))

  abbrev pub with_new : List ℕ
  with_new = with_bytes s p 0 (new_device p)

  -- the root hub, where no place is used
  module _ (empty : byte_at s 0 used_field ≡ 0) where
    pub is_root : p ≡ 0
    is_root = go (dec_lt 0 p)
      where
        go : Dec (0 < p) → p ≡ 0
        go (yes l) = absurd (omega (arith, empty, (before 0 l).1))
        go (no l) = omega arith

    root_taken : Taken (λ _ _. ⊥) s with_new p
    root_taken = record {
      size = with_length s p 0 (new_device p);
      new = λ g l. new_byte s p g r.whole inside l;
      other = λ q g n l _. new_elsewhere s p q g l n;
      child = λ q i n l. inl (new_elsewhere s p q (child_field i) (omega arith) n);
    }

    pub root_sound : Sound with_new
    root_sound = taken_sound r inside free root_taken before (λ h i x. absurd x) (λ n. absurd (n is_root))

    pub root_since : Since false s with_new
    root_since = taken_since r inside free root_taken

    pub root_fresh : Fresh with_new p
    root_fresh = taken_fresh r inside free root_taken

  -- a child at a port that has none
  module _ {h : ℕ} (u : At s h 1) (j : ℕ) (port : j < 10) (vacant : byte_at s h (child_field j) ≡ 0) where
    abbrev pub with_child : List ℕ
    with_child = with_byte with_new h (child_field j) (p + 1)

    below : h < p
    below = go (dec_lt h p) (dec_lt p h)
      where
        go : Dec (h < p) → Dec (p < h) → h < p
        go (yes l) m = l
        go (no l) (yes m) = absurd (omega (arith, free, (r.packed p h m (is_used r u)).1))
        go (no l) (no m) = let e : p ≡ h = omega arith in absurd (omega (arith, free, u.used, ap (λ (k : ℕ). byte_at s k used_field) e))

    child_within : Within with_new h (child_field j) 1
    child_within = record { whole = with_length s p 0 (new_device p) ∙ r.whole; inside = u.inside; room = omega arith }

    pub child_stands : IsChild with_child h j p
    child_stands = byte_same with_new h (child_field j) (p + 1) child_within

    as_before : (q g : ℕ) → q ≢ p → g < 1152 → (q ≡ h → g ≡ child_field j → ⊥) → byte_at with_child q g ≡ byte_at s q g
    as_before q g n l m = byte_else with_new h (child_field j) (p + 1) q g (omega arith) l m ∙ new_elsewhere s p q g l n

    child_taken : Taken (λ q i. (q ≡ h) × (i ≡ j)) s with_child p
    child_taken = record {
      size = with_length with_new h (child_field j) ((p + 1) ∷ []) ∙ with_length s p 0 (new_device p);
      new = λ g l. byte_else with_new h (child_field j) (p + 1) p g (omega arith) l (λ a e. omega (arith, below)) ∙ new_byte s p g r.whole inside l;
      other = λ q g n l c. as_before q g n l (λ a e. omega (arith, c (omega arith)));
      child = λ q i n l. ports q i n l (ℕ_discrete q h) (ℕ_discrete i j);
    }
      where
        ports : (q i : ℕ) → q ≢ p → i < 10 → Dec (q ≡ h) → Dec (i ≡ j)
            → (byte_at with_child q (child_field i) ≡ byte_at s q (child_field i))
            ⊎ (((q ≡ h) × (i ≡ j)) × (0 < byte_at s q hub_field) × (byte_at s q (child_field i) ≡ 0) × (byte_at with_child q (child_field i) ≡ p + 1))
        ports q i n l (yes a) (yes b) =
            inr ((a, b), omega (arith, u.hub, ap (λ (k : ℕ). byte_at s k hub_field) a), rw (a, b) vacant, rw (a, b) child_stands)
        ports q i n l (yes a) (no b) = inl (as_before q (child_field i) n (omega arith) (λ _ e. b (omega arith)))
        ports q i n l (no a) b = inl (as_before q (child_field i) n (omega arith) (λ e _. a e))

    pub child_since : Since false s with_child
    child_since = taken_since r inside free child_taken

    pub child_fresh : Fresh with_child p
    child_fresh = taken_fresh r inside free child_taken

    pub child_sound : Sound with_child
    child_sound = taken_sound r inside free child_taken before (λ h i x. omega (arith, below)) (λ _. record {
      hub = h;
      port = j;
      smaller = below;
      within = port;
      is-hub = λ z. omega (arith, z, u.hub, plain r inside free child_taken h hub_field (λ e. omega (arith, below)) (omega arith));
      stands = child_stands;
      once = λ q i a l e. ⊎_elim (λ c. absurd (not_here r inside free child_taken p (r.children q i p a l c) refl)) (λ x. x.0)
          (was_child r inside free child_taken q i p l e);
      parent = inl (child_taken.new parent_field (omega arith) ∙ (new_bytes p).parent);
    })
