-- What each write of the driver does to a good store. Assumes nothing.
use mathlib.Core.Path.{◌≡◌, refl, sym, ap, ◌∙◌, subst}
use mathlib.Core.Logic.{◌⊎◌, inl, inr, ⊎_elim, ◌≢◌}
use mathlib.Core.List.{List, [], ◌∷◌}
use Prim.Native.Nat.{ℕ, ◌+◌, ◌≤◌, ◌<◌}
use native.Mathlib.Omega.{arith}
use native.Mathlib.Decide.{ℕ_discrete}
use lib.ListN.{length, get_or}
use Rattle.usb_store.specs.Layout.{used_field, child_field, max_children_field}
use Rattle.usb_store.specs.Access.{offset, Within, byte_at, with_bytes, with_byte}
use Rattle.usb_store.proofs.Writes.{write_nil}
use Rattle.usb_store.proofs.Fields.{with_length}
use Rattle.usb_store.proofs.Cells.{Beside, byte_beside, byte_else, one_case}
use Rattle.usb_device.specs.Device.{new_device, first_unused, free_places}
use Rattle.usb_device.proofs.Free.{first_most, first_before, first_least, first-unused, free_field, free_taken, new_byte, new_elsewhere}
use Rattle.usb_device.proofs.NewDevice.{new_bytes, new_zero}
use Rattle.usb_model.specs.World.{World, with_store}
use Rattle.usb_model.specs.Kept.{Bytes, Above, Good, Onward}
use Rattle.usb_model.proofs.Bytes.{bytes_with, bytes_one, bytes_new}
use Rattle.usb_model.proofs.Onward.{onward_same}

-- t follows s as the store of a good world
pub record Follows (s t : List ℕ) : Type 0 where
  pub size : length t ≡ length s
  pub free : free_places t ≤ free_places s
  pub first : first_unused s ≤ first_unused t
  pub bytes : Bytes t
  pub most : (h : ℕ) → byte_at t h max_children_field ≤ 10
  pub child : (h q : ℕ) → q < 10 → byte_at t h (child_field q) ≢ 0 → Above t h q

pub store_onward : {w : World} (t : List ℕ) → Follows w.store t → Onward w (with_store t w)
store_onward {w} t f =
    let o : Onward w w = onward_same w in
    record {
      store = f.size;
      free = f.free;
      first = f.first;
      outcomes = refl;
      taken = o.taken;
      actions = o.actions;
      news = o.news;
      news_length = o.news_length;
      kinds = o.kinds;
      log = o.log;
      logged = o.logged;
      requests = o.requests;
    }

pub store_good : {w : World} (t : List ℕ) → Follows w.store t → Good w → Good (with_store t w)
store_good t f g = record {
  whole = f.size ∙ g.whole;
  logged = g.logged;
  taken = g.taken;
  store = f.bytes;
  log = g.log;
  outcomes = g.outcomes;
  most = f.most;
  child = f.child;
}

-- ---- the bytes that the rules speak of: used, the ten children, MaxChildren

pub data Key : ℕ → Type 0 where
  used : Key used_field
  children : (q : ℕ) → q < 10 → Key (child_field q)
  most : Key max_children_field

-- n bytes from field f on, none of them a key
pub record Plain (f n : ℕ) : Type 0 where
  pub past : 0 < f
  pub room : f + n ≤ 1152
  pub apart : (f + n ≤ 96) ⊎ (107 ≤ f)

pub plain_low : {f n : ℕ} → 0 < f → f + n ≤ 96 → Plain f n
plain_low past low = record { past = past; room = omega arith; apart = inl low }

pub plain_less : {f m n : ℕ} → m ≤ n → Plain f n → Plain f m
plain_less h p = record { past = p.past; room = omega (arith, p.room); apart = ⊎_elim (λ l. inl (omega arith)) (λ l. inr l) p.apart }

key_low : {g : ℕ} → Key g → g < 1152
key_low used = omega arith
key_low (children j h) = omega arith
key_low most = omega arith

key_beside : {f n g : ℕ} → Plain f n → Key g → Beside f n g
key_beside r used = inr r.past
key_beside r (children j h) = ⊎_elim (λ a. inl (omega arith)) (λ a. inr (omega arith)) r.apart
key_beside r most = ⊎_elim (λ a. inl (omega arith)) (λ a. inr (omega arith)) r.apart

-- a store with the same places used, or more, has its first unused place no earlier
pub first_kept : (s t : List ℕ) → ((q : ℕ) → byte_at s q used_field ≢ 0 → byte_at t q used_field ≢ 0) → first_unused s ≤ first_unused t
first_kept s t h = first_least t (first_unused s) (first_most s) (λ q l. h q (first_before s q l))

above_kept : {s t : List ℕ} (h q : ℕ) → byte_at t h (child_field q) ≡ byte_at s h (child_field q) → first_unused s ≤ first_unused t → Above s h q
    → Above t h q
above_kept h q e f a = record { above = omega (arith, e, a.above); used = omega (arith, e, a.used) }

module _ {w : World} (g : Good w) where
  -- nothing is written
  pub none_follows : (p f : ℕ) → Follows w.store (with_bytes w.store p f [])
  unfolding with_bytes
  none_follows p f = subst (Follows w.store) (sym (write_nil w.store (offset p f))) (record {
    size = refl;
    free = omega arith;
    first = omega arith;
    bytes = g.store;
    most = g.most;
    child = g.child;
  })

  -- a field that is no key
  pub plain_follows : (p f : ℕ) (vs : List ℕ) → Plain f (length vs) → Bytes vs → Follows w.store (with_bytes w.store p f vs)
  plain_follows p f vs r b = record {
    size = with_length w.store p f vs;
    free = omega (arith, free_field w.store p f vs r.past r.room);
    first = onwards;
    bytes = bytes_with w.store p f vs g.store b;
    most = λ h. omega (arith, same h most, g.most h);
    child = λ h q l n. above_kept h q (same h (children q l)) onwards (g.child h q l (λ z. n (same h (children q l) ∙ z)));
  }
    where
      same : (h : ℕ) {k : ℕ} → Key k → byte_at (with_bytes w.store p f vs) h k ≡ byte_at w.store h k
      same h k = byte_beside w.store p f vs h _ r.room (key_low k) (λ _. key_beside r k)

      onwards : first_unused w.store ≤ first_unused (with_bytes w.store p f vs)
      onwards = first_kept w.store (with_bytes w.store p f vs) (λ q n z. n (sym (same q used) ∙ z))

  -- ---- one byte of a place that is there

  first_one : (p f v : ℕ) → 0 < f → f < 1152 → first_unused w.store ≤ first_unused (with_byte w.store p f v)
  first_one p f v past low =
      first_kept w.store (with_byte w.store p f v)
      (λ q n z. n (sym (byte_else w.store p f v q used_field low (omega arith) (λ _ e. omega arith)) ∙ z))

  pub most_follows : (p v : ℕ) → p < 32 → v ≤ 10 → Follows w.store (with_byte w.store p max_children_field v)
  most_follows p v inside h =
      let first = first_one p max_children_field v (omega arith) (omega arith) in
      let within : Within w.store p max_children_field 1 = record { whole = g.whole; inside = inside; room = omega arith } in
      record {
        size = with_length w.store p max_children_field (v ∷ []);
        free = omega (arith, free_field w.store p max_children_field (v ∷ []) (omega arith) (omega arith));
        first = first;
        bytes = bytes_with w.store p max_children_field (v ∷ []) g.store (bytes_one (omega arith));
        most = λ k. one_case w.store p max_children_field v within k max_children_field (omega arith) (λ b. b ≤ 10) (λ _ _. h) (g.most k);
        child = λ k q l n.
            let same = byte_else w.store p max_children_field v k (child_field q) (omega arith) (omega arith) (λ _ e. omega arith) in
            above_kept k q same first (g.child k q l (λ z. n (same ∙ z)));
      }

  -- the child c stands above its hub, and all places up to it are used
  pub child_follows : (p j c : ℕ) → p < 32 → j < 10 → p + 1 < c → c ≤ first_unused w.store
      → Follows w.store (with_byte w.store p (child_field j) c)
  child_follows p j c inside h above low = record {
    size = with_length w.store p (child_field j) (c ∷ []);
    free = omega (arith, free_field w.store p (child_field j) (c ∷ []) (omega arith) (omega arith));
    first = first;
    bytes = bytes_with w.store p (child_field j) (c ∷ []) g.store (bytes_one (omega (arith, first_most w.store)));
    most = λ k. omega (arith, g.most k, byte_else w.store p (child_field j) c k max_children_field (omega arith) (omega arith) (λ _ e. omega arith));
    child = λ k q l n.
        one_case w.store p (child_field j) c (record { whole = g.whole; inside = inside; room = omega arith }) k (child_field q) (omega arith)
        (λ b. b ≢ 0 → byte_at t k (child_field q) ≡ b → Above t k q)
        (λ a _ _ e. record { above = omega (arith, a, e); used = omega (arith, e, first) })
        (λ m e. above_kept k q e first (g.child k q l m)) n refl;
  }
    where
      t : List ℕ
      t = with_byte w.store p (child_field j) c

      first : first_unused w.store ≤ first_unused t
      first = first_one p (child_field j) c (omega arith) (omega arith)

  -- ---- a new device at the first unused place

  module _ (p : ℕ) (here : p ≡ first_unused w.store) (inside : p < 32) where
    abbrev pub with_new : List ℕ
    with_new = with_bytes w.store p 0 (new_device p)

    -- what holds of the new device's byte, and of the byte as it was, holds of the byte
    new_case : (q k : ℕ) → k < 1152 → (P : ℕ → Type 0) → (q ≡ p → P (get_or (new_device p) k 0)) → (q ≢ p → P (byte_at w.store q k))
        → P (byte_at with_new q k)
    new_case q k l P new old = go (ℕ_discrete q p)
      where
        go : Dec (q ≡ p) → P (byte_at with_new q k)
        go (yes e) = rw e (subst P (sym (new_byte w.store p k g.whole inside l)) (new e))
        go (no n) = subst P (sym (new_elsewhere w.store p q k l n)) (old n)

    pub first_new : p + 1 ≤ first_unused with_new
    first_new =
        first_least with_new (p + 1) (omega arith)
        (λ q l. new_case q used_field (omega arith) (λ b. b ≢ 0) (λ e z. omega (arith, z, (new_bytes p).used)) (λ n. first_before w.store q (omega (arith, n, here))))

    pub free_new : free_places with_new + 1 ≡ free_places w.store
    free_new =
        free_taken w.store p g.whole inside
        (ap (λ (k : ℕ). byte_at w.store k used_field) here ∙ first-unused w.store (omega (arith, here)))

    pub new_follows : Follows w.store with_new
    new_follows = record {
      size = with_length w.store p 0 (new_device p);
      free = omega (arith, free_new);
      first = omega (arith, first_new, here);
      bytes = bytes_with w.store p 0 (new_device p) g.store (bytes_new p inside);
      most = λ h. new_case h max_children_field (omega arith) (λ b. b ≤ 10) (λ e. omega (arith, new_zero p max_children_field (omega arith) (inl (omega arith, omega arith)))) (λ n. g.most h);
      child = λ h q l n. kept h q l n;
    }
      where
        kept : (h q : ℕ) → q < 10 → byte_at with_new h (child_field q) ≢ 0 → Above with_new h q
        kept h q l n = go (ℕ_discrete h p)
          where
            go : Dec (h ≡ p) → Above with_new h q
            go (yes e) =
                absurd
                (n (ap (λ (k : ℕ). byte_at with_new k (child_field q)) e ∙ new_byte w.store p (child_field q) g.whole inside (omega arith)
                ∙ new_zero p (child_field q) (omega arith) (inl (omega arith, omega arith))))
            go (no d) =
                let same : byte_at with_new h (child_field q) ≡ byte_at w.store h (child_field q) =
                new_elsewhere w.store p h (child_field q) (omega arith) d in
                above_kept h q same (omega (arith, first_new, here)) (g.child h q l (λ z. n (same ∙ z)))
