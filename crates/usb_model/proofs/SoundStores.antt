-- What the writes of the driver do to a sound store. Assumes nothing.
use mathlib.Core.Path.{◌≡◌, refl, sym, ap, ◌∙◌, subst}
use mathlib.Core.Bool.{Bool, true, false, false≢true}
use mathlib.Core.Logic.{◌⊎◌, inl, inr, ⊎_elim, ◌≢◌}
use mathlib.Core.List.{List, [], ◌∷◌}
use Prim.Native.Nat.{ℕ, zero, suc, ◌+◌, ◌≤◌, ◌<◌, ◌^◌}
use native.Mathlib.Nat.{add-zero}
use native.Mathlib.Omega.{arith}
use native.Mathlib.Decide.{ℕ_discrete, dec_lt}
use lib.ListN.{length, get_or}
use Rattle.usb_types.specs.Numbers.{little_endian}
use Rattle.usb_store.specs.Layout.{used_field, number_field, speed_field, status_field, port_number_field, parent_field, hub_field, error_field, child_field, max_children_field}
use Rattle.usb_store.specs.Access.{Within, byte_at, number_at, with_bytes, with_byte, with_number}
use Rattle.usb_store.proofs.Fields.{places_apart, fields_apart, with_length, byte_same, number_4, number_same, number_other}
use Rattle.usb_store.proofs.Cells.{other_place, byte_else, Cell, kept, written, cell}
use Rattle.usb_place.specs.Rules.{OneOf, speeds, statuses, errors, hubs}
use Rattle.usb_place.specs.Test.{one_of, every}
use Rattle.usb_place.proofs.Tests.{one_decides, every_decides}
use Rattle.usb_sound.specs.Sound.{IsUsed, IsChild, ParentFits, ChildOnce, Sound}
use Rattle.usb_sound.proofs.Hubs.{byte_used}

-- ---- the rules on single bytes

-- the byte v in the field g of the place p, whose hub byte was h
pub record Rule (h p g v : ℕ) : Type 0 where
  pub number : g ≡ 1 → v ≢ 0 → v ≡ p + 1
  pub speed : g ≡ 2 → v < 3
  pub status : g ≡ 3 → v < 5
  pub hub : g ≡ 7 → (h ≤ v) × (v < 3)
  pub data' : 43 ≤ g → g ≤ 106 → 0 < h
  pub descriptor : 43 ≤ g → g ≤ 51 → 1 < h
  pub most : g ≡ 106 → v ≤ 10
  pub gap : 107 ≤ g → 128 ≤ g
  pub tail : g < 1096

-- the rules on which places are used and where each stands
pub record Tree (s : List ℕ) : Type 0 where
  pub used : (p : ℕ) → p < 32 → OneOf (byte_at s p used_field) (0 ∷ 1 ∷ [])
  pub unused : (p : ℕ) → p < 32 → byte_at s p used_field ≡ 0 → (f : ℕ) → f < 1152 → byte_at s p f ≡ 0
  pub children : (h q p : ℕ) → h < 32 → q < 10 → IsChild s h q p → IsUsed s p
  pub root : (h q : ℕ) → h < 32 → q < 10 → IsChild s h q 0 → ⊥
  pub child : (p : ℕ) → 0 < p → IsUsed s p → ChildOnce s p
  pub packed : (p q : ℕ) → p < q → IsUsed s q → IsUsed s p
  pub root_parent : byte_at s 0 parent_field ≡ 0

-- where all numbers below n are listed
listed_below : (ys : List ℕ) (n : ℕ) → every (λ v. one_of v ys) 0 n ≡ true → (v : ℕ) → v < n → OneOf v ys
listed_below ys n all v l =
    (every_decides (λ v. one_of v ys) (λ v. OneOf v ys) (λ v. one_decides v ys) 0 n).only all v (omega arith) (omega arith)

none_or : (v n : ℕ) → (v ≢ 0 → v ≡ n) → OneOf v (0 ∷ n ∷ [])
none_or v n h = go (ℕ_discrete v 0)
  where
    go : Dec (v ≡ 0) → OneOf v (0 ∷ n ∷ [])
    go (yes e) = inl e
    go (no e) = inr (inl (h e))

-- each byte is as it was, or keeps the rules
pub record Cells (s t : List ℕ) : Type 0 where
  pub size : length t ≡ length s
  pub at : (q g : ℕ) → q < 32 → g < 1152 → (byte_at t q g ≡ byte_at s q g) ⊎ Rule (byte_at s q hub_field) q g (byte_at t q g)

module _ {s t : List ℕ} (r : Sound s) (c : Cells s t) where
  -- what holds of the byte as it was, and of a byte that keeps the rules, holds of the byte
  by_cell : (q g : ℕ) → q < 32 → g < 1152 → (P : ℕ → Type 0) → P (byte_at s q g)
      → (Rule (byte_at s q hub_field) q g (byte_at t q g) → P (byte_at t q g)) → P (byte_at t q g)
  by_cell q g l m P old new = ⊎_elim (λ e. subst P (sym e) old) new (c.at q g l m)

  pub hub_grows : (q : ℕ) → q < 32 → byte_at s q hub_field ≤ byte_at t q hub_field
  hub_grows q l = by_cell q hub_field l (omega arith) (λ b. byte_at s q hub_field ≤ b) (omega arith) (λ z. (z.hub refl).0)

  no-hub : (q : ℕ) → q < 32 → byte_at t q hub_field ≡ 0 → (f : ℕ) → 43 ≤ f → f ≤ 106 → byte_at t q f ≡ 0
  no-hub q l e f a b =
      by_cell q f l (omega arith) (λ v. v ≡ 0) (r.no-hub q l (omega (arith, e, hub_grows q l)) f a b)
      (λ z. absurd (omega (arith, e, hub_grows q l, z.data' a b)))

  no_descriptor : (q : ℕ) → q < 32 → byte_at t q hub_field ≡ 1 → (f : ℕ) → 43 ≤ f → f ≤ 51 → byte_at t q f ≡ 0
  no_descriptor q l e f a b =
      by_cell q f l (omega arith) (λ v. v ≡ 0) (was (ℕ_discrete (byte_at s q hub_field) 0)) (λ z. absurd (omega (arith, e, hub_grows q l, z.descriptor a b)))
    where
      was : Dec (byte_at s q hub_field ≡ 0) → byte_at s q f ≡ 0
      was (yes z) = r.no-hub q l z f a (omega arith)
      was (no z) = r.no_descriptor q l (omega (arith, e, z, hub_grows q l)) f a b

  -- so a store whose places stand as they should is sound
  pub edited : ((q : ℕ) → q < 32 → OneOf (number_at t q error_field 4) errors) → Tree t → Sound t
  unfolding every one_of
  edited error tree = record {
    whole = c.size ∙ r.whole;
    used = tree.used;
    unused = tree.unused;
    speed = λ q l. by_cell q speed_field l (omega arith) (λ b. OneOf b speeds) (r.speed q l) (λ z. listed_below speeds 3 refl _ (z.speed refl));
    status = λ q l. by_cell q status_field l (omega arith) (λ b. OneOf b statuses) (r.status q l) (λ z. listed_below statuses 5 refl _ (z.status refl));
    error = error;
    hub = λ q l. by_cell q hub_field l (omega arith) (λ b. OneOf b hubs) (r.hub q l) (λ z. listed_below hubs 3 refl _ (z.hub refl).1);
    number = λ q l. by_cell q number_field l (omega arith) (λ b. OneOf b (0 ∷ (q + 1) ∷ [])) (r.number q l) (λ z. none_or _ _ (z.number refl));
    max-children = λ q l. by_cell q max_children_field l (omega arith) (λ b. b ≤ 10) (r.max-children q l) (λ z. z.most refl);
    children = tree.children;
    root = tree.root;
    child = tree.child;
    packed = tree.packed;
    root_parent = tree.root_parent;
    no-hub = no-hub;
    no_descriptor = no_descriptor;
    gap = λ q l f a b. by_cell q f l (omega arith) (λ v. v ≡ 0) (r.gap q l f a b) (λ z. absurd (omega (arith, z.gap a)));
    tail = λ q l f a b. by_cell q f l (omega arith) (λ v. v ≡ 0) (r.tail q l f a b) (λ z. absurd (omega arith));
  }

-- ---- a store later than another

-- used places stay used and hub bytes do not fall; with b, hub bytes and children stay
pub record Since (b : Bool) (s t : List ℕ) : Type 0 where
  pub used : (p : ℕ) → p < 32 → byte_at s p used_field ≤ byte_at t p used_field
  pub hub : (p : ℕ) → p < 32 → byte_at s p hub_field ≤ byte_at t p hub_field
  pub hub_same : b ≡ true → (p : ℕ) → p < 32 → byte_at t p hub_field ≡ byte_at s p hub_field
  pub child_same : b ≡ true → (p j : ℕ) → j < 10 → byte_at t p (child_field j) ≡ byte_at s p (child_field j)

-- a place that is used, with a hub byte of k or more
pub record At (s : List ℕ) (p k : ℕ) : Type 0 where
  pub inside : p < 32
  pub used : 1 ≤ byte_at s p used_field
  pub hub : k ≤ byte_at s p hub_field

pub later : {b : Bool} {s t : List ℕ} {p k : ℕ} → Since b s t → At s p k → At t p k
later {p} o u = record { inside = u.inside; used = omega (arith, u.used, o.used p u.inside); hub = omega (arith, u.hub, o.hub p u.inside) }

pub is_used : {s : List ℕ} {p k : ℕ} → Sound s → At s p k → IsUsed s p
is_used {s} {p} r u = (u.inside, byte_used s r p used_field u.inside (omega arith) (λ e. omega (arith, e, u.used)))

-- ---- an edit that leaves every place where it stands

pub record Edit (b : Bool) (s t : List ℕ) : Type 0 where
  pub cells : Cells s t
  pub error : (q : ℕ) → q < 32 → OneOf (number_at t q error_field 4) errors
  pub hub : b ≡ true → (q : ℕ) → q < 32 → byte_at t q hub_field ≡ byte_at s q hub_field
  pub used : (q : ℕ) → byte_at t q used_field ≡ byte_at s q used_field
  pub child : (h j : ℕ) → j < 10 → byte_at t h (child_field j) ≡ byte_at s h (child_field j)
  pub unused : (q : ℕ) → byte_at s q used_field ≡ 0 → (f : ℕ) → f < 1152 → byte_at t q f ≡ byte_at s q f
  pub parent : (h j p : ℕ) → h < 32 → j < 10 → IsChild s h j p → ParentFits s h j p → ParentFits t h j p
  pub root_parent : byte_at t 0 parent_field ≡ 0

module _ {b : Bool} {s t : List ℕ} (r : Sound s) (d : Edit b s t) where
  pub edit_since : Since b s t
  edit_since = record {
    used = λ p l. omega (arith, d.used p);
    hub = hub_grows r d.cells;
    hub_same = d.hub;
    child_same = λ e p j l. d.child p j l;
  }

  was_used : (p : ℕ) → IsUsed t p → IsUsed s p
  was_used p u = (u.0, sym (d.used p) ∙ u.1)

  still_used : (p : ℕ) → IsUsed s p → IsUsed t p
  still_used p u = (u.0, d.used p ∙ u.1)

  was_child : (h j p : ℕ) → j < 10 → IsChild t h j p → IsChild s h j p
  was_child h j p l e = sym (d.child h j l) ∙ e

  stands : (p : ℕ) → IsUsed s p → ChildOnce s p → ChildOnce t p
  stands p u c = record {
    hub = c.hub;
    port = c.port;
    smaller = c.smaller;
    within = c.within;
    is-hub = λ z. c.is-hub (omega (arith, z, hub_grows r d.cells c.hub (omega (arith, c.smaller, u.0))));
    stands = d.child c.hub c.port c.within ∙ c.stands;
    once = λ h q a l e. c.once h q a l (was_child h q p l e);
    parent = d.parent c.hub c.port p (omega (arith, c.smaller, u.0)) c.within c.stands c.parent;
  }

  pub edit_sound : Sound t
  edit_sound = edited r d.cells d.error (record {
    used = λ p l. subst (λ (v : ℕ). OneOf v (0 ∷ 1 ∷ [])) (sym (d.used p)) (r.used p l);
    unused = λ p l e f m. d.unused p (sym (d.used p) ∙ e) f m ∙ r.unused p l (sym (d.used p) ∙ e) f m;
    children = λ h q p a l e. still_used p (r.children h q p a l (was_child h q p l e));
    root = λ h q a l e. r.root h q a l (was_child h q 0 l e);
    child = λ p l u. stands p (was_used p u) (r.child p l (was_used p u));
    packed = λ p q l u. still_used p (r.packed p q l (was_used q u));
    root_parent = d.root_parent;
  })

-- ---- a field of a used place

-- the byte v may be written to the field g of the place p, whose hub byte is h; with b, hub bytes stay
pub record May (b : Bool) (h p g v : ℕ) : Type 0 where
  pub rule : Rule h p g v
  pub used : g ≢ 0
  pub port : g ≢ 5
  pub parent : g ≢ 6
  pub hub : b ≡ true → g ≢ 7
  pub children : 96 ≤ g → 106 ≤ g

module _ {b : Bool} {s : List ℕ} (r : Sound s) {p : ℕ} (u : At s p 0) (f : ℕ) (vs : List ℕ) (room : f + length vs ≤ 1152)
    (may : (i : ℕ) → i < length vs → May b (byte_at s p hub_field) p (f + i) (get_or vs i 0)) where
  within : Within s p f (length vs)
  within = record { whole = r.whole; inside = u.inside; room = room }

  -- a byte that may not be written is as it was
  still : (q g : ℕ) → g < 1152 → ((v : ℕ) → May b (byte_at s p hub_field) p g v → ⊥) → byte_at (with_bytes s p f vs) q g ≡ byte_at s q g
  still q g l never = go (cell s p f vs within q g l)
    where
      go : Cell s (with_bytes s p f vs) p f vs q g → byte_at (with_bytes s p f vs) q g ≡ byte_at s q g
      go (kept e) = e
      go (written i m a e v) = absurd (never (get_or vs i 0) (rw e (may i m)))

  still_child : (h j : ℕ) → j < 10 → byte_at (with_bytes s p f vs) h (child_field j) ≡ byte_at s h (child_field j)
  still_child h j l = still h (child_field j) (omega arith) (λ v m. omega (arith, m.children (omega arith)))

  write_cells : Cells s (with_bytes s p f vs)
  write_cells = record { size = with_length s p f vs; at = λ q g l m. go q g (cell s p f vs within q g m) }
    where
      go : (q g : ℕ) → Cell s (with_bytes s p f vs) p f vs q g
          → (byte_at (with_bytes s p f vs) q g ≡ byte_at s q g) ⊎ Rule (byte_at s q hub_field) q g (byte_at (with_bytes s p f vs) q g)
      go q g (kept e) = inl e
      go q g (written i l a e v) = inr (rw (v, a, e) (may i l).rule)

  pub write_edit : OneOf (number_at (with_bytes s p f vs) p error_field 4) errors → Edit b s (with_bytes s p f vs)
  write_edit error = record {
    cells = write_cells;
    error = λ q l. errors_of q l (dec_lt p q) (dec_lt q p);
    hub = λ e q l. still q hub_field (omega arith) (λ v m. m.hub e refl);
    used = λ q. still q used_field (omega arith) (λ v m. m.used refl);
    child = still_child;
    unused = λ q z g l. other_place s p f vs q g within.room l (λ a. omega (arith, u.used, z, ap (λ (k : ℕ). byte_at s k used_field) a));
    parent = λ h j q a l c. ⊎_elim (λ e. inl (still_parent q ∙ e))
        (λ e. inr (still_parent q ∙ e.0, still q port_number_field (omega arith) (λ v m. m.port refl) ∙ e.1));
    root_parent = still_parent 0 ∙ r.root_parent;
  }
    where
      still_parent : (q : ℕ) → byte_at (with_bytes s p f vs) q parent_field ≡ byte_at s q parent_field
      still_parent q = still q parent_field (omega arith) (λ v m. m.parent refl)

      errors_of : (q : ℕ) → q < 32 → Dec (p < q) → Dec (q < p) → OneOf (number_at (with_bytes s p f vs) q error_field 4) errors
      errors_of q l (yes a) c =
          rw (number_other s p f vs q error_field 4 (places_apart p f (length vs) q error_field 4 room (omega arith) (inl a))) (r.error q l)
      errors_of q l (no a) (yes c) =
          rw (number_other s p f vs q error_field 4 (places_apart p f (length vs) q error_field 4 room (omega arith) (inr c))) (r.error q l)
      errors_of q l (no a) (no c) = let e : q ≡ p = omega arith in rw e error

  -- a field that is not the error
  pub plain_edit : (f + length vs ≤ 8) ⊎ (12 ≤ f) → Edit b s (with_bytes s p f vs)
  plain_edit clear = write_edit (rw (number_other s p f vs p error_field 4 (fields_apart p f (length vs) error_field 4 clear)) (r.error p u.inside))

pub byte_edit : {b : Bool} {s : List ℕ} → Sound s → {p : ℕ} → At s p 0 → (f v : ℕ) → May b (byte_at s p hub_field) p f v → (f + 1 ≤ 8) ⊎ (12 ≤ f)
    → Edit b s (with_byte s p f v)
byte_edit {b} {s} r {p} u f v m clear = plain_edit r u f (v ∷ []) (omega (arith, m.rule.tail)) go clear
  where
    go : (i : ℕ) → i < 1 → May b (byte_at s p hub_field) p (f + i) (get_or (v ∷ []) i 0)
    go zero l = rw add-zero m
    go (suc i) l = absurd (omega arith)

pub error_edit : {b : Bool} {s : List ℕ} → Sound s → {p : ℕ} → At s p 0 → (v : ℕ) → OneOf v errors → v < 256 ^ 4
    → Edit b s (with_number s p error_field 4 v)
error_edit {b} {s} r {p} u v listed l =
    write_edit r u error_field (little_endian 4 v) (omega arith) (λ i m. omega arith) (rw (number_same s p error_field 4 v (record {
      whole = r.whole;
      inside = u.inside;
      room = omega arith;
    }) l) listed)

-- the hub byte grows
pub hub_edit : {s : List ℕ} → Sound s → {p : ℕ} → At s p 0 → (v : ℕ) → byte_at s p hub_field ≤ v → v < 3 → Edit false s (with_byte s p hub_field v)
hub_edit {s} r {p} u v grows most = byte_edit r u hub_field v (record {
  rule = omega arith;
  used = omega arith;
  port = omega arith;
  parent = omega arith;
  hub = λ e. absurd (false≢true e);
  children = omega arith;
}) (inl (omega arith))

-- ---- stores that differ in a few bytes

-- the error of a place, where its four bytes are as they were
pub error_same : {s : List ℕ} (t : List ℕ) → Sound s → length t ≡ length s → (q : ℕ) → q < 32
    → ((i : ℕ) → i < 4 → byte_at t q (8 + i) ≡ byte_at s q (8 + i)) → OneOf (number_at t q error_field 4) errors
error_same {s} t r size q l same = subst (λ (v : ℕ). OneOf v errors) equal (r.error q l)
  where
    equal : number_at s q error_field 4 ≡ number_at t q error_field 4
    equal = omega (
      arith,
      number_4 s q error_field (record { whole = r.whole; inside = l; room = omega arith }),
      number_4 t q error_field (record { whole = size ∙ r.whole; inside = l; room = omega arith }),
      same 0 (omega arith),
      same 1 (omega arith),
      same 2 (omega arith),
      same 3 (omega arith),
    )

-- ---- the parent of a child and its port, in two writes

module _ {s : List ℕ} (r : Sound s) {p : ℕ} (u : At s p 0) (h j : ℕ) (inside : h < 32) (port : j < 10) (child : IsChild s h j p) where
  abbrev pub with_parent : List ℕ
  with_parent = with_byte (with_byte s p parent_field (h + 1)) p port_number_field j

  size : length with_parent ≡ length s
  size = with_length (with_byte s p parent_field (h + 1)) p port_number_field (j ∷ []) ∙ with_length s p parent_field ((h + 1) ∷ [])

  parent_within : Within s p parent_field 1
  parent_within = record { whole = r.whole; inside = u.inside; room = omega arith }

  port_within : Within (with_byte s p parent_field (h + 1)) p port_number_field 1
  port_within = record { whole = with_length s p parent_field ((h + 1) ∷ []) ∙ r.whole; inside = u.inside; room = omega arith }

  same : (q g : ℕ) → g < 1152 → (q ≡ p → 5 ≤ g → g ≤ 6 → ⊥) → byte_at with_parent q g ≡ byte_at s q g
  same q g l n =
      byte_else (with_byte s p parent_field (h + 1)) p port_number_field j q g (omega arith) l (λ a e. n a (omega arith) (omega arith))
      ∙ byte_else s p parent_field (h + 1) q g (omega arith) l (λ a e. n a (omega arith) (omega arith))

  here : (byte_at with_parent p parent_field ≡ h + 1) × (byte_at with_parent p port_number_field ≡ j)
  here = (
    byte_else (with_byte s p parent_field (h + 1)) p port_number_field j p parent_field (omega arith) (omega arith) (λ a (e : ◌≡◌ {A = ℕ} 6 5). omega arith) ∙ byte_same s p parent_field (h + 1) parent_within,
    byte_same (with_byte s p parent_field (h + 1)) p port_number_field j port_within,
  )

  not_root : p ≢ 0
  not_root e = r.root h j inside port (rw e at child)

  pub parent_edit : Edit true s with_parent
  parent_edit = record {
    cells = record { size = size; at = λ q g l m. cells q g m (dec_lt g 5) (dec_lt 6 g) };
    error = λ q l. error_same with_parent r size q l (λ i m. same q (8 + i) (omega arith) (λ a b c. omega arith));
    hub = λ e q l. same q hub_field (omega arith) (λ a b c. omega arith);
    used = λ q. same q used_field (omega arith) (λ a b c. omega arith);
    child = λ q i l. same q (child_field i) (omega arith) (λ a b c. omega arith);
    unused = λ q z g l. same q g l (λ a b c. omega (arith, u.used, z, ap (λ (k : ℕ). byte_at s k used_field) a));
    parent = λ k i q a l c fits. parents k i q a l c fits (ℕ_discrete q p);
    root_parent = same 0 parent_field (omega arith) (λ a b c. not_root (sym a)) ∙ r.root_parent;
  }
    where
      cells : (q g : ℕ) → g < 1152 → Dec (g < 5) → Dec (6 < g)
          → (byte_at with_parent q g ≡ byte_at s q g) ⊎ Rule (byte_at s q hub_field) q g (byte_at with_parent q g)
      cells q g l (yes a) b = inl (same q g l (λ _ c d. omega arith))
      cells q g l (no a) (yes b) = inl (same q g l (λ _ c d. omega arith))
      cells q g l (no a) (no b) = inr (omega arith)

      parents : (k i q : ℕ) → k < 32 → i < 10 → IsChild s k i q → ParentFits s k i q → Dec (q ≡ p) → ParentFits with_parent k i q
      parents k i q a l c fits (yes e) =
          let o = r.child p (omega (arith, not_root)) (is_used r u) in
          let x = o.once h j inside port child in
          let y = o.once k i a l (rw e at c) in
          inr (rw e (here.0 ∙ omega (arith, x.0, y.0)), rw e (here.1 ∙ omega (arith, x.1, y.1)))
      parents k i q a l c fits (no e) =
          ⊎_elim (λ x. inl (same q parent_field (omega arith) (λ a b c. e a) ∙ x))
          (λ x. inr (same q parent_field (omega arith) (λ a b c. e a) ∙ x.0, same q port_number_field (omega arith) (λ a b c. e a) ∙ x.1)) fits
