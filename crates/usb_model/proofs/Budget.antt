-- What a write of the driver does to what is known of a store, and to its budget. Assumes nothing.
use mathlib.Core.Path.{◌≡◌, refl, ap, ◌∙◌}
use mathlib.Core.Bool.{Bool, true, false, cond, not}
use mathlib.Core.Logic.{◌⊎◌, inl, inr, ⊎_elim, ◌≢◌}
use mathlib.Core.List.{List, [], ◌∷◌}
use Prim.Native.Nat.{ℕ, ◌+◌, ◌*◌, ◌≤◌, ◌<◌}
use native.Mathlib.Omega.{arith}
use native.Mathlib.Decide.{ℕ_discrete}
use borrow.Author.Tests.{ne_eqb}
use lib.Dec.{eqb}
use lib.ListN.{length, get_or}
use Rattle.usb_store.specs.Layout.{store_length, used_field, hub_field, child_field, max_children_field}
use Rattle.usb_store.specs.Access.{byte_at, with_bytes, with_byte}
use Rattle.usb_store.proofs.Fields.{with_length, byte_same}
use Rattle.usb_device.specs.Device.{new_device, free_places}
use Rattle.usb_device.proofs.Free.{count_not, count_agree, count_one, free_field, free_taken, new_byte, new_elsewhere}
use Rattle.usb_store.proofs.Cells.{Beside, byte_beside}
use Rattle.usb_model.specs.World.{World, M}
use Rattle.usb_model.specs.Count.{devices, is_hub, hubs, most_requests}
use Rattle.usb_model.proofs.Costs.{Frame, Costs}

-- 8 for each device, and 444 for each hub
unfoldable pub budget : List ℕ → ℕ
budget s = most_requests s

-- ---- what is known of a store

-- of a used place, whether its hub byte is 0; of a port of a hub, whether its child byte is 0
pub data Known : Type 0 where
  nothing : Known
  place : ℕ → Bool → Known
  port : ℕ → ℕ → Bool → Known

abbrev pub Facts : Known → List ℕ → Type 0
Facts nothing s = Unit {0}
Facts (place p b) s = (eqb (byte_at s p used_field) 0 ≡ false) × (eqb (byte_at s p hub_field) 0 ≡ b)
Facts (port p q b) s = (q < 10) × (eqb (byte_at s p (child_field q)) 0 ≡ b)

pub record Knows (k : Known) (s : List ℕ) : Type 0 where
  pub whole : length s ≡ store_length
  pub most : (h : ℕ) → byte_at s h max_children_field ≤ 10
  pub facts : Facts k s

abbrev pub forget : {k : Known} {s : List ℕ} → Knows k s → Knows nothing s
forget h = record { whole = h.whole; most = h.most; facts = tt }

-- what programs spend is requests, and what they own is the budget
abbrev pub frame : (k l : Known) → ((s : List ℕ) → Knows k s → Knows l s) → Frame World
frame k l keep = record {
  pre = λ w. Knows k w.store;
  post = λ w. Knows l w.store;
  keep = λ w h. keep w.store h;
  spent = λ w. w.at.requests;
  owned = λ w. budget w.store;
}

-- n requests at most, beyond what the budget gained: where what is known stays so, and where it does not
abbrev pub Keeps : Known → ℕ → {A : Type 0} → M A → Type 0
Keeps k n m = Costs (frame k k (λ s h. h)) n m

abbrev pub Sends : Known → ℕ → {A : Type 0} → M A → Type 0
Sends k n m = Costs (frame k nothing (λ s h. forget h)) n m

-- ---- the budget

-- every place is a device or free
all_places : (s : List ℕ) → free_places s + devices s ≡ 32
all_places s = count_not (λ place. eqb (byte_at s place used_field) 0) 32

-- where one place becomes a hub, there is one more, unless it was one
hubs_more : (s t : List ℕ) (b : Bool) (p : ℕ) → p < 32 → is_hub s p ≡ not b → is_hub t p ≡ true → ((q : ℕ) → q ≢ p → is_hub t q ≡ is_hub s q)
    → hubs t ≡ hubs s + cond b 1 0
hubs_more s t b p l was is same =
    let one = rw (was, is) at (count_one (is_hub s) (is_hub t) p 32 l (λ q _ d. same q d)) in
    omega (arith, one, part b)
  where
    part : (b : Bool) → cond {A = ℕ} (not b) 1 0 + cond b 1 0 ≡ 1
    part true = refl
    part false = refl

-- ---- what is known after a write, and what the write adds to the budget

pub record Wrote (k : Known) (d : ℕ) (s t : List ℕ) : Type 0 where
  pub knows : Knows k t
  pub gain : budget t ≡ budget s + d

-- n bytes from field f on, none of them used or the hub byte
pub record Clear (f n : ℕ) : Type 0 where
  pub past : 0 < f
  pub room : f + n ≤ 1152
  pub hub : Beside f n hub_field

-- nor a child or MaxChildren
pub record Plain (f n : ℕ) : Type 0 where
  pub clear : Clear f n
  pub ports : (f + n ≤ 96) ⊎ (107 ≤ f)

module _ {k : Known} {s : List ℕ} (knows : Knows k s) (p f : ℕ) (vs : List ℕ) (c : Clear f (length vs)) where
  used_kept : (q : ℕ) → byte_at (with_bytes s p f vs) q used_field ≡ byte_at s q used_field
  used_kept q = byte_beside s p f vs q used_field c.room (omega arith) (λ e. inr c.past)

  hub_kept : (q : ℕ) → byte_at (with_bytes s p f vs) q hub_field ≡ byte_at s q hub_field
  hub_kept q = byte_beside s p f vs q hub_field c.room (omega arith) (λ e. c.hub)

  clear_writes : Facts k (with_bytes s p f vs) → ((h : ℕ) → byte_at (with_bytes s p f vs) h max_children_field ≤ 10)
      → Wrote k 0 s (with_bytes s p f vs)
  unfolding budget
  clear_writes facts most = record {
    knows = record { whole = with_length s p f vs ∙ knows.whole; most = most; facts = facts };
    gain =
        omega (
          arith,
          free_field s p f vs c.past c.room,
          all_places s,
          all_places (with_bytes s p f vs),
          count_agree (is_hub s) (is_hub (with_bytes s p f vs)) 32 (λ q l. rw (used_kept q, hub_kept q)),
        );
  }

  -- where no child is written the facts are as they were
  facts_kept : ((j : ℕ) → j < 10 → Beside f (length vs) (child_field j)) → Facts k (with_bytes s p f vs)
  facts_kept b = go k knows.facts
    where
      go : (k : Known) → Facts k s → Facts k (with_bytes s p f vs)
      go nothing h = tt
      go (place q _) h = (rw (used_kept q) h.0, rw (hub_kept q) h.1)
      go (port q j _) h = (h.0, rw (byte_beside s p f vs q (child_field j) c.room (omega arith) (λ e. b j h.0)) h.1)

  -- where MaxChildren is not written it is as it was
  most_kept : (h : ℕ) → (h ≡ p → Beside f (length vs) max_children_field) → byte_at (with_bytes s p f vs) h max_children_field ≤ 10
  most_kept h b = omega (arith, byte_beside s p f vs h max_children_field c.room (omega arith) b, knows.most h)

pub plain_writes : {k : Known} {s : List ℕ} → Knows k s → (p f : ℕ) (vs : List ℕ) → Plain f (length vs) → Wrote k 0 s (with_bytes s p f vs)
plain_writes n p f vs r =
    clear_writes n p f vs r.clear (facts_kept n p f vs r.clear (λ j l. beside (child_field j) (omega arith) (omega arith)))
    (λ h. most_kept n p f vs r.clear h (λ e. beside max_children_field (omega arith) (omega arith)))
  where
    beside : (g : ℕ) → 96 ≤ g → g < 107 → Beside f (length vs) g
    beside g l m = ⊎_elim (λ x. inl (omega arith)) (λ x. inr (omega arith)) r.ports

-- a byte after the hub byte
byte_clear : (f : ℕ) → (7 < f) × (f < 1152) → Clear f 1
byte_clear f h = record { past = omega arith; room = omega arith; hub = inr h.0 }

pub most_writes : {k : Known} {s : List ℕ} → Knows k s → (p v : ℕ) → p < 32 → v ≤ 10 → Wrote k 0 s (with_byte s p max_children_field v)
most_writes {s} n p v inside l =
    let c : Clear max_children_field 1 = byte_clear max_children_field (omega arith) in
    clear_writes n p max_children_field (v ∷ []) c (facts_kept n p max_children_field (v ∷ []) c (λ j m. inr (omega arith))) (λ h. go c h (ℕ_discrete h p))
  where
    go : Clear max_children_field 1 → (h : ℕ) → Dec (h ≡ p) → byte_at (with_byte s p max_children_field v) h max_children_field ≤ 10
    go c h (yes e) = rw e (omega (arith, byte_same s p max_children_field v (record { whole = n.whole; inside = inside; room = omega arith })))
    go c h (no d) = most_kept n p max_children_field (v ∷ []) c h (λ e. absurd (d e))

-- the child byte, where no port is known
pub child_writes : {s : List ℕ} {q : ℕ} {b : Bool} → Knows (place q b) s → (p j v : ℕ) → j < 10
    → Wrote (place q b) 0 s (with_byte s p (child_field j) v)
child_writes {q} n p j v l =
    let c : Clear (child_field j) 1 = byte_clear (child_field j) (omega arith) in
    clear_writes n p (child_field j) (v ∷ []) c (
      rw (used_kept n p (child_field j) (v ∷ []) c q) n.facts.0,
      rw (hub_kept n p (child_field j) (v ∷ []) c q) n.facts.1,
    ) (λ h. most_kept n p (child_field j) (v ∷ []) c h (λ e. inl (omega arith)))

-- the hub byte of a used place: 444 more, unless it was a hub
pub hub_writes : {s : List ℕ} {p : ℕ} {b : Bool} → Knows (place p b) s → (v : ℕ) → p < 32 → v ≢ 0
    → Wrote (place p false) (444 * cond b 1 0) s (with_byte s p hub_field v)
unfolding budget
hub_writes {s} {p} {b} n v inside d = record {
  knows = record {
    whole = with_length s p hub_field (v ∷ []) ∙ n.whole;
    most = λ h. omega (arith, kept h max_children_field (omega arith) (λ e. inl (omega arith)), n.most h);
    facts = (is_used, is-hub);
  };
  gain =
      omega (
        arith,
        free_field s p hub_field (v ∷ []) (omega arith) (omega arith),
        all_places s,
        all_places t,
        hubs_more s t b p inside (rw (n.facts.0, n.facts.1)) (rw (is_used, is-hub))
            (λ q e. rw (kept q used_field (omega arith) (λ x. absurd (e x)), kept q hub_field (omega arith) (λ x. absurd (e x)))),
      );
}
  where
    t : List ℕ
    t = with_byte s p hub_field v

    kept : (q g : ℕ) → g < 1152 → (q ≡ p → Beside hub_field 1 g) → byte_at t q g ≡ byte_at s q g
    kept q g l b = byte_beside s p hub_field (v ∷ []) q g (omega arith) l b

    is_used : eqb (byte_at t p used_field) 0 ≡ false
    is_used = rw (kept p used_field (omega arith) (λ e. inr (omega arith))) n.facts.0

    is-hub : eqb (byte_at t p hub_field) 0 ≡ false
    is-hub = rw (byte_same s p hub_field v (record { whole = n.whole; inside = inside; room = omega arith })) (ne_eqb v 0 d)

-- a new device at a place that is not used: 8 more
pub new_writes : {k : Known} {s : List ℕ} → Knows k s → (p : ℕ) → p < 32 → byte_at s p used_field ≡ 0
    → Wrote (place p true) 8 s (with_bytes s p 0 (new_device p))
unfolding budget new_device
new_writes {s} n p inside was = record {
  knows = record {
    whole = with_length s p 0 (new_device p) ∙ n.whole;
    most = λ h. most h (ℕ_discrete h p);
    facts = (ap (λ (v : ℕ). eqb v 0) (new used_field (omega arith)), ap (λ (v : ℕ). eqb v 0) (new hub_field (omega arith)));
  };
  gain =
      omega (
        arith,
        free_taken s p n.whole inside was,
        all_places s,
        all_places t,
        count_agree (is_hub s) (is_hub t) 32 (λ q l. agree q (ℕ_discrete q p)),
      );
}
  where
    t : List ℕ
    t = with_bytes s p 0 (new_device p)

    new : (f : ℕ) → f < 1152 → byte_at t p f ≡ get_or (new_device p) f 0
    new f l = new_byte s p f n.whole inside l

    old : (q g : ℕ) → g < 1152 → q ≢ p → byte_at t q g ≡ byte_at s q g
    old q g l d = new_elsewhere s p q g l d

    most : (h : ℕ) → Dec (h ≡ p) → byte_at t h max_children_field ≤ 10
    most h (yes e) = rw e (omega (arith, new max_children_field (omega arith)))
    most h (no d) = omega (arith, old h max_children_field (omega arith) d, n.most h)

    agree : (q : ℕ) → Dec (q ≡ p) → is_hub t q ≡ is_hub s q
    agree q (yes e) = rw (e, new used_field (omega arith), new hub_field (omega arith), was)
    agree q (no d) = rw (old q used_field (omega arith) d, old q hub_field (omega arith) d)
