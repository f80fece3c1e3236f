-- What most of the driver does: it keeps the bytes that the claim depends on, and adds events of some kind. Assumes nothing.
use mathlib.Core.Path.{◌≡◌, refl, sym, ◌∙◌, subst}
use mathlib.Core.Logic.{◌⊎◌, inl, inr, ⊎_elim}
use mathlib.Core.List.{List, [], ◌∷◌}
use Prim.Native.Nat.{ℕ, ◌+◌, ◌*◌, ◌≤◌, ◌<◌}
use native.Mathlib.Omega.{arith}
use lib.ListN.{length}
use Rattle.usb_store.specs.Layout.{used_field, number_field, status_field, hub_field, configuration_value_field, child_field}
use Rattle.usb_store.specs.Access.{byte_at, with_bytes}
use Rattle.usb_store.proofs.Fields.{Apart, byte_other}
use Rattle.usb_store.proofs.Cells.{spot_apart}
use Rattle.usb_model.specs.World.{put, put_bytes}
use Rattle.usb_model.specs.Kept.{Bytes}
use Rattle.usb_model.specs.History.{Event}
use Rattle.usb_model.proofs.Bytes.{bytes_one}
use Rattle.usb_model.proofs.Stores.{Follows, Plain, plain_less, plain_follows}
use Rattle.usb_model.proofs.Triples.{State, store, Preorder, Keeps, stored, k_store}

-- ---- the bytes that the claim depends on

pub data Key : ℕ → Type 0 where
  used : Key used_field
  number : Key number_field
  status : Key status_field
  hub : Key hub_field
  value : Key configuration_value_field
  child : (j : ℕ) → j < 10 → Key (child_field j)

-- n bytes from field f on that lie between keys
pub data Gap : ℕ → ℕ → Type 0 where
  second : Gap 2 1
  fourth : {f n : ℕ} → 4 ≤ f → f + n ≤ 7 → Gap f n
  eighth : {f n : ℕ} → 8 ≤ f → f + n ≤ 39 → Gap f n
  fortieth : {f n : ℕ} → 40 ≤ f → f + n ≤ 96 → Gap f n
  last : {f n : ℕ} → 106 ≤ f → f + n ≤ 1152 → Gap f n

gap_away : {f n g : ℕ} → Gap f n → Key g → (f + n ≤ g) ⊎ (g < f)
gap_away second used = inr (omega arith)
gap_away second number = inr (omega arith)
gap_away second status = inl (omega arith)
gap_away second hub = inl (omega arith)
gap_away second value = inl (omega arith)
gap_away second (child j h) = inl (omega arith)
gap_away (fourth a b) used = inr (omega arith)
gap_away (fourth a b) number = inr (omega arith)
gap_away (fourth a b) status = inr (omega arith)
gap_away (fourth a b) hub = inl (omega arith)
gap_away (fourth a b) value = inl (omega arith)
gap_away (fourth a b) (child j h) = inl (omega arith)
gap_away (eighth a b) used = inr (omega arith)
gap_away (eighth a b) number = inr (omega arith)
gap_away (eighth a b) status = inr (omega arith)
gap_away (eighth a b) hub = inr (omega arith)
gap_away (eighth a b) value = inl (omega arith)
gap_away (eighth a b) (child j h) = inl (omega arith)
gap_away (fortieth a b) used = inr (omega arith)
gap_away (fortieth a b) number = inr (omega arith)
gap_away (fortieth a b) status = inr (omega arith)
gap_away (fortieth a b) hub = inr (omega arith)
gap_away (fortieth a b) value = inr (omega arith)
gap_away (fortieth a b) (child j h) = inl (omega arith)
gap_away (last a b) used = inr (omega arith)
gap_away (last a b) number = inr (omega arith)
gap_away (last a b) status = inr (omega arith)
gap_away (last a b) hub = inr (omega arith)
gap_away (last a b) value = inr (omega arith)
gap_away (last a b) (child j h) = inr (omega arith)

pub key_low : {g : ℕ} → Key g → g < 1152
key_low used = omega arith
key_low number = omega arith
key_low status = omega arith
key_low hub = omega arith
key_low value = omega arith
key_low (child j h) = omega arith

pub gap_room : {f n : ℕ} → Gap f n → f + n ≤ 1152
gap_room second = omega arith
gap_room (fourth a b) = omega arith
gap_room (eighth a b) = omega arith
gap_room (fortieth a b) = omega arith
gap_room (last a b) = b

-- none of the bytes K is among the n from field f of place p on
pub record Clear (K : ℕ → ℕ → Type 0) (p f n : ℕ) : Type 0 where
  pub apart : (q g : ℕ) → K q g → Apart p f n q g 1

abbrev pub Keys : ℕ → ℕ → Type 0
Keys q g = Key g

pub keys_clear : {p f n : ℕ} → Gap f n → Clear Keys p f n
keys_clear {p} {f} {n} gap = record { apart = λ q g k. spot_apart p f n q g (gap_room gap) (key_low k) (λ _. gap_away gap k) }

pub apart_less : (p f m n q g : ℕ) → m ≤ n → Apart p f n q g 1 → Apart p f m q g 1
apart_less p f m n q g l = ⊎_elim (λ (a : p * 1152 + f + n ≤ q * 1152 + g). inl (omega arith)) (λ a. inr a)

-- ---- events

-- h' is h with events of E in front
pub data Adds (E : Event → Type 0) (h : List Event) : List Event → Type 0 where
  none : Adds E h h
  more : {e : Event} {h' : List Event} → E e → Adds E h h' → Adds E h (e ∷ h')

pub adds_join : {E : Event → Type 0} {a b c : List Event} → Adds E a b → Adds E b c → Adds E a c
adds_join p none = p
adds_join p (more v q) = more v (adds_join p q)

pub adds_map : {E E' : Event → Type 0} {a b : List Event} → ((e : Event) → E e → E' e) → Adds E a b → Adds E' a b
adds_map f none = none
adds_map f (more v q) = more (f _ v) (adds_map f q)

pub adds_one : {E : Event → Type 0} {e : Event} {h h' : List Event} → E e → h' ≡ e ∷ h → Adds E h h'
adds_one {E} {e} {h} v q = subst (λ t. Adds E h t) (sym q) (more v none)

module _ {h₀ : List Event} (K : ℕ → ℕ → Type 0) (E : Event → Type 0) where
  pub record Quiet (s t : State h₀) : Type 0 where
    pub keep : (q g : ℕ) → K q g → byte_at (store t) q g ≡ byte_at (store s) q g
    pub past : Adds E s.past t.past

  pub quiet_order : Preorder Quiet
  quiet_order = record {
    same = λ s. record { keep = λ q g k. refl; past = none };
    join = λ r s. record { keep = λ q g k. s.keep q g k ∙ r.keep q g k; past = adds_join r.past s.past };
  }

  -- a write that leaves out the bytes K
  pub write_quiet : (s : State h₀) (p f : ℕ) (vs : List ℕ) (n : ℕ) (x : Follows (store s) (with_bytes (store s) p f vs)) → Clear K p f n
      → length vs ≤ n → Quiet s (stored s (with_bytes (store s) p f vs) x)
  write_quiet s p f vs n x c l = record {
    keep = λ q g k. byte_other (store s) p f vs q g (apart_less p f (length vs) n q g l (c.apart q g k));
    past = none;
  }

  pub bytes_quiet : (p f n : ℕ) (vs : List ℕ) → Clear K p f n → Plain f n → length vs ≤ n → Bytes vs → Keeps Quiet (put_bytes p f vs)
  unfolding put_bytes
  bytes_quiet p f n vs c r l b = k_store quiet_order (λ t. with_bytes t p f vs) (λ s.
      let x = plain_follows s.good p f vs (plain_less l r) b in (x, write_quiet s p f vs n x c l))

  pub put_quiet : (p f v : ℕ) → Clear K p f 1 → Plain f 1 → v < 256 → Keeps Quiet (put p f v)
  put_quiet p f v c r l = bytes_quiet p f 1 (v ∷ []) c r (omega arith) (bytes_one l)
