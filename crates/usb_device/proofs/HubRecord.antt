-- The record of a hub's ten ports: each value by its port, and loading what was stored gives it back. Assumes nothing.
use mathlib.Core.Path.{◌≡◌, refl, sym, ap, ◌∙◌, subst}
use mathlib.Core.Logic.{inr}
use mathlib.Core.List.{List, [], ◌∷◌}
use Prim.Native.Nat.{ℕ, zero, suc, ◌+◌, ◌≤◌, ◌<◌, ◌^◌}
use native.Mathlib.Nat.{add-zero, zero-add}
use native.Mathlib.Omega.{arith}
use lib.ListN.{length, get_or}
use lib.Seq.{ext_get_or}
use denote.Param.Members.{Mut, Called}
use Rattle.std.specs.Array.{IsFromFnResult, IsFromFnResultFrom}
use Rattle.usb_types.specs.Numbers.{little_endian}
use Rattle.usb_store.specs.Layout.{port_status_field, children_field, child_field, max_children_field}
use Rattle.usb_store.specs.Access.{Within, byte_at, number_at, with_bytes, with_number}
use Rattle.usb_store.proofs.Fields.{with_length, byte_same, byte_other, bytes_same, byte_of_bytes, number_same, number_other}
use Rattle.usb_device.specs.declared.hub.HubDevice.{HubDevice}
use Rattle.usb_device.specs.Ports.{ports_from, ten_ports, hub_at, with_statuses, with_hub, TenPorts}

ports_at : (n port : ℕ) (f : ℕ → ℕ) (k : ℕ) → k < n → get_or (ports_from n port f) k 0 ≡ f (port + k)
ports_at zero port f k h = absurd (omega arith)
ports_at (suc n) port f zero h = ap f (sym (add-zero port))
ports_at (suc n) port f (suc k) h =
    let next : port + 1 + k ≡ port + suc k = omega arith in
    ports_at n (port + 1) f k (omega arith) ∙ ap f next

-- the value of a port
pub ten_at : (f : ℕ → ℕ) (port : ℕ) → port < 10 → get_or (ten_ports f) port 0 ≡ f port
ten_at f port h = let zero-first : 0 + port ≡ port = omega arith in ports_at 10 0 f port h ∙ ap f zero-first

-- a list of ten is told by the value of each port
ten_is : (f : ℕ → ℕ) (vs : List ℕ) → length vs ≡ 10 → ((port : ℕ) → port < 10 → f port ≡ get_or vs port 0) → ten_ports f ≡ vs
ten_is f vs long same = ext_get_or 0 (ten_ports f) vs (sym long) (λ port h. ten_at f port h ∙ same port h)

-- what calls of a closure made that changes nothing and gives f of each port
module _ {F : Type 0} {g : Mut F (ℕ × Unit {0}) ℕ} {q : F} (f : ℕ → ℕ) (vs : List ℕ)
    (gives : (port y : ℕ) (r : F) → Called g q (port, tt) y r → (r ≡ q) × (y ≡ f port)) where
  made_from : (n port k : ℕ) → k < n → IsFromFnResultFrom g q vs port n → get_or vs (port + k) 0 ≡ f (port + k)
  made_from zero port k h made = absurd (omega arith)
  made_from (suc n) port zero h (r, y, is, called, rest) = rw add-zero (is.1 0 ∙ (gives port y r called).1)
  made_from (suc n) port (suc k) h (r, y, is, called, rest) =
      let next : port + suc k ≡ port + 1 + k = omega arith in
      rw next (made_from n (port + 1) k (omega arith) (subst (λ s. IsFromFnResultFrom g s vs (port + 1) n) (gives port y r called).0 rest))

  pub made : IsFromFnResult g q vs 10 → ten_ports f ≡ vs
  made all = ten_is f vs all.long (λ port h. sym (rw zero-add at (made_from 10 0 port h all.each)))

-- the status and the child of a port, as the code reads them
pub status_at : (s : List ℕ) (place port : ℕ) → port < 10
    → get_or (hub_at s place).port_status port 0 ≡ number_at s place (port_status_field port) 4
unfolding hub_at
status_at s place port h = ten_at (λ q. number_at s place (port_status_field q) 4) port h

pub child_at : (s : List ℕ) (place port : ℕ) → port < 10 → get_or (hub_at s place).children port 0 ≡ byte_at s place (child_field port)
unfolding hub_at
child_at s place port h = ten_at (λ q. byte_at s place (child_field q)) port h

-- ---- statuses stored

pub statuses_length : (s : List ℕ) (place port : ℕ) (vs : List ℕ) → length (with_statuses s place port vs) ≡ length s
unfolding with_statuses
statuses_length s place port [] = refl
statuses_length s place port (v ∷ vs) =
    statuses_length (with_number s place (port_status_field port) 4 v) place (port + 1) vs ∙ with_length s place (port_status_field port) (little_endian 4 v)

-- the status of a port before them is as it was
statuses_before : (vs s : List ℕ) (place port q : ℕ) → q < port
    → number_at (with_statuses s place port vs) place (port_status_field q) 4 ≡ number_at s place (port_status_field q) 4
unfolding with_statuses
statuses_before [] s place port q h = refl
statuses_before (v ∷ vs) s place port q h =
    statuses_before vs (with_number s place (port_status_field port) 4 v) place (port + 1) q (omega arith)
    ∙ number_other s place (port_status_field port) (little_endian 4 v) place (port_status_field q) 4 (inr (omega arith))

statuses_same : (vs s : List ℕ) (place port k : ℕ) → length s ≡ 36864 → place < 32 → port + length vs ≤ 10
    → ((i : ℕ) → get_or vs i 0 < 256 ^ 4) → k < length vs
    → number_at (with_statuses s place port vs) place (port_status_field (port + k)) 4 ≡ get_or vs k 0
unfolding with_statuses
statuses_same [] s place port k whole inside room fits h = absurd (omega arith)
statuses_same (v ∷ vs) s place port zero whole inside room fits h =
    rw add-zero
    (statuses_before vs (with_number s place (port_status_field port) 4 v) place (port + 1) port (omega arith)
    ∙ number_same s place (port_status_field port) 4 v (record { whole = whole; inside = inside; room = omega arith }) (fits 0))
statuses_same (v ∷ vs) s place port (suc k) whole inside room fits h =
    let next : port + suc k ≡ port + 1 + k = omega arith in
    rw next
    (statuses_same vs (with_number s place (port_status_field port) 4 v) place (port + 1) k
    (with_length s place (port_status_field port) (little_endian 4 v) ∙ whole) inside (omega arith) (λ i. fits (suc i)) (omega arith))

-- ---- the whole record

module _ (s : List ℕ) (place : ℕ) (h : HubDevice) (whole : length s ≡ 36864) (inside : place < 32) (good : TenPorts h) where
  abbrev ports : List ℕ
  ports = with_statuses s place 0 h.port_status

  abbrev with_children : List ℕ
  with_children = with_bytes ports place children_field h.children

  ports_whole : length ports ≡ 36864
  ports_whole = statuses_length s place 0 h.port_status ∙ whole

  children_whole : length with_children ≡ 36864
  children_whole = with_length ports place children_field h.children ∙ ports_whole

  status_back : (port : ℕ) → port < 10 → number_at (with_hub s place h) place (port_status_field port) 4 ≡ get_or h.port_status port 0
  unfolding with_hub
  status_back port l =
      let first : port ≡ 0 + port = omega arith in
      number_other with_children place max_children_field (h.max_children ∷ []) place (port_status_field port) 4 (inr (omega arith))
      ∙ number_other ports place children_field h.children place (port_status_field port) 4 (inr (omega arith))
      ∙ ap (λ (q : ℕ). number_at ports place (port_status_field q) 4) first
      ∙ statuses_same h.port_status s place 0 port whole inside (omega (arith, good.statuses)) good.fits (omega (arith, good.statuses))

  child_back : (port : ℕ) → port < 10 → byte_at (with_hub s place h) place (child_field port) ≡ get_or h.children port 0
  unfolding with_hub
  child_back port l =
      let long : length h.children ≡ 10 = good.children in
      let w : Within ports place children_field (length h.children) = record { whole = ports_whole; inside = inside; room = omega arith } in
      byte_other with_children place max_children_field (h.max_children ∷ []) place (child_field port) (inr (omega arith))
      ∙ byte_of_bytes with_children place children_field (length h.children) port (omega arith)
      ∙ ap (λ (l : List ℕ). get_or l port 0) (bytes_same ports place children_field h.children w)

  max_back : byte_at (with_hub s place h) place max_children_field ≡ h.max_children
  unfolding with_hub
  max_back =
      byte_same with_children place max_children_field h.max_children (record { whole = children_whole; inside = inside; room = omega arith })

  -- loading what was stored gives it back
  pub load_stored : hub_at (with_hub s place h) place ≡ h
  unfolding hub_at
  load_stored =
      rw (
        ten_is (λ port. number_at (with_hub s place h) place (port_status_field port) 4) h.port_status good.statuses status_back,
        ten_is (λ port. byte_at (with_hub s place h) place (child_field port)) h.children good.children child_back,
        max_back,
      )
