-- What busrun finds by the kinds of the actions are all bytes that the call logged. Assumes nothing.
use mathlib.Core.Path.{◌≡◌, refl, sym, ap, ◌∙◌}
use mathlib.Core.Bool.{Bool, true, false, cond, false≢true}
use mathlib.Core.List.{List, [], ◌∷◌}
use Prim.Native.Nat.{ℕ, zero, suc, ◌+◌, ◌*◌, ◌≤◌}
use native.Mathlib.Nat.{add-zero}
use native.Mathlib.Omega.{arith}
use borrow.Author.Tests.{eq-eqb, ne_eqb}
use lib.ListN.{length, get_or, take, drop, replicate, length-replicate}
use lib.Seq.{get_or-drop}
use Rattle.usb_store.specs.Layout.{store_length}
use Rattle.usb_place.proofs.Tests.{replicate_zero}
use Rattle.usb_model.specs.Programs.{end_of}
use Rattle.usb_model.specs.Entry.{accepted, start, call, root_attach}
use Rattle.usb_model.specs.Kept.{Bytes, LentBytes, kinds_in, is_kind}
use Rattle.usb_model.specs.Demand3.{attaches, verdict, program}
use Rattle.usb_model.proofs.Bytes.{zeros}
use Rattle.usb_model.proofs.Definitions.{definitions}
use Rattle.usb_model.proofs.Keeps.{left_holds}
use Rattle.usb_model.proofs.Onward.{long, log-length, later_kept, kinds_logged}
use Rattle.usb_model.proofs.Demand3.{call_walks}
use Rattle.busrun.specs.Run.{log_length, is_logged, actions_in, lends, logged, attached, busrun, Writes}

-- ---- actions of the three kinds, and a kind of 0 behind them

kinds_most : (test : ℕ → Bool) (n : ℕ) (l : List ℕ) → kinds_in test n l ≤ n
unfolding kinds_in
kinds_most test zero l = omega arith
kinds_most test (suc n) l = go (test (get_or l 0 0)) (kinds_most test n (drop 16 l))
  where
    go : (b : Bool) → kinds_in test n (drop 16 l) ≤ n → cond b 1 0 + kinds_in test n (drop 16 l) ≤ suc n
    go true h = omega (arith, h)
    go false h = omega (arith, h)

kind_some : (k : ℕ) → is_kind k ≡ true → k ≡ 0 → ⊥
kind_some zero e z = false≢true e
kind_some (suc k) e z = omega (arith, z)

-- the first of n + 1 actions that all have a kind
first_kind : (n : ℕ) (l : List ℕ) → kinds_in is_kind (suc n) l ≡ suc n → (get_or l 0 0 ≡ 0 → ⊥) × (kinds_in is_kind n (drop 16 l) ≡ n)
unfolding kinds_in
first_kind n l e = go (is_kind (get_or l 0 0)) refl e (kinds_most is_kind n (drop 16 l))
  where
    go : (b : Bool) → is_kind (get_or l 0 0) ≡ b → cond b 1 0 + kinds_in is_kind n (drop 16 l) ≡ suc n → kinds_in is_kind n (drop 16 l) ≤ n
        → (get_or l 0 0 ≡ 0 → ⊥) × (kinds_in is_kind n (drop 16 l) ≡ n)
    go true k e h = (kind_some _ k, omega (arith, e))
    go false k e h = absurd (omega (arith, e, h))

-- the first action of a log, and those behind it
first_of : (n : ℕ) (l : List ℕ) → actions_in (suc n) l ≡ cond (is_logged l) (1 + actions_in n (drop 16 l)) 0
unfolding actions_in
first_of n [] = refl
first_of n (x ∷ l) = refl

counted : (n a : ℕ) (l : List ℕ) → a ≤ n → kinds_in is_kind a l ≡ a → get_or l (16 * a) 0 ≡ 0 → actions_in n l ≡ a
unfolding actions_in
counted zero a l h e z = omega (arith, h)
counted (suc n) zero l h e z = first_of n l ∙ rw (eq-eqb (get_or l 0 0) 0 z) refl
counted (suc n) (suc a) l h e z =
    let first = first_kind a l e in
    let behind : get_or (drop 16 l) (16 * a) 0 ≡ 0 = get_or-drop 16 l (16 * a) 0 ∙ ap (λ (i : ℕ). get_or l i 0) (omega arith) ∙ z in
    let more : actions_in n (drop 16 l) ≡ a = counted n a (drop 16 l) (omega (arith, h)) first.1 behind in
    first_of n l ∙ rw (ne_eqb (get_or l 0 0) 0 first.0) (omega (arith, more))

-- ---- the call

module _ (outcomes : List ℕ) (b : Bytes outcomes) where
  bytes : LentBytes (lends outcomes)
  bytes = record { old = zeros store_length; new = zeros store_length; outcomes = b; log = zeros log_length }

  is-accepted : verdict (attaches 0) (lends outcomes) ≡ accepted
  unfolding definitions
  is-accepted = refl

  log_is : (attached outcomes).log ≡ (end_of (program (attaches 0) (start (lends outcomes)))).log
  unfolding attached root_attach call
  log_is = rw is-accepted refl

  all_found : actions_in 4096 (attached outcomes).log * 16 ≡ (end_of (program (attaches 0) (start (lends outcomes)))).at.logged
  all_found =
      let w = end_of (program (attaches 0) (start (lends outcomes))) in
      let r = left_holds (call_walks (lends outcomes) bytes (attaches 0) is-accepted).1 in
      let o = r.onward in
      let room = r.good.logged in
      let size : length w.log ≡ log_length = log-length o refl room ∙ length-replicate {A = ℕ} log_length 0 in
      let behind : get_or w.log (16 * o.actions) 0 ≡ 0 =
      ap (λ (i : ℕ). get_or w.log i 0) (sym (add-zero (16 * o.actions)))
      ∙ sym (get_or-drop (16 * o.actions) w.log 0 0)
      ∙ ap (λ (l : List ℕ). get_or l 0 0) (later_kept o refl room)
      ∙ get_or-drop (16 * o.actions) (replicate log_length 0) 0 0
      ∙ replicate_zero log_length (16 * o.actions + 0) in
      let all = counted 4096 o.actions w.log (omega (arith, size, long o refl room)) (kinds_logged o refl room) behind in
      ap (λ (l : List ℕ). actions_in 4096 l * 16) log_is ∙ omega (arith, all, o.logged)

  pub writes : Writes outcomes
  unfolding busrun logged
  writes = ap (λ (k : ℕ). take k (attached outcomes).log) all_found
