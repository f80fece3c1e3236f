-- The walk, a descriptor at a turn: what is left to walk from here gives what the whole walk gives. Assumes nothing.
use mathlib.Core.Path.{◌≡◌, refl, sym, ap, ◌∙◌}
use mathlib.Core.Bool.{Bool, false}
use mathlib.Core.List.{List, [], ◌∷◌}
use Rattle.std.specs.Prelude.{None, Some, Result, Ok, Err, IsErr, IsErrAnd}
use Rattle.std.proofs.lemmas.Result.{err_from_is_err_and}
use Prim.Native.Nat.{ℕ, suc, ◌+◌, ◌-◌, ◌≤◌, ◌<◌}
use native.Mathlib.Nat.{add-zero}
use native.Mathlib.Omega.{arith}
use lib.ListN.{length, get_or, take, drop, length-drop, drop_of_length-le}
use lib.Seq.{take_all, drop-drop, get_or-drop}
use Rattle.usb_types.specs.declared.types.ErrorCode.{ErrorCode}
use Rattle.usb_types.specs.declared.types.ErrorCode.TheVariants.{GarbledConfiguration}
use Rattle.usb_model.specs.Programs.{on, Program, ◌>>=◌, skip, throw, when}
use Rattle.usb_model.specs.Walk.{Walk, max_interfaces, max_endpoints, record_length, begin, descriptor, walk_from, walk_all, walked, walk}
use Rattle.usb_model.proofs.Record.{walk_fuel, walk_enough}
use Rattle.usb_walk.specs.declared.Last.{Last}
use Rattle.usb_walk.specs.Steps.{Next, Ready, Goes, state, goes, ends_with}

pub record Walking (descriptors before kept : List ℕ) (offset : ℕ) (last : Last) : Type 0 where
  pub is : walked (walk_from (suc (length descriptors)) (drop offset descriptors) (state kept last)) ≡ walk descriptors before
  pub ready : Ready kept last

pub starts_empty : (d kept : List ℕ) → length d ≡ 0 → ends_with (Err GarbledConfiguration) kept ≡ walk d kept
unfolding walk walk_all throw
starts_empty [] kept e = refl
starts_empty (x ∷ d) kept e = absurd (omega arith)

pub starts : (d kept : List ℕ) (offset : ℕ) → (length d ≡ 0 → ⊥) → offset ≡ get_or d 0 0 → length kept ≡ record_length
    → Walking d kept kept offset (record { interface = max_interfaces; endpoint = max_endpoints; is_alternate = false })
unfolding walk
starts [] kept offset n o l = absurd (n refl)
starts (x ∷ d) kept offset n o l = record {
  is = rw o (ap walked (sym (walk_enough (suc (length (x ∷ d))) x d (omega arith) (begin kept))));
  ready = record { whole = l; interface = omega arith };
}

pub ends : {d before kept : List ℕ} {offset : ℕ} {last : Last} → Walking d before kept offset last → length d ≤ offset
    → ends_with (Ok tt) kept ≡ walk d before
unfolding walk_from skip
ends {d} w h = rw (drop_of_length-le d h) at w.is

-- the part of the slice from offset on, as the code lends it
abbrev part : List ℕ → ℕ → List ℕ
part d offset = take (length d - offset) (drop offset d)

rest : (d : List ℕ) (offset : ℕ) → part d offset ≡ drop offset d
rest d offset = take_all (length d - offset) (drop offset d) (omega (arith, length-drop offset d))

first : (d : List ℕ) (offset : ℕ) → get_or (drop offset d) 0 0 ≡ get_or d offset 0
first d offset = get_or-drop offset d 0 0 ∙ rw add-zero

-- what a descriptor leaves to walk
abbrev left : List ℕ → ℕ → Bool → Program Walk (Unit {0})
left d offset more = when more (walk_from (length d) (drop (get_or d offset 0) (drop offset d)))

head : (n : ℕ) (d : List ℕ) (k : Walk) → 0 < length d
    → walk_from (suc n) d k ≡ on (descriptor d k) (λ more. when more (walk_from n (drop (get_or d 0 0) d)))
unfolding walk_from ◌>>=◌
head n [] k h = absurd (omega arith)
head n (x ∷ d) k h = refl

module _ (d before kept : List ℕ) (offset : ℕ) (last : Last) (w : Walking d before kept offset last) (h : offset < length d)
    (after : List ℕ) (next : Next) (g : Goes (descriptor (part d offset)) (part d offset) kept last after next) where
  turn : walked (on (goes after last next) (left d offset)) ≡ walk d before
  turn =
      let is = rw rest at g.is in
      let one = rw first at (head (length d) (drop offset d) (state kept last) (omega (arith, length-drop offset d))) in
      rw (← is) (sym (ap walked one) ∙ w.is)

  pub ended : next ≡ Ok None → ends_with (Ok tt) after ≡ walk d before
  unfolding when skip
  ended e = rw e at turn

  pub refused : {e : ErrorCode} (r : Result (Unit {0}) ErrorCode) → next ≡ Err e → IsErr r × IsErrAnd r (λ f. f ≡ e) → ends_with r after ≡ walk d before
  refused r n x =
      let p = err_from_is_err_and r x.1 in
      rw (p.1 ∙ ap Err p.2) (rw n at turn)

  module _ (l : Last) (e : next ≡ Ok (Some l)) where
    pub moves : 0 < get_or d offset 0
    moves = let m = rw (e, rest, first) at g.moves in m.1

    pub goes_on : (size : ℕ) → size ≡ get_or d offset 0 → Walking d before after (offset + size) l
    unfolding when
    goes_on size s =
        let long = length-drop (offset + size) d in
        let same = walk_fuel (suc (length d)) (length d) (drop (offset + size) d) (omega arith) (omega arith) (state after l) in
        record { is = ap walked same ∙ rw (e, drop-drop, ← s) at turn; ready = (rw e at g.moves).0 }

pub ruleset turns = (starts_empty, starts, ends, ended, refused, goes_on)
