-- The ways through the outcome reader, over plain values. Assumes nothing.
use mathlib.Core.Path.{◌≡◌, refl}
use mathlib.Core.Bool.{Bool, true, false, ◌&&◌, ◌||◌}
use mathlib.Core.List.{List}
use Prim.Native.Nat.{ℕ, ◌+◌, ◌*◌, ◌≤◌, ◌<◌}
use native.Mathlib.Omega.{arith}
use borrow.Author.Tests.{lt-ltb, le-ltb, ltb-true, eqb-true}
use lib.Dec.{eqb, ltb}
use lib.ListN.{length, get_or}
use Rattle.usb_types.proofs.LittleEndian.{number_2}
use Rattle.usb_types.specs.Outcomes.{listed}
use Rattle.usb_types.specs.declared.types.Halt.TheVariants.{GarbledOutcome, OutcomesSpent}
use Rattle.usb_model.specs.Programs.{◌>>=◌, ◌>>◌, return, stop, skip, look, change, when}
use Rattle.usb_model.specs.Transfer.{size_of, take_outcome}
use Rattle.std.specs.Prelude.{Ok, Err}
use Rattle.usb_transfer.specs.Outcomes.{Takes}

pub size_is : (rest : List ℕ) → 4 ≤ length rest → size_of rest ≡ get_or rest 2 0 + get_or rest 3 0 * 256
size_is rest h = number_2 rest 2 h

listed_submit : (s e : ℕ) → listed s e ≡ true → s < 10
unfolding listed
listed_submit s e h = go (ltb s 10) (ltb e 10 || eqb e 31) (ltb-true s 10) h
  where
    go : (a b : Bool) → (a ≡ true → s < 10) → (a && b) ≡ true → s < 10
    go true b f h = f refl
    go false b f h = let z : ◌≡◌ {A = ℕ} 0 1 = cc in omega arith

listed_error : (s e : ℕ) → listed s e ≡ true → e < 32
unfolding listed
listed_error s e h = go (ltb s 10) (ltb e 10) (eqb e 31) (ltb-true e 10) (eqb-true e 31) h
  where
    go : (a b d : Bool) → (b ≡ true → e < 10) → (d ≡ true → e ≡ 31) → (a && (b || d)) ≡ true → e < 32
    go true true d f g h = let x = f refl in omega arith
    go true false true f g h = let x = g refl in omega arith
    go true false false f g h = let z : ◌≡◌ {A = ℕ} 0 1 = cc in omega arith
    go false b d f g h = let z : ◌≡◌ {A = ℕ} 0 1 = cc in omega arith

module _ (rest : List ℕ) where
  pub takes_none : length rest < 4 → Takes rest (Err OutcomesSpent)
  unfolding take_outcome ◌>>=◌ ◌>>◌ look when stop
  takes_none h = record { is = λ asked w e. simp (e, lt-ltb _ _ h); good = tt }

  module _ (h : 4 ≤ length rest) where
    pub takes_garbled : listed (get_or rest 0 0) (get_or rest 1 0) ≡ false → Takes rest (Err GarbledOutcome)
    unfolding take_outcome ◌>>=◌ ◌>>◌ look when stop skip
    takes_garbled g = record { is = λ asked w e. simp (e, le-ltb _ _ h, g); good = tt }

    module _ (g : listed (get_or rest 0 0) (get_or rest 1 0) ≡ true) where
      pub takes_cut : length rest < 4 + size_of rest → Takes rest (Err OutcomesSpent)
      unfolding take_outcome ◌>>=◌ ◌>>◌ look when stop skip
      takes_cut l = record { is = λ asked w e. simp (e, le-ltb _ _ h, g, lt-ltb _ _ l); good = tt }

      pub takes_whole : 4 + size_of rest ≤ length rest → size_of rest < 65536
          → Takes rest (Ok (record { submit = get_or rest 0 0; error = get_or rest 1 0; size = size_of rest }))
      unfolding take_outcome ◌>>=◌ ◌>>◌ look when skip change return
      takes_whole l small = record {
        is = λ asked w e. simp (e, le-ltb _ _ h, g, le-ltb _ _ l);
        good = record { submit = listed_submit _ _ g; error = listed_error _ _ g; small = small; inside = l };
      }
