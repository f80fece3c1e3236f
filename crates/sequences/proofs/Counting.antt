-- Counts in slices of any length, over plain values. Assumes nothing.
use Rattle.std.specs.Prelude.{◌≡◌, Bool, true, false, cond, ℕ, ◌+◌, ◌≤◌, ◌<◌, ltb, List, length, get_or, set}
use Rattle.std.proofs.Common.{refl, sym}
use lib.Seq.{set_out}
use borrow.Author.Tests.{lt-ltb, le-ltb}
use Rattle.sequences.specs.Tallies.{counted, noted}

cond_same : (b : Bool) {x y : List ℕ} → x ≡ y → cond b x y ≡ y
cond_same true e = e
cond_same false e = refl

module _ (counts : List ℕ) (i : ℕ) where
  pub counted_out : length counts ≤ i → counts ≡ counted counts i
  unfolding counted
  counted_out h = sym (cond_same (ltb (get_or counts i 0) 4294967295) (set_out counts i (get_or counts i 0 + 1) h))

  pub counted_one : get_or counts i 0 < 4294967295 → set counts i (get_or counts i 0 + 1) ≡ counted counts i
  unfolding counted
  counted_one h = simp (lt-ltb _ _ h)

  pub counted_full : 4294967295 ≤ get_or counts i 0 → counts ≡ counted counts i
  unfolding counted
  counted_full h = simp (le-ltb _ _ h)

pub noted_out : (numbers : List ℕ) (n : ℕ) → length numbers ≤ n → n ≡ noted numbers n
unfolding noted
noted_out numbers n h = simp (le-ltb _ _ h)

pub noted_one : (numbers : List ℕ) (n : ℕ) → n < length numbers → n + 1 ≡ noted numbers n
unfolding noted
noted_one numbers n h = simp (lt-ltb _ _ h)

pub ruleset counts = (counted_out, counted_one, counted_full)

pub ruleset numbers = (set_out, noted_out, noted_one)
