-- Counts in slices of any length, and the numbers of the first that differ.
use Rattle.std.specs.Prelude.{◌≡◌, Bool, cond, List, ℕ, ◌+◌, ltb, length, get_or, set}

-- one more at an index, up to the largest number of 4 bytes
unfoldable pub counted : List ℕ → ℕ → List ℕ
counted counts i = cond (ltb (get_or counts i 0) 4294967295) (set counts i (get_or counts i 0 + 1)) counts

-- how many numbers are noted once one more is, where there is room for it
unfoldable pub noted : List ℕ → ℕ → ℕ
noted numbers n = cond (ltb n (length numbers)) (n + 1) n

-- a call of an entry that agrees is counted; the number of one that does not is noted
pub record Tallied (agreed differ : List ℕ) (entry : ℕ) (agrees : Bool) (n number : ℕ) (agreed' differ' : List ℕ) (n' : ℕ) : Type 0 where
  pub counts : agreed' ≡ cond agrees (counted agreed entry) agreed
  pub notes : differ' ≡ cond agrees differ (set differ n number)
  pub number_noted : n' ≡ cond agrees n (noted differ n)
