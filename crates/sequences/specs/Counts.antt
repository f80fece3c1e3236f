-- Counts of calls and walks, and the numbers of the first that differ.
use Rattle.std.specs.Prelude.{Bool, true, false, cond, List, [], ◌∷◌, ◌++◌, ℕ, ◌+◌, nat_lt, min, length, codes, decimal, replicate, slice_index_or, slice_set}
use Rattle.recorded.specs.declared.entry.EntryPoint.{EntryPoint}
use Rattle.recorded.specs.declared.entry.EntryPoint.TheVariants.{ConfigurationWalk}
use Rattle.recorded.specs.Entries.{number_of}
use Rattle.sequences.specs.declared.tally.Count.{Count}
use Rattle.sequences.specs.declared.tally.Tally.{Tally}

-- one more, up to the largest number of 4 bytes
abbrev pub one_more : ℕ → ℕ
one_more n = min (n + 1) 4294967295

-- a record more: one that agrees is counted as such
abbrev pub counted : Count → Bool → Count
counted count agrees = record { seen = one_more count.seen; agreed = cond agrees (one_more count.agreed) count.agreed }

-- how many records of an entry point agreed, of how many
abbrev pub count_text : Count → List ℕ
count_text count = decimal count.agreed ++ codes " of " ++ decimal count.seen

-- the numbers with one more, where there is room for it: for four there is
abbrev pub noted : List ℕ → ℕ → List ℕ
noted numbers number = cond (nat_lt (length numbers) 4) (numbers ++ number ∷ []) numbers

abbrev pub no_count : Count
no_count = record { seen = 0; agreed = 0 }

abbrev pub no_tally : Tally
no_tally = record { counts = replicate 8 no_count; calls = []; walks = [] }

-- the count of an entry point
abbrev pub count_of : List Count → EntryPoint → Count
count_of counts entry = slice_index_or counts (number_of entry) no_count

-- is it that of a walk?
abbrev pub is_walk : EntryPoint → Bool
is_walk ConfigurationWalk = true
is_walk entry = false

-- a call or walk that agrees or not, with its number in its file
abbrev pub tallied : Tally → EntryPoint → Bool → ℕ → Tally
tallied t entry agrees number = record {
  counts = slice_set t.counts (number_of entry) (counted (count_of t.counts entry) agrees);
  calls = cond agrees t.calls (cond (is_walk entry) t.calls (noted t.calls number));
  walks = cond agrees t.walks (cond (is_walk entry) (noted t.walks number) t.walks);
}
