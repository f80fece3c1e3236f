-- The check sum, over plain values. Assumes nothing.
use Rattle.std.proofs.Common.{◌≡◌, ℕ, ◌+◌, ◌*◌, ◌%◌, ◌≤◌, ◌<◌, List, length, get_or, drop, add-one, drop-cons}
use lib.ListN.{drop_of_length-le}
use Rattle.sequences.specs.Sums.{adler_from}

pub more : (a b : ℕ) (bytes : List ℕ) (i : ℕ) → i < length bytes
    → adler_from a b (drop i bytes) ≡ adler_from ((a + get_or bytes i 0) % 65521) ((b + (a + get_or bytes i 0) % 65521) % 65521) (drop (i + 1) bytes)
unfolding adler_from
more a b bytes i h = rw (add-one, drop-cons bytes i 0)

pub end : (a b : ℕ) (bytes : List ℕ) (i : ℕ) → length bytes ≤ i → adler_from a b (drop i bytes) ≡ b * 65536 + a
unfolding adler_from
end a b bytes i h = rw (drop_of_length-le bytes h)

pub ruleset adler_steps = (more, end)
