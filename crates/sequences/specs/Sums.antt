-- Adler-32 (crates/vectors/README.md): "a = 1, b = 0; for each byte a = (a + byte) mod 65521, b = (b + a) mod 65521; the sum is b * 65536 + a".
use Rattle.std.specs.Prelude.{List, [], ◌∷◌, ℕ, ◌+◌, ◌*◌, ◌%◌}

-- the sum of bytes from a and b on
unfoldable pub adler_from : ℕ → ℕ → List ℕ → ℕ
adler_from a b [] = b * 65536 + a
adler_from a b (x ∷ xs) = adler_from ((a + x) % 65521) ((b + (a + x) % 65521) % 65521) xs

unfoldable pub adler : List ℕ → ℕ
adler bytes = adler_from 1 0 bytes
