-- Signed numbers in a record of a file.
use Rattle.std.specs.Prelude.{cond, ℕ, ◌-◌, ltb, ℤ, pos, negsuc}

-- 4 bytes as a signed number, by two's complement
unfoldable pub signed : ℕ → ℤ
signed word = cond (ltb word 2147483648) (pos word) (negsuc (4294967295 - word))
