-- Each entry of the table is the bit, by one test over the table. Assumes nothing.
use Rattle.std.proofs.Common.{ℕ, List, [], ◌∷◌, eqb}
use lib.Dec.{eqb→eq}
use Rattle.usb_types.specs.Outcomes.{error_word}
use Rattle.usb_types.proofs.Table.{rule}
use Rattle.usb_types.proofs.types.error_word.Goals as goal

words : List ℕ
words =
    0 ∷ 2 ∷ 4 ∷ 8 ∷ 16 ∷ 32 ∷ 64 ∷ 128 ∷ 256 ∷ 512 ∷ 1024 ∷ 2048 ∷ 4096 ∷ 8192 ∷ 16384 ∷ 32768 ∷ 65536 ∷ 131072 ∷ 262144
    ∷ 524288 ∷ 1048576 ∷ 2097152 ∷ 4194304 ∷ 8388608 ∷ 16777216 ∷ 33554432 ∷ 67108864 ∷ 134217728 ∷ 268435456
    ∷ 536870912 ∷ 1073741824 ∷ 2147483648 ∷ []

pub returns : goal.returns
unfolding words error_word
returns c = rw c.from-bit.ensures (eqb→eq _ _ (rule (λ bit word. eqb word (error_word bit)) words tt _ c.requires 0))
