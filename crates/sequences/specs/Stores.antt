-- The stores of a sequence of calls.
use Rattle.std.specs.Prelude.{Bool, cond, List, ◌++◌, ℕ, ◌/◌, ◌%◌, eqb, get_or, take, set, replicate, fold}
use Rattle.std.specs.Simd.{first_chunks}
use Rattle.usb_store.specs.Layout.{store_length, empty_store}
use Rattle.usb_types.specs.Numbers.{number_in}
use Rattle.recorded.specs.declared.head.Asked.{Asked}

-- "bit 0, a new sequence begins"
abbrev pub starts : Asked → Bool
starts asked = eqb (asked.flags % 2) 1

-- "bit 1, the next call's old store is this call's new store"
abbrev pub carries : Asked → Bool
carries asked = eqb (asked.flags / 2 % 2) 1

-- "cut to the old length or with zeros up to it"
unfoldable pub resized : ℕ → List ℕ → List ℕ
resized n s = take n (s ++ replicate n 0)

-- an edit, "5 bytes: an offset of 4 bytes and a byte"
abbrev pub put : List ℕ → List ℕ → List ℕ
put s edit = set s (number_in edit 0 4) (get_or edit 4 0)

-- n edits, one after another
unfoldable pub edited : ℕ → List ℕ → List ℕ → List ℕ
edited n edits s = fold put s (first_chunks 5 n edits)

-- the sequence's store before a call: where a new sequence begins, "the old store is 36,864 zeros"
unfoldable pub store_before : Asked → List ℕ → List ℕ
store_before asked s = cond (starts asked) empty_store s

-- "The old store of a call is the sequence's store, cut .., and then with the edits' bytes put in"
unfoldable pub old_store : Asked → List ℕ → List ℕ → List ℕ
old_store asked edits s = edited asked.edits edits (resized asked.old_len s)

-- the sequence's store after a call that left the new store: "the new store if bit 1 of the flags is set, else it stays"
unfoldable pub store_after : Asked → List ℕ → List ℕ → List ℕ
store_after asked new s = cond (carries asked) (resized store_length new) s
