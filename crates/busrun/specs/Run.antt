-- What busrun writes.
use Rattle.std.specs.Prelude.{◌≡◌, Bool, not, List, ℕ, ◌*◌, nat_eq, get_or, take, replicate}
use Rattle.std.specs.List.{prefix_len}
use Rattle.std.specs.Simd.{first_chunks}
use Rattle.usb_types.specs.Actions.{action_length}
use Rattle.usb_store.specs.Layout.{empty_store}
use Rattle.usb_model.specs.Programs.{end_of}
use Rattle.usb_model.specs.Attach.{usb_attach_root_hub}
use Rattle.usb_model.specs.Entry.{Lent, Left, start, root_attach}
use Rattle.usb_entry.specs.Replies.{lent}

abbrev pub log_length : ℕ
log_length = 65536

-- was an action logged in these 16 bytes? "kind (1 request, 2 wait, 3 ..)", and 0 where none was
abbrev pub is_logged : List ℕ → Bool
is_logged action = not (nat_eq (get_or action 0 0) 0)

-- how many actions stand at the start of a log, at most n
unfoldable pub actions_in : ℕ → List ℕ → ℕ
actions_in n log = prefix_len is_logged (first_chunks action_length n log)

-- the bytes of the actions that a log of zeros got
unfoldable pub logged : List ℕ → List ℕ
logged log = take (actions_in 4096 log * action_length) log

-- "attaches an empty store at speed 0", "and has a log of 65,536"
abbrev pub lends : List ℕ → Lent
lends outcomes = lent empty_store empty_store outcomes (replicate log_length 0)

unfoldable pub attached : List ℕ → Left
attached outcomes = root_attach 0 (lends outcomes)

-- "writes the log bytes"
unfoldable pub busrun : List ℕ → List ℕ
busrun outcomes = logged (attached outcomes).log

-- these are all bytes that the call logged (proofs/Whole.antt, `writes`)
abbrev pub Writes : List ℕ → Type 0
Writes outcomes = busrun outcomes ≡ take (end_of (usb_attach_root_hub 0 (start (lends outcomes)))).at.logged (attached outcomes).log
