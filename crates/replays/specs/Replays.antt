-- A recorded call or walk, replayed: what the model's entry point leaves, and whether that is what was recorded.
use Rattle.std.specs.Prelude.{◌≡◌, Bool, true, cond, ◌&&◌, List, ℕ, ◌*◌, ◌≤◌, eqb, length, replicate}
use Rattle.usb_types.specs.Numbers.{same_int}
use Rattle.usb_store.specs.Layout.{store_length}
use Rattle.usb_model.specs.Entry.{Lent, Left, WalkLeft, root_attach, scan, port_check, child_reset, child_check}
use Rattle.usb_model.specs.Entry.{retried_reset, connection_change, configuration_walk}
use Rattle.usb_entry.specs.Replies.{lent}
use Rattle.sequences.specs.Sums.{adler}
use Rattle.recorded.specs.Heads.{fits}
use Rattle.sequences.specs.Stores.{store_before, old_store, store_after}
use Rattle.recorded.specs.declared.head.Asked.{Asked}
use Rattle.recorded.specs.declared.head.Recorded.{Recorded}
use Rattle.recorded.specs.declared.head.RecordedWalk.{RecordedWalk}

-- "entry: 0 root attach, 1 scan, 2 port check, 3 child reset, 4 child check, 5 retried reset, 6 connection change"
unfoldable pub entry_point : ℕ → ℕ → ℕ → Lent → Left
entry_point entry first second lent =
    cond (eqb entry 0) (root_attach first lent)
    (cond (eqb entry 1) (scan first lent)
    (cond (eqb entry 2) (port_check first second lent)
    (cond (eqb entry 3) (child_reset first second lent)
    (cond (eqb entry 4) (child_check first second lent)
    (cond (eqb entry 5) (retried_reset first second lent)
    (connection_change first second lent))))))

-- "New store and log are filled with 0xEE before each call"
abbrev pub filled : ℕ → List ℕ
filled n = replicate n 238

-- what a call leaves, in a sequence whose store is s
unfoldable pub replayed : Asked → List ℕ → List ℕ → List ℕ → Left
replayed asked edits outcomes s =
    entry_point asked.entry asked.first asked.second
    (lent (old_store asked edits (store_before asked s)) (filled asked.new_len) outcomes (filled asked.log_len))

-- answer, requests and the check sums of the whole log and the whole new store are those recorded
unfoldable pub agrees : Recorded → Left → Bool
agrees recorded left =
    same_int left.answer recorded.answer && eqb left.requests recorded.requests
    && eqb (adler left.log) recorded.log_sum && eqb (adler left.new) recorded.store_sum

-- answer and the check sum of the whole record
unfoldable pub walk_agrees : RecordedWalk → WalkLeft → Bool
walk_agrees recorded left = same_int left.answer recorded.answer && eqb (adler left.kept) recorded.record_sum

-- "The record is filled with 0xEE before each walk"
unfoldable pub walked : RecordedWalk → List ℕ → WalkLeft
walked recorded descriptors = configuration_walk descriptors (filled recorded.record_len)

-- what a replay asks: the call fits, the sequence's store is whole, and there are as many edits as the call has
pub record Ready (asked : Asked) (store edits : List ℕ) : Type 0 where
  pub fit : fits asked ≡ true
  pub whole : length store ≡ store_length
  pub enough : asked.edits * 5 ≤ length edits

-- what a replay of a call says, and the sequence's store after it
pub record Replays (asked : Asked) (recorded : Recorded) (edits outcomes store : List ℕ) (r : Bool) (store' : List ℕ) : Type 0 where
  pub says : r ≡ agrees recorded (replayed asked edits outcomes store)
  pub after : store' ≡ store_after asked (replayed asked edits outcomes store).new (store_before asked store)
