-- The head of a recorded call, 48 bytes, and of a recorded walk, 16 bytes, by the tables of crates/vectors/README.md.
use Rattle.std.specs.Prelude.{Bool, ◌&&◌, List, ℕ, leb, ltb, get_or}
use Rattle.usb_types.specs.Numbers.{number_in}
use Rattle.recorded.specs.Numbers.{signed}
use Rattle.recorded.specs.declared.head.Asked.{Asked}
use Rattle.recorded.specs.declared.head.Recorded.{Recorded}
use Rattle.recorded.specs.declared.head.RecordedWalk.{RecordedWalk}

unfoldable pub asked_in : List ℕ → Asked
asked_in bytes = record {
  flags = get_or bytes 0 0;
  entry = get_or bytes 1 0;
  edits = get_or bytes 2 0;
  first = number_in bytes 4 4;
  second = number_in bytes 8 4;
  old_len = number_in bytes 12 4;
  new_len = number_in bytes 16 4;
  log_len = number_in bytes 20 4;
  outcomes_len = number_in bytes 24 4;
}

unfoldable pub recorded_in : List ℕ → Recorded
recorded_in bytes = record {
  answer = signed (number_in bytes 28 4);
  requests = number_in bytes 32 8;
  log_sum = number_in bytes 40 4;
  store_sum = number_in bytes 44 4;
}

unfoldable pub walk_in : List ℕ → RecordedWalk
walk_in bytes = record {
  descriptors_len = number_in bytes 0 4;
  record_len = number_in bytes 4 4;
  answer = signed (number_in bytes 8 4);
  record_sum = number_in bytes 12 4;
}

-- "No log is longer than 65,536 bytes, nor are outcomes; no store is longer than 40,000"; seven entries
unfoldable pub fits : Asked → Bool
fits asked =
    ltb asked.entry 7 && leb asked.old_len 40000 && leb asked.new_len 40000 && leb asked.log_len 65536
    && leb asked.outcomes_len 65536

-- "No descriptors are longer than 65,536 bytes, no record longer than 969"
unfoldable pub walk_fits : RecordedWalk → Bool
walk_fits walk = leb walk.descriptors_len 65536 && leb walk.record_len 969
