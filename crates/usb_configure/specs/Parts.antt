-- The lines of `usb_configure` for which the code has a function of its own.
use Rattle.std.specs.Prelude.{List, ℕ}
use Rattle.usb_store.specs.Layout.{configuration_index_field, interfaces_field}
use Rattle.usb_model.specs.Programs.{◌>>=◌, ◌>>◌, succeed}
use Rattle.usb_model.specs.World.{M, get_bytes, put, put_bytes}
use Rattle.usb_model.specs.Walk.{record_length, walk}

unfoldable pub walk_full : ℕ → ℕ → List ℕ → M (Unit {0})
walk_full place configuration full = do
  put place configuration_index_field configuration
  kept ← get_bytes place interfaces_field record_length
  let result = walk full kept
  put_bytes place interfaces_field result.kept
  succeed result.answer
