-- Demand 3 (usb_model, specs/Demand3.antt) does not speak of nothing: a root attach on the empty store reaches a store that shows the
-- root hub and a device behind it configured. proofs/Witness.antt has such a call.
use Rattle.std.specs.Prelude.{List, ℕ}
use Rattle.usb_model.specs.Entry.{Lent}
use Rattle.usb_model.specs.Bench.{gives, lend}
use Rattle.usb_model.specs.History.{Event}
use Rattle.usb_model.specs.Demand3.{Reached, ShownConfigured}
use Rattle.usb_store.specs.Layout.{empty_store}
use Rattle.usb_table.specs.Calls.{device_of, hub_and_device}

-- the first of `device_lines` (Calls.antt)
abbrev pub hub_and_device_lent : Lent
hub_and_device_lent = lend empty_store (hub_and_device 0x01 (gives (device_of 16)))

pub record Witness : Type 0 where
  pub store : List ℕ
  pub history : List Event
  pub reached : Reached store history
  pub hub : ShownConfigured store 0
  pub device : ShownConfigured store 1
