-- Demand 3: the claim on every list of root attaches, scans and port checks.
--
-- How to read it. `(x : T) → B` is "for every x", `A → B` also "if A then B"; `A × B` is "A and B", `≡` "equals", `⊥` "never". A
-- `record` lists all that a fact needs, a `data` type the ways in which it can hold. A history has its newest action first: `e ∷ h` is h
-- with the event e after it, so what was at an earlier moment is a later part of the list.
--
-- The demand, and the name that says it:
--     "For every list of root attaches, scans and port checks, refused ones among them, each run
--     to its end on the store that the one before it left, the first on an empty store,
--     whatever the transfers did"                                                                     Reached s h
--     "after it the store shows certain devices configured"                                           ShownConfigured
--     "For each of these"                                                                             Story
--     "a SetConfiguration sent to it with its stored value was acknowledged"                          ConfiguredWith
--     "its hub's port"                                                                                Stands
--     "was reset; that reset ended well"                                                              EndedWell
--     "then, with no reset of any port between"                                                       NoResetSince
--     "its address was set and acknowledged"                                                          Addressed
--     "just once in the history"                                                                      count (sets_address ..) h ≡ 1
--     "Every acknowledged SetConfiguration belongs to a device so shown"                              Demand, field belongs
--     "Each root attach .. sent at most 8·d + 444·h requests"                                         Bounded
-- Reached s h: after the list the store is s and the history is h. Demand3 is the whole claim; proofs/Demand3.antt proves it.
use Rattle.std.specs.Prelude.{◌≡◌, true, false, List, [], ◌∷◌, ℕ, suc, ◌+◌, ◌*◌, ◌≤◌, ◌<◌, length}
use Rattle.usb_types.specs.Numbers.{from_little_endian}
use Rattle.usb_types.specs.Requests.{get_status_code, clear_feature_code, set_feature_code, set_address_code, set_configuration_code, to_device, to_port, device_request}
use Rattle.usb_types.specs.declared.types.ErrorCode.{ErrorCode}
use Rattle.usb_types.specs.declared.request.UsbDeviceRequest.{UsbDeviceRequest}
use Rattle.usb_store.specs.Layout.{place_count, status_field, configuration_value_field, ports_per_hub, empty_store}
use Rattle.usb_store.specs.Access.{byte_at}
use Rattle.usb_store.specs.Values.{configured_status}
use Rattle.usb_sound.specs.Sound.{IsUsed, IsChild, Sound}
use Rattle.usb_model.specs.Programs.{Ran, done, fail}
use Rattle.usb_model.specs.World.{World, M}
use Rattle.usb_model.specs.Features.{port_reset, c_port_reset, bit}
use Rattle.usb_model.specs.Transfer.{Outcome}
use Rattle.usb_model.specs.Hub.{hub_check_connection, hub_check_for_change}
use Rattle.usb_model.specs.Attach.{attach_new, usb_attach_root_hub}
use Rattle.usb_model.specs.Entry.{Lent, Left, Verdict, accepted, no_port, root_verdict, hub_verdict, start, call}
use Rattle.usb_model.specs.Kept.{LentBytes}
use Rattle.usb_model.specs.Count.{most_requests, store_left}
use Rattle.usb_model.specs.History.{Event, asked, waited, joined, acknowledged, sets_address, configures, resets, count}

-- ---- the list of calls

-- "every list of root attaches, scans and port checks": root speed; hub; hub and port
pub data Call : Type 0 where
  attaches : ℕ → Call
  scans : ℕ → Call
  checks : ℕ → ℕ → Call

abbrev pub verdict : Call → Lent → Verdict
verdict (attaches speed) lent = root_verdict lent speed
verdict (scans hub) lent = hub_verdict lent hub false
verdict (checks hub port) lent = hub_verdict lent hub (no_port port)

abbrev pub program : Call → M (Unit {0})
program (attaches speed) = usb_attach_root_hub speed
program (scans hub) = hub_check_for_change attach_new place_count hub
program (checks hub port) = hub_check_connection attach_new hub port

-- what the call leaves, refused or not (Entry.antt: `root_attach`, `scan`, `port_check`)
abbrev pub entry : Call → Lent → Left
entry c lent = call lent (verdict c lent) (program c)

-- "each run to its end": done or failed in the world w, not stopped by −13 to −15
pub data Ended : Ran World (Unit {0}) → World → Type 0 where
  finished : {w : World} → Ended (done tt w) w
  failed : {e : ErrorCode} {w : World} → Ended (fail e w) w

-- The calls of a list, one after the other. Outcomes, log and the lent new store are each call's own, any bytes. `ran`: a call that was
-- accepted and ended in the world w leaves w's store and log (proofs/Demand3.antt, `leaves_ended`), and its n actions join the history.
-- `refusal`: "After an entry refusal the next call takes the same store, and the history gains nothing".
pub data Reached : List ℕ → List Event → Type 0 where
  empty : Reached empty_store []
  refusal : {s : List ℕ} {h : List Event} → Reached s h → (c : Call) (lent : Lent) → lent.old ≡ s
      → (verdict c lent ≡ accepted → ⊥) → Reached s h
  ran : {s : List ℕ} {h : List Event} {w : World} → Reached s h → (c : Call) (lent : Lent) → lent.old ≡ s → LentBytes lent
      → verdict c lent ≡ accepted → Ended (program c (start lent)) w → (n : ℕ) → w.at.logged ≡ 16 * n
      → Reached w.store (joined n w.log lent.outcomes h)

-- ---- moments of the past

-- at some moment, now or earlier, P held
pub data Once (P : List Event → Type 0) : List Event → Type 0 where
  now : {h : List Event} → P h → Once P h
  ago : {e : Event} {h : List Event} → Once P h → Once P (e ∷ h)

-- at some moment P held, "with no reset of any port between"
pub data NoResetSince (P : List Event → Type 0) : List Event → Type 0 where
  just : {h : List Event} → P h → NoResetSince P h
  since : {e : Event} {h : List Event} → resets e ≡ false → NoResetSince P h → NoResetSince P (e ∷ h)

-- ---- a reset that ended well

abbrev pub reset_of : ℕ → UsbDeviceRequest
reset_of port = device_request to_port set_feature_code port_reset (port + 1) 0

abbrev pub status_of : ℕ → UsbDeviceRequest
status_of port = device_request to_port get_status_code 0 (port + 1) 4

abbrev pub clear_of : ℕ → UsbDeviceRequest
clear_of port = device_request to_port clear_feature_code c_port_reset (port + 1) 0

-- the reset of a port of the hub at an address was acknowledged, and so was each of `reads` status reads after it, of 4 bytes,
-- "50,000 µs before each"
pub data Awaited (address port : ℕ) : ℕ → List Event → Type 0 where
  sent : {o : Outcome} {h : List Event} → acknowledged o ≡ true → Awaited address port 0 (asked address (reset_of port) o ∷ h)
  again : {reads : ℕ} {o : Outcome} {h : List Event} → Awaited address port reads h → acknowledged o ≡ true → length o.delivered ≡ 4
      → Awaited address port (suc reads) (asked address (status_of port) o ∷ waited 50000 ∷ h)

-- "0 exactly if the reset request, every read (4 bytes) and the last clear succeed and the last read shows reset change"; "at most 21
-- status reads"
pub data EndedWell (address port : ℕ) : List Event → Type 0 where
  well : {reads : ℕ} {o c : Outcome} {h : List Event} → Awaited address port reads h → reads < 21
      → acknowledged o ≡ true → length o.delivered ≡ 4
      → bit c_port_reset (from_little_endian o.delivered) ≡ true → acknowledged c ≡ true
      → EndedWell address port (asked address (clear_of port) c ∷ asked address (status_of port) o ∷ waited 50000 ∷ h)

-- ---- what is claimed

pub record ShownConfigured (s : List ℕ) (place : ℕ) : Type 0 where
  pub device : IsUsed s place
  pub status : byte_at s place status_field ≡ configured_status

pub record Stands (s : List ℕ) (hub port place : ℕ) : Type 0 where
  pub device : IsUsed s hub
  pub low : port < ports_per_hub
  pub child : IsChild s hub port place

-- "its address was set and acknowledged": SetAddress goes to address 0. `before` held just before it.
pub data Addressed (place : ℕ) (before : List Event → Type 0) : List Event → Type 0 where
  addressed : {o : Outcome} {h : List Event} → before h → acknowledged o ≡ true
      → Addressed place before (asked 0 (device_request to_device set_address_code (place + 1) 0 0) o ∷ h)

-- "a SetConfiguration sent to it with its stored value was acknowledged"
pub data ConfiguredWith (place value : ℕ) (before : List Event → Type 0) : List Event → Type 0 where
  configured : {o : Outcome} {h : List Event} → before h → acknowledged o ≡ true
      → ConfiguredWith place value before (asked (place + 1) (device_request to_device set_configuration_code value 0 0) o ∷ h)

abbrev pub Anything : List Event → Type 0
Anything h = Unit {0}

-- "for each but the root hub: its hub's port was reset; that reset ended well; then, with no reset of any port between, its address was
-- set and acknowledged, just once in the history". "the stored value is byte 5 of the configuration descriptor".
pub data Story (s : List ℕ) (place : ℕ) (h : List Event) : Type 0 where
  root : place ≡ 0 → Once (ConfiguredWith place (byte_at s place configuration_value_field) Anything) h → Story s place h
  child : {hub port : ℕ} → Stands s hub port place
      → Once (ConfiguredWith place (byte_at s place configuration_value_field) (Once (Addressed place (NoResetSince (EndedWell (hub + 1) port))))) h
      → count (sets_address (place + 1)) h ≡ 1
      → Story s place h

pub record Demand (s : List ℕ) (h : List Event) : Type 0 where
  -- a sound store, so no later call of the list is refused as damaged (−16), and what has children is a hub
  pub sound : Sound s
  pub story : (place : ℕ) → ShownConfigured s place → Story s place h
  -- the hub and port of a device are one
  pub single : (hub port hub' port' place : ℕ) → Stands s hub port place → Stands s hub' port' place
      → (hub ≡ hub') × (port ≡ port')
  -- "Every acknowledged SetConfiguration belongs to a device so shown"
  pub belongs : (address : ℕ) → 0 < count (configures address) h → (place : ℕ) × (address ≡ place + 1) × ShownConfigured s place

-- "Each root attach, in the list or stopped, leaving d devices, h of them hubs, sent at most 8·d + 444·h requests". What a call reports are
-- the actions of kind 1 in its log (Kept.antt, `Accounts`).
abbrev pub Bounded : List ℕ → Type 0
Bounded s =
    (speed : ℕ) (lent : Lent) → lent.old ≡ s → LentBytes lent
    → let left = entry (attaches speed) lent in
    left.requests ≤ most_requests (store_left (verdict (attaches speed) lent) lent left)

abbrev pub Demand3 : Type 0
Demand3 = (s : List ℕ) (h : List Event) → Reached s h → Demand s h × Bounded s
