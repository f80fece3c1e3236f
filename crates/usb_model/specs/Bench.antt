-- Document 01's bench table: the lines marked M and the last one. Each line has a call of the model and the row that is due, worked out
-- by hand from document 01 and USB 2.0. proofs/Bench.antt: each call gives the row that is due. More lines are in usb_table.
use Rattle.std.specs.Prelude.{List, [], ◌∷◌, ◌++◌, ℕ, ◌*◌, ℤ, length, take, drop, set, replicate}
use Rattle.usb_types.specs.Actions.{action_length}
use Rattle.usb_types.specs.Numbers.{minus, little_endian}
use Rattle.usb_store.specs.Layout.{parent_field, hub_field, child_field, max_children_field, empty_store}
use Rattle.usb_device.specs.Device.{new_device, repeat}
use Rattle.usb_model.specs.Entry.{Lent, Left, root_attach, child_reset, configuration_walk}

-- of a call: the answer, the requests logged, and bytes that it left
pub record Row : Type 0 where
  pub answer : ℤ
  pub requests : ℕ
  pub bytes : List ℕ

abbrev pub row : ℤ → ℕ → List ℕ → Row
row answer requests bytes = record { answer = answer; requests = requests; bytes = bytes }

pub record Line : Type 0 where
  pub computed : Row
  pub due : Row

infix 70 ◌⇒◌
abbrev pub ◌⇒◌ : Row → Row → Line
computed ⇒ due = record { computed = computed; due = due }

unfoldable pub rows : (Line → Row) → List Line → List Row
rows side [] = []
rows side (line ∷ more) = side line ∷ rows side more

-- ---- what is lent

-- what a call may write is lent full of this byte
abbrev pub fill_byte : ℕ
fill_byte = 0xee

abbrev pub lent_store : List ℕ
lent_store = replicate 36864 fill_byte

-- 64 actions
abbrev pub lent_log : List ℕ
lent_log = replicate 1024 fill_byte

abbrev pub lent_record : List ℕ
lent_record = replicate 968 fill_byte

abbrev pub lend : List ℕ → List ℕ → Lent
lend old outcomes = record { old = old; new = lent_store; outcomes = outcomes; log = lent_log }

-- ---- what is shown

-- n actions of the log, the first of them counted from 0
abbrev pub actions : ℕ → ℕ → Left → List ℕ
actions first n left = take (action_length * n) (drop (action_length * first) left.log)

-- n bytes of place 0 in the new store
abbrev pub field : ℕ → ℕ → Left → List ℕ
field first n left = take n (drop first left.new)

unfoldable pub shown : (Left → List ℕ) → Left → Row
shown bytes left = row left.answer left.requests (bytes left)

-- the walk alone, which logs nothing: the record, whole
unfoldable pub walks : List ℕ → List ℕ → Row
walks descriptors kept = row (configuration_walk descriptors kept).answer 0 (configuration_walk descriptors kept).kept

-- ---- outcomes

abbrev pub outcome : ℕ → ℕ → List ℕ → List ℕ
outcome submit error delivered = submit ∷ error ∷ little_endian 2 (length delivered) ++ delivered

abbrev pub gives : List ℕ → List ℕ
gives delivered = outcome 0 0 delivered

-- a request without data that succeeds
abbrev pub succeeds : List ℕ
succeeds = outcome 0 0 []

-- USB 2.0 table 9-8: class 9, packet size 64
abbrev pub device : List ℕ
device =
    0x12 ∷ 0x01 ∷ 0x00 ∷ 0x02 ∷ 0x09 ∷ 0x00 ∷ 0x00 ∷ 0x40
    ∷ 0x24 ∷ 0x04 ∷ 0x12 ∷ 0x24 ∷ 0x00 ∷ 0x01 ∷ 0x00 ∷ 0x00 ∷ 0x00 ∷ 0x01 ∷ []

-- tables 9-10, 9-12 and 9-13: 25 bytes, value 1; interface 0 of class 9; an interrupt endpoint to the host
abbrev pub configuration : List ℕ
configuration =
    0x09 ∷ 0x02 ∷ 0x19 ∷ 0x00 ∷ 0x01 ∷ 0x01 ∷ 0x00 ∷ 0xe0 ∷ 0x00
    ∷ 0x09 ∷ 0x04 ∷ 0x00 ∷ 0x00 ∷ 0x01 ∷ 0x09 ∷ 0x00 ∷ 0x00 ∷ 0x00
    ∷ 0x07 ∷ 0x05 ∷ 0x81 ∷ 0x03 ∷ 0x01 ∷ 0x00 ∷ 0x0c ∷ []

-- table 11-13, with PortCount and PowerGoodDelay; 9 bytes for any PortCount, since longer ones are outside the comparison
abbrev pub hub_descriptor : ℕ → ℕ → List ℕ
hub_descriptor ports delay = 0x09 ∷ 0x29 ∷ ports ∷ 0x00 ∷ 0x00 ∷ delay ∷ 0x00 ∷ 0x00 ∷ 0xff ∷ []

-- tables 11-19 and 11-20: local power is good, no over-current, no change
abbrev pub hub_status : List ℕ
hub_status = 0x00 ∷ 0x00 ∷ 0x00 ∷ 0x00 ∷ []

-- tables 11-21 and 11-22: power
abbrev pub vacant : List ℕ
vacant = 0x00 ∷ 0x01 ∷ 0x00 ∷ 0x00 ∷ []

-- connected, reset, power
abbrev pub resetting : List ℕ
resetting = 0x11 ∷ 0x01 ∷ 0x00 ∷ 0x00 ∷ []

-- connected, enabled, power; reset change
abbrev pub reset_done : List ℕ
reset_done = 0x03 ∷ 0x01 ∷ 0x10 ∷ 0x00 ∷ []

-- the attach of a hub at high speed: it has its address and is read again, 3 requests; is configured, 6; has its hub descriptor, 8;
-- has power at so many ports, and its status was read before and after, 10 and one for each of them
unfoldable pub addressed : List ℕ
addressed = gives device ++ succeeds ++ gives device

unfoldable pub configured : List ℕ
configured = addressed ++ gives (take 9 configuration) ++ gives configuration ++ succeeds

unfoldable pub described : ℕ → ℕ → List ℕ
described ports delay = configured ++ gives (take 2 (hub_descriptor ports delay)) ++ gives (hub_descriptor ports delay)

unfoldable pub powered : ℕ → ℕ → ℕ → List ℕ
powered ports read delay = described ports delay ++ gives hub_status ++ repeat read succeeds ++ gives hub_status

-- and the ports are read, and vacant
unfoldable pub vacant_hub : ℕ → ℕ → ℕ → List ℕ
vacant_hub ports read delay = powered ports read delay ++ repeat read (gives vacant)

-- ---- stores

-- place 0: a hub with descriptor and ten ports; at port 0 stands place 1
unfoldable pub root_place : List ℕ
root_place = set (set (set (new_device 0) hub_field 2) max_children_field 10) (child_field 0) 2

-- place 1: no hub; its parent is place 0, with port 0
unfoldable pub device_place : List ℕ
device_place = set (new_device 1) parent_field 1

-- the other 30 places, of 1,152 bytes, are not used
unfoldable pub attached_store : List ℕ
attached_store = root_place ++ device_place ++ replicate 34560 0

-- ---- walks

abbrev pub bare : List ℕ
bare = 0x09 ∷ 0x02 ∷ 0x09 ∷ 0x00 ∷ 0x01 ∷ 0x01 ∷ 0x00 ∷ 0x80 ∷ 0x32 ∷ []

-- an interface with so many endpoints, and with none
abbrev pub interface_of : ℕ → ℕ → List ℕ
interface_of number endpoints = 0x09 ∷ 0x04 ∷ number ∷ 0x00 ∷ endpoints ∷ 0x03 ∷ 0x01 ∷ 0x02 ∷ 0x00 ∷ []

abbrev pub interface : ℕ → List ℕ
interface number = interface_of number 0

abbrev pub endpoint : List ℕ
endpoint = 0x07 ∷ 0x05 ∷ 0x81 ∷ 0x03 ∷ 0x08 ∷ 0x00 ∷ 0x0a ∷ []

unfoldable pub walk_lines : List Line
walk_lines =
    -- "M walk `09 02 09 00 01 01 00 80 32`: 0, nothing stored"
    walks bare lent_record ⇒ row (minus 0) 0 lent_record
    -- "M the same followed by an endpoint, T 16: −4"
    ∷ walks (bare ++ endpoint) lent_record ⇒ row (minus 4) 0 lent_record
    -- "M first interface 7: stored; 8: alternate; 9: −10": interface 7 is bytes 63 to 71 of the 968; an endpoint after 8 is skipped, as
    -- under an alternate
    ∷ walks (bare ++ interface 7) lent_record ⇒ row (minus 0) 0 (replicate 63 fill_byte ++ interface 7 ++ replicate 896 fill_byte)
    ∷ walks (bare ++ interface 8) lent_record ⇒ row (minus 0) 0 lent_record
    ∷ walks (bare ++ interface 8 ++ endpoint) lent_record ⇒ row (minus 0) 0 lent_record
    ∷ walks (bare ++ interface 9) lent_record ⇒ row (minus 10) 0 lent_record
    ∷ []

-- the stores are parameters: so a check computes each of them once, and not for each line
module _ (empty attached : List ℕ) where
  unfoldable pub attach : List ℕ → Left
  attach outcomes = root_attach 0 (lend empty outcomes)

  -- the first line shows the whole log; the others show the error, bytes 8-11 of the place, which has the bit of that number
  unfoldable pub first_request : List Line
  first_request =
      -- "M no outcomes: −14, 1 request; `busrun` writes `01 00 01 00 03 00 00 00 80 06 00 01 00 00 12 00`"
      shown (actions 0 64) (attach []) ⇒ row (minus 14) 1
      (0x01 ∷ 0x00 ∷ 0x01 ∷ 0x00 ∷ 0x03 ∷ 0x00 ∷ 0x00 ∷ 0x00 ∷ 0x80 ∷ 0x06 ∷ 0x00 ∷ 0x01 ∷ 0x00 ∷ 0x00 ∷ 0x12 ∷ 0x00
      ∷ replicate 1008 fill_byte)
      -- "M error 31: −8"
      ∷ shown (field 8 4) (attach (outcome 0 31 [])) ⇒ row (minus 8) 1 (0x00 ∷ 0x00 ∷ 0x00 ∷ 0x80 ∷ [])
      -- "M error 1: −4"
      ∷ shown (field 8 4) (attach (outcome 0 1 [])) ⇒ row (minus 4) 1 (0x02 ∷ 0x00 ∷ 0x00 ∷ 0x00 ∷ [])
      -- "M submit 5, error 31: −5"
      ∷ shown (field 8 4) (attach (outcome 5 31 [])) ⇒ row (minus 5) 1 (0x00 ∷ 0x00 ∷ 0x00 ∷ 0x80 ∷ [])
      ∷ []

  -- The actions of a hub's attach: 0 device descriptor, 1 SetAddress, 2 wait, 3 device descriptor, 4 and 5 configuration, 6
  -- SetConfiguration, 7 and 8 hub descriptor, 9 hub status; then power on each port, a wait, hub status, the status of each port.
  -- With one port 12 are requests, and action 11 is the wait after power. With ten ports 30 are requests, action 10 is power on
  -- port 0, and action 31 is the status of port 9.
  unfoldable pub hub_lines : List Line
  hub_lines =
      -- "M PowerGoodDelay 0, 1, 255: waits 100,000, 2,000, 510,000": 0x000186a0, 0x000007d0, 0x0007c830
      shown (actions 11 1) (attach (vacant_hub 1 1 0)) ⇒ row (minus 0) 12
      (0x02 ∷ 0x00 ∷ 0x00 ∷ 0x00 ∷ 0x00 ∷ 0x00 ∷ 0x00 ∷ 0x00 ∷ 0xa0 ∷ 0x86 ∷ 0x01 ∷ 0x00 ∷ 0x00 ∷ 0x00 ∷ 0x00 ∷ 0x00 ∷ [])
      ∷ shown (actions 11 1) (attach (vacant_hub 1 1 1)) ⇒ row (minus 0) 12
      (0x02 ∷ 0x00 ∷ 0x00 ∷ 0x00 ∷ 0x00 ∷ 0x00 ∷ 0x00 ∷ 0x00 ∷ 0xd0 ∷ 0x07 ∷ 0x00 ∷ 0x00 ∷ 0x00 ∷ 0x00 ∷ 0x00 ∷ 0x00 ∷ [])
      ∷ shown (actions 11 1) (attach (vacant_hub 1 1 255)) ⇒ row (minus 0) 12
      (0x02 ∷ 0x00 ∷ 0x00 ∷ 0x00 ∷ 0x00 ∷ 0x00 ∷ 0x00 ∷ 0x00 ∷ 0x30 ∷ 0xc8 ∷ 0x07 ∷ 0x00 ∷ 0x00 ∷ 0x00 ∷ 0x00 ∷ 0x00 ∷ [])
      -- "M PortCount 10 and 11: 10 children": MaxChildren is byte 106
      ∷ shown (field 106 1) (attach (vacant_hub 10 10 1)) ⇒ row (minus 0) 30 (10 ∷ [])
      ∷ shown (field 106 1) (attach (vacant_hub 11 10 1)) ⇒ row (minus 0) 30 (10 ∷ [])
      -- "M power on port 0: `23 03 08 00 01 00 00 00`": to address 1, out, high speed, packet size 64
      ∷ shown (actions 10 1) (attach (vacant_hub 10 10 1)) ⇒ row (minus 0) 30
      (0x01 ∷ 0x01 ∷ 0x00 ∷ 0x00 ∷ 0x03 ∷ 0x00 ∷ 0x00 ∷ 0x00 ∷ 0x23 ∷ 0x03 ∷ 0x08 ∷ 0x00 ∷ 0x01 ∷ 0x00 ∷ 0x00 ∷ 0x00 ∷ [])
      -- "M status of port 9: `a3 00 00 00 0a 00 04 00`": the same, but in
      ∷ shown (actions 31 1) (attach (vacant_hub 10 10 1)) ⇒ row (minus 0) 30
      (0x01 ∷ 0x01 ∷ 0x01 ∷ 0x00 ∷ 0x03 ∷ 0x00 ∷ 0x00 ∷ 0x00 ∷ 0xa3 ∷ 0x00 ∷ 0x00 ∷ 0x00 ∷ 0x0a ∷ 0x00 ∷ 0x04 ∷ 0x00 ∷ [])
      ∷ []

  -- clear and reset succeed, then come the reads, and the last clear succeeds
  unfoldable pub reset : List ℕ → Left
  reset reads = child_reset 0 1 (lend attached (succeeds ++ succeeds ++ reads ++ succeeds))

  -- The actions: 0 clear, 1 reset, then 21 times a wait and a read, the last of them 42 and 43; 44 clear; where the answer is 0, a
  -- wait, 45. 50,000 is 0xc350, 10,000 is 0x2710, and the feature of reset change is 0x14. The hub has full speed and packet size
  -- 8, as a new device has.
  unfoldable pub reset_lines : List Line
  reset_lines =
      -- "Child reset, every transfer succeeding: only read 21 shows the change: 0, 24 requests"
      shown (actions 42 4) (reset (repeat 20 (gives resetting) ++ gives reset_done)) ⇒ row (minus 0) 24
      (0x02 ∷ 0x00 ∷ 0x00 ∷ 0x00 ∷ 0x00 ∷ 0x00 ∷ 0x00 ∷ 0x00 ∷ 0x50 ∷ 0xc3 ∷ 0x00 ∷ 0x00 ∷ 0x00 ∷ 0x00 ∷ 0x00 ∷ 0x00
      ∷ 0x01 ∷ 0x01 ∷ 0x01 ∷ 0x01 ∷ 0x00 ∷ 0x00 ∷ 0x00 ∷ 0x00 ∷ 0xa3 ∷ 0x00 ∷ 0x00 ∷ 0x00 ∷ 0x01 ∷ 0x00 ∷ 0x04 ∷ 0x00
      ∷ 0x01 ∷ 0x01 ∷ 0x00 ∷ 0x01 ∷ 0x00 ∷ 0x00 ∷ 0x00 ∷ 0x00 ∷ 0x23 ∷ 0x01 ∷ 0x14 ∷ 0x00 ∷ 0x01 ∷ 0x00 ∷ 0x00 ∷ 0x00
      ∷ 0x02 ∷ 0x00 ∷ 0x00 ∷ 0x00 ∷ 0x00 ∷ 0x00 ∷ 0x00 ∷ 0x00 ∷ 0x10 ∷ 0x27 ∷ 0x00 ∷ 0x00 ∷ 0x00 ∷ 0x00 ∷ 0x00 ∷ 0x00 ∷ [])
      -- "no read does: −8, 24 requests"
      ∷ shown (actions 45 1) (reset (repeat 21 (gives resetting))) ⇒ row (minus 8) 24 (replicate 16 fill_byte)
      -- not of the table: "0 exactly if .. every read (4 bytes) .. succeed"; a first read of 3 bytes is the Rust's ErrorDevice
      ∷ shown (actions 4 1) (reset (gives (take 3 reset_done))) ⇒ row (minus 4) 3 (replicate 16 fill_byte)
      ∷ []

  unfoldable pub bench_lines : List Line
  bench_lines = first_request ++ hub_lines ++ walk_lines ++ reset_lines

-- ---- the table

abbrev pub all_rows : (Line → Row) → List Row
all_rows side = rows side (bench_lines empty_store attached_store)

unfoldable pub table : List Row
table = all_rows (λ line. line.computed)

unfoldable pub expected : List Row
expected = all_rows (λ line. line.due)
