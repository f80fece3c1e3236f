-- The history of a call, read off what its caller holds: the bytes of the log and of the outcomes. Document 01: "The history is the
-- actions that the calls logged, joined in order, each request with its outcome and result". The newest action stands first.
use Rattle.std.specs.Prelude.{Bool, false, cond, ◌&&◌, List, [], ◌∷◌, ℕ, zero, suc, ◌+◌, eqb, get_or, take, drop}
use Rattle.usb_types.specs.Actions.{action_length}
use Rattle.usb_types.specs.Numbers.{number_in}
use Rattle.usb_types.specs.Outcomes.{result_of}
use Rattle.usb_types.specs.Requests.{set_feature_code, set_address_code, set_configuration_code, to_device, to_port}
use Rattle.usb_types.specs.declared.request.UsbDeviceRequest.{UsbDeviceRequest}
use Rattle.usb_model.specs.Features.{port_reset}
use Rattle.usb_model.specs.Transfer.{Outcome, size_of, outcome_of}
use Rattle.usb_model.specs.Hub.{is_ok}

-- what an action of the log was: a request, with the address it was sent to and its outcome; a wait, in microseconds;
-- `DwcUpdateHostFrameInterval`
pub data Event : Type 0 where
  asked : ℕ → UsbDeviceRequest → Outcome → Event
  waited : ℕ → Event
  framed : Event

-- ---- reading

-- "the 8 setup bytes of USB 2.0 table 9-2"
unfoldable pub request_of : List ℕ → UsbDeviceRequest
request_of setup = record {
  request_type = get_or setup 0 0;
  request = get_or setup 1 0;
  value = number_in setup 2 2;
  index = number_in setup 4 2;
  length = number_in setup 6 2;
}

-- the history so far, and the outcomes that are left
pub record Reading : Type 0 where
  pub past : List Event
  pub rest : List ℕ

abbrev pub reading : List Event → List ℕ → Reading
reading past rest = record { past = past; rest = rest }

-- "kind (1 request, 2 wait, 3 `DwcUpdateHostFrameInterval`), device address, .."; a request takes an outcome
unfoldable pub read_action : List ℕ → Reading → Reading
read_action action r =
    let q = request_of (drop 8 action) in
    cond (eqb (get_or action 0 0) 1)
    (reading (asked (get_or action 1 0) q (outcome_of q.length r.rest) ∷ r.past) (drop (4 + size_of r.rest) r.rest))
    (cond (eqb (get_or action 0 0) 2)
    (reading (waited (number_in action 8 4) ∷ r.past) r.rest)
    (reading (framed ∷ r.past) r.rest))

-- n actions of a log
unfoldable pub read_log : ℕ → List ℕ → Reading → Reading
read_log zero log r = r
read_log (suc n) log r = read_log n (drop action_length log) (read_action (take action_length log) r)

-- a history, with the n actions of a call joined to it
unfoldable pub joined : ℕ → List ℕ → List ℕ → List Event → List Event
joined n log outcomes past = (read_log n log (reading past outcomes)).past

-- ---- tests on events

-- "A request is acknowledged when its transfer's result, below, is 0"
unfoldable pub acknowledged : Outcome → Bool
acknowledged o = is_ok (result_of o.submit o.error)

-- a request of that type and code
unfoldable pub is_request : ℕ → ℕ → UsbDeviceRequest → Bool
is_request type code q = eqb q.request_type type && eqb q.request code

-- "An address is set by SetAddress with that value", acknowledged
unfoldable pub sets_address : ℕ → Event → Bool
sets_address address (asked to q o) = is_request to_device set_address_code q && (eqb q.value address && acknowledged o)
sets_address address (waited us) = false
sets_address address framed = false

-- "A SetConfiguration belongs to the device whose address it was sent to", acknowledged
unfoldable pub configures : ℕ → Event → Bool
configures address (asked to q o) = is_request to_device set_configuration_code q && (eqb to address && acknowledged o)
configures address (waited us) = false
configures address framed = false

-- "A port is reset by SetFeature 4 sent to its hub for that port": some port, whatever came of it
unfoldable pub resets : Event → Bool
resets (asked to q o) = is_request to_port set_feature_code q && eqb q.value port_reset
resets (waited us) = false
resets framed = false

-- how often
unfoldable pub count : (Event → Bool) → List Event → ℕ
count test [] = 0
count test (e ∷ h) = cond (test e) 1 0 + count test h
