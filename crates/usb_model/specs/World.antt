-- What a call works on, and the few steps that every function is made of: access to the store, the log, waits.
use Rattle.std.specs.Prelude.{List, [], ◌∷◌, ℕ, ◌+◌, ◌-◌, ltb, length}
use Rattle.usb_types.specs.Actions.{wait_action, frame_interval_action, action_length}
use Rattle.usb_types.specs.declared.types.Halt.TheVariants.{LogFull}
use Rattle.usb_types.specs.Numbers.{little_endian}
use Rattle.usb_store.specs.Access.{write, byte_at, bytes_at, number_at, with_bytes}
use Rattle.usb_model.specs.declared.Progress.{Progress}
use Rattle.usb_model.specs.Programs.{Program, ◌>>=◌, ◌>>◌, stop, look, change, when}

-- the store; the lent log and the lent outcomes, and how far the call has come in them
pub record World : Type 0 where
  pub store : List ℕ
  pub log : List ℕ
  pub outcomes : List ℕ
  pub at : Progress

abbrev pub M : Type 0 → Type 0
M A = Program World A

-- ---- the store (document 01, "Store")

abbrev pub with_store : List ℕ → World → World
with_store s w = record { store = s; log = w.log; outcomes = w.outcomes; at = w.at }

unfoldable pub get : ℕ → ℕ → M ℕ
get place field = look (λ w. byte_at w.store place field)

unfoldable pub get_bytes : ℕ → ℕ → ℕ → M (List ℕ)
get_bytes place field n = look (λ w. bytes_at w.store place field n)

unfoldable pub get_number : ℕ → ℕ → ℕ → M ℕ
get_number place field n = look (λ w. number_at w.store place field n)

unfoldable pub put_bytes : ℕ → ℕ → List ℕ → M (Unit {0})
put_bytes place field vs = change (λ w. with_store (with_bytes w.store place field vs) w)

abbrev pub put : ℕ → ℕ → ℕ → M (Unit {0})
put place field v = put_bytes place field (v ∷ [])

abbrev pub put_number : ℕ → ℕ → ℕ → ℕ → M (Unit {0})
put_number place field n v = put_bytes place field (little_endian n v)

-- ---- the log (document 01, "Action")

-- 16 bytes further
abbrev pub appended : List ℕ → World → World
appended action w = record {
  store = w.store;
  log = write w.log w.at.logged action;
  outcomes = w.outcomes;
  at = record { logged = w.at.logged + action_length; taken = w.at.taken; requests = w.at.requests };
}

-- "log full: an action is due and under 16 log bytes are left"
unfoldable pub log_action : List ℕ → M (Unit {0})
log_action action = do
  room ← look (λ w. length w.log - w.at.logged)
  when (ltb room action_length) (stop LogFull)
  change (appended action)

-- `micro_delay`, now an action
unfoldable pub micro_delay : ℕ → M (Unit {0})
micro_delay microseconds = log_action (wait_action microseconds)

unfoldable pub dwc_update_host_frame_interval : M (Unit {0})
dwc_update_host_frame_interval = log_action frame_interval_action

-- "and the number of requests logged"
abbrev pub counted : World → World
counted w = record {
  store = w.store;
  log = w.log;
  outcomes = w.outcomes;
  at = record { logged = w.at.logged; taken = w.at.taken; requests = w.at.requests + 1 };
}

unfoldable pub log_request : List ℕ → M (Unit {0})
log_request action = do
  log_action action
  change counted
