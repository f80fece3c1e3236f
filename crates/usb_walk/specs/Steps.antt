-- The walk as the code takes it: the record is lent, and what else the walk keeps goes in and comes back by value.
use Rattle.std.specs.Prelude.{◌≡◌, Bool, true, false, ◌||◌, List, ℕ, ◌≤◌, ◌<◌, eqb, ltb, length, get_or, Option, None, Some, Result, Ok, Err}
use Rattle.usb_types.specs.declared.types.ErrorCode.{ErrorCode}
use Rattle.usb_types.specs.declared.types.Failure.TheVariants.{Error}
use Rattle.usb_types.specs.Answers.{Answer}
use Rattle.usb_walk.specs.declared.Last.{Last}
use Rattle.usb_model.specs.Programs.{Ran, done, fail, Program}
use Rattle.usb_model.specs.Walk.{Walk, Walked, record_length, max_interfaces}

-- the test of `whole`
unfoldable pub cut_off : List ℕ → ℕ → Bool
cut_off d n = eqb (get_or d 0 0) 0 || ltb (length d) n

-- the walk's state: the record, and what goes by value
abbrev pub state : List ℕ → Last → Walk
state kept last = record {
  kept = kept;
  last_interface = last.interface;
  last_endpoint = last.endpoint;
  is_alternate = last.is_alternate;
}

-- what a step may rely on
pub record Ready (kept : List ℕ) (last : Last) : Type 0 where
  pub whole : length kept ≡ record_length
  pub interface : last.interface ≤ max_interfaces

-- what the code hands back after a descriptor: the walk goes on, it ends well, or it is refused
abbrev pub Next : Type 0
Next = Result (Option Last) ErrorCode

-- how the program of a descriptor ends, by what the code hands back; what goes by value changes only where the walk goes on
abbrev pub goes : List ℕ → Last → Next → Ran Walk Bool
goes kept last (Ok (Some l)) = done true (state kept l)
goes kept last (Ok None) = done false (state kept last)
goes kept last (Err e) = fail e (state kept last)

-- where the walk goes on, it moves: the descriptor's length byte is not 0
abbrev pub Moves : List ℕ → List ℕ → Next → Type 0
Moves d kept (Ok (Some l)) = Ready kept l × (0 < get_or d 0 0)
Moves d kept (Ok None) = Unit {0}
Moves d kept (Err e) = Unit {0}

-- the code ran a descriptor's program: d is what is left from the descriptor on
pub record Goes (m : Program Walk Bool) (d before : List ℕ) (last : Last) (after : List ℕ) (next : Next) : Type 0 where
  pub is : m (state before last) ≡ goes after last next
  pub moves : Moves d after next

-- what the walk answered, and the record that it left
abbrev pub answer_of : Result (Unit {0}) ErrorCode → Answer
answer_of (Ok _) = Ok tt
answer_of (Err e) = Err (Error e)

abbrev pub ends_with : Result (Unit {0}) ErrorCode → List ℕ → Walked
ends_with result kept = record { answer = answer_of result; kept = kept }
