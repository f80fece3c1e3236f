-- What a call is lent, hands back and leaves, as the model's entry points have it.
use Rattle.std.specs.Prelude.{◌≡◌, Bool, List, ℕ, ℤ, length, Result, Ok, Err}
use Rattle.usb_types.specs.Answers.{Answer, answer_number, refusal_number}
use Rattle.usb_types.specs.declared.types.Refusal.{Refusal}
use Rattle.usb_model.specs.Entry as Model
use Rattle.usb_model.specs.Entry.{Lent, Left, WalkLeft}
use Rattle.usb_entry.specs.declared.reply.Reply.{Reply}

-- the slices of a call, in the order of its parameters
abbrev pub lent : List ℕ → List ℕ → List ℕ → List ℕ → Lent
lent old new outcomes log = record { old = old; new = new; outcomes = outcomes; log = log }

-- the reply, and what the two slices that are written hold after it
abbrev pub left : Reply → List ℕ → List ℕ → Left
left r new log = record { answer = r.answer; requests = r.requests; new = new; log = log }

-- the walk alone: its answer, and the record that it left
abbrev pub walk_left : ℤ → List ℕ → WalkLeft
walk_left answer kept = record { answer = answer; kept = kept }

-- ---- replies

abbrev pub refusal_reply : Refusal → Reply
refusal_reply refusal = record { answer = refusal_number refusal; requests = 0 }

abbrev pub answer_reply : Answer → ℕ → Reply
answer_reply answer requests = record { answer = answer_number answer; requests = requests }

-- ---- verdicts

abbrev pub told : Result (Unit {0}) Refusal → Model.Verdict
told (Ok _) = Model.accepted
told (Err r) = Model.refused r

-- a test of a call that lends the old store, whatever else it lends
abbrev pub Tests : (Lent → Bool) → List ℕ → Bool → Type 0
Tests test old r = (new outcomes log : List ℕ) → r ≡ test (lent old new outcomes log)

-- what is found of a call that lends the old store and n bytes for the new one, whatever else it lends
abbrev pub Judges : {A : Type 0} → (Lent → A) → List ℕ → ℕ → A → Type 0
Judges verdict old n r = (new outcomes log : List ℕ) → length new ≡ n → r ≡ verdict (lent old new outcomes log)
