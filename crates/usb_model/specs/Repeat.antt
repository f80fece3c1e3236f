-- A call repeated with more outcomes. Document 01: "A stopped call is repeated from the old store with more outcomes; against the
-- Rust it is compared up to the stop." proofs/Repeat.antt has `Repeated` for every entry point, whatever is lent.
use Rattle.std.specs.Prelude.{◌≡◌, ◌≢◌, List, ◌++◌, ℕ, ◌+◌, ◌*◌, ◌≤◌, length, take}
use Rattle.usb_types.specs.Actions.{action_length}
use Rattle.usb_types.specs.Answers.{halt_number}
use Rattle.usb_types.specs.declared.types.Halt.TheVariants.{OutcomesSpent}
use Rattle.usb_store.specs.Access.{write}
use Rattle.usb_model.specs.Entry.{Lent, Left}
use Rattle.usb_model.specs.Kept.{requests_in}

-- what was lent, with more outcomes behind the first ones
abbrev pub with_more : List ℕ → Lent → Lent
with_more more lent = record { old = lent.old; new = lent.new; outcomes = lent.outcomes ++ more; log = lent.log }

-- of what a call leaves, and what it leaves when it is repeated with more outcomes
pub record Repeated (lent : Lent) (left left' : Left) : Type 0 where
  -- more outcomes change no answer but "outcomes spent", −14: any other call leaves all as before
  pub same : left.answer ≢ halt_number OutcomesSpent → left' ≡ left
  -- the actions that the call logs, from the start of the log on, and the requests among them
  pub actions : ℕ
  pub news : List ℕ
  pub news_length : length news ≡ action_length * actions
  pub log : left.log ≡ write lent.log 0 news
  pub requests : left.requests ≡ requests_in actions news
  -- the repeat logs them too, and further ones behind them; there is room for all
  pub further : ℕ
  pub later : List ℕ
  pub later_length : length later ≡ action_length * further
  pub log' : left'.log ≡ write left.log (action_length * actions) later
  pub requests' : left'.requests ≡ left.requests + requests_in further later
  pub room : action_length * (actions + further) ≤ length lent.log
  -- so up to the stop the two logs agree
  pub agree : take (action_length * actions) left'.log ≡ take (action_length * actions) left.log
