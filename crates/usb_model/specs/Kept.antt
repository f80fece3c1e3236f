-- What holds of every world that a call passes through, between an earlier and a later one, and of what a call leaves. proofs/ has
-- it for every function and every entry point.
use Rattle.std.specs.Prelude.{◌≡◌, Bool, cond, ◌&&◌, ◌≢◌, List, ℕ, zero, suc, ◌+◌, ◌*◌, ◌≤◌, ◌<◌, eqb, ltb, ℤ, length, get_or, drop}
use Rattle.usb_types.specs.Actions.{action_length}
use Rattle.usb_types.specs.Numbers.{minus}
use Rattle.usb_store.specs.Layout.{store_length, child_field, max_children_field, ports_per_hub}
use Rattle.usb_store.specs.Access.{write, byte_at}
use Rattle.usb_device.specs.Device.{first_unused, free_places}
use Rattle.usb_model.specs.World.{World}
use Rattle.usb_model.specs.Entry.{Lent, Left, WalkLeft}

pub record Bytes (l : List ℕ) : Type 0 where
  pub below : (i : ℕ) → get_or l i 0 < 256

-- how many of the first n actions of a log have a kind that passes a test
unfoldable pub kinds_in : (ℕ → Bool) → ℕ → List ℕ → ℕ
kinds_in test zero log = 0
kinds_in test (suc n) log = cond (test (get_or log 0 0)) 1 0 + kinds_in test n (drop action_length log)

-- how many of them are requests: "kind (1 request, ..)"
abbrev pub requests_in : ℕ → List ℕ → ℕ
requests_in n log = kinds_in (λ kind. eqb kind 1) n log

-- "kind (1 request, 2 wait, 3 `DwcUpdateHostFrameInterval`)"
abbrev pub is_kind : ℕ → Bool
is_kind kind = ltb 0 kind && ltb kind 4

-- a child at port q of place h: it stands above its hub, and all places up to it are used
pub record Above (s : List ℕ) (h q : ℕ) : Type 0 where
  pub above : h + 1 < byte_at s h (child_field q)
  pub used : byte_at s h (child_field q) ≤ first_unused s

pub record Good (w : World) : Type 0 where
  pub whole : length w.store ≡ store_length
  pub logged : w.at.logged ≤ length w.log
  pub taken : w.at.taken ≤ length w.outcomes
  -- bytes stay bytes
  pub store : Bytes w.store
  pub log : Bytes w.log
  pub outcomes : Bytes w.outcomes
  -- the rules of a sound store on which loops and recursion rest
  pub most : (h : ℕ) → byte_at w.store h max_children_field ≤ ports_per_hub
  pub child : (h q : ℕ) → q < ports_per_hub → byte_at w.store h (child_field q) ≢ 0 → Above w.store h q

pub record Onward (w v : World) : Type 0 where
  -- the store's length is kept, places are taken and not freed
  pub store : length v.store ≡ length w.store
  pub free : free_places v.store ≤ free_places w.store
  pub first : first_unused w.store ≤ first_unused v.store
  -- outcomes are taken forward only
  pub outcomes : v.outcomes ≡ w.outcomes
  pub taken : w.at.taken ≤ v.at.taken
  -- the log grows by whole actions, at its end; the other bytes stay
  pub actions : ℕ
  pub news : List ℕ
  pub news_length : length news ≡ action_length * actions
  pub kinds : kinds_in is_kind actions news ≡ actions
  pub log : v.log ≡ write w.log w.at.logged news
  pub logged : v.at.logged ≡ w.at.logged + action_length * actions
  -- the requests counted are the actions of kind 1
  pub requests : v.at.requests ≡ w.at.requests + requests_in actions news

-- a number of document 01's table, 0 to −16
pub record Listed (answer : ℤ) : Type 0 where
  pub number : ℕ
  pub most : number ≤ 16
  pub is : answer ≡ minus number

-- what is lent to a call are bytes
pub record LentBytes (lent : Lent) : Type 0 where
  pub old : Bytes lent.old
  pub new : Bytes lent.new
  pub outcomes : Bytes lent.outcomes
  pub log : Bytes lent.log

-- of a call, refused or not: an answer of the table; bytes of the same lengths; whole actions from the start of the log on, and the
-- bytes after them as they were; each of one of the three kinds, and as many requests reported as there are actions of kind 1 among them
pub record Accounts (lent : Lent) (left : Left) : Type 0 where
  pub answer : Listed left.answer
  pub new_length : length left.new ≡ length lent.new
  pub new_bytes : Bytes left.new
  pub log-length : length left.log ≡ length lent.log
  pub log_bytes : Bytes left.log
  pub actions : ℕ
  pub room : action_length * actions ≤ length left.log
  pub later : drop (action_length * actions) left.log ≡ drop (action_length * actions) lent.log
  pub kinds : kinds_in is_kind actions left.log ≡ actions
  pub requests : left.requests ≡ requests_in actions left.log

-- of a walk alone
pub record WalkAccounts (kept : List ℕ) (left : WalkLeft) : Type 0 where
  pub answer : Listed left.answer
  pub kept_length : length left.kept ≡ length kept
  pub kept_bytes : Bytes left.kept
