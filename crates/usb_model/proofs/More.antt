-- `Extends more m`: with more outcomes behind those of a world, m does what it did without them. But where it was stopped for want of
-- outcomes, it logs what it had logged at that stop and goes on from there. One rule for each form of program, then the steps that
-- the functions are made of. It holds from every world, so no rule has a side condition. Assumes nothing.
use Rattle.std.specs.Prelude.{if◌then◌else◌, Ok, Err}
use mathlib.Core.Path.{◌≡◌, refl, ap}
use mathlib.Core.Bool.{Bool, true, false, cond, not}
use mathlib.Core.List.{List, [], ◌∷◌, ◌++◌}
use Prim.Native.Nat.{ℕ, zero, suc, ◌+◌, ◌-◌, ◌≤◌, min}
use native.Mathlib.Omega.{arith}
use borrow.Author.Tests.{ltb-false, le-ltb}
use lib.Dec.{ltb}
use lib.ListN.{length, get_or, drop, length-append, length-drop}
use lib.Seq.{take-append-le, drop-append-le}
use Rattle.usb_types.specs.Numbers.{number_in}
use Rattle.usb_types.specs.Outcomes.{listed}
use Rattle.usb_types.specs.Actions.{request_action, wait_action, frame_interval_action}
use Rattle.usb_types.specs.declared.types.ErrorCode.{ErrorCode}
use Rattle.usb_types.specs.declared.types.Halt.TheVariants.{GarbledOutcome, OutcomesSpent, LogFull}
use Rattle.usb_types.specs.Answers.{Answer}
use Rattle.usb_types.specs.declared.types.Failure.TheVariants.{Error, Stop}
use Rattle.usb_types.specs.declared.request.UsbDeviceRequest.{UsbDeviceRequest}
use Rattle.usb_types.specs.declared.pipe.UsbPipeAddress.{UsbPipeAddress}
use Rattle.usb_store.proofs.Writes.{length_write}
use Rattle.usb_model.specs.Programs.{Ran, done, fail, halt, on, ◌>>=◌, ◌>>◌, return, skip, throw, stop, look, change, succeed, caught, attempt, ignore, when, each, end_of}
use Rattle.usb_model.specs.World.{World, M, get, get_bytes, get_number, put_bytes, appended, counted, log_action, log_request, micro_delay, dwc_update_host_frame_interval}
use Rattle.usb_model.specs.Transfer.{Outcome, taken, size_of, outcome_of, take_outcome}
use Rattle.usb_model.specs.Kept.{kinds_in, requests_in, is_kind, Onward}
use Rattle.usb_model.proofs.Ways.{logged_world}
use Rattle.usb_model.proofs.Onward.{onward_same, onward_join}
use Rattle.usb_model.proofs.Primitives.{log_onward}

-- ---- the log alone

-- a world without its store and its outcomes
abbrev log_of : World → World
log_of w = record { store = []; log = w.log; outcomes = []; at = record { logged = w.at.logged; taken = 0; requests = w.at.requests } }

pub record Grown (w v : World) : Type 0 where
  pub onward : Onward w v
  pub fits : w.at.logged ≤ length w.log → v.at.logged ≤ length v.log

-- from w to v actions are logged, and there is room for them
abbrev pub Grows : World → World → Type 0
Grows w v = Grown (log_of w) (log_of v)

pub still : {w : World} → Grown w w
still {w} = record { onward = onward_same w; fits = λ h. h }

join : {u v w : World} → Grown u v → Grown v w → Grown u w
join p q = record { onward = onward_join p.onward q.onward; fits = λ h. q.fits (p.fits h) }

-- "under 16 log bytes are left"
abbrev full : World → Bool
full w = ltb (length w.log - w.at.logged) 16

-- an action is logged
logged : (w : World) (action : List ℕ) (requests : ℕ) → length action ≡ 16 → kinds_in is_kind 1 action ≡ 1
    → requests ≡ w.at.requests + requests_in 1 action → full w ≡ false
    → Grows w (logged_world w action requests)
logged w action requests long kind e room = record {
  onward = log_onward action requests long kind e;
  fits = λ h. omega (arith, ltb-false (length w.log - w.at.logged) 16 room, length_write w.log w.at.logged action);
}

-- ---- programs

module _ (more : List ℕ) where
  abbrev pub extended : World → World
  extended w = record { store = w.store; log = w.log; outcomes = w.outcomes ++ more; at = w.at }

  abbrev extended_ran : {A : Type 0} → Ran World A → Ran World A
  extended_ran (done a w) = done a (extended w)
  extended_ran (fail e w) = fail e (extended w)
  extended_ran (halt h w) = halt h (extended w)

  -- how a program ends, and how it ends with more outcomes
  pub data Repeats {A : Type 0} : Ran World A → Ran World A → Type 0 where
    same : {r : Ran World A} → Repeats r (extended_ran r)
    spent : {v : World} {r : Ran World A} → Grows v (end_of r) → Repeats (halt OutcomesSpent v) r

  pub record Extends {A : Type 0} (m : M A) : Type 0 where
    pub grows : (w : World) → Grows w (end_of (m w))
    pub repeats : (w : World) → Repeats (m w) (m (extended w))

grows_caught : {w : World} (r : Ran World (Unit {0})) → Grown w (log_of (end_of r)) → Grown w (log_of (end_of (caught r)))
grows_caught (done a v) g = g
grows_caught (fail e v) g = g
grows_caught (halt h v) g = g

module _ {more : List ℕ} where
  grows_on : {A B : Type 0} {w : World} {k : A → M B} (r : Ran World A) → Grown w (log_of (end_of r)) → ((a : A) → Extends more (k a))
      → Grown w (log_of (end_of (on r k)))
  grows_on (done a v) g f = join g ((f a).grows v)
  grows_on (fail e v) g f = g
  grows_on (halt h v) g f = g

  repeats_on : {A B : Type 0} {k : A → M B} {r r' : Ran World A} → Repeats more r r' → ((a : A) → Extends more (k a))
      → Repeats more (on r k) (on r' k)
  repeats_on (same {r = done a v}) f = (f a).repeats v
  repeats_on (same {r = fail e v}) f = same
  repeats_on (same {r = halt h v}) f = same
  repeats_on (spent {r} g) f = spent (grows_on r g f)

  pub bind : {A B : Type 0} {m : M A} {k : A → M B} → Extends more m → ((a : A) → Extends more (k a)) → Extends more (m >>= k)
  unfolding ◌>>=◌
  bind {m} h f = record { grows = λ w. grows_on (m w) (h.grows w) f; repeats = λ w. repeats_on (h.repeats w) f }

  pub next : {A B : Type 0} {m : M A} {k : M B} → Extends more m → Extends more k → Extends more (m >> k)
  unfolding ◌>>◌
  next {m} h f = record { grows = λ w. grows_on (m w) (h.grows w) (λ _. f); repeats = λ w. repeats_on (h.repeats w) (λ _. f) }

  repeats_caught : {r r' : Ran World (Unit {0})} → Repeats more r r' → Repeats more (caught r) (caught r')
  repeats_caught (same {r = done a v}) = same
  repeats_caught (same {r = fail e v}) = same
  repeats_caught (same {r = halt h v}) = same
  repeats_caught (spent {r} g) = spent (grows_caught r g)

  pub attempts : {m : M (Unit {0})} → Extends more m → Extends more (attempt m)
  unfolding attempt
  attempts {m} h = record { grows = λ w. grows_caught (m w) (h.grows w); repeats = λ w. repeats_caught (h.repeats w) }

  pub gives : {A : Type 0} (a : A) → Extends more (return a)
  unfolding return
  gives a = record { grows = λ w. still; repeats = λ w. same }

  pub skips : Extends more skip
  unfolding skip
  skips = record { grows = λ w. still; repeats = λ w. same }

  pub throws : {A : Type 0} (e : ErrorCode) → Extends more (throw {A = A} e)
  unfolding throw
  throws e = record { grows = λ w. still; repeats = λ w. same }

  pub succeeds : (a : Answer) → Extends more (succeed a)
  unfolding succeed
  succeeds (Ok _) = record { grows = λ w. still; repeats = λ w. same }
  succeeds (Err (Error e)) = record { grows = λ w. still; repeats = λ w. same }
  succeeds (Err (Stop h)) = record { grows = λ w. still; repeats = λ w. same }

  pub ignores : {m : M (Unit {0})} → Extends more m → Extends more (ignore m)
  unfolding ignore
  ignores h = next (attempts h) skips

  pub either : {A : Type 0} (b : Bool) {m k : M A} → Extends more m → Extends more k → Extends more (if b then m else k)
  either true h k = h
  either false h k = k

  pub whens : (b : Bool) {m : M (Unit {0})} → Extends more m → Extends more (when b m)
  unfolding when
  whens b h = either b h skips

  pub eachs : (n from : ℕ) {body : ℕ → M (Unit {0})} → ((i : ℕ) → Extends more (body i)) → Extends more (each n from body)
  unfolding each
  eachs zero from h = skips
  eachs (suc n) from h = next (h from) (eachs n (from + 1) h)

  -- ---- the store

  pub looks : {A : Type 0} (f : List ℕ → A) → Extends more (look (λ w. f w.store))
  unfolding look
  looks f = record { grows = λ w. still; repeats = λ w. same }

  pub gets : (p f : ℕ) → Extends more (get p f)
  unfolding get
  gets p f = looks _

  pub gets_bytes : (p f n : ℕ) → Extends more (get_bytes p f n)
  unfolding get_bytes
  gets_bytes p f n = looks _

  pub gets_number : (p f n : ℕ) → Extends more (get_number p f n)
  unfolding get_number
  gets_number p f n = looks _

  pub puts_bytes : (p f : ℕ) (vs : List ℕ) → Extends more (put_bytes p f vs)
  unfolding put_bytes change
  puts_bytes p f vs = record { grows = λ w. still; repeats = λ w. same }

  -- ---- the log

  -- the test for room, and k after it
  roomy : (k : Ran World (Unit {0}) → Ran World (Unit {0})) → ((w : World) → Grows w (end_of (k (halt LogFull w))))
      → ((w : World) → full w ≡ false → Grows w (end_of (k (done tt w))))
      → ((w : World) → Repeats more (k (halt LogFull w)) (k (halt LogFull (extended more w))))
      → ((w : World) → Repeats more (k (done tt w)) (k (done tt (extended more w))))
      → Extends more (λ w. k (cond (full w) (stop LogFull) skip w))
  unfolding stop skip
  roomy k a b c d = record { grows = λ w. grow w (full w) refl; repeats = λ w. repeat w (full w) }
    where
      grow : (w : World) (t : Bool) → full w ≡ t → Grows w (end_of (k (cond t (stop LogFull) skip w)))
      grow w true e = a w
      grow w false e = b w e

      repeat : (w : World) (t : Bool) → Repeats more (k (cond t (stop LogFull) skip w)) (k (cond t (stop LogFull) skip (extended more w)))
      repeat w true = c w
      repeat w false = d w

  -- an action that is no request
  logs : (action : List ℕ) → length action ≡ 16 → kinds_in is_kind 1 action ≡ 1 → requests_in 1 action ≡ 0 → Extends more (log_action action)
  unfolding log_action ◌>>=◌ ◌>>◌ look when change
  logs action long kind none =
      roomy (λ r. on r (λ _. change (appended action))) (λ w. still) (λ w e. logged w action _ long kind (omega (arith, none)) e) (λ w. same)
      (λ w. same)

  pub waits : (microseconds : ℕ) → Extends more (micro_delay microseconds)
  unfolding micro_delay kinds_in
  waits microseconds = logs (wait_action microseconds) refl refl refl

  pub frames : Extends more dwc_update_host_frame_interval
  unfolding dwc_update_host_frame_interval kinds_in
  frames = logs frame_interval_action refl refl refl

  -- a request, which is counted
  pub requests : (pipe : UsbPipeAddress) (q : UsbDeviceRequest) → Extends more (log_request (request_action pipe q))
  unfolding log_request log_action ◌>>=◌ ◌>>◌ look when change kinds_in
  requests pipe q =
      let action : List ℕ = request_action pipe q in
      roomy (λ r. on (on r (λ _. change (appended action))) (λ _. change counted)) (λ w. still) (λ w e. logged w action _ refl refl refl e) (λ w. same) (λ w. same)

-- ---- an outcome

-- the three tests on what is left of the outcomes
abbrev is_short : List ℕ → Bool
is_short rest = ltb (length rest) 4

abbrev is_garbled : List ℕ → Bool
is_garbled rest = not (listed (get_or rest 0 0) (get_or rest 1 0))

abbrev is_cut : List ℕ → Bool
is_cut rest = ltb (length rest) (4 + size_of rest)

-- what `take_outcome` does by these tests
abbrev taking : ℕ → List ℕ → Bool → Bool → Bool → M Outcome
taking asked rest short garbled cut =
    when short (stop OutcomesSpent) >> (when garbled (stop GarbledOutcome) >> (when cut (stop OutcomesSpent)
    >> (change (taken (4 + size_of rest)) >> return (outcome_of asked rest))))

abbrev take_from : ℕ → List ℕ → M Outcome
take_from asked rest = taking asked rest (is_short rest) (is_garbled rest) (is_cut rest)

grows_taking : (asked : ℕ) (rest : List ℕ) (short garbled cut : Bool) (w : World) → Grows w (end_of (taking asked rest short garbled cut w))
unfolding ◌>>◌ when stop skip change return
grows_taking asked rest true garbled cut w = still
grows_taking asked rest false true cut w = still
grows_taking asked rest false false true w = still
grows_taking asked rest false false false w = still

grows_take : (asked : ℕ) (rest : List ℕ) (w : World) → Grows w (end_of (take_from asked rest w))
grows_take asked rest w = grows_taking asked rest (is_short rest) (is_garbled rest) (is_cut rest) w

module _ {more : List ℕ} (asked : ℕ) (w : World) {r : Ran World Outcome} (g : Grows w (end_of r)) where
  -- a whole header is left, and t after it
  repeats_header : (a b c d : ℕ) (t : List ℕ) (garbled cut : Bool) → is_cut (a ∷ b ∷ c ∷ d ∷ t) ≡ cut
      → r ≡ taking asked (a ∷ b ∷ c ∷ d ∷ (t ++ more)) false garbled (is_cut (a ∷ b ∷ c ∷ d ∷ (t ++ more))) (extended more w)
      → Repeats more (taking asked (a ∷ b ∷ c ∷ d ∷ t) false garbled cut w) r
  unfolding ◌>>◌ when stop skip change return number_in
  repeats_header a b c d t true cut e h = rw h same
  repeats_header a b c d t false true e h = spent g
  repeats_header a b c d t false false e h =
      let size : ℕ = size_of (a ∷ b ∷ c ∷ d ∷ t) in
      let whole : 4 + size ≤ length (a ∷ b ∷ c ∷ d ∷ t) = ltb-false (length (a ∷ b ∷ c ∷ d ∷ t)) (4 + size) e in
      rw (
        h,
        le-ltb (length (a ∷ b ∷ c ∷ d ∷ (t ++ more))) (4 + size) (omega (arith, length-append t more)),
        take-append-le (min size asked) t more (omega arith),
      ) same

  repeats_take : (rest : List ℕ) → (4 ≤ length rest → r ≡ take_from asked (rest ++ more) (extended more w))
      → Repeats more (take_from asked rest w) r
  unfolding ◌>>◌ when stop
  repeats_take [] h = spent g
  repeats_take (a ∷ []) h = spent g
  repeats_take (a ∷ b ∷ []) h = spent g
  repeats_take (a ∷ b ∷ c ∷ []) h = spent g
  repeats_take (a ∷ b ∷ c ∷ d ∷ t) h =
      rw (le-ltb (length (a ∷ b ∷ c ∷ d ∷ t)) 4 (omega arith))
      (repeats_header a b c d t (is_garbled (a ∷ b ∷ c ∷ d ∷ t)) (is_cut (a ∷ b ∷ c ∷ d ∷ t)) refl
      (rw (le-ltb (length (a ∷ b ∷ c ∷ d ∷ (t ++ more))) 4 (omega arith)) at (h (omega arith))))

pub takes : {more : List ℕ} (asked : ℕ) → Extends more (take_outcome asked)
unfolding take_outcome ◌>>=◌ look
takes {more} asked = record {
  grows = λ w. grows_take asked (drop w.at.taken w.outcomes) w;
  repeats = λ w.
      let left : List ℕ = drop w.at.taken w.outcomes in
      repeats_take asked w (grows_take asked (drop w.at.taken (w.outcomes ++ more)) (extended more w)) left (λ h.
      ap (λ (l : List ℕ). take_from asked l (extended more w))
      (drop-append-le w.at.taken w.outcomes more (omega (arith, length-drop w.at.taken w.outcomes))));
}

pub ruleset Steps = (
  bind,
  next,
  attempts,
  gives,
  skips,
  throws,
  succeeds,
  ignores,
  either,
  whens,
  eachs,
  gets,
  gets_bytes,
  gets_number,
  puts_bytes,
  waits,
  frames,
  requests,
  takes,
)
