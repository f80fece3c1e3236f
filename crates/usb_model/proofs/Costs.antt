-- `Costs F k m`: from every state of which F's `pre` holds, m ends in one of which F's `post` holds, done, failed or halted; and what
-- F counts as spent has grown by at most k more than what it counts as owned. One rule for each form of program. Assumes nothing.
use Rattle.std.specs.Prelude.{if◌then◌else◌, Ok, Err}
use mathlib.Core.Path.{◌≡◌, refl}
use mathlib.Core.Bool.{Bool, true, false}
use Prim.Native.Nat.{ℕ, zero, suc, ◌+◌, ◌*◌, ◌≤◌, ◌<◌}
use native.Mathlib.Omega.{arith}
use Rattle.usb_types.specs.declared.types.ErrorCode.{ErrorCode}
use Rattle.usb_types.specs.declared.types.Halt.{Halt}
use Rattle.usb_types.specs.Answers.{Answer}
use Rattle.usb_types.specs.declared.types.Failure.TheVariants.{Error, Stop}
use Rattle.usb_model.specs.Programs.{Ran, done, fail, halt, on, Program, ◌>>=◌, ◌>>◌, return, skip, throw, stop, look, change, ran, succeed, caught, attempt, ignore, when, each, end_of}

pub record Frame (S : Type 0) : Type 1 where
  pub pre : S → Type 0
  pub post : S → Type 0
  pub keep : (s : S) → pre s → post s
  pub spent : S → ℕ
  pub owned : S → ℕ

-- what holds before holds after
abbrev pub always : {S : Type 0} → (S → Type 0) → (S → ℕ) → (S → ℕ) → Frame S
always P spent owned = record { pre = P; post = P; keep = λ s h. h; spent = spent; owned = owned }

abbrev pub before : {S : Type 0} → Frame S → Frame S
before F = always F.pre F.spent F.owned

abbrev pub after : {S : Type 0} → Frame S → Frame S
after F = always F.post F.spent F.owned

pub record Ended {S : Type 0} (F : Frame S) (k : ℕ) (s t : S) : Type 0 where
  pub holds : F.post t
  pub paid : F.spent t + F.owned s ≤ F.spent s + k + F.owned t

pub record Costs {S : Type 0} (F : Frame S) (k : ℕ) {A : Type 0} (m : Program S A) : Type 0 where
  pub run : (s : S) → F.pre s → Ended (after F) k s (end_of (m s))

module _ {S : Type 0} (F : Frame S) where
  stays : {k : ℕ} (s : S) → F.pre s → Ended (after F) k s s
  stays s h = record { holds = F.keep s h; paid = omega arith }

  -- one program after another, with what holds between them
  joined : {A B : Type 0} {P : S → Type 0} {k l : ℕ} {s : S} (r : Ran S A) (f : A → Program S B)
      → Ended (always P F.spent F.owned) k s (end_of r)
      → ((t : S) → P t → F.post t) → ((a : A) (t : S) → P t → Ended (after F) l t (end_of (f a t)))
      → Ended (after F) (k + l) s (end_of (on r f))
  joined (done a t) f e keep g = let d = g a t e.holds in record { holds = d.holds; paid = omega (arith, e.paid, d.paid) }
  joined (fail x t) f e keep g = record { holds = keep t e.holds; paid = omega (arith, e.paid) }
  joined (halt x t) f e keep g = record { holds = keep t e.holds; paid = omega (arith, e.paid) }

module _ {S : Type 0} {F : Frame S} {A B : Type 0} {k l : ℕ} {m : Program S A} where
  pub bind : {f : A → Program S B} → Costs (before F) k m → ((a : A) → Costs F l (f a)) → Costs F (k + l) (m >>= f)
  unfolding ◌>>=◌
  bind {f} h g = record { run = λ s p. joined F (m s) f (h.run s p) F.keep (λ a. (g a).run) }

  pub next : {f : Program S B} → Costs (before F) k m → Costs F l f → Costs F (k + l) (m >> f)
  unfolding ◌>>◌
  next {f} h g = record { run = λ s p. joined F (m s) (λ _. f) (h.run s p) F.keep (λ _. g.run) }

  -- first a program after which only `post` holds
  pub next' : {f : Program S B} → Costs F k m → Costs (after F) l f → Costs F (k + l) (m >> f)
  unfolding ◌>>◌
  next' {f} h g = record { run = λ s p. joined F (m s) (λ _. f) (h.run s p) (λ t x. x) (λ _. g.run) }

module _ {S : Type 0} {F : Frame S} where
  -- what is looked at is known to be of a state of which `pre` holds
  pub looks : {A B : Type 0} {k : ℕ} (g : S → A) (f : A → Program S B) → ((s : S) → F.pre s → Costs F k (f (g s)))
      → Costs F k (look g >>= f)
  unfolding look ◌>>=◌
  looks g f h = record { run = λ s p. (h s p).run s p }

  pub more : {A : Type 0} {k : ℕ} (l : ℕ) {m : Program S A} → Costs F k m → k ≤ l → Costs F l m
  more l h i = record { run = λ s p. let e = h.run s p in record { holds = e.holds; paid = omega (arith, e.paid) } }

  pub gives : {A : Type 0} (a : A) → Costs F 0 (return a)
  unfolding return
  gives a = record { run = stays F }

  pub skips : Costs F 0 skip
  unfolding skip
  skips = record { run = stays F }

  pub throws : {A : Type 0} (e : ErrorCode) → Costs F 0 (throw {A = A} e)
  unfolding throw
  throws e = record { run = stays F }

  pub stops : {A : Type 0} (h : Halt) → Costs F 0 (stop {A = A} h)
  unfolding stop
  stops h = record { run = stays F }

  pub sees : {A : Type 0} (g : S → A) → Costs F 0 (look g)
  unfolding look
  sees g = record { run = stays F }

  pub changes : {k : ℕ} (f : S → S) → ((s : S) → F.pre s → Ended (after F) k s (f s)) → Costs F k (change f)
  unfolding change
  changes f h = record { run = h }

  pub succeeds : (a : Answer) → Costs F 0 (succeed a)
  unfolding succeed
  succeeds a = record { run = go a }
    where
      go : (a : Answer) (s : S) → F.pre s → Ended (after F) 0 s (end_of (ran a s))
      go (Ok _) s h = stays F s h
      go (Err (Error e)) s h = stays F s h
      go (Err (Stop x)) s h = stays F s h

  pub attempts : {k : ℕ} {m : Program S (Unit {0})} → Costs F k m → Costs F k (attempt m)
  unfolding attempt
  attempts {k} {m} h = record { run = λ s p. go s (m s) (h.run s p) }
    where
      go : (s : S) (r : Ran S (Unit {0})) → Ended (after F) k s (end_of r) → Ended (after F) k s (end_of (caught r))
      go s (done a t) e = e
      go s (fail x t) e = e
      go s (halt x t) e = e

  pub either : {A : Type 0} {k : ℕ} (b : Bool) {m f : Program S A} → Costs F k m → Costs F k f → Costs F k (if b then m else f)
  either true h f = h
  either false h f = f

  -- where the test decides whether the program runs at all
  pub whens_true : {k : ℕ} (b : Bool) {m : Program S (Unit {0})} → (b ≡ true → Costs F k m) → Costs F k (when b m)
  unfolding when
  whens_true true h = h refl
  whens_true {k} false h = more k skips (omega arith)

  pub whens : {k : ℕ} (b : Bool) {m : Program S (Unit {0})} → Costs F k m → Costs F k (when b m)
  whens b h = whens_true b (λ _. h)

  -- after a test that refuses
  pub unless : {B : Type 0} {k : ℕ} (b : Bool) (e : ErrorCode) (f : Program S B) → (b ≡ false → Costs F k f)
      → Costs F k (when b (throw e) >> f)
  unfolding when throw skip ◌>>◌
  unless true e f h = record { run = stays F }
  unless false e f h = h refl

pub ignores : {S : Type 0} {F : Frame S} {k : ℕ} {m : Program S (Unit {0})} → Costs F k m → Costs F k (ignore m)
unfolding ignore
ignores {k} h = more k (next' (attempts h) skips) (omega arith)

pub eachs : {S : Type 0} {P : S → Type 0} {spent owned : S → ℕ} {k : ℕ} (n from : ℕ) {body : ℕ → Program S (Unit {0})}
    → ((i : ℕ) → i < from + n → Costs (always P spent owned) k (body i)) → Costs (always P spent owned) (n * k) (each n from body)
unfolding each
eachs zero from h = more _ skips (omega arith)
eachs (suc n) from h = more _ (next (h from (omega arith)) (eachs n (from + 1) (λ i l. h i (omega arith)))) (omega arith)
