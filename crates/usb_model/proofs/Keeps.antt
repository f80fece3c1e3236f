-- `Safe P P' m Q`: from every state of which P holds, m leaves one of which P' holds, done, failed or halted; and where it is done,
-- Q holds of its value. One rule for each form of program. Assumes nothing.
use Rattle.std.specs.Prelude.{if◌then◌else◌, Ok, Err}
use mathlib.Core.Path.{◌≡◌, refl}
use mathlib.Core.Bool.{Bool, true, false}
use Prim.Native.Nat.{ℕ, zero, suc, ◌+◌, ◌<◌}
use native.Mathlib.Omega.{arith}
use Rattle.usb_types.specs.declared.types.ErrorCode.{ErrorCode}
use Rattle.usb_types.specs.declared.types.Halt.{Halt}
use Rattle.usb_types.specs.Answers.{Answer}
use Rattle.usb_types.specs.declared.types.Failure.TheVariants.{Error, Stop}
use Rattle.usb_model.specs.Programs.{Ran, done, fail, halt, on, Program, ◌>>=◌, ◌>>◌, return, skip, throw, stop, look, change, ran, succeed, caught, attempt, ignore, when, each, end_of}

abbrev pub Any : {A : Type 0} → A → Type 0
Any a = Unit {0}

pub data Left {S A : Type 0} (P : S → Type 0) (Q : A → Type 0) : Ran S A → Type 0 where
  is-done : {a : A} {s : S} → P s → Q a → Left P Q (done a s)
  is_failed : {e : ErrorCode} {s : S} → P s → Left P Q (fail e s)
  is_halted : {h : Halt} {s : S} → P s → Left P Q (halt h s)

pub record Safe {S : Type 0} (P P' : S → Type 0) {A : Type 0} (m : Program S A) (Q : A → Type 0) : Type 0 where
  pub run : (s : S) → P s → Left P' Q (m s)

abbrev pub Keeps : {S : Type 0} → (S → Type 0) → {A : Type 0} → Program S A → (A → Type 0) → Type 0
Keeps P m Q = Safe P P m Q

pub left_holds : {S A : Type 0} {P : S → Type 0} {Q : A → Type 0} {r : Ran S A} → Left P Q r → P (end_of r)
left_holds (is-done p q) = p
left_holds (is_failed p) = p
left_holds (is_halted p) = p

module _ {S : Type 0} {P P' : S → Type 0} (weaker : (s : S) → P s → P' s) where
  pub left_weaker : {A : Type 0} {Q : A → Type 0} {r : Ran S A} → Left P Q r → Left P' Q r
  left_weaker (is-done p q) = is-done (weaker _ p) q
  left_weaker (is_failed p) = is_failed (weaker _ p)
  left_weaker (is_halted p) = is_halted (weaker _ p)

  left_on : {A B : Type 0} {Q : A → Type 0} {Q' : B → Type 0} {r : Ran S A} {k : A → Program S B} → Left P Q r
      → ((a : A) → Q a → Safe P P' (k a) Q') → Left P' Q' (on r k)
  left_on (is-done {a} {s} p q) f = (f a q).run s p
  left_on (is_failed p) f = is_failed (weaker _ p)
  left_on (is_halted p) f = is_halted (weaker _ p)

  -- first a program that keeps P
  pub bind_to : {A B : Type 0} {Q : A → Type 0} {Q' : B → Type 0} {m : Program S A} {k : A → Program S B} → Keeps P m Q
      → ((a : A) → Q a → Safe P P' (k a) Q') → Safe P P' (m >>= k) Q'
  unfolding ◌>>=◌
  bind_to h f = record { run = λ s p. left_on (h.run s p) f }

  pub next_to : {A B : Type 0} {Q : A → Type 0} {Q' : B → Type 0} {m : Program S A} {k : Program S B} → Keeps P m Q → Safe P P' k Q'
      → Safe P P' (m >> k) Q'
  unfolding ◌>>◌
  next_to h f = record { run = λ s p. left_on (h.run s p) (λ _ _. f) }

  pub skips_to : Safe P P' skip Any
  unfolding skip
  skips_to = record { run = λ s p. is-done (weaker s p) tt }

  pub whens_to : (b : Bool) {m : Program S (Unit {0})} → (b ≡ true → Safe P P' m Any) → Safe P P' (when b m) Any
  unfolding when
  whens_to true h = h refl
  whens_to false h = skips_to

  -- after a test that refuses
  pub unless_to : {B : Type 0} {Q : B → Type 0} (b : Bool) (e : ErrorCode) (k : Program S B) → (b ≡ false → Safe P P' k Q)
      → Safe P P' (when b (throw e) >> k) Q
  unfolding when throw skip ◌>>◌
  unless_to true e k h = record { run = λ s p. is_failed (weaker s p) }
  unless_to false e k h = h refl

ran_left : {S : Type 0} {P : S → Type 0} (s : S) (a : Answer) → P s → Left P Any (ran a s)
ran_left s (Ok _) p = is-done p tt
ran_left s (Err (Error e)) p = is_failed p
ran_left s (Err (Stop h)) p = is_halted p

pub caught_left : {S : Type 0} {P : S → Type 0} {r : Ran S (Unit {0})} → Left P Any r → Left P Any (caught r)
caught_left (is-done p q) = is-done p tt
caught_left (is_failed p) = is-done p tt
caught_left (is_halted p) = is_halted p

module _ {S : Type 0} {P : S → Type 0} where
  pub bind : {A B : Type 0} {Q : A → Type 0} {Q' : B → Type 0} {m : Program S A} {k : A → Program S B} → Keeps P m Q
      → ((a : A) → Q a → Keeps P (k a) Q') → Keeps P (m >>= k) Q'
  bind h f = bind_to (λ s p. p) h f

  pub next : {A B : Type 0} {Q : A → Type 0} {Q' : B → Type 0} {m : Program S A} {k : Program S B} → Keeps P m Q → Keeps P k Q'
      → Keeps P (m >> k) Q'
  next h f = next_to (λ s p. p) h f

  pub gives : {A : Type 0} {Q : A → Type 0} (a : A) → Q a → Keeps P (return a) Q
  unfolding return
  gives a q = record { run = λ s p. is-done p q }

  pub skips : Keeps P skip Any
  skips = skips_to (λ s p. p)

  pub throws : {A : Type 0} {Q : A → Type 0} (e : ErrorCode) → Keeps P (throw {A = A} e) Q
  unfolding throw
  throws e = record { run = λ s p. is_failed p }

  pub stops : {A : Type 0} {Q : A → Type 0} (h : Halt) → Keeps P (stop {A = A} h) Q
  unfolding stop
  stops h = record { run = λ s p. is_halted p }

  pub looks : {A : Type 0} {Q : A → Type 0} (f : S → A) → ((s : S) → P s → Q (f s)) → Keeps P (look f) Q
  unfolding look
  looks f q = record { run = λ s p. is-done p (q s p) }

  pub peeks : {A : Type 0} (f : S → A) → Keeps P (look f) Any
  peeks f = looks f (λ s p. tt)

  pub changes : (f : S → S) → ((s : S) → P s → P (f s)) → Keeps P (change f) Any
  unfolding change
  changes f h = record { run = λ s p. is-done (h s p) tt }

  pub succeeds : (a : Answer) → Keeps P (succeed a) Any
  unfolding succeed
  succeeds a = record { run = λ s p. ran_left s a p }

  pub attempts : {m : Program S (Unit {0})} → Keeps P m Any → Keeps P (attempt m) Any
  unfolding attempt
  attempts h = record { run = λ s p. caught_left (h.run s p) }

  pub ignores : {m : Program S (Unit {0})} → Keeps P m Any → Keeps P (ignore m) Any
  unfolding ignore
  ignores h = next (attempts h) skips

  pub either : {A : Type 0} {Q : A → Type 0} (b : Bool) {m k : Program S A} → Keeps P m Q → Keeps P k Q → Keeps P (if b then m else k) Q
  either true h k = h
  either false h k = k

  pub whens : (b : Bool) {m : Program S (Unit {0})} → Keeps P m Any → Keeps P (when b m) Any
  whens b h = whens_to (λ s p. p) b (λ _. h)

  -- after a test that refuses
  pub unless : {B : Type 0} {Q : B → Type 0} (b : Bool) (e : ErrorCode) (k : Program S B) → (b ≡ false → Keeps P k Q)
      → Keeps P (when b (throw e) >> k) Q
  unless b e k h = unless_to (λ s p. p) b e k h

  -- after a test that stops the call
  pub stops_if : {B : Type 0} {Q : B → Type 0} (b : Bool) (h : Halt) (k : Program S B) → (b ≡ false → Keeps P k Q)
      → Keeps P (when b (stop h) >> k) Q
  unfolding when stop skip ◌>>◌
  stops_if true h k f = record { run = λ s p. is_halted p }
  stops_if false h k f = f refl

  pub eachs : (n from : ℕ) {body : ℕ → Program S (Unit {0})} → ((i : ℕ) → i < from + n → Keeps P (body i) Any)
      → Keeps P (each n from body) Any
  unfolding each
  eachs zero from h = skips
  eachs (suc n) from h = next (h from (omega arith)) (eachs n (from + 1) (λ i l. h i (omega arith)))
