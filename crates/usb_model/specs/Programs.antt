-- Programs over a state. Each ends done with a value, failed with a code or halted, and leaves a state.
use Rattle.std.specs.Prelude.{Result, if◌then◌else◌, Bool, ℕ, zero, suc, ◌+◌, Ok, Err}
use Rattle.usb_types.specs.declared.types.ErrorCode.{ErrorCode}
use Rattle.usb_types.specs.declared.types.Halt.{Halt}
use Rattle.usb_types.specs.declared.types.Failure.{Failure}
use Rattle.usb_types.specs.Answers.{Answer}
use Rattle.usb_types.specs.declared.types.Failure.TheVariants.{Error, Stop}

-- document 01: "Answers −13 to −15 stop the whole call; −10 and −11 travel upward as the Rust's codes do"
pub data Ran (S A : Type 0) : Type 0 where
  done : A → S → Ran S A
  fail : ErrorCode → S → Ran S A
  halt : Halt → S → Ran S A

-- the state in which a run ends
abbrev pub end_of : {S A : Type 0} → Ran S A → S
end_of (done a s) = s
end_of (fail e s) = s
end_of (halt h s) = s

abbrev pub Program : Type 0 → Type 0 → Type 0
Program S A = S → Ran S A

-- what comes after, where a program is done; a failure and a halt end it
abbrev pub on : {S A B : Type 0} → Ran S A → (A → Program S B) → Ran S B
on (done a s) k = k a s
on (fail e s) k = fail e s
on (halt h s) k = halt h s

infixl 20 ◌>>=◌
infixl 20 ◌>>◌
unfoldable pub ◌>>=◌ : {S A B : Type 0} → Program S A → (A → Program S B) → Program S B
◌>>=◌ m k s = on (m s) k

unfoldable pub ◌>>◌ : {S A B : Type 0} → Program S A → Program S B → Program S B
◌>>◌ m k s = on (m s) (λ _. k)

unfoldable pub return : {S A : Type 0} → A → Program S A
return a s = done a s

unfoldable pub skip : {S : Type 0} → Program S (Unit {0})
skip s = done tt s

unfoldable pub throw : {S A : Type 0} → ErrorCode → Program S A
throw e s = fail e s

unfoldable pub stop : {S A : Type 0} → Halt → Program S A
stop h s = halt h s

-- a part of the state
unfoldable pub look : {S A : Type 0} → (S → A) → Program S A
look f s = done (f s) s

unfoldable pub change : {S : Type 0} → (S → S) → Program S (Unit {0})
change f s = done tt (f s)

-- how a program ends, by what it answers
abbrev pub ran : {S A : Type 0} → Result A Failure → S → Ran S A
ran (Ok a) s = done a s
ran (Err (Error e)) s = fail e s
ran (Err (Stop h)) s = halt h s

-- `if result != OK { return result; }`
unfoldable pub succeed : {S : Type 0} → Answer → Program S (Unit {0})
succeed a s = ran a s

-- a failure as a value; a halt goes on upward
abbrev pub caught : {S : Type 0} → Ran S (Unit {0}) → Ran S Answer
caught (done a s) = done (Ok tt) s
caught (fail e s) = done (Err (Error e)) s
caught (halt h s) = halt h s

-- `let result = ..`
unfoldable pub attempt : {S : Type 0} → Program S (Unit {0}) → Program S Answer
attempt m s = caught (m s)

-- a call whose result the Rust does not look at
unfoldable pub ignore : {S : Type 0} → Program S (Unit {0}) → Program S (Unit {0})
ignore m = do
  attempt m
  skip

unfoldable pub when : {S : Type 0} → Bool → Program S (Unit {0}) → Program S (Unit {0})
when b m = if b then m else skip

-- `for i in from..from + n`
unfoldable pub each : {S : Type 0} → ℕ → ℕ → (ℕ → Program S (Unit {0})) → Program S (Unit {0})
each zero from body = skip
each (suc n) from body = do
  body from
  each n (from + 1) body
