-- How a run goes on after a step. Each law fits one statement of a `do` block, so that a function's proof follows its program line by
-- line. Assumes nothing.
use Rattle.std.specs.Prelude.{◌≡◌, Bool, true, false, cond, List, ℕ, suc, ◌+◌, ◌-◌, ◌≤◌, ◌<◌, Result, Ok, Err, refl, IsErr, IsErrAnd}
use Rattle.std.specs.Borrow.{Bor}
use Rattle.std.proofs.Common.{arith, ap, sym, subst, ◌∙◌}
use native.Mathlib.Nat.{sub-zero}
use Rattle.std.proofs.lemmas.Result.{err_from_is_err_and}
use Rattle.usb_types.specs.Answers.{Answer}
use Rattle.usb_types.specs.declared.types.ErrorCode.{ErrorCode}
use Rattle.usb_types.specs.declared.types.Halt.{Halt}
use Rattle.usb_types.specs.declared.types.Failure.{Failure}
use Rattle.usb_types.specs.declared.types.Failure.TheVariants.{Error, Stop}
use Rattle.usb_store.specs.Access.{byte_at, number_at, with_bytes}
use Rattle.usb_store.proofs.Fields.{with_length}
use Rattle.usb_model.specs.Programs.{Ran, done, on, ◌>>=◌, ◌>>◌, return, skip, throw, look, change, succeed, ran, caught, attempt, when, each}
use Rattle.usb_model.specs.World.{World, M, get, get_number, put_bytes, with_store}
use Rattle.usb_transfer.specs.declared.bus.UsbBus.{UsbBus}
use Rattle.usb_transfer.specs.Runs.{world, Fit, Ready, Lends, Does, Logs, bytes_of}

pub lends_still : (b : UsbBus) → Lends b b
lends_still b = record { store = refl; log = refl; outcomes = refl; store_length = refl; log_length = refl }

pub lends_on : {b b₁ b₂ : UsbBus} → Lends b b₁ → Lends b₁ b₂ → Lends b b₂
lends_on p q = record {
  store = q.store ∙ p.store;
  log = q.log ∙ p.log;
  outcomes = q.outcomes ∙ p.outcomes;
  store_length = q.store_length ∙ p.store_length;
  log_length = q.log_length ∙ p.log_length;
}

-- a failure ends a run
pub on_failed : {A B : Type 0} (f : Failure) (b : UsbBus) (k : A → M B) → on (ran (Err f) (world b)) k ≡ ran (Err f) (world b)
on_failed (Error e) b k = refl
on_failed (Stop h) b k = refl

-- the exit of a `?`
pub exit : {B : Type 0} {f : Failure} (r : Result B Failure) → IsErr r × IsErrAnd r (λ g. g ≡ f) → r ≡ Err f
exit r e = let p = err_from_is_err_and r e.1 in p.1 ∙ ap Err p.2

pub exit_bytes : {f : Failure} (r : Result (Bor (List ℕ)) Failure) → IsErr r × IsErrAnd r (λ g. g ≡ f) → bytes_of r ≡ Err f
exit_bytes r e = ap bytes_of (exit r e)

-- ---- one step, and the rest

module _ {A B : Type 0} {m : M A} {b b₁ : UsbBus} where
  -- `x ← m`, and k
  pub bound : (k : A → M B) {b₂ : UsbBus} {x : A} {r : Result B Failure} → Does m b b₁ (Ok x) → Does (k x) b₁ b₂ r → Does (m >>= k) b b₂ r
  unfolding ◌>>=◌
  bound k d e = record { is = ap (λ (r : Ran _ A). on r k) d.is ∙ e.is; fit = e.fit; lends = lends_on d.lends e.lends }

  pub bound_ends : (k : A → M B) {f : Failure} {r : Result B Failure} → Does m b b₁ (Err f) → r ≡ Err f → Does (m >>= k) b b₁ r
  unfolding ◌>>=◌
  bound_ends k {f = f} d e = record {
    is = ap (λ (r : Ran _ A). on r k) d.is ∙ on_failed f b₁ k ∙ ap (λ (r : Result B Failure). ran r (world b₁)) (sym e);
    fit = d.fit;
    lends = d.lends;
  }

  pub bound_failed : (k : A → M B) {f : Failure} {r : Result B Failure}
      → Does m b b₁ (Err f) → IsErr r × IsErrAnd r (λ g. g ≡ f) → Does (m >>= k) b b₁ r
  bound_failed k {r = r} d e = bound_ends k d (exit r e)

  -- m, and k
  pub next : (k : M B) {b₂ : UsbBus} {x : A} {r : Result B Failure} → Does m b b₁ (Ok x) → Does k b₁ b₂ r → Does (m >> k) b b₂ r
  unfolding ◌>>◌
  next k d e = record { is = ap (λ (r : Ran _ A). on r (λ _. k)) d.is ∙ e.is; fit = e.fit; lends = lends_on d.lends e.lends }

  pub next_ends : (k : M B) {f : Failure} {r : Result B Failure} → Does m b b₁ (Err f) → r ≡ Err f → Does (m >> k) b b₁ r
  unfolding ◌>>◌
  next_ends k {f = f} d e = record {
    is = ap (λ (r : Ran _ A). on r (λ _. k)) d.is ∙ on_failed f b₁ (λ _. k) ∙ ap (λ (r : Result B Failure). ran r (world b₁)) (sym e);
    fit = d.fit;
    lends = d.lends;
  }

  pub next_failed : (k : M B) {f : Failure} {r : Result B Failure}
      → Does m b b₁ (Err f) → IsErr r × IsErrAnd r (λ g. g ≡ f) → Does (m >> k) b b₁ r
  next_failed k {r = r} d e = next_ends k d (exit r e)

-- ---- the log

pub logged : {m : M (Unit {0})} {b b₁ : UsbBus} {r : Answer} → Ready b → Logs m b b₁ r → Does m b b₁ r
logged f d = record { is = d.is; fit = d.fit f; lends = d.lends }

-- ---- access to the store

module _ {B : Type 0} {b b₁ : UsbBus} {r : Result B Failure} where
  -- where the code holds what was read
  pub looked : {A : Type 0} (f : World → A) (k : A → M B) {x : A} → x ≡ f (world b) → Does (k x) b b₁ r → Does (look f >>= k) b b₁ r
  unfolding look ◌>>=◌
  looked f k e d = record { is = rw e at d.is; fit = d.fit; lends = d.lends }

  pub got : (p f : ℕ) (k : ℕ → M B) {x : ℕ} → x ≡ byte_at b.store.now p f → Does (k x) b b₁ r → Does (get p f >>= k) b b₁ r
  unfolding get
  got p f k e d = looked _ k e d

  pub got_number : (p f n : ℕ) (k : ℕ → M B) {x : ℕ} → x ≡ number_at b.store.now p f n → Does (k x) b b₁ r → Does (get_number p f n >>= k) b b₁ r
  unfolding get_number
  got_number p f n k e d = looked _ k e d

module _ {b : UsbBus} (p f : ℕ) (bytes : List ℕ) (fit : Ready b) where
  -- the store that the code wrote
  pub puts : {b' : UsbBus} → b'.store.now ≡ with_bytes b.store.now p f bytes → b'.log.now ≡ b.log.now → b'.at ≡ b.at
      → Lends b b' → Does (put_bytes p f bytes) b b' (Ok tt)
  unfolding put_bytes change
  puts {b'} s l a k =
      let o : b'.outcomes.now ≡ b.outcomes.now = ap (λ (o : Bor (List ℕ)). o.now) k.outcomes in
      let same : with_store (with_bytes b.store.now p f bytes) (world b) ≡ world b' = simp (s, l, a, o) in
      record {
        is = ap (done tt) same;
        fit = subst Fit same (record { whole = with_length b.store.now p f bytes ∙ fit.whole; logged = fit.logged; taken = fit.taken; counted = fit.counted });
        lends = k;
      }

-- ---- tests

module _ {B : Type 0} {b b₁ : UsbBus} {r : Result B Failure} where
  -- the test fails: go on
  pub unless : {t : Bool} (m : M (Unit {0})) (k : M B) → t ≡ false → Does k b b₁ r → Does (when t m >> k) b b₁ r
  unfolding when skip ◌>>◌
  unless m k e d = record { is = rw e d.is; fit = d.fit; lends = d.lends }

  pub taken_if : {t : Bool} {m : M B} (n : M B) → t ≡ true → Does m b b₁ r → Does (cond t m n) b b₁ r
  taken_if n e d = rw e d

  pub taken_else : {t : Bool} (m : M B) {n : M B} → t ≡ false → Does n b b₁ r → Does (cond t m n) b b₁ r
  taken_else m e d = rw e d

module _ {b : UsbBus} (fit : Ready b) where
  -- the test holds: the function fails
  pub thrown : {B : Type 0} {t : Bool} (e : ErrorCode) (k : M B) → t ≡ true → Does (when t (throw e) >> k) b b (Err (Error e))
  unfolding when throw ◌>>◌
  thrown e k t = record { is = rw t refl; fit = fit; lends = lends_still b }

  pub done_unless : {t : Bool} (m : M (Unit {0})) → t ≡ false → Does (when t m) b b (Ok tt)
  unfolding when skip
  done_unless m e = rw e (record { is = refl; fit = fit; lends = lends_still b })

  -- ---- ends

  pub failed : {B : Type 0} (e : ErrorCode) → Does {A = B} (throw e) b b (Err (Error e))
  unfolding throw
  failed e = record { is = refl; fit = fit; lends = lends_still b }

  pub skipped : Does skip b b (Ok tt)
  unfolding skip
  skipped = record { is = refl; fit = fit; lends = lends_still b }

  -- where the code holds the answer
  pub succeeded : (a : Answer) {r : Answer} → r ≡ a → Does (succeed a) b b r
  unfolding succeed
  succeeded a e = rw e (record { is = refl; fit = fit; lends = lends_still b })

  pub returned : {A : Type 0} (x : A) → Does (return x) b b (Ok x)
  unfolding return
  returned x = record { is = refl; fit = fit; lends = lends_still b }

-- a value that is not looked at
pub dropped : {A : Type 0} {m : M A} {b b₁ : UsbBus} {x : A} → Does m b b₁ (Ok x) → Does (m >> skip) b b₁ (Ok tt)
dropped d = next skip d (skipped d.fit)

-- `when` as the last statement
pub done_if : {t : Bool} {m : M (Unit {0})} {b b₁ : UsbBus} {r : Answer} → t ≡ true → Does m b b₁ r → Does (when t m) b b₁ r
unfolding when
done_if e d = rw e d

-- ---- a failure as a value

abbrev pub NotStop : Answer → Type 0
NotStop (Ok _) = Unit {0}
NotStop (Err (Error e)) = Unit {0}
NotStop (Err (Stop h)) = ⊥

caught_is : (a : Answer) (b : UsbBus) → NotStop a → caught (ran a (world b)) ≡ done a (world b)
caught_is (Ok _) b n = refl
caught_is (Err (Error e)) b n = refl
caught_is (Err (Stop h)) b n = absurd n

module _ {m : M (Unit {0})} {b b₁ : UsbBus} where
  pub attempted : {a : Answer} → Does m b b₁ a → NotStop a → Does (attempt m) b b₁ (Ok a)
  unfolding attempt
  attempted {a} d n = record { is = ap caught d.is ∙ caught_is a b₁ n; fit = d.fit; lends = d.lends }

  pub attempt_stopped : {h : Halt} → Does m b b₁ (Err (Stop h)) → Does {A = Answer} (attempt m) b b₁ (Err (Stop h))
  unfolding attempt
  attempt_stopped d = record { is = ap caught d.is; fit = d.fit; lends = d.lends }

-- ---- loops

-- what is left to run from here is the whole from the start
pub record Going {A : Type 0} (m : M A) (b : UsbBus) (k : M A) (b' : UsbBus) : Type 0 where
  pub is : m (world b) ≡ k (world b')
  pub fit : Ready b'
  pub lends : Lends b b'

pub going : {A : Type 0} (m : M A) {b : UsbBus} → Ready b → Going m b m b
going m {b} f = record { is = refl; fit = f; lends = lends_still b }

module _ {A : Type 0} {m k : M A} {b b₁ : UsbBus} (g : Going m b k b₁) where
  pub ends_with : {b₂ : UsbBus} {r : Result A Failure} → Does k b₁ b₂ r → Does m b b₂ r
  ends_with d = record { is = g.is ∙ d.is; fit = d.fit; lends = lends_on g.lends d.lends }

  pub goes_to : (k' : M A) {b₂ : UsbBus} → k (world b₁) ≡ k' (world b₂) → Ready b₂ → Lends b₁ b₂ → Going m b k' b₂
  goes_to k' e f l = record { is = g.is ∙ e; fit = f; lends = lends_on g.lends l }

-- `for i in 0..n`
pub each_from : (body : ℕ → M (Unit {0})) (n i : ℕ) {m : M (Unit {0})} {b b₁ : UsbBus} → i ≡ 0
    → Going m b (each n 0 body) b₁ → Going m b (each (n - i) i body) b₁
each_from body n i z g = rw (z, sub-zero) g

pub each_starts : (body : ℕ → M (Unit {0})) (n : ℕ) {b : UsbBus} → Ready b → Going (each n 0 body) b (each (n - 0) 0 body) b
each_starts body n f = rw sub-zero (going _ f)

-- at i
module _ (body : ℕ → M (Unit {0})) (n i : ℕ) where
  pub each_last : {b : UsbBus} → n ≤ i → Ready b → Does (each (n - i) i body) b b (Ok tt)
  unfolding each
  each_last l f = let none : n - i ≡ 0 = omega arith in rw none (skipped f)

  more : i < n → n - i ≡ suc (n - (i + 1))
  more l = omega arith

  module _ {b b₁ : UsbBus} (l : i < n) where
    pub each_failed : {f : Failure} {r : Answer} → Does (body i) b b₁ (Err f) → IsErr r × IsErrAnd r (λ g. g ≡ f) → Does (each (n - i) i body) b b₁ r
    unfolding each
    each_failed d e = rw (more l) (next_failed (each (n - (i + 1)) (i + 1) body) d e)

    pub each_goes : {m : M (Unit {0})} {b₀ : UsbBus} → Going m b₀ (each (n - i) i body) b → Does (body i) b b₁ (Ok tt)
        → Going m b₀ (each (n - (i + 1)) (i + 1) body) b₁
    unfolding each ◌>>◌
    each_goes g d =
        let k : M (Unit {0}) = each (n - (i + 1)) (i + 1) body in
        goes_to g k (rw (more l) (ap (λ (r : Ran _ (Unit {0})). on r (λ _. k)) d.is)) d.fit d.lends

-- a function without a loop: `#[tactic(auto, unfolding(its program), using(usb_transfer::proofs::Steps::steps))]` often finds its proof
pub ruleset steps = (
  logged,
  bound,
  bound_failed,
  next,
  next_failed,
  got,
  got_number,
  unless,
  thrown,
  taken_if,
  taken_else,
  done_if,
  done_unless,
  skipped,
  returned,
  dropped,
  succeeded,
)
