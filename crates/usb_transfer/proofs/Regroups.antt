-- Programs that run alike: lines under a name of their own, then the rest, are the lines and the rest. Assumes nothing.
use Rattle.std.specs.Prelude.{◌≡◌, Result, refl}
use Rattle.std.proofs.Common.{sym, ◌∙◌}
use Rattle.usb_types.specs.declared.types.Failure.{Failure}
use Rattle.usb_model.specs.Programs.{Ran, done, fail, halt, on, ◌>>=◌, ◌>>◌, return}
use Rattle.usb_model.specs.World.{World, M}
use Rattle.usb_transfer.specs.declared.bus.UsbBus.{UsbBus}
use Rattle.usb_transfer.specs.Runs.{Does}

-- two programs that run alike
pub record Same {A : Type 0} (m m' : M A) : Type 0 where
  pub is : (w : World) → m w ≡ m' w

pub same : {A : Type 0} (m : M A) → Same m m
same m = record { is = λ w. refl }

pub back : {A : Type 0} {a b : M A} → Same a b → Same b a
back p = record { is = λ w. sym (p.is w) }

pub join : {A : Type 0} {a b c : M A} → Same a b → Same b c → Same a c
join p q = record { is = λ w. p.is w ∙ q.is w }

pub does_as : {A : Type 0} {m m' : M A} {b b' : UsbBus} {r : Result A Failure} → Same m m' → Does m b b' r → Does m' b b' r
does_as s d = record { is = sym (s.is _) ∙ d.is; fit = d.fit; lends = d.lends }

-- ---- what comes after lines under a name comes after the last of them

on_on : {A B C : Type 0} (r : Ran World A) (f : A → M B) (g : B → M C) {t : A → M C}
    → ((x : A) (v : World) → on (f x v) g ≡ t x v) → on (on r f) g ≡ on r t
on_on (done x v) f g e = e x v
on_on (fail c v) f g e = refl
on_on (halt h v) f g e = refl

module _ {A B C : Type 0} (m : M A) where
  pub bind_next : (k : A → M B) (l : M C) {t : A → M C} → ((x : A) → Same (k x >> l) (t x)) → Same ((m >>= k) >> l) (m >>= t)
  unfolding ◌>>=◌ ◌>>◌
  bind_next k l e = record { is = λ w. on_on (m w) k (λ _. l) (λ x. (e x).is) }

  pub bind_bind : (k : A → M B) (l : B → M C) {t : A → M C} → ((x : A) → Same (k x >>= l) (t x)) → Same ((m >>= k) >>= l) (m >>= t)
  unfolding ◌>>=◌
  bind_bind k l e = record { is = λ w. on_on (m w) k l (λ x. (e x).is) }

  pub next_next : (k : M B) (l : M C) {t : M C} → Same (k >> l) t → Same ((m >> k) >> l) (m >> t)
  unfolding ◌>>◌
  next_next k l e = record { is = λ w. on_on (m w) (λ _. k) (λ _. l) (λ x. e.is) }

  pub next_bind : (k : M B) (l : B → M C) {t : M C} → Same (k >>= l) t → Same ((m >> k) >>= l) (m >> t)
  unfolding ◌>>=◌ ◌>>◌
  next_bind k l e = record { is = λ w. on_on (m w) (λ _. k) l (λ x. e.is) }

pub given : {A B : Type 0} (x : A) (k : A → M B) → Same (return x >>= k) (k x)
unfolding return ◌>>=◌
given x k = record { is = λ w. refl }

-- two statements that are a function of their own
pub grouped : {A B C : Type 0} (a : M A) (l : M B) (k : M C) {b b' : UsbBus} {r : Result C Failure} → Does ((a >> l) >> k) b b' r → Does (a >> (l >> k)) b b' r
grouped a l k d = does_as (next_next a l k (same _)) d
