-- Triples over worlds with their history. `Does P m Q N`: from a state of P the program m is done in Q, or failed in N; of a halt, which
-- stops the whole call, nothing is said. Assumes nothing.
use Rattle.std.specs.Prelude.{if◌then◌else◌, Ok, Err}
use mathlib.Core.Path.{◌≡◌, refl, sym, subst}
use mathlib.Core.Bool.{Bool, true, false, true≢false, false≢true}
use mathlib.Core.List.{List}
use Prim.Native.Nat.{ℕ, zero, suc, ◌+◌, ◌<◌}
use native.Mathlib.Omega.{arith}
use Rattle.usb_types.specs.declared.types.ErrorCode.{ErrorCode}
use Rattle.usb_types.specs.declared.types.Halt.{Halt}
use Rattle.usb_types.specs.Answers.{Answer}
use Rattle.usb_types.specs.declared.types.Failure.TheVariants.{Error, Stop}
use Rattle.usb_store.specs.Access.{byte_at}
use Rattle.usb_model.specs.Programs.{Ran, done, fail, halt, on, ◌>>=◌, ◌>>◌, return, skip, throw, look, change, ran, succeed, caught, attempt, ignore, when, each}
use Rattle.usb_model.specs.World.{World, M, with_store, get, get_number}
use Rattle.usb_model.specs.Hub.{is_ok}
use Rattle.usb_model.specs.Kept.{Good}
use Rattle.usb_model.specs.History.{Event}
use Rattle.usb_model.proofs.Keeps.{Any}
use Rattle.usb_model.proofs.Bytes.{byte-at}
use Rattle.usb_model.proofs.Stores.{Follows, store_good}
use Rattle.usb_model.proofs.Reading.{Reads}

module _ (h₀ : List Event) where
  -- a good world, and the history that its log reads as
  pub record State : Type 0 where
    pub world : World
    pub past : List Event
    pub good : Good world
    pub reads : Reads h₀ world past

module _ {h₀ : List Event} where
  abbrev pub store : State h₀ → List ℕ
  store s = s.world.store

  pub data Leads {A : Type 0} (Q : A → State h₀ → Type 0) (N : State h₀ → Type 0) : Ran World A → Type 0 where
    fine : {a : A} (s : State h₀) → Q a s → Leads Q N (done a s.world)
    bad : {e : ErrorCode} (s : State h₀) → N s → Leads Q N (fail e s.world)
    gone : {h : Halt} {w : World} → Leads Q N (halt h w)

  pub record Does {A : Type 0} (P : State h₀ → Type 0) (m : M A) (Q : A → State h₀ → Type 0) (N : State h₀ → Type 0) : Type 0 where
    pub run : (s : State h₀) → P s → Leads Q N (m s.world)

  pub leads_map : {A : Type 0} {Q Q' : A → State h₀ → Type 0} {N N' : State h₀ → Type 0} {r : Ran World A} → Leads Q N r
      → ((a : A) (s : State h₀) → Q a s → Q' a s) → ((s : State h₀) → N s → N' s) → Leads Q' N' r
  leads_map (fine s q) f g = fine s (f _ s q)
  leads_map (bad s n) f g = bad s (g s n)
  leads_map gone f g = gone

  pub does_map : {A : Type 0} {P P' : State h₀ → Type 0} {Q Q' : A → State h₀ → Type 0} {N N' : State h₀ → Type 0} {m : M A}
      → ((s : State h₀) → P' s → P s) → ((a : A) (s : State h₀) → Q a s → Q' a s) → ((s : State h₀) → N s → N' s) → Does P m Q N
      → Does P' m Q' N'
  does_map f g k h = record { run = λ s p. leads_map (h.run s (f s p)) g k }

  pub does_pre : {A : Type 0} {P P' : State h₀ → Type 0} {Q : A → State h₀ → Type 0} {N : State h₀ → Type 0} {m : M A}
      → ((s : State h₀) → P' s → P s) → Does P m Q N → Does P' m Q N
  does_pre f h = record { run = λ s p. h.run s (f s p) }

  pub does_post : {A : Type 0} {P : State h₀ → Type 0} {Q Q' : A → State h₀ → Type 0} {N : State h₀ → Type 0} {m : M A}
      → ((a : A) (s : State h₀) → Q a s → Q' a s) → Does P m Q N → Does P m Q' N
  does_post g h = record { run = λ s p. leads_map (h.run s p) g (λ s n. n) }

  -- of two facts, the first
  pub does_first : {A : Type 0} {P : State h₀ → Type 0} {Q R : A → State h₀ → Type 0} {N : State h₀ → Type 0} {m : M A}
      → Does P m (λ a s. Q a s × R a s) N → Does P m Q N
  does_first h = does_post (λ a s q. q.0) h

  -- a fact that the state gives
  pub does_given : {A F : Type 0} {P : State h₀ → Type 0} {Q : A → State h₀ → Type 0} {N : State h₀ → Type 0} {m : M A}
      → ((s : State h₀) → P s → F) → (F → Does P m Q N) → Does P m Q N
  does_given f h = record { run = λ s p. (h (f s p)).run s p }

  leads_on : {A B : Type 0} {Q : A → State h₀ → Type 0} {Q' : B → State h₀ → Type 0} {N : State h₀ → Type 0} {r : Ran World A} {k : A → M B}
      → Leads Q N r → ((a : A) → Does (Q a) (k a) Q' N) → Leads Q' N (on r k)
  leads_on (fine s q) f = (f _).run s q
  leads_on (bad s n) f = bad s n
  leads_on gone f = gone

  -- how an attempt ended is told by its answer
  pub record Attempted (Q F : State h₀ → Type 0) (a : Answer) (s : State h₀) : Type 0 where
    pub ok : is_ok a ≡ true → Q s
    pub error : is_ok a ≡ false → F s

  caught_leads : {N Q F : State h₀ → Type 0} {r : Ran World (Unit {0})} → Leads (λ _. Q) F r → Leads (Attempted Q F) N (caught r)
  caught_leads (fine s q) = fine s (record { ok = λ _. q; error = λ e. absurd (true≢false e) })
  caught_leads (bad s n) = fine s (record { ok = λ e. absurd (false≢true e); error = λ _. n })
  caught_leads gone = gone

  module _ {P N : State h₀ → Type 0} where
    pub does_bind : {A B : Type 0} {Q : A → State h₀ → Type 0} {Q' : B → State h₀ → Type 0} {m : M A} {k : A → M B} → Does P m Q N
        → ((a : A) → Does (Q a) (k a) Q' N) → Does P (m >>= k) Q' N
    unfolding ◌>>=◌
    does_bind h f = record { run = λ s p. leads_on (h.run s p) f }

    pub does_next : {A B : Type 0} {Q : State h₀ → Type 0} {Q' : B → State h₀ → Type 0} {m : M A} {k : M B} → Does P m (λ _. Q) N
        → Does Q k Q' N → Does P (m >> k) Q' N
    unfolding ◌>>◌
    does_next h f = record { run = λ s p. leads_on (h.run s p) (λ _. f) }

    pub does_skip : Does P skip (λ _. P) N
    unfolding skip
    does_skip = record { run = λ s p. fine s p }

    pub does_return : {A : Type 0} {Q : A → State h₀ → Type 0} (a : A) → ((s : State h₀) → P s → Q a s) → Does P (return a) Q N
    unfolding return
    does_return a f = record { run = λ s p. fine s (f s p) }

    pub does_throw : {A : Type 0} {Q : A → State h₀ → Type 0} (e : ErrorCode) → ((s : State h₀) → P s → N s) → Does P (throw e) Q N
    unfolding throw
    does_throw e f = record { run = λ s p. bad s (f s p) }

    pub does_look : {A : Type 0} (f : World → A) → Does P (look f) (λ a s. P s × (a ≡ f s.world)) N
    unfolding look
    does_look f = record { run = λ s p. fine s (p, refl) }

    pub does_get : (p f : ℕ) → Does P (get p f) (λ b s. P s × (b ≡ byte_at (store s) p f)) N
    unfolding get
    does_get p f = does_look _

    -- a byte whose value is known
    pub does_known : {B : Type 0} {Q : B → State h₀ → Type 0} (k : ℕ → M B) (p f b : ℕ) → ((s : State h₀) → P s → byte_at (store s) p f ≡ b)
        → Does P (k b) Q N → Does P (get p f >>= k) Q N
    unfolding ◌>>=◌ get look
    does_known {Q} k p f b e h = record { run = λ s x. subst (λ (c : ℕ). Leads Q N (k c s.world)) (sym (e s x)) (h.run s x) }

    pub does_if : {A : Type 0} {Q : A → State h₀ → Type 0} (b : Bool) {m k : M A} → (b ≡ true → Does P m Q N) → (b ≡ false → Does P k Q N)
        → Does P (if b then m else k) Q N
    does_if true f g = f refl
    does_if false f g = g refl

    pub does_when : {Q : Unit {0} → State h₀ → Type 0} (b : Bool) {m : M (Unit {0})} → (b ≡ true → Does P m Q N)
        → (b ≡ false → (s : State h₀) → P s → Q tt s) → Does P (when b m) Q N
    unfolding when skip
    does_when b f g = does_if b f (λ e. record { run = λ s p. fine s (g e s p) })

    -- a test that refuses
    pub does_unless : (b : Bool) (e : ErrorCode) → ((s : State h₀) → P s → N s) → Does P (when b (throw e)) (λ _ s. P s × (b ≡ false)) N
    does_unless b e f = does_when b (λ t. does_throw e f) (λ t s p. (p, t))

    ran_leads : (s : State h₀) (a : Answer) → P s → (is_ok a ≡ false → N s) → Leads (λ _ t. P t × (is_ok a ≡ true)) N (ran a s.world)
    ran_leads s (Ok _) p f = fine s (p, refl)
    ran_leads s (Err (Error e)) p f = bad s (f refl)
    ran_leads s (Err (Stop h)) p f = gone

    pub does_succeed : (a : Answer) → (is_ok a ≡ false → (s : State h₀) → P s → N s) → Does P (succeed a) (λ _ s. P s × (is_ok a ≡ true)) N
    unfolding succeed
    does_succeed a f = record { run = λ s p. ran_leads s a p (λ e. f e s p) }

    pub does_attempt : {Q F : State h₀ → Type 0} {m : M (Unit {0})} → Does P m (λ _. Q) F → Does P (attempt m) (Attempted Q F) N
    unfolding attempt
    does_attempt h = record { run = λ s p. caught_leads (h.run s p) }

  either_way : {N S : State h₀ → Type 0} {r : Ran World (Unit {0})} → Leads (λ _. S) S r → Leads (λ _. S) N (on (caught r) (λ _. skip))
  unfolding skip
  either_way (fine s q) = fine s q
  either_way (bad s n) = fine s n
  either_way gone = gone

  pub does_ignore : {P N S : State h₀ → Type 0} {m : M (Unit {0})} → Does P m (λ _. S) S → Does P (ignore m) (λ _. S) N
  unfolding ignore attempt ◌>>◌
  does_ignore h = record { run = λ s p. either_way (h.run s p) }

  pub does_each : {P N : State h₀ → Type 0} (k from : ℕ) {body : ℕ → M (Unit {0})} → ((i : ℕ) → i < from + k → Does P (body i) (λ _. P) N)
      → Does P (each k from body) (λ _. P) N
  unfolding each
  does_each zero from h = does_skip
  does_each (suc k) from h = does_next (h from (omega arith)) (does_each k (from + 1) (λ i l. h i (omega arith)))

  -- ---- writes to the store

  -- the state with another store, which follows its own
  abbrev pub stored : (s : State h₀) (t : List ℕ) → Follows (store s) t → State h₀
  stored s t f = record {
    world = with_store t s.world;
    past = s.past;
    good = store_good t f s.good;
    reads = record { actions = s.reads.actions; logged = s.reads.logged; is = s.reads.is };
  }

  pub does_store : {P N Q : State h₀ → Type 0} (g : List ℕ → List ℕ)
      → ((s : State h₀) → P s → (f : Follows (store s) (g (store s))) × Q (stored s (g (store s)) f))
      → Does P (change (λ w. with_store (g w.store) w)) (λ _. Q) N
  unfolding change
  does_store g h = record { run = λ s p. fine (stored s (g (store s)) (h s p).0) (h s p).1 }

  -- ---- relations between an earlier state and a later one

  pub record Preorder (R : State h₀ → State h₀ → Type 0) : Type 0 where
    pub same : (s : State h₀) → R s s
    pub join : {s t u : State h₀} → R s t → R t u → R s u

  -- whatever the state, m leaves one that R relates to it; and where it is done, S holds of its value
  pub record Gives (R : State h₀ → State h₀ → Type 0) {A : Type 0} (S : A → Type 0) (m : M A) : Type 0 where
    pub run : (s : State h₀) → Leads (λ a t. R s t × S a) (R s) (m s.world)

  abbrev pub Keeps : (State h₀ → State h₀ → Type 0) → {A : Type 0} → M A → Type 0
  Keeps R m = Gives R Any m

  -- a part that keeps to R
  pub does_keep : {P N : State h₀ → Type 0} {R : State h₀ → State h₀ → Type 0} {A : Type 0} {S : A → Type 0} {m : M A} (Q : State h₀ → Type 0)
      → Gives R S m → ((s t : State h₀) → P s → R s t → Q t) → ((s : State h₀) → Q s → N s) → Does P m (λ a s. Q s × S a) N
  does_keep {S} Q k f g = record { run = λ s p. leads_map (k.run s) (λ a t r. (f s t p r.0, r.1)) (λ t r. g t (f s t p r)) }

  module _ {R : State h₀ → State h₀ → Type 0} (o : Preorder R) where
    gives_on : {A B : Type 0} {S : A → Type 0} {S' : B → Type 0} (s : State h₀) {r : Ran World A} {k : A → M B}
        → Leads (λ a t. R s t × S a) (R s) r → ((a : A) → S a → Gives R S' (k a)) → Leads (λ b t. R s t × S' b) (R s) (on r k)
    gives_on s (fine t q) f = leads_map ((f _ q.1).run t) (λ a u x. (o.join q.0 x.0, x.1)) (λ u x. o.join q.0 x)
    gives_on s (bad t n) f = bad t n
    gives_on s gone f = gone

    pub k_bind : {A B : Type 0} {S : A → Type 0} {S' : B → Type 0} {m : M A} {k : A → M B} → Gives R S m
        → ((a : A) → S a → Gives R S' (k a)) → Gives R S' (m >>= k)
    unfolding ◌>>=◌
    k_bind h f = record { run = λ s. gives_on s (h.run s) f }

    pub k_next : {A B : Type 0} {S : A → Type 0} {S' : B → Type 0} {m : M A} {k : M B} → Gives R S m → Gives R S' k → Gives R S' (m >> k)
    unfolding ◌>>◌
    k_next h f = record { run = λ s. gives_on s (h.run s) (λ _ _. f) }

    pub k_return : {A : Type 0} {S : A → Type 0} (a : A) → S a → Gives R S (return a)
    unfolding return
    k_return a q = record { run = λ s. fine s (o.same s, q) }

    pub k_skip : Keeps R skip
    unfolding skip
    k_skip = record { run = λ s. fine s (o.same s, tt) }

    pub k_throw : {A : Type 0} {S : A → Type 0} (e : ErrorCode) → Gives R {A = A} S (throw e)
    unfolding throw
    k_throw e = record { run = λ s. bad s (o.same s) }

    pub k_look : {A : Type 0} {S : A → Type 0} (f : World → A) → ((s : State h₀) → S (f s.world)) → Gives R S (look f)
    unfolding look
    k_look f q = record { run = λ s. fine s (o.same s, q s) }

    pub k_get : (p f : ℕ) → Gives R (λ v. v < 256) (get p f)
    unfolding get
    k_get p f = k_look _ (λ s. byte-at (store s) p f s.good.store)

    pub k_number : (p f n : ℕ) → Keeps R (get_number p f n)
    unfolding get_number
    k_number p f n = k_look _ (λ s. tt)

    pub k_if : {A : Type 0} {S : A → Type 0} (b : Bool) {m k : M A} → Gives R S m → Gives R S k → Gives R S (if b then m else k)
    k_if true h f = h
    k_if false h f = f

    pub k_when : (b : Bool) {m : M (Unit {0})} → Keeps R m → Keeps R (when b m)
    unfolding when
    k_when b h = k_if b h k_skip

    pub k_ignore : {m : M (Unit {0})} → Keeps R m → Keeps R (ignore m)
    unfolding ignore attempt ◌>>◌
    k_ignore h = record { run = λ s. leads_map (either_way (leads_map (h.run s) (λ a t r. r.0) (λ t r. r))) (λ a t r. (r, tt)) (λ t r. r) }

    pub k_each : (k from : ℕ) {body : ℕ → M (Unit {0})} → ((i : ℕ) → i < from + k → Keeps R (body i)) → Keeps R (each k from body)
    unfolding each
    k_each zero from h = k_skip
    k_each (suc k) from h = k_next (h from (omega arith)) (k_each k (from + 1) (λ i l. h i (omega arith)))

    pub k_store : (g : List ℕ → List ℕ) → ((s : State h₀) → (f : Follows (store s) (g (store s))) × R s (stored s (g (store s)) f))
        → Keeps R (change (λ w. with_store (g w.store) w))
    unfolding change
    k_store g h = record { run = λ s. fine (stored s (g (store s)) (h s).0) ((h s).1, tt) }
