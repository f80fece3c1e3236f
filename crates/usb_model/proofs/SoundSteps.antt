-- The steps that the functions of the driver are made of keep a store sound. Assumes nothing.
use mathlib.Core.Path.{◌≡◌, refl, sym, subst}
use mathlib.Core.Bool.{Bool, true, not, ◌&&◌}
use mathlib.Core.Logic.{◌⊎◌, inl, inr, ⊎_elim}
use mathlib.Core.List.{List, [], ◌∷◌}
use Prim.Native.Nat.{ℕ, ◌+◌, ◌≤◌, ◌<◌, ◌^◌}
use native.Mathlib.Omega.{arith}
use borrow.Author.Tests.{not-false}
use lib.Dec.{ltb}
use lib.ListN.{length, get_or, take, length-take}
use Rattle.usb_types.specs.Outcomes.{listed, error_word}
use Rattle.usb_types.specs.declared.request.UsbDeviceRequest.{UsbDeviceRequest}
use Rattle.usb_store.specs.Layout.{number_field, last_transfer_field, max_children_field}
use Rattle.usb_place.specs.Rules.{OneOf, errors, Decides}
use Rattle.usb_place.specs.Test.{one_of, every}
use Rattle.usb_place.proofs.Tests.{eq_decides, lt_decides, and_decides, or_decides, one_decides, every_decides}
use Rattle.usb_sound.specs.Sound.{Sound}
use Rattle.usb_store.proofs.Fields.{bytes_most}
use Rattle.usb_model.specs.World.{World, with_store, get, get_bytes, get_number, put, put_bytes, put_number, appended, counted, log_action, log_request, micro_delay, dwc_update_host_frame_interval}
use Rattle.usb_model.specs.Transfer.{taken, take_outcome, Buffer, usb_control_message, control, read}
use Rattle.usb_model.proofs.Keeps.{Any, Keeps, bind, next, gives, throws, stops, looks, peeks, changes, succeeds, whens, stops_if}
use Rattle.usb_model.proofs.SoundStores.{Since, At, later, Edit, edit_since, edit_sound, May, plain_edit, byte_edit, error_edit}

-- ---- a world with a sound store, later than the store s

pub record Held (b : Bool) (s : List ℕ) (w : World) : Type 0 where
  pub sound : Sound w.store
  pub since : Since b s w.store

pub since_join : {b : Bool} {s t u : List ℕ} → Since b s t → Since b t u → Since b s u
since_join o p = record {
  used = λ q l. omega (arith, o.used q l, p.used q l);
  hub = λ q l. omega (arith, o.hub q l, p.hub q l);
  hub_same = λ e q l. omega (arith, o.hub_same e q l, p.hub_same e q l);
  child_same = λ e q j l. omega (arith, o.child_same e q j l, p.child_same e q j l);
}

pub since_same : {b : Bool} {s : List ℕ} → Since b s s
since_same = record { used = λ q l. omega arith; hub = λ q l. omega arith; hub_same = λ e q l. refl; child_same = λ e q j l. refl }

pub held_edit : {b : Bool} {s t : List ℕ} {w : World} → Held b s w → Edit b w.store t → Held b s (with_store t w)
held_edit h d = record { sound = edit_sound h.sound d; since = since_join h.since (edit_since h.sound d) }

pub some_place : {s : List ℕ} {p k : ℕ} → At s p k → At s p 0
some_place u = record { inside = u.inside; used = u.used; hub = omega arith }

module _ {b : Bool} {s : List ℕ} where
  -- ---- the store

  pub gets : (p f : ℕ) → Keeps (Held b s) (get p f) Any
  unfolding get
  gets p f = peeks _

  pub gets_number : (p f n : ℕ) → Keeps (Held b s) (get_number p f n) Any
  unfolding get_number
  gets_number p f n = peeks _

  pub gets_bytes : (p f n : ℕ) → Keeps (Held b s) (get_bytes p f n) (λ bytes. length bytes ≤ n)
  unfolding get_bytes
  gets_bytes p f n = looks _ (λ w h. bytes_most w.store p f n)

  pub gets_own : {p k : ℕ} → At s p k → Keeps (Held b s) (get p number_field) (λ v. OneOf v (0 ∷ (p + 1) ∷ []))
  unfolding get
  gets_own {p} u = looks _ (λ w h. h.sound.number p u.inside)

  pub gets_most : {p k : ℕ} → At s p k → Keeps (Held b s) (get p max_children_field) (λ v. v ≤ 10)
  unfolding get
  gets_most {p} u = looks _ (λ w h. h.sound.max-children p u.inside)

  pub puts : {p k : ℕ} → At s p k → (f v : ℕ) → ((h : ℕ) → k ≤ h → May b h p f v) → (f + 1 ≤ 8) ⊎ (12 ≤ f)
      → Keeps (Held b s) (put p f v) Any
  unfolding put_bytes
  puts u f v may clear =
      changes _ (λ w h. let a = later h.since u in held_edit h (byte_edit h.sound (some_place a) f v (may _ a.hub) clear))

  pub puts_bytes : {p k : ℕ} → At s p k → (f : ℕ) (vs : List ℕ) → f + length vs ≤ 1152
      → ((h i : ℕ) → k ≤ h → i < length vs → May b h p (f + i) (get_or vs i 0)) → (f + length vs ≤ 8) ⊎ (12 ≤ f)
      → Keeps (Held b s) (put_bytes p f vs) Any
  unfolding put_bytes
  puts_bytes u f vs room may clear =
      changes _
      (λ w h. let a = later h.since u in held_edit h (plain_edit h.sound (some_place a) f vs room (λ i l. may _ i a.hub l) clear))

  puts_error : {p k : ℕ} → At s p k → (v : ℕ) → OneOf v errors → v < 256 ^ 4 → Keeps (Held b s) (put_number p 8 4 v) Any
  unfolding put_bytes
  puts_error u v listed l = changes _ (λ w h. held_edit h (error_edit h.sound (some_place (later h.since u)) v listed l))

  puts_last : {p k : ℕ} → At s p k → (v : ℕ) → Keeps (Held b s) (put_number p last_transfer_field 4 v) Any
  unfolding put_bytes
  puts_last u v =
      changes _
      (λ w h. held_edit h (plain_edit h.sound (some_place (later h.since u)) last_transfer_field _ (omega arith) (λ i l. omega arith) (inr (omega arith))))

  -- ---- the log

  logs : (action : List ℕ) → Keeps (Held b s) (log_action action) Any
  unfolding log_action
  logs action =
      bind (peeks _) λ room _. next (whens _ (stops _)) (changes (appended action) (λ w h. record { sound = h.sound; since = h.since }))

  sends : (action : List ℕ) → Keeps (Held b s) (log_request action) Any
  unfolding log_request
  sends action = next (logs action) (changes counted (λ w h. record { sound = h.sound; since = h.since }))

  pub waits : (microseconds : ℕ) → Keeps (Held b s) (micro_delay microseconds) Any
  unfolding micro_delay
  waits microseconds = logs _

  pub frames : Keeps (Held b s) dwc_update_host_frame_interval Any
  unfolding dwc_update_host_frame_interval
  frames = logs _

-- ---- a control message

-- the word of an error
record Word (e : ℕ) : Type 0 where
  word : OneOf (error_word e) errors
  fits : error_word e < 256 ^ 4

word_decides : (e : ℕ)
    → Decides (one_of (error_word e) errors && ltb (error_word e) (256 ^ 4)) (OneOf (error_word e) errors × (error_word e < 256 ^ 4))
word_decides e = and_decides _ _ (one_decides (error_word e) errors) (λ _. lt_decides (error_word e) (256 ^ 4))

listed_word : (submit e : ℕ) → listed submit e ≡ true → Word e
unfolding listed every one_of error_word
listed_word submit e h = ⊎_elim
    (λ l. of ((every_decides _ _ word_decides 0 10).only refl e (omega arith) (omega arith)))
    (λ i. subst Word (sym i) (of ((word_decides 31).only refl)))
    ((and_decides _ _ (lt_decides submit 10) (λ _. or_decides _ _ (lt_decides e 10) (eq_decides e 31))).only h).1
  where
    of : {e : ℕ} → OneOf (error_word e) errors × (error_word e < 256 ^ 4) → Word e
    of x = record { word = x.0; fits = x.1 }

-- delivered bytes may go there, at a hub byte of k or more
pub record Fits (k : ℕ) (b : Buffer) : Type 0 where
  pub room : b.field + b.room ≤ 1152
  pub clear : (b.field + b.room ≤ 8) ⊎ (12 ≤ b.field)
  pub may : (c : Bool) (h p g v : ℕ) → k ≤ h → b.field ≤ g → g < b.field + b.room → May c h p g v

module _ {b : Bool} {s : List ℕ} where
  takes : (asked : ℕ) → Keeps (Held b s) (take_outcome asked) (λ o. Word o.error)
  unfolding take_outcome
  takes asked =
      bind (peeks _) λ rest _.
      next (whens _ (stops _)) (
      stops_if (not (listed (get_or rest 0 0) (get_or rest 1 0))) _ _ λ e.
      next (whens _ (stops _)) (
      next (changes (taken _) (λ w h. record { sound = h.sound; since = h.since }))
      (gives _ (listed_word (get_or rest 0 0) (get_or rest 1 0) (not-false _ e)))))

  delivers : {p k : ℕ} → At s p k → {c : Buffer} → Fits k c → (vs : List ℕ)
      → Keeps (Held b s) (put_bytes p c.field (take c.room vs)) Any
  delivers u {c} fits vs =
      let long = length-take c.room vs in
      puts_bytes u c.field (take c.room vs) (omega (arith, long, fits.room)) (λ h i l m. fits.may _ h _ _ _ l (omega arith) (omega (arith, long)))
      (⊎_elim (λ x. inl (omega (arith, long))) (λ x. inr x) fits.clear)

  module _ {p k : ℕ} (u : At s p k) {c : Buffer} (fits : Fits k c) (q : UsbDeviceRequest) where
    pub messages : (address : ℕ) → Keeps (Held b s) (usb_control_message p address q c) Any
    unfolding usb_control_message
    messages address =
        bind (gets p _) λ speed _. bind (gets p _) λ size _.
        next (sends _) (
        bind (takes _) λ o w.
        next (puts_error u _ w.word w.fits) (next (delivers u fits _) (next (puts_last u _) (next (succeeds _) (gives _ tt)))))

    pub controls : Keeps (Held b s) (control p q c) Any
    unfolding control
    controls = bind (gets p _) λ address _. messages address

    pub reads : (minimum : ℕ) → Keeps (Held b s) (read p q minimum c) Any
    unfolding read
    reads minimum = bind controls λ bytes _. next (whens _ (throws _)) (gives bytes tt)
