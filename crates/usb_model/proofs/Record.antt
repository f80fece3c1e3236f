-- The configuration walk: the record keeps its length and stays a list of bytes, and any number that bounds the bytes left gives the
-- same walk. Assumes nothing.
use mathlib.Core.Path.{◌≡◌, refl, sym, ap, ◌∙◌, subst}
use mathlib.Core.Bool.{Bool, true, false, cond}
use mathlib.Core.List.{List, [], ◌∷◌}
use Prim.Native.Nat.{ℕ, zero, suc, ◌≤◌}
use native.Mathlib.Omega.{arith}
use lib.Dec.{eqb, ltb}
use lib.ListN.{length, get_or, take, drop, length-drop}
use Rattle.usb_types.specs.Descriptors.{kind_of}
use Rattle.usb_types.specs.declared.types.ErrorCode.{ErrorCode}
use Rattle.usb_types.specs.declared.types.ErrorCode.TheVariants.{GarbledConfiguration}
use Rattle.usb_types.specs.declared.descriptors.DescriptorKind.{DescriptorKind}
use Rattle.usb_types.specs.declared.descriptors.DescriptorKind.TheVariants.{Interface, Endpoint, Other}
use Rattle.usb_store.proofs.Writes.{length_write}
use Rattle.usb_model.specs.Programs.{Ran, done, fail, halt, on, Program, ◌>>=◌, ◌>>◌, return, skip, throw, when, end_of}
use Rattle.usb_model.specs.Walk.{Walk, begin, store_interface, alternate, store_endpoint, interface_at, endpoint_at, interface_length, endpoint_length, interface_descriptor, endpoint_descriptor, whole, descriptor_of, descriptor, walk_from, walk_all, walked, walk}
use Rattle.usb_model.specs.Kept.{Bytes}
use Rattle.usb_model.proofs.Keeps.{Any, Keeps, left_holds, bind, next, gives, skips, throws, peeks, changes, either, whens}
use Rattle.usb_model.proofs.Bytes.{bytes_take, bytes_drop, bytes_write}

-- ---- the record

-- what the three changes of the walk's state keep, where D holds of the descriptors that are left
record Copies (D : List ℕ → Type 0) (P : Walk → Type 0) : Type 0 where
  rest : (n : ℕ) (d : List ℕ) → D d → D (drop n d)
  other : (k : Walk) → P k → P (alternate k)
  interface : (number : ℕ) (d : List ℕ) (k : Walk) → D d → P k → P (store_interface number d k)
  endpoint : (d : List ℕ) (k : Walk) → D d → P k → P (store_endpoint d k)

module _ {D : List ℕ → Type 0} {P : Walk → Type 0} (c : Copies D P) where
  interface_keeps : (d : List ℕ) → D d → Keeps P (interface_descriptor d) Any
  unfolding interface_descriptor
  interface_keeps d h = bind (peeks _) λ last _. either (eqb (get_or d 2 0) last)
      (changes alternate c.other)
      (next (whens _ (throws _)) (changes _ (λ k p. c.interface (get_or d 2 0) d k h p)))

  endpoint_keeps : (d : List ℕ) → D d → Keeps P (endpoint_descriptor d) Any
  unfolding endpoint_descriptor
  endpoint_keeps d h =
      bind (peeks _) λ now _. whens _ (next (whens _ (throws _)) (next (whens _ (throws _)) (changes _ (λ k p. c.endpoint d k h p))))

  kind_keeps : (kind : DescriptorKind) (d : List ℕ) → D d → Keeps P (descriptor_of kind d) Any
  unfolding descriptor_of whole
  kind_keeps Interface d h = next (whens _ (throws _)) (next (interface_keeps d h) (gives true tt))
  kind_keeps Endpoint d h = next (whens _ (throws _)) (next (endpoint_keeps d h) (gives true tt))
  kind_keeps Other d h = gives _ tt

  from_keeps : (n : ℕ) (d : List ℕ) → D d → Keeps P (walk_from n d) Any
  unfolding walk_from descriptor
  from_keeps zero d h = skips
  from_keeps (suc n) [] h = skips
  from_keeps (suc n) (x ∷ d) h =
      bind (next (whens _ (throws _)) (kind_keeps _ (x ∷ d) h)) λ goes _. whens goes (from_keeps n (drop x (x ∷ d)) (c.rest x (x ∷ d) h))

  all_keeps : (d : List ℕ) → D d → Keeps P (walk_all d) Any
  unfolding walk_all
  all_keeps [] h = throws _
  all_keeps (x ∷ d) h = from_keeps _ (drop x (x ∷ d)) (c.rest x (x ∷ d) h)

  walk_keeps : (d kept : List ℕ) → D d → P (begin kept) → P (end_of (walk_all d (begin kept)))
  walk_keeps d kept h p = left_holds ((all_keeps d h).run (begin kept) p)

walked_kept : (r : Ran Walk (Unit {0})) → (walked r).kept ≡ (end_of r).kept
walked_kept (done a k) = refl
walked_kept (fail e k) = refl
walked_kept (halt h k) = refl

-- the record keeps its length
pub walk_long : (d kept : List ℕ) → length (walk d kept).kept ≡ length kept
unfolding walk
walk_long d kept = ap length (walked_kept (walk_all d (begin kept))) ∙ walk_keeps long d kept tt refl
  where
    long : Copies (λ _. Unit {0}) (λ k. length k.kept ≡ length kept)
    long = record {
      rest = λ n d h. tt;
      other = λ k e. e;
      interface = λ number d k h e. length_write k.kept (interface_at number) (take interface_length d) ∙ e;
      endpoint = λ d k h e. length_write k.kept (endpoint_at k.last_interface k.last_endpoint) (take endpoint_length d) ∙ e;
    }

-- and stays a list of bytes
pub walk_bytes : (d kept : List ℕ) → Bytes d → Bytes kept → Bytes (walk d kept).kept
unfolding walk
walk_bytes d kept b c = subst Bytes (sym (walked_kept (walk_all d (begin kept)))) (walk_keeps bytes d kept b c)
  where
    bytes : Copies Bytes (λ k. Bytes k.kept)
    bytes = record {
      rest = bytes_drop;
      other = λ k p. p;
      interface = λ number d k h p. bytes_write k.kept (interface_at number) (take interface_length d) p (bytes_take interface_length d h);
      endpoint = λ d k h p. bytes_write k.kept (endpoint_at k.last_interface k.last_endpoint) (take endpoint_length d) p (bytes_take endpoint_length d h);
    }

-- ---- fuel

-- the walk ends here
data Ends : Ran Walk Bool → Type 0 where
  well : {k : Walk} → Ends (done false k)
  badly : {e : ErrorCode} {k : Walk} → Ends (fail e k)

-- a descriptor of length 0 ends the walk
ends_kind : (kind : DescriptorKind) (d : List ℕ) (k : Walk) → Ends (descriptor_of kind (0 ∷ d) k)
unfolding descriptor_of whole when throw return ◌>>◌
ends_kind Interface d k = badly
ends_kind Endpoint d k = badly
ends_kind Other d k = well

ends : (d : List ℕ) (k : Walk) → Ends (descriptor (0 ∷ d) k)
unfolding descriptor when throw skip ◌>>◌
ends d k = go (ltb (length (0 ∷ d)) 2)
  where
    go : (b : Bool) → Ends ((cond b (throw {A = Unit {0}} GarbledConfiguration) skip >> descriptor_of (kind_of (get_or (0 ∷ d) 1 0)) (0 ∷ d)) k)
    go true = badly
    go false = ends_kind (kind_of (get_or (0 ∷ d) 1 0)) d k

ends_same : (f f' : Program Walk (Unit {0})) (r : Ran Walk Bool) → Ends r → on r (λ goes. when goes f) ≡ on r (λ goes. when goes f')
unfolding when
ends_same f f' (done false k) well = refl
ends_same f f' (fail e k) badly = refl
ends_same f f' (done true k) e = elim e [ ]
ends_same f f' (halt x k) e = elim e [ ]

goes_same : (f f' : Program Walk (Unit {0})) (r : Ran Walk Bool) → ((k : Walk) → f k ≡ f' k)
    → on r (λ goes. when goes f) ≡ on r (λ goes. when goes f')
unfolding when
goes_same f f' (done true k) h = h k
goes_same f f' (done false k) h = refl
goes_same f f' (fail e k) h = refl
goes_same f f' (halt x k) h = refl

-- fuel of the walk: any two numbers that bound the bytes left give the same walk
pub walk_fuel : (a b : ℕ) (d : List ℕ) → length d ≤ a → length d ≤ b → (k : Walk) → walk_from a d k ≡ walk_from b d k
unfolding walk_from ◌>>=◌
walk_fuel zero zero d x y k = refl
walk_fuel zero (suc b) [] x y k = refl
walk_fuel zero (suc b) (z ∷ d) x y k = absurd (omega arith)
walk_fuel (suc a) zero [] x y k = refl
walk_fuel (suc a) zero (z ∷ d) x y k = absurd (omega arith)
walk_fuel (suc a) (suc b) [] x y k = refl
walk_fuel (suc a) (suc b) (zero ∷ d) x y k = ends_same (walk_from a (zero ∷ d)) (walk_from b (zero ∷ d)) (descriptor (zero ∷ d) k) (ends d k)
walk_fuel (suc a) (suc b) (suc z ∷ d) x y k =
    goes_same (walk_from a (drop z d)) (walk_from b (drop z d)) (descriptor (suc z ∷ d) k)
    (walk_fuel a b (drop z d) (omega (arith, length-drop z d)) (omega (arith, length-drop z d)))

-- so the number of the walk is enough
pub walk_enough : (b size : ℕ) (d : List ℕ) → length (size ∷ d) ≤ b → (k : Walk)
    → walk_all (size ∷ d) k ≡ walk_from b (drop size (size ∷ d)) k
unfolding walk_all
walk_enough b size d l k =
    walk_fuel _ b (drop size (size ∷ d)) (omega (arith, length-drop size (size ∷ d))) (omega (arith, length-drop size (size ∷ d))) k
