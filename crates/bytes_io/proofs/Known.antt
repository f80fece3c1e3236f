-- What two reads in a row do to the bytes that a reader has left.
use Rattle.std.proofs.Common.{◌≡◌, ℕ, List, ◌++◌, take, None, Some, refl, sym, ap, ◌∙◌, append_assoc, ◌≤◌, drop, length, ◌+◌}
use Rattle.std.proofs.Math.Seq.{take-append-add}
use Rattle.std.proofs.lemmas.List.{length-take-le, take-append-le}
use borrow.Rule.Slice.PartMut.{put_mid}
use Rattle.std.specs.declared.option.Option.{Option}
use Rattle.std.specs.Io.KnownBytes.{Consumes}

pub consumes_more : (a b c : Option (List ℕ)) (xs ys zs : List ℕ) → Consumes a b xs → Consumes b c ys → zs ≡ xs ++ ys → Consumes a c zs
consumes_more None b c xs ys zs p q e = tt
consumes_more (Some a) None c xs ys zs p q e = elim p [ ]
consumes_more (Some a) (Some b) None xs ys zs p q e = elim q [ ]
consumes_more (Some a) (Some b) (Some c) xs ys zs p q e = p ∙ ap (λ l. xs ++ l) q ∙ sym (append_assoc xs ys c) ∙ ap (λ l. l ++ c) (sym e)

-- k bytes of s from i on become t, whose first n were read: the first i + n are the first i of s and the first n of t
pub taken_more : (i k n : ℕ) (s t : List ℕ) → i ≤ length s → n ≤ length t
    → take (i + n) (put_mid i k s t) ≡ take i s ++ take n t
taken_more i k n s t a b =
    let start : length (take i s) ≡ i = length-take-le i s a in
    let split : take (i + n) (put_mid i k s t) ≡ take (length (take i s) + n) (take i s ++ (t ++ drop k (drop i s))) = rw start refl in
    split ∙ take-append-add (take i s) (t ++ drop k (drop i s)) n ∙ ap (λ l. take i s ++ l) (take-append-le n t (drop k (drop i s)) b)
