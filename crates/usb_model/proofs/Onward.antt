-- `Onward` holds of no step and of two in a row. Assumes nothing.
use mathlib.Core.Path.{◌≡◌, refl, sym, ap, ap₂, ◌∙◌}
use mathlib.Core.Bool.{Bool}
use mathlib.Core.List.{List, [], ◌∷◌, ◌++◌}
use Prim.Native.Nat.{ℕ, zero, suc, ◌+◌, ◌*◌, ◌≤◌, ◌<◌}
use native.Mathlib.Nat.{zero-add, add-zero, suc-add}
use native.Mathlib.Omega.{arith}
use lib.Dec.{eqb}
use lib.ListN.{length, get_or, drop, length-append, length-drop}
use lib.Seq.{drop-append-le, drop_at}
use Rattle.usb_store.specs.Access.{write}
use Rattle.usb_store.proofs.Writes.{length_write, write_nil, write_append, part_back}
use Rattle.usb_model.specs.World.{World}
use Rattle.usb_model.specs.Kept.{kinds_in, requests_in, is_kind, Onward}

head_append : (a b : List ℕ) → 0 < length a → get_or (a ++ b) 0 0 ≡ get_or a 0 0
head_append [] b h = absurd (omega arith)
head_append (x ∷ a) b h = refl

pub kinds_append : (test : ℕ → Bool) (m n : ℕ) (a b : List ℕ) → length a ≡ 16 * m
    → kinds_in test (m + n) (a ++ b) ≡ kinds_in test m a + kinds_in test n b
unfolding kinds_in
kinds_append test zero n [] b h = ap (λ (k : ℕ). kinds_in test k b) (zero-add n) ∙ sym (zero-add (kinds_in test n b))
kinds_append test zero n (x ∷ a) b h = absurd (omega arith)
kinds_append test (suc m) n a b h =
    let rest : kinds_in test (m + n) (drop 16 a ++ b) ≡ kinds_in test m (drop 16 a) + kinds_in test n b =
    kinds_append test m n (drop 16 a) b (omega (arith, length-drop 16 a)) in
    rw (suc-add, head_append a b (omega arith), drop-append-le 16 a b (omega arith)) (omega (arith, rest))

-- a run that begins at the start of the log: its actions stand in the log, and the bytes behind them are as they were
module _ {u v : World} (o : Onward u v) (first : u.at.logged ≡ 0) (room : v.at.logged ≤ length v.log) where
  pub long : 16 * o.actions ≤ length v.log
  long = omega (arith, o.logged)

  pub log-length : length v.log ≡ length u.log
  log-length = ap length o.log ∙ length_write u.log u.at.logged o.news

  split : o.news ++ drop (16 * o.actions) u.log ≡ v.log
  split =
      part_back u.log 0 (16 * o.actions) o.news o.news_length (omega (arith, long, log-length))
      ∙ ap (λ (i : ℕ). write u.log i o.news) (sym first)
      ∙ sym o.log

  pub later_kept : drop (16 * o.actions) v.log ≡ drop (16 * o.actions) u.log
  later_kept =
      ap (drop (16 * o.actions)) (sym split) ∙ drop_at o.news (drop (16 * o.actions) u.log) (16 * o.actions) o.news_length

  in_log : (test : ℕ → Bool) → kinds_in test o.actions v.log ≡ kinds_in test o.actions o.news
  unfolding kinds_in
  in_log test =
      ap (kinds_in test o.actions) (sym split)
      ∙ ap (λ (n : ℕ). kinds_in test n (o.news ++ drop (16 * o.actions) u.log)) (sym (add-zero o.actions))
      ∙ kinds_append test o.actions 0 o.news (drop (16 * o.actions) u.log) o.news_length
      ∙ add-zero (kinds_in test o.actions o.news)

  pub kinds_logged : kinds_in is_kind o.actions v.log ≡ o.actions
  kinds_logged = in_log is_kind ∙ o.kinds

  pub requests_logged : u.at.requests ≡ 0 → v.at.requests ≡ requests_in o.actions v.log
  requests_logged none = omega (arith, o.requests, in_log (λ kind. eqb kind 1))

pub onward_same : (w : World) → Onward w w
unfolding kinds_in
onward_same w = record {
  store = refl;
  free = omega arith;
  first = omega arith;
  outcomes = refl;
  taken = omega arith;
  actions = 0;
  news = [];
  news_length = refl;
  kinds = refl;
  log = sym (write_nil w.log w.at.logged);
  logged = omega arith;
  requests = omega arith;
}

pub onward_join : {u v w : World} → Onward u v → Onward v w → Onward u w
onward_join {u} {v} {w} o p = record {
  store = p.store ∙ o.store;
  free = omega (arith, o.free, p.free);
  first = omega (arith, o.first, p.first);
  outcomes = p.outcomes ∙ o.outcomes;
  taken = omega (arith, o.taken, p.taken);
  actions = o.actions + p.actions;
  news = o.news ++ p.news;
  news_length = length-append o.news p.news ∙ omega (arith, o.news_length, p.news_length);
  kinds = kinds_append is_kind o.actions p.actions o.news p.news o.news_length ∙ ap₂ ◌+◌ o.kinds p.kinds;
  log = p.log ∙ seam;
  logged = omega (arith, o.logged, p.logged);
  requests =
      omega (arith, o.requests, p.requests, kinds_append (λ kind. eqb kind 1) o.actions p.actions o.news p.news o.news_length);
}
  where
    seam : write v.log v.at.logged p.news ≡ write u.log u.at.logged (o.news ++ p.news)
    seam =
        let start : v.at.logged ≡ u.at.logged + length o.news = omega (arith, o.logged, o.news_length) in
        rw (o.log, start) (write_append u.log u.at.logged o.news p.news)
