-- What the checks make of items in walk order: laws of `judged`, case by case, and of items after items.
use mathlib.Core.Path.{◌≡◌, refl, sym}
use Rattle.std.specs.Prelude.{Err, Ok}
use mathlib.Core.Bool.{true, false}
use mathlib.Core.List.{List, [], ◌∷◌, ◌++◌}
use Prim.Native.Nat.{ℕ, suc, ◌+◌}
use native.Mathlib.Nat.{add-zero}
use native.Mathlib.Omega.{arith}
use lib.Dec.{leb}
use lib.ListN.{length}
use Rattle.rules.specs.declared.Avp.{Avp}
use Rattle.rules.specs.declared.Verdict.{Verdict}
use Rattle.rules.specs.Verdict.{verdict, Outcome, no_refusal}
use Rattle.rules.specs.declared.Entry.{Entry}
use Rattle.rules.specs.Dictionary.{find}
use Rattle.rules.specs.Walk.{most_avps, contents, Walked, whole, stopped, after, and_then}
use Rattle.rules.proofs.Walk.{by_cases, after_nil, after_after}
use Rattle.rules.proofs.demands.items.Items.{Item, octets_of, step, avp_of, judged}
use Rattle.rules.proofs.demands.items.Sequences.{octets_nil, length-cons}

-- an outcome is a pass or a refusal
pub by_outcome : {C : Type 0} (o : Outcome) → (o ≡ no_refusal → C) → ((v : Verdict) → o ≡ Err v → C) → C
by_outcome (Ok u) f g = f refl
by_outcome (Err v) f g = g v refl

pub and_after : (a : Avp) (w : Walked) (f : ℕ → Walked)
    → and_then (after (a ∷ []) w) f ≡ after (a ∷ []) (and_then w (λ k. f (suc k)))
and_after a (whole xs) f = sym (after_after (a ∷ []) xs (f (suc (length xs))))
and_after a (stopped xs v) f = refl

module _ (dict : List Entry) (s : List ℕ) where
  -- checks 3 to 7 of an item at a place
  abbrev pub contents_of : ℕ → Item → Outcome
  contents_of at x = contents s at (avp_of at x) (find dict x.cell.vendor x.cell.code)

  module _ (count at : ℕ) (x : Item) (xs : List Item) where
    pub judged_many : leb most_avps count ≡ true → judged dict s count at (x ∷ xs) ≡ stopped [] (verdict 7002 at 0 0)
    unfolding judged
    judged_many m = rw m

    pub judged_refused : {v : Verdict} → leb most_avps count ≡ false → contents_of at x ≡ Err v
        → judged dict s count at (x ∷ xs) ≡ stopped [] v
    unfolding judged
    judged_refused m o = rw (m, o)

    pub judged_pass : leb most_avps count ≡ false → contents_of at x ≡ no_refusal
        → judged dict s count at (x ∷ xs) ≡ after (avp_of at x ∷ []) (judged dict s (count + 1) (at + step x) xs)
    unfolding judged
    judged_pass m o = rw (m, o)

  pub judged_nil : (count at : ℕ) → judged dict s count at [] ≡ whole []
  unfolding judged
  judged_nil count at = refl

  -- items after items
  pub judged-append : (count at : ℕ) (xs ys : List Item)
      → judged dict s count at (xs ++ ys)
      ≡ and_then (judged dict s count at xs) (λ k. judged dict s (count + k) (at + length (octets_of xs)) ys)
  judged-append count at [] ys =
      rw (judged_nil count at, octets_nil) (simp (after_nil, add-zero))
  judged-append count at (x ∷ xs) ys =
      let h : at + length (octets_of (x ∷ xs)) ≡ at + step x + length (octets_of xs) =
      rw (length-cons x xs) (omega arith) in
      let ih = judged-append (count + 1) (at + step x) xs ys in
      let sh : (k : ℕ) → count + suc k ≡ count + 1 + k = λ k. omega arith in
      by_cases (leb most_avps count)
      (λ m. rw (judged_many count at x (xs ++ ys) m, judged_many count at x xs m))
      (λ m. by_outcome (contents_of at x)
      (λ o. rw (h, judged_pass count at x (xs ++ ys) m o, judged_pass count at x xs m o, ih) (simp (and_after, sh)))
      (λ v o. rw (judged_refused count at x (xs ++ ys) m o, judged_refused count at x xs m o)))
