-- Octets of items that make a list are walked as the items: the walk gives what checks 1 and 3 to 7 make of them in
-- order. It holds for every dictionary and every bound on the steps that is enough.
use mathlib.Core.Path.{◌≡◌, refl, sym, ap, ◌∙◌}
use Rattle.std.specs.Prelude.{Err}
use mathlib.Core.Bool.{true, false}
use mathlib.Core.List.{List, [], ◌∷◌, ◌++◌, append_assoc}
use Prim.Native.Nat.{ℕ, zero, suc, ◌+◌, ◌-◌, ◌≤◌, ◌<◌}
use native.Mathlib.Nat.{add-zero}
use native.Mathlib.Omega.{arith}
use borrow.Author.Tests.{leb-true, leb-false}
use lib.Dec.{leb}
use lib.ListN.{length, drop}
use Rattle.rules.specs.declared.Verdict.{Verdict}
use Rattle.rules.specs.Octets.{padded}
use Rattle.rules.specs.Verdict.{verdict, no_refusal}
use Rattle.rules.specs.Avp.{header_of, next_at, avp_at}
use Rattle.rules.specs.declared.Entry.{Entry}
use Rattle.rules.specs.Walk.{standing, most_avps, framing, stopped, after, and_then, walk_avp, walk_list}
use Rattle.rules.specs.Wire.{has_vendor, avp_header}
use Rattle.rules.proofs.Fields.{header_least}
use Rattle.rules.proofs.Walk.{by_cases, checked_content, checked_group, checked_plain, avp_many, avp_fault, avp_plain, avp_group, list_end, list_more}
use Rattle.rules.proofs.demands.items.Items.{Item, octets_of, step, avp_of, Fit, Listed, judged}
use Rattle.rules.proofs.demands.octets.Numbers.{drop-on}
use Rattle.rules.proofs.demands.items.Trees.{is_group_cell}
use Rattle.rules.proofs.demands.items.Sequences.{octets_nil, octets-append, length-header, length-cons, length_both, front_item, past_item}
use Rattle.rules.proofs.demands.items.Lists.{not_both, run, own_plain, own_step, listed_plain, GroupOf, listed_group}
use Rattle.rules.proofs.demands.written.Judged.{by_outcome, and_after, contents_of, judged_many, judged_refused, judged_pass, judged_nil, judged-append}
use Rattle.rules.proofs.demands.written.Fields.{HeaderAt, header_found, avp_found, next_found, framing_found}

module _ (dict : List Entry) (s : List ℕ) where
  abbrev Reads : ℕ → Type 0
  Reads n =
      (xs : List Item) (post : List ℕ) (at end depth count : ℕ) → Listed dict depth xs
      → drop at s ≡ octets_of xs ++ post → end ≡ at + length (octets_of xs) → length (octets_of xs) ≤ n
      → walk_list n dict s (standing at end depth count) ≡ judged dict s count at xs

  -- ---- one item, and the walk behind it

  module _ (n : ℕ) (x : Item) (at end depth count : ℕ)
      (depth_is : x.cell.depth ≡ depth) (front : HeaderAt s at x.cell)
      (room : header_of (has_vendor x.cell) + padded x.cell.length ≤ end - at)
    where
      more : walk_list (suc n) dict s (standing at end depth count)
          ≡ and_then (walk_avp (walk_list n dict s) dict s (standing at end depth count))
          (λ k. walk_list n dict s (standing (next_at s at) end depth (count + k)))
      more =
          let h = header_least (has_vendor x.cell) in
          list_more n dict s (standing at end depth count) (omega arith)

      item_many : leb most_avps count ≡ true
          → walk_list (suc n) dict s (standing at end depth count) ≡ stopped [] (verdict 7002 at 0 0)
      item_many m = more ∙ rw (avp_many (walk_list n dict s) dict s (standing at end depth count) (leb-true 256 count m))

      module _ (m : leb most_avps count ≡ false) where
        few : count < 256
        few = leb-false 256 count m

        pass : framing s at end ≡ no_refusal
        pass = framing_found s at end x.cell front room

        the_avp : avp_of at x ≡ avp_at s at depth
        the_avp = avp_found s at x front ∙ ap (avp_at s at) depth_is

        item_refused : {v : Verdict} → contents_of dict s at x ≡ Err v
            → walk_list (suc n) dict s (standing at end depth count) ≡ stopped [] v
        item_refused o =
            more ∙ rw (avp_fault (walk_list n dict s) dict s (standing at end depth count)
            (checked_content dict s (standing at end depth count) few pass (avp_of at x) the_avp _ refl o))

        item_plain : contents_of dict s at x ≡ no_refusal → is_group_cell dict x.cell ≡ false
            → walk_list (suc n) dict s (standing at end depth count)
            ≡ after (avp_of at x ∷ []) (walk_list n dict s (standing (next_at s at) end depth (count + 1)))
        item_plain o g =
            more ∙ rw (avp_plain (walk_list n dict s) dict s (standing at end depth count)
            (checked_plain dict s (standing at end depth count) few pass (avp_of at x) the_avp _ refl o g))

        item_group : contents_of dict s at x ≡ no_refusal → is_group_cell dict x.cell ≡ true
            → walk_list (suc n) dict s (standing at end depth count)
            ≡ and_then (after (avp_of at x ∷ [])
            (walk_list n dict s (standing (avp_of at x).start ((avp_of at x).start + x.cell.length) (depth + 1) (count + 1))))
            (λ k. walk_list n dict s (standing (next_at s at) end depth (count + k)))
        item_group o g =
            more ∙ rw (avp_group (walk_list n dict s) dict s (standing at end depth count)
            (checked_group dict s (standing at end depth count) few pass (avp_of at x) the_avp _ refl o g))

  -- ---- lists

  full_plain : (n : ℕ) → Reads n → (x : Item) (xs : List Item) (post : List ℕ) (at end depth count : ℕ) → Fit dict x
      → x.cell.depth ≡ depth → is_group_cell dict x.cell ≡ false → Listed dict depth xs
      → drop at s ≡ octets_of (x ∷ xs) ++ post → end ≡ at + length (octets_of (x ∷ xs))
      → length (octets_of (x ∷ xs)) ≤ suc n
      → walk_list (suc n) dict s (standing at end depth count) ≡ judged dict s count at (x ∷ xs)
  full_plain n ih x xs post at end depth count fit depth_is g listed e to enough =
      let c = x.cell in
      let tail = octets_of xs ++ post in
      let st : step x ≡ header_of (has_vendor c) + padded c.length =
      own_step dict x fit (λ h. not_both _ h g) ∙ own_plain dict c g in
      let l = length-cons x xs in
      let hl = header_least (has_vendor c) in
      let d0 : drop at s ≡ avp_header c ++ (c.octets ++ (x.padding ++ tail)) =
      front_item x xs s post at e in
      let front = header_found dict x fit s _ at d0 in
      let on : drop (at + step x) s ≡ tail = past_item x s tail at d0 in
      let next : next_at s at ≡ at + step x = next_found s at c front ∙ rw st in
      let w = ih xs post (at + step x) end depth (count + 1) listed on (omega arith) (omega arith) in
      let room : header_of (has_vendor c) + padded c.length ≤ end - at = omega arith in
      by_cases (leb most_avps count)
      (λ m. item_many n x at end depth count depth_is front room m ∙ sym (judged_many dict s count at x xs m))
      (λ m. by_outcome (contents_of dict s at x)
      (λ o. item_plain n x at end depth count depth_is front room m o g
      ∙ rw (next, w, judged_pass dict s count at x xs m o))
      (λ v o. item_refused n x at end depth count depth_is front room m o
      ∙ sym (judged_refused dict s count at x xs m o)))

  full_group : (n : ℕ) → Reads n → (x : Item) (xs ys : List Item) (post : List ℕ) (at end depth count : ℕ) → Fit dict x
      → x.cell.depth ≡ depth → is_group_cell dict x.cell ≡ true → GroupOf dict depth x xs ys
      → drop at s ≡ octets_of (x ∷ (xs ++ ys)) ++ post → end ≡ at + length (octets_of (x ∷ (xs ++ ys)))
      → length (octets_of (x ∷ (xs ++ ys))) ≤ suc n
      → walk_list (suc n) dict s (standing at end depth count) ≡ judged dict s count at (x ∷ (xs ++ ys))
  full_group n ih x xs ys post at end depth count fit depth_is g group e to enough =
      let c = x.cell in
      let h = header_of (has_vendor c) in
      let tail = octets_of ys ++ post in
      let d = group.data_nil in
      let p = group.padding_nil in
      let st : step x ≡ h = rw (d, p) (add-zero h) in
      let lg = group.length-is in
      let even = group.even in
      let hl = header_least (has_vendor c) in
      let l : length (octets_of (x ∷ (xs ++ ys))) ≡ h + (c.length + length (octets_of ys)) =
      length-cons x (xs ++ ys) ∙ rw (st, length_both xs ys, lg) in
      let d0 : drop at s ≡ avp_header c ++ (octets_of xs ++ tail) =
      front_item x (xs ++ ys) s post at e ∙ simp (d, p, octets-append, append_assoc) in
      let front = header_found dict x fit s _ at d0 in
      let in-at : drop (at + h) s ≡ octets_of xs ++ tail =
      drop-on s (avp_header c) _ at (at + h) (rw (length-header c)) d0 in
      let next : next_at s at ≡ at + h + c.length = next_found s at c front ∙ rw even (omega arith) in
      let on : drop (at + h + c.length) s ≡ tail =
      drop-on s (octets_of xs) tail (at + h) (at + h + c.length) (rw lg) in-at in
      let inner =
      ih xs tail (at + h) (at + h + c.length) (depth + 1) (count + 1) group.inner in-at (rw lg) (omega arith) in
      let both = judged-append dict s (count + 1) (at + h) xs ys in
      let outer : (k : ℕ)
      → walk_list n dict s (standing (at + h + c.length) end depth k) ≡ judged dict s k (at + h + c.length) ys =
      λ k. ih ys post (at + h + c.length) end depth k group.outer on (omega arith) (omega arith) in
      let room : h + padded c.length ≤ end - at = omega arith in
      let sh : (k : ℕ) → count + suc k ≡ count + 1 + k = λ k. omega arith in
      by_cases (leb most_avps count)
      (λ m. item_many n x at end depth count depth_is front room m ∙ sym (judged_many dict s count at x (xs ++ ys) m))
      (λ m. by_outcome (contents_of dict s at x)
      (λ o. item_group n x at end depth count depth_is front room m o g
      ∙ rw (next, inner, and_after, judged_pass dict s count at x (xs ++ ys) m o, st, both, ← lg) (simp (outer, sh)))
      (λ v o. item_refused n x at end depth count depth_is front room m o
      ∙ sym (judged_refused dict s count at x (xs ++ ys) m o)))

  -- the members stand in the run of deeper items
  full_run : (n : ℕ) → Reads n → (x : Item) (zs xs ys : List Item) → zs ≡ xs ++ ys
      → (post : List ℕ) (at end depth count : ℕ)
      → Listed dict depth (x ∷ (xs ++ ys)) → GroupOf dict depth x xs ys → x.cell.depth ≡ depth
      → is_group_cell dict x.cell ≡ true
      → drop at s ≡ octets_of (x ∷ (xs ++ ys)) ++ post → end ≡ at + length (octets_of (x ∷ (xs ++ ys)))
      → length (octets_of (x ∷ (xs ++ ys))) ≤ suc n
      → walk_list (suc n) dict s (standing at end depth count) ≡ judged dict s count at (x ∷ zs)
  full_run n ih x zs xs ys is post at end depth count listed group depth_is g e to enough =
      full_group n ih x xs ys post at end depth count listed.fit.0 depth_is g group e to enough ∙ rw is

  full_none : (n : ℕ) (at end depth count : ℕ) → end ≡ at + length (octets_of [])
      → walk_list n dict s (standing at end depth count) ≡ judged dict s count at []
  full_none n at end depth count to =
      let z : end ≡ at = to ∙ rw octets_nil (add-zero at) in
      list_end n dict s (standing at end depth count) (omega arith) ∙ sym (judged_nil dict s count at)

  full_zero : Reads zero
  full_zero [] post at end depth count listed e to enough = full_none zero at end depth count to
  full_zero (x ∷ xs) post at end depth count listed e to enough =
      absurd (omega (arith, length-cons x xs, header_least (has_vendor x.cell)))

  full_more : (n : ℕ) → Reads n → Reads (suc n)
  full_more n ih [] post at end depth count listed e to enough = full_none (suc n) at end depth count to
  full_more n ih (x ∷ zs) post at end depth count listed e to enough =
      by_cases (is_group_cell dict x.cell)
      (λ g.
      let u = run depth zs in
      let l : Listed dict depth (x ∷ (u.inner ++ u.rest)) = rw u.is at listed in
      let group = listed_group dict depth x u.inner u.rest l g u.down u.up in
      full_run n ih x zs u.inner u.rest u.is post at end depth count l group.1 group.0 g
      (rw u.is at e) (rw u.is at to) (rw u.is at enough))
      (λ g.
      let plain = listed_plain dict depth x zs listed g in
      full_plain n ih x zs post at end depth count listed.fit.0 plain.0 g plain.1 e to enough)

  reads : (n : ℕ) → Reads n
  reads zero = full_zero
  reads (suc n) = full_more n (reads n)

-- octets that are those of a list of items, and then others
pub full : (n : ℕ) (dict : List Entry) (xs : List Item) (s post : List ℕ) (at end depth count : ℕ)
    → Listed dict depth xs
    → drop at s ≡ octets_of xs ++ post → end ≡ at + length (octets_of xs) → length (octets_of xs) ≤ n
    → walk_list n dict s (standing at end depth count) ≡ judged dict s count at xs
full n dict xs s post at end depth count = reads dict s n xs post at end depth count
