-- Items in walk order as sequences: how many octets they have, and what stands where two are joined.
use mathlib.Core.Path.{◌≡◌, refl, sym, ap, ◌∙◌}
use mathlib.Core.List.{List, [], ◌∷◌, ◌++◌, append_assoc}
use Prim.Native.Nat.{ℕ, suc, ◌+◌}
use native.Mathlib.Nat.{add-zero}
use native.Mathlib.Omega.{arith}
use lib.ListN.{length, drop, length-append}
use Rattle.rules.specs.declared.Avp.{Avp}
use Rattle.rules.specs.Avp.{header_of}
use Rattle.rules.specs.Meaning.{Cell}
use Rattle.rules.specs.Wire.{has_vendor, avp_header}
use Rattle.rules.proofs.Walk.{by_cases}
use Rattle.rules.proofs.demands.items.Items.{Item, octets_of, step, avp_of, avps_at, All}
use Rattle.rules.proofs.demands.octets.Numbers.{length-octets, drop-on}

pub nil_of : {A : Type 0} (l : List A) → length l ≡ 0 → l ≡ []
nil_of [] e = refl
nil_of (x ∷ xs) e = absurd (omega arith)

module _ (P : Item → Type 0) where
  pub all_append : (xs ys : List Item) → All P xs → All P ys → All P (xs ++ ys)
  all_append [] ys f g = g
  all_append (x ∷ xs) ys f g = (f.0, all_append xs ys f.1 g)

  pub all_left : (xs ys : List Item) → All P (xs ++ ys) → All P xs
  all_left [] ys s = tt
  all_left (x ∷ xs) ys s = (s.0, all_left xs ys s.1)

  pub all_right : (xs ys : List Item) → All P (xs ++ ys) → All P ys
  all_right [] ys s = s
  all_right (x ∷ xs) ys s = all_right xs ys s.1

pub length-header : (c : Cell) → length (avp_header c) ≡ header_of (has_vendor c)
unfolding avp_header
length-header c =
    by_cases (has_vendor c)
    (λ h. rw h (simp (length-append, length-octets)))
    (λ h. rw h (simp (length-append, length-octets)))

pub octets_nil : octets_of [] ≡ []
unfolding octets_of
octets_nil = refl

pub octets_cons : (x : Item) (xs : List Item)
    → octets_of (x ∷ xs) ≡ avp_header x.cell ++ (x.cell.octets ++ (x.padding ++ octets_of xs))
unfolding octets_of
octets_cons x xs = refl

pub octets-append : (xs ys : List Item) → octets_of (xs ++ ys) ≡ octets_of xs ++ octets_of ys
unfolding octets_of
octets-append [] ys = refl
octets-append (x ∷ xs) ys = rw (octets-append xs ys) (simp append_assoc)

pub length-cons : (x : Item) (xs : List Item) → length (octets_of (x ∷ xs)) ≡ step x + length (octets_of xs)
length-cons x xs =
    let h = length-header x.cell in
    ap length (octets_cons x xs) ∙ simp length-append (omega arith)

pub length_both : (xs ys : List Item) → length (octets_of (xs ++ ys)) ≡ length (octets_of xs) + length (octets_of ys)
length_both xs ys = ap length (octets-append xs ys) ∙ length-append (octets_of xs) (octets_of ys)

-- an item at a place, and past it
pub front_item : (x : Item) (xs : List Item) (s post : List ℕ) (at : ℕ) → drop at s ≡ octets_of (x ∷ xs) ++ post
    → drop at s ≡ avp_header x.cell ++ (x.cell.octets ++ (x.padding ++ (octets_of xs ++ post)))
front_item x xs s post at e = e ∙ ap (λ (l : List ℕ). l ++ post) (octets_cons x xs) ∙ simp append_assoc

pub past_item : (x : Item) (s tail : List ℕ) (at : ℕ)
    → drop at s ≡ avp_header x.cell ++ (x.cell.octets ++ (x.padding ++ tail)) → drop (at + step x) s ≡ tail
past_item x s tail at e =
    let c = x.cell in
    let l : length (avp_header c ++ (c.octets ++ x.padding)) ≡ step x =
    simp length-append (ap (λ (k : ℕ). k + (length c.octets + length x.padding)) (length-header c)) in
    drop-on s (avp_header c ++ (c.octets ++ x.padding)) tail at (at + step x) (rw l) (e ∙ simp append_assoc)

pub avps_cons : (at : ℕ) (x : Item) (xs : List Item) → avps_at at (x ∷ xs) ≡ avp_of at x ∷ avps_at (at + step x) xs
unfolding avps_at
avps_cons at x xs = refl

pub avps_nil : (at : ℕ) → avps_at at [] ≡ []
unfolding avps_at
avps_nil at = refl

pub avps-append : (at : ℕ) (xs ys : List Item)
    → avps_at at (xs ++ ys) ≡ avps_at at xs ++ avps_at (at + length (octets_of xs)) ys
unfolding avps_at
avps-append at [] ys = ap (λ (k : ℕ). avps_at k ys) (sym (ap (λ (l : List ℕ). at + length l) octets_nil ∙ add-zero at))
avps-append at (x ∷ xs) ys =
    let h : at + step x + length (octets_of xs) ≡ at + length (octets_of (x ∷ xs)) =
    rw (length-cons x xs) (omega arith) in
    rw (← h) (ap (λ (l : List Avp). avp_of at x ∷ l) (avps-append (at + step x) xs ys))

pub length-avps : (at : ℕ) (xs : List Item) → length (avps_at at xs) ≡ length xs
unfolding avps_at
length-avps at [] = refl
length-avps at (x ∷ xs) = ap suc (length-avps (at + step x) xs)
