-- More steps change nothing. A walk with as many steps as octets are left in its list, and the lines of a listing with
-- more steps than octets are left in the book, are the same with every other such number of steps: the steps never run
-- out.
use mathlib.Core.Path.{◌≡◌, refl, sym, ap, ◌∙◌}
use mathlib.Core.Bool.{true, false, ◌||◌}
use mathlib.Core.List.{List, [], ◌∷◌, ◌++◌}
use Prim.Native.Nat.{ℕ, zero, suc, ◌+◌, ◌-◌, ◌≤◌, ◌<◌}
use native.Mathlib.Omega.{arith}
use borrow.Author.Tests.{ltb-true, ltb-false, leb-false, leb-true}
use lib.Dec.{ltb, leb}
use lib.ListN.{length}
use Rattle.rules.specs.declared.Avp.{Avp}
use Rattle.rules.specs.Header.{header_size}
use Rattle.rules.specs.declared.Entry.{Entry}
use Rattle.rules.specs.Dictionary.{dictionary}
use Rattle.rules.specs.Walk.{Standing, checked, Walked, whole, stopped, after, and_then, in_group, behind, walk_avp, walk_list, Checked, Fault, Plain, Group}
use Rattle.rules.specs.Command.{command_verdict, own_list, walk_of}
use Rattle.rules.specs.Lines.{command_line}
use Rattle.rules.specs.Book.{head_line, length_of, is_cut, command_in, acceptance, lines_from, book_head, is_book, listing}
use Rattle.rules.proofs.Tests.{neither}
use Rattle.rules.proofs.Walk.{by_cases, avp_fault, avp_plain, avp_group, list_end, list_more}
use Rattle.rules.proofs.Passed.{InFrame, plain_framed, group_framed}

-- ---- the walk

then_same : (v : Walked) (f g : ℕ → Walked) → ((k : ℕ) → f k ≡ g k) → and_then v f ≡ and_then v g
then_same (whole xs) f g h = ap (after xs) (h (length xs))
then_same (stopped xs v) f g h = refl

-- two numbers of steps give the same walk, wherever both are enough
abbrev Same : List Entry → List ℕ → ℕ → ℕ → Type 0
Same dict s n m = (w : Standing) → w.end - w.at ≤ n → w.end - w.at ≤ m → walk_list n dict s w ≡ walk_list m dict s w

module _ (dict : List Entry) (s : List ℕ) (n m : ℕ) (less : Same dict s n m) (w : Standing)
    (enough : w.end - w.at ≤ suc n) (enough' : w.end - w.at ≤ suc m)
  where
    -- one AVP and what is behind it
    abbrev turn : ℕ → Walked
    turn k = and_then (walk_avp (walk_list k dict s) dict s w) (λ j. walk_list k dict s (behind s w j))

    -- what is behind an AVP that passes is shorter than the list
    behind_same : {a : Avp} → InFrame s w a → (k : ℕ) → walk_list n dict s (behind s w k) ≡ walk_list m dict s (behind s w k)
    behind_same f k = less (behind s w k) (omega (arith, f)) (omega (arith, f))

    turn_same : (c : Checked) → checked dict s w ≡ c → turn n ≡ turn m
    turn_same (Fault v) e = rw (avp_fault (walk_list n dict s) dict s w e, avp_fault (walk_list m dict s) dict s w e)
    turn_same (Plain a) e =
        rw (avp_plain (walk_list n dict s) dict s w e, avp_plain (walk_list m dict s) dict s w e)
        (ap (after (a ∷ [])) (behind_same (plain_framed dict s w e) 1))
    turn_same (Group a) e =
        let f = group_framed dict s w e in
        rw (
          avp_group (walk_list n dict s) dict s w e,
          avp_group (walk_list m dict s) dict s w e,
          less (in_group w a) (omega (arith, f)) (omega (arith, f)),
        )
        (then_same (after (a ∷ []) (walk_list m dict s (in_group w a))) _ _ (behind_same f))

    more_same : walk_list (suc n) dict s w ≡ walk_list (suc m) dict s w
    more_same =
        by_cases (ltb w.at w.end)
        (λ h.
        list_more n dict s w (ltb-true _ _ h)
        ∙ turn_same (checked dict s w) refl
        ∙ sym (list_more m dict s w (ltb-true _ _ h)))
        (λ h. list_end (suc n) dict s w (ltb-false _ _ h) ∙ sym (list_end (suc m) dict s w (ltb-false _ _ h)))

pub walk_steps : (dict : List Entry) (s : List ℕ) (n m : ℕ) (w : Standing) → w.end - w.at ≤ n → w.end - w.at ≤ m
    → walk_list n dict s w ≡ walk_list m dict s w
walk_steps dict s zero m w h k = list_end zero dict s w (omega arith) ∙ sym (list_end m dict s w (omega arith))
walk_steps dict s (suc n) zero w h k = list_end (suc n) dict s w (omega arith) ∙ sym (list_end zero dict s w (omega arith))
walk_steps dict s (suc n) (suc m) w h k = more_same dict s n m (walk_steps dict s n m) w h k

-- the walk of a command, with any number of steps from its length on
pub command_steps : (s : List ℕ) (n : ℕ) → length s ≤ n → walk_of s ≡ walk_list n dictionary s (own_list s)
unfolding walk_of
command_steps s n h = walk_steps dictionary s (length s) n (own_list s) (omega arith) (omega arith)

-- ---- the lines of a listing

-- a command that is not cut has octets
uncut : (s : List ℕ) (at : ℕ) → is_cut s at ≡ false → header_size ≤ length_of s at
unfolding is_cut
uncut s at e =
    let left = length s - at in
    let x = neither (ltb left 4 || ltb (length_of s at) header_size) (ltb left (length_of s at)) e in
    ltb-false _ _ (neither (ltb left 4) (ltb (length_of s at) header_size) x.0).1

pub lines_steps : (n m : ℕ) (s : List ℕ) (at commands accepted : ℕ) → length s - at < n → length s - at < m
    → lines_from n s at commands accepted ≡ lines_from m s at commands accepted
unfolding lines_from
lines_steps zero m s at commands accepted h k = absurd (omega arith)
lines_steps (suc n) zero s at commands accepted h k = absurd (omega arith)
lines_steps (suc n) (suc m) s at commands accepted h k =
    let rest = lines_steps n m s (at + length_of s at) in
    by_cases (leb (length s) at) (λ past. rw past)
    (λ more. by_cases (is_cut s at) (λ cut. rw (more, cut))
    (λ whole.
    let size = uncut s at whole in
    let left : at < length s = leb-false _ _ more in
    rw (more, whole)
    (ap (λ (l : List ℕ). command_line (commands + 1) at (command_verdict (command_in s at)) ++ l)
    (rest (commands + 1) (accepted + acceptance (command_verdict (command_in s at))) (omega arith) (omega arith)))))

-- a book has its head
headed : (s : List ℕ) → is_book s ≡ true → book_head ≤ length s
unfolding is_book
headed s e =
    by_cases (leb book_head (length s)) (λ h. leb-true _ _ h)
    (λ h. let f : false ≡ true = rw h at e in let z : ◌≡◌ {A = ℕ} 0 1 = cc in absurd (omega arith))

-- the listing of a book, with any number of steps from its length on
pub listing_steps : (s : List ℕ) (n : ℕ) → is_book s ≡ true → length s ≤ n → listing s ≡ head_line ++ lines_from n s book_head 0 0
unfolding listing
listing_steps s n e h =
    let long = headed s e in
    rw e (ap (λ (l : List ℕ). head_line ++ l) (lines_steps (length s) n s book_head 0 0 (omega arith) (omega arith)))
