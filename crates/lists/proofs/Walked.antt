-- The row checks by the log of a walk say what document 01 says of its AVPs: the AVPs of a list by the positions after
-- last descendants are those at its depth, and what is said at each position is said of the AVP there.
use mathlib.Core.Path.{◌≡◌, refl, sym, ap, ◌∙◌}
use Rattle.std.specs.Prelude.{Option, Some, None}
use mathlib.Core.Bool.{Bool, true, false}
use mathlib.Core.List.{List, [], ◌∷◌, ◌++◌, append_assoc, append-nil}
use Prim.Native.Nat.{ℕ, zero, suc, ◌+◌, ◌-◌, ◌≤◌, ◌<◌, min}
use native.Mathlib.Nat.{add-zero, zero-add}
use native.Mathlib.Omega.{arith}
use borrow.Author.Tests.{lt-ltb, le-ltb, eq-eqb, ne_eqb}
use lib.ListN.{length, get_or, drop, length-append, length-drop}
use lib.Seq.{get_or-drop, drop-drop, drop-append_seam}
use Rattle.rules.specs.declared.Avp.{Avp}
use Rattle.rules.specs.declared.Grammar.{Grammar}
use Rattle.rules.specs.Verdict.{or_else, Outcome, no_refusal}
use Rattle.rules.specs.Avp.{end_of}
use Rattle.rules.specs.Search.{blank, avp_in}
use Rattle.rules.specs.Dictionary.{dictionary, find, defined, members_of}
use Rattle.rules.specs.RowChecks.{admission, none_met, counted, member_outcome, members_outcome, members_at, list_outcome}
use Rattle.rules.specs.RowChecks.{group_outcome, groups_outcome, rows_outcome}
use Rattle.dictionary.specs.Entries.{entry_of, definition_at}
use Rattle.walk_log.specs.Log.{Logged}
use Rattle.walk_log.specs.Families.{logged_from, Forest, none, family, flat, Placed, IsForest}
use Rattle.walk_log.proofs.Families.{Level}
use Rattle.walk_log.proofs.Forests.{level_rest, Stands, stands_at, StandsFamily, stands_family}
use Rattle.lists.proofs.Members.{logged_members_none, logged_members_next}
use Rattle.lists.specs.ByLog.{admission_at, logged_members, members_by, list_by, group_by, group_at, first_fault, rows_by}
use Rattle.lists.proofs.Finds.{row_by_entry, members_by_entry}

-- ---- the members of a list, all of which are deeper than `above`

-- none, where the list ends
members_end : (above : ℕ) (xs : List Avp) → Level above xs → members_at (above + 1) xs ≡ []
unfolding members_at
members_end above [] e = refl
members_end above (a ∷ xs) e = rw (lt-ltb a.depth (above + 1) (omega (arith, e)))

-- a deeper list has none of them
members_deeper : (f : Forest) (depth inner : ℕ) (xs : List Avp) → depth < inner → Placed inner f
    → members_at depth (flat f ++ xs) ≡ members_at depth xs
unfolding members_at
members_deeper none depth inner xs h p = refl
members_deeper (family a members rest) depth inner xs h p =
    let in_members = members_deeper members depth (inner + 1) (flat rest ++ xs) (omega arith) p.1 in
    let in_rest = members_deeper rest depth inner xs h p.2 in
    rw (
      le-ltb a.depth depth (omega (arith, p.0)),
      ne_eqb a.depth depth (λ e. omega (arith, p.0)),
      append_assoc (flat members) (flat rest) xs,
    )
    (in_members ∙ in_rest)

-- an AVP of the list, then those of the rest of the list
members_family : (a : Avp) (members rest : Forest) (depth : ℕ) (xs : List Avp) → Placed depth (family a members rest)
    → members_at depth (flat (family a members rest) ++ xs) ≡ a ∷ members_at depth (flat rest ++ xs)
unfolding members_at
members_family a members rest depth xs p =
    let in_members = members_deeper members depth (depth + 1) (flat rest ++ xs) (omega arith) p.1 in
    rw (
      le-ltb a.depth depth (omega (arith, p.0)),
      eq-eqb a.depth depth p.0,
      append_assoc (flat members) (flat rest) xs,
      in_members,
    )

-- ---- what is said at each position

-- behind some AVPs, the others
drop-behind : (ys xs zs : List Avp) (i : ℕ) → drop i ys ≡ xs ++ zs → drop (i + length xs) ys ≡ zs
drop-behind ys xs zs i e = sym (drop-drop (length xs) i ys) ∙ ap (drop (length xs)) e ∙ drop-append_seam xs zs

module _ (entry : ℕ → ℕ → ℕ) (at : ℕ → Logged) (ys : List Avp) where
  -- at position i of these AVPs: an AVP of a list, its members, the rest of the list, and what is behind it
  pub record FamilyAt (a : Avp) (members rest : Forest) (above : ℕ) (xs : List Avp) (i : ℕ) : Type 0 where
    pub placed : Placed (above + 1) (family a members rest)
    pub level : Level above xs
    pub stands : StandsFamily entry at a members rest xs i
    pub here : avp_in ys i ≡ a
    pub behind : drop (i + 1) ys ≡ flat members ++ (flat rest ++ xs)
    pub all : i + 1 + length (flat members ++ (flat rest ++ xs)) ≡ length ys

  family_at : (a : Avp) (members rest : Forest) (above : ℕ) (xs : List Avp) (i : ℕ)
      → Placed (above + 1) (family a members rest) → Level above xs
      → Stands entry at i (flat (family a members rest) ++ xs) → drop i ys ≡ flat (family a members rest) ++ xs
      → FamilyAt a members rest above xs i
  family_at a members rest above xs i p e s is =
      let next : drop i ys ≡ a ∷ (flat members ++ (flat rest ++ xs)) =
      is ∙ rw (append_assoc (flat members) (flat rest) xs) in
      let long : length ys - i ≡ suc (length (flat members ++ (flat rest ++ xs))) =
      sym (length-drop i ys) ∙ ap (λ (zs : List Avp). length zs) next in
      record {
        placed = p;
        level = e;
        stands = stands_family entry at a members rest above xs i p e s;
        here = rw (add-zero i) at (sym (get_or-drop i ys 0 blank) ∙ ap (λ (zs : List Avp). get_or zs 0 blank) next);
        behind = drop-behind ys (a ∷ []) (flat members ++ (flat rest ++ xs)) i next;
        all = omega (arith, long);
      }

  -- what is said of each AVP with those after it, the first at position i
  module _ (said : ℕ → Outcome) (own : ℕ → Avp → List Avp → Outcome) (each : ℕ → List Avp → Outcome)
      (end : (i : ℕ) → each i [] ≡ no_refusal)
      (next : (i : ℕ) (a : Avp) (xs : List Avp) → each i (a ∷ xs) ≡ or_else (own i a xs) (each (i + 1) xs))
      (same : (a : Avp) (members rest : Forest) (above : ℕ) (xs : List Avp) (i : ℕ)
      → FamilyAt a members rest above xs i → said i ≡ own i a (flat members ++ (flat rest ++ xs))) where
    -- each AVP of a list with all descendants, then those behind it
    each_by : (f : Forest) (above : ℕ) (xs : List Avp) (i n : ℕ) → Placed (above + 1) f → Level above xs
        → Stands entry at i (flat f ++ xs) → drop i ys ≡ flat f ++ xs
        → first_fault said n (i + length (flat f)) ≡ each (i + length (flat f)) xs
        → first_fault said (length (flat f) + n) i ≡ each i (flat f ++ xs)
    unfolding first_fault
    each_by none above xs i n p e s is later = rw (zero-add n, ← add-zero i) later
    each_by (family a members rest) above xs i n p e s is later =
        let here = family_at a members rest above xs i p e s is in
        let both = length-append (flat members) (flat rest) in
        let after : ℕ = i + 1 + length (flat members) in
        let last : i + length (flat (family a members rest)) ≡ after + length (flat rest) = omega arith in
        let in_rest = each_by rest above xs after n p.2 e here.stands.behind
        (drop-behind ys (flat members) (flat rest ++ xs) (i + 1) here.behind) (rw last at later) in
        let in_members = each_by members (above + 1) (flat rest ++ xs) (i + 1) (length (flat rest) + n) p.1
        (level_rest rest above xs p.2 e) here.stands.inside here.behind in_rest in
        let steps : length (flat (family a members rest)) + n ≡ suc (length (flat members) + (length (flat rest) + n)) =
        omega arith in
        rw (
          steps,
          append_assoc (flat members) (flat rest) xs,
          next i a (flat members ++ (flat rest ++ xs)),
          same a members rest above xs i here,
          in_members,
        )

    -- of AVPs that are a list of depth 1 with all descendants
    pub each_of : IsForest 1 ys → Stands entry at 0 ys → first_fault said (length ys) 0 ≡ each 0 ys
    unfolding first_fault
    each_of f s =
        let e : ys ≡ flat f.forest ++ [] = f.is ∙ sym (append-nil (flat f.forest)) in
        let n : length (flat f.forest) + 0 ≡ length ys =
        add-zero (length (flat f.forest)) ∙ ap (λ (zs : List Avp). length zs) (sym f.is) in
        rw (← n) (each_by f.forest 0 [] 0 0 f.placed tt (rw e at s) e (sym (end _)) ∙ ap (each 0) (sym e))

-- ---- where the entry of a name has its row and its members

module _ (entry : ℕ → ℕ → ℕ)
    (row_of : (g : Grammar) (vendor code : ℕ) → admission_at g (entry vendor code) ≡ admission g vendor code)
    (members-of : (vendor code : ℕ)
    → members_of (definition_at dictionary (entry vendor code)) ≡ members_of (find dictionary vendor code))
    (at : ℕ → Logged) where
  -- the members of a list that stands from position i on, before position `stop`, in steps that are enough
  members_by_lem : (f : Forest) (above : ℕ) (xs : List Avp) (i n stop : ℕ) → Placed (above + 1) f → Level above xs
      → Stands entry at i (flat f ++ xs) → length (flat f) ≤ n → stop ≡ i + length (flat f)
      → (g : Grammar) (end : ℕ) (counts : List ℕ) (first : Bool)
      → members_by g end counts first (logged_members n at i stop)
      ≡ members_outcome g end counts first (members_at (above + 1) (flat f ++ xs))
  unfolding members_by members_outcome member_outcome
  members_by_lem none above xs i n stop p e s enough last g end counts first =
      rw (logged_members_none at stop n i (omega arith), members_end above xs e)
  members_by_lem (family a members rest) above xs i zero stop p e s enough last g end counts first = absurd (omega arith)
  members_by_lem (family a members rest) above xs i (suc n) stop p e s enough last g end counts first =
      let here = stands_family entry at a members rest above xs i p e s in
      let both = length-append (flat members) (flat rest) in
      let more : List ℕ = counted counts (admission g a.vendor a.code) in
      let next : ℕ = i + 1 + length (flat members) in
      let in_rest =
      members_by_lem rest above xs next n stop p.2 e here.behind (omega arith) (omega arith) g end more false in
      rw (
        logged_members_next at stop n i _ (omega arith) here.first,
        members_family a members rest (above + 1) xs p,
        row_of g a.vendor a.code,
        in_rest,
      )

  -- the list
  list_by_lem : (f : Forest) (above : ℕ) (xs : List Avp) (i stop : ℕ) → Placed (above + 1) f → Level above xs
      → Stands entry at i (flat f ++ xs) → stop ≡ i + length (flat f) → (g : Grammar) (end : ℕ)
      → list_by at g end i stop ≡ list_outcome g (above + 1) end (flat f ++ xs)
  list_by_lem f above xs i stop p e s last g end =
      members_by_lem f above xs i (stop - i) stop p e s (omega arith) last g end none_met true

  -- an AVP, by what is said of its members
  group_by_lem : (ys : List Avp) (a : Avp) (members rest : Forest) (above : ℕ) (xs : List Avp) (i : ℕ)
      → FamilyAt entry at ys a members rest above xs i → (m : Option Grammar)
      → group_by at (length ys) i m ≡ group_outcome m a (flat members ++ (flat rest ++ xs))
  group_by_lem ys a members rest above xs i h (Some g) =
      let p = h.placed in
      let few = length-append (flat members) (flat rest ++ xs) in
      let last : min (i + 1 + length (flat members)) (length ys) ≡ i + 1 + length (flat members) =
      omega (arith, h.all) in
      rw (h.stands.first, p.0)
      (list_by_lem members (above + 1) (flat rest ++ xs) (i + 1) (min (i + 1 + length (flat members)) (length ys)) p.1
      (level_rest rest above xs p.2 h.level) h.stands.inside last g (end_of a))
  group_by_lem ys a members rest above xs i h None = refl

  -- the groups, each at its position
  groups_by : (ys : List Avp) → IsForest 1 ys → Stands entry at 0 ys
      → first_fault (group_at at (length ys)) (length ys) 0 ≡ groups_outcome dictionary ys
  unfolding groups_outcome
  groups_by ys =
      each_of entry at ys (group_at at (length ys)) (λ i a xs. group_outcome (members_of (defined dictionary a)) a xs)
      (λ i xs. groups_outcome dictionary xs) (λ i. refl) (λ i a xs. refl)
      (λ a members rest above xs i here.
      let said : members_of (definition_at dictionary (at i).entry) ≡ members_of (defined dictionary a) =
      rw here.stands.first (members-of a.vendor a.code) in
      ap (group_by at (length ys) i) said
      ∙ group_by_lem ys a members rest above xs i here (members_of (defined dictionary a)))

  -- of AVPs that are a list of depth 1 with all descendants: the command's list, then each group
  pub rows_of : (xs : List Avp) → IsForest 1 xs → Stands entry at 0 xs → (g : Grammar) (end : ℕ)
      → rows_by at g end (length xs) ≡ rows_outcome dictionary g end xs
  unfolding rows_by rows_outcome
  rows_of xs f s g end =
      let e : xs ≡ flat f.forest ++ [] = f.is ∙ sym (append-nil (flat f.forest)) in
      let n : length xs ≡ length (flat f.forest) = ap (λ (ys : List Avp). length ys) f.is in
      let list = list_by_lem f.forest 0 [] 0 (length xs) f.placed tt (rw e at s) (omega arith) g end in
      rw (list, ← e, groups_by xs f s)

-- ---- the log of a walk

-- the checks by what a log has at each position; `other` is what stands where there is no position
pub walked_rows : (xs : List Avp) → IsForest 1 xs → (at : ℕ → Logged) (other : Logged)
    → ((i : ℕ) → i < length (logged_from (entry_of dictionary) 0 xs)
    → at i ≡ get_or (logged_from (entry_of dictionary) 0 xs) i other)
    → (g : Grammar) (end : ℕ) → rows_by at g end (length xs) ≡ rows_outcome dictionary g end xs
walked_rows xs f at other h g end =
    let stands = stands_at (entry_of dictionary) at xs 0 other (λ i l. rw (zero-add i) (h i l)) in
    rows_of (entry_of dictionary) row_by_entry members_by_entry at xs f stands g end
