-- Laws of lists of AVPs with their members: what a log has at the position of an AVP, inside it and behind it.
use mathlib.Core.Path.{◌≡◌, ◌∙◌}
use mathlib.Core.List.{List, [], ◌∷◌, ◌++◌, append_assoc}
use Prim.Native.Nat.{ℕ, suc, ◌+◌, ◌≤◌, ◌<◌}
use native.Mathlib.Nat.{add-zero}
use native.Mathlib.Omega.{arith}
use lib.ListN.{length, get_or}
use Rattle.rules.specs.declared.Avp.{Avp}
use Rattle.walk_log.specs.Log.{Logged}
use Rattle.walk_log.specs.Families.{deeper, logged_from, Forest, none, family, flat, Placed}
use Rattle.walk_log.proofs.Families.{Floor, Level, floor-append, deeper-append, deeper_all}

-- ---- depths

-- a list and all descendants are at least as deep as the list
placed_floor : (f : Forest) (least depth : ℕ) → least ≤ depth → Placed depth f → Floor least (flat f)
placed_floor none least depth h p = tt
placed_floor (family a members rest) least depth h p =
    let in_members = placed_floor members least (depth + 1) (omega arith) p.1 in
    let in_rest = placed_floor rest least depth h p.2 in
    (omega (arith, p.0), floor-append least (flat members) (flat rest) in_members in_rest)

-- behind the members of an AVP: the rest of its list, then what is behind the list
pub level_rest : (rest : Forest) (above : ℕ) (xs : List Avp) → Placed (above + 1) rest → Level above xs
    → Level (above + 1) (flat rest ++ xs)
level_rest none above [] p e = tt
level_rest none above (a ∷ xs) p e = omega (arith, e)
level_rest (family a members rest) above xs p e = omega (arith, p.0)

-- the descendants of an AVP are its members with all of theirs
deeper_members : (members rest : Forest) (above : ℕ) (xs : List Avp) → Placed (above + 1 + 1) members
    → Placed (above + 1) rest → Level above xs
    → deeper (above + 1) (flat members ++ flat rest ++ xs) ≡ length (flat members)
deeper_members members rest above xs p q e =
    rw (append_assoc (flat members) (flat rest) xs)
    (deeper-append (above + 1) (flat members) (flat rest ++ xs) (level_rest rest above xs q e)
    ∙ deeper_all (above + 1) (flat members) (placed_floor members (above + 1 + 1) (above + 1 + 1) (omega arith) p))

-- ---- what a log has at the positions of AVPs; `entry` gives the number of a name's entry

module _ (entry : ℕ → ℕ → ℕ) (at : ℕ → Logged) where
  -- at a position: an AVP, its entry, and the position after its last descendant
  abbrev pub Holds : ℕ → Avp → ℕ → Type 0
  Holds i a after = at i ≡ record { avp = a; entry = entry a.vendor a.code; after = after }

  -- these AVPs from position i on
  abbrev pub Stands : ℕ → List Avp → Type 0
  Stands i [] = Unit {0}
  Stands i (a ∷ xs) = Holds i a (i + 1 + deeper a.depth xs) × Stands (i + 1) xs

  -- said position by position; `other` is what stands where there is no position
  pub stands_at : (xs : List Avp) (i : ℕ) (other : Logged)
      → ((k : ℕ) → k < length (logged_from entry i xs) → at (i + k) ≡ get_or (logged_from entry i xs) k other) → Stands i xs
  unfolding logged_from
  stands_at [] i other h = tt
  stands_at (a ∷ xs) i other h =
      let here = rw (add-zero i) at (h 0 (omega arith)) in (
        here,
        stands_at xs (i + 1) other (λ k l.
            let e : i + suc k ≡ i + 1 + k = omega arith in
            rw e at (h (suc k) (omega arith))),
      )

  -- behind some AVPs, the others
  stands_behind : (xs ys : List Avp) (i : ℕ) → Stands i (xs ++ ys) → Stands (i + length xs) ys
  stands_behind [] ys i h = rw (add-zero i) h
  stands_behind (a ∷ xs) ys i h =
      let e : i + 1 + length xs ≡ i + suc (length xs) = omega arith in
      rw (← e) (stands_behind xs ys (i + 1) h.1)

  -- an AVP of a list, then its members with all descendants, then the rest of the list and what is behind it
  pub record StandsFamily (a : Avp) (members rest : Forest) (xs : List Avp) (i : ℕ) : Type 0 where
    pub first : Holds i a (i + 1 + length (flat members))
    pub inside : Stands (i + 1) (flat members ++ (flat rest ++ xs))
    pub behind : Stands (i + 1 + length (flat members)) (flat rest ++ xs)

  pub stands_family : (a : Avp) (members rest : Forest) (above : ℕ) (xs : List Avp) (i : ℕ)
      → Placed (above + 1) (family a members rest) → Level above xs → Stands i (flat (family a members rest) ++ xs)
      → StandsFamily a members rest xs i
  stands_family a members rest above xs i p e h =
      let n : deeper a.depth (flat members ++ flat rest ++ xs) ≡ length (flat members) =
      rw p.0 (deeper_members members rest above xs p.1 p.2 e) in
      let inside = rw (append_assoc (flat members) (flat rest) xs) at h.1 in
      record {
        first = rw n at h.0;
        inside = inside;
        behind = stands_behind (flat members) (flat rest ++ xs) (i + 1) inside;
      }
