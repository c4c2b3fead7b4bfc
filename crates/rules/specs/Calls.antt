-- 01, The record and the writer: lists of write calls. Each call gets the part of the output behind the octets written
-- so far, as the call before left it. What a call answers and leaves is what the writer's contract cites. A draft
-- stands with its octets as they are at its call; none of them lie in the part that its call gets, so the call leaves
-- them as they are.
use Rattle.std.specs.Prelude.{◌≡◌, ℕ, ◌+◌, List, [], ◌∷◌, ◌++◌, cond, take, drop}
use Rattle.rules.specs.Verdict.{is_accepted}
use Rattle.rules.specs.Draft.{Draft, draft_meaning}
use Rattle.rules.specs.Writer.{writing, output_after}

-- what a call wrote: of its output as it stands afterwards, as much as its answer says
abbrev pub front : Draft → List ℕ → List ℕ
front d out = take (writing d out).length (output_after d out)

-- what it leaves to the next call
abbrev pub rest : Draft → List ℕ → List ℕ
rest d out = drop (writing d out).length (output_after d out)

-- the octets that the calls have written, end to end
unfoldable pub all_written : List Draft → List ℕ → List ℕ
all_written [] out = []
all_written (d ∷ ds) out = front d out ++ all_written ds (rest d out)

-- the whole output after the calls
unfoldable pub output_after_all : List Draft → List ℕ → List ℕ
output_after_all [] out = out
output_after_all (d ∷ ds) out = front d out ++ output_after_all ds (rest d out)

-- the written lengths that came back, together
unfoldable pub told_length : List Draft → List ℕ → ℕ
told_length [] out = 0
told_length (d ∷ ds) out = (writing d out).length + told_length ds (rest d out)

-- a draft, where its call was accepted
abbrev pub if_accepted : Draft → List ℕ → List Draft
if_accepted d out = cond (is_accepted (writing d out).verdict) (d ∷ []) []

-- the accepted drafts, in order
unfoldable pub accepted_drafts : List Draft → List ℕ → List Draft
accepted_drafts [] out = []
accepted_drafts (d ∷ ds) out = if_accepted d out ++ accepted_drafts ds (rest d out)

-- equally many in both lists, and taken in order of the same meaning
abbrev pub SameInOrder : List Draft → List Draft → Type 0
SameInOrder [] [] = Unit {0}
SameInOrder [] (e ∷ es) = ⊥
SameInOrder (d ∷ ds) [] = ⊥
SameInOrder (d ∷ ds) (e ∷ es) = (draft_meaning d ≡ draft_meaning e) × SameInOrder ds es
