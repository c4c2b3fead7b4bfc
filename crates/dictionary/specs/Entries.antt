-- The entries of a dictionary by their numbers (request [6]: what a table of numbers leads to). The number of an entry
-- is its position in the dictionary, from 0.
use Rattle.std.specs.Prelude.{ℕ, zero, suc, List, [], ◌∷◌, Bool, cond, ◌&&◌, eqb}
use Rattle.rules.specs.declared.Entry.{Entry}
use Rattle.rules.specs.Dictionary.{Definition, Known, Unknown}

-- the number of the first entry that passes a test; where none does, the number behind the last
unfoldable pub number_where : (Entry → Bool) → List Entry → ℕ
number_where test [] = 0
number_where test (e ∷ es) = cond (test e) 0 (suc (number_where test es))

-- the search of a dictionary: the number of the entry of a vendor and a code; it leads to what `find` says (`found_is`
-- in proofs/Entries)
abbrev pub entry_of : List Entry → ℕ → ℕ → ℕ
entry_of dict vendor code = number_where (λ e. eqb code e.code && eqb vendor e.vendor) dict

-- 3GPP's codes for Nt alone start here, and those of its AVPs that Nt re-uses are lower
abbrev pub least_nt_code : ℕ
least_nt_code = 4201

-- and there are so many, one after the other
abbrev pub nt_codes : ℕ
nt_codes = 9

-- what is said of the entry with a number, or else of none
abbrev pub said_at : {A : Type 0} → A → (Entry → A) → List Entry → ℕ → A
said_at none says [] n = none
said_at none says (e ∷ es) zero = says e
said_at none says (e ∷ es) (suc n) = said_at none says es n

-- what the dictionary says by an entry's number
unfoldable pub definition_at : List Entry → ℕ → Definition
definition_at = said_at Unknown (λ e. Known e.m e.form)

-- the vendor of an entry, 0 where there is none
unfoldable pub vendor_of : List Entry → ℕ → ℕ
vendor_of = said_at 0 (λ e. e.vendor)

-- its code, 0 where there is none
unfoldable pub code_of : List Entry → ℕ → ℕ
code_of = said_at 0 (λ e. e.code)
