-- Request [6]: a table of plain codes, AVP codes without vendor from 0 to 650, which leads each to the number of its
-- entry. What a table says is defined for whatever numbers it holds; `IsTable` is the rule of the right one, and
-- `IsNtTable` that of the table of 3GPP's codes for Nt alone, which no caller lends.
use Rattle.std.specs.Prelude.{◌≡◌, ℕ, zero, suc, ◌+◌, ◌-◌, ◌≤◌, ◌<◌, List, [], ◌∷◌, ◌++◌, cond, eqb, leb, length, get_or}
use Rattle.rules.specs.Header.{vendor_3gpp}
use Rattle.rules.specs.declared.Entry.{Entry}
use Rattle.rules.specs.Dictionary.{dictionary, Definition, Known, Unknown}
use Rattle.dictionary.specs.Entries.{entry_of, least_nt_code, nt_codes, definition_at}

-- the codes that a table has places for
abbrev pub plain_codes : ℕ
plain_codes = 651

-- the number of a name that has no entry
abbrev pub no_entry : ℕ
no_entry = length dictionary

-- what a table leads a code without vendor to
unfoldable pub plain_entry : List ℕ → ℕ → ℕ
plain_entry table code = cond (leb plain_codes code) no_entry (get_or table code 0)

-- the rule: the table has these places, and for every code it finds what a search of the dictionary finds
pub record IsTable (table : List ℕ) : Type 0 where
  pub size : length table ≡ plain_codes
  pub finds : (code : ℕ) → plain_entry table code ≡ entry_of dictionary 0 code

-- the entry of a name by a table: a name without vendor through the table, others by the search
unfoldable pub entry_by : List ℕ → ℕ → ℕ → ℕ
entry_by table vendor code = cond (eqb vendor 0) (plain_entry table code) (entry_of dictionary vendor code)

-- the rule of the table of 3GPP's codes for Nt alone; behind its last place the search finds nothing
pub record IsNtTable (table : List ℕ) : Type 0 where
  pub finds : (code : ℕ) → least_nt_code ≤ code → code < least_nt_code + nt_codes
      → get_or table (code - least_nt_code) 0 ≡ entry_of dictionary vendor_3gpp code
  pub finds_from : (code : ℕ) → least_nt_code ≤ code
      → get_or table (code - least_nt_code) no_entry ≡ entry_of dictionary vendor_3gpp code

-- ---- the dictionary that a table stands for; the right one stands for document 01's

-- a code without vendor that is defined, before other entries
abbrev pub cons_defined : ℕ → Definition → List Entry → List Entry
cons_defined code (Known m form) es = record { vendor = 0; code = code; m = m; form = form } ∷ es
cons_defined code Unknown es = es

-- the next n codes from one on, each as the entry says to which the table leads
unfoldable pub plain_from : List ℕ → ℕ → ℕ → List Entry
plain_from table zero code = []
plain_from table (suc n) code = cons_defined code (definition_at dictionary (get_or table code 0)) (plain_from table n (suc code))

-- the entries that have a vendor
abbrev pub with_vendor : List Entry → List Entry
with_vendor [] = []
with_vendor (e ∷ es) = cond (eqb e.vendor 0) (with_vendor es) (e ∷ with_vendor es)

-- plain codes by the table, and document 01's entries with a vendor
unfoldable pub dictionary_by : List ℕ → List Entry
dictionary_by table = plain_from table plain_codes 0 ++ with_vendor dictionary
