-- Laws of the table of plain codes: the rule of the right one, by a test that is computed over all of its places; and
-- what is found in the dictionary that a table stands for.
use mathlib.Core.Path.{◌≡◌, refl, sym, ap, ◌∙◌}
use mathlib.Core.List.{List, [], ◌∷◌, ◌++◌}
use mathlib.Core.Bool.{Bool, true, false, cond, ◌&&◌}
use mathlib.Core.Logic.{⊎_elim}
use Prim.Native.Nat.{ℕ, zero, suc, ◌+◌, ◌-◌, ◌≤◌, ◌<◌}
use native.Mathlib.Nat.{add-zero, sub-zero, eq-or-lt_of_le}
use native.Mathlib.Omega.{arith}
use lib.Dec.{T, eqb, leb, eqb→eq}
use lib.ListN.{length, get_or}
use borrow.Author.Tests.{leb-true, leb-false, le-leb, eqb-true, eqb-false, ne_eqb}
use Rattle.rules.specs.declared.Form.{Form}
use Rattle.rules.specs.declared.Entry.{Entry}
use Rattle.rules.specs.Dictionary.{find, dictionary, Definition, Known, Unknown}
use Rattle.std.proofs.lemmas.List.{get_or_past, get_or_default}
use Rattle.rules.specs.Header.{vendor_3gpp}
use Rattle.rules.proofs.Names.{both_hold}
use Rattle.dictionary.specs.Entries.{entry_of, least_nt_code, nt_codes, definition_at}
use Rattle.dictionary.specs.Table.{plain_codes, no_entry, plain_entry, IsTable, IsNtTable, entry_by, cons_defined, plain_from, with_vendor, dictionary_by}
use Rattle.dictionary.proofs.Entries.{found_is, few_entries, none_of, none_found, definition_behind}

-- ---- the rule

-- a test passes at each place of a list, counted from i
abbrev every : (ℕ → ℕ → Bool) → ℕ → List ℕ → Bool
every test i [] = true
every test i (x ∷ xs) = test i x && every test (suc i) xs

every_from : (test : ℕ → ℕ → Bool) (xs : List ℕ) (i : ℕ) → T (every test i xs) → (k d : ℕ) → k < length xs
    → T (test (i + k) (get_or xs k d))
every_from test [] i t k d h = absurd (omega arith)
every_from test (x ∷ xs) i t zero d h = rw (add-zero i) (both_hold (test i x) (every test (suc i) xs) t).0
every_from test (x ∷ xs) i t (suc k) d h =
    let e : suc i + k ≡ i + suc k = omega arith in
    rw (← e) (every_from test xs (suc i) (both_hold (test i x) (every test (suc i) xs) t).1 k d (omega arith))

-- a table of the codes of a vendor from `least` on
module _ (vendor least : ℕ) (table : List ℕ) where
  -- the number at a code's place is what the search finds
  abbrev is_found : ℕ → ℕ → Bool
  is_found place n = eqb n (entry_of dictionary vendor (least + place))

  -- an entry of the vendor that has no place in the table
  abbrev is_beyond : Entry → Bool
  is_beyond e = leb (least + length table) e.code && eqb vendor e.vendor

  -- the test of a whole table
  abbrev pub fits : Bool
  fits = every is_found 0 table && none_of is_beyond dictionary

  not_wanted : (code : ℕ) → least + length table ≤ code → (e : Entry) (b : Bool) → eqb code e.code ≡ b → is_beyond e ≡ false
      → (b && eqb vendor e.vendor) ≡ false
  not_wanted code far e false h f = refl
  not_wanted code far e true h f =
      let same = eqb-true code e.code h in
      let there : leb (least + length table) e.code ≡ true = le-leb (least + length table) e.code (omega arith) in
      rw there at f

  -- at each place it finds what stands there, and behind the last nothing
  finds_at : T fits → (code : ℕ) (far : Bool) → leb (least + length table) code ≡ far → least ≤ code
      → get_or table (code - least) no_entry ≡ entry_of dictionary vendor code
  finds_at t code true h l =
      let far = leb-true (least + length table) code h in
      get_or_past table (code - least) no_entry (omega arith)
      ∙ sym (none_found is_beyond (λ e. eqb code e.code && eqb vendor e.vendor)
      (λ e. not_wanted code far e (eqb code e.code) refl) dictionary (both_hold (every is_found 0 table) _ t).1)
  finds_at t code false h l =
      let near = leb-false (least + length table) code h in
      let place : least + (0 + (code - least)) ≡ code = omega arith in
      let here = every_from is_found table 0 (both_hold _ (none_of is_beyond dictionary) t).0 (code - least) no_entry (omega arith) in
      eqb→eq _ _ (rw place at here)

  pub table_finds_from : T fits → (code : ℕ) → least ≤ code → get_or table (code - least) no_entry ≡ entry_of dictionary vendor code
  table_finds_from t code = finds_at t code (leb (least + length table) code) refl

-- the rule of the table of plain codes
pub plain_entry_is : (table : List ℕ) → length table ≡ plain_codes → (code : ℕ) → get_or table code no_entry ≡ plain_entry table code
unfolding plain_entry
plain_entry_is table size code = by_place (leb plain_codes code) refl
  where
    by_place : (far : Bool) → leb plain_codes code ≡ far → get_or table code no_entry ≡ cond far no_entry (get_or table code 0)
    by_place true h = let far = leb-true plain_codes code h in get_or_past table code no_entry (omega (arith, size))
    by_place false h = let near = leb-false plain_codes code h in get_or_default table code no_entry 0 (omega (arith, size))

-- the test of it
abbrev pub is_plain : List ℕ → Bool
is_plain table = eqb (length table) plain_codes && fits 0 0 table

pub table_rule : (table : List ℕ) → T (is_plain table) → IsTable table
table_rule table t =
    let both = both_hold (eqb (length table) plain_codes) (fits 0 0 table) t in
    let size = eqb→eq (length table) plain_codes both.0 in
    record {
      size = size;
      finds = λ code.
          sym (plain_entry_is table size code) ∙ ap (λ (k : ℕ). get_or table k no_entry) (sym (sub-zero code))
          ∙ table_finds_from 0 0 table both.1 code (omega arith);
    }

-- that of the table of 3GPP's codes for Nt alone
-- the test of it
abbrev pub is_of_nt : List ℕ → Bool
is_of_nt table = eqb (length table) nt_codes && fits vendor_3gpp least_nt_code table

pub nt_rule : (table : List ℕ) → T (is_of_nt table) → IsNtTable table
nt_rule table t =
    let both = both_hold (eqb (length table) nt_codes) (fits vendor_3gpp least_nt_code table) t in
    let size = eqb→eq (length table) nt_codes both.0 in
    record {
      finds = λ code from to.
          get_or_default table (code - least_nt_code) 0 no_entry (omega (arith, size, from, to))
          ∙ table_finds_from vendor_3gpp least_nt_code table both.1 code from;
      finds_from = table_finds_from vendor_3gpp least_nt_code table both.1;
    }

found_at : (table : List ℕ) → IsTable table → (vendor code : ℕ) (plain : Bool) → eqb vendor 0 ≡ plain
    → entry_by table vendor code ≡ entry_of dictionary vendor code
unfolding entry_by
found_at table is vendor code true h = rw (h, eqb-true vendor 0 h) (is.finds code)
found_at table is vendor code false h = rw h

-- by the right table, every name is found as by a search
pub table_finds : (table : List ℕ) → IsTable table → (vendor code : ℕ) → entry_by table vendor code ≡ entry_of dictionary vendor code
table_finds table is vendor code = found_at table is vendor code (eqb vendor 0) refl

-- ---- the dictionary that a table stands for

cond_same : {A : Type 0} (b : Bool) (x : A) → x ≡ cond b x x
cond_same true x = refl
cond_same false x = refl

abbrev first_known : Definition → Definition → Definition
first_known (Known m form) d = Known m form
first_known Unknown d = d

first_alone : (d : Definition) → first_known d Unknown ≡ d
first_alone (Known m form) = refl
first_alone Unknown = refl

find_none : (vendor code : ℕ) → find [] vendor code ≡ Unknown
unfolding find
find_none vendor code = refl

cond-known : (b m : Bool) (form : Form) (d f : Definition)
    → cond b (Known m form) (first_known d f) ≡ first_known (cond b (Known m form) d) f
cond-known true m form d f = refl
cond-known false m form d f = refl

find-append : (xs ys : List Entry) (vendor code : ℕ) → find (xs ++ ys) vendor code ≡ first_known (find xs vendor code) (find ys vendor code)
unfolding find
find-append [] ys vendor code = refl
find-append (e ∷ xs) ys vendor code =
    let b = eqb vendor e.vendor && eqb code e.code in
    ap (cond b (Known e.m e.form)) (find-append xs ys vendor code)
    ∙ cond-known b e.m e.form (find xs vendor code) (find ys vendor code)

find_defined : (d : Definition) (k : ℕ) (es : List Entry) (vendor code : ℕ) → find (cons_defined k d es) vendor code
    ≡ cond (eqb vendor 0 && eqb code k) (first_known d (find es vendor code)) (find es vendor code)
unfolding find
find_defined (Known m form) k es vendor code = refl
find_defined Unknown k es vendor code = cond_same (eqb vendor 0 && eqb code k) (find es vendor code)

-- a name that is none of the n codes from one on
plain_none : (table : List ℕ) (n from vendor code : ℕ) → ((k : ℕ) → from ≤ k → k < from + n → (eqb vendor 0 && eqb code k) ≡ false)
    → find (plain_from table n from) vendor code ≡ Unknown
unfolding plain_from
plain_none table zero from vendor code apart = find_none vendor code
plain_none table (suc n) from vendor code apart =
    find_defined (definition_at dictionary (get_or table from 0)) from (plain_from table n (suc from)) vendor code
    ∙ (rw (apart from (omega arith) (omega arith)) (plain_none table n (suc from) vendor code (λ k h g. apart k (omega arith) (omega arith))))

-- one of them
plain_step : (table : List ℕ) (n from code : ℕ) (here : Bool) → eqb code from ≡ here → from ≤ code
    → (suc from ≤ code → find (plain_from table n (suc from)) 0 code ≡ definition_at dictionary (get_or table code 0))
    → find (plain_from table (suc n) from) 0 code ≡ definition_at dictionary (get_or table code 0)
unfolding plain_from
plain_step table n from code true h l on =
    let same = eqb-true code from h in
    let d = definition_at dictionary (get_or table from 0) in
    let rest = plain_none table n (suc from) 0 code (λ k g f. ne_eqb code k (λ e. absurd (omega arith))) in
    find_defined d from (plain_from table n (suc from)) 0 code
    ∙ (rw (h, rest) (first_alone d ∙ ap (λ (k : ℕ). definition_at dictionary (get_or table k 0)) (sym same)))
plain_step table n from code false h l on =
    let differs = eqb-false code from h in
    find_defined (definition_at dictionary (get_or table from 0)) from (plain_from table n (suc from)) 0 code
    ∙ (rw h (on (⊎_elim (λ g. absurd (differs (sym g))) (λ g. g) (eq-or-lt_of_le l))))

plain_one : (table : List ℕ) (n from code : ℕ) → from ≤ code → code < from + n
    → find (plain_from table n from) 0 code ≡ definition_at dictionary (get_or table code 0)
plain_one table zero from code l h = absurd (omega arith)
plain_one table (suc n) from code l h =
    plain_step table n from code (eqb code from) refl l (λ g. plain_one table n (suc from) code g (omega arith))

-- the entries with a vendor
vendor_step : (e : Entry) (es : List Entry) (vendor code : ℕ) (dropped plain : Bool) → eqb e.vendor 0 ≡ dropped
    → eqb vendor 0 ≡ plain → find (with_vendor es) vendor code ≡ cond plain Unknown (find es vendor code)
    → find (with_vendor (e ∷ es)) vendor code ≡ cond plain Unknown (find (e ∷ es) vendor code)
unfolding find
vendor_step e es vendor code true true d p on = rw d on
vendor_step e es vendor code true false d p on =
    let own = eqb-true e.vendor 0 d in
    let other = eqb-false vendor 0 p in
    let apart : eqb vendor e.vendor ≡ false = ne_eqb vendor e.vendor (λ s. other (s ∙ own)) in
    rw (d, apart) on
vendor_step e es vendor code false true d p on =
    let own = eqb-false e.vendor 0 d in
    let none = eqb-true vendor 0 p in
    let apart : eqb vendor e.vendor ≡ false = ne_eqb vendor e.vendor (λ s. own (sym s ∙ none)) in
    rw (d, apart) on
vendor_step e es vendor code false false d p on =
    rw d (ap (cond (eqb vendor e.vendor && eqb code e.code) (Known e.m e.form)) on)

find_with_vendor : (es : List Entry) (vendor code : ℕ) (plain : Bool) → eqb vendor 0 ≡ plain
    → find (with_vendor es) vendor code ≡ cond plain Unknown (find es vendor code)
unfolding find
find_with_vendor [] vendor code plain p = cond_same plain Unknown
find_with_vendor (e ∷ es) vendor code plain p =
    vendor_step e es vendor code (eqb e.vendor 0) plain refl p (find_with_vendor es vendor code plain p)

-- a code without vendor
found_plain : (table : List ℕ) (code : ℕ) (far : Bool) → leb plain_codes code ≡ far
    → find (plain_from table plain_codes 0) 0 code ≡ definition_at dictionary (plain_entry table code)
unfolding plain_entry
found_plain table code true h =
    let l = leb-true plain_codes code h in
    plain_none table plain_codes 0 0 code (λ k f g. ne_eqb code k (λ e. absurd (omega arith)))
    ∙ (rw h (sym (definition_behind dictionary)))
found_plain table code false h =
    let l = leb-false plain_codes code h in
    plain_one table plain_codes 0 code (omega arith) (omega arith) ∙ (rw h)

found_by : (table : List ℕ) (vendor code : ℕ) (plain : Bool) → eqb vendor 0 ≡ plain
    → find (dictionary_by table) vendor code ≡ definition_at dictionary (entry_by table vendor code)
unfolding entry_by dictionary_by
found_by table vendor code true p =
    let zero-vendor = eqb-true vendor 0 p in
    find-append (plain_from table plain_codes 0) (with_vendor dictionary) vendor code
    ∙ ap (first_known (find (plain_from table plain_codes 0) vendor code)) (find_with_vendor dictionary vendor code true p)
    ∙ first_alone (find (plain_from table plain_codes 0) vendor code)
    ∙ (rw (p, zero-vendor) (found_plain table code (leb plain_codes code) refl))
found_by table vendor code false p =
    let none = plain_none table plain_codes 0 vendor code (λ k f g. ap (λ (b : Bool). b && eqb code k) p) in
    find-append (plain_from table plain_codes 0) (with_vendor dictionary) vendor code
    ∙ (rw (none, find_with_vendor dictionary vendor code false p, p) (sym (found_is dictionary vendor code)))

-- what is found in it is what the entry says to which the table leads
pub by_table : (table : List ℕ) (vendor code : ℕ) → find (dictionary_by table) vendor code ≡ definition_at dictionary (entry_by table vendor code)
by_table table vendor code = found_by table vendor code (eqb vendor 0) refl

-- the dictionary of the right table says what document 01's says
pub table_same : (table : List ℕ) → IsTable table → (vendor code : ℕ) → find (dictionary_by table) vendor code ≡ find dictionary vendor code
table_same table is vendor code =
    by_table table vendor code ∙ ap (definition_at dictionary) (table_finds table is vendor code) ∙ found_is dictionary vendor code

-- the dictionary has 48 entries
pub entry_few : (vendor code : ℕ) → entry_of dictionary vendor code ≤ 48
unfolding dictionary
entry_few vendor code = few_entries dictionary vendor code
