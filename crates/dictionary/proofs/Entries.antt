-- Laws of a dictionary's entries by their numbers: what is said of the entry with a number, that the search by number says
-- what the search by name says, and which searches find none.
use mathlib.Core.Path.{◌≡◌, refl, sym, ap, ◌∙◌}
use denote.Ref.{Bor}
use Rattle.std.proofs.Common.{rules, Option, Some, None}
use Rattle.std.proofs.lemmas.Option.{slice_get_past, slice_get_read}
use Rattle.std.specs.List.{slice_get}
use Rattle.std.specs.Option.{option_copied}
use Rattle.std.specs.Slice.{IsItemAt}
use mathlib.Core.List.{List, [], ◌∷◌}
use mathlib.Core.Bool.{Bool, true, false, cond, not, ◌&&◌}
use Prim.Native.Nat.{ℕ, zero, suc, ◌+◌, ◌≤◌}
use native.Mathlib.Nat.{add-zero, zero-add}
use native.Mathlib.Omega.{arith}
use Rattle.std.proofs.Math.Bool.{and_comm}
use lib.Dec.{T, eqb}
use lib.ListN.{length}
use borrow.Author.Tests.{eqb-true, ne_eqb}
use Rattle.rules.specs.declared.Form.{Form}
use Rattle.rules.specs.declared.Form.TheVariants.{Any, Fixed, Group}
use Rattle.rules.specs.declared.Entry.{Entry}
use Rattle.rules.specs.Dictionary.{find, fits_form, fits_width, width_of, fixed_width, Definition, Known, Unknown}
use Rattle.rules.proofs.Names.{Absent, cons_if, both_hold, among, absent_differs}
use Rattle.dictionary.specs.Entries.{number_where, entry_of, said_at, definition_at}

-- ---- an entry by its number

-- what `get` and `copied` give
pub copied_is : {X : Type 0} (xs : List X) (i : ℕ) (r : Option (Bor X)) → IsItemAt xs i r → option_copied r ≡ slice_get xs i
copied_is xs i None is = sym (slice_get_past xs i is.3)
copied_is xs i (Some x) is = sym (slice_get_read xs (length xs) i x.now refl is.3.0 is.1)

-- what is said of an entry that is there, and of none
pub said_some : {A : Type 0} (none : A) (says : Entry → A) (es : List Entry) (n : ℕ) {e : Entry} → slice_get es n ≡ Some e
    → said_at none says es n ≡ says e
said_some none says [] n h = absurd (search rules)
said_some none says (e ∷ es) zero h = search rules
said_some none says (e ∷ es) (suc n) h = said_some none says es n h

pub said_none : {A : Type 0} (none : A) (says : Entry → A) (es : List Entry) (n : ℕ) → slice_get es n ≡ None
    → said_at none says es n ≡ none
said_none none says [] n h = refl
said_none none says (e ∷ es) zero h = absurd (search rules)
said_none none says (e ∷ es) (suc n) h = said_none none says es n h

pub ruleset said = (said_some, said_none)

-- of a number behind the last entry
pub said_behind : {A : Type 0} (none : A) (says : Entry → A) (es : List Entry) (n : ℕ) → length es ≤ n → said_at none says es n ≡ none
said_behind none says es n h = said_none none says es n (slice_get_past es n h)

pub definition_behind : (es : List Entry) → definition_at es (length es) ≡ Unknown
unfolding definition_at
definition_behind es = said_behind Unknown (λ e. Known e.m e.form) es (length es) (omega arith)

-- ---- the entry that a search finds

-- what is said of the first entry that passes a test
said_where : {A : Type 0} (none : A) (says : Entry → A) (test : Entry → Bool) (e : Entry) (es : List Entry) (b : Bool) → test e ≡ b
    → said_at none says (e ∷ es) (number_where test (e ∷ es)) ≡ cond b (says e) (said_at none says es (number_where test es))
unfolding number_where
said_where none says test e es true h = rw h
said_where none says test e es false h = rw h

-- the search by number leads to what the search by name says
pub found_is : (es : List Entry) (vendor code : ℕ) → definition_at es (entry_of es vendor code) ≡ find es vendor code
unfolding find definition_at number_where
found_is [] vendor code = refl
found_is (e ∷ es) vendor code =
    let b = eqb code e.code && eqb vendor e.vendor in
    said_where Unknown (λ e. Known e.m e.form) (λ e. eqb code e.code && eqb vendor e.vendor) e es b refl
    ∙ ap (cond b (Known e.m e.form)) (found_is es vendor code)
    ∙ ap (λ (t : Bool). cond t (Known e.m e.form) (find es vendor code)) (and_comm (eqb code e.code) (eqb vendor e.vendor))

-- ---- a number behind the last entry

-- a search gives no number behind that
few_where : (test : Entry → Bool) (es : List Entry) → number_where test es ≤ length es
unfolding number_where
few_where test [] = omega arith
few_where test (e ∷ es) = cond-few (test e) (number_where test es) (length es) (few_where test es)
  where
    cond-few : (b : Bool) (m n : ℕ) → m ≤ n → cond b 0 (suc m) ≤ suc n
    cond-few true m n h = omega arith
    cond-few false m n h = omega arith

pub few_entries : (es : List Entry) (vendor code : ℕ) → entry_of es vendor code ≤ length es
few_entries es vendor code = few_where (λ e. eqb code e.code && eqb vendor e.vendor) es

-- ---- a search that finds none

-- no entry passes the test
abbrev pub none_of : (Entry → Bool) → List Entry → Bool
none_of test [] = true
none_of test (e ∷ es) = not (test e) && none_of test es

fails : (b : Bool) → T (not b) → b ≡ false
fails true t = absurd t
fails false t = refl

-- a search that wants no less than the test
pub none_found : (test wanted : Entry → Bool) → ((e : Entry) → test e ≡ false → wanted e ≡ false) → (es : List Entry)
    → T (none_of test es) → number_where wanted es ≡ length es
unfolding number_where
none_found test wanted less [] t = refl
none_found test wanted less (e ∷ es) t =
    let b = both_hold (not (test e)) (none_of test es) t in
    rw (less e (fails (test e) b.0)) (ap suc (none_found test wanted less es b.1))

-- ---- a vendor that no entry has

abbrev pub vendors_among : List Entry → List ℕ → Bool
vendors_among [] vendors = true
vendors_among (e ∷ es) vendors = among e.vendor vendors && vendors_among es vendors

no_vendor : (es : List Entry) (vendors : List ℕ) (vendor : ℕ) → T (vendors_among es vendors) → Absent vendors vendor
    → T (none_of (λ e. eqb vendor e.vendor) es)
no_vendor [] vendors vendor t h = tt
no_vendor (e ∷ es) vendors vendor t h =
    let b = both_hold (among e.vendor vendors) (vendors_among es vendors) t in
    rw (ne_eqb vendor e.vendor (absent_differs vendors vendor e.vendor b.0 h)) (no_vendor es vendors vendor b.1 h)

pub absent_vendor : (es : List Entry) (vendors : List ℕ) (vendor code : ℕ) → T (vendors_among es vendors) → Absent vendors vendor
    → entry_of es vendor code ≡ length es
absent_vendor es vendors vendor code t h =
    none_found (λ e. eqb vendor e.vendor) (λ e. eqb code e.code && eqb vendor e.vendor)
    (λ e f. and_comm (eqb code e.code) (eqb vendor e.vendor) ∙ ap (λ (b : Bool). b && eqb code e.code) f)
    es (no_vendor es vendors vendor t h)

-- ---- the arm `_`: what the entries that the other arms have are not

-- the numbers, from i on, of the entries that pass a test, before others; the last first
abbrev pub numbers_from : (Entry → Bool) → ℕ → List Entry → List ℕ → List ℕ
numbers_from test i [] others = others
numbers_from test i (e ∷ es) others = numbers_from test (suc i) es (cons_if (test e) i others)

absent_less : (b : Bool) (k n : ℕ) (others : List ℕ) → Absent (cons_if b k others) n → Absent others n
absent_less true k n others h = h.0
absent_less false k n others h = h

absent_others : (test : Entry → Bool) (es : List Entry) (i n : ℕ) (others : List ℕ) → Absent (numbers_from test i es others) n
    → Absent others n
absent_others test [] i n others h = h
absent_others test (e ∷ es) i n others h =
    absent_less (test e) i n others (absent_others test es (suc i) n (cons_if (test e) i others) h)

-- what holds where there is no entry, and of each entry that fails the test, holds where no entry that passes it stands
module _ {A : Type 0} (none : A) (says : Entry → A) (P : A → Type 0) (test : Entry → Bool) (without : P none)
    (other : (e : Entry) → test e ≡ false → P (says e)) where
  one_number : (e : Entry) (b : Bool) (i : ℕ) (others : List ℕ) → test e ≡ b → Absent (cons_if b i others) i → P (says e)
  one_number e true i others h a = absurd (a.1 refl)
  one_number e false i others h a = other e h

  numbers_from_lem : (es : List Entry) (i k : ℕ) (others : List ℕ) → Absent (numbers_from test i es others) (i + k)
      → P (said_at none says es k)
  numbers_from_lem [] i k others a = without
  numbers_from_lem (e ∷ es) i zero others a =
      one_number e (test e) i others refl
      (absent_others test es (suc i) i (cons_if (test e) i others) (rw (add-zero i) at a))
  numbers_from_lem (e ∷ es) i (suc k) others a =
      let n : i + suc k ≡ suc i + k = omega arith in
      numbers_from_lem es (suc i) k (cons_if (test e) i others) (rw n at a)

  other_number : (es : List Entry) (n : ℕ) → Absent (numbers_from test 0 es []) n → P (said_at none says es n)
  other_number es n a = numbers_from_lem es 0 n [] (rw (← zero-add n) at a)

-- the definitions of the entries that fail a test, where a `match` has those that pass it
pub other_definition : (P : Definition → Type 0) (test : Entry → Bool) → P Unknown
    → ((e : Entry) → test e ≡ false → P (Known e.m e.form)) → (es : List Entry) (n : ℕ)
    → Absent (numbers_from test 0 es []) n → P (definition_at es n)
unfolding definition_at
other_definition P test = other_number Unknown (λ e. Known e.m e.form) P test

-- a `match` that has every entry
pub other_entry : {A : Type 0} (none : A) (says : Entry → A) (es : List Entry) (n : ℕ)
    → Absent (numbers_from (λ e. true) 0 es []) n → none ≡ said_at none says es n
other_entry none says =
    other_number none says (λ s. none ≡ s) (λ e. true) refl
    (λ e h. let z : ◌≡◌ {A = ℕ} 0 1 = cc in absurd (omega arith))

-- the codes of the entries that pass a test, before others; the last first
abbrev pub codes_where : (Entry → Bool) → List Entry → List ℕ → List ℕ
codes_where test [] others = others
codes_where test (e ∷ es) others = codes_where test es (cons_if (test e) e.code others)

-- a code of a vendor's that no entry has, where a `match` has the vendor's codes of one part
abbrev pub is_in_part : ℕ → (ℕ → Bool) → Entry → Bool
is_in_part vendor in_part e = in_part e.code && eqb vendor e.vendor

one_lacking : (b : Bool) (code k : ℕ) (others : List ℕ) → Absent (cons_if b k others) code
    → ((b && eqb code k) ≡ false) × Absent others code
one_lacking true code k others a = (ne_eqb code k a.1, a.0)
one_lacking false code k others a = (refl, a)

codes_lacking : (test : Entry → Bool) (es : List Entry) (code : ℕ) (others : List ℕ)
    → Absent (codes_where test es others) code → T (none_of (λ e. test e && eqb code e.code) es) × Absent others code
codes_lacking test [] code others a = (tt, a)
codes_lacking test (e ∷ es) code others a =
    let r = codes_lacking test es code (cons_if (test e) e.code others) a in
    let one = one_lacking (test e) code e.code others r.1 in
    (rw one.0 r.0, one.1)

not_in_part : (in_part : ℕ → Bool) (code k : ℕ) (own same : Bool) → in_part code ≡ true → eqb code k ≡ same
    → ((in_part k && own) && same) ≡ false → (same && own) ≡ false
not_in_part in_part code k own false h s f = refl
not_in_part in_part code k own true h s f = sym (and_comm own true) ∙ (rw (← eqb-true code k s, h) at f)

pub absent_code : (in_part : ℕ → Bool) (es : List Entry) (vendor code : ℕ) → in_part code ≡ true
    → Absent (codes_where (is_in_part vendor in_part) es []) code → entry_of es vendor code ≡ length es
absent_code in_part es vendor code h a =
    none_found (λ e. is_in_part vendor in_part e && eqb code e.code) (λ e. eqb code e.code && eqb vendor e.vendor)
    (λ e f. not_in_part in_part code e.code (eqb vendor e.vendor) (eqb code e.code) h refl f) es
    (codes_lacking (is_in_part vendor in_part) es code [] a).0

-- ---- widths

-- a form of no octets, which its width would not tell from any length
abbrev is_empty : Form → Bool
is_empty Any = false
is_empty (Fixed w) = eqb w 0
is_empty (Group g) = false

form_fits : (form : Form) (length : ℕ) → T (not (is_empty form)) → width_of form ≡ 0 → fits_form form length ≡ true
form_fits Any length t h = refl
form_fits (Fixed w) length t h = absurd (rw h at t)
form_fits (Group g) length t h = refl

-- where no entry has it, a width of 0 says that any length passes
pub any_fits : (es : List Entry) → T (none_of (λ e. is_empty e.form) es) → (n length : ℕ) → fixed_width (definition_at es n) ≡ 0
    → fits_width (definition_at es n) length ≡ true
unfolding definition_at
any_fits [] t n length h = refl
any_fits (e ∷ es) t zero length h = form_fits e.form length (both_hold (not (is_empty e.form)) (none_of (λ f. is_empty f.form) es) t).0 h
any_fits (e ∷ es) t (suc n) length h =
    any_fits es (both_hold (not (is_empty e.form)) (none_of (λ f. is_empty f.form) es) t).1 n length h
