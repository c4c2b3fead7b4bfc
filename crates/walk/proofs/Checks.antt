-- What the checks of an AVP hand back, by its frame and by checks 3 to 7 with the entry that a table leads to.
use mathlib.Core.Path.{◌≡◌, sym, ap, ◌∙◌}
use Rattle.std.specs.Prelude.{Err, Ok}
use mathlib.Core.Bool.{Bool, true, false, cond}
use mathlib.Core.List.{List}
use Prim.Native.Nat.{ℕ, ◌≤◌, ◌<◌}
use native.Mathlib.Omega.{arith}
use Rattle.rules.specs.declared.Avp.{Avp}
use Rattle.rules.specs.declared.Verdict.{Verdict}
use Rattle.rules.specs.Verdict.{Outcome, no_refusal}
use Rattle.rules.specs.Avp.{avp_at}
use Rattle.rules.specs.Dictionary.{find, dictionary, is_group, Definition}
use Rattle.rules.specs.Walk.{Standing, most_avps, framing, contents, settled, checked, Checked, Plain, Group}
use Rattle.dictionary.specs.Entries.{definition_at}
use Rattle.dictionary.specs.Table.{dictionary_by, entry_by}
use Rattle.dictionary.proofs.Table.{by_table}
use Rattle.walk.specs.Promise.{number_by, passed_of, frame_of}
use Rattle.walk.proofs.Framing.{held_checked}

module _ (entry : ℕ → ℕ → ℕ) where
  settled_err : (o : Outcome) (c : Checked) (v : Verdict) → Err v ≡ o → Err v ≡ passed_of entry (settled o c)
  settled_err (Ok u) c v e = let z : ◌≡◌ {A = ℕ} 0 1 = cc in absurd (omega arith)
  settled_err (Err u) c v e = cc

  settled_ok : (o : Outcome) (a : Avp) (n : ℕ) (g : Bool) → no_refusal ≡ o → n ≡ entry a.vendor a.code
      → Ok (record { avp = a; entry = n; is_group = g }) ≡ passed_of entry (settled o (cond g (Group a) (Plain a)))
  settled_ok (Ok u) a n true e q = cc
  settled_ok (Ok u) a n false e q = cc
  settled_ok (Err v) a n g e q = let z : ◌≡◌ {A = ℕ} 0 1 = cc in absurd (omega arith)

module _ (table s : List ℕ) (w : Standing) (few : w.count < most_avps) {a : Avp}
    (held : Ok a ≡ frame_of (framing s w.at w.end) (avp_at s w.at w.depth)) (n : ℕ) (leads : n ≡ entry_by table a.vendor a.code) where
  -- what the entry says of the name
  abbrev says : Definition
  says = definition_at dictionary n

  checked_here : checked (dictionary_by table) s w ≡ settled (contents s w.at a says) (cond (is_group says) (Group a) (Plain a))
  checked_here =
      let found : find (dictionary_by table) a.vendor a.code ≡ says =
      by_table table a.vendor a.code ∙ ap (definition_at dictionary) (sym leads) in
      held_checked s w (dictionary_by table) few held ∙ rw found

  pub content_refused : {v : Verdict} → Err v ≡ contents s w.at a says → Err v ≡ passed_of (number_by table) (checked (dictionary_by table) s w)
  content_refused {v} e =
      settled_err (number_by table) (contents s w.at a says) (cond (is_group says) (Group a) (Plain a)) v e
      ∙ ap (passed_of (number_by table)) (sym checked_here)

  pub content_passed : no_refusal ≡ contents s w.at a says → n ≤ 255 → (g : Bool) → g ≡ is_group says
      → Ok (record { avp = a; entry = n; is_group = g }) ≡ passed_of (number_by table) (checked (dictionary_by table) s w)
  content_passed e few g q =
      rw q
      (settled_ok (number_by table) (contents s w.at a says) a n (is_group says) e (omega (arith, leads))
      ∙ ap (passed_of (number_by table)) (sym checked_here))
