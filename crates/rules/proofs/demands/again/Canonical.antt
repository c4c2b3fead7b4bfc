-- The octets that the writer gives to the meaning of an accepted command: as long as the command, and accepted again
-- with the same meaning.
use mathlib.Core.Path.{◌≡◌, refl, sym, ap, ◌∙◌}
use Rattle.rules.specs.Verdict.{no_refusal}
use mathlib.Core.List.{List, [], ◌∷◌, map}
use Prim.Native.Nat.{ℕ, ◌%◌}
use native.Mathlib.Omega.{arith}
use lib.ListN.{length, drop, length-map, length-replicate}
use Rattle.rules.specs.declared.Avp.{Avp}
use Rattle.rules.specs.declared.ExchangeRules.{ExchangeRules}
use Rattle.rules.specs.Octets.{AreOctets}
use Rattle.rules.specs.Header.{length_field, command_flags, is_request, is_proxiable, is_error, flags_outcome, header_outcome}
use Rattle.rules.specs.declared.Entry.{Entry}
use Rattle.rules.specs.Dictionary.{dictionary}
use Rattle.rules.specs.Walk.{whole, avps_of}
use Rattle.rules.specs.Exchange.{exchange_outcome}
use Rattle.rules.specs.Command.{rules_by, command_rules, walk_of, lists_outcome, command_outcome}
use Rattle.rules.specs.Meaning.{Cell, meaning_of, cell_of}
use Rattle.rules.specs.Wire.{list_octets, command_octets}
use Rattle.rules.proofs.Header.{length-pass, application_pass}
use Rattle.rules.proofs.demands.items.Items.{Item, cell_in, octets_of, avps_at, All, Fit, Listed, judged}
use Rattle.rules.proofs.demands.items.Trees.{size_of}
use Rattle.rules.proofs.demands.items.Lists.{tights, size_octets}
use Rattle.rules.proofs.demands.written.Headers.{command_long, command_list}
use Rattle.rules.proofs.demands.written.Writing.{zeroed, cells_zeroed, list_octets_lem, Writable, head_written, walk_written, meaning_written}
use Rattle.rules.proofs.demands.octets.Digits.{number_at_below}
use Rattle.rules.proofs.demands.read.Commands.{AcceptedItems, cells_are}
use Rattle.rules.proofs.demands.again.Contents.{four_4203, four_4205, four_4206}
use Rattle.rules.proofs.demands.again.Passes.{Passes, passes_of, judged_whole, avps_same, passes_again, numbers_again}
use Rattle.rules.proofs.demands.again.Exchanges.{exchange_same}

-- ---- items with padding of zeros

module _ (dict : List Entry) where
  fits_zeroed : (xs : List Item) → All (Fit dict) xs → All (Fit dict) (map zeroed (map cell_in xs))
  fits_zeroed [] f = tt
  fits_zeroed (x ∷ xs) f =
      let g = f.0 in (
        record {
          vendor_small = g.vendor_small;
          code_small = g.code_small;
          length-small = g.length-small;
          data_is = g.data_is;
          padding_is = length-replicate _ 0;
        },
        fits_zeroed xs f.1,
      )

  listed_zeroed : (d : ℕ) (xs : List Item) → Listed dict d xs → Listed dict d (map zeroed (map cell_in xs))
  listed_zeroed d xs l =
      let e = cells_zeroed (map cell_in xs) in
      record { fit = fits_zeroed xs l.fit; over = rw e l.over; tree = rw e l.tree; sizes = rw e l.sizes }

  long_zeroed : (d : ℕ) (xs : List Item) → Listed dict d xs
      → length (octets_of (map zeroed (map cell_in xs))) ≡ length (octets_of xs)
  long_zeroed d xs l =
      let z = listed_zeroed d xs l in
      size_octets dict (map zeroed (map cell_in xs)) z.fit (tights dict (map zeroed (map cell_in xs)) z.sizes)
      ∙ ap (size_of dict) (cells_zeroed (map cell_in xs)) ∙ sym (size_octets dict xs l.fit (tights dict xs l.sizes))

-- ---- the command again

-- the header's checks of the command flags read R, P and E
flags_same : (f g : ℕ) → is_request f ≡ is_request g → is_proxiable f ≡ is_proxiable g → is_error f ≡ is_error g
    → flags_outcome f ≡ flags_outcome g
unfolding flags_outcome
flags_same f g r p e = rw (r, p, e)

-- and the choice of what a command is judged by reads R and E
rules_same : (f g : ℕ) → is_request f ≡ is_request g → is_error f ≡ is_error g → rules_by f ≡ rules_by g
unfolding rules_by
rules_same f g r e = rw (r, e)

lists_same : (s t : List ℕ) (xs : List Avp) → length s ≡ length t → command_rules s ≡ command_rules t
    → ((rules : ExchangeRules) (end : ℕ) → exchange_outcome rules xs s end ≡ exchange_outcome rules xs t end)
    → lists_outcome s xs ≡ lists_outcome t xs
unfolding lists_outcome
lists_same s t xs l r e = rw (l, r, e (command_rules t).exchange (length t))

module _ (c : List ℕ) (oct : AreOctets c) (k : AcceptedItems c) where
  -- the octets that the writer gives
  abbrev again : List ℕ
  again = command_octets (meaning_of c)

  abbrev zeros : List Item
  zeros = map zeroed (map cell_in k.items)

  again_octets : list_octets (meaning_of c).cells ≡ octets_of zeros
  again_octets = ap list_octets (cells_are c k) ∙ list_octets_lem (map cell_in k.items)

  pub again_long : length again ≡ length c
  again_long =
      let l = long_zeroed dictionary 1 k.items k.listed in
      command_long (meaning_of c) ∙ rw again_octets (omega (arith, k.long))

  pub again_writable : Writable (meaning_of c)
  again_writable =
      let enough = k.header.enough in
      let within = k.header.within in
      let long = again_long in
      record {
        hop_small = number_at_below 4 c 12 oct (omega arith);
        end_small = number_at_below 4 c 16 oct (omega arith);
        count_is = sym (length-map (avps_of (walk_of c)) (cell_of dictionary c));
        listed = rw (cells_are c k) (listed_zeroed dictionary 1 k.items k.listed);
        long = omega arith;
      }

  again_tail : drop 20 again ≡ octets_of zeros
  again_tail = command_list (meaning_of c) ∙ again_octets

  passes : Passes dictionary c 20 k.items
  passes = passes_of dictionary c k.items 0 20 (avps_at 20 k.items) k.judged_is

  again_walk : walk_of again ≡ whole (avps_at 20 k.items)
  again_walk =
      let f = k.listed.fit in
      let g = fits_zeroed dictionary k.items f in
      let e = sym (cells_zeroed (map cell_in k.items)) in
      let n : length zeros ≡ length k.items =
      length-map (map cell_in k.items) zeroed ∙ length-map k.items cell_in in
      let few = k.few in
      walk_written (meaning_of c) again_writable
      ∙ ap (λ (l : List Cell). judged dictionary again 0 20 (map zeroed l)) (cells_are c k)
      ∙ judged_whole dictionary again zeros 0 20 (omega arith)
      (passes_again c again k.items zeros 20 f g e k.tail again_tail passes)
      ∙ ap whole (sym (avps_same dictionary k.items zeros 20 f g e))

  again_header : header_outcome again ≡ no_refusal
  unfolding header_outcome
  again_header =
      let h = head_written (meaning_of c) again_writable in
      let own = k.header in
      let long = again_long in
      let enough = own.enough in
      let within = own.within in
      let field = own.field_is in
      let field' = h.length-is in
      let q : length_field again ≡ length_field c = omega arith in
      let f : flags_outcome (command_flags again) ≡ no_refusal =
      flags_same (command_flags again) (command_flags c) h.flags_are.first h.flags_are.second
      h.flags_are.third ∙ own.flags_pass in
      rw (
        length-pass again (omega arith) h.version_is (omega arith) (ap (λ (n : ℕ). n % 4) q ∙ own.four) field'
            (omega arith),
        application_pass again h.application_is h.code_is,
        f,
      )

  again_lists : lists_outcome again (avps_at 20 k.items) ≡ no_refusal
  again_lists =
      let xs = avps_at 20 k.items in
      let f = k.listed.fit in
      let g = fits_zeroed dictionary k.items f in
      let e = sym (cells_zeroed (map cell_in k.items)) in
      let h = head_written (meaning_of c) again_writable in
      sym (lists_same c again xs (sym again_long)
      (rules_same (command_flags c) (command_flags again) (sym h.flags_are.first) (sym h.flags_are.third))
      (exchange_same xs c again
      (numbers_again c again 10415 4203 four_4203 refl k.items zeros 20 f g e k.tail again_tail passes)
      (numbers_again c again 10415 4205 four_4205 refl k.items zeros 20 f g e k.tail again_tail passes)
      (numbers_again c again 10415 4206 four_4206 refl k.items zeros 20 f g e k.tail again_tail passes)))
      ∙ k.lists

  pub again_accepted : command_outcome again ≡ no_refusal
  unfolding command_outcome
  again_accepted = rw (again_header, again_walk, again_lists)

  pub again_means : meaning_of again ≡ meaning_of c
  again_means = meaning_written (meaning_of c) again_writable (avps_at 20 k.items) again_walk
