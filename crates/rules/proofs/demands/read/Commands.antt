-- An accepted command: its header's fields, and the items that its list is made of.
use mathlib.Core.Path.{◌≡◌, sym, ap, ◌∙◌}
use Rattle.rules.specs.Verdict.{no_refusal}
use mathlib.Core.List.{List, [], ◌++◌, map, append-nil}
use Prim.Native.Nat.{ℕ, ◌+◌, ◌≤◌}
use native.Mathlib.Omega.{arith}
use lib.ListN.{length, drop}
use lib.Seq.{drop-length}
use Rattle.rules.specs.Octets.{AreOctets}
use Rattle.rules.specs.Dictionary.{dictionary}
use Rattle.rules.specs.Walk.{whole, avps_of}
use Rattle.rules.specs.Command.{walk_of, lists_outcome, command_outcome}
use Rattle.rules.specs.Meaning.{cell_of}
use Rattle.rules.proofs.Header.{Headed, headed}
use Rattle.rules.proofs.Commands.{passed_command}
use Rattle.rules.proofs.demands.items.Items.{Item, cell_in, octets_of, avps_at, Listed, judged}
use Rattle.rules.proofs.demands.items.Sequences.{length-avps}
use Rattle.rules.proofs.demands.written.Cells.{cells_of, within}
use Rattle.rules.proofs.demands.written.Read.{full}
use Rattle.rules.proofs.demands.read.Soundness.{sound}

pub record AcceptedItems (c : List ℕ) : Type 0 where
  pub header : Headed c
  pub items : List Item
  pub listed : Listed dictionary 1 items
  pub tail : drop 20 c ≡ octets_of items
  pub long : length c ≡ 20 + length (octets_of items)
  pub walk_is : walk_of c ≡ whole (avps_at 20 items)
  pub judged_is : judged dictionary c 0 20 items ≡ whole (avps_at 20 items)
  pub few : length items ≤ 256
  pub lists : lists_outcome c (avps_at 20 items) ≡ no_refusal

pub accepted_items : (c : List ℕ) → AreOctets c → command_outcome c ≡ no_refusal → AcceptedItems c
unfolding walk_of
accepted_items c oct e =
    let w = passed_command c e in
    let h = headed c w.header in
    let enough = h.enough in
    let f =
    sound dictionary c (length c) oct 20 (length c) 1 0 w.avps (omega arith) (omega arith) enough (omega arith)
    (omega arith) w.walk in
    let tail : drop 20 c ≡ octets_of f.items = f.octets ∙ rw (drop-length c, append-nil) in
    let long = f.long in
    let rest : drop 20 c ≡ octets_of f.items ++ [] = tail ∙ sym (append-nil (octets_of f.items)) in
    let j =
    sym (full (length c) dictionary f.items c [] 20 (length c) 1 0 f.listed rest long (omega arith))
    ∙ w.walk ∙ ap whole f.avps in
    record {
      header = h;
      items = f.items;
      listed = f.listed;
      tail = tail;
      long = long;
      judged_is = j;
      few = omega (arith, (within dictionary c f.items 0 20 (avps_at 20 f.items) (omega arith) j).few);
      walk_is = w.walk ∙ ap whole f.avps;
      lists = ap (lists_outcome c) (sym f.avps) ∙ w.lists;
    }

-- ---- its meaning

module _ (c : List ℕ) (k : AcceptedItems c) where
  pub avps_are : avps_of (walk_of c) ≡ avps_at 20 k.items
  avps_are = ap avps_of k.walk_is

  pub cells_are : map (cell_of dictionary c) (avps_of (walk_of c)) ≡ map cell_in k.items
  cells_are =
      ap (map (cell_of dictionary c)) avps_are
      ∙ cells_of dictionary c k.items [] 20 k.listed.fit (k.tail ∙ sym (append-nil (octets_of k.items)))

  pub count_is : length (avps_of (walk_of c)) ≡ length k.items
  count_is = ap length avps_are ∙ length-avps 20 k.items
