-- 01, The record and the writer: the meaning of an accepted command, and of a record over octets.
use Rattle.std.specs.Prelude.{ℕ, List, [], map, Bool, cond, length, take, drop}
use Rattle.rules.specs.declared.Avp.{Avp}
use Rattle.rules.specs.declared.Record.{Record}
use Rattle.rules.specs.Header.{command_flags, is_request, is_proxiable, is_error, is_retransmitted, hop_by_hop, end_to_end}
use Rattle.rules.specs.declared.Entry.{Entry}
use Rattle.rules.specs.Dictionary.{dictionary, find, is_group}
use Rattle.rules.specs.Walk.{avps_of}
use Rattle.rules.specs.Command.{walk_of}
use Rattle.rules.specs.Record.{recorded}

-- what an AVP adds to the meaning; a read group has no data octets of its own there
pub record Cell : Type 0 where
  pub depth : ℕ
  pub vendor : ℕ
  pub code : ℕ
  pub m : Bool
  pub p : Bool
  pub length : ℕ
  pub octets : List ℕ

-- the meaning: command flags, identifiers, the number of AVPs in the walk, and what each adds, in walk order
pub record Meaning : Type 0 where
  pub r : Bool
  pub p : Bool
  pub e : Bool
  pub t : Bool
  pub hop_by_hop : ℕ
  pub end_to_end : ℕ
  pub count : ℕ
  pub cells : List Cell

-- a name whose data is read as a list
abbrev pub is_read_group : List Entry → ℕ → ℕ → Bool
is_read_group dict vendor code = is_group (find dict vendor code)

-- what an AVP over octets adds
abbrev pub cell_of : List Entry → List ℕ → Avp → Cell
cell_of dict s a = record {
  depth = a.depth;
  vendor = a.vendor;
  code = a.code;
  m = a.m;
  p = a.p;
  length = a.length;
  octets = cond (is_read_group dict a.vendor a.code) [] (take a.length (drop a.start s));
}

-- the meaning of an accepted command, read from its octets
abbrev pub meaning_of : List ℕ → Meaning
meaning_of s = record {
  r = is_request (command_flags s);
  p = is_proxiable (command_flags s);
  e = is_error (command_flags s);
  t = is_retransmitted (command_flags s);
  hop_by_hop = hop_by_hop s;
  end_to_end = end_to_end s;
  count = length (avps_of (walk_of s));
  cells = map (cell_of dictionary s) (avps_of (walk_of s));
}

-- the meaning of a record over octets; starts do not belong to it
abbrev pub meaning_over : Record → List ℕ → Meaning
meaning_over r s = record {
  r = r.r;
  p = r.p;
  e = r.e;
  t = r.t;
  hop_by_hop = r.hop_by_hop;
  end_to_end = r.end_to_end;
  count = r.count;
  cells = map (cell_of dictionary s) (recorded r);
}
