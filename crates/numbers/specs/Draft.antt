-- 01, The record and the writer: the draft that numbers and octets stand for. A record's flags fit their places on the
-- wire by their type; numbers that are no flags stand for a malformed draft, so that writing them is 7006.
use Rattle.std.specs.Prelude.{ℕ, ◌+◌, List, cond, false, replicate}
use Rattle.rules.specs.declared.Record.{Record}
use Rattle.rules.specs.Walk.{most_avps}
use Rattle.rules.specs.Search.{blank}
use Rattle.rules.specs.Draft.{Draft, draft_of}
use Rattle.numbers.specs.Numbers.{numbered_record}
use Rattle.numbers.specs.Flags.{flags_fit}

-- a record that is malformed over any octets: its count exceeds 256
unfoldable pub overfull_record : Record
overfull_record = record {
  r = false;
  p = false;
  e = false;
  t = false;
  hop_by_hop = 0;
  end_to_end = 0;
  count = most_avps + 1;
  avps = replicate most_avps blank;
}

unfoldable pub numbered_draft : List ℕ → List ℕ → Draft
numbered_draft numbers s = cond (flags_fit numbers) (draft_of (numbered_record numbers) s) (draft_of overfull_record s)
