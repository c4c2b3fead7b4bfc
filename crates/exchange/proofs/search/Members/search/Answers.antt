-- `exchange::search::Members::search` meets its contract.
use borrow.Author.Rules.{rules}
use mathlib.Core.Path.{◌≡◌, ◌∙◌}
use native.Mathlib.Omega.{arith}
use lib.ListN.{length, get_or}
use Rattle.rules.specs.Walk.{most_avps}
use Rattle.exchange.proofs.Firsts.{first_if_used, first_absent}
use Rattle.exchange.proofs.search.Members.search.Goals as goal

pub returns-in_err-get : goal.returns-in_err-get
returns-in_err-get c =
    let l = c.args.self in
    let size : length l.firsts.now ≡ 48 = search rules in
    let first : most_avps ≡ get_or l.firsts.now c.from.result most_avps = c.in_err-get.ensures.lookup.4 (omega arith) _ in
    rw c.from_residual.ensures (first_absent l.firsts.now size l.count c.args.entry most_avps (rw c.from.ensures at first) l.in_record)

pub returns : goal.returns
returns c =
    let l = c.args.self in
    let size : length l.firsts.now ≡ 48 = search rules in
    let first : c.from-i.result ≡ get_or l.firsts.now c.from.result most_avps = c.from-i.ensures ∙ c.in_ok-get.ensures.lookup.3.1 most_avps in
    rw c.then_some.ensures (first_if_used l.firsts.now size l.count c.args.entry _ (rw c.from.ensures at first))
