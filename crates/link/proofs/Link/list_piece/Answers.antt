-- `link::Link::list_piece` meets its contract.
use borrow.Author.Tests.{eqb-false}
use Rattle.std.proofs.Common.{sym, ◌∙◌, eqb-true}
use Rattle.link.proofs.Pieces.{all_left, ends_at_end, ends_stopped, ends_stuck, so_far_more}
use Rattle.link.proofs.Link.list_piece.Goals as goal

pub returns-then-self-ne0 : goal.returns-then-self-ne0
returns-then-self-ne0 c =
    ends_stopped c.args.self.now c.args.piece.now _ _ c.loop-left.invariant c.requires c.if-self-ne0.true

pub returns-then-taken-eq0 : goal.returns-then-taken-eq0
returns-then-taken-eq0 c =
    ends_stuck c.args.self.now c.args.piece.now _ _ c.loop-left.invariant c.requires
    (eqb-false _ _ (sym c.is_empty.ensures ∙ c.loop-left-test.true)) c.if-self-ne0.false
    c.list_octets-taken.result _ c.list_octets-taken.ensures c.if-taken-eq0.true

pub loop-left-preserved : goal.loop-left-preserved
loop-left-preserved c =
    rw (all_left c.loop-left.left.now c.list_octets-taken.result)
    (so_far_more c.args.self.now c.args.piece.now _ _ c.loop-left.invariant c.requires
    (eqb-false _ _ (sym c.is_empty.ensures ∙ c.loop-left-test.true)) c.if-self-ne0.false
    c.list_octets-taken.result _ c.list_octets-taken.ensures c.if-taken-eq0.false)

pub returns : goal.returns
returns c =
    ends_at_end c.args.self.now c.args.piece.now _ _ c.loop-left.invariant c.requires
    (eqb-true _ _ (sym c.is_empty.ensures ∙ c.loop-left-test.false))
