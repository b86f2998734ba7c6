use Rattle.layers.proofs.Pages.{not_declined, page_left}
use Rattle.layers.proofs.sequence.SequenceOperator.apply.Goals as goal

-- the page that the first operator left
pub unwrap-verdict-requires : goal.unwrap-verdict-requires
unwrap-verdict-requires g c =
    not_declined _ _ c.apply-2.result (page_left _ (g.met.F.Operator.lawful c.args.self.now.first) c.args.book.now _ _ c.apply.result c.in_ok-check_page.ensures.page c.apply.ensures.applied) c.apply-2.ensures.declines
