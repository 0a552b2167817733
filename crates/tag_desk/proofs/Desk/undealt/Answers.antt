use Rattle.std.proofs.Common.{◌*◌, ◌∙◌}
use Rattle.tag_desk.proofs.Dealing.{opening_desk}
use Rattle.tag_desk.proofs.Desk.undealt.Goals as goal

pub vacant-requires : goal.vacant-requires
vacant-requires c =
    opening_desk (record { each = c.args.tags; all = c.args.tags * c.args.clients }) c.as_slice.result.now (c.as_slice.ensures.value ∙ c.in_ok-words.ensures.items_if_clones_equal (λ y e. e))
