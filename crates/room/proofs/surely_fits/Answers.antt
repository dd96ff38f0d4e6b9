use Rattle.std.proofs.Common.{◌∙◌, sym}
use borrow.Author.Tests.{not-false}
use Rattle.room.proofs.Left.{room-told}
use Rattle.room.proofs.surely_fits.Goals as goal

pub returns : goal.returns
returns c =
    room-told _ _ _ _ _ _ _ (sym c.counts_in.ensures ∙ not-false _ c.if-not-counts_in.false-raw)
    c.without_text-user.ensures
    c.without_text-dbname.ensures
    c.without_text-options.ensures
    c.without_text-name.ensures
    c.without_hosts-left.ensures
