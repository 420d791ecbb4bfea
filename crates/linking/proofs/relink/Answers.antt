-- `linking::relink` meets its contract. A piece without a leader counts for every group that it names, so one more for the new target and one less for the old
-- match again; the part lent from 4P gives the whole list back.
use Rattle.std.proofs.Common.{◌+◌, ◌*◌}
use Rattle.editing.specs.Relink.{old_counted, relinked}
use Rattle.linking.proofs.relink.Goals as goal

pub count_out-requires : goal.count_out-requires
count_out-requires c = old_counted c.requires (c.add_link.ensures.at (4 * c.args.p + c.args.k) c.requires.bare)

pub returns : goal.returns
returns c =
    relinked (4 * c.args.p) c.args.k c.requires (c.add_link.ensures.at (4 * c.args.p + c.args.k) c.requires.bare) c.put_link.ensures
    c.count_out.ensures
