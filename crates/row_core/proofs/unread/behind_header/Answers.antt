use Rattle.row_core.proofs.EndLemmas.{header_cut}
use Rattle.row_core.proofs.unread.behind_header.Goals as goal

pub returns : goal.returns
returns c = header_cut c.args.limits c.args.layout c.args.bytes.now c.headed_rest.result c.headed_rest.ensures
