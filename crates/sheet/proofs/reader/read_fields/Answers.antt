use Rattle.sheet.proofs.Lines.{was_some}
use Rattle.sheet.proofs.reader.read_fields.Goals as goal

pub returns : goal.returns
returns c =
    let l = was_some _ _ _ c.in_ok-l.ensures in
    let r = was_some _ _ _ c.in_ok-r.ensures in
    rw (c.ok_or.ensures.value, c.make_node.ensures, c.at.ensures, c.in_ok-letter.ensures, l, r)
