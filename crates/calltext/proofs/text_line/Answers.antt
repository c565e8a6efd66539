use Rattle.callfile.proofs.Parts.{line-puts}
use Rattle.calltext.proofs.Showing.{text-parts}
use native.Mathlib.Omega.{arith}
use Rattle.calltext.proofs.text_line.Goals as goal

pub returns : goal.returns
returns c =
    let place = c.place_for-place.ensures.0 in
    let destination = c.shown_destination-destination.ensures in
    let before = c.put_destination-name.ensures in
    let name = c.put_name-a.ensures in
    let code = c.put_code-b.ensures in
    let count = c.shown_words-n.ensures.0 in
    let fields = c.put_fields-d.ensures in
    let end = line-puts (omega (arith, before.0.same, before.1, name.0.same, name.1, code.0.same, code.1, fields.0.same, fields.1)) (omega arith) c.put_byte.ensures in
    (text-parts c.args.c place destination count before.0 name.0 code.0 fields.0 end, omega (arith, end.next, fields.1, code.1, name.1, before.1))
