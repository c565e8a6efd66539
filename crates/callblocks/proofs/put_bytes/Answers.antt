use Rattle.std.proofs.Common.{arith, ◌≡◌, ◌∙◌, ◌-◌, ◌+◌, ap, length}
use lib.ListN.{length-set}
use lib.Seq.{length-sets, sets}
use borrow.Rule.Slice.PartMut.{put_mid}
use Rattle.callblocks.specs.Packed.{low_bytes}
use Rattle.callblocks.proofs.Bytes.{bytes-length, byte-next, byte-end, part-put}
use Rattle.callblocks.proofs.put_bytes.Goals as goal

pub loop-b-preserved : goal.loop-b-preserved
loop-b-preserved c =
    let l = c.loop-b in
    (length-set l.b-items l.b-index c.low.result ∙ l.invariant.0, rw c.low.ensures (byte-next l.b-items (low_bytes c.args.size c.args.n) l.b-index c.args.size l.rest (omega arith) (omega arith) l.invariant.1))

pub returns : goal.returns
returns c =
    let a = c.args in
    let l = c.loop-b in
    let e : l.b-items ≡ low_bytes a.size a.n = byte-end l.b-items (low_bytes a.size a.n) l.b-index a.size l.rest (omega arith) (omega arith) l.invariant.1 in
    let t : put_mid a.at (a.at + a.size - a.at) a.block.now l.b-items ≡ sets a.block.now a.at (low_bytes a.size a.n) = part-put a.block.now a.at (a.at + a.size - a.at) e (omega (arith, bytes-length a.size a.n)) (omega arith) in
    record { text = t; next = omega (arith, bytes-length a.size a.n); same = ap length t ∙ length-sets a.block.now a.at (low_bytes a.size a.n) }
