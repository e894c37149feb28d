use Rattle.std.proofs.Common.{ℕ, false, Option, length, subst, sym, refl}
use Rattle.std.specs.Prelude.{slice_range}
use Rattle.header_words.specs.Transfer.{HasBodyLen}
use Rattle.mime_tree.specs.Bodies.{encoding_by}
use Rattle.mime_tree.specs.declared.part.Part.{out-Part}
use Rattle.mime_tree.proofs.body.part_len.Goals as goal

pub returns-in-None : goal.returns-in-None
returns-in-None c =
    let p = out-Part c.args.part.now in
    let body = slice_range c.args.bytes.now p.start p.end in
    let P : Option ℕ → Type 0 = λ n. HasBodyLen (encoding_by n p.encoding) (length body) body in
    subst P (sym c.in-None.is) (record { octets = body; problem = false; is = (refl, refl); counted = refl })
