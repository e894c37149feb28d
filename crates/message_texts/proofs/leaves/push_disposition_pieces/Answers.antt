use Rattle.std.proofs.Common.{List, ℕ, [], ◌∷◌, ◌++◌, map, Option, sym, ap, ◌∙◌}
use Rattle.std.proofs.lemmas.Result.{IfOk-weaker}
use Rattle.message_lines.specs.Folding.{laid, plain_piece}
use Rattle.message_texts.specs.Parts.{disposition, disposition_pieces, file_name}
use Rattle.message_texts.proofs.PartLemmas.{two_pieces}
use Rattle.message_texts.proofs.leaves.push_disposition_pieces.Goals as goal

pub returns-in_ok-file-in-Some : goal.returns-in_ok-file-in-Some
returns-in_ok-file-in-Some c =
    let inline = c.args.inline in
    let name = c.in-Some.name in
    let kind = c.as_bytes-in-Some.ensures.value ∙ c.in_ok-kind-in-Some.ensures ∙ ap (λ (t : List ℕ). t ++ 59 ∷ []) c.disposition-in-Some.ensures in
    let file = c.as_bytes-in-Some-3.ensures.value ∙ c.in_ok-file-in-Some.ensures ∙ ap file_name (c.as_bytes-in-Some-2.ensures.value ∙ c.as_str.ensures) in
    IfOk-weaker c.push_piece-in-Some-2.result _ _
    (λ after a. two_pieces c.args.line c.in_ok-line-in-Some.line c.args.text.now c.push_piece-in-Some.new.text c.push_piece-in-Some-2.new.text c.as_bytes-in-Some.result.now
    c.as_bytes-in-Some-3.result.now (disposition inline ++ 59 ∷ []) (file_name name) kind file c.in_ok-line-in-Some.ensures a.0
    ∙ ap (λ (o : Option (List ℕ)). c.args.text.now ++ laid c.args.line (map plain_piece (disposition_pieces inline o))) (sym c.in-Some.is)) c.push_piece-in-Some-2.ensures
