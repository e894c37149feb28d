use Rattle.std.proofs.Common.{◌≡◌, length, eqb, eqb-true, true, ◌∙◌}
use Rattle.std.proofs.lemmas.List.{nil_from_length}
use Rattle.thread_rule.proofs.BlobLemmas.{one_blob}
use Rattle.thread_rule.proofs.subject.behind_blob_before_text.Goals as goal

pub returns-then-is_empty-clause-blob : goal.returns-then-is_empty-clause-blob
returns-then-is_empty-clause-blob c = λ t d.
    let r = c.in_ok-rest.rest.now in
    let e : eqb (length r) 0 ≡ true = cc in
    d.some (one_blob c.args.text.now t r d.drops c.in_ok-rest.ensures ∙ nil_from_length r (eqb-true (length r) 0 e))
