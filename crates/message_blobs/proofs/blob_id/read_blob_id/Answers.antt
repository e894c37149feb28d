use Rattle.std.proofs.Common.{◌∙◌}
use Rattle.message_blobs.specs.BlobIds.{root_view}
use Rattle.message_blobs.proofs.NumberLemmas.{none_given}
use Rattle.message_blobs.proofs.IdLemmas.{id_cut, id_row, id_from}
use Rattle.message_blobs.proofs.blob_id.read_blob_id.Goals as goal

pub returns-in_err-root : goal.returns-in_err-root
returns-in_err-root c = none_given c.from_residual.result _ _ c.from_residual.ensures
    (λ root ns i. c.in_err-root.ensures root i.is_root (c.cut.ensures.front ∙ (id_cut root ns c.args.text.now i).front))

pub returns-in_err-leaves : goal.returns-in_err-leaves
returns-in_err-leaves c = none_given c.from_residual-in_err-leaves.result _ _ c.from_residual-in_err-leaves.ensures
    (λ root ns i. c.in_err-leaves.ensures ns i.few (id_row root ns c.args.text.now c.cut.result.1.now i c.cut.ensures.back))

pub returns : goal.returns
returns c =
    id_from (root_view c.in_ok-root.root) c.in_ok-leaves.leaves.items c.args.text.now c.cut.result.0.now c.cut.result.1.now c.cut.ensures.front c.cut.ensures.back
    c.in_ok-root.ensures.0 c.in_ok-root.ensures.1 c.in_ok-leaves.ensures.0 c.in_ok-leaves.ensures.1
