use Rattle.std.proofs.Common.{◌∙◌, arith}
use Rattle.mail_state.proofs.KeptFolders.{none_left}
use Rattle.mail_state.proofs.kept_folders.are_kept.Goals as goal

pub returns : goal.returns
returns c =
    c.is_empty.ensures ∙ none_left c.loop-held.left.now c.args.folders.now c.loop-held.held-index (omega (arith, c.loop-held-test.false))
    ∙ c.loop-held.invariant
