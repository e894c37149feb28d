use Rattle.std.proofs.Common.{◌++◌, ◌∷◌, [], ℕ, List, ap, ◌∙◌}
use Rattle.mail_header.proofs.BracketLemmas.{takes_piece, takes_octet}
use Rattle.mail_header.proofs.bracketed.push_piece.Goals as goal

pub returns-in_ok-push-in-Some : goal.returns-in_ok-push-in-Some
returns-in_ok-push-in-Some c = takes_piece c.args.text.now c.in-Some.piece.now c.in-Some.rest.now _ _ c.in-Some.ensures.0 c.in-Some.ensures.1
    (c.in_ok-push-in-Some.ensures.ok ∙ ap (λ (u : List ℕ). c.args.names.now ++ u ∷ []) c.in_ok-copy_of-in-Some.ensures)

pub returns-in-Some-first : goal.returns-in-Some-first
returns-in-Some-first c = takes_octet c.args.text.now c.in-Some-first.rest.now _ _ c.in-Some-first.ensures c.in-None.ensures
