use Rattle.std.proofs.Common.{ℕ, List, Option, None, sym, subst}
use Rattle.header_addresses.specs.Names.{comment_behind, IsCommentName, NoComment, OfComment}
use Rattle.mail_header.specs.WhiteEnd.{some_text}
use Rattle.header_tokens.specs.TokenView.{tokens_view}
use Rattle.header_addresses.proofs.names.comment_name.Goals as goal

pub returns-in-None : goal.returns-in-None
returns-in-None c = subst (λ (u : Option (List ℕ)). IsCommentName u None) (sym c.in-None.ensures) NoComment

pub returns-in_ok-some_text-in-Some : goal.returns-in_ok-some_text-in-Some
returns-in_ok-some_text-in-Some c =
    let name = c.in_ok-comment_text-in-Some.field-0.items in
    subst (λ (u : Option (List ℕ)). IsCommentName (comment_behind None (tokens_view c.args.tokens.now)) u) (sym c.in_ok-some_text-in-Some.ensures)
    (subst (λ (u : Option (List ℕ)). IsCommentName u (some_text name)) (sym c.in-Some.ensures) (OfComment c.in-Some.comment.now name c.in_ok-comment_text-in-Some.ensures))
