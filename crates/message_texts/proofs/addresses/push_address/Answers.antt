use Rattle.std.proofs.Common.{ℕ, List, ◌∷◌, ◌++◌, Some, ap, sym, ◌∙◌}
use Rattle.std.proofs.lemmas.Result.{IfOk-weaker}
use Rattle.message_texts.proofs.AddressLemmas.{unnamed, named}
use Rattle.message_texts.proofs.addresses.push_address.Goals as goal

pub returns-in_ok-piece-in-None : goal.returns-in_ok-piece-in-None
returns-in_ok-piece-in-None c =
    let email = c.as_bytes-email.ensures.value ∙ c.as_str.ensures in
    let end = c.args.end.now in
    IfOk-weaker c.push_piece.result _ _
    (λ after a. unnamed c.args.line after c.args.text.now c.push_piece.new.text c.as_slice.result.now end c.args.mailbox.now c.in-None.is
    (c.as_slice.ensures.value ∙ c.in_ok-piece-in-None.ensures ∙ ap (λ (t : List ℕ). t ++ end) email) a) c.push_piece.ensures

pub returns-in_ok-piece-in-Some : goal.returns-in_ok-piece-in-Some
returns-in_ok-piece-in-Some c =
    let email = c.as_bytes-email.ensures.value ∙ c.as_str.ensures in
    let end = c.args.end.now in
    let name = c.in_ok-line-in-Some in
    IfOk-weaker c.push_piece-in-Some.result _ _
    (λ after a. named c.args.line name.line after c.args.text.now c.push_name.new.text c.push_piece-in-Some.new.text c.as_slice-in-Some.result.now end c.as_str-in-Some.result.now
    c.args.mailbox.now (c.in-Some.is ∙ ap (λ (t : List ℕ). Some t) (sym c.as_str-in-Some.ensures))
    (c.as_slice-in-Some.ensures.value ∙ c.in_ok-piece-in-Some.ensures ∙ ap (λ (t : List ℕ). 60 ∷ (t ++ 62 ∷ end)) email) name.ensures a) c.push_piece-in-Some.ensures
