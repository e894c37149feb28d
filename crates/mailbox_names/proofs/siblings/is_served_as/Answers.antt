use Rattle.std.proofs.Common.{List, ℕ, bytes_eq, ap, sym, ◌∙◌}
use Rattle.std.proofs.lemmas.Str.{utf8_lossy-IsUtf8}
use Rattle.mailbox_names.proofs.siblings.is_served_as.Goals as goal

pub returns-in-Ok : goal.returns-in-Ok
returns-in-Ok c =
    let valid = c.in-Ok.ensures.cases in
    c.eq.ensures ∙ ap (λ (served : List ℕ). bytes_eq served c.args.text.now) (valid.0 ∙ sym (utf8_lossy-IsUtf8 c.args.octets.now valid.1))
