use Rattle.std.proofs.Common.{ℕ, List, Option, sym, ap, ◌∙◌}
use Rattle.std.proofs.lemmas.Result.{IfOk-weaker}
use Rattle.std.specs.Option.{option_and_then}
use Rattle.header_words.specs.OneLine.{one_line}
use Rattle.mail_header.specs.WhiteEnd.{some_text}
use Rattle.mime_fields.proofs.extended_value.extended_name.Goals as goal

name_of : Option (List ℕ) → Option (List ℕ)
name_of t = option_and_then (λ (u : List ℕ). some_text (one_line u)) t

pub returns-in-None : goal.returns-in-None
unfolding name_of
returns-in-None c = ap name_of (sym c.in-None.is ∙ c.in_ok-extended_text.ensures)

pub returns-in-Some : goal.returns-in-Some
unfolding name_of
returns-in-Some c = IfOk-weaker c.some_line.result _ _ (λ n e. e ∙ ap (λ (u : List ℕ). some_text (one_line u)) c.as_slice.ensures ∙ ap name_of (sym c.in-Some.is ∙ c.in_ok-extended_text.ensures)) c.some_line.ensures
