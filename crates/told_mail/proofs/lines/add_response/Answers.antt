use Rattle.std.proofs.Common.{sym, ◌∙◌}
use Rattle.told_mail.specs.reading.Lines.{value_of}
use Rattle.told_mail.proofs.LineLemmas.{lines_more, lines_passed}
use Rattle.told_mail.proofs.ListLemmas.{on_ok_both}
use Rattle.told_mail.proofs.lines.add_response.Goals as goal

pub returns-in_ok-to_vec-in-Some : goal.returns-in_ok-to_vec-in-Some
returns-in_ok-to_vec-in-Some c =
    on_ok_both c.add_line.result (λ names places.
    lines_more c.args.responses.now c.args.at c.args.lines.now c.add_line.new.lines (value_of c.in-Some.line) c.in_ok-to_vec-in-Some.field-0.items
    (c.in_ok-to_vec-in-Some.ensures.items_if_clones_equal (λ x y e. e) ∙ c.as_slice.ensures) (sym c.in-Some.ensures) c.requires names
    places) c.add_line.ensures.names c.add_line.ensures.places

pub returns-in-None : goal.returns-in-None
returns-in-None c = lines_passed c.args.responses.now c.args.at c.args.lines.now (sym c.in-None.ensures) c.requires
