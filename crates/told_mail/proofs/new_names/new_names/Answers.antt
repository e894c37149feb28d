use Rattle.std.proofs.Common.{◌∙◌, ◌++◌, true, false, not, is_some, ℕ, List, ap, sym, subst, filter}
use Rattle.told_mail.specs.reading.Lines.{is_picked}
use Rattle.told_mail.specs.reading.Names.{names_in, place_in, AreApart}
use Rattle.told_mail.proofs.LineLemmas.{picked}
use Rattle.told_mail.proofs.NameLemmas.{apart_new}
use Rattle.told_mail.proofs.new_names.new_names.Goals as goal

pub returns-clause-names : goal.returns-clause-names
returns-clause-names c =
    let ns : List (List ℕ) = names_in c.args.lines.now in
    c.in_ok-add_names-2.ensures.names
    ∙ ap (λ (zs : List (List ℕ)). zs ++ filter (is_picked c.args.numbers.now false) ns)
    (c.in_ok-add_names.ensures.names ∙ ap (λ (zs : List (List ℕ)). zs ++ filter (is_picked c.args.numbers.now true) ns) c.new-names.ensures.items)
    ∙ picked c.args.numbers.now ns

pub returns-clause-apart : goal.returns-clause-apart
returns-clause-apart c =
    subst AreApart (sym (returns-clause-names c))
    (apart_new (λ name. not (is_some (place_in c.args.numbers.now name))) (names_in c.args.lines.now) c.in_ok-add_names.ensures.apart)
