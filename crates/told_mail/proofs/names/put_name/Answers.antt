use Rattle.std.proofs.Common.{◌∙◌, ℕ, List, Vec, Global, ap, Some, if◌then◌else◌}
use Rattle.std.specs.Map.{lookup}
use Rattle.told_mail.specs.Mail.{is_same}
use Rattle.told_mail.specs.reading.Names.{place_in}
use Rattle.told_mail.proofs.LineLemmas.{place_put, at}
use Rattle.told_mail.proofs.names.put_name.Goals as goal

pub returns-clause-ok : goal.returns-clause-ok
returns-clause-ok c = λ q.
    ap (λ (es : List (Vec ℕ Global × ℕ)). lookup (at q) es) c.in_ok-insert.ensures.entries ∙ place_put c.args.numbers.now.entries c.in_ok-to_vec.field-0 c.args.number q
    ∙ ap (λ (name : List ℕ). if is_same name q then Some c.args.number else place_in c.args.numbers.now q) (c.in_ok-to_vec.ensures.items_if_clones_equal (λ x y e. e))
