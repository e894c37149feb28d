use Rattle.std.proofs.Common.{◌∙◌, ℕ, List, Vec, Global, map, ap, unwrap_or}
use Rattle.std.specs.Map.{lookup, keys_of}
use Rattle.told_mail.specs.reading.Names.{place_in}
use Rattle.told_mail.proofs.LineLemmas.{names_put, place_put, place_kept, at}
use Rattle.told_mail.proofs.lines.add_line.Goals as goal

pub returns-clause-names : goal.returns-clause-names
returns-clause-names c =
    ap (λ (es : List (Vec ℕ Global × ℕ)). map (λ (x : Vec ℕ Global). x.items) (keys_of es)) c.in_ok-insert.ensures.entries
    ∙ names_put c.args.lines.now.entries c.args.name c.last_place-last.result

pub returns-clause-places : goal.returns-clause-places
returns-clause-places c = λ q.
    ap (λ (es : List (Vec ℕ Global × ℕ)). lookup (at q) es) c.in_ok-insert.ensures.entries ∙ place_put c.args.lines.now.entries c.args.name c.last_place-last.result q
    ∙ place_kept (place_in c.args.lines.now) c.args.name.items q c.last_place-last.result c.args.at
    (c.last_place-last.ensures ∙ ap (λ (u : List ℕ). unwrap_or (place_in c.args.lines.now u) c.args.at) c.as_slice.ensures.value)
