use Rattle.std.proofs.Common.{ℕ, List, ap, ◌∙◌, map, bytes_eq}
use Rattle.std.specs.Set.{remove_key}
use Rattle.mail_maps.specs.reading.Sets.{set_items}
use Rattle.email_checks.proofs.SetLemmas.{items_of-remove_key}
use Rattle.email_checks.proofs.keywords_asked.take_keyword.Goals as goal

pub returns : goal.returns
returns c =
    let keys = c.args.keywords.now.keys in
    ap (map set_items) c.remove.ensures.keys ∙ items_of-remove_key c.in_ok-keyword.keyword keys
    ∙ ap (λ (k : List ℕ). remove_key (bytes_eq k) (map set_items keys)) c.in_ok-keyword.ensures
