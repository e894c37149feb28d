use Rattle.std.proofs.Common.{◌≡◌, ℕ, List, Bool, true, false, not, ◌||◌, refl, ap, ◌∙◌, map, bytes_eq, Vec, Global}
use Rattle.jmap_arguments.specs.Arguments.{is_among}
use Rattle.mail_maps.specs.reading.Sets.{set_items}
use Rattle.mail_maps.proofs.KeySets.{items_of-insert_key}
use Rattle.email_checks.proofs.SetLemmas.{among_keys, among_insert}
use Rattle.email_checks.proofs.keywords_asked.is_repeat.Goals as goal

not_not : (b : Bool) → not (not b) ≡ b
not_not true = refl
not_not false = refl

pub returns-clause-repeat : goal.returns-clause-repeat
returns-clause-repeat c =
    let keys = c.args.keywords.now.keys in
    ap not c.in_ok-new.ensures.added ∙ not_not _ ∙ among_keys c.in_ok-lower_case.field-0 keys
    ∙ ap (λ (k : List ℕ). is_among k (map set_items keys)) c.in_ok-lower_case.ensures

pub returns-clause-keywords : goal.returns-clause-keywords
returns-clause-keywords c other =
    let keys = c.args.keywords.now.keys in
    let key = c.in_ok-lower_case.field-0 in
    ap (λ (ks : List (Vec ℕ Global)). is_among other (map set_items ks)) c.in_ok-new.ensures.keys
    ∙ ap (is_among other) (items_of-insert_key keys key)
    ∙ among_insert key.items other (map set_items keys)
    ∙ ap (λ (k : List ℕ). bytes_eq k other || is_among other (map set_items keys)) c.in_ok-lower_case.ensures
