use Rattle.std.proofs.Common.{◌≡◌, ◌∙◌, ◌++◌, ◌∷◌, [], ℕ, Bool, not, List, bytes_eq, filter, codes, IfOk, ap, sym, subst}
use Rattle.std.specs.List.{list_any}
use Rattle.imap_types.specs.Items.{kept}
use Rattle.kept_names.specs.Changes as attributes
use Rattle.kept_names.proofs.KeptNames.{or_none}
use Rattle.kept_names.proofs.names.subscribed.Goals as goal

pub returns-then-on : goal.returns-then-on
returns-then-on c =
    let was = c.args.was.now in
    let word : c.as_slice.result.now ≡ codes "\\subscribed" ∷ [] =
    c.as_slice.ensures ∙ (c.in_ok-push.ensures.ok ∙ (ap (λ (ns : List (List ℕ)). ns ++ c.in_ok-copy_of.field-0 ∷ []) c.new-word.ensures
    ∙ ap (λ (n : List ℕ). n ∷ []) c.in_ok-copy_of.ensures)) in
    let due : kept (c.as_slice.result.now ++ was) ≡ attributes.subscribed c.args.on was =
    ap (λ (ns : List (List ℕ)). kept (ns ++ was)) word ∙ ap (λ (b : Bool). attributes.subscribed b was) (sym c.if-on.true) in
    subst (λ (ns : List (List ℕ)). IfOk c.kept.result (λ names. names ≡ ns)) due c.kept.ensures

pub returns : goal.returns
returns c =
    let was = c.args.was.now in
    let word : c.as_slice-else-on.result.now ≡ codes "\\subscribed" ∷ [] =
    c.as_slice-else-on.ensures ∙ (c.in_ok-push.ensures.ok ∙ (ap (λ (ns : List (List ℕ)). ns ++ c.in_ok-copy_of.field-0 ∷ []) c.new-word.ensures
    ∙ ap (λ (n : List ℕ). n ∷ []) c.in_ok-copy_of.ensures)) in
    let one : filter (λ (f : List ℕ). not (list_any (λ g. bytes_eq f g) (codes "\\subscribed" ∷ []))) was ≡ filter (λ (f : List ℕ). not (bytes_eq f (codes "\\subscribed"))) was =
    λ i. filter (λ (f : List ℕ). not (or_none (bytes_eq f (codes "\\subscribed")) i)) was in
    let due : filter (λ (f : List ℕ). not (list_any (λ g. bytes_eq f g) c.as_slice-else-on.result.now)) was ≡ attributes.subscribed c.args.on was =
    ap (λ (ns : List (List ℕ)). filter (λ (f : List ℕ). not (list_any (λ g. bytes_eq f g) ns)) was) word
    ∙ (one ∙ ap (λ (b : Bool). attributes.subscribed b was) (sym c.if-on.false)) in
    subst (λ (ns : List (List ℕ)). IfOk c.without.result (λ names. names ≡ ns)) due c.without.ensures
