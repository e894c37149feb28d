use Rattle.std.proofs.Common.{◌≡◌, ◌∙◌, ◌++◌, [], ℕ, List, map, Vec, Global, IfOk, ap, sym, subst}
use Rattle.imap_types.specs.Items.{kept, kept_from}
use Rattle.kept_names.proofs.KeptNames.{kept_from-append}
use Rattle.kept_names.proofs.names.kept.Goals as goal

pub returns : goal.returns
returns c =
    let these = c.args.these.now in
    let those = c.args.those.now in
    let first : map (λ (v : Vec ℕ Global). v.items) c.add_names.new.set.keys ≡ kept_from [] these =
    c.in_ok-add_names.ensures ∙ ap (λ (ks : List (Vec ℕ Global)). kept_from (map (λ (v : Vec ℕ Global). v.items) ks) these) c.new-set.ensures.empty in
    let all : map (λ (v : Vec ℕ Global). v.items) c.add_names-2.new.set.keys ≡ kept (these ++ those) =
    c.in_ok-add_names-2.ensures ∙ (ap (λ (ns : List (List ℕ)). kept_from ns those) first ∙ sym (kept_from-append [] these those)) in
    subst (λ (ns : List (List ℕ)). IfOk c.names_of.result (λ names. names ≡ ns)) all c.names_of.ensures
