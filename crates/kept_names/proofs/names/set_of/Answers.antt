use Rattle.std.proofs.Common.{◌≡◌, ◌∙◌, ◌++◌, ◌∷◌, [], ◌+◌, ℕ, Bool, List, map, take, bytes_eq, Vec, Global, ap, sym, arith}
use Rattle.std.specs.Prelude.{◌||◌}
use Rattle.std.specs.List.{list_any}
use Rattle.std.proofs.lemmas.List.{take_more}
use Rattle.imap_values.proofs.FlagLemmas.{insert_items}
use Rattle.kept_names.proofs.NameSets.{any_inserted, any_more}
use Rattle.kept_names.proofs.names.set_of.Goals as goal

pub loop-name-preserved : goal.loop-name-preserved
loop-name-preserved c = λ n.
    let names = c.args.names.now in
    let i = c.loop-name.name-index in
    let name = c.name-item.result in
    let ks = c.loop-name.set.keys in
    let key = c.in_ok-to_vec.field-0 in
    let same : key.items ≡ name = c.in_ok-to_vec.ensures.items_if_clones_equal (λ x y e. e) ∙ c.as_slice.ensures in
    let taken : take (i + 1) names ≡ take i names ++ name ∷ [] =
    take_more names i name (omega arith) ∙ ap (λ (m : List ℕ). take i names ++ m ∷ []) (sym c.name-item.is) in
    ap (λ (vs : List (Vec ℕ Global)). list_any (bytes_eq n) (map (λ (v : Vec ℕ Global). v.items) vs)) c.in_ok-insert.ensures.keys
    ∙ (ap (list_any (bytes_eq n)) (insert_items ks key)
    ∙ (any_inserted n key.items (map (λ (v : Vec ℕ Global). v.items) ks)
    ∙ (ap (λ (m : List ℕ). bytes_eq n m || list_any (bytes_eq n) (map (λ (v : Vec ℕ Global). v.items) ks)) same
    ∙ (ap (λ (b : Bool). bytes_eq n name || b) (c.loop-name.invariant n)
    ∙ (sym (any_more n (take i names) name) ∙ sym (ap (list_any (bytes_eq n)) taken))))))
