use Rattle.std.proofs.Common.{◌∙◌, ℕ, List, map, Vec, Global, ap, sym, codes, bytes_eq, nat_cmp}
use Rattle.std.proofs.lemmas.Bool.{cond-false}
use Rattle.std.specs.Cmp.Lexicographic.{slice_cmp}
use Rattle.std.specs.BTreeSet.{insert_key}
use Rattle.imap_values.proofs.FlagLemmas.{insert_items}
use Rattle.kept_names.proofs.names.add_name.Goals as goal

pub returns : goal.returns
returns c =
    ap (map (λ (v : Vec ℕ Global). v.items)) c.in_ok-insert.ensures.keys
    ∙ insert_items c.args.set.now.keys c.args.name
    ∙ sym (cond-false (bytes_eq c.args.name.items (codes "\\recent")) (map (λ (v : Vec ℕ Global). v.items) c.args.set.now.keys)
    (insert_key (slice_cmp nat_cmp) (map (λ (v : Vec ℕ Global). v.items) c.args.set.now.keys) c.args.name.items)
    (ap (λ (u : List ℕ). bytes_eq u (codes "\\recent")) (sym c.deref.ensures.value) ∙ sym c.is_recent.ensures ∙ c.if-is_recent.false))
