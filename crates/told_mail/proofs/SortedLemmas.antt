-- That names in order are sorted, and each another.
use Rattle.std.proofs.Common.{ℕ, List, [], ◌∷◌, sym, ap, ◌∙◌}
use Rattle.std.proofs.lemmas.Map.Text.{is_eq-slice_cmp}
use Rattle.std.specs.Ordering.{is_eq}
use Rattle.imap_types.proofs.KeptLemmas.{IsUnder, AreSorted, sorted_insert}
use Rattle.told_mail.specs.Lists.{in_order}
use Rattle.told_mail.specs.reading.Names.{AllOther, AreApart}

-- names in order are sorted
pub sorted_names : (ns : List (List ℕ)) → AreSorted (in_order ns)
sorted_names [] = tt
sorted_names (n ∷ ns) = sorted_insert n (in_order ns) (sorted_names ns)

-- of names that are sorted, each is another
pub sorted_apart : (ns : List (List ℕ)) → AreSorted ns → AreApart ns
sorted_apart [] s = tt
sorted_apart (n ∷ ns) s = (others ns s.0, sorted_apart ns s.1)
  where
    others : (xs : List (List ℕ)) → IsUnder n xs → AllOther n xs
    others [] u = tt
    others (x ∷ xs) u = (sym (is_eq-slice_cmp n x) ∙ ap is_eq u.0, others xs u.1)
