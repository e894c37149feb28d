-- Orders by keys, and the orders of comparators.
use Rattle.std.proofs.Common.{◌≡◌, ◌↔◌, ℕ, List, Option, None, Some, Bool, true, false, IsTrue, map, nat_cmp, refl, sym, ap, subst, ◌∙◌, Ordering}
use Rattle.std.specs.Cmp.Lexicographic.{slice_cmp}
use Rattle.std.specs.Option.{option_cmp, option_map}
use Rattle.mail_maps.specs.Serve.{Email}
use Rattle.query_conditions.specs.Entries.{email_at}
use Rattle.query_conditions.specs.declared.entry.EmailEntry.{EmailEntry}
use Rattle.query_orders.specs.Directions.{directed}
use Rattle.query_orders.specs.Emails.{cmp_by_property}
use Rattle.query_orders.specs.Texts.{folded, text_cmp}
use Rattle.query_orders.specs.declared.comparators.EmailComparator.{EmailComparator}
use Rattle.query_orders.specs.declared.comparators.EmailSort.{EmailSort}
use Rattle.query_orders.specs.reading.Keys.{AreInOrder, IsSortedByKeys}
use Rattle.query_orders.proofs.PairLemmas.{in_order}
use Rattle.query_orders.specs.reading.Rows.{emails_by}

-- values that are sorted by the keys that a property compares are in the Emails' order by the comparator
pub email_order : {K V : Type 0} (cmp : K → K → Ordering) (key : EmailEntry → K) (emails : List (ℕ × Email)) (c : EmailComparator) (s : EmailSort)
    (rows : List EmailEntry) (values sorted : List V)
    → c.property ≡ s → ((a b : EmailEntry) → cmp (key a) (key b) ≡ cmp_by_property emails s (email_at a) (email_at b))
    → IsSortedByKeys c.is_ascending cmp (map key rows) values sorted
    → (of : EmailEntry → V) → values ≡ map of rows → AreInOrder (emails_by emails c) of rows sorted
email_order cmp key emails c s rows values sorted is same sorts of are =
    subst (λ R. AreInOrder R of rows sorted)
    (λ i a b. directed c.is_ascending ((same a b ∙ ap (λ (t : EmailSort). cmp_by_property emails t (email_at a) (email_at b)) (sym is)) i))
    (in_order cmp key of c.is_ascending rows values sorted are sorts)

-- two tests that are true of the same are one
pub same_truth : (a b : Bool) → IsTrue a ↔ IsTrue b → a ≡ b
same_truth true b same = sym (same.0 refl)
same_truth false true same = same.1 refl
same_truth false false same = refl

-- texts that may be missing compare as they do in small letters
pub options_folded : (a b : Option (List ℕ)) → option_cmp (slice_cmp nat_cmp) (option_map folded a) (option_map folded b) ≡ option_cmp text_cmp a b
options_folded None None = refl
options_folded None (Some y) = refl
options_folded (Some x) None = refl
options_folded (Some x) (Some y) = refl
