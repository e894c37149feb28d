-- A query that reads each record alone takes and orders Emails in the same way, whatever other Emails there are.
use Rattle.std.proofs.Common.{◌≡◌, ◌⊎◌, inl, inr, ◌↔◌, ℕ, List, [], ◌∷◌, Bool, true, false, not, ◌&&◌, ◌||◌, refl, ap, ◌∙◌}
use Rattle.std.specs.List.{AllByRecursion, list_any}
use Rattle.std.specs.Ordering.{ordering_then}
use Rattle.std.specs.declared.cmp.Ordering.{Ordering}
use Rattle.mail_maps.specs.Serve.{Email}
use Rattle.query_orders.specs.Directions.{directed}
use Rattle.query_orders.specs.Emails.{cmp_by_property, email_cmp, sort_reads_thread}
use Rattle.query_orders.specs.declared.comparators.EmailComparator.{EmailComparator}
use Rattle.query_orders.specs.declared.comparators.EmailSort.{EmailSort}
use Rattle.query_orders.specs.declared.comparators.EmailSort.TheVariants as sort
use Rattle.query_arguments.specs.declared.email_condition.EmailCondition.{EmailCondition}
use Rattle.query_arguments.specs.declared.email_condition.EmailCondition.TheVariants.{Record, Header, Thread}
use Rattle.query_core.specs.Lists.{EmailMatches, has_condition, have_condition, reads_thread}
use Rattle.query_lists.specs.Filters.{FilterTree, conditions, joined_by, FilterTrees, no_filters, filters, PassesFilter, PassesEach, PassesSome}
use Rattle.query_lists.specs.declared.filter.FilterOperator.TheVariants.{And, Or, Not}

-- ---- tests

neither : (a b : Bool) → (a || b) ≡ false → (a ≡ false) × (b ≡ false)
neither true b is = absurd (cc)
neither false b is = (refl, is)

-- none of three
pub alone_parts : (a b c : Bool) → (not a && (not b && not c)) ≡ true → (a ≡ false) × (b ≡ false) × (c ≡ false)
alone_parts true b c is = absurd (cc)
alone_parts false true c is = absurd (cc)
alone_parts false false true is = absurd (cc)
alone_parts false false false is = (refl, refl, refl)

-- ---- filters

not_same : (A B : Type 0) → A ↔ B → (¬ A) ↔ (¬ B)
not_same A B s = ((λ n b. n (s.1 b)), (λ n a. n (s.0 a)))

both_same : (A B X Y : Type 0) → A ↔ B → X ↔ Y → (A × X) ↔ (B × Y)
both_same A B X Y s t = ((λ h. (s.0 h.0, t.0 h.1)), (λ h. (s.1 h.0, t.1 h.1)))

either_way : (A B X Y : Type 0) → (A → B) → (X → Y) → A ⊎ X → B ⊎ Y
either_way A B X Y f g (inl a) = inl (f a)
either_way A B X Y f g (inr x) = inr (g x)

either_same : (A B X Y : Type 0) → A ↔ B → X ↔ Y → (A ⊎ X) ↔ (B ⊎ Y)
either_same A B X Y s t = (either_way A B X Y s.0 t.0, either_way B A Y X s.1 t.1)

module _ {C : Type 0} (is_such : C → Bool) (P Q : C → Type 0) (same : (c : C) → is_such c ≡ false → P c ↔ Q c) where
  each_same : (cs : List C) → list_any is_such cs ≡ false → AllByRecursion P cs ↔ AllByRecursion Q cs
  each_same [] none = ((λ h. h), (λ h. h))
  each_same (c ∷ cs) none =
      let parts : (is_such c ≡ false) × (list_any is_such cs ≡ false) = neither (is_such c) (list_any is_such cs) none in
      both_same (P c) (Q c) (AllByRecursion P cs) (AllByRecursion Q cs) (same c parts.0) (each_same cs parts.1)

  mutual
    -- a filter without such conditions takes the same rows
    pub filter_same : (f : FilterTree C) → has_condition is_such f ≡ false → PassesFilter P f ↔ PassesFilter Q f
    filter_same (conditions cs) none = each_same cs none
    filter_same (joined_by And fs) none = each_filter fs none
    filter_same (joined_by Or fs) none = some_filter fs none
    filter_same (joined_by Not fs) none = not_same (PassesSome P fs) (PassesSome Q fs) (some_filter fs none)

    each_filter : (fs : FilterTrees C) → have_condition is_such fs ≡ false → PassesEach P fs ↔ PassesEach Q fs
    each_filter no_filters none = ((λ h. h), (λ h. h))
    each_filter (filters f fs) none =
        let parts : (has_condition is_such f ≡ false) × (have_condition is_such fs ≡ false) = neither (has_condition is_such f) (have_condition is_such fs) none in
        both_same (PassesFilter P f) (PassesFilter Q f) (PassesEach P fs) (PassesEach Q fs) (filter_same f parts.0) (each_filter fs parts.1)

    some_filter : (fs : FilterTrees C) → have_condition is_such fs ≡ false → PassesSome P fs ↔ PassesSome Q fs
    some_filter no_filters none = ((λ h. h), (λ h. h))
    some_filter (filters f fs) none =
        let parts : (has_condition is_such f ≡ false) × (have_condition is_such fs ≡ false) = neither (has_condition is_such f) (have_condition is_such fs) none in
        either_same (PassesFilter P f) (PassesFilter Q f) (PassesSome P fs) (PassesSome Q fs) (filter_same f parts.0) (some_filter fs parts.1)

-- ---- Emails

module _ (earlier now : List (ℕ × Email)) where
  condition_same : (e : Email) (c : EmailCondition) → reads_thread c ≡ false → EmailMatches earlier e c ↔ EmailMatches now e c
  condition_same e (Record c) alone = ((λ h. h), (λ h. h))
  condition_same e (Header name words) alone = ((λ h. h), (λ h. h))
  condition_same e (Thread quantity keyword) alone = absurd (cc)

  pub takes_same : (f : FilterTree EmailCondition) (e : Email) → has_condition reads_thread f ≡ false
      → PassesFilter (EmailMatches earlier e) f ↔ PassesFilter (EmailMatches now e) f
  takes_same f e none = filter_same reads_thread (EmailMatches earlier e) (EmailMatches now e) (condition_same e) f none

  property_same : (s : EmailSort) (a b : Email) → sort_reads_thread s ≡ false → cmp_by_property earlier s a b ≡ cmp_by_property now s a b
  property_same sort.ReceivedAt a b alone = refl
  property_same sort.Size a b alone = refl
  property_same sort.From a b alone = refl
  property_same sort.To a b alone = refl
  property_same sort.Subject a b alone = refl
  property_same sort.SentAt a b alone = refl
  property_same (sort.HasKeyword keyword) a b alone = refl
  property_same (sort.AllInThreadHaveKeyword keyword) a b alone = absurd (cc)
  property_same (sort.SomeInThreadHaveKeyword keyword) a b alone = absurd (cc)

  pub order_same : (cs : List EmailComparator) (a b : Email) → list_any (λ (c : EmailComparator). sort_reads_thread c.property) cs ≡ false
      → email_cmp earlier cs a b ≡ email_cmp now cs a b
  order_same [] a b none = refl
  order_same (c ∷ cs) a b none =
      let parts = neither (sort_reads_thread c.property) (list_any (λ (d : EmailComparator). sort_reads_thread d.property) cs) none in
      ap (λ (o : Ordering). ordering_then (directed c.is_ascending o) (email_cmp earlier cs a b)) (property_same c.property a b parts.0)
      ∙ ap (λ (o : Ordering). ordering_then (directed c.is_ascending (cmp_by_property now c.property a b)) o) (order_same cs a b parts.1)
