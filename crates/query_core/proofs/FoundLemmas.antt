-- The Threads of keywords that were found.
use Rattle.std.proofs.Common.{◌≡◌, ℕ, List, [], ◌∷◌, ◌++◌, Bool, true, false, cond, Option, Some}
use Rattle.std.proofs.Common.{None, IsSomeAnd, is_some, Vec, Global, Bor, Ordering, Less, Equal, Greater, nat_cmp, is_eq}
use Rattle.std.proofs.Common.{◌+◌, ◌<◌, length, get_or, take, map, refl, sym, ap, subst, ◌∙◌}
use Rattle.std.proofs.lemmas.List.{map_push, take_more}
use Rattle.std.specs.BTreeMap.{insert_entry, is_at}
use Rattle.std.specs.Cmp.Lexicographic.{slice_cmp}
use Rattle.std.specs.List.{AllByRecursion}
use Rattle.std.specs.Map.{lookup}
use Rattle.std.specs.Option.{option_copied}
use Rattle.std.specs.Ordering.{match_ordering}
use Rattle.std.proofs.lemmas.Cmp.{nat_list_cmp_total, tied_itself}
use Rattle.std.proofs.lemmas.Map.Text.{is_eq-slice_cmp}
use Rattle.std.proofs.lemmas.Slice.Eq.{bytes_eq-Decides}
use Rattle.mail_maps.specs.Serve.{Email}
use Rattle.query_conditions.specs.ThreadKeywords.{AreThreadsOf}
use Rattle.query_conditions.specs.declared.threads.KeywordThreads.{KeywordThreads}
use Rattle.query_arguments.specs.declared.email_condition.EmailCondition.{EmailCondition}
use Rattle.query_arguments.specs.declared.email_condition.EmailCondition.TheVariants.{Record, Header, Thread}
use Rattle.query_lists.specs.Filters.{FilterTree, conditions, joined_by, FilterTrees, no_filters, filters}
use Rattle.query_core.specs.reading.Found.{EachCondition, EachConditionOf, HasThreads, KeywordMap, KnowsThreads}
use Rattle.query_core.specs.reading.Found.{StillThere, keywords_asked, keywords_of_all, keywords_of_each, threads_in}

abbrev pub Entries : Type 0
Entries = List (Vec ℕ Global × KeywordThreads)

abbrev pub by_items : Vec ℕ Global → Vec ℕ Global → Ordering
by_items a b = slice_cmp nat_cmp a.items b.items

-- whether the key is this keyword
abbrev pub at : List ℕ → Vec ℕ Global → Bool
at keyword k = is_at (λ (x : Vec ℕ Global). slice_cmp nat_cmp keyword x.items) k

same_octets : (x y : List ℕ) → is_eq (slice_cmp nat_cmp x y) ≡ true → x ≡ y
same_octets x y e = (bytes_eq-Decides x y).0 (sym (is_eq-slice_cmp x y) ∙ e)

at_itself : (k : Vec ℕ Global) → at k.items k ≡ true
at_itself k = ap is_eq (tied_itself nat_list_cmp_total k.items)

module _ (emails : List (ℕ × Email)) where
  abbrev Sound : Vec ℕ Global × KeywordThreads → Type 0
  Sound e = AreThreadsOf e.1 emails e.0.items

  abbrev pub Has : List ℕ → Option KeywordThreads → Type 0
  Has keyword o = IsSomeAnd o (λ t. AreThreadsOf t emails keyword)

  -- a keyword more, with its Threads
  pub put_sound : (es : Entries) (k : Vec ℕ Global) (t : KeywordThreads) → AllByRecursion Sound es → AreThreadsOf t emails k.items
      → AllByRecursion Sound (insert_entry by_items es k t)
  put_sound [] k t all is = (is, tt)
  put_sound (e ∷ es) k t all is = by (slice_cmp nat_cmp k.items e.0.items) refl (put_sound es k t all.1 is)
    where
      by : (o : Ordering) → slice_cmp nat_cmp k.items e.0.items ≡ o → AllByRecursion Sound (insert_entry by_items es k t)
          → AllByRecursion Sound (match_ordering o ((k, t) ∷ e ∷ es) ((e.0, t) ∷ es) (e ∷ insert_entry by_items es k t))
      by Less same more = (is, all)
      by Equal same more = (subst (λ (octets : List ℕ). AreThreadsOf t emails octets) (same_octets k.items e.0.items (ap is_eq same)) is, all.1)
      by Greater same more = (all.0, more)

  -- it is found then
  pub put_has : (es : Entries) (k : Vec ℕ Global) (t : KeywordThreads) → AreThreadsOf t emails k.items → Has k.items (lookup (at k.items) (insert_entry by_items es k t))
  put_has [] k t is = rw (at_itself k) is
  put_has (e ∷ es) k t is = by (slice_cmp nat_cmp k.items e.0.items) refl (put_has es k t is)
    where
      by : (o : Ordering) → slice_cmp nat_cmp k.items e.0.items ≡ o → Has k.items (lookup (at k.items) (insert_entry by_items es k t))
          → Has k.items (lookup (at k.items) (match_ordering o ((k, t) ∷ e ∷ es) ((e.0, t) ∷ es) (e ∷ insert_entry by_items es k t)))
      by Less same more = rw (at_itself k) is
      by Equal same more = let here : at k.items e.0 ≡ true = ap is_eq same in rw here is
      by Greater same more = let other : at k.items e.0 ≡ false = ap is_eq same in rw other more

  found_first : (keyword : List ℕ) (k : Vec ℕ Global) (t : KeywordThreads) (more : Option KeywordThreads) → AreThreadsOf t emails k.items → (b : Bool) → at keyword k ≡ b
      → (b ≡ false → Has keyword more) → Has keyword (cond b (Some t) more)
  found_first keyword k t more is true here others = subst (λ (octets : List ℕ). AreThreadsOf t emails octets) (sym (same_octets keyword k.items here)) is
  found_first keyword k t more is false other others = others refl

  -- and so is what was found before
  pub put_others : (keyword : List ℕ) (es : Entries) (k : Vec ℕ Global) (t : KeywordThreads) → AreThreadsOf t emails k.items → Has keyword (lookup (at keyword) es)
      → Has keyword (lookup (at keyword) (insert_entry by_items es k t))
  put_others keyword [] k t is has = absurd has
  put_others keyword (e ∷ es) k t is has = by (slice_cmp nat_cmp k.items e.0.items) refl (at keyword e.0) refl has (put_others keyword es k t is)
    where
      by : (o : Ordering) → slice_cmp nat_cmp k.items e.0.items ≡ o → (b : Bool) → at keyword e.0 ≡ b → Has keyword (cond b (Some e.1) (lookup (at keyword) es))
          → (Has keyword (lookup (at keyword) es) → Has keyword (lookup (at keyword) (insert_entry by_items es k t)))
          → Has keyword (lookup (at keyword) (match_ordering o ((k, t) ∷ e ∷ es) ((e.0, t) ∷ es) (e ∷ insert_entry by_items es k t)))
      by Less same b here h more = found_first keyword k t (cond (at keyword e.0) (Some e.1) (lookup (at keyword) es)) is (at keyword k) refl (λ n. has)
      by Equal same true here h more =
          let its : AreThreadsOf t emails e.0.items = subst (λ (octets : List ℕ). AreThreadsOf t emails octets) (same_octets k.items e.0.items (ap is_eq same)) is in
          rw here (subst (λ (octets : List ℕ). AreThreadsOf t emails octets) (sym (same_octets keyword e.0.items here)) its)
      by Equal same false other h more = rw other h
      by Greater same true here h more = rw here h
      by Greater same false other h more = rw other (more h)

  value_is : (u t : KeywordThreads) → Some u ≡ Some t → u ≡ t
  value_is u t e = cc

  looked_up : (keyword : List ℕ) (es : Entries) (t : KeywordThreads) → AllByRecursion Sound es → lookup (at keyword) es ≡ Some t → AreThreadsOf t emails keyword
  looked_up keyword [] t all found = absurd (let e : None ≡ Some t = found in cc)
  looked_up keyword (e ∷ es) t all found = by (at keyword e.0) refl found (looked_up keyword es t all.1)
    where
      by : (b : Bool) → at keyword e.0 ≡ b → cond b (Some e.1) (lookup (at keyword) es) ≡ Some t → (lookup (at keyword) es ≡ Some t → AreThreadsOf t emails keyword)
          → AreThreadsOf t emails keyword
      by true here is more =
          subst (λ (octets : List ℕ). AreThreadsOf t emails octets) (sym (same_octets keyword e.0.items here))
          (subst (λ (u : KeywordThreads). AreThreadsOf u emails e.0.items) (value_is e.1 t is) all.0)
      by false other is more = more is

  -- a keyword that is there has its Threads
  pub there_has : (keyword : List ℕ) (es : Entries) → AllByRecursion Sound es → is_some (lookup (at keyword) es) ≡ true → Has keyword (lookup (at keyword) es)
  there_has keyword es all there = by (lookup (at keyword) es) refl there
    where
      by : (o : Option KeywordThreads) → lookup (at keyword) es ≡ o → is_some o ≡ true → Has keyword o
      by None is t = absurd (let e : false ≡ true = t in cc)
      by (Some t) is _ = looked_up keyword es t all is

  -- those of a keyword, as they are looked up
  pub found_are : (found : KeywordMap) (keyword : List ℕ) (o : Option (Bor KeywordThreads)) (t : Bor KeywordThreads) → option_copied o ≡ threads_in found keyword → o ≡ Some t
      → HasThreads emails found keyword → AreThreadsOf t.now emails keyword
  found_are found keyword o t copied is has = subst (Has keyword) (sym copied ∙ ap option_copied is) has

  pub found_some : (found : KeywordMap) (keyword : List ℕ) (o : Option (Bor KeywordThreads)) → option_copied o ≡ threads_in found keyword → o ≡ None
      → HasThreads emails found keyword → ⊥
  found_some found keyword o copied is has = subst (Has keyword) (sym copied ∙ ap option_copied is) has

  -- ---- what a filter asks

  all_front : (P : List ℕ → Type 0) (xs ys : List (List ℕ)) → AllByRecursion P (xs ++ ys) → AllByRecursion P xs
  all_front P [] ys all = tt
  all_front P (x ∷ xs) ys all = (all.0, all_front P xs ys all.1)

  all_back : (P : List ℕ → Type 0) (xs ys : List (List ℕ)) → AllByRecursion P (xs ++ ys) → AllByRecursion P ys
  all_back P [] ys all = all
  all_back P (x ∷ xs) ys all = all_back P xs ys all.1

  module _ (found : KeywordMap) where
    knows_all : (cs : List EmailCondition) → AllByRecursion (HasThreads emails found) (keywords_of_all cs) → AllByRecursion (KnowsThreads emails found) cs
    knows_all [] all = tt
    knows_all (Record c ∷ cs) all = (tt, knows_all cs all)
    knows_all (Header name words ∷ cs) all = (tt, knows_all cs all)
    knows_all (Thread quantity keyword ∷ cs) all = (all.0, knows_all cs all.1)

    mutual
      -- where the Threads of each keyword asked are found, each condition's are
      pub knows_filter : (f : FilterTree EmailCondition) → AllByRecursion (HasThreads emails found) (keywords_asked f) → EachCondition (KnowsThreads emails found) f
      knows_filter (conditions cs) all = knows_all cs all
      knows_filter (joined_by operator fs) all = knows_filters fs all

      knows_filters : (fs : FilterTrees EmailCondition) → AllByRecursion (HasThreads emails found) (keywords_of_each fs) → EachConditionOf (KnowsThreads emails found) fs
      knows_filters no_filters all = tt
      knows_filters (filters f fs) all = (
        knows_filter f (all_front (HasThreads emails found) (keywords_asked f) (keywords_of_each fs) all),
        knows_filters fs (all_back (HasThreads emails found) (keywords_asked f) (keywords_of_each fs) all),
      )

-- one keyword more that is found, where those so far are found still
pub have_more : (emails : List (ℕ × Email)) (old new : KeywordMap) (keywords : List (Bor (List ℕ))) (i : ℕ) (d : Bor (List ℕ)) → i < length keywords
    → HasThreads emails new (get_or keywords i d).now → StillThere emails old new
    → AllByRecursion (HasThreads emails old) (map (λ (k : Bor (List ℕ)). k.now) (take i keywords))
    → AllByRecursion (HasThreads emails new) (map (λ (k : Bor (List ℕ)). k.now) (take (i + 1) keywords))
have_more emails old new keywords i d within has still all =
    let shown : List (Bor (List ℕ)) → List (List ℕ) = λ ks. map (λ (k : Bor (List ℕ)). k.now) ks in
    subst (AllByRecursion (HasThreads emails new))
    (sym (ap shown (take_more keywords i d within) ∙ map_push (λ (k : Bor (List ℕ)). k.now) (take i keywords) (get_or keywords i d)))
    (all_push (shown (take i keywords)) all)
  where
    all_push : (ks : List (List ℕ)) → AllByRecursion (HasThreads emails old) ks → AllByRecursion (HasThreads emails new) (ks ++ (get_or keywords i d).now ∷ [])
    all_push [] h = (has, tt)
    all_push (k ∷ ks) h = (still k h.0, all_push ks h.1)
