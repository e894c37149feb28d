-- The keywords that a filter asks of Threads, and their Threads, as they are found once a query.
use Rattle.std.specs.Prelude.{ℕ, List, [], ◌∷◌, ◌++◌, Option, IsSomeAnd, Vec}
use Rattle.std.specs.BTreeMap.{BTreeMap, get_by}
use Rattle.std.specs.Cmp.Lexicographic.{slice_cmp}
use Rattle.std.specs.List.{AllByRecursion}
use Rattle.std.specs.Ordering.{nat_cmp}
use Rattle.std.specs.declared.alloc.Global.{Global}
use Rattle.mail_maps.specs.Serve.{Email}
use Rattle.query_conditions.specs.ThreadKeywords.{AreThreadsOf}
use Rattle.query_conditions.specs.declared.threads.KeywordThreads.{KeywordThreads}
use Rattle.query_arguments.specs.declared.email_condition.EmailCondition.{EmailCondition}
use Rattle.query_arguments.specs.declared.email_condition.EmailCondition.TheVariants.{Record, Header, Thread}
use Rattle.query_lists.specs.Filters.{FilterTree, conditions, joined_by, FilterTrees, no_filters, filters}

-- ---- filters of which each condition is so

module _ {C : Type 0} (P : C → Type 0) where
  abbrev mutual
    pub EachCondition : FilterTree C → Type 0
    EachCondition (conditions cs) = AllByRecursion P cs
    EachCondition (joined_by operator fs) = EachConditionOf fs

    pub EachConditionOf : FilterTrees C → Type 0
    EachConditionOf no_filters = Unit {0}
    EachConditionOf (filters f fs) = EachCondition f × EachConditionOf fs

-- ---- keywords asked of Threads

abbrev pub keyword_asked : EmailCondition → List (List ℕ)
keyword_asked (Record c) = []
keyword_asked (Header name words) = []
keyword_asked (Thread quantity keyword) = keyword ∷ []

abbrev pub keywords_of_all : List EmailCondition → List (List ℕ)
keywords_of_all [] = []
keywords_of_all (c ∷ cs) = keyword_asked c ++ keywords_of_all cs

abbrev mutual
  pub keywords_asked : FilterTree EmailCondition → List (List ℕ)
  keywords_asked (conditions cs) = keywords_of_all cs
  keywords_asked (joined_by operator fs) = keywords_of_each fs

  pub keywords_of_each : FilterTrees EmailCondition → List (List ℕ)
  keywords_of_each no_filters = []
  keywords_of_each (filters f fs) = keywords_asked f ++ keywords_of_each fs

-- ---- their Threads

abbrev pub KeywordMap : Type 0
KeywordMap = BTreeMap (Vec ℕ Global) KeywordThreads

abbrev pub threads_in : KeywordMap → List ℕ → Option KeywordThreads
threads_in found keyword = get_by (λ (k : Vec ℕ Global). slice_cmp nat_cmp keyword k.items) found

-- the Threads of these Emails are found of the keyword
abbrev pub HasThreads : List (ℕ × Email) → KeywordMap → List ℕ → Type 0
HasThreads emails found keyword = IsSomeAnd (threads_in found keyword) (λ t. AreThreadsOf t emails keyword)

-- those that a condition asks are found
abbrev pub KnowsThreads : List (ℕ × Email) → KeywordMap → EmailCondition → Type 0
KnowsThreads emails found (Record c) = Unit {0}
KnowsThreads emails found (Header name words) = Unit {0}
KnowsThreads emails found (Thread quantity keyword) = HasThreads emails found keyword

-- what was found of any keyword is right
abbrev pub AreSound : List (ℕ × Email) → KeywordMap → Type 0
AreSound emails found = AllByRecursion (λ (e : Vec ℕ Global × KeywordThreads). AreThreadsOf e.1 emails e.0.items) found.entries

-- whatever was found is found still
abbrev pub StillThere : List (ℕ × Email) → KeywordMap → KeywordMap → Type 0
StillThere emails old new = (keyword : List ℕ) → HasThreads emails old keyword → HasThreads emails new keyword
