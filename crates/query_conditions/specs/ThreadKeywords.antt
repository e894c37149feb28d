-- Conditions of all Emails of a Thread (RFC 8621 section 4.4.1).
use Rattle.std.specs.Prelude.{◌≡◌, ℕ, ◌==◌, ◌&&◌, ◌||◌, Bool, not, IsTrue, List}
use Rattle.std.specs.BTreeSet.{contains}
use Rattle.std.specs.List.{list_all, list_any}
use Rattle.std.specs.Ordering.{nat_cmp}
use Rattle.mail_maps.specs.Keywords.{has_name}
use Rattle.mail_maps.specs.Serve.{Email}
use Rattle.query_conditions.specs.declared.email_condition.Quantity.{Quantity}
use Rattle.query_conditions.specs.declared.email_condition.Quantity.TheVariants as quantity
use Rattle.query_conditions.specs.declared.threads.KeywordThreads.{KeywordThreads}

-- the Email is in the Thread, and has the keyword; and it is, and lacks it
abbrev pub has_in_thread : List ℕ → ℕ → Email → Bool
has_in_thread keyword thread e = (e.immutable.thread == thread) && has_name keyword e.keywords

abbrev pub lacks_in_thread : List ℕ → ℕ → Email → Bool
lacks_in_thread keyword thread e = (e.immutable.thread == thread) && not (has_name keyword e.keywords)

-- of these Emails one of the Thread has the keyword
abbrev pub some_in_thread_has : List (ℕ × Email) → List ℕ → ℕ → Bool
some_in_thread_has emails keyword thread = list_any (λ (e : ℕ × Email). has_in_thread keyword thread e.1) emails

-- each of the Thread has it
abbrev pub all_in_thread_have : List (ℕ × Email) → List ℕ → ℕ → Bool
all_in_thread_have emails keyword thread = list_all (λ (e : ℕ × Email). not (e.1.immutable.thread == thread) || has_name keyword e.1.keywords) emails

abbrev pub ThreadMatches : List (ℕ × Email) → Quantity → List ℕ → ℕ → Type 0
ThreadMatches emails quantity.All keyword thread = IsTrue (all_in_thread_have emails keyword thread)
ThreadMatches emails quantity.Some keyword thread = IsTrue (some_in_thread_has emails keyword thread)
ThreadMatches emails quantity.None keyword thread = IsTrue (not (some_in_thread_has emails keyword thread))

-- these are the Threads of the Emails in which one has the keyword, and those in which one lacks it
pub record AreThreadsOf (t : KeywordThreads) (emails : List (ℕ × Email)) (keyword : List ℕ) : Type 0 where
  pub having : (thread : ℕ) → contains nat_cmp t.having thread ≡ some_in_thread_has emails keyword thread
  pub lacking : (thread : ℕ) → not (contains nat_cmp t.lacking thread) ≡ all_in_thread_have emails keyword thread
