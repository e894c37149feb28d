use Rattle.std.proofs.Common.{List, ℕ, Vec, Global, sym, subst, ◌∙◌}
use Rattle.std.specs.BTreeMap.{insert_entry}
use Rattle.std.specs.Map.{lookup}
use Rattle.query_conditions.specs.Entries.{emails_at}
use Rattle.query_conditions.specs.ThreadKeywords.{AreThreadsOf}
use Rattle.query_conditions.specs.declared.threads.KeywordThreads.{KeywordThreads}
use Rattle.query_core.proofs.FoundLemmas.{Has, at, by_items, put_has, put_others, put_sound, there_has}
use Rattle.query_core.proofs.keyword_threads.find.Goals as goal

pub returns-then-contains_key-clause-found : goal.returns-then-contains_key-clause-found
returns-then-contains_key-clause-found c =
    there_has (emails_at c.args.emails.now) c.args.keyword.now c.args.found.now.entries c.requires (sym c.contains_key.ensures ∙ c.if-contains_key.true)

pub returns-clause-sound : goal.returns-clause-sound
returns-clause-sound c =
    let all = emails_at c.args.emails.now in
    let threads : KeywordThreads = c.in_ok-threads.threads in
    rw c.in_ok-insert.ensures.entries
    (put_sound all c.args.found.now.entries c.in_ok-key.key threads c.requires
    (subst (λ (octets : List ℕ). AreThreadsOf threads all octets) (sym (c.in_ok-key.ensures.items_if_clones_equal (λ x y e. e))) c.in_ok-threads.ensures))

pub returns-clause-found : goal.returns-clause-found
returns-clause-found c =
    let all = emails_at c.args.emails.now in
    let old = c.args.found.now.entries in
    let key : Vec ℕ Global = c.in_ok-key.key in
    let threads : KeywordThreads = c.in_ok-threads.threads in
    rw c.in_ok-insert.ensures.entries
    (subst (λ (octets : List ℕ). Has all octets (lookup (at octets) (insert_entry by_items old key threads))) (c.in_ok-key.ensures.items_if_clones_equal (λ x y e. e))
    (put_has all old key threads (subst (λ (octets : List ℕ). AreThreadsOf threads all octets) (sym (c.in_ok-key.ensures.items_if_clones_equal
    (λ x y e. e))) c.in_ok-threads.ensures)))

pub returns-clause-others : goal.returns-clause-others
returns-clause-others c = λ keyword has.
    let all = emails_at c.args.emails.now in
    let threads : KeywordThreads = c.in_ok-threads.threads in
    rw c.in_ok-insert.ensures.entries
    (put_others all keyword c.args.found.now.entries c.in_ok-key.key threads
    (subst (λ (octets : List ℕ). AreThreadsOf threads all octets) (sym (c.in_ok-key.ensures.items_if_clones_equal (λ x y e. e))) c.in_ok-threads.ensures) has)
