use Rattle.std.proofs.Common.{rules, ◌≡◌, List, ℕ, ◌∷◌, codes, map, string_bytes, sym, ap, subst, ◌∙◌}
use Rattle.gate_words.specs.reading.Words.{page_of}
use Rattle.gate_words.specs.Task.{IsTask}
use Rattle.gate_words.proofs.Tasks.{err-then, no-serve, no-once, no-store, no-check}
use Rattle.gate_words.proofs.reading.command_task.Goals as goal

pub returns-in-serve-clause-refused : goal.returns-in-serve-clause-refused
returns-in-serve-clause-refused c =
    let words : map string_bytes c.args.words.now ≡ codes "serve" ∷ map string_bytes c.in-Some.options.now = search rules in
    err-then c.serve.result c.serve.ensures.refused (λ error none is task asked.
    no-serve (map string_bytes c.in-Some.options.now) (ap page_of (sym words) ∙ c.requires.no_page) (none is) task (subst (λ (w : List (List ℕ)). IsTask w task) words asked))

pub returns-in-once-clause-refused : goal.returns-in-once-clause-refused
returns-in-once-clause-refused c =
    let words : map string_bytes c.args.words.now ≡ codes "once" ∷ map string_bytes c.in-Some.options.now = search rules in
    err-then c.once.result c.once.ensures.refused (λ error none is task asked.
    no-once (map string_bytes c.in-Some.options.now) (ap page_of (sym words) ∙ c.requires.no_page) (none is) task (subst (λ (w : List (List ℕ)). IsTask w task) words asked))

pub returns-in-store-clause-refused : goal.returns-in-store-clause-refused
returns-in-store-clause-refused c =
    let words : map string_bytes c.args.words.now ≡ codes "store" ∷ map string_bytes c.in-Some.options.now = search rules in
    err-then c.store.result c.store.ensures.refused (λ error none is task asked.
    no-store (map string_bytes c.in-Some.options.now) (ap page_of (sym words) ∙ c.requires.no_page) (none is) task (subst (λ (w : List (List ℕ)). IsTask w task) words asked))

pub returns-in-check-clause-refused : goal.returns-in-check-clause-refused
returns-in-check-clause-refused c =
    let words : map string_bytes c.args.words.now ≡ codes "check" ∷ map string_bytes c.in-Some.options.now = search rules in
    err-then c.check.result c.check.ensures.refused (λ error none is task asked.
    no-check (map string_bytes c.in-Some.options.now) (ap page_of (sym words) ∙ c.requires.no_page) (none is) task (subst (λ (w : List (List ℕ)). IsTask w task) words asked))
