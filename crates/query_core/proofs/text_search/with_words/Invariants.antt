use Rattle.std.proofs.Common.{◌≡◌, ℕ, List, Bor, map, take}
use Rattle.mail_maps.specs.Serve.{Email}
use Rattle.query_conditions.specs.Entries.{email_at, emails_at}
use Rattle.query_conditions.specs.Words.{HasWords}
use Rattle.query_conditions.specs.declared.entry.EmailEntry.{EmailEntry}
use Rattle.query_core.specs.reading.Kept.{Keeps}
use Rattle.query_core.proofs.text_search.with_words.Given as goal

-- of those so far are left those that have the words
abbrev pub invariant-loop-at : goal.invariant-loop-at
invariant-loop-at l =
    (of : Email → List ℕ) → map (λ (t : Bor (List ℕ)). t.now) l.texts ≡ map (λ (e : EmailEntry). of (email_at e)) l.rows
    → Keeps (λ (e : ℕ × Email). HasWords l.words (of e.1)) (emails_at (take l.at l.rows)) (emails_at l.kept.items)
