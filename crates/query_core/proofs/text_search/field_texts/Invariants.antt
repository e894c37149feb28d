use Rattle.std.proofs.Common.{◌≡◌, ◌++◌, ℕ, List, Bor, drop, map}
use Rattle.query_conditions.specs.Entries.{email_at}
use Rattle.query_conditions.specs.Records.{field_text}
use Rattle.query_conditions.specs.declared.entry.EmailEntry.{EmailEntry}
use Rattle.query_core.proofs.text_search.field_texts.Given as goal

-- those so far, and those of the rest
abbrev pub invariant-loop-row : goal.invariant-loop-row
invariant-loop-row l =
    map (λ (t : Bor (List ℕ)). t.now) l.texts.items ++ map (λ (e : EmailEntry). field_text l.field (email_at e).immutable.envelope) (drop l.row-index l.rows)
    ≡ map (λ (e : EmailEntry). field_text l.field (email_at e).immutable.envelope) l.rows
