use Rattle.std.proofs.Common.{◌≡◌, ℕ, List, Bor, map, ap, ◌∙◌}
use Rattle.mail_maps.specs.Serve.{Email}
use Rattle.query_conditions.specs.Entries.{email_at}
use Rattle.query_conditions.specs.Records.{field_text}
use Rattle.query_conditions.specs.declared.entry.EmailEntry.{EmailEntry}
use Rattle.query_core.proofs.text_search.having_words.Goals as goal

pub returns : goal.returns
returns c =
    let texts : List (Bor (List ℕ)) → List (List ℕ) = map (λ (t : Bor (List ℕ)). t.now) in
    let same : texts c.deref-3.result.now ≡ map (λ (e : EmailEntry). field_text c.args.field (email_at e).immutable.envelope) c.args.rows.now =
    ap texts c.deref-3.ensures.value ∙ c.in_ok-texts.ensures ∙ ap texts c.deref-2.ensures.value ∙ c.in_ok-found.ensures in
    c.with_words.ensures (λ (e : Email). field_text c.args.field e.immutable.envelope) same
