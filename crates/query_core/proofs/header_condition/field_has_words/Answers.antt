use Rattle.std.proofs.Common.{rules, ◌↔◌, ◌≡◌, IsTrue, true, List, ℕ, subst}
use Rattle.text_words.specs.Octets.{is_same_text}
use Rattle.mail_header.specs.Fields.{names_and_raws}
use Rattle.query_conditions.specs.Words.{HasWords}
use Rattle.query_core.proofs.HeaderLemmas.{has_at}
use Rattle.query_core.proofs.header_condition.field_has_words.Goals as goal

pub returns : goal.returns
returns c f there =
    let named : is_same_text c.in-Some.its_name.now c.args.name.now ≡ true = search rules in
    let same : IsTrue c.has_words.result ↔ HasWords c.args.words.now c.in_ok-text.text =
    subst (λ (t : List ℕ). IsTrue c.has_words.result ↔ HasWords c.args.words.now t) c.as_slice.ensures c.has_words.ensures in
    has_at (names_and_raws c.args.list.now) c.args.at c.args.name.now c.args.words.now c.in-Some.its_name.now c.in-Some-raw.raw.now c.in_ok-text.text c.in-Some.ensures.0
    c.in-Some-raw.ensures.0 f c.has_words.result c.in-Some.ensures.1 c.in-Some.ensures.2 c.in-Some-raw.ensures.1 c.in-Some-raw.ensures.2 named c.in_ok-text.ensures same there
