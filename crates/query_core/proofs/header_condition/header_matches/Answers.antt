use Rattle.std.proofs.Common.{List, ℕ, Option, IsTrue, ◌↔◌, refl, sym, subst}
use Rattle.std.proofs.lemmas.Result.{IfOk-weaker}
use Rattle.mail_header.specs.Fields.{names_and_raws}
use Rattle.query_core.specs.Headers.{HeaderMatches}
use Rattle.query_core.proofs.HeaderLemmas.{name_asked, words_missing, words_there}
use Rattle.query_core.proofs.header_condition.header_matches.Goals as goal

pub returns-in-None : goal.returns-in-None
returns-in-None c =
    let there = c.is_some-is_there.result in
    subst (λ (w : Option (List (List ℕ))). IsTrue there ↔ HeaderMatches c.args.header.now c.args.name.now w) (sym c.in-None.is)
    (name_asked c.args.header.now c.args.name.now c.last_field.result there there c.last_field.ensures c.is_some-is_there.ensures refl)

pub returns-in_ok-list-in-Some : goal.returns-in_ok-list-in-Some
returns-in_ok-list-in-Some c =
    let list = c.in_ok-list-in-Some.list in
    IfOk-weaker c.some_field_has_words.result _ _ (λ b same.
    subst (λ (w : Option (List (List ℕ))). IsTrue b ↔ HeaderMatches c.args.header.now c.args.name.now w) (sym c.in-Some.is)
    (words_there c.args.header.now c.args.name.now (names_and_raws list) list.end c.in_ok-list-in-Some.ensures c.in-Some.words c.last_field.result c.is_some-is_there.result b
    c.last_field.ensures c.is_some-is_there.ensures c.if-is_there.true same)) c.some_field_has_words.ensures

pub returns-else-is_there : goal.returns-else-is_there
returns-else-is_there c =
    let b = c.has_words.result in
    subst (λ (w : Option (List (List ℕ))). IsTrue b ↔ HeaderMatches c.args.header.now c.args.name.now w) (sym c.in-Some.is)
    (words_missing c.args.header.now c.args.name.now c.last_field.result c.is_some-is_there.result b c.last_field.ensures c.is_some-is_there.ensures
    c.in-Some.words c.if-is_there.false c.has_words.ensures)
