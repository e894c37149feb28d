use Rattle.std.proofs.Common.{Vec, Global, List, subst}
use Rattle.std.proofs.lemmas.Result.{IfOk-weaker}
use Rattle.header_words.proofs.ShapeLemmas.{take_some}
use Rattle.header_tokens.specs.declared.token.Alphabet.TheVariants as alphabet
use Rattle.header_tokens.specs.declared.token.Token.{Token}
use Rattle.header_tokens.specs.Tokens.{AreTokens}
use Rattle.header_tokens.specs.TokenView.{tokens_view}
use Rattle.header_addresses.specs.reading.GroupBuilding.{NameIn}
use Rattle.header_addresses.proofs.PartLemmas.{name_told}
use Rattle.header_addresses.proofs.parts.name_of_phrase.Goals as goal

pub returns-in-Some : goal.returns-in-Some
returns-in-Some c =
    let f = c.in-Some.found in
    let a = take_some (λ (v : Vec Token Global). AreTokens alphabet.Mail (tokens_view v.items) c.args.text.now) c.in_ok-tokens.field-0 f c.in-Some.is c.in_ok-tokens.ensures.some in
    IfOk-weaker c.name_in.result _ _ (λ r h. name_told c.args.text.now (tokens_view f.items) r a
    (subst (λ (u : List Token). NameIn (tokens_view u) r) c.as_slice.ensures.value h)) c.name_in.ensures
