use Rattle.std.proofs.Common.{ℕ, List, Vec, Global, ◌∙◌, subst}
use Rattle.std.proofs.lemmas.Result.{IfOk-weaker}
use Rattle.header_words.proofs.ShapeLemmas.{take_none, take_some}
use Rattle.header_tokens.specs.declared.token.Token.{Token}
use Rattle.header_tokens.specs.declared.token.Alphabet.TheVariants as alphabet
use Rattle.header_tokens.specs.Tokens.{Spelled, AreTokens}
use Rattle.header_addresses.specs.Names.{NoGroups}
use Rattle.header_addresses.specs.reading.GroupBuilding.{GroupsIn}
use Rattle.header_tokens.specs.TokenView.{tokens_view}
use Rattle.header_addresses.proofs.GroupLemmas.{no_tokens, groups_form}
use Rattle.header_addresses.proofs.address_lists.as_groups.Goals as goal

pub returns-in-None : goal.returns-in-None
returns-in-None c =
    let N : Type 0 = (ts : List Spelled) → AreTokens alphabet.Mail ts c.as_slice.result.now → ⊥ in
    let n = take_none {P = N} c.in_ok-tokens.field-0 c.in-None.is c.in_ok-tokens.ensures.none in
    NoGroups (no_tokens c.args.raw.now (subst (λ (u : List ℕ). (ts : List Spelled) → AreTokens alphabet.Mail ts u → ⊥) (c.as_slice.ensures ∙ c.in_ok-raw.ensures) n))

pub returns : goal.returns
returns c =
    let f = c.in-Some.found in
    let t = take_some (λ (v : Vec Token Global). AreTokens alphabet.Mail
    (tokens_view v.items) c.as_slice.result.now) c.in_ok-tokens.field-0 f c.in-Some.is c.in_ok-tokens.ensures.some in
    let a = subst (λ (u : List ℕ). AreTokens alphabet.Mail (tokens_view f.items) u) (c.as_slice.ensures ∙ c.in_ok-raw.ensures) t in
    IfOk-weaker c.groups_in.result _ _ (λ r h. groups_form c.args.raw.now (tokens_view f.items) r a
    (subst (λ (u : List Token). GroupsIn (tokens_view u) r) c.as_slice-in-Some.ensures.value h)) c.groups_in.ensures
