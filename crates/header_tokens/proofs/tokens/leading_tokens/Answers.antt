use Rattle.std.proofs.Common.{◌≡◌, ◌++◌, ℕ, List, [], ◌∷◌, sym, ap, ◌∙◌, subst}
use Rattle.std.proofs.lemmas.List.{map-append}
use Rattle.header_tokens.specs.declared.token.Token.{Token}
use Rattle.header_tokens.specs.Tokens.{Spelled}
use Rattle.header_tokens.specs.TokenView.{token_view, tokens_view}
use Rattle.header_tokens.proofs.LeadingLemmas.{Leads, leads_more, leads_done}
use Rattle.header_tokens.proofs.tokens.leading_tokens.Goals as goal

pushed : (old new : List Token) (x : Token) → new ≡ old ++ x ∷ [] → tokens_view new ≡ tokens_view old ++ token_view x ∷ []
pushed old new x e = ap tokens_view e ∙ map-append token_view old (x ∷ [])

pub loop-token-preserved : goal.loop-token-preserved
loop-token-preserved c =
    let a = c.args.alphabet in
    let rest = c.loop-token.rest.now in
    let vs = tokens_view c.loop-token.found.items in
    let v = token_view c.in-Some.token in
    let f = c.in-Some.ensures.value in
    let m = leads_more a vs v f.len rest c.args.text.now c.loop-token.invariant f.read in
    let p = pushed c.loop-token.found.items c.push.new.self.items c.in-Some.token c.in_ok-push.ensures.items in
    subst (λ (u : List Spelled). Leads a u c.in-Some.behind.now c.args.text.now) (sym p)
    (subst (λ (u : List ℕ). Leads a (vs ++ v ∷ []) u c.args.text.now) (sym f.rest_is) m)

pub returns : goal.returns
returns c = leads_done c.args.alphabet (tokens_view c.loop-token.found.items) c.loop-token.rest.now c.args.text.now c.loop-token.invariant c.in_default.ensures.value
