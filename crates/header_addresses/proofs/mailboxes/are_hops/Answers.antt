use Rattle.std.proofs.Common.{◌≡◌, ◌<◌, ◌≤◌, List, [], ◌∷◌, length, drop, take, ◌-◌, sym, ap, ◌∙◌, arith}
use Rattle.std.proofs.lemmas.List.{take_all}
use Rattle.header_tokens.specs.declared.token.Token.{Token}
use Rattle.header_addresses.specs.Mailboxes.{are_hops}
use Rattle.header_addresses.specs.AddressLists.{is_no_comma}
use Rattle.header_addresses.specs.reading.ElementReading.{are_hops_behind}
use Rattle.header_tokens.specs.TokenView.{token_view, tokens_view}
use Rattle.header_addresses.proofs.ClassLemmas.{viewed_shorter}
use Rattle.header_addresses.proofs.MailboxLemmas.{no_hop, hop_passed}
use Rattle.header_addresses.proofs.mailboxes.are_hops.Goals as goal

-- what follows the first token
abbrev pub more : List Token → List Token
more r = take (length r - 1) (drop 1 r)

behind_comma : (r : List Token) → 1 ≤ length r → are_hops_behind (tokens_view r) ≡ are_hops [] (tokens_view (more r))
behind_comma [] e = absurd (omega arith)
behind_comma (x ∷ r) e = ap (λ (u : List Token). are_hops [] (tokens_view u)) (sym (take_all (length (x ∷ r) - 1) r (omega arith)))

shorter : (r : List Token) → 1 ≤ length r → length (more r) < length r
shorter [] e = absurd (omega arith)
shorter (x ∷ r) e = omega (arith, ap length (take_all (length (x ∷ r) - 1) r (omega arith)))

pub returns-then-not-is_hop : goal.returns-then-not-is_hop
returns-then-not-is_hop c = sym (no_hop (tokens_view c.args.tokens.now) _ c.cut_tokens.ensures.front (sym c.is_hop.ensures ∙ c.if-not-is_hop.true))

pub loop-rest-init : goal.loop-rest-init
loop-rest-init c = sym (hop_passed (tokens_view c.args.tokens.now) _ _ c.cut_tokens.ensures.front c.cut_tokens.ensures.back (sym c.is_hop.ensures ∙ c.if-not-is_hop.false))

pub returns-then-not-is_hop-2 : goal.returns-then-not-is_hop-2
returns-then-not-is_hop-2 c =
    let r = c.loop-rest.rest.now in
    sym (no_hop (tokens_view (more r)) _ c.cut_tokens-in-len1-up.ensures.front (sym c.is_hop-in-len1-up.ensures ∙ c.if-not-is_hop-2.true))
    ∙ sym (behind_comma r c.in-len1-up.len_at_least)
    ∙ c.loop-rest.invariant

pub loop-rest-preserved : goal.loop-rest-preserved
loop-rest-preserved c =
    let r = c.loop-rest.rest.now in
    sym (hop_passed (tokens_view (more r)) _ _ c.cut_tokens-in-len1-up.ensures.front c.cut_tokens-in-len1-up.ensures.back
    (sym c.is_hop-in-len1-up.ensures ∙ c.if-not-is_hop-2.false))
    ∙ sym (behind_comma r c.in-len1-up.len_at_least)
    ∙ c.loop-rest.invariant

pub loop-rest-smaller : goal.loop-rest-smaller
loop-rest-smaller c =
    let r = c.loop-rest.rest.now in
    omega (arith, viewed_shorter token_view is_no_comma c.cut_tokens-in-len1-up.result.1.now (more r) c.cut_tokens-in-len1-up.ensures.back, shorter r c.in-len1-up.len_at_least)
