use Rattle.std.proofs.Common.{◌≡◌, ◌<◌, ◌≤◌, ◌-◌, ℕ, List, [], ◌∷◌, length, take, drop, get_or, Option, Some, None, MatchOption, refl, sym, ap, ◌∙◌, subst, arith}
use Rattle.std.proofs.lemmas.List.{take_all}
use Rattle.text_words.specs.Cuts.{front, back}
use Rattle.header_tokens.specs.declared.token.Token.{Token}
use Rattle.header_tokens.specs.Tokens.{Spelled}
use Rattle.header_addresses.specs.AddressLists.{Element}
use Rattle.header_addresses.specs.reading.ElementReading.{is_plain_token, bare_of, marked_of, element_of, element_in}
use Rattle.header_addresses.specs.reading.ElementView.{element_view}
use Rattle.header_tokens.specs.TokenView.{token_view, tokens_view}
use Rattle.header_addresses.proofs.elements.element_at.Goals as goal

cut_here : (ts plain rest : List Spelled) → plain ≡ front is_plain_token ts → rest ≡ back is_plain_token ts → element_in ts ≡ element_of plain rest
unfolding element_in
cut_here ts plain rest e f = ap (λ (u : List Spelled). element_of u (back is_plain_token ts)) (sym e) ∙ ap (λ (u : List Spelled). element_of plain u) (sym f)

at_end : (r : List Token) (plain : List Spelled) → length r < 1 → element_of plain (tokens_view r) ≡ bare_of plain
at_end [] plain e = refl
at_end (x ∷ r) plain e = absurd (omega arith)

at_mark : (r : List Token) (d : Token) (plain : List Spelled) → 1 ≤ length r
    → element_of plain (tokens_view r) ≡ marked_of plain (token_view (get_or r 0 d)) (tokens_view (take (length r - 1) (drop 1 r)))
at_mark [] d plain e = absurd (omega arith)
at_mark (x ∷ r) d plain e = ap (λ (u : List Token). marked_of plain (token_view x) (tokens_view u)) (sym (take_all (length (x ∷ r) - 1) r (omega arith)))

pub returns-in-empty : goal.returns-in-empty
returns-in-empty c =
    let e = cut_here (tokens_view c.args.tokens.now) _ _ c.cut_tokens.ensures.front c.cut_tokens.ensures.back
    ∙ at_end c.cut_tokens.result.1.now (tokens_view c.cut_tokens.result.0.now) c.in-empty.len_below in
    subst (λ (u : Option (Element × ℕ)). MatchOption c.bare.result (u ≡ None) (λ r. u ≡ Some (element_view r.0, r.1))) (sym e) c.bare.ensures

pub returns-in-len1-up : goal.returns-in-len1-up
returns-in-len1-up c =
    let e = cut_here (tokens_view c.args.tokens.now) _ _ c.cut_tokens.ensures.front c.cut_tokens.ensures.back
    ∙ at_mark c.cut_tokens.result.1.now _ (tokens_view c.cut_tokens.result.0.now) c.in-len1-up.len_at_least in
    subst (λ (u : Option (Element × ℕ)). MatchOption c.marked.result (u ≡ None) (λ r. u ≡ Some (element_view r.0, r.1))) (sym e) c.marked.ensures
