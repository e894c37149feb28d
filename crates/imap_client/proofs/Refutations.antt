-- What the definitions rule out.
use Rattle.std.proofs.Common.{◌≡◌, ℕ, Bool, List, [], ◌∷◌, Ok, Err, sym, ◌∙◌, ap}
use Rattle.imap_types.specs.declared.response.Response.{Response}
use Rattle.imap_exchange.specs.declared.link_end.LinkEnd.TheVariants as end
use Rattle.imap_exchange.specs.Received.{Octets}
use Rattle.imap_exchange.specs.Begins.{Begins}
use Rattle.imap_exchange.proofs.Verdicts.{first_same}
use Rattle.imap_client.specs.Connecting.{GreetsBy, greeting_says}

-- octets that begin with a BYE are no greeting that lets the client in
pub no_bye_is_welcome : (gave rest : List ℕ) (greeting : Response) (after : Octets) (preauth : Bool) → Begins (greeting ∷ []) rest gave → greeting_says greeting ≡ Err end.Bye
    → GreetsBy gave after (Ok preauth) → ⊥
no_bye_is_welcome gave rest greeting after preauth begins bye (other, says, begins', given) =
    let same = first_same greeting other rest after.octets gave begins begins' in
    let both : Err end.Bye ≡ Ok preauth = sym bye ∙ ap greeting_says same.0 ∙ says in
    cc
