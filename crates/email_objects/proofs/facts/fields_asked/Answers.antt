use Rattle.std.proofs.Common.{◌≡◌, ◌∙◌, Bool, List, ℕ, [], sym, ap, subst}
use Rattle.std.specs.Prelude.{if◌then◌else◌}
use Rattle.std.proofs.lemmas.Result.{IfOk-weaker}
use Rattle.mail_header.specs.Fields.{names_and_raws, IsHeader}
use Rattle.email_objects.specs.EmailObjects.{AreFields}
use Rattle.email_objects.specs.Properties.{needs_email_header}
use Rattle.email_objects.proofs.facts.fields_asked.Goals as goal

pub returns-then-needs_header : goal.returns-then-needs_header
returns-then-needs_header c =
    let ps = c.args.properties.now in
    let header = c.args.header.now in
    let read : (if needs_email_header ps then header else []) ≡ header =
    ap (λ (b : Bool). if b then header else []) (sym c.needs_header.ensures ∙ c.if-needs_header.true) in
    IfOk-weaker c.fields.result (λ f. IsHeader (names_and_raws f) f.end header) (λ f. AreFields ps header (names_and_raws f))
    (λ f h. record { end = f.end; is_header = subst (λ (b : List ℕ). IsHeader (names_and_raws f) f.end b) (sym read) h }) c.fields.ensures
