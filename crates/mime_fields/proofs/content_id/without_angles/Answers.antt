use Rattle.std.proofs.Common.{◌≡◌, ℕ, List, [], ◌∷◌, ◌++◌, ap, ◌∙◌, sym, subst}
use Rattle.mime_fields.specs.ContentIds.{IsWithoutAngles, InAngles, Bare}
use Rattle.mime_fields.proofs.content_id.without_angles.Goals as goal

pub returns-in-None : goal.returns-in-None
returns-in-None c = Bare c.args.text.now (λ x. c.in-None.ensures (x ++ 62 ∷ []))

pub returns-in-None-before : goal.returns-in-None-before
returns-in-None-before c = Bare c.args.text.now (λ x e. let f = c.in-Some.ensures in let p : c.in-Some.rest.now ≡ x ++ 62 ∷ [] = cc in c.in-None-before.ensures x p)

pub returns-in-Some-before : goal.returns-in-Some-before
returns-in-Some-before c =
    let x = c.in-Some-before.inner.now in
    subst (λ (u : List ℕ). IsWithoutAngles x u) (sym (c.in-Some.ensures ∙ ap (λ (u : List ℕ). 60 ∷ u) c.in-Some-before.ensures)) (InAngles x)
