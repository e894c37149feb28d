use Rattle.std.proofs.Common.{◌∷◌, ℕ, List, sym, ap, map, ◌∙◌}
use Rattle.serde_json.specs.Find.{unescape}
use Rattle.set_patches.specs.Patches.{Pointer, Within, Deeper, pointer_at}
use Rattle.set_patches.proofs.TokenLemmas.{one_token, more_tokens, deeper_is}
use Rattle.set_patches.proofs.patches.pointer_within.Goals as goal

abbrev points : List ℕ → List (List ℕ) → Pointer
points front tokens = pointer_at (map unescape (front ∷ tokens))

pub returns-in_ok-text_of-in-None : goal.returns-in_ok-text_of-in-None
returns-in_ok-text_of-in-None c =
    ap (λ (t : List ℕ). Within t c.in_ok-text_of-in-None.field-0) c.in_ok-property.ensures
    ∙ ap (λ (t : List ℕ). Within (unescape c.args.front.now) t) c.in_ok-text_of-in-None.ensures
    ∙ sym (ap (points c.args.front.now) (one_token c.args.rest.now c.in-None.ensures.cases))

pub returns-in-Some : goal.returns-in-Some
returns-in-Some c =
    let x = c.in-Some.field-0 in
    ap (λ (t : List ℕ). Deeper t) c.in_ok-property.ensures
    ∙ sym (deeper_is (unescape c.args.front.now) (unescape x.0.now) x.1.now)
    ∙ sym (ap (points c.args.front.now) (more_tokens c.args.rest.now x c.in-Some.ensures.cases))
