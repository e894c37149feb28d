use Rattle.std.proofs.Common.{ℕ, List, sym, ap, map, ◌∙◌}
use Rattle.serde_json.specs.Find.{unescape}
use Rattle.set_patches.specs.Patches.{Pointer, Whole, pointer_at}
use Rattle.set_patches.proofs.TokenLemmas.{one_token, more_tokens}
use Rattle.set_patches.proofs.patches.pointer_of.Goals as goal

abbrev points : List (List ℕ) → Pointer
points tokens = pointer_at (map unescape tokens)

pub returns-in_ok-text_of-in-None : goal.returns-in_ok-text_of-in-None
returns-in_ok-text_of-in-None c =
    ap (λ (t : List ℕ). Whole t) c.in_ok-text_of-in-None.ensures ∙ sym (ap points (one_token c.args.key.now c.in-None.ensures.cases))

pub returns-in_ok-pointer_within-in-Some : goal.returns-in_ok-pointer_within-in-Some
returns-in_ok-pointer_within-in-Some c =
    c.in_ok-pointer_within-in-Some.ensures ∙ sym (ap points (more_tokens c.args.key.now (c.in-Some.front, c.in-Some.rest) c.in-Some.ensures.cases))
