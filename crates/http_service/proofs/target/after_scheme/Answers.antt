use Rattle.std.proofs.Common.{ap, sym, subst, ◌∙◌, List, ℕ, length, take, drop, codes, ◌<◌}
use Rattle.std.proofs.lemmas.Bool.Decides.{Decides-eqb}
use Rattle.std.proofs.lemmas.Slice.Eq.{slice_eq-Decides}
use Rattle.http_service.specs.Heads.{BeginsWithLetter}
use Rattle.http_service.specs.reading.Targets.{HasScheme}
use Rattle.http_service.proofs.TargetLemmas.{not_without_letter, not_without_room, not_without_sign, has_scheme}
use Rattle.http_service.proofs.target.after_scheme.Goals as goal

pub returns-then-not-begins_with_letter : goal.returns-then-not-begins_with_letter
returns-then-not-begins_with_letter c =
    not_without_letter c.args.target.now (λ begins.
    let k = c.begins_with_letter.ensures.1 (subst BeginsWithLetter (sym c.cut.ensures.front) begins) in
    let f = c.if-not-begins_with_letter.true in
    absurd cc)

pub returns-then-rest : goal.returns-then-rest
returns-then-rest c = not_without_room c.args.target.now (subst (λ (l : List ℕ). length l < 3) c.cut.ensures.back c.if-rest.true)

pub returns-then-eq : goal.returns-then-eq
returns-then-eq c =
    let f = c.if-not-begins_with_letter.false in
    let begins = subst BeginsWithLetter c.cut.ensures.front (c.begins_with_letter.ensures.0 f) in
    let sign = (slice_eq-Decides Decides-eqb c.split_at.result.0.now (codes "://") c.eq.result c.eq.ensures).0 c.if-eq.true in
    let at = c.split_at.ensures.front ∙ ap (take 3) c.cut.ensures.back in
    let rest = c.split_at.ensures.back ∙ ap (drop 3) c.cut.ensures.back in
    subst (HasScheme c.args.target.now) (sym rest) (has_scheme c.args.target.now begins (sym at ∙ sign))

pub returns-else-eq : goal.returns-else-eq
returns-else-eq c =
    let at = c.split_at.ensures.front ∙ ap (take 3) c.cut.ensures.back in
    not_without_sign c.args.target.now (λ sign.
    let k = (slice_eq-Decides Decides-eqb c.split_at.result.0.now (codes "://") c.eq.result c.eq.ensures).1 (at ∙ sign) in
    let f = c.if-eq.false in
    absurd cc)
