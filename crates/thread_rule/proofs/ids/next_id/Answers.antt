use Rattle.std.proofs.Common.{◌∷◌, List, ℕ, sym, ap, ◌∙◌, subst}
use Rattle.text_words.specs.Cuts.{Each}
use Rattle.text_words.proofs.CutLemmas.{front_each}
use Rattle.thread_rule.specs.Ids.{is_within, ids_in}
use Rattle.thread_rule.proofs.IdLemmas.{none_here, id_here, shorter_here}
use Rattle.thread_rule.proofs.ids.next_id.Goals as goal

pub returns-in-None-clause-ids : goal.returns-in-None-clause-ids
returns-in-None-clause-ids c = none_here c.args.text.now (λ t e. c.in-None.ensures t (c.cut.ensures.back ∙ e))

pub returns-in-Some-clause-ids : goal.returns-in-Some-clause-ids
returns-in-Some-clause-ids c =
    id_here c.args.text.now c.in-Some.more.now (sym c.cut.ensures.back ∙ c.in-Some.ensures) ∙ ap (λ (x : List ℕ). x ∷ ids_in c.in-Some.more.now) (sym c.cut.ensures.front)

pub returns-in-Some-clause-within : goal.returns-in-Some-clause-within
returns-in-Some-clause-within c =
    let P : List ℕ → Type 0 = λ x. Each is_within x in
    subst P (sym c.cut.ensures.front) (front_each is_within c.args.text.now)

pub returns-in-Some-clause-shorter : goal.returns-in-Some-clause-shorter
returns-in-Some-clause-shorter c = shorter_here c.args.text.now c.in-Some.more.now (sym c.cut.ensures.back ∙ c.in-Some.ensures)
