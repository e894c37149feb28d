use Rattle.std.proofs.Common.{◌≡◌, ◌∙◌, ℕ, refl, sym, ap, subst, arith}
use Rattle.told_mail.specs.Mail.{Mail, IsNextMail}
use Rattle.told_mail.specs.Told.{counted_up}
use Rattle.told_folder.proofs.KeyedLemmas.{some_same}
use Rattle.told_changes.proofs.Changing.{stays}
use Rattle.told_changes.proofs.Steps.{steps_once}
use Rattle.told_changes.proofs.telling.tell.Goals as goal

pub returns-in-Some-clause-contradicts : goal.returns-in-Some-clause-contradicts
returns-in-Some-clause-contradicts c = λ l e. (let same : c.in-Some.landing ≡ l = some_same _ _ (c.in-Some.ensures ∙ e) in cc, refl)

pub returns-in-Some-clause-counts : goal.returns-in-Some-clause-counts
returns-in-Some-clause-counts c = record { rises = omega arith; by_one = omega arith; stands = λ e l. refl }

pub returns-in-Some-clause-next : goal.returns-in-Some-clause-next
returns-in-Some-clause-next c = stays c.args.mirror.now.mail c.each_is_mail.ensures

pub returns-clause-counts : goal.returns-clause-counts
returns-clause-counts c =
    steps_once _ _ _ (omega (arith, c.changes-before.ensures)) c.tell_as-told.ensures.steps c.count_as_one.ensures.mail
    (λ e. c.count_as_one.ensures.same (e ∙ sym c.changes-before.ensures) ∙ c.changes-before.ensures)
    (λ other. c.count_as_one.ensures.more (λ e. other (e ∙ c.changes-before.ensures)) ∙ ap (λ (n : ℕ). counted_up n) c.changes-before.ensures)

pub returns-clause-next : goal.returns-clause-next
returns-clause-next c = subst (λ (m : Mail). IsNextMail c.args.mirror.now.mail m) (sym c.count_as_one.ensures.mail) c.tell_as-told.ensures.steps.next
