use Rattle.std.proofs.Common.{◌≡◌, ◌∙◌, refl, sym, ap, subst}
use Rattle.serde_json.specs.View.{members_view}
use Rattle.set_order.specs.declared.item.Item.{Item}
use Rattle.set_order.specs.declared.item.Item.TheVariants.{Create, Circle, Update, Destroy}
use Rattle.set_order.specs.reading.Items.{item_data}
use Rattle.set_methods.specs.Checks.{Checks, EmailRules, check_other, with_steps}
use Rattle.set_methods.proofs.emails.check_email.Goals as goal

pub returns-in_ok-check_creation-in-Create : goal.returns-in_ok-check_creation-in-Create
returns-in_ok-check_creation-in-Create c g given =
    subst (λ (item : Item). Checks (EmailRules c.args.uploads.now) g (item_data item) c.with_creation.result) (sym c.in-Create.is)
    (c.with_creation.ensures g c.args.uploads.now (members_view c.in-Create.creation.object.now.entries) (c.in_ok-check_creation-in-Create.ensures g given))

pub returns-in_ok-check_other-in_default : goal.returns-in_ok-check_other-in_default
returns-in_ok-check_other-in_default c g given = by c.args.item.now refl
  where
    steps : (item : Item) → c.args.item.now ≡ item → c.with_steps.result ≡ with_steps (check_other g (item_data item))
    steps item is =
        c.with_steps.ensures
        ∙ ap with_steps (c.in_ok-check_other-in_default.ensures g given ∙ ap (λ (i : Item). check_other g (item_data i)) is)

    by : (item : Item) → c.args.item.now ≡ item → Checks (EmailRules c.args.uploads.now) g (item_data item) c.with_steps.result
    by (Create k) is = absurd (c.in_default.not-Create k is)
    by (Circle key) is = steps (Circle key) is
    by (Update k) is = steps (Update k) is
    by (Destroy text) is = steps (Destroy text) is
