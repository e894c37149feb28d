use Rattle.std.proofs.Common.{inl, inr}
use Rattle.serde_json.specs.View.{view, members_view}
use Rattle.draft_reading.specs.Properties.{Allows}
use Rattle.draft_reading.specs.declared.property.Property.TheVariants as property
use Rattle.draft_reading.proofs.PropertyLemmas.{of_property}
use Rattle.draft_reading.proofs.checks.allows.Goals as goal

pub returns-in-From : goal.returns-in-From
unfolding Allows
returns-in-From c =
    let all = members_view c.args.all.now.entries in
    let d = view c.args.value.now in
    let p = c.args.property in
    let r = c.are_addresses.result in
    let h = c.are_addresses.ensures in
    elim c.in-From.is [
      | inl e ↦ of_property all p property.From d r e h
      | inr rest ↦ elim rest [
        | inl e ↦ of_property all p property.Sender d r e h
        | inr rest2 ↦ elim rest2 [
          | inl e ↦ of_property all p property.ReplyTo d r e h
          | inr rest3 ↦ elim rest3 [
            | inl e ↦ of_property all p property.To d r e h
            | inr rest4 ↦ elim rest4 [
              | inl e ↦ of_property all p property.Cc d r e h
              | inr e ↦ of_property all p property.Bcc d r e h
            ]
          ]
        ]
      ]
    ]
