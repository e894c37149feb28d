-- The body lists of a message name its leaves, and what is made of them is the data of a property.
use Rattle.std.proofs.Common.{◌≡◌, ◌∙◌, ℕ, true, List, [], ◌∷◌, refl, sym, ap, subst}
use Rattle.serde_json.specs.Data.{Data, boolean}
use Rattle.email_properties.specs.EmailProperties.{is_of_body}
use Rattle.email_properties.specs.Wanted.{BodyAsked}
use Rattle.email_properties.specs.declared.email_property.EmailProperty.{EmailProperty}
use Rattle.email_properties.specs.declared.email_property.EmailProperty.TheVariants as property
use Rattle.email_properties.specs.declared.part_property.PartProperty.{PartProperty}
use Rattle.mime_tree.specs.declared.lists.BodyLists.{BodyLists}
use Rattle.mime_tree.specs.declared.part.Part.{Part}
use Rattle.mime_tree.specs.BodyLists.{PartLists, start}
use Rattle.body_parts.specs.declared.body_properties.Body.{Body}
use Rattle.body_parts.specs.BodyProperties.{IsDataOf, IsPartListData, IsPreviewData, Reading}
use Rattle.body_parts.specs.Messages.{MessageData}
use Rattle.body_parts.specs.PartObjects.{AreObjects}
use Rattle.body_parts.specs.reading.LeafLists.{parts_of, parts_at}
use Rattle.body_parts.specs.reading.Readings.{IsOfBody, IsReadBody}
use Rattle.body_parts.proofs.LeafLemmas.{message_from, walk_inside}
use Rattle.body_parts.proofs.ObjectLemmas.{named}

-- what the code has read
abbrev pub reading_of : (body : Body) → IsReadBody body → Reading body.message.now.octets.now
reading_of body r = record {
  root = body.root.now;
  is_message = r.is_message;
  leaves = parts_of body.leaves.now;
  are_leaves = r.are_leaves;
  lists = body.lists.now;
  are_lists = r.are_lists;
}

-- the numbers of the lists are those of the parts in them
pub record AreNamed (leaves : List Part) (lists : BodyLists) (parts : PartLists) : Type 0 where
  pub text : parts_at leaves lists.text ≡ parts.text
  pub html : parts_at leaves lists.html ≡ parts.html
  pub attachments : parts_at leaves lists.attachments ≡ parts.attachments

pub are_named : {b : List ℕ} (read : Reading b) → AreNamed read.leaves read.lists read.are_lists.parts
are_named {b} read =
    let are = read.are_lists in
    let next = read.is_message.next in
    let numbered = message_from b read.root read.is_message read.leaves read.are_leaves in
    let inside = walk_inside start (read.root ∷ []) are.parts are.walks read.leaves read.are_leaves in
    record {
      text = ap (parts_at read.leaves) are.text ∙ named read.leaves next numbered are.parts.text inside.text;
      html = ap (parts_at read.leaves) are.html ∙ named read.leaves next numbered are.parts.html inside.html;
      attachments = ap (parts_at read.leaves) are.attachments ∙ named read.leaves next numbered are.parts.attachments inside.attachments;
    }

module _ (m : MessageData) (asked : BodyAsked) (read : Reading m.octets) (p : EmailProperty) (d : Data) where
  data_of : (q : EmailProperty) → p ≡ q → is_of_body q ≡ true → IsDataOf m asked read q d → IsOfBody m asked p d
  data_of q e t h = subst (λ (x : EmailProperty). IsOfBody m asked x d) (sym e) (t, (read, h))

  list_of : (parts : List PartProperty) (ns ms : List ℕ) (ls : List Part) → parts ≡ asked.parts → ns ≡ ms → parts_at read.leaves ms ≡ ls
      → IsPartListData m parts (parts_at read.leaves ns) d → IsPartListData m asked.parts ls d
  list_of parts ns ms ls e f g h =
      subst (λ (qs : List Part). IsPartListData m asked.parts qs d) (ap (parts_at read.leaves) f ∙ g)
      (subst (λ (a : List PartProperty). IsPartListData m a (parts_at read.leaves ns) d) e h)

  pub structure_of : (parts : List PartProperty) → p ≡ property.BodyStructure → parts ≡ asked.parts → AreObjects m parts (read.root ∷ []) (d ∷ []) → IsOfBody m asked p d
  structure_of parts e f h = data_of property.BodyStructure e refl (subst (λ (a : List PartProperty). AreObjects m a (read.root ∷ []) (d ∷ [])) f h)

  pub text_of : (parts : List PartProperty) (ns : List ℕ) → p ≡ property.TextBody → parts ≡ asked.parts → ns ≡ read.lists.text
      → IsPartListData m parts (parts_at read.leaves ns) d → IsOfBody m asked p d
  text_of parts ns e f g h = data_of property.TextBody e refl (list_of parts ns _ _ f g (are_named read).text h)

  pub html_of : (parts : List PartProperty) (ns : List ℕ) → p ≡ property.HtmlBody → parts ≡ asked.parts → ns ≡ read.lists.html
      → IsPartListData m parts (parts_at read.leaves ns) d → IsOfBody m asked p d
  html_of parts ns e f g h = data_of property.HtmlBody e refl (list_of parts ns _ _ f g (are_named read).html h)

  pub attachments_of : (parts : List PartProperty) (ns : List ℕ) → p ≡ property.Attachments → parts ≡ asked.parts → ns ≡ read.lists.attachments
      → IsPartListData m parts (parts_at read.leaves ns) d → IsOfBody m asked p d
  attachments_of parts ns e f g h = data_of property.Attachments e refl (list_of parts ns _ _ f g (are_named read).attachments h)

  pub values_of : p ≡ property.BodyValues → IsDataOf m asked read property.BodyValues d → IsOfBody m asked p d
  values_of e h = data_of property.BodyValues e refl h

  pub attached_of : p ≡ property.HasAttachment → d ≡ boolean read.lists.has_attachment → IsOfBody m asked p d
  attached_of e h = data_of property.HasAttachment e refl h

  pub preview_of : (ns : List ℕ) → p ≡ property.Preview → ns ≡ read.lists.text → IsPreviewData m.octets (parts_at read.leaves ns) d → IsOfBody m asked p d
  preview_of ns e g h =
      data_of property.Preview e refl (subst (λ (qs : List Part). IsPreviewData m.octets qs d) (ap (parts_at read.leaves) g ∙ (are_named read).text) h)
