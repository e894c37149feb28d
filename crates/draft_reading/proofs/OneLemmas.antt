-- Properties are read in one way.
use Rattle.std.proofs.Common.{◌≡◌, ℕ, List, [], ◌∷◌, Option, cond, Ordering, Less, Equal, Greater, nat_cmp, refl, ap, ◌∙◌}
use Rattle.std.specs.Cmp.Lexicographic.{slice_cmp}
use Rattle.std.specs.List.{AllZip, filter}
use Rattle.std.specs.Ordering.{ordering_reverse}
use Rattle.std.specs.Prelude.{is_none}
use Rattle.std.proofs.lemmas.Cmp.{nat_list_cmp_total}
use Rattle.std.proofs.lemmas.Map.Lookups.{exact_bytes}
use Rattle.serde_json.specs.Data.{Members}
use Rattle.jmap_arguments.specs.Gets.{distinct_ids}
use Rattle.mail_drafts.specs.declared.attachment.Attachment.{Attachment}
use Rattle.mail_drafts.specs.declared.draft.Draft.{Draft}
use Rattle.draft_reading.specs.Parts.{Attached}
use Rattle.draft_reading.specs.Properties.{IsFirstRefused}
use Rattle.draft_reading.specs.Readings.{IsUpload, IsDraftOf, IsWithout, attached_in, blob_ids, is_missing}

-- the first of them is one
pub one_first : (all : Members) (one other : List ℕ) → IsFirstRefused all one → IsFirstRefused all other → one ≡ other
one_first all one other a b = by (slice_cmp nat_cmp one other) refl
  where
    by : (o : Ordering) → slice_cmp nat_cmp one other ≡ o → one ≡ other
    by Less is = absurd (b.first one a.refused (nat_list_cmp_total.antisymm other one ∙ ap ordering_reverse is))
    by Equal is = exact_bytes one other is
    by Greater is = absurd (a.first other b.refused is)

-- none is missing where each has its upload
pub none_missing_of : (uploads : List (List ℕ)) (asked : List Attached) (found : List Attachment) → AllZip (IsUpload uploads) asked found
    → filter (is_missing uploads) (blob_ids asked) ≡ []
none_missing_of uploads [] [] z = refl
none_missing_of uploads [] (x ∷ found) z = absurd z
none_missing_of uploads (a ∷ asked) [] z = absurd z
none_missing_of uploads (a ∷ asked) (x ∷ found) z =
    ap (λ (o : Option (List ℕ)). cond (is_none o) (a.blob ∷ filter (is_missing uploads) (blob_ids asked)) (filter (is_missing uploads) (blob_ids asked))) z.0.bytes
    ∙ none_missing_of uploads asked found z.1

pub not_both : (uploads : List (List ℕ)) (all : Members) (ids : List (List ℕ)) (d : Draft) → IsWithout uploads all ids → IsDraftOf uploads all d → ⊥
not_both uploads all ids d w is = w.some (w.ids_are ∙ ap distinct_ids (none_missing_of uploads (attached_in all) d.attachments is.attachments))
