-- An item that was written is read again, whatever follows it.
use Rattle.std.proofs.Common.{◌≡◌, ℕ, ℤ, ◌<◌, ◌^◌, List, ◌++◌, Some, refl, ap, ◌∙◌, append_assoc}
use Rattle.std.specs.Int.{w64, cast_unsigned}
use Rattle.std.specs.Prelude.{FitsSigned}
use mir.ValLaws.{of_z_fits}
use Rattle.told_folder.specs.declared.message.Folder.{Folder}
use Rattle.told_folder.specs.declared.message.Message.{Message}
use Rattle.mail_batches.specs.declared.item.Item.{Item}
use Rattle.mail_batches.specs.declared.item.Item.TheVariants.{MessageGone, FolderGone, FolderPut, MessagePut, MessageSet}
use Rattle.mail_batches.specs.Items.{half, long, signed, text, texts, optional, folder_text, set_text, put_text, item_text, Fits, FitsFolder, FitsSet, FitsPut}
use Rattle.mail_batches.specs.reading.Reading.{folder_at, SetFields, set_at, put_at, folder_item_at, set_item_at, message_gone_at, folder_gone_at, item_at}
use Rattle.mail_batches.proofs.Fields.{half_again, long_again, text_again, texts_again, optional_again, signed_again}

folder_again : (f : Folder) (rest : List ℕ) → FitsFolder f → folder_at (folder_text f ++ rest) ≡ Some (f, rest)
unfolding folder_at
folder_again f rest fits =
    let six : List ℕ = long f.modseq ++ long f.next in
    let five : List ℕ = half f.validity ++ six in
    let four : List ℕ = texts f.attributes ++ five in
    let three : List ℕ = optional f.delimiter ++ four in
    let others : List ℕ = text f.name ++ three in
    let regrouped : folder_text f ++ rest
    ≡ long f.number ++ (text f.name ++ (optional f.delimiter ++ (texts f.attributes ++ (half f.validity ++ (long f.modseq ++ (long f.next ++ rest))))))
    = append_assoc (long f.number) others rest
    ∙ ap (λ (l : List ℕ). long f.number ++ l) (append_assoc (text f.name) three rest
    ∙ ap (λ (l : List ℕ). text f.name ++ l) (append_assoc (optional f.delimiter) four rest
    ∙ ap (λ (l : List ℕ). optional f.delimiter ++ l) (append_assoc (texts f.attributes) five rest
    ∙ ap (λ (l : List ℕ). texts f.attributes ++ l) (append_assoc (half f.validity) six rest
    ∙ ap (λ (l : List ℕ). half f.validity ++ l) (append_assoc (long f.modseq) (long f.next) rest))))) in
    ap folder_at regrouped
    ∙ rw (
      long_again f.number (text f.name ++ (optional f.delimiter ++ (texts f.attributes ++ (half f.validity ++ (long f.modseq ++ (long f.next ++ rest)))))) fits.number,
      text_again f.name (optional f.delimiter ++ (texts f.attributes ++ (half f.validity ++ (long f.modseq ++ (long f.next ++ rest))))) fits.name,
      optional_again f.delimiter (texts f.attributes ++ (half f.validity ++ (long f.modseq ++ (long f.next ++ rest)))) fits.delimiter,
      texts_again f.attributes (half f.validity ++ (long f.modseq ++ (long f.next ++ rest))) fits.attributes,
      half_again f.validity (long f.modseq ++ (long f.next ++ rest)) fits.validity,
      long_again f.modseq (long f.next ++ rest) fits.modseq,
      long_again f.next rest fits.next,
    ) refl

abbrev fields : ℕ → ℕ → ℕ → List (List ℕ) → SetFields
fields mark folder uid flags = record { mark = mark; folder = folder; uid = uid; flags = flags }

set_again : (mark folder uid : ℕ) (flags : List (List ℕ)) (rest : List ℕ) → FitsSet mark folder uid flags
    → set_at (set_text mark folder uid flags ++ rest) ≡ Some (fields mark folder uid flags, rest)
unfolding set_at
set_again mark folder uid flags rest fits =
    let regrouped : set_text mark folder uid flags ++ rest ≡ long mark ++ (long folder ++ (half uid ++ (texts flags ++ rest)))
    = append_assoc (long mark) (long folder ++ (half uid ++ texts flags)) rest
    ∙ ap (λ (l : List ℕ). long mark ++ l) (append_assoc (long folder) (half uid ++ texts flags) rest
    ∙ ap (λ (l : List ℕ). long folder ++ l) (append_assoc (half uid) (texts flags) rest)) in
    ap set_at regrouped
    ∙ rw (
      long_again mark (long folder ++ (half uid ++ (texts flags ++ rest))) fits.mark_fits,
      long_again folder (half uid ++ (texts flags ++ rest)) fits.folder_fits,
      half_again uid (texts flags ++ rest) fits.uid_fits,
      texts_again flags rest fits.flags_fit,
    ) refl

-- a signed number fits its octets
signed_fits : (n : ℤ) → FitsSigned w64 n → cast_unsigned w64 n < 2 ^ 64
signed_fits n fits = (of_z_fits w64 n fits).fits

put_again : (folder : ℕ) (x : Message) (rest : List ℕ) → FitsPut folder x → put_at (put_text folder x ++ rest) ≡ Some (MessagePut folder x, rest)
unfolding put_at
put_again folder x rest fits =
    let regrouped : put_text folder x ++ rest ≡ set_text x.mark folder x.uid x.flags ++ (signed x.date ++ (long x.size ++ (text x.header ++ rest))) =
    append_assoc (set_text x.mark folder x.uid x.flags) (signed x.date ++ (long x.size ++ text x.header)) rest
    ∙ ap (λ (l : List ℕ). set_text x.mark folder x.uid x.flags ++ l) (append_assoc (signed x.date) (long x.size ++ text x.header) rest
    ∙ ap (λ (l : List ℕ). signed x.date ++ l) (append_assoc (long x.size) (text x.header) rest)) in
    ap put_at regrouped
    ∙ rw (
      set_again x.mark folder x.uid x.flags (signed x.date ++ (long x.size ++ (text x.header ++ rest))) fits.place,
      long_again (cast_unsigned w64 x.date) (long x.size ++ (text x.header ++ rest)) (signed_fits x.date fits.date),
      long_again x.size (text x.header ++ rest) fits.size,
      text_again x.header rest fits.header,
      signed_again x.date fits.date,
    ) refl

message_gone_again : (mark : ℕ) (rest : List ℕ) → mark < 2 ^ 64 → message_gone_at (long mark ++ rest) ≡ Some (MessageGone mark, rest)
unfolding message_gone_at
message_gone_again mark rest lt = rw (long_again mark rest lt) refl

folder_gone_again : (number : ℕ) (rest : List ℕ) → number < 2 ^ 64 → folder_gone_at (long number ++ rest) ≡ Some (FolderGone number, rest)
unfolding folder_gone_at
folder_gone_again number rest lt = rw (long_again number rest lt) refl

folder_item_again : (f : Folder) (rest : List ℕ) → FitsFolder f → folder_item_at (folder_text f ++ rest) ≡ Some (FolderPut f, rest)
unfolding folder_item_at
folder_item_again f rest fits = rw (folder_again f rest fits) refl

set_item_again : (mark folder uid : ℕ) (flags : List (List ℕ)) (rest : List ℕ) → FitsSet mark folder uid flags
    → set_item_at (set_text mark folder uid flags ++ rest) ≡ Some (MessageSet mark folder uid flags, rest)
unfolding set_item_at
set_item_again mark folder uid flags rest fits = rw (set_again mark folder uid flags rest fits) refl

pub item_again : (i : Item) (rest : List ℕ) → Fits i → item_at (item_text i ++ rest) ≡ Some (i, rest)
item_again (MessageGone mark) rest fits = message_gone_again mark rest fits
item_again (FolderGone number) rest fits = folder_gone_again number rest fits
item_again (FolderPut f) rest fits = folder_item_again f rest fits
item_again (MessagePut folder x) rest fits = put_again folder x rest fits
item_again (MessageSet mark folder uid flags) rest fits = set_item_again mark folder uid flags rest fits
