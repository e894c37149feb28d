-- What is found of a root, and of the leaves in it.
use Rattle.std.proofs.Common.{◌≡◌, ◌∙◌, ℕ, List, [], ◌∷◌, Bor, Option, Some, None, Ok, Err, sym, subst}
use Rattle.std.specs.Option.{MatchOption, option_copied}
use Rattle.blob_store.specs.Uploads.{upload_with}
use Rattle.change_list.specs.Advance.{row_at}
use Rattle.email_bodies.specs.declared.error.BodyError.TheVariants.{Ended}
use Rattle.mail_maps.specs.Rows.{Rows}
use Rattle.mail_maps.specs.declared.row.EmailRow.{EmailRow}
use Rattle.message_blobs.specs.BlobIds.{root_view}
use Rattle.message_blobs.specs.NestedLeaves.{NamesOctets}
use Rattle.message_blobs.specs.declared.blob_id.Root.{Root}
use Rattle.message_blobs.specs.declared.blob_id.Root.TheVariants as code
use Rattle.email_get.specs.Asked.{ask_for}
use Rattle.email_get.specs.Blobs.{FindsRoot, OfTheUploads, NoSuchEmail, BodyComes, BodyLacks, FindsLeaf, NoRoot, NoLeaf, Named}

found_upload : (id : List ℕ) (uploads : List (List ℕ)) (found : Option (Bor (List ℕ)))
    → MatchOption found (upload_with id uploads ≡ None) (λ octets. upload_with id uploads ≡ Some octets.now) → upload_with id uploads ≡ option_copied found
found_upload id uploads None is = is
found_upload id uploads (Some octets) is = is

module _ (emails : Rows) (uploads : List (List ℕ)) (root : Root) where
  -- an upload is shared
  pub upload_given : (id : Bor (List ℕ)) (found : Option (Bor (List ℕ))) (shared : Option (List ℕ)) → root ≡ code.Upload id
      → MatchOption found (upload_with id.now uploads ≡ None) (λ octets. upload_with id.now uploads ≡ Some octets.now) → shared ≡ option_copied found
      → FindsRoot emails uploads (root_view root) [] (Ok shared)
  upload_given id found shared root_is is same =
      let P : Root → Type 0 = λ r. FindsRoot emails uploads (root_view r) [] (Ok shared) in
      subst P (sym root_is) (OfTheUploads id.now shared (found_upload id.now uploads found is ∙ sym same))

  -- there is no such Email
  pub email_gone : (n : ℕ) → root ≡ code.Email n → None ≡ row_at emails n → FindsRoot emails uploads (root_view root) [] (Ok None)
  email_gone n root_is gone = let P : Root → Type 0 = λ r. FindsRoot emails uploads (root_view r) [] (Ok None) in subst P (sym root_is) (NoSuchEmail n (sym gone))

  -- its body came
  pub email_came : (n : ℕ) (row : EmailRow) (octets : List ℕ) → root ≡ code.Email n → Some row ≡ row_at emails n
      → FindsRoot emails uploads (root_view root) (ask_for row (Some octets) ∷ []) (Ok (Some octets))
  email_came n row octets root_is there =
      let P : Root → Type 0 = λ r. FindsRoot emails uploads (root_view r) (ask_for row (Some octets) ∷ []) (Ok (Some octets)) in
      subst P (sym root_is) (BodyComes n row octets (sym there))

  -- it didn't
  pub email_lacks : (n : ℕ) (row : EmailRow) → root ≡ code.Email n → Some row ≡ row_at emails n
      → FindsRoot emails uploads (root_view root) (ask_for row None ∷ []) (Err Ended)
  email_lacks n row root_is there =
      let P : Root → Type 0 = λ r. FindsRoot emails uploads (root_view r) (ask_for row None ∷ []) (Err Ended) in
      subst P (sym root_is) (BodyLacks n row (sym there))

-- no leaf of no root
pub no_leaf_of_none : (leaves : List ℕ) (o : Option (List ℕ)) → o ≡ None → FindsLeaf leaves (Ok o) (Ok None)
no_leaf_of_none leaves o none = let P : Option (List ℕ) → Type 0 = λ p. FindsLeaf leaves (Ok p) (Ok None) in subst P (sym none) NoRoot

leaf_of : (leaves octets : List ℕ) (found : Option (List ℕ)) → MatchOption found ((named : List ℕ) → NamesOctets leaves octets named → ⊥) (λ named. NamesOctets leaves octets named)
    → FindsLeaf leaves (Ok (Some octets)) (Ok found)
leaf_of leaves octets None none = NoLeaf octets none
leaf_of leaves octets (Some named) is = Named octets named is

-- what the leaves name in the octets of the root
pub leaf_given : (leaves numbers octets : List ℕ) (o found : Option (List ℕ)) → o ≡ Some octets → numbers ≡ leaves
    → MatchOption found ((named : List ℕ) → NamesOctets numbers octets named → ⊥) (λ named. NamesOctets numbers octets named) → FindsLeaf leaves (Ok o) (Ok found)
leaf_given leaves numbers octets o found some same is =
    let P : Option (List ℕ) → Type 0 = λ p. FindsLeaf leaves (Ok p) (Ok found) in
    let Q : List ℕ → Type 0 = λ ns. FindsLeaf ns (Ok (Some octets)) (Ok found) in
    subst P (sym some) (subst Q same (leaf_of numbers octets found is))
