-- What is found of a blob, and what it comes to.
use Rattle.std.proofs.Common.{◌≡◌, ◌<◌, ◌↔◌, ◌∙◌, ◌++◌, ◌==◌, ◌&&◌, not, ℕ, Bool, true, false, cond, IsTrue, List, [], ◌∷◌, Option, Some, None, Result, Ok, Err, nat_lt, length, arith, refl, sym, ap, subst}
use Rattle.std.proofs.lemmas.Bool.{ltb-true, ltb-false}
use Rattle.change_list.specs.Advance.{row_at}
use Rattle.email_bodies.specs.Asking.{BodyAsk, AreDue, unanswered}
use Rattle.email_bodies.specs.declared.source.MessagePlace.{MessagePlace}
use Rattle.email_bodies.specs.declared.error.BodyError.{BodyError}
use Rattle.email_bodies.proofs.Due.{due_more}
use Rattle.email_get.specs.Asked.{FailsAfter, place_of}
use Rattle.email_get.specs.Blobs.{FindsBlob, NoBlobId, OfBlobId, FindsLeaf, FindsRoot, BodyLacks, OctetsFound}
use Rattle.email_get.specs.Blobs as blobs
use Rattle.email_get.proofs.Due.{due_blob}
use Rattle.mail_maps.specs.Rows.{Rows}
use Rattle.mail_maps.specs.declared.row.EmailRow.{EmailRow}
use Rattle.message_blobs.specs.BlobIds.{BlobRoot, OfEmail, OfUpload, IsBlobId}
use Rattle.message_blobs.proofs.IdLemmas.{one_root_of}
use Rattle.message_lines.specs.Bodies.{with_cr, with_crlf}
use Rattle.message_texts.specs.declared.message.TheConstants.{MAX_MESSAGE_OCTETS}
use Rattle.set_jobs.specs.declared.done.SetError.{SetError}
use Rattle.set_jobs.specs.declared.done.SetError.TheVariants as why
use Rattle.email_import.specs.Messages.{FindsMessage, LongMayNot, Long, NotFound, Found, Lacks, IsOfLongEmail, TakesOctets, NoMessage, MayNot, TooLong, Taken, is_no_message, no_blob}
use Rattle.email_import.specs.declared.ready.ReadyImport.{ReadyImport}
use Rattle.email_import.specs.reading.Found.{has_bare, has_bare_lf, in_folder, is_long_root, is_long_row, long_error, taken, with_found}

-- ---- Emails that are too long

pub no_id : (emails : Rows) (blob : List ℕ) → ((root : BlobRoot) (leaves : List ℕ) → IsBlobId root leaves blob → ⊥) → IsTrue false ↔ IsOfLongEmail emails blob
no_id emails blob none = (
  λ is. absurd (let never : false ≡ true = is in cc),
  λ long. absurd (none (OfEmail long.number) long.leaves long.is_id),
)

module _ (emails : Rows) (blob : List ℕ) where
  long_found : (n : ℕ) (leaves : List ℕ) → IsBlobId (OfEmail n) leaves blob → (o : Option EmailRow) → row_at emails n ≡ o → is_long_row o ≡ true → IsOfLongEmail emails blob
  long_found n leaves is None at long = absurd (let never : false ≡ true = long in cc)
  long_found n leaves is (Some row) at long =
      record { number = n; leaves = leaves; row = row; is_id = is; there = at; long = ltb-true MAX_MESSAGE_OCTETS row.size long }

  long_root : (root : BlobRoot) (leaves : List ℕ) → IsBlobId root leaves blob → is_long_root emails root ≡ true → IsOfLongEmail emails blob
  long_root (OfEmail n) leaves is long = long_found n leaves is (row_at emails n) refl long
  long_root (OfUpload id) leaves is long = absurd (let never : false ≡ true = long in cc)

  lt_true : (m n : ℕ) → m < n → nat_lt m n ≡ true
  lt_true m n less = by (nat_lt m n) refl
    where
      by : (b : Bool) → nat_lt m n ≡ b → b ≡ true
      by true is = refl
      by false is = absurd (let over = ltb-false m n is in omega (arith, over, less))

  is_long : (root : BlobRoot) (leaves : List ℕ) → IsBlobId root leaves blob → IsOfLongEmail emails blob → is_long_root emails root ≡ true
  is_long root leaves is long =
      ap (is_long_root emails) (one_root_of root (OfEmail long.number) leaves long.leaves blob is long.is_id)
      ∙ (ap is_long_row long.there ∙ lt_true MAX_MESSAGE_OCTETS long.row.size long.long)

  pub of_root : (root : BlobRoot) (leaves : List ℕ) (b : Bool) → IsBlobId root leaves blob → b ≡ is_long_root emails root → IsTrue b ↔ IsOfLongEmail emails blob
  of_root root leaves b is same = (λ long. long_root root leaves is (sym same ∙ long), λ long. same ∙ is_long root leaves is long)

-- ---- octets that are found

takes_in : (takes : Bool) (octets : List ℕ) → is_no_message octets ≡ false → TakesOctets takes octets (in_folder takes octets)
takes_in false octets some = MayNot some refl
takes_in true octets some = by (nat_lt MAX_MESSAGE_OCTETS (length (with_crlf octets))) refl
  where
    by : (b : Bool) → nat_lt MAX_MESSAGE_OCTETS (length (with_crlf octets)) ≡ b → TakesOctets true octets (cond b (Err why.TooLarge) (Ok (with_crlf octets)))
    by true over = TooLong some refl (ltb-true MAX_MESSAGE_OCTETS (length (with_crlf octets)) over)
    by false over = Taken some refl (ltb-false MAX_MESSAGE_OCTETS (length (with_crlf octets)) over)

pub takes : (t : Bool) (octets : List ℕ) → TakesOctets t octets (taken t octets)
takes t octets = by (is_no_message octets) refl
  where
    by : (b : Bool) → is_no_message octets ≡ b → TakesOctets t octets (cond b (Err no_blob) (in_folder t octets))
    by true none = NoMessage none
    by false some = takes_in t octets some

-- where no LF stands without a CR before it the lines end in CR LF
one_octet : (bare later : Bool) (c : ℕ) (t rest : List ℕ) → cond bare true later ≡ false → (later ≡ false → rest ≡ t) → cond bare (13 ∷ 10 ∷ []) (c ∷ []) ++ rest ≡ c ∷ t
one_octet true later c t rest none same = absurd (let never : true ≡ false = none in cc)
one_octet false later c t rest none same = ap (λ (l : List ℕ). c ∷ l) (same none)

same_from : (behind_cr : Bool) (t : List ℕ) → has_bare behind_cr t ≡ false → with_cr behind_cr t ≡ t
same_from behind_cr [] none = refl
same_from behind_cr (c ∷ t) none =
    one_octet (c == 10 && not behind_cr) (has_bare (c == 13) t) c t (with_cr (c == 13) t) none (same_from (c == 13) t)

pub same_lines : (octets : List ℕ) → has_bare_lf octets ≡ false → with_crlf octets ≡ octets
unfolding with_crlf
same_lines octets none = same_from false octets none

-- ---- the whole

module _ (emails : Rows) (uploads : List (List ℕ)) (i : ReadyImport) where
  long_is : (e : SetError) → IsOfLongEmail emails i.blob → e ≡ long_error i.takes → FindsMessage emails uploads i [] (Ok (Err e))
  long_is e long is = subst (λ (x : SetError). FindsMessage emails uploads i [] (Ok (Err x))) (sym is) (by i.takes refl)
    where
      by : (b : Bool) → i.takes ≡ b → FindsMessage emails uploads i [] (Ok (Err (cond b why.TooLarge why.Forbidden)))
      by true may = Long long may
      by false may = LongMayNot long may

  pub too_long : (text : List ℕ) (test : Bool) (e : SetError) → text ≡ i.blob → IsTrue test ↔ IsOfLongEmail emails text → test ≡ true → e ≡ long_error i.takes
      → FindsMessage emails uploads i [] (Ok (Err e))
  too_long text test e same tells long is = long_is e (subst (λ (b : List ℕ). IsOfLongEmail emails b) same (tells.0 long)) is

  pub isnt_long : (text : List ℕ) (test : Bool) → text ≡ i.blob → IsTrue test ↔ IsOfLongEmail emails text → test ≡ false → IsOfLongEmail emails i.blob → ⊥
  isnt_long text test same tells short long =
      let is : test ≡ true = tells.1 (subst (λ (b : List ℕ). IsOfLongEmail emails b) (sym same) long) in
      let never : false ≡ true = sym short ∙ is in cc

  finds : (asks : List BodyAsk) (o : Option (List ℕ)) → (IsOfLongEmail emails i.blob → ⊥) → FindsBlob emails uploads i.blob asks (Ok o) → FindsMessage emails uploads i asks (Ok (with_found i.takes o))
  finds asks None short none = NotFound asks short none
  finds asks (Some octets) short found = Found asks octets (taken i.takes octets) short found (takes i.takes octets)

  at_blob : (text : List ℕ) → text ≡ i.blob → {asks : List BodyAsk} {r : OctetsFound} → FindsBlob emails uploads text asks r → FindsBlob emails uploads i.blob asks r
  at_blob text same {asks} {r} found = subst (λ (b : List ℕ). FindsBlob emails uploads b asks r) same found

  pub found_is : (text : List ℕ) → text ≡ i.blob → (asks : List BodyAsk) (o : Option (List ℕ)) (came : Result (List ℕ) SetError) → (IsOfLongEmail emails i.blob → ⊥)
      → came ≡ with_found i.takes o → FindsBlob emails uploads text asks (Ok o) → FindsMessage emails uploads i asks (Ok came)
  found_is text same asks o came short is found =
      subst (λ (r : Result (List ℕ) SetError). FindsMessage emails uploads i asks (Ok r)) (sym is) (finds asks o short (at_blob text same found))

  pub lacks_is : (text : List ℕ) → text ≡ i.blob → (asks : List BodyAsk) (e : BodyError) → (IsOfLongEmail emails i.blob → ⊥) → FindsBlob emails uploads text asks (Err e)
      → FindsMessage emails uploads i asks (Err e)
  lacks_is text same asks e short found = Lacks asks e short (at_blob text same found)

  -- where the body didn't come it was asked alone
  lost_octets : {root : BlobRoot} {asks : List BodyAsk} {e : BodyError} → FindsRoot emails uploads root asks (Err e) → (message : MessagePlace) × (asks ≡ unanswered message ∷ [])
  lost_octets (BodyLacks n row there) = (place_of row, refl)

  lost_leaf : {leaves : List ℕ} {of_root : OctetsFound} {e : BodyError} → FindsLeaf leaves of_root (Err e) → of_root ≡ Err e
  lost_leaf (blobs.NoBody e) = refl

  lost_blob : {asks : List BodyAsk} {r : OctetsFound} (e : BodyError) → FindsBlob emails uploads i.blob asks r → r ≡ Err e → (message : MessagePlace) × (asks ≡ unanswered message ∷ [])
  lost_blob e (NoBlobId none) is = absurd (cc)
  lost_blob {asks = asks} e (OfBlobId root leaves id finds) is =
      lost_octets (subst (λ (x : OctetsFound). FindsRoot emails uploads root asks x)
      (lost_leaf (subst (λ (x : OctetsFound). FindsLeaf leaves finds.of_root x) is finds.finds_leaf)) finds.finds_root)

  pub lost : (asks : List BodyAsk) (e : BodyError) → FindsMessage emails uploads i asks (Err e) → (message : MessagePlace) × (asks ≡ unanswered message ∷ [])
  lost asks e (Lacks these f short finds) = lost_blob e finds refl

  -- the body that is asked is due
  pub due_message : (text : List ℕ) → text ≡ i.blob → (asks : List BodyAsk) (r : OctetsFound) → (IsOfLongEmail emails i.blob → ⊥) → FindsBlob emails uploads text asks r
      → AreDue (FailsAfter (FindsMessage emails uploads i)) asks
  due_message text same asks r short found =
      due_more (FailsAfter (FindsBlob emails uploads i.blob)) (FailsAfter (FindsMessage emails uploads i)) asks
      (λ more fails. (fails.0, Lacks more fails.0 short fails.1)) (due_blob emails uploads i.blob asks r (at_blob text same found))
