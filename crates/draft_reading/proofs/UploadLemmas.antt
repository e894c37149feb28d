-- Uploads that are sought: those that are kept, and the ids of the others.
use Rattle.std.proofs.Common.{◌≡◌, ◌≢◌, ℕ, ◌+◌, ◌<◌, length, get_or, take, List, [], ◌∷◌, ◌++◌, Bool, true, false, Option, Some, None, cond, map, refl, sym, ap, ◌∙◌, subst}
use Rattle.std.specs.List.{AllZip, filter}
use Rattle.std.specs.Prelude.{is_some, is_none}
use Rattle.std.proofs.lemmas.List.{append-nil, map-append, take_more}
use Rattle.std.proofs.lemmas.List.Elements.{filter-append}
use Rattle.blob_store.specs.Uploads.{upload_with}
use Rattle.mail_drafts.specs.declared.attachment.Attachment.{Attachment}
use Rattle.draft_reading.specs.Parts.{Attached}
use Rattle.draft_reading.specs.Readings.{IsUpload, blob_ids, is_missing}
use Rattle.draft_reading.specs.declared.attached.Attached.{Attached as AttachedValue}
use Rattle.draft_reading.specs.reading.Uploads.{AreMissing, is_kept}
use Rattle.draft_reading.specs.reading.Views.{attached_view}
use Rattle.jmap_arguments.specs.Gets.{distinct_ids}

zip_more : {A B : Type 0} (R : A → B → Type 0) (xs : List A) (ys : List B) (x : A) (y : B) → AllZip R xs ys → R x y → AllZip R (xs ++ x ∷ []) (ys ++ y ∷ [])
zip_more R [] [] x y z is = (is, tt)
zip_more R [] (v ∷ ys) x y z is = absurd z
zip_more R (u ∷ xs) [] x y z is = absurd z
zip_more R (u ∷ xs) (v ∷ ys) x y z is = (z.0, zip_more R xs ys x y z.1 is)

-- those so far
pub record Sought (uploads : List (List ℕ)) (asked : List Attached) (found : List Attachment) (missing : List (List ℕ)) : Type 0 where
  pub found_are : AllZip (IsUpload uploads) (filter (is_kept uploads) asked) found
  pub missing_are : missing ≡ filter (is_missing uploads) (blob_ids asked)

some_kept : (uploads : List (List ℕ)) (a : Attached) (octets : List ℕ) → upload_with a.blob uploads ≡ Some octets → is_kept uploads a ≡ true
some_kept uploads a octets is = ap (λ (o : Option (List ℕ)). is_some o) is

some_not_missing : (uploads : List (List ℕ)) (a : Attached) (octets : List ℕ) → upload_with a.blob uploads ≡ Some octets → is_missing uploads a.blob ≡ false
some_not_missing uploads a octets is = ap (λ (o : Option (List ℕ)). is_none o) is

none_kept : (uploads : List (List ℕ)) (a : Attached) → upload_with a.blob uploads ≡ None → is_kept uploads a ≡ false
none_kept uploads a is = ap (λ (o : Option (List ℕ)). is_some o) is

none_missing : (uploads : List (List ℕ)) (a : Attached) → upload_with a.blob uploads ≡ None → is_missing uploads a.blob ≡ true
none_missing uploads a is = ap (λ (o : Option (List ℕ)). is_none o) is

kept_more : (uploads : List (List ℕ)) (asked : List Attached) (a : Attached) (b : Bool) → is_kept uploads a ≡ b
    → filter (is_kept uploads) (asked ++ a ∷ []) ≡ filter (is_kept uploads) asked ++ cond b (a ∷ []) []
kept_more uploads asked a b is = filter-append (is_kept uploads) asked (a ∷ []) ∙ ap (λ (c : Bool). filter (is_kept uploads) asked ++ cond c (a ∷ []) []) is

missing_more : (uploads : List (List ℕ)) (asked : List Attached) (a : Attached) (b : Bool) → is_missing uploads a.blob ≡ b
    → filter (is_missing uploads) (blob_ids (asked ++ a ∷ [])) ≡ filter (is_missing uploads) (blob_ids asked) ++ cond b (a.blob ∷ []) []
missing_more uploads asked a b is =
    ap (filter (is_missing uploads)) (map-append (λ (x : Attached). x.blob) asked (a ∷ []))
    ∙ filter-append (is_missing uploads) (blob_ids asked) (a.blob ∷ [])
    ∙ ap (λ (c : Bool). filter (is_missing uploads) (blob_ids asked) ++ cond c (a.blob ∷ []) []) is

-- one that is kept
pub kept_one : (uploads : List (List ℕ)) (asked : List Attached) (found new : List Attachment) (missing same : List (List ℕ)) (a : Attached) (x : Attachment)
    → Sought uploads asked found missing → IsUpload uploads a x → new ≡ found ++ x ∷ [] → same ≡ missing → Sought uploads (asked ++ a ∷ []) new same
kept_one uploads asked found new missing same a x s is more still = record {
  found_are = subst (λ (list : List Attachment). AllZip (IsUpload uploads) (filter (is_kept uploads) (asked ++ a ∷ [])) list) (sym more)
      (subst (λ (list : List Attached). AllZip (IsUpload uploads) list (found ++ x ∷ [])) (sym (kept_more uploads asked a true (some_kept uploads a x.bytes is.bytes)))
      (zip_more (IsUpload uploads) (filter (is_kept uploads) asked) found a x s.found_are is));
  missing_are = still ∙ s.missing_are ∙ sym (missing_more uploads asked a false (some_not_missing uploads a x.bytes is.bytes) ∙ append-nil (filter (is_missing uploads) (blob_ids asked)));
}

-- one that isn't
pub missing_one : (uploads : List (List ℕ)) (asked : List Attached) (found same : List Attachment) (missing new : List (List ℕ)) (a : Attached)
    → Sought uploads asked found missing → upload_with a.blob uploads ≡ None → same ≡ found → new ≡ missing ++ a.blob ∷ [] → Sought uploads (asked ++ a ∷ []) same new
missing_one uploads asked found same missing new a s is still more = record {
  found_are = subst (λ (list : List Attachment). AllZip (IsUpload uploads) (filter (is_kept uploads) (asked ++ a ∷ [])) list) (sym still)
      (subst (λ (list : List Attached). AllZip (IsUpload uploads) list found)
      (sym (kept_more uploads asked a false (none_kept uploads a is) ∙ append-nil (filter (is_kept uploads) asked))) s.found_are);
  missing_are = more ∙ ap (λ (ids : List (List ℕ)). ids ++ a.blob ∷ []) s.missing_are ∙ sym (missing_more uploads asked a true (none_missing uploads a is));
}

-- where none is missing, all are kept
pub all_kept : (uploads : List (List ℕ)) (asked : List Attached) → filter (is_missing uploads) (blob_ids asked) ≡ [] → filter (is_kept uploads) asked ≡ asked
all_kept uploads [] none = refl
all_kept uploads (a ∷ asked) none = by (upload_with a.blob uploads) refl (all_kept uploads asked)
  where
    ids : List (List ℕ)
    ids = filter (is_missing uploads) (blob_ids asked)

    kept : List Attached
    kept = filter (is_kept uploads) asked

    by : (o : Option (List ℕ)) → upload_with a.blob uploads ≡ o → (ids ≡ [] → kept ≡ asked) → cond (is_kept uploads a) (a ∷ kept) kept ≡ a ∷ asked
    by None is later =
        let some : cond (is_missing uploads a.blob) (a.blob ∷ ids) ids ≡ a.blob ∷ ids = ap (λ (b : Bool). cond b (a.blob ∷ ids) ids) (none_missing uploads a is) in
        absurd (let e : a.blob ∷ ids ≡ [] = sym some ∙ none in cc)
    by (Some octets) is later =
        let rest : ids ≡ [] = sym (ap (λ (b : Bool). cond b (a.blob ∷ ids) ids) (some_not_missing uploads a octets is)) ∙ none in
        ap (λ (b : Bool). cond b (a ∷ kept) kept) (some_kept uploads a octets is) ∙ ap (λ (list : List Attached). a ∷ list) (later rest)

-- the attachment at a place, behind those before it
pub asked_more : (asked : List AttachedValue) (i : ℕ) (one : AttachedValue) → i < length asked → one ≡ get_or asked i one
    → map attached_view (take (i + 1) asked) ≡ map attached_view (take i asked) ++ attached_view one ∷ []
asked_more asked i one within is =
    ap (map attached_view) (take_more asked i one within ∙ ap (λ (x : AttachedValue). take i asked ++ x ∷ []) (sym is)) ∙ map-append attached_view (take i asked) (one ∷ [])

-- all uploads, where none is missing
pub found_all : (uploads : List (List ℕ)) (asked : List Attached) (found list : List Attachment) (missing : List (List ℕ)) → AllZip (IsUpload uploads) (filter (is_kept uploads) asked) found
    → missing ≡ filter (is_missing uploads) (blob_ids asked) → missing ≡ [] → list ≡ found → AllZip (IsUpload uploads) asked list
found_all uploads asked found list missing zip are none same =
    subst (λ (xs : List Attachment). AllZip (IsUpload uploads) asked xs) (sym same)
    (subst (λ (xs : List Attached). AllZip (IsUpload uploads) xs found) (all_kept uploads asked (sym are ∙ none)) zip)

some_distinct : (ids : List (List ℕ)) → ids ≢ [] → distinct_ids ids ≢ []
some_distinct [] some e = some refl
some_distinct (id ∷ ids) some e = cc

-- the ids of those that are missing, each once
pub missing_all : (uploads : List (List ℕ)) (asked : List Attached) (missing names : List (List ℕ)) → missing ≡ filter (is_missing uploads) (blob_ids asked) → missing ≢ []
    → names ≡ distinct_ids missing → AreMissing uploads asked names
missing_all uploads asked missing names are some is = record {
  ids_are = is ∙ ap distinct_ids are;
  some = λ e. some_distinct missing some (sym is ∙ e);
}
