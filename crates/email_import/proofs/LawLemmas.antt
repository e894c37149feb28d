-- An import comes to one thing.
use Rattle.std.proofs.Common.{◌≡◌, ◌<◌, ◌≤◌, ◌∙◌, ◌++◌, ℕ, Bool, true, false, List, [], ◌∷◌, Option, Some, None, Result, Ok, Err, length, arith, refl, sym, ap, subst}
use Rattle.email_bodies.specs.Asking.{BodyAsk}
use Rattle.email_bodies.specs.declared.error.BodyError.{BodyError}
use Rattle.email_get.specs.Blobs.{FindsBlob, OctetsFound}
use Rattle.mail_maps.specs.Rows.{Rows}
use Rattle.message_lines.specs.Bodies.{with_crlf}
use Rattle.message_texts.specs.declared.message.TheConstants.{MAX_MESSAGE_OCTETS}
use Rattle.serde_json.specs.Data.{Members}
use Rattle.set_jobs.specs.declared.done.SetError.{SetError}
use Rattle.set_jobs.specs.declared.done.SetError.TheVariants as why
use Rattle.set_given.specs.Given.{Given}
use Rattle.told_folder.specs.declared.message.Folder.{Folder}
use Rattle.email_creation.specs.Asked.{mailbox_asked}
use Rattle.email_import.specs.Asked.{IsWrong, blob_asked}
use Rattle.email_import.specs.Imports.{ChecksImport, WrongProperty, SeveralMailboxes, Asks, import_of}
use Rattle.email_import.specs.Messages.{FindsMessage, LongMayNot, Long, NotFound, Found, Lacks, TakesOctets, NoMessage, MayNot, TooLong, Taken, is_no_message}
use Rattle.email_import.specs.declared.ready.ReadyImport.{ReadyImport}
use Rattle.email_import.proofs.OrderLemmas.{one_first}

-- ---- checks

not_both : (r : Result Folder SetError) (f : Folder) → r ≡ Ok f → r ≡ Err why.TooManyMailboxes → ⊥
not_both r f a b = cc

one_folder : (r : Result Folder SetError) (f h : Folder) → r ≡ Ok f → r ≡ Ok h → f ≡ h
one_folder r f h a b = cc

one_blob : (r : Option (List ℕ)) (x y : List ℕ) → r ≡ Some x → r ≡ Some y → x ≡ y
one_blob r x y a b = cc

pub same : (g : Given) (ms : Members) {r s : Result ReadyImport SetError} → ChecksImport g ms r → ChecksImport g ms s → r ≡ s
same g ms (WrongProperty k a) (WrongProperty l b) = ap (λ (key : List ℕ). Err (why.InvalidProperties (key ∷ []))) (one_first (IsWrong g ms) k l a b)
same g ms (WrongProperty k a) (SeveralMailboxes none is) = absurd (none k a.is)
same g ms (WrongProperty k a) (Asks blob f none there is) = absurd (none k a.is)
same g ms (SeveralMailboxes none is) (WrongProperty k a) = absurd (none k a.is)
same g ms (SeveralMailboxes none is) (SeveralMailboxes other too) = refl
same g ms (SeveralMailboxes none is) (Asks blob f other there too) = absurd (not_both (mailbox_asked g ms) f too is)
same g ms (Asks blob f none there is) (WrongProperty k a) = absurd (none k a.is)
same g ms (Asks blob f none there is) (SeveralMailboxes other too) = absurd (not_both (mailbox_asked g ms) f is too)
same g ms (Asks blob f none there is) (Asks named h other here too) =
    (λ i. Ok (import_of ms (one_blob (blob_asked ms) blob named there here i) (one_folder (mailbox_asked g ms) f h is too i)))

-- ---- octets

true_or_false : (b : Bool) → b ≡ true → b ≡ false → ⊥
true_or_false b a c = let never : true ≡ false = sym a ∙ c in cc

over_or_within : (m n : ℕ) → m < n → n ≤ m → ⊥
over_or_within m n over within = omega (arith, over, within)

one_taken : (takes : Bool) (octets : List ℕ) {r s : Result (List ℕ) SetError} → TakesOctets takes octets r → TakesOctets takes octets s → r ≡ s
one_taken t o (NoMessage a) (NoMessage b) = refl
one_taken t o (NoMessage a) (MayNot b n) = absurd (true_or_false (is_no_message o) a b)
one_taken t o (NoMessage a) (TooLong b y over) = absurd (true_or_false (is_no_message o) a b)
one_taken t o (NoMessage a) (Taken b y within) = absurd (true_or_false (is_no_message o) a b)
one_taken t o (MayNot a n) (NoMessage b) = absurd (true_or_false (is_no_message o) b a)
one_taken t o (MayNot a n) (MayNot b m) = refl
one_taken t o (MayNot a n) (TooLong b y over) = absurd (true_or_false t y n)
one_taken t o (MayNot a n) (Taken b y within) = absurd (true_or_false t y n)
one_taken t o (TooLong a y over) (NoMessage b) = absurd (true_or_false (is_no_message o) b a)
one_taken t o (TooLong a y over) (MayNot b n) = absurd (true_or_false t y n)
one_taken t o (TooLong a y over) (TooLong b z more) = refl
one_taken t o (TooLong a y over) (Taken b z within) = absurd (over_or_within MAX_MESSAGE_OCTETS (length (with_crlf o)) over within)
one_taken t o (Taken a y within) (NoMessage b) = absurd (true_or_false (is_no_message o) b a)
one_taken t o (Taken a y within) (MayNot b n) = absurd (true_or_false t y n)
one_taken t o (Taken a y within) (TooLong b z over) = absurd (over_or_within MAX_MESSAGE_OCTETS (length (with_crlf o)) over within)
one_taken t o (Taken a y within) (Taken b z fits) = refl

-- ---- the blob

abbrev pub OneBlob : Type 0
OneBlob = (emails : Rows) (uploads : List (List ℕ)) (id : List ℕ) (asks more also later : List BodyAsk) (r s : OctetsFound)
    → FindsBlob emails uploads id asks r → FindsBlob emails uploads id also s → asks ++ more ≡ also ++ later → (asks ≡ also) × (r ≡ s)

abbrev Came : Type 0
Came = Result (Result (List ℕ) SetError) BodyError

none_or_some : {Y : Type 0} (x : List ℕ) → (let r : OctetsFound = Ok None in r) ≡ Ok (Some x) → Y
none_or_some x is = absurd (cc)

some_or_none : {Y : Type 0} (x : List ℕ) → (let r : OctetsFound = Ok (Some x) in r) ≡ Ok None → Y
some_or_none x is = absurd (cc)

ok_or_err : {Y : Type 0} (o : Option (List ℕ)) (e : BodyError) → (let r : OctetsFound = Ok o in r) ≡ Err e → Y
ok_or_err o e is = absurd (cc)

err_or_ok : {Y : Type 0} (o : Option (List ℕ)) (e : BodyError) → (let r : OctetsFound = Err e in r) ≡ Ok o → Y
err_or_ok o e is = absurd (cc)

same_some : (x y : List ℕ) → (let r : OctetsFound = Ok (Some x) in r) ≡ Ok (Some y) → x ≡ y
same_some x y is = cc

same_error : (e f : BodyError) → (let r : OctetsFound = Err e in r) ≡ Err f → e ≡ f
same_error e f is = cc

module _ (law : OneBlob) (emails : Rows) (uploads : List (List ℕ)) (i : ReadyImport) where
  taken_alike : (x y : List ℕ) {r s : Result (List ℕ) SetError} → x ≡ y → TakesOctets i.takes x r → TakesOctets i.takes y s → (let a : Came = Ok r in a) ≡ Ok s
  taken_alike x y {r} {s} is a b =
      ap (λ (z : Result (List ℕ) SetError). let c : Came = Ok z in c) (one_taken i.takes y (subst (λ (o : List ℕ). TakesOctets i.takes o r) is a) b)

  pub one_message : (asks more also later : List BodyAsk) (r s : Came) → FindsMessage emails uploads i asks r → FindsMessage emails uploads i also s
      → asks ++ more ≡ also ++ later → (asks ≡ also) × (r ≡ s)
  one_message _ more _ later _ _ (LongMayNot l n) (LongMayNot k m) alike = (refl, refl)
  one_message _ more _ later _ _ (LongMayNot l n) (Long k y) alike = absurd (true_or_false i.takes y n)
  one_message _ more _ later _ _ (LongMayNot l n) (NotFound also short g) alike = absurd (short l)
  one_message _ more _ later _ _ (LongMayNot l n) (Found also y came short g t) alike = absurd (short l)
  one_message _ more _ later _ _ (LongMayNot l n) (Lacks also e short g) alike = absurd (short l)
  one_message _ more _ later _ _ (Long l y) (LongMayNot k m) alike = absurd (true_or_false i.takes y m)
  one_message _ more _ later _ _ (Long l y) (Long k z) alike = (refl, refl)
  one_message _ more _ later _ _ (Long l y) (NotFound also short g) alike = absurd (short l)
  one_message _ more _ later _ _ (Long l y) (Found also z came short g t) alike = absurd (short l)
  one_message _ more _ later _ _ (Long l y) (Lacks also e short g) alike = absurd (short l)
  one_message _ more _ later _ _ (NotFound asks short f) (LongMayNot k m) alike = absurd (short k)
  one_message _ more _ later _ _ (NotFound asks short f) (Long k z) alike = absurd (short k)
  one_message _ more _ later _ _ (NotFound asks short f) (NotFound also shorter g) alike =
      ((law emails uploads i.blob asks more also later (Ok None) (Ok None) f g alike).0, refl)
  one_message _ more _ later _ _ (NotFound asks short f) (Found also y came shorter g t) alike =
      none_or_some y (law emails uploads i.blob asks more also later (Ok None) (Ok (Some y)) f g alike).1
  one_message _ more _ later _ _ (NotFound asks short f) (Lacks also e shorter g) alike =
      ok_or_err None e (law emails uploads i.blob asks more also later (Ok None) (Err e) f g alike).1
  one_message _ more _ later _ _ (Found asks x came short f t) (LongMayNot k m) alike = absurd (short k)
  one_message _ more _ later _ _ (Found asks x came short f t) (Long k z) alike = absurd (short k)
  one_message _ more _ later _ _ (Found asks x came short f t) (NotFound also shorter g) alike =
      some_or_none x (law emails uploads i.blob asks more also later (Ok (Some x)) (Ok None) f g alike).1
  one_message _ more _ later _ _ (Found asks x came short f t) (Found also y gone shorter g u) alike =
      let both = law emails uploads i.blob asks more also later (Ok (Some x)) (Ok (Some y)) f g alike in
      (both.0, taken_alike x y (same_some x y both.1) t u)
  one_message _ more _ later _ _ (Found asks x came short f t) (Lacks also e shorter g) alike =
      ok_or_err (Some x) e (law emails uploads i.blob asks more also later (Ok (Some x)) (Err e) f g alike).1
  one_message _ more _ later _ _ (Lacks asks e short f) (LongMayNot k m) alike = absurd (short k)
  one_message _ more _ later _ _ (Lacks asks e short f) (Long k z) alike = absurd (short k)
  one_message _ more _ later _ _ (Lacks asks e short f) (NotFound also shorter g) alike =
      err_or_ok None e (law emails uploads i.blob asks more also later (Err e) (Ok None) f g alike).1
  one_message _ more _ later _ _ (Lacks asks e short f) (Found also y came shorter g t) alike =
      err_or_ok (Some y) e (law emails uploads i.blob asks more also later (Err e) (Ok (Some y)) f g alike).1
  one_message _ more _ later _ _ (Lacks asks e short f) (Lacks also d shorter g) alike =
      let both = law emails uploads i.blob asks more also later (Err e) (Err d) f g alike in
      (both.0, ap (λ (x : BodyError). let c : Came = Err x in c) (same_error e d both.1))
