-- A call that reads has one answer.
use Rattle.std.proofs.Common.{arith, ◌≡◌, ◌≤◌, ◌<◌, ◌^◌, ◌++◌, ℕ, List, [], length, None, Result, Ok, Err, refl, sym, ap, ◌∙◌, subst}
use Rattle.std.specs.Result.{IfOk}
use Rattle.serde_json.specs.Data.{Data}
use Rattle.change_list.specs.History.{entries_of}
use Rattle.change_list.specs.declared.entries.Entry.{Entry}
use Rattle.change_list.specs.declared.list.TheConstants.{MAX_PLACE}
use Rattle.change_list.proofs.HistoryLaws.{length-entries_from}
use Rattle.served_maps.specs.Past.{Past, place_now}
use Rattle.jmap_arguments.specs.Ids.{mailbox_letter, thread_letter, email_letter}
use Rattle.email_bodies.specs.Asking.{BodyAsk}
use Rattle.email_get.specs.EmailGet.{RepliesEmailGet}
use Rattle.email_get.specs.EmailParse.{RepliesEmailParse}
use Rattle.mail_state.specs.History.{MailHistory}
use Rattle.gate_calls.specs.declared.method.Method.{Method}
use Rattle.gate_calls.specs.declared.method.Method.TheVariants.{CoreEcho, MailboxGet, MailboxChanges, MailboxQuery, MailboxQueryChanges, ThreadGet}
use Rattle.gate_calls.specs.declared.method.Method.TheVariants.{ThreadChanges, EmailGet, EmailChanges, EmailQuery, EmailQueryChanges, EmailParse, Set}
use Rattle.jmap_arguments.specs.declared.using.Using.{Using}
use Rattle.jmap_arguments.specs.declared.method_error.MethodError.{MethodError}
use Rattle.result_references.specs.Call.{CallData}
use Rattle.query_changes.specs.Replies.{RepliesEmailQueryChanges, RepliesMailboxQueryChanges}
use Rattle.query_core.specs.Answers.{RepliesEmailQuery, RepliesMailboxQuery}
use Rattle.read_methods.specs.Changes.{AnswersChanges, Further, no_further, updated_properties}
use Rattle.gate_calls.specs.Mailings.{Mailing, MailAndUploads}
use Rattle.gate_calls.specs.Places.{HasPlaces}
use Rattle.gate_calls.specs.Methods.{RepliesTo}
use Rattle.gate_calls.specs.Calls.{AnswersCall, NoMethod, Unresolved, Resolved}

-- what is proved of a /changes
abbrev pub ChangesLaw : Type 0
ChangesLaw = (letter epoch : ℕ) (h : List Entry) (further : Further) (d : Data) (r s : Result Data MethodError) → length h < 2 ^ 64
    → AnswersChanges letter epoch h further d r
    → AnswersChanges letter epoch h further d s
    → r ≡ s

-- ---- results

ok_is : (X : Type 0) (a b : X) → (let x : Result X MethodError = Ok a in x) ≡ Ok b → a ≡ b
ok_is X a b is = ap (λ (r : Result X MethodError). elim r as (λ r. X) [ Ok x ↦ x | Err e ↦ a ]) is

err_is : (X : Type 0) (e f : MethodError) → (let x : Result X MethodError = Err e in x) ≡ Err f → e ≡ f
err_is X e f is = ap (λ (r : Result X MethodError). elim r as (λ r. MethodError) [ Ok x ↦ e | Err g ↦ g ]) is

never_both : (X : Type 0) (e : MethodError) (a : X) → (let x : Result X MethodError = Err e in x) ≡ Ok a → ⊥
never_both X e a is = subst (λ (r : Result X MethodError). IfOk r (λ x. ⊥)) is tt

-- the touches of a place are fewer than 2^64
few : {V : Type 0} (p : Past V) → place_now p ≤ MAX_PLACE → length (entries_of p.touches) < 2 ^ 64
few p room =
    let small : length p.touches ≤ MAX_PLACE = room in
    let same : length (entries_of p.touches) ≡ length p.touches = length-entries_from (λ _. None) p.touches in
    omega (arith, small, same)

-- what is proved of calls that ask bodies
abbrev pub IsOneGet : Type 0
IsOneGet = (h : MailHistory) (d : Data) (asks more also later : List BodyAsk) (r s : Result Data MethodError) → RepliesEmailGet h d asks r → RepliesEmailGet h d also s
    → asks ++ more ≡ also ++ later → (asks ≡ also) × (r ≡ s)

abbrev pub IsOneParse : Type 0
IsOneParse = (h : MailHistory) (uploads : List (List ℕ)) (d : Data) (asks more also later : List BodyAsk) (r s : Result Data MethodError)
    → RepliesEmailParse h uploads d asks r → RepliesEmailParse h uploads d also s → asks ++ more ≡ also ++ later → (asks ≡ also) × (r ≡ s)

-- what is proved of queries
abbrev pub IsOneQuery : (MailHistory → Data → Result Data MethodError → Type 0) → Type 0
IsOneQuery Replies = (h : MailHistory) (d : Data) (r s : Result Data MethodError) → Replies h d r → Replies h d s → r ≡ s

-- and of their changes
abbrev pub IsOneQueryChanges : (MailHistory → List Entry) → (MailHistory → Data → Result Data MethodError → Type 0) → Type 0
IsOneQueryChanges entries Replies = (h : MailHistory) (d : Data) (r s : Result Data MethodError) → length (entries h) < 2 ^ 64 → Replies h d r → Replies h d s → r ≡ s

abbrev pub emails_entries : MailHistory → List Entry
emails_entries h = entries_of h.emails.touches

abbrev pub mailboxes_entries : MailHistory → List Entry
mailboxes_entries h = entries_of h.mailboxes.touches

-- what is asked first, and what it comes to
abbrev Same : List BodyAsk → List BodyAsk → Result Data MethodError → Result Data MethodError → Type 0
Same asks also r s = (asks ≡ also) × (r ≡ s)

module _ (law : ChangesLaw) (gets : IsOneGet) (parses : IsOneParse) (emails : IsOneQuery RepliesEmailQuery) (mailboxes : IsOneQuery RepliesMailboxQuery)
    (email_changes : IsOneQueryChanges emails_entries RepliesEmailQueryChanges)
    (mailbox_changes : IsOneQueryChanges mailboxes_entries RepliesMailboxQueryChanges) where
  -- ---- one call

  -- for which no body is asked
  at_once : {asks also : List BodyAsk} {r s : Result Data MethodError} → asks ≡ [] → also ≡ [] → r ≡ s → Same asks also r s
  at_once none too same = (none ∙ sym too, same)

  one_reply : (m : Method) (o : MailAndUploads) (d : Data) (asks more also later : List BodyAsk) (r s : Result Data MethodError) → HasPlaces o.mail → RepliesTo m o d asks r
      → RepliesTo m o d also s → asks ++ more ≡ also ++ later → Same asks also r s
  one_reply m o d asks more also later r s room a b same = by m o.mail room a b
    where
      by : (m : Method) (mail : Mailing) → HasPlaces mail → RepliesTo m (record { mail = mail; uploads = o.uploads }) d asks r
          → RepliesTo m (record { mail = mail; uploads = o.uploads }) d also s → Same asks also r s
      by CoreEcho mail room a b = at_once a.0 b.0 (a.1 ∙ sym b.1)
      by MailboxGet (Ok h) room a b = at_once a.0 b.0 (a.1 ∙ sym b.1)
      by MailboxGet (Err e) room a b = at_once a.0 b.0 (a.1 ∙ sym b.1)
      by MailboxChanges (Ok h) room a b =
          at_once a.0 b.0 (law mailbox_letter h.epoch (entries_of h.mailboxes.touches) updated_properties d r s (few h.mailboxes room.mailboxes) a.1 b.1)
      by MailboxChanges (Err e) room a b = at_once a.0 b.0 (a.1 ∙ sym b.1)
      by MailboxQuery (Ok h) room a b = at_once a.0 b.0 (mailboxes h d r s a.1 b.1)
      by MailboxQuery (Err e) room a b = at_once a.0 b.0 (a.1 ∙ sym b.1)
      by MailboxQueryChanges (Ok h) room a b = at_once a.0 b.0 (mailbox_changes h d r s (few h.mailboxes room.mailboxes) a.1 b.1)
      by MailboxQueryChanges (Err e) room a b = at_once a.0 b.0 (a.1 ∙ sym b.1)
      by ThreadGet (Ok h) room a b = at_once a.0 b.0 (a.1 ∙ sym b.1)
      by ThreadGet (Err e) room a b = at_once a.0 b.0 (a.1 ∙ sym b.1)
      by ThreadChanges (Ok h) room a b = at_once a.0 b.0 (law thread_letter h.epoch (entries_of h.threads.touches) no_further d r s (few h.threads room.threads) a.1 b.1)
      by ThreadChanges (Err e) room a b = at_once a.0 b.0 (a.1 ∙ sym b.1)
      by EmailGet (Ok h) room a b = gets h d asks more also later r s a b same
      by EmailGet (Err e) room a b = at_once a.0 b.0 (a.1 ∙ sym b.1)
      by EmailChanges (Ok h) room a b = at_once a.0 b.0 (law email_letter h.epoch (entries_of h.emails.touches) no_further d r s (few h.emails room.emails) a.1 b.1)
      by EmailChanges (Err e) room a b = at_once a.0 b.0 (a.1 ∙ sym b.1)
      by EmailQuery (Ok h) room a b = at_once a.0 b.0 (emails h d r s a.1 b.1)
      by EmailQuery (Err e) room a b = at_once a.0 b.0 (a.1 ∙ sym b.1)
      by EmailQueryChanges (Ok h) room a b = at_once a.0 b.0 (email_changes h d r s (few h.emails room.emails) a.1 b.1)
      by EmailQueryChanges (Err e) room a b = at_once a.0 b.0 (a.1 ∙ sym b.1)
      by EmailParse (Ok h) room a b = parses h o.uploads d asks more also later r s a b same
      by EmailParse (Err e) room a b = at_once a.0 b.0 (a.1 ∙ sym b.1)
      by (Set k) (Ok h) room a b = absurd a
      by (Set k) (Err e) room a b = at_once a.0 b.0 (a.1 ∙ sym b.1)

  -- of the same method over the same arguments
  one_resolved : (m n : Method) (o : MailAndUploads) (d c : Data) (asks more also later : List BodyAsk) (r s : Result Data MethodError) → HasPlaces o.mail → n ≡ m → c ≡ d
      → RepliesTo m o d asks r → RepliesTo n o c also s → asks ++ more ≡ also ++ later → Same asks also r s
  one_resolved m n o d c asks more also later r s room same_method same_data a b same =
      one_reply m o d asks more also later r s room a
      (subst (λ (k : Method). RepliesTo k o d also s) same_method (subst (λ (e : Data). RepliesTo n o e also s) same_data b)) same

  same_error : (X : Type 0) (e f : MethodError) → (let x : Result X MethodError = Err e in x) ≡ Err f → (let x : Result Data MethodError = Err e in x) ≡ Err f
  same_error X e f is = ap (λ (g : MethodError). let x : Result Data MethodError = Err g in x) (err_is X e f is)

  pub one_result : (uses : Using) (o : MailAndUploads) (earlier : List CallData) (call : CallData) (asks more also later : List BodyAsk) (r s : Result Data MethodError)
      → HasPlaces o.mail → AnswersCall uses o earlier call asks r → AnswersCall uses o earlier call also s → asks ++ more ≡ also ++ later → Same asks also r s
  one_result uses o earlier call _ more _ later _ _ room (NoMethod e is) (NoMethod f js) same = (refl, same_error Method e f (sym is ∙ js))
  one_result uses o earlier call _ more _ later _ _ room (NoMethod e is) (Unresolved n f js ss) same = absurd (never_both Method e n (sym is ∙ js))
  one_result uses o earlier call _ more _ later _ _ room (NoMethod e is) (Resolved n c js ss b) same = absurd (never_both Method e n (sym is ∙ js))
  one_result uses o earlier call _ more _ later _ _ room (Unresolved m e is rs) (NoMethod f js) same = absurd (never_both Method f m (sym js ∙ is))
  one_result uses o earlier call _ more _ later _ _ room (Unresolved m e is rs) (Unresolved n f js ss) same = (refl, same_error Data e f (sym rs ∙ ss))
  one_result uses o earlier call _ more _ later _ _ room (Unresolved m e is rs) (Resolved n c js ss b) same = absurd (never_both Data e c (sym rs ∙ ss))
  one_result uses o earlier call _ more _ later _ _ room (Resolved m d is rs a) (NoMethod f js) same = absurd (never_both Method f m (sym js ∙ is))
  one_result uses o earlier call _ more _ later _ _ room (Resolved m d is rs a) (Unresolved n f js ss) same = absurd (never_both Data f d (sym ss ∙ rs))
  one_result uses o earlier call asks more also later r s room (Resolved m d is rs a) (Resolved n c js ss b) same =
      one_resolved m n o d c asks more also later r s room (ok_is Method n m (sym js ∙ is)) (ok_is Data c d (sym ss ∙ rs)) a b same
