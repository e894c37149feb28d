-- What telling keeps of the messages of one folder, beside the other folders.
use Rattle.std.proofs.Common.{◌≡◌, ◌⊎◌, ℕ, ℤ, ◌+◌, ◌<◌, Bool, true, false, List, [], ◌∷◌, Option, Some, None, refl, sym, ap, ◌∙◌, arith, inl, inr}
use Rattle.std.proofs.Common.{eqb, leb, not, if◌then◌else◌}
use Rattle.imap_types.specs.declared.command.Command.{Command}
use Rattle.imap_types.specs.declared.command.Command.TheVariants as command
use Rattle.imap_types.specs.declared.response.FetchItems.{FetchItems}
use Rattle.imap_types.specs.declared.response.Response.{Response}
use Rattle.imap_types.specs.declared.response.Response.TheVariants as response
use Rattle.told_folder.specs.Folders.{folder_number, uid_of, held_in, mark_in, with_messages}
use Rattle.told_folder.specs.Keyed.{Ascends, with_key, put_keyed}
use Rattle.told_folder.specs.Select.{last_told, validity_in, under}
use Rattle.told_folder.specs.Tell.{Telling, tell_uid, tell_fetch, tell_response, tell_responses, with_flags, with_new, new_message, kept_header, covers, without_those}
use Rattle.told_folder.specs.ToldBy.{adds, is_told, kept_after, selected_first, telling_in, telling_by, told_by}
use Rattle.told_folder.specs.declared.message.NumberedFolder.{NumberedFolder}
use Rattle.told_folder.specs.declared.message.Message.{Message}
use Rattle.told_folder.specs.declared.telling.TheConstants.{MAX_MARK}
use Rattle.told_folder.proofs.IndexLemmas.{mark_was}
use Rattle.told_folder.proofs.KeyedLemmas.{some_is_not_none, ascends_put}
use Rattle.told_folder.proofs.OpenLemmas.{put_marks}
use Rattle.told_folder.proofs.PartLemmas.{found_key}
use Rattle.told_folder.proofs.VanishLemmas.{ascends_without}
use Rattle.told_mail.proofs.OnceLemmas.{IsOnce, once_less, once_more, mark_at, mark_put, mark_left, marks_from, marks_to, marks_off}
use Rattle.told_mail.proofs.ToldLemmas.{pair_same}

-- a folder's messages and the next mark, beside the other folders: UIDs ascend, a mark stands once, and each is below the next one
pub record IsTellingIn (hs : List NumberedFolder) (n : ℕ) (t : Telling) : Type 0 where
  pub up : Ascends uid_of t.messages
  pub once : IsOnce (mark_in (with_messages hs n t.messages))
  pub below : (p : ℕ × ℕ) (k : ℕ) → mark_in (with_messages hs n t.messages) p ≡ Some k → k < t.next_mark

flags_uid : (x : Message) (flags : Option (List (List ℕ))) → (with_flags x flags).uid ≡ x.uid
flags_uid x None = refl
flags_uid x (Some fs) = refl

flags_mark : (x : Message) (flags : Option (List (List ℕ))) → (with_flags x flags).mark ≡ x.mark
flags_mark x None = refl
flags_mark x (Some fs) = refl

-- the folder before the responses has its number, its name and no other messages
pub record IsFirst (h k : NumberedFolder) : Type 0 where
  pub number : folder_number k ≡ folder_number h
  pub name : k.folder.name ≡ h.folder.name
  pub up : Ascends uid_of h.messages → Ascends uid_of k.messages
  pub marks : (u v : ℕ) → mark_at k.messages u ≡ Some v → mark_at h.messages u ≡ Some v

first_under : (v : ℕ) (h : NumberedFolder) → IsFirst h (under v h)
first_under v h =
    elim (eqb v h.folder.validity) as (λ b. IsFirst h (if b then h else record { folder = record h.folder { validity = v; next = 1 }; messages = [] })) [
      | true ↦ record { number = refl; name = refl; up = λ a. a; marks = λ u k e. e }
      | false ↦ record { number = refl; name = refl; up = λ a. tt; marks = λ u k e. absurd (some_is_not_none k (sym e)) }
    ]

-- before its responses are told, the folder is such a one
pub first_is : (c : Command) (rs : List Response) (h : NumberedFolder) → IsFirst h (selected_first c rs h)
first_is (command.Select name known) rs h =
    let f : IsFirst h (under (last_told validity_in h.folder.validity rs) h) = first_under (last_told validity_in h.folder.validity rs) h in
    record { number = f.number; name = f.name; up = f.up; marks = f.marks }
first_is _ rs h = record { number = refl; name = refl; up = λ a. a; marks = λ u k e. e }

module _ (hs : List NumberedFolder) (n : ℕ) (h : NumberedFolder) (found : held_in hs n ≡ Some h) where
  marks_less : (xs ys : List Message) → ((u k : ℕ) → mark_at ys u ≡ Some k → mark_at xs u ≡ Some k) → (p : ℕ × ℕ) (k : ℕ) → mark_in (with_messages hs n ys) p ≡ Some k
      → mark_in (with_messages hs n xs) p ≡ Some k
  marks_less xs ys less p k e =
      elim (marks_from hs n ys p k e) [
        | inl a ↦ marks_to hs n xs h p k found a.0 (less p.1 k a.1)
        | inr b ↦ marks_off hs n xs p k b.0 b.1
      ]

  marks_more : (xs ys : List Message) (uid mark : ℕ) → ((u k : ℕ) → mark_at ys u ≡ Some k → (mark_at xs u ≡ Some k) ⊎ ((u ≡ uid) × (k ≡ mark))) → (p : ℕ × ℕ) (k : ℕ)
      → mark_in (with_messages hs n ys) p ≡ Some k → (mark_in (with_messages hs n xs) p ≡ Some k) ⊎ ((p ≡ (n, uid)) × (k ≡ mark))
  marks_more xs ys uid mark more p k e =
      elim (marks_from hs n ys p k e) [
        | inl a ↦ elim (more p.1 k a.1) [
          | inl was ↦ inl (marks_to hs n xs h p k found a.0 was)
          | inr new ↦ inr (pair_same (n, uid) p a.0 new.0, new.1)
        ]
        | inr b ↦ inl (marks_off hs n xs p k b.0 b.1)
      ]

  -- other messages, of which each mark was there
  told_less : (t : Telling) (ys : List Message) → Ascends uid_of ys → ((u k : ℕ) → mark_at ys u ≡ Some k → mark_at t.messages u ≡ Some k) → IsTellingIn hs n t
      → IsTellingIn hs n (record { messages = ys; next_mark = t.next_mark })
  told_less t ys up less s = record {
    up = up;
    once = once_less (mark_in (with_messages hs n t.messages)) (mark_in (with_messages hs n ys)) s.once (marks_less t.messages ys less);
    below = λ p k e. s.below p k (marks_less t.messages ys less p k e);
  }

  -- one message more, which takes the next mark
  told_more : (t : Telling) (x : Message) → x.mark ≡ t.next_mark → IsTellingIn hs n t
      → IsTellingIn hs n (record { messages = put_keyed uid_of x t.messages; next_mark = t.next_mark + 1 })
  told_more t x mark s =
      let ys : List Message = put_keyed uid_of x t.messages in
      let more : (p : ℕ × ℕ) (k : ℕ) → mark_in (with_messages hs n ys) p ≡ Some k → (mark_in (with_messages hs n t.messages) p ≡ Some k) ⊎ ((p ≡ (n, x.uid)) × (k ≡ x.mark)) =
      marks_more t.messages ys x.uid x.mark (λ u k e. mark_put x t.messages u k s.up e) in
      record {
        up = ascends_put uid_of x t.messages s.up;
        once = once_more (mark_in (with_messages hs n t.messages)) (mark_in (with_messages hs n ys)) (n, x.uid) x.mark s.once
            (λ p e. let less : x.mark < t.next_mark = s.below p x.mark e in omega (arith, less, mark)) more;
        below = λ p k e. elim (more p k e) [
          | inl was ↦ (let less : k < t.next_mark = s.below p k was in let next : k < t.next_mark + 1 = omega (arith, less) in next)
          | inr new ↦ (let same : k ≡ x.mark = new.1 in let next : k < t.next_mark + 1 = omega (arith, same, mark) in next)
        ];
      }

  told_flags : (t : Telling) (uid : ℕ) (x : Message) (flags : Option (List (List ℕ))) → with_key uid_of uid t.messages ≡ Some x → IsTellingIn hs n t
      → IsTellingIn hs n (record { messages = put_keyed uid_of (with_flags x flags) t.messages; next_mark = t.next_mark })
  told_flags t uid x flags e s =
      let y : Message = with_flags x flags in
      let at : y.uid ≡ uid = flags_uid x flags ∙ found_key uid t.messages x e in
      let held : Some x ≡ with_key uid_of y.uid t.messages = sym e ∙ ap (λ v. with_key uid_of v t.messages) (sym at) in
      told_less t (put_keyed uid_of y t.messages) (ascends_put uid_of y t.messages s.up) (λ u k f. sym (put_marks y x t.messages s.up held (flags_mark x flags) u) ∙ f) s

  told_new : (t : Telling) (uid : ℕ) (flags : Option (List (List ℕ))) (date : Option ℤ) (size : Option ℕ) (header : Option (List ℕ)) → IsTellingIn hs n t
      → IsTellingIn hs n (with_new t (new_message t.next_mark uid flags date size header))
  told_new t uid None date size header s = s
  told_new t uid (Some fs) None size header s = s
  told_new t uid (Some fs) (Some d) None header s = s
  told_new t uid (Some fs) (Some d) (Some z) None s = s
  told_new t uid (Some fs) (Some d) (Some z) (Some b) s =
      let x : Message = record { uid = uid; mark = t.next_mark; flags = fs; date = d; size = z; header = kept_header b } in
      elim (leb t.next_mark MAX_MARK) as (λ v. IsTellingIn hs n (with_new t (if v then Some x else None))) [
        | true ↦ told_more t x refl s
        | false ↦ s
      ]

  told_uid : (a : Bool) (t : Telling) (uid : ℕ) (items : FetchItems) (o : Option Message) → with_key uid_of uid t.messages ≡ o → IsTellingIn hs n t
      → IsTellingIn hs n (tell_uid a t uid items o)
  told_uid true t uid items (Some x) e s = told_flags t uid x items.flags e s
  told_uid false t uid items (Some x) e s = told_flags t uid x items.flags e s
  told_uid true t uid items None e s = told_new t uid items.flags items.date items.size items.header s
  told_uid false t uid items None e s = s

  told_fetch : (a : Bool) (t : Telling) (uid : Option ℕ) (items : FetchItems) → IsTellingIn hs n t → IsTellingIn hs n (tell_fetch a t uid items)
  told_fetch a t None items s = s
  told_fetch a t (Some uid) items s = told_uid a t uid items (with_key uid_of uid t.messages) refl s

  told_without : (t : Telling) (gone : ℕ → Bool) → IsTellingIn hs n t → IsTellingIn hs n (record { messages = without_those gone t.messages; next_mark = t.next_mark })
  told_without t gone s = told_less t (without_those gone t.messages) (ascends_without gone t.messages s.up) (mark_left gone t.messages) s

  told_response : (a : Bool) (t : Telling) (r : Response) → IsTellingIn hs n t → IsTellingIn hs n (tell_response a t r)
  told_response a t (response.Fetch seq items) s = told_fetch a t items.uid items s
  told_response a t (response.Vanished earlier uids) s = told_without t (covers uids.ranges) s
  told_response a t _ s = s

  told_responses : (a : Bool) (t : Telling) (rs : List Response) → IsTellingIn hs n t → IsTellingIn hs n (tell_responses a t rs)
  told_responses a t [] s = s
  told_responses a t (r ∷ rs) s = told_responses a (tell_response a t r) rs (told_response a t r s)

  told_kept : (c : Command) (rs : List Response) (t : Telling) → IsTellingIn hs n t → IsTellingIn hs n (record { messages = kept_after c rs t.messages; next_mark = t.next_mark })
  told_kept command.FetchFlags rs t s = told_without t (λ u. not (is_told rs u)) s
  told_kept _ rs t s = s

  told_first : (nm : ℕ) (k : NumberedFolder) → IsFirst h k → Ascends uid_of h.messages → IsOnce (mark_in hs) → ((p : ℕ × ℕ) (v : ℕ) → mark_in hs p ≡ Some v → v < nm)
      → IsTellingIn hs n (telling_in nm k)
  told_first nm k first up once below =
      let was : (p : ℕ × ℕ) (v : ℕ) → mark_in (with_messages hs n k.messages) p ≡ Some v → mark_in hs p ≡ Some v =
      λ p v e. elim (marks_from hs n k.messages p v e) [
        | inl a ↦ ap (λ m. mark_in hs (m, p.1)) a.0 ∙ mark_was hs n p.1 h found ∙ first.marks p.1 v a.1
        | inr b ↦ b.1
      ] in
      record {
        up = first.up up;
        once = once_less (mark_in hs) (mark_in (with_messages hs n k.messages)) once was;
        below = λ p v e. below p v (was p v e);
      }

  -- once a command's responses are told, the folder's messages are such ones
  pub told_messages : (c : Command) (rs : List Response) (nm : ℕ) → Ascends uid_of h.messages → IsOnce (mark_in hs) → ((p : ℕ × ℕ) (v : ℕ) → mark_in hs p ≡ Some v → v < nm)
      → IsTellingIn hs n (record { messages = (told_by c rs nm h).messages; next_mark = (telling_by c rs nm h).next_mark })
  told_messages c rs nm up once below =
      let k : NumberedFolder = selected_first c rs h in
      let first : IsTellingIn hs n (telling_in nm k) = told_first nm k (first_is c rs h) up once below in
      told_kept c rs (telling_by c rs nm h) (told_responses (adds c) (telling_in nm k) rs first)
