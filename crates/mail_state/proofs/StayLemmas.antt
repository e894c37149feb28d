-- Each message that responses leave stood at its place before, or its mark is new.
use Rattle.std.proofs.Common.{◌≡◌, ◌⊎◌, ℕ, ℤ, ◌+◌, ◌<◌, ◌≤◌, Bool, true, false, List, [], ◌∷◌, ◌++◌, Option, Some, None, refl, sym, ap, ◌∙◌, subst, arith, inl, inr}
use Rattle.std.proofs.Common.{eqb, eqb-true, ne_eqb, leb, not, if◌then◌else◌}
use Rattle.imap_types.specs.declared.command.Command.{Command}
use Rattle.imap_types.specs.declared.command.Command.TheVariants as command
use Rattle.imap_types.specs.declared.response.FetchItems.{FetchItems}
use Rattle.imap_types.specs.declared.response.Response.{Response}
use Rattle.imap_types.specs.declared.response.Response.TheVariants as response
use Rattle.told_folder.specs.Folders.{folder_number, uid_of, held_in}
use Rattle.told_folder.specs.Keyed.{AllAbove, Ascends, with_key, put_keyed}
use Rattle.told_folder.specs.Select.{last_told, validity_in, under}
use Rattle.told_folder.specs.Tell.{Telling, tell_uid, tell_fetch, tell_response, tell_responses, with_flags, with_new, new_message, kept_header, covers, without_those}
use Rattle.told_folder.specs.ToldBy.{adds, is_told, kept_after, selected_first, telling_in, telling_by, told_by}
use Rattle.told_folder.specs.declared.message.NumberedFolder.{NumberedFolder}
use Rattle.told_folder.specs.declared.message.Message.{Message}
use Rattle.told_folder.specs.declared.telling.TheConstants.{MAX_MARK}
use Rattle.told_folder.proofs.FolderLemmas.{ascend_in}
use Rattle.told_folder.proofs.KeyedLemmas.{some_is_not_none, some_same, found_put, ascends_put}
use Rattle.told_folder.proofs.PartLemmas.{found_key}
use Rattle.told_folder.proofs.VanishLemmas.{ascends_without, found_without}
use Rattle.told_mail.specs.Exchanges.{with_held, tell_held, tell_named, tell_ok, responses_of, target}
use Rattle.told_mail.specs.Lists as lists
use Rattle.told_mail.specs.Lists.{line_for, with_line, put_listed, listed, new_folder, new_names, with_new_folder, with_new_folders, tell_list}
use Rattle.told_mail.specs.Mail.{Mail, named, IsMail}
use Rattle.told_mail.specs.declared.mirror.listing.TheConstants.{MAX_FOLDER_NUMBER}
use Rattle.told_mail.proofs.NameLemmas.{found_above, named_held}
use Rattle.mail_state.specs.Telling.{IsSameMessage, StaysOrIsNew}

-- ---- messages

pub self_same : (x : Message) → IsSameMessage x x
self_same x = record { mark = refl; header = refl; date = refl; size = refl }

pub flags_same : (x : Message) (flags : Option (List (List ℕ))) → IsSameMessage x (with_flags x flags)
flags_same x None = self_same x
flags_same x (Some fs) = record { mark = refl; header = refl; date = refl; size = refl }

flags_uid : (x : Message) (flags : Option (List (List ℕ))) → (with_flags x flags).uid ≡ x.uid
flags_uid x None = refl
flags_uid x (Some fs) = refl

pub same_joins : (a b c : Message) → IsSameMessage a b → IsSameMessage b c → IsSameMessage a c
same_joins a b c s t = record { mark = t.mark ∙ s.mark; header = t.header ∙ s.header; date = t.date ∙ s.date; size = t.size ∙ s.size }

-- the message of the UID was one of these, or its mark is not below this one
pub record WasAmong (base : List Message) (u : ℕ) (x : Message) : Type 0 where
  pub was : Message
  pub there : with_key uid_of u base ≡ Some was
  pub same : IsSameMessage was x

abbrev pub Fate : List Message → ℕ → ℕ → Message → Type 0
Fate base mark u x = WasAmong base u x ⊎ (mark ≤ x.mark)

-- what telling keeps of the messages of one folder
pub record Keeps (base : List Message) (mark : ℕ) (t : Telling) : Type 0 where
  pub up : Ascends uid_of t.messages
  pub rises : mark ≤ t.next_mark
  pub each : (u : ℕ) (x : Message) → with_key uid_of u t.messages ≡ Some x → Fate base mark u x

module _ (base : List Message) (mark : ℕ) where
  pub keeps_put : (t : Telling) (y : Message) (next : ℕ) → t.next_mark ≤ next → Fate base mark y.uid y → Keeps base mark t
      → Keeps base mark (record { messages = put_keyed uid_of y t.messages; next_mark = next })
  keeps_put t y next least fate s = record {
    up = ascends_put uid_of y t.messages s.up;
    rises = (let r : mark ≤ t.next_mark = s.rises in omega (arith, r, least));
    each = λ u x e. elim (eqb y.uid u) as (λ b. eqb y.uid u ≡ b → (if b then Some y else with_key uid_of u t.messages) ≡ Some x → Fate base mark u x) [
      | true ↦ λ k f.
          let F : ℕ → Type 0 = λ v. Fate base mark v y in
          let G : Message → Type 0 = λ z. Fate base mark u z in
          subst G (some_same y x f) (subst F (eqb-true _ _ k) fate)
      | false ↦ λ k f. s.each u x f
    ] refl (sym (found_put uid_of u y t.messages s.up) ∙ e);
  }

  pub keeps_flags : (t : Telling) (uid : ℕ) (x : Message) (flags : Option (List (List ℕ))) → with_key uid_of uid t.messages ≡ Some x → Keeps base mark t
      → Keeps base mark (record { messages = put_keyed uid_of (with_flags x flags) t.messages; next_mark = t.next_mark })
  keeps_flags t uid x flags e s =
      let y : Message = with_flags x flags in
      let at : uid ≡ y.uid = sym (flags_uid x flags ∙ found_key uid t.messages x e) in
      let F : ℕ → Type 0 = λ v. Fate base mark v y in
      keeps_put t y t.next_mark (omega arith) (subst F at (elim (s.each uid x e) [
        | inl a ↦ inl (record { was = a.was; there = a.there; same = same_joins a.was x y a.same (flags_same x flags) })
        | inr l ↦ inr (let k : y.mark ≡ x.mark = (flags_same x flags).mark in omega (arith, l, k))
      ])) s

  keeps_new : (t : Telling) (uid : ℕ) (flags : Option (List (List ℕ))) (date : Option ℤ) (size : Option ℕ) (header : Option (List ℕ)) → Keeps base mark t
      → Keeps base mark (with_new t (new_message t.next_mark uid flags date size header))
  keeps_new t uid None date size header s = s
  keeps_new t uid (Some fs) None size header s = s
  keeps_new t uid (Some fs) (Some d) None header s = s
  keeps_new t uid (Some fs) (Some d) (Some z) None s = s
  keeps_new t uid (Some fs) (Some d) (Some z) (Some b) s =
      let x : Message = record { uid = uid; mark = t.next_mark; flags = fs; date = d; size = z; header = kept_header b } in
      elim (leb t.next_mark MAX_MARK) as (λ v. Keeps base mark (with_new t (if v then Some x else None))) [
        | true ↦ keeps_put t x (t.next_mark + 1) (omega arith) (inr s.rises) s
        | false ↦ s
      ]

  keeps_uid : (a : Bool) (t : Telling) (uid : ℕ) (items : FetchItems) (o : Option Message) → with_key uid_of uid t.messages ≡ o → Keeps base mark t
      → Keeps base mark (tell_uid a t uid items o)
  keeps_uid true t uid items (Some x) e s = keeps_flags t uid x items.flags e s
  keeps_uid false t uid items (Some x) e s = keeps_flags t uid x items.flags e s
  keeps_uid true t uid items None e s = keeps_new t uid items.flags items.date items.size items.header s
  keeps_uid false t uid items None e s = s

  keeps_fetch : (a : Bool) (t : Telling) (uid : Option ℕ) (items : FetchItems) → Keeps base mark t → Keeps base mark (tell_fetch a t uid items)
  keeps_fetch a t None items s = s
  keeps_fetch a t (Some uid) items s = keeps_uid a t uid items (with_key uid_of uid t.messages) refl s

  keeps_without : (t : Telling) (gone : ℕ → Bool) → Keeps base mark t → Keeps base mark (record { messages = without_those gone t.messages; next_mark = t.next_mark })
  keeps_without t gone s = record {
    up = ascends_without gone t.messages s.up;
    rises = s.rises;
    each = λ u x e. elim (gone u) as (λ b. (if b then None else with_key uid_of u t.messages) ≡ Some x → Fate base mark u x) [
      | true ↦ λ f. absurd (some_is_not_none x (sym f))
      | false ↦ λ f. s.each u x f
    ] (sym (found_without gone u t.messages) ∙ e);
  }

  keeps_response : (a : Bool) (t : Telling) (r : Response) → Keeps base mark t → Keeps base mark (tell_response a t r)
  keeps_response a t (response.Fetch seq items) s = keeps_fetch a t items.uid items s
  keeps_response a t (response.Vanished earlier uids) s = keeps_without t (covers uids.ranges) s
  keeps_response a t _ s = s

  keeps_responses : (a : Bool) (t : Telling) (rs : List Response) → Keeps base mark t → Keeps base mark (tell_responses a t rs)
  keeps_responses a t [] s = s
  keeps_responses a t (r ∷ rs) s = keeps_responses a (tell_response a t r) rs (keeps_response a t r s)

  keeps_after : (c : Command) (rs : List Response) (t : Telling) → Keeps base mark t → Keeps base mark (record { messages = kept_after c rs t.messages; next_mark = t.next_mark })
  keeps_after command.FetchFlags rs t s = keeps_without t (λ u. not (is_told rs u)) s
  keeps_after _ rs t s = s

-- ---- a folder that is told

-- before its responses the folder has its messages and its validity, or no messages
record IsBegun (h k : NumberedFolder) : Type 0 where
  pub number : folder_number k ≡ folder_number h
  pub up : Ascends uid_of h.messages → Ascends uid_of k.messages
  pub each : (u : ℕ) (x : Message) → with_key uid_of u k.messages ≡ Some x → (with_key uid_of u h.messages ≡ Some x) × (k.folder.validity ≡ h.folder.validity)

begun_under : (v : ℕ) (h : NumberedFolder) → IsBegun h (under v h)
begun_under v h =
    elim (eqb v h.folder.validity) as (λ b. IsBegun h (if b then h else record { folder = record h.folder { validity = v; next = 1 }; messages = [] })) [
      | true ↦ record { number = refl; up = λ a. a; each = λ u x e. (e, refl) }
      | false ↦ record { number = refl; up = λ a. tt; each = λ u x e. absurd (some_is_not_none x (sym e)) }
    ]

begun_is : (c : Command) (rs : List Response) (h : NumberedFolder) → IsBegun h (selected_first c rs h)
begun_is (command.Select name known) rs h =
    let f : IsBegun h (under (last_told validity_in h.folder.validity rs) h) = begun_under (last_told validity_in h.folder.validity rs) h in
    record { number = f.number; up = f.up; each = f.each }
begun_is _ rs h = record { number = refl; up = λ a. a; each = λ u x e. (e, refl) }

-- each message of the folder stood in it under its validity, or its mark is new
abbrev StoodIn : NumberedFolder → ℕ → NumberedFolder → Type 0
StoodIn h mark k = (u : ℕ) (x : Message) → with_key uid_of u k.messages ≡ Some x
    → (WasAmong h.messages u x × (k.folder.validity ≡ h.folder.validity)) ⊎ (mark ≤ x.mark)

told_folder_keeps : (c : Command) (rs : List Response) (mark : ℕ) (h : NumberedFolder) → Ascends uid_of h.messages
    → StoodIn h mark (told_by c rs mark h) × (mark ≤ (telling_by c rs mark h).next_mark)
told_folder_keeps c rs mark h up =
    let k : NumberedFolder = selected_first c rs h in
    let first : IsBegun h k = begun_is c rs h in
    let begin : Keeps k.messages mark (telling_in mark k) =
    record { up = first.up up; rises = omega arith; each = λ u x e. inl (record { was = x; there = e; same = self_same x }) } in
    let told : Keeps k.messages mark (telling_by c rs mark h) = keeps_responses k.messages mark (adds c) (telling_in mark k) rs begin in
    let after = keeps_after k.messages mark c rs (telling_by c rs mark h) told in (
      (λ u x e. elim (after.each u x e) [
        | inl a ↦ (let f = first.each u a.was a.there in inl (record { was = a.was; there = f.0; same = a.same }, f.1))
        | inr l ↦ inr l
      ]),
      told.rises,
    )

-- ---- mail of which a folder is told

-- the messages of the later mail stood, or have new marks, and the counter didn't fall
pub record TellsOn (m after : Mail) : Type 0 where
  pub stays : StaysOrIsNew m after
  pub rises : m.next_mark ≤ after.next_mark

pub as_it_was : (m : Mail) → TellsOn m m
as_it_was m = record {
  stays = λ place h x held there. inl (record { held = h; is_held = held; valid = refl; was = x; there = there; same = self_same x });
  rises = omega arith;
}

pub tells_join : (a b c : Mail) → TellsOn a b → TellsOn b c → TellsOn a c
tells_join a b c s t = record {
  stays = λ place h x held there. elim (t.stays place h x held there) [
    | inl stood ↦ elim (s.stays place stood.held stood.was stood.is_held stood.there) [
      | inl first ↦ inl (record {
        held = first.held;
        is_held = first.is_held;
        valid = stood.valid ∙ first.valid;
        was = first.was;
        there = first.there;
        same = same_joins first.was stood.was x first.same stood.same;
      })
      | inr new ↦ inr (let k : x.mark ≡ stood.was.mark = stood.same.mark in omega (arith, new, k))
    ]
    | inr new ↦ inr (let r : a.next_mark ≤ b.next_mark = s.rises in omega (arith, new, r))
  ];
  rises = (let r : a.next_mark ≤ b.next_mark = s.rises in let q : b.next_mark ≤ c.next_mark = t.rises in omega (arith, r, q));
}

-- a folder is the one that was put in place of the one of its number, or was there
with_found : (hs : List NumberedFolder) (k : NumberedFolder) (j : ℕ) (x : NumberedFolder) → held_in (with_held hs k) j ≡ Some x → ((folder_number k ≡ j) × (k ≡ x)) ⊎ (held_in hs j ≡ Some x)
with_found [] k j x e = absurd (some_is_not_none x (sym e))
with_found (h ∷ hs) k j x e =
    elim (eqb (folder_number h) (folder_number k)) as (λ b. eqb (folder_number h) (folder_number k) ≡ b → held_in (if b then k ∷ hs else h ∷ with_held hs k) j ≡ Some x
    → ((folder_number k ≡ j) × (k ≡ x)) ⊎ (held_in (h ∷ hs) j ≡ Some x)) [
      | true ↦ λ t f. elim (eqb (folder_number k) j) as (λ b. eqb (folder_number k) j ≡ b → (if b then Some k else held_in hs j) ≡ Some x
          → ((folder_number k ≡ j) × (k ≡ x)) ⊎ (held_in (h ∷ hs) j ≡ Some x)) [
            | true ↦ λ at g. inl (eqb-true _ _ at, some_same k x g)
            | false ↦ λ at g. inr (ap (λ n. if eqb n j then Some h else held_in hs j) (eqb-true _ _ t) ∙ ap (λ b. if b then Some h else held_in hs j) at ∙ g)
          ] refl f
      | false ↦ λ t f. elim (eqb (folder_number h) j) as (λ b. eqb (folder_number h) j ≡ b → (if b then Some h else held_in (with_held hs k) j) ≡ Some x
          → ((folder_number k ≡ j) × (k ≡ x)) ⊎ (held_in (h ∷ hs) j ≡ Some x)) [
            | true ↦ λ at g. inr (ap (λ b. if b then Some h else held_in hs j) at ∙ g)
            | false ↦ λ at g. elim (with_found hs k j x g) [ inl a ↦ inl a | inr was ↦ inr (ap (λ b. if b then Some h else held_in hs j) at ∙ was) ]
          ] refl f
    ] refl e

held_tells : (m : Mail) (c : Command) (rs : List Response) (name : List ℕ) (o : Option NumberedFolder) → named m.folders name ≡ o → IsMail m → TellsOn m (tell_held m c rs o)
held_tells m c rs name None e i = as_it_was m
held_tells m c rs name (Some h) e i =
    let hs : List NumberedFolder = m.folders in
    let found : held_in hs (folder_number h) ≡ Some h = named_held hs name h i.numbers e in
    let k : NumberedFolder = told_by c rs m.next_mark h in
    let number : folder_number k ≡ folder_number h = (begun_is c rs h).number in
    let told = told_folder_keeps c rs m.next_mark h (ascend_in hs (folder_number h) h i.uids (sym found)) in
    record {
      stays = λ place g x held there. elim (with_found hs k place.0 g held) [
        | inl a ↦
            let K : NumberedFolder → Type 0 = λ z. with_key uid_of place.1 z.messages ≡ Some x in
            elim (told.0 place.1 x (subst K (sym a.1) there)) [
              | inl stood ↦ inl (record {
                held = h;
                is_held = ap (held_in hs) (sym a.0 ∙ number) ∙ found;
                valid = ap (λ (z : NumberedFolder). z.folder.validity) (sym a.1) ∙ stood.1;
                was = stood.0.was;
                there = stood.0.there;
                same = stood.0.same;
              })
              | inr new ↦ inr new
            ]
        | inr was ↦ inl (record { held = g; is_held = was; valid = refl; was = x; there = there; same = self_same x })
      ];
      rises = told.1;
    }

named_tells : (m : Mail) (c : Command) (rs : List Response) (name : Option (List ℕ)) → IsMail m → TellsOn m (tell_named m c rs name)
named_tells m c rs None i = as_it_was m
named_tells m c rs (Some name) i = held_tells m c rs name (named m.folders name) refl i

-- ---- what a LIST tells

-- each folder was there, with its messages and its validity, or has no messages
abbrev pub FoldersStay : List NumberedFolder → List NumberedFolder → Type 0
FoldersStay hs ks = (n : ℕ) (k : NumberedFolder) (u : ℕ) (x : Message) → held_in ks n ≡ Some k → with_key uid_of u k.messages ≡ Some x
    → (h : NumberedFolder) × (held_in hs n ≡ Some h) × (with_key uid_of u h.messages ≡ Some x) × (k.folder.validity ≡ h.folder.validity)

above_with : (k : NumberedFolder) (n : ℕ) (hs : List NumberedFolder) → AllAbove folder_number n hs → AllAbove folder_number n (with_held hs k)
above_with k n [] a = tt
above_with k n (h ∷ hs) a =
    elim (eqb (folder_number h) (folder_number k)) as (λ b. eqb (folder_number h) (folder_number k) ≡ b → AllAbove folder_number n (if b then k ∷ hs else h ∷ with_held hs k)) [
      | true ↦ λ t. ((let e : folder_number h ≡ folder_number k = eqb-true _ _ t in let l : n < folder_number h = a.0 in omega (arith, e, l)), a.1)
      | false ↦ λ t. (a.0, above_with k n hs a.1)
    ] refl

ascends_with : (k : NumberedFolder) (hs : List NumberedFolder) → Ascends folder_number hs → Ascends folder_number (with_held hs k)
ascends_with k [] a = tt
ascends_with k (h ∷ hs) a =
    elim (eqb (folder_number h) (folder_number k)) as (λ b. eqb (folder_number h) (folder_number k) ≡ b → Ascends folder_number (if b then k ∷ hs else h ∷ with_held hs k)) [
      | true ↦ λ t. (subst (λ n. AllAbove folder_number n hs) (eqb-true _ _ t) a.0, a.1)
      | false ↦ λ t. (above_with k (folder_number h) hs a.0, ascends_with k hs a.1)
    ] refl

ascends_held : (m : Mail) (c : Command) (rs : List Response) (o : Option NumberedFolder) → Ascends folder_number m.folders → Ascends folder_number (tell_held m c rs o).folders
ascends_held m c rs None a = a
ascends_held m c rs (Some h) a = ascends_with (told_by c rs m.next_mark h) m.folders a

ascends_named : (m : Mail) (c : Command) (rs : List Response) (name : Option (List ℕ)) → Ascends folder_number m.folders → Ascends folder_number (tell_named m c rs name).folders
ascends_named m c rs None a = a
ascends_named m c rs (Some name) a = ascends_held m c rs (named m.folders name) a

stay_behind : (h : NumberedFolder) (hs : List NumberedFolder) (n : ℕ) (k : NumberedFolder) (u : ℕ) (x : Message) → AllAbove folder_number (folder_number h) hs
    → (w : NumberedFolder) × (held_in hs n ≡ Some w) × (with_key uid_of u w.messages ≡ Some x) × (k.folder.validity ≡ w.folder.validity)
    → (w : NumberedFolder) × (held_in (h ∷ hs) n ≡ Some w) × (with_key uid_of u w.messages ≡ Some x) × (k.folder.validity ≡ w.folder.validity)
stay_behind h hs n k u x above r =
    let less : folder_number h < n = found_above (folder_number h) n hs r.0 above r.1 in
    (r.0, ap (λ b. if b then Some h else held_in hs n) (ne_eqb _ _ (λ e. omega (arith, e, less))) ∙ r.1, r.2, r.3)

listed_stay : (rs : List Response) (hs : List NumberedFolder) → Ascends folder_number hs → FoldersStay hs (listed rs hs)
listed_stay rs [] up n k u x held there = absurd (some_is_not_none k (sym held))
listed_stay rs (h ∷ hs) up n k u x held there =
    elim (line_for h.folder.name rs) as (λ o. held_in (put_listed o h (listed rs hs)) n ≡ Some k
    → (w : NumberedFolder) × (held_in (h ∷ hs) n ≡ Some w) × (with_key uid_of u w.messages ≡ Some x) × (k.folder.validity ≡ w.folder.validity)) [
      | None ↦ λ f. stay_behind h hs n k u x up.0 (listed_stay rs hs up.1 n k u x f there)
      | Some l ↦ λ f. elim (eqb (folder_number h) n) as (λ b. eqb (folder_number h) n ≡ b → (if b then Some (with_line l h) else held_in (listed rs hs) n) ≡ Some k
          → (w : NumberedFolder) × (held_in (h ∷ hs) n ≡ Some w) × (with_key uid_of u w.messages ≡ Some x) × (k.folder.validity ≡ w.folder.validity)) [
            | true ↦ λ t g.
                let here : with_line l h ≡ k = some_same _ _ g in
                let K : NumberedFolder → Type 0 = λ z. with_key uid_of u z.messages ≡ Some x in
                (h, ap (λ b. if b then Some h else held_in hs n) t, subst K (sym here) there, ap (λ (z : NumberedFolder). z.folder.validity) (sym here))
            | false ↦ λ t g. stay_behind h hs n k u x up.0 (listed_stay rs hs up.1 n k u x g there)
          ] refl f
    ] held

stay_joins : (a b c : List NumberedFolder) → FoldersStay a b → FoldersStay b c → FoldersStay a c
stay_joins a b c s t n k u x held there =
    let r = t n k u x held there in
    let q = s n r.0 u x r.1 r.2 in
    (q.0, q.1, q.2, r.3 ∙ q.3)

added_stay : (hs : List NumberedFolder) (new : NumberedFolder) → new.messages ≡ [] → FoldersStay hs (hs ++ new ∷ [])
added_stay [] new none n k u x held there =
    elim (eqb (folder_number new) n) as (λ b. (if b then Some new else None) ≡ Some k
    → (w : NumberedFolder) × (held_in [] n ≡ Some w) × (with_key uid_of u w.messages ≡ Some x) × (k.folder.validity ≡ w.folder.validity)) [
      | true ↦ λ f.
          let K : NumberedFolder → Type 0 = λ z. with_key uid_of u z.messages ≡ Some x in
          absurd (some_is_not_none x (sym (sym (ap (with_key uid_of u) none) ∙ subst K (sym (some_same new k f)) there)))
      | false ↦ λ f. absurd (some_is_not_none k (sym f))
    ] held
added_stay (h ∷ hs) new none n k u x held there =
    elim (eqb (folder_number h) n) as (λ b. eqb (folder_number h) n ≡ b → (if b then Some h else held_in (hs ++ new ∷ []) n) ≡ Some k
    → (w : NumberedFolder) × (held_in (h ∷ hs) n ≡ Some w) × (with_key uid_of u w.messages ≡ Some x) × (k.folder.validity ≡ w.folder.validity)) [
      | true ↦ λ t f.
          let same : h ≡ k = some_same h k f in
          let K : NumberedFolder → Type 0 = λ z. with_key uid_of u z.messages ≡ Some x in
          (h, ap (λ b. if b then Some h else held_in hs n) t, subst K (sym same) there, ap (λ (z : NumberedFolder). z.folder.validity) (sym same))
      | false ↦ λ t f. (let r = added_stay hs new none n k u x f there in (r.0, ap (λ b. if b then Some h else held_in hs n) t ∙ r.1, r.2, r.3))
    ] refl held

self_stay : (hs : List NumberedFolder) → FoldersStay hs hs
self_stay hs n k u x held there = (k, held, there, refl)

-- mail with other folders, in which each stays
pub record ListsOn (m after : Mail) : Type 0 where
  pub folders : FoldersStay m.folders after.folders
  pub next_mark : after.next_mark ≡ m.next_mark

one_more : (m : Mail) (o : Option lists.Line) → ListsOn m (with_new_folder m o)
one_more m None = record { folders = self_stay m.folders; next_mark = refl }
one_more m (Some l) =
    elim (leb m.next_folder MAX_FOLDER_NUMBER) as (λ b. ListsOn m (if b then record {
      folders = m.folders ++ new_folder m.next_folder l ∷ [];
      next_mark = m.next_mark;
      next_folder = m.next_folder + 1;
    } else m)) [
      | true ↦ record { folders = added_stay m.folders (new_folder m.next_folder l) refl; next_mark = refl }
      | false ↦ record { folders = self_stay m.folders; next_mark = refl }
    ]

all_more : (rs : List Response) (m : Mail) (names : List (List ℕ)) → ListsOn m (with_new_folders rs m names)
all_more rs m [] = record { folders = self_stay m.folders; next_mark = refl }
all_more rs m (name ∷ names) =
    let one : ListsOn m (with_new_folder m (line_for name rs)) = one_more m (line_for name rs) in
    let rest : ListsOn (with_new_folder m (line_for name rs)) (with_new_folders rs (with_new_folder m (line_for name rs)) names) =
    all_more rs (with_new_folder m (line_for name rs)) names in
    record {
      folders =
          stay_joins m.folders (with_new_folder m (line_for name rs)).folders (with_new_folders rs (with_new_folder m (line_for name rs)) names).folders
          one.folders rest.folders;
      next_mark = rest.next_mark ∙ one.next_mark;
    }

pub lists_tell : (m after : Mail) → ListsOn m after → TellsOn m after
lists_tell m after l = record {
  stays = λ place k x held there.
      let r = l.folders place.0 k place.1 x held there in inl (record { held = r.0; is_held = r.1; valid = r.3; was = x; there = r.2; same = self_same x });
  rises = (let e : after.next_mark ≡ m.next_mark = l.next_mark in omega (arith, e));
}

list_tells : (m : Mail) (rs : List Response) → Ascends folder_number m.folders → TellsOn m (tell_list m rs)
list_tells m rs up =
    let left : Mail = record m { folders = listed rs m.folders } in
    let more : ListsOn left (tell_list m rs) = all_more rs left (new_names m.folders rs) in
    lists_tell m (tell_list m rs) (record {
      folders = stay_joins m.folders (listed rs m.folders) (tell_list m rs).folders (listed_stay rs m.folders up) more.folders;
      next_mark = more.next_mark;
    })

-- ---- the responses of a completed exchange

pub ok_tells : (m : Mail) (c : Command) (rs : List Response) (selected : Option (List ℕ)) → IsMail m → TellsOn m (tell_ok m c rs selected)
ok_tells m (command.List special_use) rs selected i =
    tells_join m (tell_named m (command.List special_use) rs selected) (tell_list (tell_named m (command.List special_use) rs selected) rs)
    (named_tells m (command.List special_use) rs selected i) (list_tells (tell_named m (command.List special_use) rs selected) rs (ascends_named m (command.List special_use) rs selected i.numbers))
ok_tells m c rs selected i = named_tells m c (responses_of c rs) (target c selected) i
